-- A block of places: so many columns and rows of one depth from the first on, each place once.
-- Assumes nothing.
use Prim.Native.Nat.{ℕ, zero, suc, ◌*◌, ◌<◌}
use native.Mathlib.Omega.{arith}
use native.Mathlib.Decide.{ℕ_discrete}
use mathlib.Core.Path.{◌≡◌, refl, ap, ◌∙◌}
use mathlib.Core.Logic.{◌⊎◌, inl, inr}
use mathlib.Core.List.{List, [], ◌∷◌, ◌++◌}
use lib.ListN.{length, length-append}
use Rattle.mesh.specs.Place.{Place, at, In, Distinct}
use Rattle.place_laws.proofs.Places.{place-path, in-cases, in-here, in-there}
use Rattle.place_laws.proofs.Distinct.{in-append, append_left, append_right, distinct_append, same_length}

module _ (e : ℕ) where
  -- the first rows of a column
  abbrev line : ℕ → ℕ → List Place
  line i zero = []
  line i (suc b) = at e i b ∷ line i b

  line-in : (i b : ℕ) (q : Place) → In q (line i b) → (q.depth ≡ e) × (q.i ≡ i) × (q.j < b)
  line-in i zero q t = absurd t
  line-in i (suc b) q t = go (in-cases q (at e i b) (line i b) t) (line-in i b q)
    where
      go : (q ≡ at e i b) ⊎ In q (line i b) → (In q (line i b) → (q.depth ≡ e) × (q.i ≡ i) × (q.j < b)) → (q.depth ≡ e) × (q.i ≡ i) × (q.j < suc b)
      go (inl h) r = (ap (λ (p : Place). p.depth) h, ap (λ (p : Place). p.i) h, omega (arith, ap (λ (p : Place). p.j) h))
      go (inr u) r = let (x, y, z) = r u in (x, y, omega arith)

  in-line : (i b : ℕ) (q : Place) → q.depth ≡ e → q.i ≡ i → q.j < b → In q (line i b)
  in-line i zero q x y z = absurd (omega arith)
  in-line i (suc b) q x y z = go (ℕ_discrete q.j b) (in-line i b q x y)
    where
      go : Dec (q.j ≡ b) → (q.j < b → In q (line i b)) → In q (line i (suc b))
      go (yes h) r = in-here q (at e i b) (line i b) (place-path q (at e i b) x y h)
      go (no h) r = in-there q (at e i b) (line i b) (r (omega (arith, h)))

  line-distinct : (i b : ℕ) → Distinct (line i b)
  line-distinct i zero = tt
  line-distinct i (suc b) = (λ t. omega (arith, (line-in i b (at e i b) t).2), line-distinct i b)

  line-length : (i b : ℕ) → length (line i b) ≡ b
  line-length i zero = refl
  line-length i (suc b) = ap suc (line-length i b)

  -- the first columns of so many rows
  abbrev block : ℕ → ℕ → List Place
  block zero b = []
  block (suc a) b = line a b ++ block a b

  block_in : (a b : ℕ) (q : Place) → In q (block a b) → (q.depth ≡ e) × (q.i < a) × (q.j < b)
  block_in zero b q t = absurd t
  block_in (suc a) b q t = go (in-append q (line a b) (block a b) t) (block_in a b q)
    where
      go : In q (line a b) ⊎ In q (block a b) → (In q (block a b) → (q.depth ≡ e) × (q.i < a) × (q.j < b)) → (q.depth ≡ e) × (q.i < suc a) × (q.j < b)
      go (inl u) r = let (x, y, z) = line-in a b q u in (x, omega arith, z)
      go (inr u) r = let (x, y, z) = r u in (x, omega arith, z)

  in_block : (a b : ℕ) (q : Place) → q.depth ≡ e → q.i < a → q.j < b → In q (block a b)
  in_block zero b q x y z = absurd (omega arith)
  in_block (suc a) b q x y z = go (ℕ_discrete q.i a) (in_block a b q x)
    where
      go : Dec (q.i ≡ a) → (q.i < a → q.j < b → In q (block a b)) → In q (block (suc a) b)
      go (yes h) r = append_left q (line a b) (block a b) (in-line a b q x h z)
      go (no h) r = append_right q (line a b) (block a b) (r (omega (arith, h)) z)

  block-distinct : (a b : ℕ) → Distinct (block a b)
  block-distinct zero b = tt
  block-distinct (suc a) b =
      distinct_append (line a b) (block a b) (line-distinct a b) (block-distinct a b) (λ q i j. omega (arith, (line-in a b q i).1, (block_in a b q j).1))

  block-length : (a b : ℕ) → length (block a b) ≡ a * b
  block-length zero b = omega arith
  block-length (suc a) b = length-append (line a b) (block a b) ∙ omega (arith, line-length a b, block-length a b)

  -- a list that holds exactly such a block, each place once, has so many
  pub block_size : (a b : ℕ) (ps : List Place) → Distinct ps → ((q : Place) → In q ps → (q.depth ≡ e) × (q.i < a) × (q.j < b))
      → ((q : Place) → q.depth ≡ e → q.i < a → q.j < b → In q ps) → length ps ≡ a * b
  block_size a b ps d inside all =
      same_length ps (block a b) d (block-distinct a b) (λ q i. let (x, y, z) = inside q i in in_block a b q x y z) (λ q i. let (x, y, z) = block_in a b q i in all q x y z)
      ∙ block-length a b

-- The walk down from the root finds a level-0 cell other than n exactly if there is one: each level-0 cell is reached from the root by kids.
-- Assumes nothing.
use Prim.Native.Nat.{ℕ, zero, suc, ◌+◌, ◌<◌}
use native.Mathlib.Omega.{arith}
use mathlib.Core.Path.{◌≡◌, refl, sym, ap, ◌∙◌}
use mathlib.Core.Logic.{◌≢◌}
use mathlib.Core.Bool.{Bool, true, false, not, ◌&&◌, ◌||◌}
use mathlib.Core.Option.{some, some-injective}
use mathlib.Core.List.{List, [], ◌∷◌}
use lib.Dec.{T, T_not, eqb, lit≤}
use lib.IntN.{ℤ}
use borrow.Author.Tests.{eq-eqb, ne_eqb}
use Rattle.mesh.specs.Tools.{any}
use Rattle.mesh.specs.Place.{Place, Grid, same, root, base, kid, kids}
use Rattle.mesh.specs.Mesh.{patch}
use Rattle.mesh.specs.State.{State, Entry, place_of, entry, cells, number, place_at, grid_of, capacity, contents}
use Rattle.mesh.specs.Valid.{Valid}
use Rattle.mesh.specs.Picture.{table}
use Rattle.mesh.specs.Deed.{held, any_ground}
use Rattle.table.specs.Words.{link_of, flag_of}
use Rattle.place_laws.proofs.Bools.{bool-ext, is-yes, is-no, and_both, and_left, and_right}
use Rattle.place_laws.proofs.SideDigits.{kid_by}
use Rattle.place_laws.proofs.Kids.{up, up_depth, parent_up, parent-depth, any-kid, kid-any}
use Rattle.place_laws.proofs.Tree.{cell-patch, patch-up}
use Rattle.place_laws.proofs.Base.{depth-zero-root}
use Rattle.place_laws.proofs.Ground.{other-ground, ground-other}
use Rattle.number_laws.proofs.NumberedPlaces.{valid-numbered, number-place, place-number, numbered-not-zero}
use Rattle.number_laws.proofs.ByPlace.{cells-held}
use Rattle.number_laws.proofs.Naming.{Named}
use Rattle.table_laws.proofs.LinkedRows.{patch-numbered, link-kid-of}
use Rattle.table_laws.proofs.FlaggedRows.{cell-of}
use Rattle.asks.specs.Asks.{other_under}

-- one of four, in another order
ordered : (x y z u : Bool) → (z || (y || (u || (x || false)))) ≡ (x || (y || (z || (u || false))))
ordered true y true u = refl
ordered true true false u = refl
ordered true false false true = refl
ordered true false false false = refl
ordered false true true u = refl
ordered false true false u = refl
ordered false false true u = refl
ordered false false false true = refl
ordered false false false false = refl

module _ (s : State) (v : Valid s) where
  abbrev g : Grid
  g = grid_of s

  abbrev es : List Entry
  es = s.entries

  abbrev c : Place → Bool
  c = cells s.entries

  abbrev t : List ℤ
  t = table s

  -- a test of one of the kid words is one of a kid's number
  kid-words : (f : ℕ → Bool) (n : ℕ) (p : Place) → place_of (entry es n) ≡ some p
      → any (λ w. f (link_of t (capacity s) n w)) (3 ∷ 2 ∷ 4 ∷ 1 ∷ []) ≡ any (λ q. f (number es q)) (kids p)
  unfolding kids kid kid_by
  kid-words f n p h =
      rw (
        link-kid-of s v n p h 0 0 (lit≤ tt) (lit≤ tt),
        link-kid-of s v n p h 1 0 (lit≤ tt) (lit≤ tt),
        link-kid-of s v n p h 0 1 (lit≤ tt) (lit≤ tt),
        link-kid-of s v n p h 1 1 (lit≤ tt) (lit≤ tt),
      )
      (ordered (f (number es (kid_by 1 1 p))) (f (number es (kid_by 1 0 p))) (f (number es (kid_by 0 0 p))) (f (number es (kid_by 0 1 p))))

  module _ (n : ℕ) where
    abbrev Other : Type 0
    Other = (k : ℕ) × (q : Place) × (place_of (entry es k) ≡ some q) × (q.depth ≡ base g) × T (c q) × (k ≢ n)

    -- nothing is under the nil patch
    none-under : (l : ℕ) → other_under t (capacity s) n l 0 ≡ false
    unfolding other_under
    none-under zero = refl
    none-under (suc l) = refl

    -- ---- what the walk finds

    found : (l m : ℕ) (p : Place) → place_of (entry es m) ≡ some p → p.depth + l ≡ base g → T (other_under t (capacity s) n l m) → Other
    unfolding other_under
    found zero m p h e u =
        let w = and_right (not (eqb m 0)) (flag_of t 0 m && not (eqb m n)) u in
        let a : T (c p) = rw (cell-of s v m p h) at (and_left (flag_of t 0 m) (not (eqb m n)) w) in
        (m, p, h, omega arith, a, λ z. T_not (eqb m n) (and_right (flag_of t 0 m) (not (eqb m n)) w) (is-yes (eqb m n) (eq-eqb m n z)))
    found (suc l) m p h e u =
        let w : T (any (λ q. other_under t (capacity s) n l (number es q)) (kids p)) =
        rw (kid-words (other_under t (capacity s) n l) m p h) at (and_right (not (eqb m 0)) (any (λ w. other_under t (capacity s) n l (link_of t (capacity s) m w)) (3 ∷ 2 ∷ 4 ∷ 1 ∷ [])) u) in
        let (q, f, x) = any-kid (λ q. other_under t (capacity s) n l (number es q)) p w in
        let y : number es q ≢ 0 = λ z. (let o : T false = rw (z, none-under l) at x in o) in
        found l (number es q) q (number-place es q y) (omega (arith, parent-depth q p f)) x

    -- ---- what there is, it finds

    -- a patch's number is not 0
    numbered : (p : Place) → T (patch g c p) → T (not (eqb (number es p) 0))
    numbered p u = is-no (eqb (number es p) 0) (ne_eqb _ _ (numbered-not-zero es (valid-numbered v) p (v.every p u)))

    higher : (l : ℕ) (q : Place) → T (patch g c q) → T (any (λ r. other_under t (capacity s) n l (number es r)) (kids q)) → T (other_under t (capacity s) n (suc l) (number es q))
    unfolding other_under
    higher l q b x =
        and_both (not (eqb (number es q) 0)) (any (λ w. other_under t (capacity s) n l (link_of t (capacity s) (number es q) w)) (3 ∷ 2 ∷ 4 ∷ 1 ∷ []))
        (numbered q b)
        (rw (kid-words (other_under t (capacity s) n l) (number es q) q (patch-numbered s v q b)) x)

    climb : (e l : ℕ) (p : Place) → p.depth ≡ e → T (patch g c p) → T (other_under t (capacity s) n l (number es p)) → T (other_under t (capacity s) n (l + e) 1)
    climb zero l p d a u =
        let z : number es p ≡ 1 = ap (number es) (depth-zero-root g c v.mesh v.rectangle p d a) ∙ place-number es (valid-numbered v) 1 root v.first-root in
        let y : l + 0 ≡ l = omega arith in
        rw y (rw z at u)
    climb (suc e) l p d a u =
        let h : 0 < p.depth = omega arith in
        let b : T (patch g c (up p)) = patch-up g c v.mesh p h a in
        let y : l + suc e ≡ suc l + e = omega arith in
        rw y (climb e (suc l) (up p) (omega (arith, up_depth p h)) b (higher l (up p) b (kid-any (λ q. other_under t (capacity s) n l (number es q)) (up p) p (parent_up p h) u)))

    reached : (q : Place) → T (c q) → q.depth ≡ base g → number es q ≢ n → T (other_under t (capacity s) n (base g) 1)
    unfolding other_under
    reached q a d other =
        let k = number es q in
        let there : T (patch g c q) = cell-patch g c v.mesh q a in
        let y : 0 + base g ≡ base g = omega arith in
        let x : T (other_under t (capacity s) n 0 k) =
        and_both (not (eqb k 0)) (flag_of t 0 k && not (eqb k n)) (numbered q there)
        (and_both (flag_of t 0 k) (not (eqb k n)) (rw (cell-of s v k q (patch-numbered s v q there)) a) (is-no (eqb k n) (ne_eqb k n other))) in
        rw y at (climb (base g) 0 q d there x)

    -- ---- another than n, where n is one

    module _ (d : Named s n) where
      apart : (k : ℕ) (q : Place) → place_of (entry es k) ≡ some q → k ≢ n → q ≡ place_at es n → ⊥
      apart k q h other z = other (v.once k n (place_at es n) (h ∙ ap some z) (ap place_of d.is-entry))

      pub other_row : other_under t (capacity s) n (base g) 1 ≡ any_ground g (λ q. held (contents es) q && not (same q (place_at es n)))
      other_row =
          bool-ext (other_under t (capacity s) n (base g) 1) (any_ground g (λ q. held (contents es) q && not (same q (place_at es n))))
          (λ u.
          let (k, q, h, e, a, other) = found (base g) 1 root v.first-root (omega arith) u in
          ground-other g (held (contents es)) (place_at es n) q e (v.mesh.inside q a e) (rw (cells-held es (valid-numbered v)) at a) (apart k q h other))
          (λ u.
          let (q, e, a, other) = other-ground g (held (contents es)) (place_at es n) u in
          let b : T (c q) = rw (cells-held es (valid-numbered v)) a in
          reached q b e (λ z. other (some-injective _ _ (sym (number-place es q (numbered-not-zero es (valid-numbered v) q (v.every q (cell-patch g c v.mesh q b)))) ∙ ap (λ (k : ℕ). place_of (entry es k)) z ∙ ap place_of d.is-entry))))

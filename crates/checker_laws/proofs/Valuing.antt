-- The cells' sentences and values are by the rules: what a row says of its value is what the decoded cell carries, a row without a cell is blank,
-- and the value above a cell is the one of its parent's row.
-- Assumes nothing.
use Prim.Native.Nat.{ℕ, zero, suc, ◌≤◌, ◌<◌}
use native.Mathlib.Omega.{arith}
use native.Mathlib.Decide.{ℕ_discrete, dec_lt}
use mathlib.Core.Path.{◌≡◌, refl, sym, ap, ◌∙◌}
use mathlib.Core.Logic.{◌≢◌, inl, inr}
use mathlib.Core.Bool.{Bool, true, false, not, cond}
use mathlib.Core.Option.{none, some, none-ne-some, some-injective}
use mathlib.Core.List.{List}
use lib.Dec.{T}
use lib.IntN.{ℤ}
use lib.Ieee.{Float}
use Rattle.mesh.specs.Place.{Place, Grid, base}
use Rattle.mesh.specs.Mesh.{leaf, complete_bit, sentenced_bit}
use Rattle.mesh.specs.State.{State, Entry, used, Cell, plus_zero, status, amount, is_blank, place_of, cell_of, is_sentenced, value_of, entry, cells}
use Rattle.mesh.specs.Valid.{ValueRule, above_of}
use Rattle.mesh.specs.Decode.{value_from}
use Rattle.mesh.specs.Picture.{parent_word}
use Rattle.table.specs.Words.{link_of, flag_of, depth_of}
use Rattle.carried.specs.Carried.{carried_of, status_of, value_carried}
use Rattle.checker_laws.specs.Rowwise.{carried_above}
use Rattle.place_laws.proofs.Bools.{no-is}
use Rattle.place_laws.proofs.Kids.{is_leaf}
use Rattle.place_laws.proofs.Base.{base-range}
use Rattle.checker_laws.proofs.Facts.{Used, said_place}
use Rattle.checker_laws.proofs.Climbing.{said-depth, not_root, child-depth}
use Rattle.checker_laws.proofs.Patches.{Sentence, HeldAs, Held, Blank, point-facts, value-facts}
use Rattle.checker_laws.proofs.Reading.{cell_from, Reads, ghost-flag, status-small}
use Rattle.checker_laws.proofs.Linking.{parent-link, said-cell}
use Rattle.checker_laws.proofs.Meshing.{cell-low, kidless}

-- ---- a status and a value

pub status-from : (k : ℕ) (x : Float) → k ≤ 2 → status (value_from k x) ≡ k
status-from zero x h = refl
status-from (suc zero) x h = refl
status-from (suc (suc zero)) x h = refl
status-from (suc (suc (suc k))) x h = absurd (omega arith)

pub amount-from : (k : ℕ) (x : Float) → (k ≡ 0 → x ≡ plus_zero) → amount (value_from k x) ≡ x
amount-from zero x h = sym (h refl)
amount-from (suc zero) x h = refl
amount-from (suc (suc k)) x h = refl

not-blank : (k : ℕ) (x : Float) → k ≢ 0 → T (not (is_blank (value_from k x))) × (amount (value_from k x) ≡ x)
not-blank zero x h = absurd (h refl)
not-blank (suc zero) x h = (tt, refl)
not-blank (suc (suc k)) x h = (tt, refl)

module _ {g : Grid} {cap : ℕ} {t : List ℤ} {v : List Float} {es : List Entry} (o : Reads g cap t v es) where
  -- ---- what a row says of its cell

  blank-row : (n : ℕ) → Used cap t n → status_of (carried_of t v n) ≡ 0 → Blank cap t v n
  blank-row n u = (value-facts cap t v n (o.tested.row n u).value).0

  held-row : (n : ℕ) → Used cap t n → status_of (carried_of t v n) ≢ 0 → Held cap t v n
  held-row n u = (value-facts cap t v n (o.tested.row n u).value).1

  pub value_row : (n : ℕ) → Used cap t n → value_of (entry es n) ≡ value_carried (carried_of t v n)
  value_row n u = ap value_of (o.entry-used n u) ∙ go (flag_of t complete_bit n) refl (ℕ_discrete (status_of (carried_of t v n)) 0)
    where
      go : (b : Bool) → flag_of t complete_bit n ≡ b → Dec (status_of (carried_of t v n) ≡ 0) → value_of (used (said_place g t n) (cond b (some (cell_from t v n)) none)) ≡ value_carried (carried_of t v n)
      go true e d = refl
      go false e (yes z) = rw z
      go false e (no z) = absurd (let y : T false = rw e at (held-row n u z).cell in y)

  pub status-row : (n : ℕ) → Used cap t n → status (value_of (entry es n)) ≡ status_of (carried_of t v n)
  status-row n u = ap status (value_row n u) ∙ status-from (status_of (carried_of t v n)) (carried_of t v n).value (status-small o.tested n u)

  pub amount-row : (n : ℕ) → Used cap t n → amount (value_of (entry es n)) ≡ (carried_of t v n).value
  amount-row n u = ap amount (value_row n u) ∙ amount-from (status_of (carried_of t v n)) (carried_of t v n).value (λ z. (blank-row n u z).zero-value)

  -- a sentenced row stands above level 0 and is a cell
  sentenced-point : (n : ℕ) → Used cap t n → T (flag_of t sentenced_bit n) → Sentence g cap t n × (base g < depth_of t (base g) n)
  sentenced-point n u h = go (dec_lt (depth_of t (base g) n) (base g))
    where
      go : Dec (depth_of t (base g) n < base g) → Sentence g cap t n × (base g < depth_of t (base g) n)
      go (yes l) = absurd (let z : T false = rw (ghost-flag o.tested n u l sentenced_bit) at h in z)
      go (no l) =
          let s = (point-facts g cap t n ((o.tested.row n u).point (omega (arith, l)))).sentence h in
          (s, omega (arith, l, s.high))

  pub sentence-row : (n : ℕ) → Used cap t n → is_sentenced (entry es n) ≡ flag_of t sentenced_bit n
  sentence-row n u = ap is_sentenced (o.entry-used n u) ∙ go (flag_of t complete_bit n) refl
    where
      go : (b : Bool) → flag_of t complete_bit n ≡ b → is_sentenced (used (said_place g t n) (cond b (some (cell_from t v n)) none)) ≡ flag_of t sentenced_bit n
      go true e = refl
      go false e = sym (no-is (flag_of t sentenced_bit n) (λ h. let z : T false = rw e at (sentenced-point n u h).0.cell in z))

  -- a cell's entry
  cell-entry : (n : ℕ) (p : Place) (x : Cell) → entry es n ≡ used p (some x) → Used cap t n × (said_place g t n ≡ p) × T (flag_of t complete_bit n) × (x ≡ cell_from t v n)
  cell-entry n p x e =
      let (u, s) = o.used-at n p (ap place_of e) in
      let f : cond (flag_of t complete_bit n) (some (cell_from t v n)) none ≡ some x = ap cell_of (sym (o.entry-used n u) ∙ e) in
      let (c, i) = go (flag_of t complete_bit n) f in
      (u, s, c, i)
    where
      go : (b : Bool) → cond b (some (cell_from t v n)) none ≡ some x → T b × (x ≡ cell_from t v n)
      go true f = (tt, sym (some-injective _ _ f))
      go false f = absurd (none-ne-some _ f)

  -- "Sentenced may stand only on leaves above level 0"
  pub sentence-rule : (n : ℕ) (p : Place) (x : Cell) → entry es n ≡ used p (some x) → T x.sentenced → (base g < p.depth) × T (leaf g (cells es) p)
  sentence-rule n p x e h =
      let (u, s, c, i) = cell-entry n p x e in
      let f : T (flag_of t sentenced_bit n) = rw i at h in
      let (r, l) = sentenced-point n u f in
      rw (← s) (rw (said-depth g t n) l, is_leaf g (cells es) (said_place g t n) (rw (said-cell o n u) c) (kidless o n u r.kidless))

  -- the parent's row of a cell
  above-row : (n : ℕ) → Used cap t n → T (flag_of t complete_bit n) → Used cap t (link_of t cap n parent_word) × ((said_place g t n).depth ≡ suc (said_place g t (link_of t cap n parent_word)).depth)
  above-row n u c =
      let z : n ≢ 1 = not_root o.tested n (omega (arith, cell-low o n u c, said-depth g t n, base-range g o.in-range)) in
      (((o.tested.row n u).child z).above, child-depth o.tested n u z)

-- ---- the rule of values

module _ (s : State) {cap : ℕ} {t : List ℤ} {v : List Float} (o : Reads s.header.grid cap t v s.entries) where
  abbrev g : Grid
  g = s.header.grid

  above-value : (n : ℕ) → Used cap t n → T (flag_of t complete_bit n) → above_of s (said_place g t n) ≡ value_carried (carried_above t cap v n)
  above-value n u c = ap (λ (k : ℕ). value_of (entry s.entries k)) (parent-link o n u) ∙ value_row o (link_of t cap n parent_word) (above-row o n u c).0

  held-rule : (n : ℕ) → Used cap t n → T (flag_of t complete_bit n) → Held cap t v n → ValueRule s (said_place g t n) (value_carried (carried_of t v n))
  held-rule n u c f = go f.status
    where
      go : HeldAs (carried_of t v n) (carried_above t cap v n) → ValueRule s (said_place g t n) (value_carried (carried_of t v n))
      go (inl e) = rw e f.is_finite
      go (inr (e, z, a)) =
          let (k, d) = above-row o n u c in
          let (x, y) = not-blank (status_of (carried_above t cap v n)) (carried_above t cap v n).value z in
          let l = cell-low o (link_of t cap n parent_word) k (held-row o (link_of t cap n parent_word) k z).cell in
          rw e (omega (arith, said-depth g t (link_of t cap n parent_word)), f.is_finite, rw (above-value n u c) x, ap amount (above-value n u c) ∙ y ∙ a)

  row-rule : (n : ℕ) → Used cap t n → T (flag_of t complete_bit n) → ValueRule s (said_place g t n) (value_carried (carried_of t v n))
  row-rule n u c = go (ℕ_discrete (status_of (carried_of t v n)) 0)
    where
      go : Dec (status_of (carried_of t v n) ≡ 0) → ValueRule s (said_place g t n) (value_carried (carried_of t v n))
      go (yes e) = rw e (rw (above-value n u c, (blank-row o n u e).above c) tt)
      go (no e) = held-rule n u c (held-row o n u e)

  pub value-rule : (n : ℕ) (p : Place) (x : Cell) → entry s.entries n ≡ used p (some x) → ValueRule s p x.value
  value-rule n p x e =
      let (u, q, c, i) = cell-entry o n p x e in
      let j : x.value ≡ value_carried (carried_of t v n) = ap (λ (y : Cell). y.value) i in
      rw j (rw (← q) (row-rule n u c))

-- One row of the seam, as the function writes it; and it stays plain.
-- Assumes nothing.
use Prim.Native.Nat.{ℕ, ◌-◌, ◌≤◌}
use native.Mathlib.Omega.{arith}
use mathlib.Core.Path.{◌≡◌}
use mathlib.Core.List.{List}
use lib.IntN.{ℤ}
use borrow.Author.Tests.{eq-eqb, ne_eqb}
use Rattle.mesh.specs.Place.{Grid}
use Rattle.table.specs.Words.{word_of}
use Rattle.worked.specs.Worked.{down_to}
use Rattle.table.specs.Plain.{Plain}
use Rattle.edit_laws.specs.PatchSteps.{put_word}
use Rattle.edit_laws.specs.Built.{seam_row}
use Rattle.edit_laws.proofs.PlainKept.{plain-named}

module _ (g : Grid) (cap d n : ℕ) (t : List ℤ) {i j : ℕ} (i-is : i ≡ word_of t n 10) (j-is : j ≡ word_of t n 11) (p : Plain t cap) where
  pub sew-north : {u : List ℤ} {x : ℕ} → j ≡ g.rows - 1 → x ≤ cap → x ≡ down_to t cap d i 0 → u ≡ put_word t n 5 x → (u ≡ seam_row g cap d t n) × Plain u cap
  sew-north e h x-is put = (rw (← i-is, ← j-is, eq-eqb _ _ e, ← x-is) put, plain-named n 5 _ p put (omega arith) h)

  pub sew-south : {u : List ℤ} {x : ℕ} → (j ≡ g.rows - 1 → ⊥) → j ≡ 0 → x ≤ cap → x ≡ down_to t cap d i (g.rows - 1) → u ≡ put_word t n 7 x → (u ≡ seam_row g cap d t n) × Plain u cap
  sew-south f e h x-is put = (rw (← i-is, ← j-is, ne_eqb _ _ f, eq-eqb _ 0 e, ← x-is) put, plain-named n 7 _ p put (omega arith) h)

  pub sew-not : {u : List ℤ} → (j ≡ g.rows - 1 → ⊥) → (j ≡ 0 → ⊥) → u ≡ t → (u ≡ seam_row g cap d t n) × Plain u cap
  sew-not f e put = (rw (← i-is, ← j-is, ne_eqb _ _ f, ne_eqb _ 0 e) put, rw put p)

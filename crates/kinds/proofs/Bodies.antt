-- The body of a request: its fields stand behind the kind byte, a byte that no row of the kinds has is unknown.
-- Assumes nothing.
use Prim.Native.Nat.{ℕ, zero, suc, ◌+◌, ◌≤◌}
use native.Mathlib.Omega.{arith}
use mathlib.Core.Path.{◌≡◌, refl, sym, ap, ◌∙◌}
use mathlib.Core.Logic.{◌≢◌}
use mathlib.Core.Option.{none}
use mathlib.Core.List.{List, [], ◌∷◌}
use lib.Dec.{eqb}
use lib.ListN.{take, drop}
use lib.Seq.{take-take, drop-drop}
use borrow.Author.Tests.{ne_eqb}
use Rattle.mesh.specs.Tools.{find}
use Rattle.mesh.specs.Tape as Tape
use Rattle.mesh.specs.Tape.{high_first, field, kinds, kind}
use Rattle.kinds.specs.declared.kind.Kind.{Kind}
use Rattle.kinds.specs.BodyLengths.{byte_of}

-- ---- a field of a body

inside : (from size l : ℕ) (bs : List ℕ) → from + size ≤ l → take size (drop from (take l bs)) ≡ take size (drop from bs)
inside zero size l bs h = take-take size l bs (omega arith)
inside (suc from) size zero bs h = absurd (omega arith)
inside (suc from) size (suc l) [] h = refl
inside (suc from) size (suc l) (b ∷ bs) h = inside from size l bs (omega arith)

pub field-body : (from size l : ℕ) (bs : List ℕ) → from + size ≤ l → field from size (take l bs) ≡ field from size bs
field-body from size l bs h = ap (high_first 0) (inside from size l bs h)

-- in the tape: the body begins a byte behind the kind byte
pub field-behind : (bytes : List ℕ) (at from size : ℕ) → field from size (drop (at + 1) bytes) ≡ field (at + (1 + from)) size bytes
field-behind bytes at from size = let e : at + 1 + from ≡ at + (1 + from) = omega arith in rw (drop-drop from (at + 1) bytes, e)

-- ---- a byte that no row has

-- the byte is none of theirs: what a `match` with an arm for each knows in its last arm
abbrev pub Misses : Type 0 → ℕ → List Tape.Kind → Type 0
Misses P b [] = P
Misses P b (x ∷ xs) = Misses (P × (b ≢ x.byte)) b xs

missed : {P : Type 0} (b : ℕ) (xs : List Tape.Kind) → Misses P b xs → P × (find (λ x. eqb x.byte b) xs ≡ none)
missed b [] m = (m, refl)
missed b (x ∷ xs) m = let ((p, z), e) = missed b xs m in (p, rw (ne_eqb x.byte b (λ i. z (sym i))) e)

pub unknown : (b : ℕ) → Misses Unit b kinds → kind b ≡ none
unfolding kind
unknown b m = (missed b kinds m).1

-- ---- a byte that announces a kind

pub announced : {k x : Kind} {b : ℕ} → byte_of k ≡ b → k ≡ x → kind b ≡ kind (byte_of x)
announced e i = ap kind (sym e ∙ ap byte_of i)

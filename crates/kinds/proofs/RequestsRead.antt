-- A request as it is read: the row of its kind byte, and what a body asks for.
-- Assumes nothing.
use Prim.Native.Nat.{ℕ, ◌+◌, ◌-◌, ◌≤◌, ◌<◌}
use native.Mathlib.Omega.{arith}
use mathlib.Core.Path.{◌≡◌, refl, sym, ap, ◌∙◌}
use mathlib.Core.Option.{some, map-eq-some_iff}
use mathlib.Core.List.{List}
use lib.ListN.{length, drop, get_or, take, length-drop}
use lib.Ieee.{Float, of_bits, binary64}
use borrow.Author.Tests.{lt-ltb}
use Rattle.answer.specs.declared.Refusal.TheVariants.{CutOff}
use Rattle.mesh.specs.Request.{set_value}
use Rattle.mesh.specs.Tape as Tape
use Rattle.mesh.specs.Tape.{field, number_in, value_in, kinds, kind, asks}
use Rattle.kinds.specs.declared.kind.Kind.{Kind}
use Rattle.kinds.specs.declared.kind.Kind.TheVariants.{Refine, Sentence, Remove, Kill, SetValue}
use Rattle.kinds.specs.declared.asked.Request.{Request}
use Rattle.kinds.specs.BodyLengths.{body_length, byte_of, StandsFor}
use Rattle.kinds.specs.AskedFor.{MadeFor, SetsFor, Announced, Unread}
use Rattle.kinds.proofs.Bodies.{field-body}

-- ---- how long a body is

-- every body has a number
pub with-number : (k : Kind) {len : ℕ} → some len ≡ body_length (byte_of k) → 2 ≤ len
unfolding body_length kinds kind
with-number Refine {len} e = let i : len ≡ 2 = cc in omega (arith, i)
with-number Sentence {len} e = let i : len ≡ 2 = cc in omega (arith, i)
with-number Remove {len} e = let i : len ≡ 2 = cc in omega (arith, i)
with-number Kill {len} e = let i : len ≡ 2 = cc in omega (arith, i)
with-number SetValue {len} e = let i : len ≡ 10 = cc in omega (arith, i)

pub with-value : {k : Kind} {len : ℕ} → k ≡ SetValue → some len ≡ body_length (byte_of k) → len ≡ 10
unfolding body_length kinds kind
with-value i e = let h = rw i at e in cc

-- ---- from a kind byte on

module _ (bytes : List ℕ) (at : ℕ) {len : ℕ} (long : some len ≡ body_length (get_or bytes at 0)) where
  abbrev rest : List ℕ
  rest = drop (at + 1) bytes

  -- the row of the byte
  record Row : Type 0 where
    its : Tape.Kind
    is-kind : kind (get_or bytes at 0) ≡ some its
    is-length : its.len ≡ len

  row : Row
  unfolding body_length
  row = let (x, a, b) = (map-eq-some_iff (λ (x : Tape.Kind). x.len) (kind (get_or bytes at 0))).0 (sym long) in record { its = x; is-kind = a; is-length = b }

  pub short-unread : at < length bytes → length bytes - at ≤ len → Unread bytes at CutOff
  short-unread inside few s =
      let short : length rest < row.its.len = simp length-drop (omega (arith, row.is-length)) in
      rw (row.is-kind, lt-ltb (length rest) row.its.len short)

  module _ (enough : len < length bytes - at) where
    pub announced-as : {q : Request} (x : Tape.Kind) → kind (get_or bytes at 0) ≡ some x → MadeFor (asks x rest) q → Announced bytes at q (at + 1 + len)
    announced-as x is m =
        let i : row.its ≡ x = cc row.is-kind in
        let l : x.len ≡ len = ap (λ (y : Tape.Kind). y.len) (sym i) ∙ row.is-length in
        record { row = x; is-kind = is; whole = omega (arith, l); asked = m; is-next = omega (arith, l) }

-- ---- what a body asks for

module _ {n : ℕ} (rest : List ℕ) (number : n ≡ number_in rest) where
  pub number-asked : number_in (take 2 rest) ≡ n
  number-asked = field-body 0 2 2 rest (omega arith) ∙ sym number

  pub value-asked : {x : Float} → StandsFor (field 2 8 rest) x → SetsFor (set_value (number_in (take 10 rest)) (value_in (take 10 rest))) n x
  value-asked f = rw (field-body 0 2 10 rest (omega arith), field-body 2 8 10 rest (omega arith), ← number) (record { value = of_bits binary64 (field 2 8 rest); is-set = refl; alike = f.alike; is = f.is })

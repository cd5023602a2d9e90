-- A request's kind and body as the code reads them: the byte of each kind, its body's length, and a value that stands for that of a pattern.
-- Assumes nothing.
use Rattle.std.specs.Prelude.{ℕ, ◌≡◌, true, Float, Result, MatchResult}
use Rattle.std.proofs.Math.Option.{Option, none, map}
use Rattle.std.specs.Float.Ieee.{of_bits}
use Rattle.std.specs.Float.{binary64}
use Rattle.mesh.specs.Valid.{finite}
use Rattle.mesh.specs.Tape.{kind}
use Rattle.kinds.specs.declared.kind.Kind.{Kind}
use Rattle.kinds.specs.declared.kind.Kind.TheVariants.{Refine, Sentence, Remove, Kill, SetValue}
use Rattle.answer.specs.declared.Refusal.{Refusal}
use Rattle.answer.specs.declared.Refusal.TheVariants.{UnknownKind}

-- how long the body is, if the byte is that of a kind
unfoldable pub body_length : ℕ → Option ℕ
body_length k = map (λ x. x.len) (kind k)

-- the byte that announces a kind
abbrev pub byte_of : Kind → ℕ
byte_of Refine = 1
byte_of Sentence = 2
byte_of Remove = 3
byte_of Kill = 4
byte_of SetValue = 5

-- the kind that a byte announces, or that it is the byte of none
abbrev pub Announces : ℕ → Result Kind Refusal → Type 0
Announces byte r = MatchResult r (λ k. byte_of k ≡ byte) (λ e. (e ≡ UnknownKind) × (kind byte ≡ none))

-- a float that is refused where that of the pattern is, and otherwise is that of the pattern
pub record StandsFor (w : ℕ) (x : Float) : Type 0 where
  pub alike : finite x ≡ finite (of_bits binary64 w)
  pub is : finite x ≡ true → x ≡ of_bits binary64 w

-- The request that a tape asks for at an offset, as the code reads it.
-- Assumes nothing.
use Rattle.std.specs.Prelude.{ℕ, ◌+◌, ◌<◌, ◌≡◌, true, List, length, drop, get_or, Float}
use Rattle.std.proofs.Math.Option.{some}
use Rattle.mesh.specs.State.{State}
use Rattle.mesh.specs.Valid.{finite}
use Rattle.mesh.specs.Request as Rules
use Rattle.mesh.specs.Request.{refine, sentence, remove, kill, set_value}
use Rattle.mesh.specs.Tape.{Kind, kind, asks, step_by, stop}
use Rattle.kinds.specs.declared.asked.Request.{Request}
use Rattle.kinds.specs.declared.asked.Request.TheVariants.{Refine, Sentence, Remove, Kill, SetValue}
use Rattle.answer.specs.declared.Refusal.{Refusal}
use Rattle.answer.specs.Answered.{number}

-- the rules' request that it is
abbrev pub request_of : Request → Rules.Request
request_of (Refine n) = refine n
request_of (Sentence n) = sentence n
request_of (Remove n) = remove n
request_of (Kill n) = kill n
request_of (SetValue n x) = set_value n x

-- r sets the value y of n, and x is refused where y is, and otherwise is y
pub record SetsFor (r : Rules.Request) (n : ℕ) (x : Float) : Type 0 where
  pub value : Float
  pub is-set : r ≡ set_value n value
  pub alike : finite x ≡ finite value
  pub is : finite x ≡ true → x ≡ value

-- a request that is made for r is r, but for a value that stands for r's
abbrev pub MadeFor : Rules.Request → Request → Type 0
MadeFor r (SetValue n x) = SetsFor r n x
MadeFor r q = r ≡ request_of q

-- the byte at `at` is that of a row of the kinds, whose body is there and asks for the request; the next kind byte stands at `next`
pub record Announced (bytes : List ℕ) (at : ℕ) (q : Request) (next : ℕ) : Type 0 where
  pub row : Kind
  pub is-kind : kind (get_or bytes at 0) ≡ some row
  pub whole : at + row.len < length bytes
  pub asked : MadeFor (asks row (drop (at + 1) bytes)) q
  pub is-next : next ≡ at + 1 + row.len

-- the rules stop there, whatever the state is
abbrev pub Unread : List ℕ → ℕ → Refusal → Type 0
Unread bytes at e = (s : State) → step_by s (kind (get_or bytes at 0)) (drop (at + 1) bytes) ≡ stop (number e)

-- A tape of requests (01, 'Build and requests').
-- Assumes nothing.
use Rattle.std.specs.Prelude.{ℕ, zero, suc, ◌+◌, ◌*◌, cond, List, [], ◌∷◌, ltb, eqb, length, take, drop, Float}
use Rattle.std.proofs.Math.Option.{Option, none, some}
use Rattle.std.specs.Float.Ieee.{of_bits}
use Rattle.std.specs.Float.{binary64}
use Rattle.mesh.specs.Tools.{find}
use Rattle.mesh.specs.State.{State}
use Rattle.mesh.specs.Request.{Request, refine, sentence, remove, kill, set_value, Result, refused, accepted, request}

-- "every number in a tape has its high byte first": the number n with these bytes behind it
abbrev pub high_first : ℕ → List ℕ → ℕ
high_first n [] = n
high_first n (b ∷ bs) = high_first (256 * n + b) bs

-- the number that so many bytes of a body are, from one of them on
abbrev pub field : ℕ → ℕ → List ℕ → ℕ
field from size body = high_first 0 (take size (drop from body))

-- "patch numbers are two bytes", and stand first; "8 bytes of f64" behind the number
abbrev pub number_in : List ℕ → ℕ
number_in body = field 0 2 body

abbrev pub value_in : List ℕ → Float
value_in body = of_bits binary64 (field 2 8 body)

-- a row of the table of kinds: the byte, "a body whose length the kind fixes", and what the body asks for
pub record Kind : Type 0 where
  pub byte : ℕ
  pub len : ℕ
  pub ask : List ℕ → Request

-- a row whose body is a number
abbrev pub by_number : ℕ → (ℕ → Request) → Kind
by_number b f = record { byte = b; len = 2; ask = λ body. f (number_in body) }

-- the columns 'Kind', 'Body' and 'Effect' of 01's table
unfoldable pub kinds : List Kind
kinds =
    by_number 1 refine
    ∷ by_number 2 sentence
    ∷ by_number 3 remove
    ∷ by_number 4 kill
    ∷ record { byte = 5; len = 10; ask = λ body. set_value (number_in body) (value_in body) }
    ∷ []

-- the row of a byte, if it is that of a kind
unfoldable pub kind : ℕ → Option Kind
kind b = find (λ k. eqb k.byte b) kinds

-- what the bytes behind the kind byte ask for
abbrev pub asks : Kind → List ℕ → Request
asks k bs = k.ask (take k.len bs)

-- "the answer is requests done, refusal or none, and the byte offset of the refused kind byte (the tape length if none)", and the state left
pub record Run : Type 0 where
  pub state : State
  pub done : ℕ
  pub refusal : ℕ
  pub offset : ℕ

-- one request: it stops the tape, or the state goes on past so many bytes of body
pub data Step : Type 0 where
  stop : ℕ → Step
  next : State → ℕ → Step

abbrev pub answered : Result → ℕ → Step
answered (refused r) l = stop r
answered (accepted s) l = next s l

-- "kind (5), then body (4), then the kind's list", with the bytes behind the kind byte
abbrev pub step_by : State → Option Kind → List ℕ → Step
step_by s none bs = stop 5
step_by s (some k) bs = cond (ltb (length bs) k.len) (stop 4) (answered (request s (asks k bs)) k.len)

-- the rest of a tape: so many bytes to pass over, the state, the requests done, the offset, the bytes
unfoldable pub run_from : ℕ → State → ℕ → ℕ → List ℕ → Run
run_from l s n o [] = record { state = s; done = n; refusal = 0; offset = o }
run_from zero s n o (k ∷ bs) =
    elim (step_by s (kind k) bs) [
      | stop r ↦ record { state = s; done = n; refusal = r; offset = o }
      | next t l ↦ run_from l t (n + 1) (o + 1) bs
    ]
run_from (suc l) s n o (b ∷ bs) = run_from l s n (o + 1) bs

unfoldable pub run : State → List ℕ → Run
run s tape = run_from 0 s 0 0 tape

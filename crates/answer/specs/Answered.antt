-- The number of each refusal, and of what is answered.
-- Assumes nothing.
use Rattle.std.specs.Prelude.{ℕ, Option, None, Some, Result, Ok, Err}
use Rattle.answer.specs.declared.Refusal.{Refusal}
use Rattle.answer.specs.declared.Refusal.TheVariants.{BadLengths, BadHeader, Unsound, CutOff, UnknownKind, NoPatch, NoCell, HasKids, TopLevel, IsSentenced, TooFewFree, WrongLevel, NoKids, KidsNotSentenced, LastCell, NotFinite, BadScan, TooShort, NotFound, TooLong, CoarserBeside, FinerBeside, NoSuchCount}

abbrev pub number : Refusal → ℕ
number BadLengths = 1
number BadHeader = 2
number Unsound = 3
number CutOff = 4
number UnknownKind = 5
number NoPatch = 6
number NoCell = 7
number HasKids = 8
number TopLevel = 9
number IsSentenced = 10
number TooFewFree = 11
number WrongLevel = 12
number NoKids = 13
number KidsNotSentenced = 14
number LastCell = 15
number NotFinite = 16
number BadScan = 17
number TooShort = 18
number NotFound = 19
number TooLong = 20
number CoarserBeside = 21
number FinerBeside = 22
number NoSuchCount = 23

-- the number of the refusal, 0 for none
abbrev pub refusal_of : {A : Type 0} → Result A Refusal → ℕ
refusal_of (Ok _) = 0
refusal_of (Err r) = number r

-- what an answer holds, x if it is refused
abbrev pub value_or : {A : Type 0} → A → Result A Refusal → A
value_or x (Ok y) = y
value_or x (Err r) = x

-- a stop on the way: the number of the refusal, 0 for none
abbrev pub stop_of : Option Refusal → ℕ
stop_of None = 0
stop_of (Some r) = number r

-- No refusal has the number 0, and no two have the same.
-- Assumes nothing.
use Rattle.std.specs.Prelude.{◌≡◌, ◌≢◌, ℕ, ◌-◌, ◌<◌, List, [], ◌∷◌, Option, None, Some, slice_get, Result, Ok, Err, zero, suc}
use Rattle.std.proofs.Common.{refl, sym, ap, ap₂, ◌∙◌, arith}
use Rattle.answer.specs.declared.Refusal.{Refusal}
use Rattle.answer.specs.declared.Refusal.TheVariants.{BadLengths, BadHeader, Unsound, CutOff, UnknownKind, NoPatch, NoCell, HasKids, TopLevel, IsSentenced, TooFewFree, WrongLevel, NoKids, KidsNotSentenced, LastCell, NotFinite, BadScan, TooShort, NotFound, TooLong, CoarserBeside, FinerBeside, NoSuchCount}
use Rattle.answer.specs.Answered.{number, refusal_of, value_or, stop_of}

-- in the order of the numbers
all : List Refusal
all = BadLengths ∷ BadHeader ∷ Unsound ∷ CutOff ∷ UnknownKind ∷ NoPatch ∷ NoCell ∷ HasKids ∷ TopLevel ∷ IsSentenced ∷ TooFewFree ∷ WrongLevel ∷ NoKids ∷ KidsNotSentenced ∷ LastCell ∷ NotFinite ∷ BadScan ∷ TooShort ∷ NotFound ∷ TooLong ∷ CoarserBeside ∷ FinerBeside ∷ NoSuchCount ∷ []

numbered : ℕ → Option Refusal
numbered n = slice_get all (n - 1)

back : (r : Refusal) → numbered (number r) ≡ Some r
unfolding numbered all
back BadLengths = refl
back BadHeader = refl
back Unsound = refl
back CutOff = refl
back UnknownKind = refl
back NoPatch = refl
back NoCell = refl
back HasKids = refl
back TopLevel = refl
back IsSentenced = refl
back TooFewFree = refl
back WrongLevel = refl
back NoKids = refl
back KidsNotSentenced = refl
back LastCell = refl
back NotFinite = refl
back BadScan = refl
back TooShort = refl
back NotFound = refl
back TooLong = refl
back CoarserBeside = refl
back FinerBeside = refl
back NoSuchCount = refl

held : Refusal → Option Refusal → Refusal
held x (Some y) = y
held x None = x

pub same-number : (r s : Refusal) → number r ≡ number s → r ≡ s
unfolding held
same-number r s e = ap (held r) (sym (back r) ∙ ap numbered e ∙ back s)

pub above-zero : (r : Refusal) → 0 < number r
above-zero BadLengths = omega arith
above-zero BadHeader = omega arith
above-zero Unsound = omega arith
above-zero CutOff = omega arith
above-zero UnknownKind = omega arith
above-zero NoPatch = omega arith
above-zero NoCell = omega arith
above-zero HasKids = omega arith
above-zero TopLevel = omega arith
above-zero IsSentenced = omega arith
above-zero TooFewFree = omega arith
above-zero WrongLevel = omega arith
above-zero NoKids = omega arith
above-zero KidsNotSentenced = omega arith
above-zero LastCell = omega arith
above-zero NotFinite = omega arith
above-zero BadScan = omega arith
above-zero TooShort = omega arith
above-zero NotFound = omega arith
above-zero TooLong = omega arith
above-zero CoarserBeside = omega arith
above-zero FinerBeside = omega arith
above-zero NoSuchCount = omega arith

pub not-zero : (r : Refusal) → number r ≢ 0
not-zero r z = let a = above-zero r in omega (arith, z)

-- ---- an answer is known by the number of its refusal and by its value

read : {A : Type 0} → ℕ → A → Result A Refusal
read zero x = Ok x
read (suc n) x = Err (held CutOff (numbered (suc n)))

read-back : {A : Type 0} (r : Refusal) (x : A) → read (number r) x ≡ Err r
unfolding read held numbered all
read-back BadLengths x = refl
read-back BadHeader x = refl
read-back Unsound x = refl
read-back CutOff x = refl
read-back UnknownKind x = refl
read-back NoPatch x = refl
read-back NoCell x = refl
read-back HasKids x = refl
read-back TopLevel x = refl
read-back IsSentenced x = refl
read-back TooFewFree x = refl
read-back WrongLevel x = refl
read-back NoKids x = refl
read-back KidsNotSentenced x = refl
read-back LastCell x = refl
read-back NotFinite x = refl
read-back BadScan x = refl
read-back TooShort x = refl
read-back NotFound x = refl
read-back TooLong x = refl
read-back CoarserBeside x = refl
read-back FinerBeside x = refl
read-back NoSuchCount x = refl

read-answer : {A : Type 0} (x : A) (r : Result A Refusal) → read (refusal_of r) (value_or x r) ≡ r
unfolding read
read-answer x (Ok y) = refl
read-answer x (Err r) = read-back r x

pub same-answer : {A : Type 0} (x : A) (r s : Result A Refusal) → refusal_of r ≡ refusal_of s → value_or x r ≡ value_or x s → r ≡ s
same-answer x r s e f = sym (read-answer x r) ∙ ap₂ read e f ∙ read-answer x s

-- a check answers no more than its refusal
pub same-check : (r s : Result (Unit {0}) Refusal) → refusal_of r ≡ refusal_of s → r ≡ s
same-check r s e = same-answer tt r s e refl

-- ---- a stop on the way

pub same-stop : (r s : Option Refusal) → stop_of r ≡ stop_of s → r ≡ s
same-stop None None e = refl
same-stop None (Some s) e = absurd (not-zero s (sym e))
same-stop (Some r) None e = absurd (not-zero r e)
same-stop (Some r) (Some s) e = ap Some (same-number r s e)

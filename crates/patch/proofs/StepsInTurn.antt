-- Steps on the patches of a table, one after the other.
-- Assumes nothing.
use mathlib.Core.Path.{◌≡◌, refl, ap₂, ◌∙◌}
use mathlib.Core.List.{List}
use Prim.Native.Nat.{ℕ}
use lib.IntN.{ℤ}
use Rattle.patch.specs.declared.patches.Patches.{Patches}
use Rattle.patch.specs.NextPatches.{Same, Stepped}

pub same_then : {p q r : Patches} → Same p q → Same q r → Same p r
same_then s e = record { cap = e.cap ∙ s.cap; long = e.long ∙ s.long; table = e.table ∙ s.table; numbers = e.numbers ∙ s.numbers }

-- nothing is written
pub stands : {p : Patches} {f : List ℤ → ℕ → List ℤ} → p.t.now ≡ f p.t.now p.cap → Stepped f p p
stands h = record { same = record { cap = refl; long = refl; table = refl; numbers = refl }; words = h }

pub step_then : {p q r : Patches} {f g : List ℤ → ℕ → List ℤ} → Stepped f p q → Stepped g q r → Stepped (λ t cap. g (f t cap) cap) p r
step_then {g = g} s e = record { same = same_then s.same e.same; words = e.words ∙ ap₂ g s.words s.same.cap }

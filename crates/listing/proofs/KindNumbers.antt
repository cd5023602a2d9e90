-- Each number from 1 to 6 is that of a kind.
-- Assumes nothing.
use Rattle.std.proofs.Common.{ℕ, zero, suc, ◌≤◌, ◌≡◌, refl, sym, ap, ◌∙◌, Option, Some, None, arith}
use Rattle.std.specs.Option.{IsSome}
use Rattle.listing.specs.Kinds.{number_of, kind_of}
use Rattle.listing.specs.declared.kinds.Kind.{Kind}

abbrev number_in : Option Kind → ℕ
number_in None = 0
number_in (Some kind) = number_of kind

same_number : (n : ℕ) → 1 ≤ n → n ≤ 6 → number_in (kind_of n) ≡ n
same_number zero l h = absurd (omega arith)
same_number (suc zero) l h = refl
same_number (suc (suc zero)) l h = refl
same_number (suc (suc (suc zero))) l h = refl
same_number (suc (suc (suc (suc zero)))) l h = refl
same_number (suc (suc (suc (suc (suc zero))))) l h = refl
same_number (suc (suc (suc (suc (suc (suc zero)))))) l h = refl
same_number (suc (suc (suc (suc (suc (suc (suc n))))))) l h = absurd (omega arith)

pub number_known : (n : ℕ) → 1 ≤ n → n ≤ 6 → (kind : Kind) → kind_of n ≡ Some kind → number_of kind ≡ n
number_known n l h kind e = sym (ap number_in e) ∙ same_number n l h

pub kind_known : (n : ℕ) → 1 ≤ n → n ≤ 6 → IsSome (kind_of n)
kind_known zero l h = absurd (omega arith)
kind_known (suc zero) l h = refl
kind_known (suc (suc zero)) l h = refl
kind_known (suc (suc (suc zero))) l h = refl
kind_known (suc (suc (suc (suc zero)))) l h = refl
kind_known (suc (suc (suc (suc (suc zero))))) l h = refl
kind_known (suc (suc (suc (suc (suc (suc zero)))))) l h = refl
kind_known (suc (suc (suc (suc (suc (suc (suc n))))))) l h = absurd (omega arith)

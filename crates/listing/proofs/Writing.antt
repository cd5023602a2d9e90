-- A list that was written as far as it fits.
-- Assumes nothing.
use Prim.Native.Nat.{ℕ, ◌≤◌}
use native.Mathlib.Nat.{zero-add}
use native.Mathlib.Omega.{arith}
use mathlib.Core.Path.{◌≡◌, ap, ◌∙◌, subst}
use mathlib.Core.List.{List, ◌++◌}
use lib.ListN.{length, drop}
use lib.Seq.{sets-eq}
use Rattle.listing.specs.Written.{WroteWhatFits}

pub wrote_as : {d : List ℕ} {n : ℕ} {xs ys e : List ℕ} {m : ℕ} → xs ≡ ys → WroteWhatFits d n xs e m → WroteWhatFits d n ys e m
wrote_as {d} {n} {xs} {ys} {e} {m} q w = subst (λ (zs : List ℕ). WroteWhatFits d n zs e m) q w

-- "places past the count stay"
pub wrote-whole : {d xs e : List ℕ} {m : ℕ} → length xs ≤ length d → WroteWhatFits d 0 xs e m → (m ≡ length xs) × (e ≡ xs ++ drop (length xs) d)
wrote-whole {d} {xs} {e} {m} h w = (
  omega (arith, w.next),
  w.stored ∙ sets-eq xs d 0 (omega arith) ∙ ap (λ (i : ℕ). xs ++ drop i d) (zero-add (length xs)),
)

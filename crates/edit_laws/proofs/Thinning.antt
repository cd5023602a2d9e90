-- Entries of which some are freed, one after the other, each at a place that is no patch: once only patches are left, it is the pruned list.
-- Assumes nothing.
use Prim.Native.Nat.{ℕ}
use native.Mathlib.Decide.{ℕ_discrete}
use mathlib.Core.Path.{◌≡◌, refl, sym, ap, ◌∙◌, subst}
use mathlib.Core.Logic.{◌⊎◌, inl, inr}
use mathlib.Core.Bool.{Bool}
use mathlib.Core.Option.{some, none-ne-some, some-injective}
use mathlib.Core.List.{List}
use lib.Dec.{T}
use lib.ListN.{length, set, length-set}
use lib.Seq.{get_or-set_same, get_or-set_other, ext_get_or}
use Rattle.mesh.specs.Tools.{any}
use Rattle.mesh.specs.Place.{Place, Grid}
use Rattle.mesh.specs.Mesh.{patch}
use Rattle.mesh.specs.State.{Entry, nil, free, used, place_of, stands, entry, cells}
use Rattle.mesh.specs.Request.{pruned, prune}
use Rattle.number_laws.proofs.Entries.{in_list, stands-in, in-stands}
use Rattle.number_laws.proofs.Pruning.{prune-entry, prune-length, pruned-kept, pruned-freed}

-- the list ds is es but for free entries where the place was no patch
pub record Thinned (g : Grid) (c : Place → Bool) (es ds : List Entry) : Type 0 where
  pub long : length ds ≡ length es
  pub each : (n : ℕ) → (entry ds n ≡ entry es n) ⊎ ((entry ds n ≡ free) × ((q : Place) × (place_of (entry es n) ≡ some q) × (T (patch g c q) → ⊥)))

pub thinned-nothing : (g : Grid) (c : Place → Bool) (es : List Entry) → Thinned g c es es
thinned-nothing g c es = record { long = refl; each = λ n. inl refl }

module _ {g : Grid} {c : Place → Bool} {es ds : List Entry} (h : Thinned g c es ds) where
  -- what stands stood
  pub thinned-place : (n : ℕ) (q : Place) → place_of (entry ds n) ≡ some q → place_of (entry es n) ≡ some q
  thinned-place n q e = go (h.each n)
    where
      go : (entry ds n ≡ entry es n) ⊎ ((entry ds n ≡ free) × ((q : Place) × (place_of (entry es n) ≡ some q) × (T (patch g c q) → ⊥))) → place_of (entry es n) ≡ some q
      go (inl k) = ap place_of (sym k) ∙ e
      go (inr (k, _)) = absurd (none-ne-some _ (ap place_of (sym k) ∙ e))

  pub thinned-stood : (q : Place) → T (any (stands q) ds) → T (any (stands q) es)
  thinned-stood q t = let (n, l, e) = in-stands ds q t in stands-in es n q (thinned-place n q e)

  -- and patches stay
  pub thinned-patch : (n : ℕ) (q : Place) → place_of (entry es n) ≡ some q → T (patch g c q) → place_of (entry ds n) ≡ some q
  thinned-patch n q e t = go (h.each n)
    where
      go : (entry ds n ≡ entry es n) ⊎ ((entry ds n ≡ free) × ((q : Place) × (place_of (entry es n) ≡ some q) × (T (patch g c q) → ⊥))) → place_of (entry ds n) ≡ some q
      go (inl k) = ap place_of k ∙ e
      go (inr (k, (x, f, z))) = absurd (z (subst (λ (y : Place). T (patch g c y)) (some-injective _ _ (sym e ∙ f)) t))

  pub thinned-stands : (q : Place) → T (patch g c q) → T (any (stands q) es) → T (any (stands q) ds)
  thinned-stands q t u = let (n, l, e) = in-stands es q u in stands-in ds n q (thinned-patch n q e t)

  -- one more is freed
  pub thinned-free : (k : ℕ) (q : Place) → place_of (entry ds k) ≡ some q → (T (patch g c q) → ⊥) → Thinned g c es (set ds k free)
  thinned-free k q e z = record { long = length-set ds k free ∙ h.long; each = λ n. go n (ℕ_discrete n k) }
    where
      go : (n : ℕ) → Dec (n ≡ k) → (entry (set ds k free) n ≡ entry es n) ⊎ ((entry (set ds k free) n ≡ free) × ((q : Place) × (place_of (entry es n) ≡ some q) × (T (patch g c q) → ⊥)))
      go n (yes i) = inr (ap (entry (set ds k free)) i ∙ get_or-set_same ds k free nil (in_list ds k q e), (q, ap (λ (m : ℕ). place_of (entry es m)) i ∙ thinned-place k q e, z))
      go n (no i) = rw (get_or-set_other ds k n free nil i) (h.each n)

-- only patches are left
pub thinned-prune : {g : Grid} {es ds : List Entry} → Thinned g (cells es) es ds → ((n : ℕ) (q : Place) → place_of (entry ds n) ≡ some q → T (patch g (cells es) q)) → ds ≡ prune g es
thinned-prune {g} {es} {ds} h all = ext_get_or nil ds (prune g es) (h.long ∙ sym (prune-length g es)) (λ n l. one n (h.each n) ∙ sym (prune-entry g es n))
  where
    stays : (n : ℕ) (e : Entry) → entry ds n ≡ e → e ≡ pruned g (cells es) e
    stays n nil k = refl
    stays n free k = refl
    stays n (used q x) k = sym (pruned-kept g (cells es) (used q x) q refl (all n q (ap place_of k)))

    one : (n : ℕ) → (entry ds n ≡ entry es n) ⊎ ((entry ds n ≡ free) × ((q : Place) × (place_of (entry es n) ≡ some q) × (T (patch g (cells es) q) → ⊥))) → entry ds n ≡ pruned g (cells es) (entry es n)
    one n (inl k) = stays n (entry ds n) refl ∙ ap (pruned g (cells es)) k
    one n (inr (k, (q, e, z))) = k ∙ sym (pruned-freed g (cells es) (entry es n) q e z)

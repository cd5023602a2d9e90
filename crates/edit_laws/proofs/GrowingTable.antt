-- A table grows by a place: the entries so far are places without a cell under the numbers from 1 on, and the next free number takes the new one.
-- Assumes nothing.
use Prim.Native.Nat.{ℕ, zero, suc, ◌+◌, ◌-◌, ◌*◌, ◌≤◌, ◌<◌}
use native.Mathlib.Numerals.{add-one}
use native.Mathlib.Omega.{arith}
use mathlib.Core.Path.{◌≡◌, refl, sym, ap, ◌∙◌, fun_ext}
use mathlib.Core.Bool.{Bool, true, false, cond}
use mathlib.Core.Option.{none, some, none-ne-some}
use mathlib.Core.List.{List, [], ◌∷◌, ◌++◌, append_assoc, append-nil}
use lib.ListN.{length, set, length-append}
use Rattle.edit_laws.specs.BuildSoFar.{dark, bare, Grown, InTurn}
use Rattle.mesh.specs.Call.{Rectangle}
use Rattle.mesh.specs.Tools.{keep}
use Rattle.mesh.specs.Place.{Place, Grid, same, base, In, Distinct}
use Rattle.mesh.specs.Seam.{opened}
use Rattle.mesh.specs.Mesh.{patch}
use Rattle.mesh.specs.State.{Entry, nil, free, used, place_of, entry, number}
use Rattle.mesh.specs.Build.{full}
use Rattle.place_laws.proofs.Laps.{smooth-open}
use Rattle.place_laws.proofs.Bools.{cond_same}
use Rattle.place_laws.proofs.Places.{in-here}
use Rattle.place_laws.proofs.Distinct.{append-distinct}
use Rattle.place_laws.proofs.SideDigits.{kid_by}
use Rattle.place_laws.proofs.Extent.{full-patch}
use Rattle.number_laws.proofs.WrittenPlaces.{written-unnumbered, written_next, written-set, written-longer, written_at}
use Rattle.table.specs.Words.{word_of}
use Rattle.edit_laws.specs.Linked.{table_with, with_flags}
use Rattle.edit_laws.specs.PatchSteps.{link_in}
use Rattle.edit_laws.specs.Built.{Growth, in_full, grow}
use Rattle.edit_laws.proofs.Linked.{i-of, j-of}
use Rattle.edit_laws.proofs.Adding.{link-in, link-in-rooted}

dark-more : (q : Place) → with_flags q 0 dark ≡ dark
dark-more q = fun_ext (λ p. cond_same (same p q) 0)

pub bare-longer : (cap : ℕ) (ps rs : List Place) (n : ℕ) (p : Place) → place_of (entry (bare cap ps) n) ≡ some p → place_of (entry (bare cap (ps ++ rs)) n) ≡ some p
bare-longer cap ps rs zero p e = absurd (none-ne-some _ e)
bare-longer cap ps rs (suc n) p e = written-longer (λ p. none) (cap - length (ps ++ rs)) (cap - length ps) ps rs n p e

pub turn-longer : (cap : ℕ) (ps rs : List Place) (p : ℕ) (qs : List Place) → InTurn (bare cap ps) p qs → InTurn (bare cap (ps ++ rs)) p qs
turn-longer cap ps rs p [] t = tt
turn-longer cap ps rs p (q ∷ qs) (h, t) = (bare-longer cap ps rs p q h, turn-longer cap ps rs (p + 1) qs t)

-- the last places of the list do
pub last-in-turn : (cap : ℕ) (ps qs : List Place) (p : ℕ) → p ≡ length ps + 1 → InTurn (bare cap (ps ++ qs)) p qs
last-in-turn cap ps [] p e = tt
last-in-turn cap ps (q ∷ qs) p e = (
  rw (e, add-one) (ap place_of (written_at (λ p. none) (cap - length (ps ++ (q ∷ qs))) ps q qs)),
  rw append_assoc at (last-in-turn cap (ps ++ (q ∷ [])) qs (p + 1) (omega (arith, length-append ps (q ∷ [])))),
)

-- ---- one place more

module _ (cap : ℕ) (ps : List Place) (fits : length ps < cap) where
  one_free : cap - length ps ≡ suc (cap - suc (length ps))
  one_free = omega arith

  next-free : entry (bare cap ps) (length ps + 1) ≡ free
  next-free = rw (add-one, one_free) (written_next (λ p. none) (cap - suc (length ps)) ps)

  next-set : (q : Place) → set (bare cap ps) (length ps + 1) (used q none) ≡ bare cap (ps ++ (q ∷ []))
  next-set q =
      let e : cap - length (ps ++ (q ∷ [])) ≡ cap - suc (length ps) = omega (arith, length-append ps (q ∷ [])) in
      rw (add-one, one_free, e) (ap (λ (es : List Entry). nil ∷ es) (written-set (λ p. none) (cap - suc (length ps)) ps q))

module _ {g : Grid} {cap : ℕ} {ps : List Place} {r : Growth} (s : Grown g cap ps r) (p l m : ℕ) (o : Place) (there : place_of (entry (bare cap ps) p) ≡ some o)
    (l-digit : l ≤ 1) (m-digit : m ≤ 1) where
  -- a kid of a place that stands, which does not stand itself
  one_more : (In (kid_by l m o) ps → ⊥) → o.depth < base g → length ps < cap
      → Grown g cap (ps ++ (kid_by l m o ∷ [])) (record { words = link_in r.words cap (base g) p l m r.next; next = r.next + 1 })
  unfolding base
  one_more new deep fits = record {
    rooted = rw (next-set cap ps fits q) at (link-in-rooted s.rooted dark k p l m o unused there l-digit m-digit missing room (λ w. smooth-open (opened g) w (kid_by l m o) refl));
    words_are =
        rw (s.words_are, s.next-is)
        (link-in s.rooted dark k p l m o unused there l-digit m-digit missing room (λ w. smooth-open (opened g) w (kid_by l m o) refl)
        ∙ ap (λ (es : List Entry). table_with (opened g) es (with_flags q 0 dark)) (next-set cap ps fits q)
        ∙ ap (table_with (opened g) (bare cap (ps ++ (q ∷ [])))) (dark-more q));
    next-is = omega (arith, s.next-is, length-append ps (q ∷ []));
  }
    where
      q : Place
      q = kid_by l m o

      k : ℕ
      k = length ps + 1

      unused : entry (bare cap ps) k ≡ free
      unused = next-free cap ps fits

      missing : number (bare cap ps) q ≡ 0
      missing = written-unnumbered (λ p. none) (cap - length ps) ps q new

      room : o.depth < base (opened g) + 12
      room = omega arith

  -- the test of the rectangle is the test of a patch
  pub in-full-patch : Rectangle g → (up : ℕ) → o.depth + suc up ≡ base g
      → in_full g up (2 * word_of r.words p 10 + l) (2 * word_of r.words p 11 + m) ≡ patch g (full g) (kid_by l m o)
  unfolding kid_by
  in-full-patch in-range up e =
      rw (s.words_are, i-of (opened g) (bare cap ps) dark p o there, j-of (opened g) (bare cap ps) dark p o there) (sym (full-patch g in-range up (kid_by l m o) (omega arith)))

  -- the kid, if the rectangle has it
  pub grow-one : Rectangle g → (up : ℕ) → o.depth + suc up ≡ base g → Distinct (ps ++ keep (patch g (full g)) (kid_by l m o ∷ []))
      → length (ps ++ keep (patch g (full g)) (kid_by l m o ∷ [])) ≤ cap
      → Grown g cap (ps ++ keep (patch g (full g)) (kid_by l m o ∷ [])) (grow g cap (base g) up p l m r)
  unfolding grow
  grow-one in-range up e distinct fits = rw (in-full-patch in-range up e) (go (patch g (full g) q) distinct fits)
    where
      q : Place
      q = kid_by l m o

      go : (b : Bool) → Distinct (ps ++ cond b (q ∷ []) []) → length (ps ++ cond b (q ∷ []) []) ≤ cap
          → Grown g cap (ps ++ cond b (q ∷ []) []) (cond b (record { words = link_in r.words cap (base g) p l m r.next; next = r.next + 1 }) r)
      go true d f = one_more (λ i. (append-distinct ps (q ∷ []) d).2 q i (in-here q q [] refl)) (omega arith) (omega (arith, length-append ps (q ∷ [])))
      go false d f = rw append-nil s

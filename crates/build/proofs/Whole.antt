-- The steps of a build, one after the other, make the picture of the built state.
-- Assumes nothing.
use Prim.Native.Nat.{ℕ, ◌+◌, ◌-◌, ◌≤◌}
use native.Mathlib.Omega.{arith}
use mathlib.Core.Path.{◌≡◌, sym, ap, ◌∙◌, subst}
use mathlib.Core.Bool.{cond}
use mathlib.Core.List.{List}
use lib.Ieee.{Float}
use lib.IntN.{ℤ}
use lib.ListN.{length, replicate}
use Rattle.edit_laws.specs.BuildSoFar.{LevelsToGrow}
use Rattle.mesh.specs.Call.{Rectangle}
use Rattle.mesh.specs.Place.{Grid, base, is_ring}
use Rattle.mesh.specs.State.{plus_zero}
use Rattle.mesh.specs.Build.{numbered}
use Rattle.place_laws.proofs.Base.{base-range}
use Rattle.number_laws.proofs.Building.{built-in-use}
use Rattle.edit_laws.specs.Anew.{wall_row, point_row}
use Rattle.edit_laws.specs.Built.{Growth, each_row, root_table, grow_levels, ground_from, seam_row, ground_row, start, linked_table, ground_table, build_table}
use Rattle.edit_laws.proofs.BuildTable.{build-table, build-next, grown-linked, ground-linked}
use Rattle.edit_laws.proofs.Sprouts.{levels-start}
use Rattle.edit_laws.proofs.Blank.{built-amounts}
use Rattle.table.specs.Plain.{Plain}
use Rattle.edit_laws.proofs.PlainKept.{linked-plain}
use Rattle.build.specs.BuildSteps.{growth, Reached, Made}

module _ (g : Grid) (cap d : ℕ) (ground : d ≡ base g) (in-range : Rectangle g) (low : 5 ≤ cap) (high : cap ≤ 4095) (fits : length (numbered g) ≤ cap) where
  pub depth_small : d ≤ 6
  depth_small = omega (arith, base-range g in-range)

  -- the root's table
  started : (t : List ℤ) → t ≡ root_table cap d → growth t 2 ≡ start g cap d
  unfolding start
  started t e = ap (λ (x : List ℤ). growth x 2) e

  pub all-levels : (t : List ℤ) → t ≡ root_table cap d → LevelsToGrow g cap d 1 (growth t 2)
  all-levels t e =
      subst (λ (x : Growth). LevelsToGrow g cap d 1 x) (sym (started t e)) (subst (λ (x : ℕ). LevelsToGrow g cap x 1 (start g cap x)) (sym ground) (levels-start g cap in-range (omega arith) high fits))

  module _ (t u : List ℤ) (a k : ℕ) (root_is : t ≡ root_table cap d) (reached : Reached g cap d (growth t 2) (growth u k) a) where
    abbrev end : Growth
    end = grow_levels g cap d d 1 (start g cap d)

    abbrev from : ℕ
    from = ground_from g cap d d 1 (start g cap d)

    end_is : growth u k ≡ end
    end_is = reached.grown ∙ ap (grow_levels g cap d d 1) (started t root_is)

    from_is : a ≡ from
    from_is = reached.from ∙ ap (ground_from g cap d d 1) (started t root_is)

    words-is : u ≡ end.words
    words-is = ap (λ (r : Growth). r.words) end_is

    next-is : k ≡ end.next
    next-is = ap (λ (r : Growth). r.next) end_is

    -- ---- its patches, linked

    pub grown-plain : Plain u cap
    grown-plain =
        let l = grown-linked g cap in-range low high fits in
        subst (λ (y : List ℤ). Plain y cap) (sym (words-is ∙ ap (λ (e : ℕ). (grow_levels g cap e e 1 (start g cap e)).words) ground ∙ l.is-linked)) (linked-plain l.rooted l.flags (λ p. omega (arith, l.small p)))

    module _ (s x : List ℤ) (sewn : s ≡ cond (is_ring g) (each_row (seam_row g cap d) (k - a) a u) u) (cells : x ≡ each_row (ground_row g) (k - a) a s) where
      linked-is : s ≡ linked_table g cap d
      unfolding linked_table
      linked-is = sewn ∙ rw (words-is, next-is, from_is)

      -- ---- the cells of level 0

      ground-is : x ≡ ground_table g cap d
      unfolding ground_table
      ground-is = cells ∙ rw (linked-is, next-is, from_is)

      pub ground-plain : Plain x cap
      ground-plain =
          let l = ground-linked g cap in-range low high fits in
          subst (λ (y : List ℤ). Plain y cap) (sym (ground-is ∙ ap (ground_table g cap) ground ∙ l.is-linked)) (linked-plain l.rooted l.flags (λ p. omega (arith, l.small p)))

      -- ---- and its flags

      module _ (y z : List ℤ) (v : List Float) (walled : y ≡ each_row (wall_row cap d) (k - a) a x) (marked : z ≡ each_row (point_row cap) (k - a) a y) (blank : v ≡ replicate (cap + 1) plus_zero) where
        whole : z ≡ build_table g cap d
        unfolding build_table
        whole = marked ∙ rw (walled, ground-is, next-is, from_is)

        pub made : (mark : ℕ) → Made cap (record { header = record { grid = g; mark = mark }; words = z; values = v }) (k - 1)
        made mark = record {
          words_are = whole ∙ ap (build_table g cap) ground ∙ build-table g cap in-range low high fits;
          values-are = blank ∙ sym (built-amounts g cap fits);
          in-use-is =
              let e : k ≡ length (numbered g) + 1 = next-is ∙ subst (λ (x : ℕ). (grow_levels g cap x x 1 (start g cap x)).next ≡ length (numbered g) + 1) (sym ground) (build-next g cap in-range low high fits) in
              let n : k - 1 ≡ length (numbered g) = omega arith in
              n ∙ sym (built-in-use g cap);
        }

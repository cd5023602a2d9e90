-- Every row of a table that passes the test of rows can be read as it stands: its links are the tests' own, its indices are small, and so are
-- its flags; a row without a patch is all 0 but for them.
-- Assumes nothing.
use mathlib.Core.Path.{◌≡◌, refl, sym, subst, ◌∙◌}
use mathlib.Core.Bool.{Bool, true, false, ◌&&◌, cond}
use mathlib.Core.Option.{Option, none, some}
use mathlib.Core.List.{List}
use Prim.Native.Nat.{ℕ, zero, suc, ◌+◌, ◌≤◌, ◌<◌, ◌/◌, ◌%◌}
use native.Mathlib.Omega.{arith}
use native.Mathlib.Decide.{ℕ_discrete}
use lib.Dec.{T, eqb, leb, eqb→eq, leb→le, ltb→lt}
use lib.IntN.{ℤ}
use lib.Ieee.{Float}
use borrow.Author.Tests.{eq-eqb, le-leb, lt-ltb}
use Rattle.mesh.specs.Call.{Rectangle}
use Rattle.mesh.specs.Tools.{or_else}
use Rattle.mesh.specs.Place.{Place, Grid, at, base, step, Wind, N, E, S, W}
use Rattle.mesh.specs.Seam.{crosses}
use Rattle.mesh.specs.Winds.{word_of_wind}
use Rattle.mesh.specs.Picture.{parent_word, ne_word, se_word, sw_word, nw_word, north_word, east_word, south_word, west_word, level_word, i_word, j_word, flags_word, free_flags, link_words}
use Rattle.table.specs.Plain.{Sized}
use Rattle.table.specs.Words.{word_of, link_of, depth_of}
use Rattle.worked.specs.Worked.{kid_word, side_by, side_of, down_to, side_in}
use Rattle.table.proofs.LinkRanges.{link-within, link-word}
use Rattle.place_laws.proofs.Bools.{and_left, and_right, is-yes, yes-is}
use Rattle.place_laws.proofs.SideDigits.{aside}
use Rattle.checker_laws.specs.Rowwise.{below, rowwise}
use Rattle.checker_laws.proofs.Facts.{Used, Empty, Tested, below_at, rowwise-tested}
use Rattle.checker_laws.proofs.Climbing.{said-small}
use Rattle.checker_laws.proofs.Reading.{flags-small}
use Rattle.readable.specs.Readable.{linked}
use Rattle.readable.specs.Readable.{positive, plain_row, Readable, Levelled}
use Rattle.readable.proofs.CountingUp.{below_all}

-- ---- one row

module _ (t : List ℤ) (cap : ℕ) where
  abbrev Names : ℕ → ℕ → Type 0
  Names n w = eqb (word_of t n w) (link_of t cap n w) ≡ true

  names : (n w : ℕ) → word_of t n w ≤ cap → Names n w
  names n w h = eq-eqb _ _ (sym (link-word t cap n w h))

  all_named : (n : ℕ) → ((w : ℕ) → w < link_words → word_of t n w ≤ cap) → linked t cap n ≡ true
  all_named n h =
      rw (names n parent_word (h parent_word (omega arith)), names n ne_word (h ne_word (omega arith)), names n se_word (h se_word (omega arith)), names n sw_word (h sw_word (omega arith)), names n nw_word (h nw_word (omega arith)), names n north_word (h north_word (omega arith)), names n east_word (h east_word (omega arith)), names n south_word (h south_word (omega arith)), names n west_word (h west_word (omega arith)))

  module _ (d n : ℕ) where
    pub plain-row-is : {a e i j k : Bool} →
        a ≡ linked t cap n →
        e ≡ leb (depth_of t d n) (d + 12) →
        i ≡ positive t n i_word →
        j ≡ positive t n j_word →
        k ≡ positive t n flags_word →
        (a && e && i && j && k) ≡ plain_row t cap d n
    unfolding plain_row
    plain-row-is a e i j k = rw (a, e, i, j, k)

    row_plain : linked t cap n ≡ true → depth_of t d n ≤ d + 12 → word_of t n i_word < 2147483648 → word_of t n j_word < 2147483648 → word_of t n flags_word < 2147483648 → plain_row t cap d n ≡ true
    unfolding plain_row
    row_plain l e i j k = rw (l, le-leb (depth_of t d n) (d + 12) e, lt-ltb (word_of t n i_word) 2147483648 i, lt-ltb (word_of t n j_word) 2147483648 j, lt-ltb (word_of t n flags_word) 2147483648 k)

    plain-parts : plain_row t cap d n ≡ true → ((w : ℕ) → w < link_words → word_of t n w ≤ cap) × (depth_of t d n ≤ d + 12) × (word_of t n i_word < 2147483648) × (word_of t n j_word < 2147483648) × (word_of t n flags_word < 2147483648)
    unfolding plain_row
    plain-parts h =
        let a = linked t cap n in
        let b = leb (depth_of t d n) (d + 12) in
        let i = positive t n i_word in
        let j = positive t n j_word in
        let k = positive t n flags_word in
        let h5 = is-yes (a && b && i && j && k) h in
        let h4 = and_left (a && b && i && j) k h5 in
        let h3 = and_left (a && b && i) j h4 in
        let h2 = and_left (a && b) i h3 in (
          λ w l. subst (λ (x : ℕ). x ≤ cap) (sym (eqb→eq _ _ (below_at link_words (λ w. eqb (word_of t n w) (link_of t cap n w)) (and_left a b h2) w l))) (link-within t cap n w),
          leb→le _ _ (and_right a b h2),
          ltb→lt _ _ (and_right (a && b) i h3),
          ltb→lt _ _ (and_right (a && b && i) j h4),
          ltb→lt _ _ (and_right (a && b && i && j) k h5),
        )

  -- ---- all rows

  module _ (d : ℕ) (all : below (suc cap) (plain_row t cap d) ≡ true) where
    row-at : (n : ℕ) → n ≤ cap → plain_row t cap d n ≡ true
    row-at n l = yes-is _ (below_at (suc cap) (plain_row t cap d) (is-yes _ all) n (omega arith))

    pub plain-table : Sized t cap → Readable t cap
    plain-table l =
        record {
          plain = record { sized = l; links = λ n w h. (plain-parts d n (row-at n h)).0 w; flags = λ n h. (plain-parts d n (row-at n h)).4 };
          indices = λ n w h. index n w (plain-parts d n (row-at n h)).2 (plain-parts d n (row-at n h)).3;
        }
      where
        index : (n w : ℕ) → word_of t n i_word < 2147483648 → word_of t n j_word < 2147483648 → level_word < w → w < flags_word → word_of t n w < 2147483648
        index n w i j a b = go (ℕ_discrete w i_word)
          where
            go : Dec (w ≡ i_word) → word_of t n w < 2147483648
            go (yes e) = rw e i
            go (no q) = let e : w ≡ j_word = omega (arith, q) in rw e j

    pub levelled-table : d ≤ 32 → Levelled t cap d
    levelled-table h = record { shallow = h; deep = λ n l. (plain-parts d n (row-at n l)).1 }

-- ---- what passes the test of rows

module _ {g : Grid} {cap : ℕ} {t : List ℤ} {v : List Float} (ok : Tested g cap t v) (r : Rectangle g) where
  kid-high : (n l m : ℕ) → Used cap t n → l ≤ 1 → m ≤ 1 → word_of t n (kid_word l m) ≤ cap
  kid-high n l m u a b = subst (λ (x : ℕ). x ≤ cap) (sym ((ok.row n u).kid-word l m a b)) (link-within t cap n (kid_word l m))

  down-high : (e i j : ℕ) → down_to t cap e i j ≤ cap
  unfolding down_to
  down-high zero i j = go (eqb (i + j) 0)
    where
      go : (b : Bool) → cond b 1 0 ≤ cap
      go true = omega (arith, ok.root-used.high)
      go false = omega arith
  down-high (suc e) i j = go (down_to t cap e (i / 2) (j / 2)) (eqb (down_to t cap e (i / 2) (j / 2)) 0)
    where
      go : (n : ℕ) (b : Bool) → cond b 0 (link_of t cap n (kid_word (i % 2) (j % 2))) ≤ cap
      go n true = omega arith
      go n false = link-within t cap _ _

  side-within : (n : ℕ) (w : Wind) → side_in g t cap n w ≤ cap
  unfolding side_in side_of side_by
  side-within n w = go (crosses g w (at (depth_of t (base g) n) (word_of t n i_word) (word_of t n j_word))) (step g w (at (depth_of t (base g) n) (word_of t n i_word) (word_of t n j_word)))
    where
      go : (b : Bool) (o : Option Place) → cond b (or_else 0 (λ q. down_to t cap q.depth q.i q.j) o) (side_of t cap n w) ≤ cap
      go true none = omega arith
      go true (some q) = down-high q.depth q.i q.j
      go false o = link-within t cap _ _

  side-high : (n : ℕ) (w : Wind) → Used cap t n → T (aside w) → word_of t n (word_of_wind w) ≤ cap
  side-high n w u a = subst (λ (x : ℕ). x ≤ cap) (sym ((ok.row n u).side w a)) (side-within n w)

  parent-high : (n : ℕ) → Used cap t n → Dec (n ≡ 1) → word_of t n parent_word ≤ cap
  parent-high n u (yes e) = omega (arith, ((ok.row n u).top e).0)
  parent-high n u (no e) = subst (λ (x : ℕ). x ≤ cap) (sym ((ok.row n u).child e).is_word) (link-within t cap n parent_word)

  links-high : (n w : ℕ) → Used cap t n → w < link_words → word_of t n w ≤ cap
  links-high n zero u l = parent-high n u (ℕ_discrete n 1)
  links-high n (suc zero) u l = kid-high n 1 1 u (omega arith) (omega arith)
  links-high n (suc (suc zero)) u l = kid-high n 1 0 u (omega arith) (omega arith)
  links-high n (suc (suc (suc zero))) u l = kid-high n 0 0 u (omega arith) (omega arith)
  links-high n (suc (suc (suc (suc zero)))) u l = kid-high n 0 1 u (omega arith) (omega arith)
  links-high n (suc (suc (suc (suc (suc zero))))) u l = side-high n N u tt
  links-high n (suc (suc (suc (suc (suc (suc zero)))))) u l = side-high n E u tt
  links-high n (suc (suc (suc (suc (suc (suc (suc zero))))))) u l = side-high n S u tt
  links-high n (suc (suc (suc (suc (suc (suc (suc (suc zero)))))))) u l = side-high n W u tt
  links-high n (suc (suc (suc (suc (suc (suc (suc (suc (suc w))))))))) u l = absurd (omega arith)

  used-plain : (n : ℕ) → Used cap t n → plain_row t cap (base g) n ≡ true
  used-plain n u =
      let (i, j) = said-small ok r n u in
      row_plain t cap (base g) n (all_named t cap n (λ w. links-high n w u)) (ok.row n u).deep (omega arith) (omega arith) (omega (arith, flags-small ok n u))

  empty-plain : (n : ℕ) → Empty t v n → word_of t n flags_word ≤ free_flags → plain_row t cap (base g) n ≡ true
  unfolding depth_of
  empty-plain n e f =
      row_plain t cap (base g) n
      (all_named t cap n (λ w l. omega (arith, e.words w (omega arith))))
      (rw (e.words level_word (omega arith)) (omega arith))
      (omega (arith, e.words i_word (omega arith)))
      (omega (arith, e.words j_word (omega arith)))
      (omega arith)

  every-plain : (n : ℕ) → n ≤ cap → plain_row t cap (base g) n ≡ true
  every-plain zero h = empty-plain 0 ok.zeroth (omega (arith, ok.zero_flags))
  every-plain (suc k) h = go (ℕ_discrete (word_of t (suc k) flags_word) free_flags)
    where
      go : Dec (word_of t (suc k) flags_word ≡ free_flags) → plain_row t cap (base g) (suc k) ≡ true
      go (yes e) = empty-plain (suc k) (ok.empty (suc k) (omega arith) h e) (omega arith)
      go (no e) = used-plain (suc k) (record { low = omega arith; high = h; taken = e })

pub not_plain : (g : Grid) (cap : ℕ) (t : List ℤ) (v : List Float) → 1 ≤ cap → Rectangle g → {b : Bool} → b ≡ below (suc cap) (plain_row t cap (base g)) → b ≡ false → false ≡ rowwise g t cap v
not_plain g cap t v l r {b} e h = go (rowwise g t cap v) refl
  where
    go : (x : Bool) → rowwise g t cap v ≡ x → false ≡ x
    go true q = sym h ∙ e ∙ below_all (plain_row t cap (base g)) (suc cap) (λ n k. every-plain (rowwise-tested g cap t v l (is-yes _ q)) r n (omega arith))
    go false q = refl

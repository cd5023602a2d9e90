-- Flags anew along the border of a cell, down by kids and level by level, and that there is no row above a level without one.
-- Assumes nothing.
use mathlib.Core.Path.{◌≡◌, refl, sym, ap, ◌∙◌, subst}
use mathlib.Core.Logic.{◌≢◌, ◌⊎◌, inl, inr}
use mathlib.Core.Bool.{Bool, true, false, cond, ◌||◌}
use mathlib.Core.List.{List, [], ◌∷◌}
use Prim.Native.Nat.{ℕ, zero, suc, ◌+◌, ◌-◌, ◌≤◌, ◌<◌}
use native.Mathlib.Omega.{arith}
use native.Mathlib.Numerals.{add-one}
use borrow.Author.Tests.{eq-eqb, ne_eqb}
use lib.Dec.{T, eqb, eqb→eq, ltb→lt}
use lib.ListN.{length, get_or, drop, drop_of_length-le}
use lib.Seq.{drop-cons}
use lib.IntN.{ℤ}
use Rattle.mesh.specs.Tools.{all}
use Rattle.mesh.specs.Picture.{link_words, ne_word, se_word, sw_word, nw_word}
use Rattle.table.specs.Words.{link_of}
use Rattle.edit_laws.specs.Anew.{wall_row, point_row}
use Rattle.anew.specs.NilRow.{nil-walled, nil-pointed}
use Rattle.edit_laws.specs.Tables.{Border, each_kid, each_down, along_corners, along_border, refresh_level, refresh_levels}
use Rattle.place_laws.proofs.Bools.{yes-is, is-yes, or_left, or_right, or_cases, and_left, and_right, neither}
use Rattle.place_laws.proofs.Lists.{all-at, all-weaken}
use Rattle.border.specs.Borders.{is_link, bare_down, BareCorners, BareBorder}

-- ---- down by kids

module _ (f : List ℤ → ℕ → List ℤ) (cap n : ℕ) (ws : List ℕ) where
  pub kid-more : (t : List ℤ) (q : ℕ) {k : ℕ} {u : List ℤ} → q < length ws → k ≡ link_of t cap n (get_or ws q 0) → u ≡ f t k → each_kid f cap n (drop q ws) t ≡ each_kid f cap n (drop (q + 1) ws) u
  kid-more t q h e i = rw (add-one, drop-cons ws q 0 h, i, e)

  pub kid-last : (t : List ℤ) (q : ℕ) → length ws ≤ q → each_kid f cap n (drop q ws) t ≡ t
  kid-last t q h = rw (drop_of_length-le ws h)

pub word_in : (ws : List ℕ) → T (all is_link ws) → (q : ℕ) → q < length ws → get_or ws q 0 < link_words
word_in ws h q l = ltb→lt (get_or ws q 0) link_words (all-at is_link 0 ws h q l)

module _ (f : List ℤ → ℕ → List ℤ) (cap : ℕ) (ws : List ℕ) (t : List ℤ) (n e : ℕ) where
  pub down-last : {u : List ℤ} → e ≡ 0 → u ≡ f t n → u ≡ each_down f cap ws e t n
  unfolding each_down
  down-last h i = rw h i

  pub down-on : e ≢ 0 → n ≢ 0 → each_down f cap ws e t n ≡ each_kid (λ u k. each_down f cap ws (e - 1) u k) cap n ws t
  unfolding each_down
  down-on y z =
      let m : e ≡ suc (e - 1) = omega (arith, y) in
      ap (λ i. each_down f cap ws i t n) m ∙ rw (ne_eqb n 0 z)

-- ---- where no row stands

pub not-met : {P : Type 0} → true ≡ false → P
not-met z = absurd (let w : T false = subst T z tt in w)

module _ (t : List ℤ) (cap : ℕ) (ws : List ℕ) where
  pub bare-nil : (n e : ℕ) → n ≡ 0 → T (bare_down t cap ws e n)
  unfolding bare_down
  bare-nil n zero z = rw (eq-eqb n 0 z) tt
  bare-nil n (suc e) z = rw (eq-eqb n 0 z) tt

  -- nor one level more
  pub bare-up : (e n : ℕ) → T (bare_down t cap ws e n) → T (bare_down t cap ws (suc e) n)
  unfolding bare_down
  bare-up zero n h = or_left (eqb n 0) _ h
  bare-up (suc e) n h = go (or_cases (eqb n 0) (all (λ w. bare_down t cap ws e (link_of t cap n w)) ws) h) (λ k. bare-up e k)
    where
      go : T (eqb n 0) ⊎ T (all (λ w. bare_down t cap ws e (link_of t cap n w)) ws) → ((k : ℕ) → T (bare_down t cap ws e k) → T (bare_down t cap ws (suc e) k))
          → T (eqb n 0 || all (λ w. bare_down t cap ws (suc e) (link_of t cap n w)) ws)
      go (inl i) ih = or_left (eqb n 0) _ i
      go (inr i) ih = or_right (eqb n 0) _ (all-weaken _ _ (λ w. ih (link_of t cap n w)) ws i)

-- ---- kid by kid, as long as no row is met

module _ (cap : ℕ) (ws : List ℕ) where
  abbrev kids_bare : List ℤ → ℕ → ℕ → List ℕ → Bool
  kids_bare t e n ys = all (λ w. bare_down t cap ws e (link_of t cap n w)) ys

  -- before the kid at place q
  pub record Quiet (t₀ t : List ℤ) (e n q : ℕ) : Type 0 where
    pub same : t ≡ t₀
    pub rest : kids_bare t₀ e n ws ≡ kids_bare t₀ e n (drop q ws)

  pub quiet-last : (e n q : ℕ) {t₀ t : List ℤ} → e ≢ 0 → length ws ≤ q → Quiet t₀ t (e - 1) n q → T (bare_down t₀ cap ws e n)
  unfolding bare_down
  quiet-last zero n q y l z = absurd (y refl)
  quiet-last (suc e) n q {t₀} y l z =
      let m : suc e - 1 ≡ e = omega arith in
      let i : kids_bare t₀ (suc e - 1) n ws ≡ true = z.rest ∙ rw (drop_of_length-le ws l) in
      or_right (eqb n 0) (kids_bare t₀ e n ws) (is-yes (kids_bare t₀ e n ws) (rw m at i))

-- ---- a step that leaves row 0 as it is

module _ (f : List ℤ → ℕ → List ℤ) (nil-kept : (t : List ℤ) → f t 0 ≡ t) (cap : ℕ) (ws : List ℕ) where
  abbrev down : ℕ → List ℤ → ℕ → List ℤ
  down e t n = each_down f cap ws e t n

  pub down-nil : (t : List ℤ) (n e : ℕ) → n ≡ 0 → t ≡ down e t n
  unfolding each_down
  down-nil t n zero z = sym (rw z (nil-kept t))
  down-nil t n (suc e) z = rw (eq-eqb n 0 z)

  -- a pass through no row changes nothing
  module _ (t : List ℤ) where
    bare-kids : (e n : ℕ) → ((k : ℕ) → T (bare_down t cap ws e k) → down e t k ≡ t) → (ys : List ℕ) → T (kids_bare cap ws t e n ys) → each_kid (λ u k. down e u k) cap n ys t ≡ t
    bare-kids e n ih [] h = refl
    bare-kids e n ih (y ∷ ys) h =
        let b = bare_down t cap ws e (link_of t cap n y) in
        let r = kids_bare cap ws t e n ys in
        ap (each_kid (λ u k. down e u k) cap n ys) (ih (link_of t cap n y) (and_left b r h)) ∙ bare-kids e n ih ys (and_right b r h)

    pub bare-kept : (e n : ℕ) → T (bare_down t cap ws e n) → down e t n ≡ t
    unfolding bare_down each_down
    bare-kept zero n h = rw (eqb→eq n 0 h) (nil-kept t)
    bare-kept (suc e) n h = go (eqb n 0) (or_cases (eqb n 0) (kids_bare cap ws t e n ws) h) (λ k. bare-kept e k)
      where
        go : (b : Bool) → T b ⊎ T (kids_bare cap ws t e n ws) → ((k : ℕ) → T (bare_down t cap ws e k) → down e t k ≡ t) → cond b t (each_kid (λ u k. down e u k) cap n ws t) ≡ t
        go true i ih = refl
        go false (inl i) ih = absurd i
        go false (inr i) ih = bare-kids e n ih ws i

  pub quiet-more : (e n q : ℕ) {t₀ t u : List ℤ} {k : ℕ} → Quiet cap ws t₀ t e n q → q < length ws → k ≡ link_of t cap n (get_or ws q 0)
      → u ≡ down e t k → T (bare_down t cap ws e k) → Quiet cap ws t₀ u e n (q + 1)
  quiet-more e n q {t₀} {t} {u} {k} z l i j b = record {
    same = j ∙ bare-kept t e k b ∙ z.same;
    rest = z.rest ∙ rw (add-one, drop-cons ws q 0 l) (rw (yes-is (bare_down t₀ cap ws e (link_of t₀ cap n (get_or ws q 0))) one));
  }
    where
      one : T (bare_down t₀ cap ws e (link_of t₀ cap n (get_or ws q 0)))
      one = subst (λ (v : List ℤ). T (bare_down v cap ws e (link_of v cap n (get_or ws q 0)))) z.same (subst (λ (m : ℕ). T (bare_down t cap ws e m)) i b)

-- ---- one level

module _ (b : Border) (cap e : ℕ) where
  -- the rows whose walls the cell can be a side of
  module _ (f : List ℤ → ℕ → List ℤ) (nil-kept : (t : List ℤ) → f t 0 ≡ t) (t : List ℤ) where
    module _ {t₁ t₂ t₃ t₄ : List ℤ}
        (h₁ : t₁ ≡ each_down f cap (sw_word ∷ se_word ∷ nw_word ∷ ne_word ∷ []) e t b.own)
        (h₂ : t₂ ≡ each_down f cap (sw_word ∷ se_word ∷ []) e t₁ b.north)
        (h₃ : t₃ ≡ each_down f cap (sw_word ∷ nw_word ∷ []) e t₂ b.east)
        (h₄ : t₄ ≡ each_down f cap (sw_word ∷ []) e t₃ b.both) where
      pub corners-passed : t₄ ≡ along_corners f cap b e t
      unfolding along_corners
      corners-passed = rw (h₄, h₃, h₂, h₁)

      pub corners-met : {own north east both : Bool}
          → (own ≡ false → T (bare_down t cap (sw_word ∷ se_word ∷ nw_word ∷ ne_word ∷ []) e b.own))
          → (north ≡ false → T (bare_down t₁ cap (sw_word ∷ se_word ∷ []) e b.north))
          → (east ≡ false → T (bare_down t₂ cap (sw_word ∷ nw_word ∷ []) e b.east))
          → (both ≡ false → T (bare_down t₃ cap (sw_word ∷ []) e b.both))
          → (own || (north || (east || both))) ≡ false → BareCorners t cap b e
      corners-met {own} {north} {east} {both} k₁ k₂ k₃ k₄ z =
          let (z₁, y) = neither own (north || (east || both)) z in
          let (z₂, x) = neither north (east || both) y in
          let (z₃, z₄) = neither east both x in
          let i₁ : t₁ ≡ t = h₁ ∙ bare-kept f nil-kept cap _ t e b.own (k₁ z₁) in
          let i₂ : t₂ ≡ t = h₂ ∙ bare-kept f nil-kept cap _ t₁ e b.north (k₂ z₂) ∙ i₁ in
          let i₃ : t₃ ≡ t = h₃ ∙ bare-kept f nil-kept cap _ t₂ e b.east (k₃ z₃) ∙ i₂ in
          record {
            own = k₁ z₁;
            north = subst (λ (u : List ℤ). T (bare_down u cap (sw_word ∷ se_word ∷ []) e b.north)) i₁ (k₂ z₂);
            east = subst (λ (u : List ℤ). T (bare_down u cap (sw_word ∷ nw_word ∷ []) e b.east)) i₂ (k₃ z₃);
            both = subst (λ (u : List ℤ). T (bare_down u cap (sw_word ∷ []) e b.both)) i₃ (k₄ z₄);
          }

    corners-same : BareCorners t cap b e → along_corners f cap b e t ≡ t
    unfolding along_corners
    corners-same k =
        rw (bare-kept f nil-kept cap (sw_word ∷ se_word ∷ nw_word ∷ ne_word ∷ []) t e b.own k.own, bare-kept f nil-kept cap (sw_word ∷ se_word ∷ []) t e b.north k.north, bare-kept f nil-kept cap (sw_word ∷ nw_word ∷ []) t e b.east k.east)
        (bare-kept f nil-kept cap (sw_word ∷ []) t e b.both k.both)

module _ (b : Border) (cap d e : ℕ) where
  walls-skip : (t : List ℤ) → wall_row cap d t 0 ≡ t
  walls-skip t = nil-walled cap t refl d

  points-skip : (t : List ℤ) → point_row cap t 0 ≡ t
  points-skip t = nil-pointed cap t refl

  points-same : (ws : List ℕ) (t : List ℤ) (n : ℕ) → T (bare_down t cap ws e n) → each_down (point_row cap) cap ws e t n ≡ t
  points-same ws t n = bare-kept (point_row cap) points-skip cap ws t e n

  -- both passes
  module _ (t : List ℤ) {t₁ t₂ t₃ t₄ : List ℤ}
      (h₁ : t₁ ≡ along_corners (wall_row cap d) cap b e t)
      (h₂ : t₂ ≡ along_corners (point_row cap) cap b e t₁)
      (h₃ : t₃ ≡ each_down (point_row cap) cap (nw_word ∷ ne_word ∷ []) e t₂ b.south)
      (h₄ : t₄ ≡ each_down (point_row cap) cap (se_word ∷ ne_word ∷ []) e t₃ b.west) where
    pub level-refreshed : t₄ ≡ refresh_level b e t cap d
    unfolding refresh_level along_border
    level-refreshed = rw (h₄, h₃, h₂, h₁)

    pub level-met : {corners south west : Bool}
        → (corners ≡ false → BareCorners t₁ cap b e)
        → (south ≡ false → T (bare_down t₂ cap (nw_word ∷ ne_word ∷ []) e b.south))
        → (west ≡ false → T (bare_down t₃ cap (se_word ∷ ne_word ∷ []) e b.west))
        → (corners || (south || west)) ≡ false → BareBorder t₄ cap b e
    level-met {corners} {south} {west} k₁ k₂ k₃ z =
        let (z₁, y) = neither corners (south || west) z in
        let (z₂, z₃) = neither south west y in
        let i₄ : t₄ ≡ t₃ = h₄ ∙ points-same _ t₃ b.west (k₃ z₃) in
        let i₃ : t₄ ≡ t₂ = i₄ ∙ h₃ ∙ points-same _ t₂ b.south (k₂ z₂) in
        let i₂ : t₄ ≡ t₁ = i₃ ∙ h₂ ∙ corners-same b cap e (point_row cap) points-skip t₁ (k₁ z₁) in
        record {
          corners = subst (λ (u : List ℤ). BareCorners u cap b e) (sym i₂) (k₁ z₁);
          south = subst (λ (u : List ℤ). T (bare_down u cap (nw_word ∷ ne_word ∷ []) e b.south)) (sym i₃) (k₂ z₂);
          west = subst (λ (u : List ℤ). T (bare_down u cap (se_word ∷ ne_word ∷ []) e b.west)) (sym i₄) (k₃ z₃);
        }

  level-same : (t : List ℤ) → BareBorder t cap b e → refresh_level b e t cap d ≡ t
  unfolding refresh_level along_border
  level-same t k =
      rw (corners-same b cap e (wall_row cap d) walls-skip t k.corners, corners-same b cap e (point_row cap) points-skip t k.corners, points-same (nw_word ∷ ne_word ∷ []) t b.south k.south)
      (points-same (se_word ∷ ne_word ∷ []) t b.west k.west)

border-up : {b : Border} {t : List ℤ} {cap e : ℕ} → BareBorder t cap b e → BareBorder t cap b (e + 1)
border-up {b} {t} {cap} {e} k = rw add-one (record {
  corners = record {
    own = bare-up t cap _ e b.own k.corners.own;
    north = bare-up t cap _ e b.north k.corners.north;
    east = bare-up t cap _ e b.east k.corners.east;
    both = bare-up t cap _ e b.both k.corners.both;
  };
  south = bare-up t cap _ e b.south k.south;
  west = bare-up t cap _ e b.west k.west;
})

-- ---- level by level

module _ (b : Border) (t : List ℤ) (cap d e : ℕ) where
  pub levels-on : {u : List ℤ} → e < 13 → u ≡ refresh_level b e t cap d → refresh_levels (13 - e) b e t cap d ≡ refresh_levels (13 - (e + 1)) b (e + 1) u cap d
  unfolding refresh_levels
  levels-on h i =
      let m : 13 - e ≡ suc (13 - (e + 1)) = omega arith in
      rw (m, i)

  pub levels-done : 13 ≤ e → refresh_levels (13 - e) b e t cap d ≡ t
  unfolding refresh_levels
  levels-done h =
      let m : 13 - e ≡ 0 = omega arith in
      rw m

-- from a level without a row on nothing changes
levels-bare : (b : Border) (t : List ℤ) (cap d n e : ℕ) → BareBorder t cap b e → refresh_levels n b e t cap d ≡ t
unfolding refresh_levels
levels-bare b t cap d zero e k = refl
levels-bare b t cap d (suc n) e k = rw (level-same b cap d e t k) (levels-bare b t cap d n (e + 1) (border-up k))

pub levels-end : (b : Border) (t : List ℤ) (cap d n e : ℕ) → BareBorder t cap b e → refresh_levels n b (e + 1) t cap d ≡ t
levels-end b t cap d n e k = levels-bare b t cap d n (e + 1) (border-up k)

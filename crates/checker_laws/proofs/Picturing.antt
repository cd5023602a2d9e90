-- The table and the values are those of the decoded state, word by word: the nil patch's row, a free row, and of a row in use the links, the
-- place, the flags and the status.
-- Assumes nothing.
use Prim.Native.Nat.{ℕ, zero, suc, ◌+◌, ◌*◌, ◌/◌, ◌%◌, ◌≤◌, ◌<◌}
use native.Mathlib.Omega.{arith}
use native.Mathlib.Decide.{ℕ_discrete, dec_lt}
use mathlib.Core.Path.{◌≡◌, sym, ap, ◌∙◌, subst}
use mathlib.Core.Bool.{Bool}
use mathlib.Core.Option.{Option, some}
use mathlib.Core.List.{List}
use lib.Dec.{T, lit<, lit≤}
use lib.ListN.{length, get_or}
use lib.Seq.{ext_get_or}
use lib.IntN.{ℤ, pos}
use lib.Ieee.{Float}
use Rattle.mesh.specs.Tools.{digits}
use Rattle.mesh.specs.Place.{Place, Grid, parent, kid, step, around, level, Wind, NE, SE, SW, NW, N, E, S, W}
use Rattle.mesh.specs.Winds.{word_of_wind}
use Rattle.mesh.specs.Mesh.{flags}
use Rattle.mesh.specs.State.{State, Entry, free, used, Cell, plus_zero, status, amount, is_sentenced, value_of, entry, cells, number, number_of}
use Rattle.mesh.specs.Picture.{row_words, fields, row_of, table, amounts, parent_word, ne_word, se_word, sw_word, nw_word, north_word, east_word, south_word, west_word, level_word, i_word, j_word, flags_word, status_word, free_flags}
use Rattle.table.specs.Words.{word_of, link_of, Fits}
use Rattle.carried.specs.Carried.{carried_of}
use Rattle.carried.proofs.CarriedWords.{status-word}
use Rattle.worked.specs.Worked.{kid_word}
use Rattle.place_laws.proofs.SideDigits.{aside, kid_by, kid-by}
use Rattle.picture_laws.proofs.Rows.{nil-word, table-length, table-word, amounts-length, amounts-at}
use Rattle.checker_laws.proofs.Facts.{Used, said_place, link-high}
use Rattle.checker_laws.proofs.Climbing.{said-i, said-j, said-small}
use Rattle.checker_laws.proofs.Reading.{Reads, raw_word, level-word, flags-small, status-small}
use Rattle.checker_laws.proofs.Linking.{number-used, parent-link, parent-word, kids-link, side_same, side-link}
use Rattle.checker_laws.proofs.Flagging.{flags-word}
use Rattle.checker_laws.proofs.Valuing.{status-row, amount-row, sentence-row}

-- ---- fourteen words

-- a law of the n numbers from i on, one by one
abbrev From : (ℕ → Type 0) → ℕ → ℕ → Type 0
From P i zero = Unit {0}
From P i (suc n) = P i × From P (suc i) n

from_at : (P : ℕ → Type 0) (i n : ℕ) → From P i n → (w : ℕ) → i ≤ w → w < i + n → P w
from_at P i zero h w a b = absurd (omega arith)
from_at P i (suc n) h w a b = go (ℕ_discrete i w) (from_at P (suc i) n h.1 w)
  where
    go : Dec (i ≡ w) → (suc i ≤ w → w < suc i + n → P w) → P w
    go (yes e) r = subst P e h.0
    go (no e) r = r (omega (arith, e)) (omega arith)

module _ {g : Grid} {cap : ℕ} {t : List ℤ} {v : List Float} {es : List Entry} (o : Reads g cap t v es) (f : Fits t) (room : cap ≤ 4095) where
  -- the word w of the row n as it stands in the table
  abbrev raw : ℕ → ℕ → ℤ
  raw n w = get_or t (n * row_words + w) (pos 0)

  is_pos : (n w k : ℕ) → word_of t n w ≡ k → k < 2147483648 → raw n w ≡ pos k
  is_pos n w k e l = raw_word t n w (omega arith) ∙ ap pos e

  -- ---- rows without a patch

  nil-row : (w : ℕ) → w < row_words → raw 0 w ≡ pos 0
  nil-row w l = is_pos 0 w 0 (go (dec_lt w flags_word) (ℕ_discrete w flags_word)) (lit< tt)
    where
      go : Dec (w < flags_word) → Dec (w ≡ flags_word) → word_of t 0 w ≡ 0
      go (yes a) b = o.tested.zeroth.words w a
      go (no a) (yes b) = rw b o.tested.zero_flags
      go (no a) (no b) = let e : w ≡ status_word = omega (arith, a, b) in rw e (status-word t v 0 ∙ o.tested.zeroth.status)

  free-row : (n : ℕ) → 1 ≤ n → n ≤ cap → word_of t n flags_word ≡ free_flags → (w : ℕ) → w < row_words → raw n w ≡ get_or (row_of g es free) w (pos 0)
  unfolding row_of around fields
  free-row n l h e w k =
      from_at (λ w. raw n w ≡ get_or (row_of g es free) w (pos 0)) 0 row_words (
        z parent_word (lit< tt),
        (
          z ne_word (lit< tt),
          (
            z se_word (lit< tt),
            (
              z sw_word (lit< tt),
              (
                z nw_word (lit< tt),
                (
                  z north_word (lit< tt),
                  (
                    z east_word (lit< tt),
                    (
                      z south_word (lit< tt),
                      (
                        z west_word (lit< tt),
                        (
                          z level_word (lit< tt),
                          (
                            z i_word (lit< tt),
                            (
                              z j_word (lit< tt),
                              (is_pos n flags_word free_flags e (lit< tt), (is_pos n status_word 0 (status-word t v n ∙ (o.tested.empty n l h e).status) (lit< tt), tt)),
                            ),
                          ),
                        ),
                      ),
                    ),
                  ),
                ),
              ),
            ),
          ),
        ),
      )
      w (omega arith) k
    where
      z : (w : ℕ) → w < flags_word → raw n w ≡ pos 0
      z w i = is_pos n w 0 ((o.tested.empty n l h e).words w i) (lit< tt)

  -- ---- a row in use

  module _ (n : ℕ) (u : Used cap t n) where
    abbrev p : Place
    p = said_place g t n

    -- the word of a link, by the number at the link's place
    by-link : (w k : ℕ) → word_of t n w ≡ link_of t cap n w → k ≡ link_of t cap n w → raw n w ≡ pos k
    by-link w k e i = is_pos n w k (e ∙ sym i) (omega (arith, link-high t cap n w))

    by-kid : (w : Wind) (l m : ℕ) → l ≤ 1 → m ≤ 1 → kid_by l m p ≡ kid w p → raw n (kid_word l m) ≡ pos (number es (kid w p))
    by-kid w l m a b e =
        by-link (kid_word l m) (number es (kid w p)) ((o.tested.row n u).kid-word l m a b)
        (ap (number es) (sym e) ∙ kids-link o l m a b (some p) ∙ ap (λ (k : ℕ). link_of t cap k (kid_word l m)) (number-used o n u))

    by_side : (w : Wind) → T (aside w) → raw n (word_of_wind w) ≡ pos (number_of es (step g w p))
    by_side w a = by-link (word_of_wind w) (number_of es (step g w p)) (side_same o w a n u) (side-link o w a n u)

    by_level : raw n level_word ≡ level g p
    unfolding level said_place
    by_level = level-word g t f n (o.tested.row n u).deep

    by_flags : raw n flags_word ≡ pos (digits (flags g (cells es) p (is_sentenced (entry es n))))
    by_flags =
        is_pos n flags_word (digits (flags g (cells es) p (is_sentenced (entry es n)))) (rw (sentence-row o n u) (flags-word o n u))
        (omega (arith, flags-small o.tested n u, flags-word o n u, ap (λ (b : Bool). digits (flags g (cells es) p b)) (sentence-row o n u)))

    by-status : raw n status_word ≡ pos (status (value_of (entry es n)))
    by-status = is_pos n status_word (status (value_of (entry es n))) (status-word t v n ∙ sym (status-row o n u)) (omega (arith, status-row o n u, status-small o.tested n u))

    used-words : (x : Option Cell) → entry es n ≡ used p x → (w : ℕ) → w < row_words → raw n w ≡ get_or (row_of g es (used p x)) w (pos 0)
    unfolding row_of around fields
    used-words x e w l =
        let (i, j) = said-small o.tested o.in-range n u in
        from_at (λ w. raw n w ≡ get_or (row_of g es (used p x)) w (pos 0)) 0 row_words (
          by-link parent_word (number_of es (parent p)) (parent-word o n u) (parent-link o n u),
          (
            by-kid NE 1 1 (lit≤ tt) (lit≤ tt) (sym (kid-by NE p)),
            (
              by-kid SE 1 0 (lit≤ tt) (lit≤ tt) (sym (kid-by SE p)),
              (
                by-kid SW 0 0 (lit≤ tt) (lit≤ tt) (sym (kid-by SW p)),
                (
                  by-kid NW 0 1 (lit≤ tt) (lit≤ tt) (sym (kid-by NW p)),
                  (
                    by_side N tt,
                    (
                      by_side E tt,
                      (
                        by_side S tt,
                        (
                          by_side W tt,
                          (
                            by_level,
                            (
                              is_pos n i_word p.i (sym (said-i g t n)) (omega (arith, said-i g t n)),
                              (
                                is_pos n j_word p.j (sym (said-j g t n)) (omega (arith, said-j g t n)),
                                (
                                  rw e at by_flags,
                                  (
                                    rw e at by-status,
                                    tt,
                                  ),
                                ),
                              ),
                            ),
                          ),
                        ),
                      ),
                    ),
                  ),
                ),
              ),
            ),
          ),
        )
        w (omega arith) l

  -- ---- every row

  row_words_lem : (n : ℕ) → n ≤ cap → (w : ℕ) → w < row_words → raw n w ≡ get_or (row_of g es (entry es n)) w (pos 0)
  row_words_lem n h w l = go (ℕ_discrete n 0) (ℕ_discrete (word_of t n flags_word) free_flags)
    where
      go : Dec (n ≡ 0) → Dec (word_of t n flags_word ≡ free_flags) → raw n w ≡ get_or (row_of g es (entry es n)) w (pos 0)
      go (yes z) d = rw (z, o.numbered.zeroth) (nil-row w l ∙ sym (nil-word g es w))
      go (no z) (yes d) = rw (o.entry_free n (omega (arith, z)) h d) (free-row n (omega (arith, z)) h d w l)
      go (no z) (no d) =
          let u : Used cap t n = record { low = omega (arith, z); high = h; taken = d } in
          rw (o.entry-used n u) (used-words n u _ (o.entry-used n u) w l)

  row-amount : (n : ℕ) → n ≤ cap → get_or v n plus_zero ≡ amount (value_of (entry es n))
  unfolding carried_of
  row-amount n h = go (ℕ_discrete n 0) (ℕ_discrete (word_of t n flags_word) free_flags)
    where
      go : Dec (n ≡ 0) → Dec (word_of t n flags_word ≡ free_flags) → get_or v n plus_zero ≡ amount (value_of (entry es n))
      go (yes z) d = rw (z, o.numbered.zeroth) o.tested.zeroth.value
      go (no z) (yes d) = rw (o.entry_free n (omega (arith, z)) h d) (o.tested.empty n (omega (arith, z)) h d).value
      go (no z) (no d) = sym (amount-row o n (record { low = omega (arith, z); high = h; taken = d }))

-- ---- the table and the values

module _ (s : State) {cap : ℕ} {t : List ℤ} {v : List Float} (o : Reads s.header.grid cap t v s.entries) (f : Fits t) (room : cap ≤ 4095) where
  pub are_words : length t ≡ row_words * (cap + 1) → t ≡ table s
  are_words len =
      ext_get_or (pos 0) t (table s) (omega (arith, table-length s, o.size)) (λ i l.
      let split : i ≡ i / 14 * row_words + i % 14 = omega arith in
      ap (λ (k : ℕ). get_or t k (pos 0)) split
      ∙ row_words_lem o f room (i / 14) (omega arith) (i % 14) (omega arith)
      ∙ sym (table-word s (i / 14) (i % 14) (omega arith))
      ∙ ap (λ (k : ℕ). get_or (table s) k (pos 0)) (sym split))

  pub are-amounts : length v ≡ cap + 1 → v ≡ amounts s
  are-amounts len = ext_get_or plus_zero v (amounts s) (omega (arith, amounts-length s, o.size)) (λ i l. row-amount o f room i (omega arith) ∙ sym (amounts-at s i))

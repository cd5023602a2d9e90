-- What a table that passes the test decodes to: a row in use stands at the place that its words say, with a cell exactly if its flag 0 says so;
-- every other row is free; and no two rows stand at one place.
-- Assumes nothing.
use Prim.Native.Nat.{ℕ, zero, suc, ◌+◌, ◌*◌, ◌^◌, ◌≤◌, ◌<◌}
use native.Mathlib.Omega.{arith}
use native.Mathlib.Decide.{ℕ_discrete, dec_lt}
use mathlib.Core.Path.{◌≡◌, refl, sym, ap, ◌∙◌}
use mathlib.Core.Bool.{Bool, true, false, cond}
use mathlib.Core.Option.{none, some, none-ne-some, some-injective}
use mathlib.Core.List.{List, [], ◌∷◌, tail}
use lib.Dec.{lit<}
use lib.IntN.{ℤ, pos, nat_abs, sub_ℕ, ◌+ℤ◌}
use lib.Ieee.{Float}
use lib.ListN.{length, get_or, take, drop}
use lib.Seq.{get_or-take, get_or-drop, drop-drop}
use Rattle.number_laws.specs.Numbered.{Numbered}
use Rattle.mesh.specs.Call.{Rectangle}
use Rattle.mesh.specs.Tools.{digits}
use Rattle.mesh.specs.Place.{Place, Grid, base}
use Rattle.mesh.specs.State.{Entry, nil, free, used, Cell, plus_zero, place_of, entry}
use Rattle.mesh.specs.Picture.{row_words, level_word, i_word, j_word, flags_word, status_word, free_flags, Lent}
use Rattle.mesh.specs.Decode.{digits_of, flag, place_from, entry_by, entry_from, entries_from, decode}
use Rattle.mesh.specs.Mesh.{complete_bit, sentenced_bit, dead_bit}
use Rattle.table.specs.Words.{word_of, flag_of, depth_of, Fits}
use Rattle.carried.specs.Carried.{carried_of, status_of, value_carried}
use Rattle.worked.specs.Worked.{flags_from}
use Rattle.carried.proofs.CarriedWords.{status-word, value-listed}
use Rattle.place_laws.proofs.Places.{place-path}
use Rattle.number_laws.proofs.Entries.{in_list}
use Rattle.picture_laws.proofs.Decoding.{level-back}
use Rattle.checker_laws.proofs.Facts.{Used, said_place, Tested}
use Rattle.checker_laws.proofs.Climbing.{said-once, said-small}
use Rattle.checker_laws.proofs.WordsBack.{code-pos, level-read, digit_at, digits-below, flag-of, flag-zero}
use Rattle.checker_laws.proofs.Patches.{held_small, ghost-facts, point-facts, value-facts}

-- what a cell's row says of the cell
abbrev pub cell_from : List ℤ → List Float → ℕ → Cell
cell_from t v n = record { sentenced = flag_of t sentenced_bit n; value = value_carried (carried_of t v n) }

-- the entries are what the rows say
pub record Reads (g : Grid) (cap : ℕ) (t : List ℤ) (v : List Float) (es : List Entry) : Type 0 where
  pub tested : Tested g cap t v
  pub in-range : Rectangle g
  pub size : length es ≡ cap + 1
  pub numbered : Numbered es
  pub entry-used : (n : ℕ) → Used cap t n → entry es n ≡ used (said_place g t n) (cond (flag_of t complete_bit n) (some (cell_from t v n)) none)
  pub entry_free : (n : ℕ) → 1 ≤ n → n ≤ cap → word_of t n flags_word ≡ free_flags → entry es n ≡ free
  pub used-at : (n : ℕ) (p : Place) → place_of (entry es n) ≡ some p → Used cap t n × (said_place g t n ≡ p)

-- ---- the rows of a table

abbrev row_at : List ℤ → ℕ → List ℤ
row_at t n = take row_words (drop (n * row_words) t)

row_word : (t : List ℤ) (n w : ℕ) → w < row_words → get_or (row_at t n) w (pos 0) ≡ get_or t (n * row_words + w) (pos 0)
row_word t n w l = get_or-take row_words (drop (n * row_words) t) w (pos 0) l ∙ get_or-drop (n * row_words) t w (pos 0)

entries_at : (g : Grid) (t : List ℤ) (xs : List Float) (n : ℕ) → n < length xs → get_or (entries_from g t xs) n nil ≡ entry_from g (row_at t n) (get_or xs n plus_zero)
entries_at g t [] n l = absurd (omega arith)
entries_at g t (x ∷ xs) zero l = refl
entries_at g t (x ∷ xs) (suc n) l =
    let e : row_words + n * row_words ≡ suc n * row_words = omega arith in
    entries_at g (drop row_words t) xs n (omega arith)
    ∙ ap (λ (u : List ℤ). entry_from g (take row_words u) (get_or xs n plus_zero)) (drop-drop (n * row_words) row_words t ∙ ap (λ (k : ℕ). drop k t) e)

entries-length : (g : Grid) (t : List ℤ) (xs : List Float) → length (entries_from g t xs) ≡ length xs
entries-length g t [] = refl
entries-length g t (x ∷ xs) = ap suc (entries-length g (drop row_words t) xs)

-- with the nil patch before them
listed_at : (g : Grid) (t : List ℤ) (v : List Float) (n : ℕ) → 1 ≤ n → n < length v → entry (nil ∷ entries_from g (drop row_words t) (tail v)) n ≡ entry_from g (row_at t n) (get_or v n plus_zero)
listed_at g t v zero l k = absurd (omega arith)
listed_at g t [] (suc n) l k = absurd (omega arith)
listed_at g t (x ∷ xs) (suc n) l k =
    let e : row_words + n * row_words ≡ suc n * row_words = omega arith in
    entries_at g (drop row_words t) xs n (omega arith)
    ∙ ap (λ (u : List ℤ). entry_from g (take row_words u) (get_or xs n plus_zero)) (drop-drop (n * row_words) row_words t ∙ ap (λ (k : ℕ). drop k t) e)

listed-length : (g : Grid) (t : List ℤ) (v : List Float) → 1 ≤ length v → suc (length (entries_from g (drop row_words t) (tail v))) ≡ length v
listed-length g t [] l = absurd (omega arith)
listed-length g t (x ∷ xs) l = ap suc (entries-length g (drop row_words t) xs)

module _ (l : Lent) where
  entry_at : (n : ℕ) → 1 ≤ n → n < length l.values → entry (decode l).entries n ≡ entry_from l.header.grid (row_at l.words n) (get_or l.values n plus_zero)
  unfolding decode
  entry_at = listed_at l.header.grid l.words l.values

  decode-length : 1 ≤ length l.values → length (decode l).entries ≡ length l.values
  unfolding decode
  decode-length = listed-length l.header.grid l.words l.values

  decode-zeroth : entry (decode l).entries 0 ≡ nil
  unfolding decode
  decode-zeroth = refl

-- ---- a row by its words

pub raw_word : (t : List ℤ) (n w : ℕ) → word_of t n w < 2147483648 → get_or t (n * row_words + w) (pos 0) ≡ pos (word_of t n w)
unfolding word_of
raw_word t n w l = code-pos (get_or t (n * row_words + w) (pos 0)) l

module _ (t : List ℤ) (n : ℕ) where
  small_word : (w : ℕ) → w < row_words → word_of t n w < 2147483648 → get_or (row_at t n) w (pos 0) ≡ pos (word_of t n w)
  small_word w l s = row_word t n w l ∙ raw_word t n w s

  row-flag : word_of t n flags_word < 2147483648 → (b : ℕ) → b < 14 → flag (row_at t n) b ≡ flag_of t b n
  unfolding flag_of
  row-flag s b l = ap (λ (z : ℤ). get_or (digits_of 14 (nat_abs z)) b false) (small_word flags_word (lit< tt) s) ∙ digit_at 14 (word_of t n flags_word) b l

-- the level that the row's word says
pub level-word : (g : Grid) (t : List ℤ) → Fits t → (n : ℕ) → depth_of t (base g) n ≤ base g + 12 → get_or t (n * row_words + level_word) (pos 0) ≡ sub_ℕ (depth_of t (base g) n) (base g)
unfolding depth_of word_of
level-word g t f n h = level-read (base g) (get_or t (n * row_words + level_word) (pos 0)) (f (n * row_words + level_word)) h

row-place : (g : Grid) (t : List ℤ) → Fits t → (n : ℕ) → depth_of t (base g) n ≤ base g + 12 → word_of t n i_word < 2147483648 → word_of t n j_word < 2147483648 → place_from g (row_at t n) ≡ said_place g t n
unfolding said_place
row-place g t f n h x y =
    place-path (place_from g (row_at t n)) (said_place g t n)
    (ap (λ (z : ℤ). nat_abs (z +ℤ pos (base g))) (row_word t n level_word (lit< tt) ∙ level-word g t f n h) ∙ level-back (depth_of t (base g) n) (base g))
    (ap nat_abs (small_word t n i_word (lit< tt) x)) (ap nat_abs (small_word t n j_word (lit< tt) y))

-- ---- a table that passes

module _ {g : Grid} {cap : ℕ} {t : List ℤ} {v : List Float} (ok : Tested g cap t v) where
  -- the flags of a patch from level 0 up
  pub point-flag : (n : ℕ) → Used cap t n → base g ≤ depth_of t (base g) n → (k : ℕ) → k < 14 → flag_of t k n ≡ get_or (flags_from t cap (base g) n (flag_of t sentenced_bit n)) k false
  unfolding flags_from
  point-flag n u l k s = flag-of t n (flags_from t cap (base g) n (flag_of t sentenced_bit n)) refl (point-facts g cap t n ((ok.row n u).point l)).flags k s

  pub ghost-flag : (n : ℕ) → Used cap t n → depth_of t (base g) n < base g → (k : ℕ) → flag_of t k n ≡ false
  ghost-flag n u l k = flag-zero t n k (ghost-facts cap t n ((ok.row n u).ghost l)).flags

  dead-flag : (n : ℕ) → Used cap t n → flag_of t dead_bit n ≡ false
  unfolding flags_from
  dead-flag n u = go (dec_lt (depth_of t (base g) n) (base g))
    where
      go : Dec (depth_of t (base g) n < base g) → flag_of t dead_bit n ≡ false
      go (yes l) = ghost-flag n u l dead_bit
      go (no l) = point-flag n u (omega (arith, l)) dead_bit (lit< tt)

  pub flags-small : (n : ℕ) → Used cap t n → word_of t n flags_word < 16384
  unfolding flags_from
  flags-small n u = go (dec_lt (depth_of t (base g) n) (base g))
    where
      go : Dec (depth_of t (base g) n < base g) → word_of t n flags_word < 16384
      go (yes l) = omega (arith, (ghost-facts cap t n ((ok.row n u).ghost l)).flags)
      go (no l) =
          let bs = flags_from t cap (base g) n (flag_of t sentenced_bit n) in
          let b : digits bs < 2 ^ 14 = digits-below bs in
          omega (arith, (point-facts g cap t n ((ok.row n u).point (omega (arith, l)))).flags)

  pub status-small : (n : ℕ) → Used cap t n → status_of (carried_of t v n) ≤ 2
  status-small n u = go (ℕ_discrete (status_of (carried_of t v n)) 0)
    where
      go : Dec (status_of (carried_of t v n) ≡ 0) → status_of (carried_of t v n) ≤ 2
      go (yes e) = omega arith
      go (no e) = held_small ((value-facts cap t v n (ok.row n u).value).1 e)

module _ (l : Lent) {cap : ℕ} (ok : Tested l.header.grid cap l.words l.values) (r : Rectangle l.header.grid) (f : Fits l.words) (len : length l.values ≡ cap + 1) where
  abbrev g : Grid
  g = l.header.grid

  abbrev t : List ℤ
  t = l.words

  abbrev es : List Entry
  es = (decode l).entries

  entries-size : length (decode l).entries ≡ cap + 1
  entries-size = decode-length l (omega arith) ∙ len

  -- a row in use
  entry-used : (n : ℕ) → Used cap t n → entry (decode l).entries n ≡ used (said_place g t n) (cond (flag_of t complete_bit n) (some (cell_from t l.values n)) none)
  entry-used n u =
      let (x, y) = said-small ok r n u in
      let s : word_of t n flags_word < 2147483648 = omega (arith, flags-small ok n u) in
      let k : word_of t n status_word < 2147483648 = omega (arith, status-small ok n u, status-word t l.values n) in
      entry_at l n u.low (omega (arith, u.high))
      ∙ rw (
        row-flag t n s dead_bit (lit< tt),
        row-flag t n s sentenced_bit (lit< tt),
        row-flag t n s complete_bit (lit< tt),
        dead-flag ok n u,
        row-place g t f n (ok.row n u).deep (omega arith) (omega arith),
        small_word t n status_word (lit< tt) k,
        status-word t l.values n,
        value-listed t l.values n,
      ) (go (flag_of t complete_bit n))
    where
      go : (b : Bool) → entry_by false b (said_place g t n) (cell_from t l.values n) ≡ used (said_place g t n) (cond b (some (cell_from t l.values n)) none)
      go true = refl
      go false = refl

  entry_free : (n : ℕ) → 1 ≤ n → n ≤ cap → word_of t n flags_word ≡ free_flags → entry (decode l).entries n ≡ free
  unfolding flag_of
  entry_free n a k e =
      let s : word_of t n flags_word < 2147483648 = omega arith in
      entry_at l n a (omega arith) ∙ rw (row-flag t n s dead_bit (lit< tt), e)

  -- a place is a row's in use
  used-at : (n : ℕ) (p : Place) → place_of (entry (decode l).entries n) ≡ some p → Used cap t n × (said_place g t n ≡ p)
  used-at n p e = go (ℕ_discrete n 0) (ℕ_discrete (word_of t n flags_word) free_flags)
    where
      high : n ≤ cap
      high = omega (arith, in_list es n p e, entries-size)

      go : Dec (n ≡ 0) → Dec (word_of t n flags_word ≡ free_flags) → Used cap t n × (said_place g t n ≡ p)
      go (yes z) d = absurd (none-ne-some _ (ap place_of (sym (decode-zeroth l) ∙ ap (entry es) (sym z)) ∙ e))
      go (no z) (yes d) = absurd (none-ne-some _ (ap place_of (sym (entry_free n (omega (arith, z)) high d)) ∙ e))
      go (no z) (no d) =
          let u : Used cap t n = record { low = omega (arith, z); high = high; taken = d } in
          (u, some-injective _ _ (ap place_of (sym (entry-used n u)) ∙ e))

  numbering : Numbered (decode l).entries
  numbering = record {
    zeroth = decode-zeroth l;
    once = λ n m p a b.
        let (un, sn) = used-at n p a in
        let (um, sm) = used-at m p b in
        said-once ok n m un um (sn ∙ sym sm);
  }

  pub decode-reads : Reads l.header.grid cap l.words l.values (decode l).entries
  decode-reads = record { tested = ok; in-range = r; size = entries-size; numbered = numbering; entry-used = entry-used; entry_free = entry_free; used-at = used-at }

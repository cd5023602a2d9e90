-- The page is its first line, the lines of the leaves and its last line: how long it is, and that it is put line by line.
-- Assumes nothing.
use Prim.Native.Nat.{ℕ, ◌+◌, ◌%◌, ◌^◌, ◌≤◌, ◌<◌}
use native.Mathlib.Nat.{zero-add}
use native.Mathlib.Omega.{arith}
use mathlib.Core.Path.{◌≡◌, sym, ap, ◌∙◌}
use mathlib.Core.Bool.{Bool, true, false}
use mathlib.Core.List.{List}
use lib.Dec.{leb}
use lib.ListN.{length, get_or, take, length-append}
use lib.Seq.{sets-eq}
use borrow.Author.Tests.{leb-true, leb-false, lt-ltb, le-ltb}
use Rattle.mesh.specs.State.{Header}
use Rattle.mesh.specs.Page.{decimal, head_line, total, foot_line}
use Rattle.mesh.specs.Call.{unless, over, writing}
use Rattle.mesh.specs.Refusal.{refusal}
use Rattle.lines.specs.Puts.{Put}
use Rattle.lines.specs.LeafLines.{all_lines}
use Rattle.header.specs.Headers.{header_of}
use Rattle.page.specs.PageRows.{body_of, page_of}
use Rattle.page.specs.WholePage.{body, whole}
use Rattle.page.specs.declared.pages.Page.{Page}
use Rattle.lines.proofs.Puts.{total-append, put-more, put_as, put_front}
use Rattle.lines.proofs.Worded.{head-size, foot-size, foot-short}

module _ (page : Page) where
  abbrev h : Header
  h = header_of page.header

  -- how many leaves it has
  abbrev count : ℕ
  count = length page.leaves.rows.now

  abbrev head : List ℕ
  head = head_line h

  abbrev lines : List ℕ
  lines = all_lines page.leaves

  -- ---- how long it is

  body-parts : length (body page) ≡ length head + length lines
  unfolding body_of
  body-parts = length-append head lines

  pub body-size : length (body page) ≡ length (decimal h.grid.columns) + length (decimal h.grid.rows) + length (decimal h.mark) + 12 + length lines
  body-size = omega (arith, body-parts, head-size h)

  page-parts : length (whole page) ≡ length (body page) + length (foot_line count (total (body page) % 2 ^ 32))
  unfolding page_of
  page-parts = length-append (body page) (foot_line count (total (body page) % 2 ^ 32))

  -- by the sum as it was worked out
  pub page-size : (k s : ℕ) → k ≡ count → s ≡ total (body page) % 2 ^ 32 → length (whole page) ≡ length (body page) + length (decimal k) + length (decimal s) + 12
  page-size k s e f = rw (e, f) (omega (arith, page-parts, foot-size count (total (body page) % 2 ^ 32)))

  pub page-lines : (k s : ℕ) → k ≡ count → s ≡ total (body page) % 2 ^ 32
      → length (whole page) ≡ length head + length lines + length (foot_line k s)
  page-lines k s e f = rw (e, f) (omega (arith, page-parts, body-parts))

  pub page-short : length (whole page) ≤ length (body page) + 52
  page-short = omega (arith, page-parts, foot-short count (total (body page) % 2 ^ 32))

  pub page-long : length head + length lines ≤ length (whole page)
  page-long = omega (arith, page-parts, body-parts)

  pub body-total : total (body page) ≡ total head + total lines
  unfolding body_of
  body-total = total-append head lines

  -- ---- line by line

  pub body-put : {d e g : List ℕ} {p q : ℕ} → Put d 0 head e p → Put e p lines g q → Put d 0 (body page) g q
  unfolding body_of
  body-put w u = put-more w u

  -- the sum of what stands before the last line
  pub body-sum : {d e g : List ℕ} {p q : ℕ} → Put d 0 head e p → Put e p lines g q → length (whole page) ≤ length d
      → total (take q g) ≡ total (body page)
  body-sum w u f = ap total (put_front (body-put w u) (omega (arith, page-parts)))

  pub page-put : {d e g i : List ℕ} {p q r : ℕ} (k s : ℕ) → k ≡ count → s ≡ total (body page) % 2 ^ 32
      → Put d 0 head e p → Put e p lines g q → Put g q (foot_line k s) i r → Put d 0 (whole page) i r
  unfolding page_of
  page-put k s e f w u z = put-more (body-put w u) (put_as (rw (e, f)) z)

-- ---- the leaves as they were found

module _ {ns d e : List ℕ} {r : ℕ} (w : Put d 0 ns e r) (room : length ns ≤ length d) where
  pub found-few : length ns ≤ 4096 → length (take r e) ≤ 4096
  found-few h = rw (put_front w room) h

  pub found_within : (cap : ℕ) → ((i : ℕ) → get_or ns i 0 ≤ cap) → (i : ℕ) → get_or (take r e) i 0 ≤ cap
  found_within cap h i = rw (put_front w room) (h i)

-- ---- refused, or written

module _ (xs out : List ℕ) where
  pub page-over : {b : Bool} → b ≡ false → b ≡ leb (length xs) (length out) → length out < length xs
  page-over h e = leb-false (length xs) (length out) (sym e ∙ h)

  pub page-room : {b : Bool} → b ≡ true → b ≡ leb (length xs) (length out) → length xs ≤ length out
  page-room h e = leb-true (length xs) (length out) (sym e ∙ h)

  pub page-refused : length out < length xs → record { refusal = 18; count = 0; out = out } ≡ writing xs out
  unfolding refusal unless
  page-refused h = rw (lt-ltb (length out) (length xs) h)

  pub page-written : {e : List ℕ} {r : ℕ} → length xs ≤ length out → Put out 0 xs e r → record { refusal = 0; count = r; out = e } ≡ writing xs out
  unfolding refusal unless
  page-written {e} {r} k w =
      let c : r ≡ length xs = omega (arith, w.next) in
      let o : e ≡ over xs out = w.stored ∙ sets-eq xs out 0 (omega arith) ∙ rw zero-add in
      rw (le-ltb (length out) (length xs) k, c, o)

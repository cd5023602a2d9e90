-- The dossier page, as bytes (01, 'Walks, points, page').
-- Assumes nothing.
use Rattle.std.specs.Prelude.{ℕ, zero, suc, ◌+◌, ◌/◌, ◌%◌, ◌^◌, true, false, cond, List, [], ◌∷◌, ◌++◌, map, ltb, length, nat_abs}
use Rattle.std.specs.Float.Ieee.{to_bits}
use Rattle.std.specs.Float.{binary64}
use Rattle.mesh.specs.Tools.{flat}
use Rattle.mesh.specs.Place.{Grid, is_ring, NE, SE, SW, NW, level, base, root}
use Rattle.mesh.specs.Mesh.{leaf}
use Rattle.mesh.specs.State.{State, Header, status, amount, value_of, entry, cells, place_at, grid_of}
use Rattle.mesh.specs.Refusal.{Check}
use Rattle.mesh.specs.Scan.{walk, no18}

-- ---- lines of words

abbrev pub space : ℕ
space = 32

abbrev pub line_feed : ℕ
line_feed = 10

-- "decimals without leading zeros": f is at least the number of digits
unfoldable pub decimal_in : ℕ → ℕ → List ℕ → List ℕ
decimal_in zero n r = r
decimal_in (suc f) n r = let r' = (48 + n % 10) ∷ r in elim (ltb n 10) [ true ↦ r' | false ↦ decimal_in f (n / 10) r' ]

unfoldable pub decimal : ℕ → List ℕ
decimal n = decimal_in 20 n []

-- f lowercase hexadecimal digits
unfoldable pub hex_in : ℕ → ℕ → List ℕ → List ℕ
hex_in zero n r = r
hex_in (suc f) n r = hex_in f (n / 16) (cond (ltb (n % 16) 10) (48 + n % 16) (87 + n % 16) ∷ r)

-- "single blanks, a line feed ends each line"
unfoldable pub line : List (List ℕ) → List ℕ
line [] = line_feed ∷ []
line (w ∷ []) = w ++ line_feed ∷ []
line (w ∷ v ∷ ws) = w ++ space ∷ line (v ∷ ws)

-- ---- the page

-- "letter n, m or c for status 0, 1, 2"
abbrev pub letter : ℕ → ℕ
letter zero = 110
letter (suc zero) = 109
letter (suc (suc n)) = 99

-- "one line for each leaf in order SW, NW, SE, NE"
unfoldable pub leaves : State → List ℕ
leaves s =
    walk s.entries (leaf (grid_of s) (cells s.entries)) (SW ∷ NW ∷ SE ∷ NE ∷ []) (base (grid_of s) + 12) root

-- "number, level, i, j, letter .., value bits as 16 lowercase hex digits"
abbrev pub line_of : ℕ → ℕ → ℕ → ℕ → ℕ → ℕ → List ℕ
line_of n k i j st bits = line (decimal n ∷ decimal k ∷ decimal i ∷ decimal j ∷ (letter st ∷ []) ∷ hex_in 16 bits [] ∷ [])

unfoldable pub leaf_line : State → ℕ → List ℕ
leaf_line s n =
    let p = place_at s.entries n in
    let v = value_of (entry s.entries n) in
    line_of n (nat_abs (level (grid_of s) p)) p.i p.j (status v) (to_bits binary64 (amount v))

abbrev pub total : List ℕ → ℕ
total [] = 0
total (b ∷ bs) = b + total bs

-- "`map`, columns, rows, mark", and "the page's first line ends with `open` or `ring`" (02, No. 4)
abbrev pub mode_word : Grid → List ℕ
mode_word g = cond (is_ring g) (114 ∷ 105 ∷ 110 ∷ 103 ∷ []) (111 ∷ 112 ∷ 101 ∷ 110 ∷ [])

unfoldable pub head_line : Header → List ℕ
head_line h = line ((109 ∷ 97 ∷ 112 ∷ []) ∷ decimal h.grid.columns ∷ decimal h.grid.rows ∷ decimal h.mark ∷ mode_word h.grid ∷ [])

-- and the leaves
unfoldable pub body : State → List ℕ
body s = head_line s.header ++ flat (map (leaf_line s) (leaves s))

-- "last `cells`, count of leaves, `sum`, and the sum
unfoldable pub foot_line : ℕ → ℕ → List ℕ
foot_line leaves sum = line ((99 ∷ 101 ∷ 108 ∷ 108 ∷ 115 ∷ []) ∷ decimal leaves ∷ (115 ∷ 117 ∷ 109 ∷ []) ∷ decimal sum ∷ [])

-- .. of all bytes of the earlier lines, line feeds included, wrapping at 2^32"
unfoldable pub page : State → List ℕ
page s = body s ++ foot_line (length (leaves s)) (total (body s) % 2 ^ 32)

unfoldable pub page_checks : State → ℕ → List Check
page_checks s room = no18 room (page s) ∷ []

-- A sentence on the words of a table.
-- Assumes nothing.
use Rattle.std.specs.Prelude.{ℕ, ◌+◌, ◌*◌, ◌^◌, cond, List, set, ℤ, pos}
use Rattle.mesh.specs.Picture.{row_words, flags_word}
use Rattle.mesh.specs.Mesh.{sentenced_bit}
use Rattle.table.specs.Words.{word_of, flag_of}

-- the row n has the flag Sentenced
unfoldable pub sentence_table : List ℤ → ℕ → List ℤ
sentence_table t n = set t (n * row_words + flags_word) (pos (word_of t n flags_word + cond (flag_of t sentenced_bit n) 0 (2 ^ sentenced_bit)))

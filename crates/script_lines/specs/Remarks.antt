-- Remarks: lines without a word, and those whose first word begins with `#`.
use Rattle.std.specs.Prelude.{ℕ, Bool, true, ◌==◌, List, [], ◌∷◌}
use Rattle.script_lines.specs.Words.{first_word}

-- the byte `#`
abbrev pub hash_byte : ℕ
hash_byte = 35

-- no word, or one that begins with `#`
abbrev pub is_remark_word : List ℕ → Bool
is_remark_word [] = true
is_remark_word (byte ∷ bytes) = byte == hash_byte

abbrev pub is_remark : List ℕ → Bool
is_remark text = is_remark_word (first_word text)

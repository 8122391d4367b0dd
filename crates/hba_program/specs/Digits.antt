-- Numbers in hex digits.
use Rattle.std.specs.Prelude.{ℕ, ◌==◌, Bool, ◌&&◌, not, nat_le, length, List, Option, Some, None, if◌then◌else◌}
use Rattle.std.specs.List.{list_all}
use Rattle.std.specs.Char.{is_digit}
use Rattle.std.specs.Str.Parse.{digits_value}
use Rattle.std.specs.Int.{to_be_bytes, w32}
use Rattle.hex.specs.Hex.{encode_lower}

-- 1 to so many hex digits of either case, and nothing else
abbrev pub is_hex_number : ℕ → List ℕ → Bool
is_hex_number most text =
    (not (length text == 0) && nat_le (length text) most) && list_all (λ c. is_digit c 16) text

-- the number that they write
abbrev pub hex_number : ℕ → List ℕ → Option ℕ
hex_number most text =
    if is_hex_number most text then Some (digits_value 16 text) else None

-- a word of 32 bits in eight digits, the highest first
abbrev pub word_text : ℕ → List ℕ
word_text word = encode_lower (to_be_bytes w32 word)

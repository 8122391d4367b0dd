-- Bytes written in hex text: two digits of either case for each.
use Rattle.std.specs.Prelude.{ℕ, ◌/◌, ◌%◌, ◌==◌, nat_le, Bool, ◌&&◌, length, List, Option, Some, None, Result, Ok, Err, if◌then◌else◌}
use Rattle.std.specs.List.{list_all}
use Rattle.hex.specs.Hex.{decode_of, is_hex_digit}
use Rattle.hex.specs.declared.error.FromHexError.{FromHexError}

-- what was decoded, where that are at most so many bytes
abbrev pub at_most : ℕ → Result (List ℕ) FromHexError → Option (List ℕ)
at_most most (Ok bytes) = if nat_le (length bytes) most then Some bytes else None
at_most most (Err error) = None

-- the bytes that a text of hex digits writes, where it writes at most so many
abbrev pub bytes_up_to : ℕ → List ℕ → Option (List ℕ)
bytes_up_to most text = at_most most (decode_of text)

-- a text is digits alone, two for each of at most so many bytes
abbrev pub is_hex_up_to : ℕ → List ℕ → Bool
is_hex_up_to most text =
    (length text % 2 == 0) && (nat_le (length text / 2) most && list_all is_hex_digit text)

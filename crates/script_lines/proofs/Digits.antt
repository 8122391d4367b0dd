-- The values of hex digits by arithmetic.
use Rattle.std.proofs.Common.{◌≡◌, ℕ, ◌+◌, ◌*◌, ◌/◌, ◌%◌, ◌<◌, true, List, length, slice_index, arith, Some}
use Rattle.std.specs.Prelude.{IsOk}
use Rattle.std.proofs.lemmas.Bool.Decides.{nat_tests}
use Rattle.hex.specs.Hex.{hex_digit_value, is_hex_digit, decode_of}
use Rattle.hex.proofs.HexLemmas.{decode_of-ok}
use Rattle.script_lines.proofs.HexTexts.{value, decodes_to_value}

-- the value of a digit
pub value_is : (c : ℕ) → is_hex_digit c ≡ true → hex_digit_value c ≡ Some (c % 16 + 9 * (c / 64))
value_is c is = grind (arith, nat_tests)

pub is_small : (c : ℕ) → is_hex_digit c ≡ true → c % 16 + 9 * (c / 64) < 16
is_small c is = grind (arith, nat_tests)

-- each digit of a text that is decoded
pub digit_at : (text : List ℕ) → IsOk (decode_of text) → (k : ℕ) → k < length text → is_hex_digit (slice_index text k) ≡ true
digit_at text ok k below = (decode_of-ok text (value text) (decodes_to_value text ok)).1 k 0 below

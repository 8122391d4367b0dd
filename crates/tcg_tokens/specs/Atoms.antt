-- The first bytes of atoms (TCG Core 2.01, section 3.2.2).
use Rattle.std.specs.Prelude.{ℕ, ◌+◌, ◌*◌, ◌/◌, ◌%◌, ◌==◌, Bool, true, false}
use Rattle.tcg_tokens.specs.declared.form.Form.{Form}
use Rattle.tcg_tokens.specs.declared.form.Form.TheVariants.{Short, Medium, Long}

-- a byte that stands for nothing
abbrev pub empty_atom : ℕ
empty_atom = 0xff

-- A tiny atom is a number below this, in one byte. Signed ones stand from here on.
abbrev pub tiny_limit : ℕ
tiny_limit = 64

-- The other atoms have a length, and one of three forms. Their first byte says, from the top down, the
-- form, the kind, the sign and the upper bits of the length.

-- the least first byte
abbrev pub least : Form → ℕ
least Short = 0x80
least Medium = 0xc0
least Long = 0xe0

-- how many values the upper bits of the length have
abbrev pub upper_range : Form → ℕ
upper_range Short = 16
upper_range Medium = 8
upper_range Long = 1

-- how many bytes of length follow
abbrev pub length_bytes : Form → ℕ
length_bytes Short = 0
length_bytes Medium = 1
length_bytes Long = 3

-- what the bits of the sign and of the kind are worth
abbrev pub sign_bit : Form → ℕ
sign_bit form = upper_range form

abbrev pub kind_bit : Form → ℕ
kind_bit form = 2 * sign_bit form

-- the first byte behind those of the form
abbrev pub end_of : Form → ℕ
end_of form = least form + 2 * kind_bit form

-- a bit as a number, and whether the bit that is worth so much is set in a byte
abbrev pub bit_number : Bool → ℕ
bit_number true = 1
bit_number false = 0

abbrev pub has_bit : ℕ → ℕ → Bool
has_bit worth b = b / worth % 2 == 1

-- the first byte of bytes or of a number without a sign, where the upper bits of the length are 0
abbrev pub first_byte : Form → (is_bytes : Bool) → ℕ
first_byte form is_bytes = least form + kind_bit form * bit_number is_bytes

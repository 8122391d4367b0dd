-- Laws of numbers in hex digits.
use Rattle.std.specs.Prelude.{◌≡◌, ◌<◌, ◌≤◌, ◌^◌, ℕ, Some}
use Rattle.hba_program.specs.Digits.{hex_number}
use Rattle.hba_program.specs.Replies.{hex_digits}

-- a number that is printed in hex reads back, where so many digits may stand
abbrev pub NumberLaw : Type 0
NumberLaw = (most n : ℕ) → 0 < most → most ≤ 16 → n < 16 ^ most
    → hex_number most (hex_digits n) ≡ Some n

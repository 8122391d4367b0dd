use Rattle.std.proofs.Common.{◌≡◌, ◌<◌, ◌^◌, drop}
use Rattle.std.specs.List.{list_all}
use Rattle.std.specs.Char.{is_digit}
use Rattle.std.specs.Str.Parse.{digits_value, digits_value_after}
use Rattle.hba_program.proofs.hba_lines.digits.hex_number.Given as goal

abbrev pub invariant-loop-i : goal.invariant-loop-i
invariant-loop-i l =
    (l.number < 16 ^ l.i)
    × (digits_value_after 16 l.number (drop l.i l.text) ≡ digits_value 16 l.text)
    × (list_all (λ c. is_digit c 16) (drop l.i l.text) ≡ list_all (λ c. is_digit c 16) l.text)

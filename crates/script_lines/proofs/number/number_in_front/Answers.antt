use Rattle.std.proofs.Common.{rules}
use Rattle.script_lines.proofs.Numerals.{too_large, not_added}
use Rattle.script_lines.proofs.number.number_in_front.Goals as goal

-- src/number.rt:35:18
pub returns-in_err-number : goal.returns-in_err-number
returns-in_err-number c = search (rules, too_large, not_added)

use Rattle.std.proofs.Common.{◌≡◌, drop}
use Rattle.script_lines.proofs.Numerals.{read_on}
use Rattle.script_lines.proofs.number.number_in_front.Given as goal

abbrev pub invariant-loop-i : goal.invariant-loop-i
invariant-loop-i l = read_on l.most l.i l.number (drop l.i l.text) ≡ read_on l.most 0 0 l.text

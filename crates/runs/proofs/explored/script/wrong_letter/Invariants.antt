use Rattle.std.proofs.Common.{◌≡◌, drop, take, false}
use Rattle.std.specs.List.{list_any}
use Rattle.runs.specs.Tellings.{is_wrong_letter}
use Rattle.runs.proofs.explored.script.wrong_letter.Given as goal

abbrev pub invariant-loop-i : goal.invariant-loop-i
invariant-loop-i l =
    list_any (is_wrong_letter l.kind) (take l.i (drop l.size l.lines)) ≡ false

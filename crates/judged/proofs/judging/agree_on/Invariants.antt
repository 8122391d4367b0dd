use Rattle.std.proofs.Common.{drop}
use Rattle.runs.specs.Stepped.{RunStands}
use Rattle.judged.proofs.Folded.{AgreeSo}
use Rattle.judged.proofs.judging.agree_on.Given as goal

abbrev pub invariant-loop-entry : goal.invariant-loop-entry
invariant-loop-entry l =
    RunStands l.run × AgreeSo l.run l.options l.rulings (drop l.entry-index l.entries) l.entries

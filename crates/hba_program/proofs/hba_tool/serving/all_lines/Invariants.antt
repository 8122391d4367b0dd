use Rattle.std.proofs.Common.{◌≡◌, false, List}
use Rattle.hba.specs.History.{Opened, Operation, AgreesHba}
use Rattle.hba_program.specs.Steps.{stand, DoneLine, DoesLines}
use Rattle.hba_program.proofs.hba_tool.Waves.{GoneOn}
use Rattle.hba_program.proofs.hba_tool.serving.all_lines.Given as goal

abbrev pub invariant-loop-count : goal.invariant-loop-count
invariant-loop-count g l =
    (left : List DoneLine)
    × DoesLines g.R.Read.remaining g.W.Write.contents l.count left (stand l.initial.session l.initial.wire) (stand l.session l.wire)
    × (l.wire.is_cut_off ≡ false)
    × ((o : Opened) (list : List Operation) → AgreesHba l.initial.session.hba o list
    → GoneOn g.D.Write.contents o list left l.session.hba l.fn.dump l.dump)

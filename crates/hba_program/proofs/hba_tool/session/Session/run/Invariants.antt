use Rattle.std.proofs.Common.{◌≡◌, false}
use Rattle.hba_program.specs.Steps.{stand, TurnsOn}
use Rattle.hba_program.proofs.hba_tool.session.Session.run.Given as goal

abbrev pub invariant-loop-count : goal.invariant-loop-count
invariant-loop-count g l =
    TurnsOn g.R.Read.remaining g.W.Write.contents l.number l.count (stand l.initial.self l.initial.wire) (stand l.self l.wire)
    × (l.wire.is_cut_off ≡ false)

use Rattle.std.proofs.Common.{Some, None, refl}
use Rattle.drive_scripts.proofs.Turns.{drive-starts, explained-starts}
use Rattle.drive_scripts.proofs.drive_phase.DrivePhase.new.Goals as goal

pub returns-then-explains : goal.returns-then-explains
returns-then-explains c = λ o agrees.
    explained-starts c.args.explains
    (record { run = c.new-run.result; explainer = Some c.new.result }) c.new.result o c.if-explains.true refl
    (c.new-run.ensures o agrees) (c.new.ensures o agrees)

pub returns : goal.returns
returns c = λ o agrees.
    drive-starts c.args.explains (record { run = c.new-2.result; explainer = None }) o c.if-explains.false refl
    (c.new-2.ensures o agrees)

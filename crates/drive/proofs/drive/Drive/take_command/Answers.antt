-- A transfer that is held at once lends nothing.
use Rattle.history.specs.Facts.{facts}
use Rattle.history.specs.History.{Accept, event, log}
use Rattle.fis.specs.H2d.{h2d_at}
use Rattle.drive.proofs.Lent.{own-given}
use Rattle.drive.proofs.drive.Drive.take_command.Goals as goal

pub returns-in-Some-clause-done : goal.returns-in-Some-clause-done
returns-in-Some-clause-done c = λ o acts k.
    own-given (facts o (log o acts)) (h2d_at c.args.fis.now) (event o (log o acts) (Accept c.args.fis.now c.args.payload.now)) c.hold_so.new.self o (log o acts) c.hold_so.new.answer
    (c.hold_so.ensures o acts k)

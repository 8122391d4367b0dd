-- Nothing is lent.
use Rattle.std.proofs.Common.{reverse, refl}
use Rattle.fis.specs.H2d.{h2d_at}
use Rattle.history.specs.Facts.{facts}
use Rattle.history.specs.History.{Accept, event, log}
use Rattle.drive.proofs.Acting.{in-order}
use Rattle.drive.proofs.Lent.{given-own}
use Rattle.drive.proofs.drive.Drive.accept_command.Goals as goal

pub returns-clause-agrees : goal.returns-clause-agrees
returns-clause-agrees c = λ o acts k. (c.in_ok-take_command.ensures.done o acts k).0

pub returns-clause-in_order : goal.returns-clause-in_order
returns-clause-in_order c = λ o acts k.
    in-order c.args.self.now c.take_command.new.self o acts (Accept c.args.fis.now c.args.payload.now) (λ x. (c.in_ok-take_command.ensures.done o (reverse acts) x).0) k

pub returns-clause-answer : goal.returns-clause-answer
returns-clause-answer c = λ o acts k.
    (given-own (facts o (log o acts)) (h2d_at c.args.fis.now) (event o (log o acts) (Accept c.args.fis.now c.args.payload.now)) c.take_command.new.self o (log o acts) c.take_command.new.answer _
    (c.in_ok-take_command.ensures.kept refl) (c.in_ok-take_command.ensures.done o acts k)).1

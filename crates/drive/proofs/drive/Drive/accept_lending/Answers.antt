use Rattle.std.proofs.Common.{reverse}
use Rattle.history.specs.History.{Accept}
use Rattle.drive.proofs.Acting.{in-order}
use Rattle.drive.proofs.drive.Drive.accept_lending.Goals as goal

pub returns-clause-agrees : goal.returns-clause-agrees
returns-clause-agrees c = λ o acts k. (c.in_ok-lent.ensures.done o acts k).0

pub returns-clause-in_order : goal.returns-clause-in_order
returns-clause-in_order c = λ o acts k.
    in-order c.args.self.now c.take_command.new.self o acts (Accept c.args.fis.now c.args.payload.now) (λ x. (c.in_ok-lent.ensures.done o (reverse acts) x).0) k

pub returns-clause-answer : goal.returns-clause-answer
returns-clause-answer c = λ o acts k. (c.in_ok-lent.ensures.done o acts k).1

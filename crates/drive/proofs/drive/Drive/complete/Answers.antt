use Rattle.drive.proofs.Completions.{completes, completes-in-order, complete-answers}
use Rattle.drive.proofs.drive.Drive.complete.Goals as goal

pub returns-clause-agrees : goal.returns-clause-agrees
returns-clause-agrees c = completes (λ bytes. bytes) c.finish.result c.args.self.now c.finish.new.self c.args.tag c.args.payload.now c.finish.ensures.slot c.finish.ensures.done

pub returns-clause-in_order : goal.returns-clause-in_order
returns-clause-in_order c = completes-in-order (λ bytes. bytes) c.finish.result c.args.self.now c.finish.new.self c.args.tag c.args.payload.now c.finish.ensures.slot c.finish.ensures.done

pub returns-clause-answer : goal.returns-clause-answer
returns-clause-answer c = complete-answers c.finish.result c.args.self.now c.finish.new.self c.args.tag c.args.payload.now c.finish.ensures.done

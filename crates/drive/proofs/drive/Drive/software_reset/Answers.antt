use Rattle.drive.proofs.Restarts.{ended, ended_in_order}
use Rattle.drive.proofs.drive.Drive.software_reset.Goals as goal

pub returns-clause-agrees : goal.returns-clause-agrees
returns-clause-agrees c = λ o acts k. ended c.args.self.now c.end_queue.new.self o acts c.end_queue.ensures k

pub returns-clause-in_order : goal.returns-clause-in_order
returns-clause-in_order c = λ o acts k. ended_in_order c.args.self.now c.end_queue.new.self o acts c.end_queue.ensures k

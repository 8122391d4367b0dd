use Rattle.std.proofs.Common.{None}
use Rattle.drive.proofs.drive.Drive.receive_of_stack.Goals as goal

pub returns-clause-kept : goal.returns-clause-kept
returns-clause-kept c = λ o past k. c.tell_stack.ensures o past None k

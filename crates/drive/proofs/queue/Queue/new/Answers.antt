use Rattle.drive.specs.Queue.{empty_slots}
use Rattle.drive.proofs.Slots.{none_fit}
use Rattle.drive.proofs.queue.Queue.new.Goals as goal

pub returns-clause-fits : goal.returns-clause-fits
unfolding empty_slots
returns-clause-fits c = none_fit

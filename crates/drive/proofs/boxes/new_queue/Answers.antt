use Rattle.std.proofs.Common.{sym, subst}
use Rattle.drive.specs.declared.queue.Queue.{Queue}
use Rattle.drive.specs.Queue.{AllFit}
use Rattle.drive.proofs.boxes.new_queue.Goals as goal

pub returns-in-Ok-clause-fits : goal.returns-in-Ok-clause-fits
returns-in-Ok-clause-fits c = λ sectors mbr.
    subst (λ (queue : Queue). AllFit sectors mbr queue) (sym c.in-Ok.ensures.ok) (c.new-queue.ensures.fits sectors mbr)

use Rattle.std.proofs.Common.{◌≡◌}
use Rattle.std.specs.Prelude.{is_some}
use Rattle.drive.specs.Queue.{held_at}
use Rattle.pictures.specs.Lists.{values_below}
use Rattle.pictures.proofs.samples.sample.held_by.Given as goal

abbrev pub invariant-loop-tag : goal.invariant-loop-tag
invariant-loop-tag l = l.held.items ≡ values_below (λ tag. is_some (held_at l.drive.queue tag)) l.tag

use Rattle.std.proofs.Common.{◌≡◌}
use Rattle.port.specs.Answers.{stage_at}
use Rattle.pictures.specs.Lists.{values_below}
use Rattle.pictures.proofs.samples.sample.stages_of.Given as goal

abbrev pub invariant-loop-tag : goal.invariant-loop-tag
invariant-loop-tag l = l.stages.items ≡ values_below (stage_at l.port.bare.slots) l.tag

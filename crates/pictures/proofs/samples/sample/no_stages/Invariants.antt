use Rattle.std.proofs.Common.{◌≡◌}
use Rattle.port_history.specs.declared.stages.Stage.TheVariants.{Free}
use Rattle.pictures.specs.Lists.{values_below}
use Rattle.pictures.proofs.samples.sample.no_stages.Given as goal

abbrev pub invariant-loop-tag : goal.invariant-loop-tag
invariant-loop-tag l = l.stages.items ≡ values_below (λ _. Free) l.tag

use Rattle.std.proofs.Common.{◌≡◌, drop}
use Rattle.judged.specs.Properties.{differs_in_values}
use Rattle.judged.proofs.properties.differs_in_values.Given as goal

abbrev pub invariant-loop-property : goal.invariant-loop-property
invariant-loop-property l =
    differs_in_values (drop l.property-index l.properties) l.answer l.model ≡ differs_in_values l.properties l.heard l.wanted

use Rattle.std.proofs.Common.{◌≡◌, ℕ, length, None}
use Rattle.port_history.specs.declared.stages.Stage.TheVariants.{Free}
use Rattle.port_history.specs.Stages.{recovered}
use Rattle.port_history.specs.Steps.{is_tag}
use Rattle.port.specs.Answers.{outcome_recovered}
use Rattle.port.proofs.Slots.{AreMapped}
use Rattle.port.proofs.stages.recover_slots.Given as goal

abbrev pub invariant-loop-slot : goal.invariant-loop-slot
invariant-loop-slot l =
    (length l.slots ≡ 32) × (length l.outcomes ≡ 32)
    × AreMapped (λ (k : ℕ). recovered (is_tag k l.log.tag)) Free l.initial.slots l.slots l.slot
    × AreMapped (λ (k : ℕ). outcome_recovered (is_tag k l.log.tag) l.log.status l.log.error) None l.initial.outcomes l.outcomes l.slot

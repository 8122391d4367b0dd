use Rattle.std.proofs.Common.{◌≡◌, ℕ, length, None}
use Rattle.port_history.specs.declared.stages.Stage.TheVariants.{Free}
use Rattle.port_history.specs.Stages.{stage_after_reset, is_pending}
use Rattle.port.specs.Answers.{stage_at}
use Rattle.port.specs.Answers.{outcome_after_reset}
use Rattle.port.proofs.Slots.{AreMapped}
use Rattle.port.proofs.stages.reset_slots.Given as goal

abbrev pub invariant-loop-slot : goal.invariant-loop-slot
invariant-loop-slot l =
    (length l.slots ≡ 32) × (length l.outcomes ≡ 32) × AreMapped (λ (k : ℕ). stage_after_reset) Free l.initial.slots l.slots l.slot
    × AreMapped (λ (k : ℕ). outcome_after_reset (is_pending (stage_at l.initial.slots k))) None l.initial.outcomes l.outcomes l.slot

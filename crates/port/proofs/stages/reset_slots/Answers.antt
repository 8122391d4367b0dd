use Rattle.std.proofs.Common.{ℕ, None, Bool, ap, ◌∙◌, arith, rules}
use Rattle.port_history.specs.declared.stages.Stage.TheVariants.{Free}
use Rattle.port_history.specs.Stages.{stage_after_reset, is_pending}
use Rattle.port.specs.Answers.{stage_at}
use Rattle.port.specs.Answers.{outcome_at, outcome_after_reset}
use Rattle.port.proofs.Slots.{one_more}
use Rattle.port.proofs.stages.reset_slots.Goals as goal

pub loop-slot-preserved : goal.loop-slot-preserved
loop-slot-preserved c = (
  search rules,
  search rules,
  one_more (λ (k : ℕ). stage_after_reset) Free c.args.slots.now c.loop-slot.slots c.loop-slot.slot c.after_reset.result (omega (arith, c.loop-slot.invariant.0, c.loop-slot-test.true)) (search rules) c.loop-slot.invariant.2,
  one_more (λ (k : ℕ). outcome_after_reset (is_pending (stage_at c.args.slots.now k))) None c.args.outcomes.now c.loop-slot.outcomes c.loop-slot.slot c.outcome_after_reset.result (omega (arith, c.loop-slot.invariant.1, c.loop-slot-test.true)) (c.outcome_after_reset.ensures ∙ ap (λ (b : Bool). outcome_after_reset b (outcome_at c.loop-slot.outcomes c.loop-slot.slot)) (c.is_pending.ensures ∙ ap is_pending (c.loop-slot.invariant.2.1 c.loop-slot.slot (omega arith)))) c.loop-slot.invariant.3,
)

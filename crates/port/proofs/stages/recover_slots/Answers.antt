use Rattle.std.proofs.Common.{◌≡◌, ℕ, Bool, None, ap, ◌∙◌, arith, rules}
use Rattle.port_history.specs.declared.stages.Stage.TheVariants.{Free}
use Rattle.port_history.specs.Stages.{recovered}
use Rattle.port_history.specs.Steps.{is_tag}
use Rattle.port.specs.Answers.{stage_at, outcome_at, outcome_recovered}
use Rattle.port.proofs.Slots.{one_more}
use Rattle.port.proofs.stages.recover_slots.Goals as goal

pub loop-slot-preserved : goal.loop-slot-preserved
loop-slot-preserved c =
    let log = c.args.log.now in
    let slot = c.loop-slot.slot in
    let fails : c.names-fails.result ≡ is_tag slot log.tag =
    c.names-fails.ensures ∙ ap (λ (t : ℕ). is_tag t log.tag) (omega (arith, c.low_bits.ensures, c.loop-slot-test.true)) in (
      search rules,
      search rules,
      one_more (λ (k : ℕ). recovered (is_tag k log.tag)) Free c.args.slots.now c.loop-slot.slots slot c.recovered.result (omega (arith, c.loop-slot.invariant.0, c.loop-slot-test.true)) (search rules) c.loop-slot.invariant.2,
      one_more (λ (k : ℕ). outcome_recovered (is_tag k log.tag) log.status log.error) None c.args.outcomes.now c.loop-slot.outcomes slot c.outcome_recovered.result (omega (arith, c.loop-slot.invariant.1, c.loop-slot-test.true)) (search rules) c.loop-slot.invariant.3,
    )

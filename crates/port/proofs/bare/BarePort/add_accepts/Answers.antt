use Rattle.std.proofs.Common.{◌≡◌, ℕ, ◌++◌, true, List, [], ◌∷◌, sym, ap, ◌∙◌, arith, append-nil}
use Rattle.port_history.specs.declared.step.EngineStep.{EngineStep}
use Rattle.port_history.specs.declared.step.EngineStep.TheVariants as engine
use Rattle.port_history.specs.declared.step.Step.TheVariants as steps
use Rattle.port.specs.State.{refusal_on_bare}
use Rattle.port.proofs.Calls.{told_is}
use Rattle.port.proofs.Readies.{allows, those_none, longer, as_long, not_counted, sum_small, count_of_list}
use Rattle.port.proofs.bare.BarePort.add_accepts.Goals.{then-is_ok, else-is_ok}
use Rattle.port.proofs.bare.BarePort.add_accepts.Goals as goal

pub loop-number-init : goal.loop-number-init
loop-number-init c = sym (ap (λ (xs : List EngineStep). c.args.ready.now.items ++ xs) (those_none engine.Accept (allows c.args.self.now steps.Accept)) ∙ append-nil c.args.ready.now.items)

pub push-requires : goal.push-requires
push-requires c =
    let port = c.args.self.now in
    let n = c.loop-number.number in
    let here : c.low_bits-tag.result ≡ n = omega (arith, c.low_bits-tag.ensures, c.loop-number-test.true) in
    let passes : allows port steps.Accept n ≡ true = ap (allows port steps.Accept) (sym here) ∙ sym (told_is c.issued.result (refusal_on_bare port (steps.Accept c.low_bits-tag.result)) c.issued.ensures.order) ∙ sym c.is_ok.ensures.value ∙ c.if-is_ok.true in
    (omega arith, omega (arith, c.requires, count_of_list c.args.ready.now.items c.loop-number.ready.items engine.Accept (allows port steps.Accept) n c.loop-number.invariant, not_counted (allows port steps.Accept) 32 n c.loop-number-test.true passes, sum_small port))

pub loop-number-preserved : goal.loop-number-preserved
loop-number-preserved c =
    let port = c.args.self.now in
    let n = c.loop-number.number in
    let here : c.low_bits-tag.result ≡ n = omega (arith, c.low_bits-tag.ensures, c.loop-number-test.true) in
    let told : c.is_ok.result ≡ allows port steps.Accept n = c.is_ok.ensures.value ∙ told_is c.issued.result (refusal_on_bare port (steps.Accept c.low_bits-tag.result)) c.issued.ensures.order ∙ ap (allows port steps.Accept) here in
    elim c.if-is_ok.branch [
      | then-is_ok w ↦ longer c.args.ready.now.items c.loop-number.ready.items c.if-is_ok.ready.items engine.Accept (allows port steps.Accept) n c.loop-number.invariant (sym told ∙ w.if-is_ok.true) (rw w.ready-is (w.push.ensures.items ∙ ap (λ (t : ℕ). c.loop-number.ready.items ++ engine.Accept t ∷ []) here))
      | else-is_ok w ↦ rw w.ready-is (as_long c.args.ready.now.items c.loop-number.ready.items engine.Accept (allows port steps.Accept) n c.loop-number.invariant (sym told ∙ w.if-is_ok.false))
    ]

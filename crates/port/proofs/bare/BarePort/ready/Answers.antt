use Rattle.std.proofs.Common.{◌≡◌, true, length, sym, ap, ◌∙◌, arith}
use Rattle.std.specs.Prelude.{is_none}
use Rattle.port_history.specs.declared.step.EngineStep.TheVariants as engine
use Rattle.port_history.specs.declared.step.Step.TheVariants as steps
use Rattle.port.specs.State.{refusal_on_bare}
use Rattle.port.proofs.Calls.{told_is}
use Rattle.port.proofs.Readies.{allows, count_of_list, sum_alone}
use Rattle.port.proofs.bare.BarePort.ready.Goals as goal

pub add_accepts-requires : goal.add_accepts-requires
add_accepts-requires c =
    omega (arith, ap length c.new-ready.ensures, count_of_list c.new-ready.result.items c.add_issues.new.ready.items engine.Issue (allows c.args.self.now steps.Issue) 32 c.add_issues.ensures)

pub add_completes-requires : goal.add_completes-requires
add_completes-requires c =
    omega (
      arith,
      ap length c.new-ready.ensures,
      count_of_list c.new-ready.result.items c.add_issues.new.ready.items engine.Issue (allows c.args.self.now steps.Issue) 32 c.add_issues.ensures,
      count_of_list c.add_issues.new.ready.items c.add_accepts.new.ready.items engine.Accept (allows c.args.self.now steps.Accept) 32 c.add_accepts.ensures,
    )

pub push-requires : goal.push-requires
push-requires c =
    let port = c.args.self.now in
    let e : is_none (refusal_on_bare port steps.Recover) ≡ true = sym (told_is c.has_failed.result (refusal_on_bare port steps.Recover) c.has_failed.ensures.order) ∙ sym c.is_ok.ensures.value ∙ c.if-is_ok.true in (
      omega arith,
      omega (
        arith,
        ap length c.new-ready.ensures,
        sum_alone port e,
        count_of_list c.new-ready.result.items c.add_issues.new.ready.items engine.Issue (allows port steps.Issue) 32 c.add_issues.ensures,
        count_of_list c.add_issues.new.ready.items c.add_accepts.new.ready.items engine.Accept (allows port steps.Accept) 32 c.add_accepts.ensures,
        count_of_list c.add_accepts.new.ready.items c.add_completes.new.ready.items engine.Complete (allows port steps.Complete) 32 c.add_completes.ensures,
      ),
    )

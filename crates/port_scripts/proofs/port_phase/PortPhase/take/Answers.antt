use Rattle.std.proofs.Common.{refl}
use Rattle.port_history.specs.declared.step.Step.TheVariants as steps
use Rattle.port_scripts.proofs.PortRuns.{refused-so, take-so}
use Rattle.port_scripts.proofs.port_phase.PortPhase.take.Goals as goal

pub returns-in_ok-print_answer-in-Ok : goal.returns-in_ok-print_answer-in-Ok
returns-in_ok-print_answer-in-Ok c =
    take-so c.args.self.now _ _ c.args.client c.args.tag _ _ c.stage.result c.put-put.result c.args.report.now
    c.print_answer.new.report c.stage.ensures c.put-put.ensures
    c.in-Ok.ensures.refused c.in-Ok.ensures.agrees c.in-Ok.ensures.answer refl refl c.in_ok-print_answer-in-Ok.ensures

pub returns-in-Err : goal.returns-in-Err
returns-in-Err c =
    refused-so c.refused.result c.in-Err.error c.args.self.now _ (steps.Take c.args.client c.args.tag) c.args.report.now
    c.refused.new.report c.refused.ensures.prints c.refused.ensures.gives c.in-Err.ensures.refused c.in-Err.ensures.err refl

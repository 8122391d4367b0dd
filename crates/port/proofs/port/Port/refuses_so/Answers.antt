use Rattle.std.proofs.Common.{◌∙◌}
use Rattle.port_history.specs.declared.step.Step.TheVariants as steps
use Rattle.port.specs.State.{refusal_on}
use Rattle.port.proofs.Calls.{error_is}
use Rattle.port.proofs.port.Port.refuses_so.Goals as goal

pub returns-in-Put : goal.returns-in-Put
returns-in-Put c = rw c.in-Put.is (c.err.ensures.value ∙ error_is c.may_put.result (refusal_on c.args.self.now (steps.Put c.in-Put.client c.in-Put.tag c.in-Put.request)) (c.may_put.ensures.order c.in-Put.client))

pub returns-in-Reset : goal.returns-in-Reset
returns-in-Reset c = rw c.in-Reset.is (c.err-in-Reset.ensures.value ∙ error_is c.may_reset.result (refusal_on c.args.self.now (steps.Reset c.in-Reset.client c.in-Reset.kind)) (c.may_reset.ensures.order c.in-Reset.client c.in-Reset.kind))

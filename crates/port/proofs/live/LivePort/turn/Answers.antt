use Rattle.std.proofs.Common.{rules, ◌≡◌, List, sym, ◌∙◌}
use Rattle.std.specs.Prelude.{is_none}
use Rattle.history.specs.Opening.{Origin}
use Rattle.port_history.specs.declared.error.PortError.TheVariants.{OutOfMemory}
use Rattle.port_history.specs.declared.step.Step.{Step}
use Rattle.port_history.specs.Steps.{trace}
use Rattle.port_history.specs.Refusals.{refusal_with_room}
use Rattle.port.specs.Live.{LiveAgrees}
use Rattle.port_history.specs.Ready.{engine_may, as_step}
use Rattle.port.proofs.Readies.{some_chosen, chosen_may, only_memory}
use Rattle.port.proofs.live.LivePort.turn.Goals as goal

pub returns-in_default-clause-none : goal.returns-in_default-clause-none
returns-in_default-clause-none c = λ o list h e. some_chosen c.args.choice (engine_may o list) (sym (sym c.in_default.is ∙ c.pick.ensures o list h))

pub returns-in_err-number-clause-memory : goal.returns-in_err-number-clause-memory
returns-in_err-number-clause-memory c =
    let alone : (o : Origin) (list : List Step) → LiveAgrees c.args.self.now o list → c.in_err-number.field-0.0 ≡ OutOfMemory = λ o list h.
    only_memory (refusal_with_room (trace o list) (as_step c.in-Some.step)) c.engine_step.result c.in_err-number.field-0.0 c.in_err-number.was
    (chosen_may (λ (step : Step). is_none (refusal_with_room (trace o list) step)) c.args.choice c.in-Some.step (sym (c.pick.ensures o list h) ∙ c.in-Some.is))
    (c.engine_step.ensures.refused o list h)
    in search (rules, alone)

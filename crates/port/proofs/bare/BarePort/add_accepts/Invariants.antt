use Rattle.std.proofs.Common.{◌≡◌, ◌++◌, ℕ}
use Rattle.std.specs.Prelude.{is_none}
use Rattle.port_history.specs.declared.step.EngineStep.TheVariants as engine
use Rattle.port_history.specs.declared.step.Step.TheVariants as steps
use Rattle.port_history.specs.Ready.{those}
use Rattle.port.specs.State.{refusal_on_bare}
use Rattle.port.proofs.bare.BarePort.add_accepts.Given as goal

abbrev pub invariant-loop-number : goal.invariant-loop-number
invariant-loop-number l = l.ready.items ≡ l.initial.ready.items ++ those engine.Accept (λ (t : ℕ). is_none (refusal_on_bare l.self (steps.Accept t))) l.number

use Rattle.std.proofs.Common.{◌≡◌, ◌++◌, List, reverse, take}
use Rattle.history.specs.Opening.{Origin}
use Rattle.port_history.specs.declared.step.Step.{Step}
use Rattle.port.specs.Agreement.{PortAgrees}
use Rattle.port.proofs.port.Port.play.Given as goal

abbrev pub invariant-loop-step : goal.invariant-loop-step
invariant-loop-step l = (l.at ≡ l.step-index) × ((o : Origin) (list : List Step) → PortAgrees l.initial.self o list → PortAgrees l.self o (reverse (take l.step-index l.steps) ++ list))

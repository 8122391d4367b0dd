-- The steps of a command that is served alone, the newest first.
use Rattle.std.specs.Prelude.{ℕ, List, ◌∷◌}
use Rattle.port_history.specs.declared.request.Request.{Request}
use Rattle.port_history.specs.declared.step.Step.{Step}
use Rattle.port_history.specs.declared.step.Step.TheVariants.{Put, Issue, Accept}

abbrev pub served_steps : ℕ → ℕ → Request → List Step → List Step
served_steps client tag request list =
    Accept tag ∷ Issue tag ∷ Put client tag request ∷ list

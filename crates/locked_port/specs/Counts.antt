-- What lies under the lock: a port that agrees with its history, and the number of its client steps.
use Rattle.std.specs.Prelude.{◌≡◌, ℕ, ◌+◌, Bool, true, false, List, [], ◌∷◌, if◌then◌else◌}
use Rattle.history.specs.Opening.{Origin}
use Rattle.port_history.specs.declared.step.Entry.{Entry}
use Rattle.port_history.specs.declared.step.Step.{Step}
use Rattle.port_history.specs.declared.step.Step.TheVariants as steps
use Rattle.port.specs.Agreement.{PortAgrees}
use Rattle.port.specs.State.{PortState}

-- The steps that passes make: a Put or a Take of a client.
abbrev pub is_client : Step → Bool
is_client (steps.Put client tag request) = true
is_client (steps.Issue tag) = false
is_client (steps.Accept tag) = false
is_client (steps.Complete tag) = false
is_client steps.Recover = false
is_client (steps.Reset client kind) = false
is_client (steps.Take client tag) = true

abbrev pub client_steps : List Entry → ℕ
client_steps [] = 0
client_steps (e ∷ es) = (if is_client e.step then 1 else 0) + client_steps es

-- An origin of its drive and a list of steps with which a port agrees: those of the history that it
-- stores. So many of them are clients'.
pub record AgreesAndCounts (port : PortState) (total : ℕ) : Type 0 where
  pub origin : Origin
  pub list : List Step
  pub agrees : PortAgrees port origin list
  pub counted : client_steps port.history ≡ total

-- There are such an origin and such a list.
abbrev pub Stands : PortState → ℕ → Type 0
Stands port total = ∥ AgreesAndCounts port total ∥₁

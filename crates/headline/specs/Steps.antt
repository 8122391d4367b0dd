-- Words of a list of steps: what stood before the steps that a law speaks of, by what items do. Lists
-- have the newest first.
use Rattle.std.specs.Prelude.{ℕ, ◌==◌, Bool, false, not, List, [], ◌∷◌, Option, option_map, if◌then◌else◌}
use Rattle.locking.specs.Range.{RangeRows}
use Rattle.history.specs.Decisions.{ranges_in_force}
use Rattle.history.specs.Events.{Event}
use Rattle.history.specs.Facts.{Facts, facts}
use Rattle.history.specs.Items.{Items}
use Rattle.history.specs.Opening.{Origin}
use Rattle.port_history.specs.declared.step.Step.{Step}
use Rattle.port_history.specs.declared.step.Step.TheVariants as steps
use Rattle.port_history.specs.Steps.{Effect, moment_of, trace_of, event_before, events}

-- What the drive did in a list of steps, and what that says: rows and bytes in force, sessions,
-- media.
abbrev pub past_of : Items → Origin → List Step → List Event
past_of items o list = events (trace_of items o list)

abbrev pub facts_after : Items → Origin → List Step → Facts
facts_after items o list = facts o (past_of items o list)

-- What a step did, after those before it.
abbrev pub event_after : Items → Origin → List Step → Step → Option Event
event_after items o before step =
    option_map (λ (e : Effect). e.event) (moment_of items o (trace_of items o before) step).effect

-- The ranges and the shadow by the rows in force.
abbrev pub ranges_after : Items → Origin → List Step → RangeRows
ranges_after items o list = ranges_in_force (facts_after items o list)

-- The steps before a tag's latest acceptance.
abbrev pub accepts : ℕ → Step → Bool
accepts tag (steps.Accept slot) = slot == tag
accepts tag _ = false

abbrev pub before_acceptance : List Step → ℕ → List Step
before_acceptance [] tag = []
before_acceptance (step ∷ before) tag =
    if accepts tag step then before else before_acceptance before tag

-- The steps before the act that moved its data: the acceptance of a command that is executed whole,
-- the completion of a held one.
abbrev pub moves : ℕ → Step → Bool
moves tag (steps.Accept slot) = slot == tag
moves tag (steps.Complete slot) = slot == tag
moves tag _ = false

abbrev pub before_move : List Step → ℕ → List Step
before_move [] tag = []
before_move (step ∷ before) tag = if moves tag step then before else before_move before tag

-- and up to that act.
abbrev pub through_move : List Step → ℕ → List Step
through_move [] tag = []
through_move (step ∷ before) tag =
    if moves tag step then step ∷ before else through_move before tag

-- The step puts a command under a tag; it serves the command of another tag.
abbrev pub puts : ℕ → Step → Bool
puts tag (steps.Put client slot request) = slot == tag
puts tag _ = false

abbrev pub serves_other : ℕ → Step → Bool
serves_other tag (steps.Accept slot) = not (slot == tag)
serves_other tag (steps.Complete slot) = not (slot == tag)
serves_other tag _ = false

-- What the drive did since a tag's latest Put, but in the steps that serve other tags.
abbrev pub own_past : Items → Origin → List Step → ℕ → List Event
own_past items o [] tag = []
own_past items o (step ∷ before) tag =
    if puts tag step then []
    else (if serves_other tag step then own_past items o before tag
    else event_before (moment_of items o (trace_of items o before) step).effect
    (own_past items o before tag))

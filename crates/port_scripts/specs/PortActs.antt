-- The steps of a port with the lines that they come from, and their acts on the drive as reasons see them.
use Rattle.std.specs.Prelude.{ℕ, List, [], ◌∷◌, Option, None, Some, option_map}
use Rattle.history.specs.Opening.{Origin}
use Rattle.history.specs.History.{Act, Accept, Complete, Reset, SoftwareReset}
use Rattle.port_history.specs.Stages.{put_at}
use Rattle.port_history.specs.Steps.{Moment, trace, act_of, stage, client_of}
use Rattle.port_history.specs.declared.stages.Put.{Put}
use Rattle.port_history.specs.declared.stages.Stage.{Stage}
use Rattle.port_history.specs.declared.step.Step.{Step}
use Rattle.port_history.specs.declared.step.Step.TheVariants as steps
use Rattle.reasons.specs.Onsets.{Sourced}
use Rattle.reasons.specs.declared.explained.onset.Source.{Source}
use Rattle.trusted_cmds.specs.declared.command.Command.{Command}

-- a step, and the number of its line
pub record LinedStep : Type 0 where
  pub step : Step
  pub line : ℕ

abbrev pub bare_steps : List LinedStep → List Step
bare_steps [] = []
bare_steps (s ∷ before) = s.step ∷ bare_steps before

-- the slot that a step names
abbrev pub slot_of : Step → Option ℕ
slot_of (steps.Put client tag request) = Some tag
slot_of (steps.Issue tag) = Some tag
slot_of (steps.Accept tag) = Some tag
slot_of (steps.Complete tag) = Some tag
slot_of (steps.Take client tag) = Some tag
slot_of steps.Recover = None
slot_of (steps.Reset client kind) = None

-- the command that was put in it, if one was
abbrev pub put_in_slot : (ℕ → Stage) → Option ℕ → Option Put
put_in_slot stages None = None
put_in_slot stages (Some tag) = put_at (stages tag)

abbrev pub put_named : List Moment → Step → Option Put
put_named before step = put_in_slot (stage before) (slot_of step)

abbrev pub command_put : Option Put → Option Command
command_put put = option_map (λ put. put.command) put

-- the act of a step comes from the line of the step, and from the client of that command
abbrev pub source_of_put : ℕ → Option Put → Source
source_of_put line put = record { line = line; client = client_of put }

abbrev pub sourced_step : Origin → List Step → Step → ℕ → Sourced
sourced_step o before step line = record {
  act = act_of (trace o before) step;
  source = source_of_put line (put_named (trace o before) step);
}

-- the steps as reasons count them: each with its act, if it does one
abbrev pub steps_done : Origin → List LinedStep → List Sourced
steps_done o [] = []
steps_done o (s ∷ before) = sourced_step o (bare_steps before) s.step s.line ∷ steps_done o before

-- the bytes that an acceptance brings
abbrev pub act_payload : Option Act → List ℕ
act_payload None = []
act_payload (Some (Accept fis payload)) = payload
act_payload (Some (Complete tag payload)) = []
act_payload (Some (Reset kind)) = []
act_payload (Some SoftwareReset) = []

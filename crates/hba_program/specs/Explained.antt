-- What is told of the commands that a host's drive refuses, and what is kept for it. A request is the line of the acts that
-- it asks for, and the client of a command is its slot; of what the host does by itself it is 0.
use Rattle.std.specs.Prelude.{◌≡◌, ℕ, Bool, true, false, List, [], ◌∷◌, Option, None, Some}
use Rattle.history.specs.Opening.{Origin}
use Rattle.history.specs.History.{Act}
use Rattle.drive.specs.State.{DriveState, Agrees}
use Rattle.reasons.specs.declared.explained.onset.Source.{Source}
use Rattle.reasons.specs.Onsets.{Sourced, bare_acts}
use Rattle.drive_scripts.specs.Kept.{KeptReasons, RecountsAll}
use Rattle.drive_scripts.specs.Explanations.{attributed, told_reasons}
use Rattle.sp_cells.specs.Resets.{power_cycle, hardware}
use Rattle.reasons.specs.declared.explained.onset.Cause.{Cause}
use Rattle.reasons.specs.declared.explained.onset.Cause.TheVariants.{ResetBy}
use Rattle.hba.specs.declared.work.Heard.{Heard}
use Rattle.host_memory.specs.declared.width.AddressWidth.{AddressWidth}
use Rattle.hba.specs.History.{over_new_by, Opened, State, Operation, Wrote, Powered, AgreesHba, IsHeard, account, acts_of}

abbrev pub source_at : ℕ → ℕ → Source
source_at number client = record { line = number; client = client }

-- acts of a source behind those before them: what is kept recounts them all, and this is told of them
pub record ExplainsActs (source : Source) (o : Origin) (past : List Sourced) (acts : List Act)
    (kept : KeptReasons) (text : List ℕ) : Type 0 where
  pub bare : bare_acts (attributed source acts past) ≡ acts
  pub recounts : RecountsAll kept o (attributed source acts past)
  pub reasons : text ≡ told_reasons o past acts

-- an operation of a controller so, over a drive that had done no act, whatever operations it agreed with
abbrev pub ExplainsSo : Source → KeptReasons → KeptReasons → State → Operation → List ℕ → Type 0
ExplainsSo source old new hba operation reasons =
    (width : AddressWidth) (o : Origin) (list : List Operation) (past : List Sourced)
    → AgreesHba hba (over_new_by width o) list
    → bare_acts past ≡ acts_of (over_new_by width o) list → RecountsAll old o past
    → ExplainsActs source o past (acts_of (over_new_by width o) (operation ∷ list)) new reasons

-- the same, if reasons are told
abbrev pub ExplainsOperation : Source → Option KeptReasons → Option KeptReasons → State → Operation
    → List ℕ → Type 0
ExplainsOperation source None new hba operation reasons = (new ≡ None) × (reasons ≡ [])
ExplainsOperation source (Some old) None hba operation reasons = ⊥
ExplainsOperation source (Some old) (Some new) hba operation reasons =
    ExplainsSo source old new hba operation reasons

-- what an operation of a controller gave to its drive is told
abbrev pub HearsOperation : State → State → Option Heard → Operation → Type 0
HearsOperation old new heard operation =
    (o : Opened) (list : List Operation) → AgreesHba old o list
    → AgreesHba new o (operation ∷ list) × IsHeard heard o (account o list) operation

-- what the host does by itself resets the drive in this way, if it does
abbrev pub IsOwn : Operation → Cause → Type 0
IsOwn (Wrote offset value) cause = cause ≡ ResetBy hardware
IsOwn Powered cause = cause ≡ ResetBy power_cycle
IsOwn operation cause = ⊥

-- at the start, over a drive that has done no act
abbrev pub StartsTelling : Bool → Option KeptReasons → DriveState → Type 0
StartsTelling false kept drive = kept ≡ None
StartsTelling true None drive = ⊥
StartsTelling true (Some kept) drive = (o : Origin) → Agrees drive o [] → RecountsAll kept o []

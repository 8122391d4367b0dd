-- Since which act something has held. The newest act comes first.
use Rattle.std.specs.Prelude.{◌≡◌, ◌%◌, ◌^◌, ◌==◌, ◌↔◌, ℕ, Bool, true, false, List, [], ◌∷◌, ◌++◌, length, Option, None, Some, Result, Ok, Err, if◌then◌else◌}
use Rattle.fis.specs.H2d.{h2d_at}
use Rattle.fis.specs.declared.h2d.RegH2d.{RegH2d}
use Rattle.sp_cells.specs.Resets.{programmatic}
use Rattle.trusted_cmds.specs.Commands.{is_programmatic_reset, reading as command_in}
use Rattle.trusted_cmds.specs.declared.command.Command.{Command}
use Rattle.trusted_cmds.specs.declared.command.CommandError.{CommandError}
use Rattle.compacket.specs.Frames.{Frame, reading as frame_in}
use Rattle.compacket.specs.declared.error.FrameError.{FrameError}
use Rattle.history.specs.Opening.{Origin}
use Rattle.history.specs.Readers.{in_force}
use Rattle.history.specs.History.{Act, Accept, Complete, Reset, SoftwareReset, log}
use Rattle.reasons.specs.declared.explained.condition.Condition.{Condition}
use Rattle.reasons.specs.declared.explained.onset.Source.{Source}
use Rattle.reasons.specs.declared.explained.onset.Cause.{Cause}
use Rattle.reasons.specs.declared.explained.onset.Cause.TheVariants.{SetIn, CommittedIn, ResetBy, NoCause}
use Rattle.reasons.specs.declared.explained.onset.Onset.{Onset}
use Rattle.reasons.specs.declared.explained.onset.Onset.TheVariants.{AtOpening, AtAct}
use Rattle.reasons.specs.Conditions.{is_in_force}

-- an act, or a step of a port that does none on the drive, and where it comes from
pub record Sourced : Type 0 where
  pub act : Option Act
  pub source : Source

abbrev pub from_source : Source → Act → Sourced
from_source source act = record { act = Some act; source = source }

abbrev pub with_act : Option Act → List Act → List Act
with_act None acts = acts
with_act (Some act) acts = act ∷ acts

abbrev pub bare_acts : List Sourced → List Act
bare_acts [] = []
bare_acts (s ∷ before) = with_act s.act (bare_acts before)

-- the token that ends a transaction, and the empty one, which may stand before it (Core 2.01, section 3.2.2.4)
abbrev pub end_token : ℕ
end_token = 0xfc

abbrev pub empty_token : ℕ
empty_token = 0xff

abbrev pub is_end_of_transaction : List ℕ → Bool
is_end_of_transaction [] = false
is_end_of_transaction (byte ∷ bytes) =
    if byte == empty_token then is_end_of_transaction bytes else byte == end_token

-- the command that resets the drive, whatever comes with it (Opal SSC 2.01, section 3.3.3, TPER_RESET)
abbrev pub is_reset_read : Result (Command × Option ℕ) CommandError → Bool
is_reset_read (Ok read) = is_programmatic_reset read.0
is_reset_read (Err fault) = false

abbrev pub carries_reset : RegH2d → Bool
carries_reset h = is_reset_read (command_in h)

-- by what an act can bring something into force: a command that resets does it by that; the tokens in a frame set it, or
-- end the transaction that did; nothing else brings something
abbrev pub cause_of_frame : Result Frame FrameError → Cause
cause_of_frame (Ok frame) =
    if is_end_of_transaction frame.payload then CommittedIn frame.session.tsn
    else SetIn frame.session.tsn
cause_of_frame (Err fault) = NoCause

abbrev pub cause_in : RegH2d → Result Frame FrameError → Cause
cause_in h frame = if carries_reset h then ResetBy programmatic else cause_of_frame frame

abbrev pub cause_of : Act → Cause
cause_of (Accept fis payload) = cause_in (h2d_at fis) (frame_in payload)
cause_of (Complete tag payload) = NoCause
cause_of (Reset kind) = ResetBy kind
cause_of SoftwareReset = NoCause

abbrev pub cause_at : Option Act → Cause
cause_at None = NoCause
cause_at (Some act) = cause_of act

-- acts are counted from 1, as far as 64 bits count; of a port its steps are
abbrev pub act_number : List Sourced → ℕ
act_number past = length past % 2 ^ 64

-- an act behind those before it
abbrev pub onset_at : Sourced → List Sourced → Onset
onset_at s before = AtAct (act_number (s ∷ before)) s.source (cause_at s.act)

-- it goes on since then, or begins now
abbrev pub first_onset : Option Onset → Onset → Onset
first_onset None now = now
first_onset (Some onset) now = onset

abbrev pub onset_after : Option Onset → Bool → Onset → Option Onset
onset_after before holds now = if holds then Some (first_onset before now) else None

-- since when p has held without a break, if it holds: the opening, or an act
abbrev pub held_since : (List Sourced → Bool) → List Sourced → Option Onset
held_since p [] = onset_after None (p []) AtOpening
held_since p (s ∷ before) = onset_after (held_since p before) (p (s ∷ before)) (onset_at s before)

-- a condition by the rows in force after acts
abbrev pub holds_after : Origin → Condition → List Sourced → Bool
holds_after o condition past = is_in_force (in_force o (log o (bare_acts past))) condition

-- In other words.

-- the onset is the latest act of these, before which p did not hold; or the opening, where there is none
abbrev pub IsOnset : (List Sourced → Bool) → List Sourced → Onset → Type 0
IsOnset p [] onset = onset ≡ AtOpening
IsOnset p (s ∷ before) onset = (onset ≡ onset_at s before) × (p before ≡ false)

-- p began to hold at the onset, held then, and has held after each act since
pub record HasHeldSince (p : List Sourced → Bool) (past : List Sourced)
    (onset : Onset) : Type 0 where
  pub later : List Sourced
  pub earlier : List Sourced
  pub place : past ≡ later ++ earlier
  pub begins : IsOnset p earlier onset
  pub holds : (newer older : List Sourced) → later ≡ newer ++ older → p (older ++ earlier) ≡ true

abbrev pub OnsetLaw : Type 0
OnsetLaw =
    (p : List Sourced → Bool) (past : List Sourced) (onset : Onset)
    → (held_since p past ≡ Some onset) ↔ HasHeldSince p past onset

abbrev pub NeverLaw : Type 0
NeverLaw =
    (p : List Sourced → Bool) (past : List Sourced)
    → (held_since p past ≡ None) ↔ (p past ≡ false)

-- What is told of a refusal behind the lines that it prints: of a denial since when what denied it has been in force, and
-- what would lift it; of any other the rule, by what its command asked for.
use Rattle.std.specs.Prelude.{ℕ, ◌-◌, ◌||◌, Bool, true, false, codes, if◌then◌else◌, List, [], ◌∷◌, ◌++◌, map, take, length, Option, None, Some, is_some}
use Rattle.fis.specs.H2d.{h2d_at}
use Rattle.trusted_cmds.specs.declared.command.Command.{Command}
use Rattle.compacket.specs.Frames.{reading as frame_in}
use Rattle.sp_cells.specs.declared.names.Uid.{Uid}
use Rattle.sp_cells.specs.declared.names.Sp.{Sp}
use Rattle.sp_cells.specs.declared.names.Sp.TheVariants.{Admin, Locking}
use Rattle.sp_cells.specs.Config.{sizes_in}
use Rattle.audit.specs.declared.reason.AttemptFailure.{AttemptFailure}
use Rattle.audit.specs.declared.reason.AttemptFailure.TheVariants.{Disabled}
use Rattle.audit.specs.declared.reason.Why.{Why}
use Rattle.audit.specs.declared.reason.Why.TheVariants.{NoEntryHolds, NoAccessRow, AttemptFailed}
use Rattle.audit.specs.declared.rules.rule.Rule.{Rule}
use Rattle.transactions.specs.declared.change.SessionId.{SessionId}
use Rattle.history.specs.Opening.{Origin}
use Rattle.history.specs.Events.{Event}
use Rattle.history.specs.History.{Act, Accept, Complete, Reset, SoftwareReset, log}
use Rattle.history.specs.Readers.{in_force, open_on}
use Rattle.tper.specs.Seen.{living_session, rows_of_session, held_of_session, room_of_session}
use Rattle.reasons.specs.declared.explained.onset.Source.{Source}
use Rattle.reasons.specs.Onsets.{Sourced, from_source, bare_acts, held_since, holds_after}
use Rattle.reasons.specs.declared.explained.onset.Counted.{Counted}
use Rattle.reasons.specs.declared.explained.onset.Counted.TheVariants.{Acts}
use Rattle.reasons.specs.Lives.{life_of}
use Rattle.reasons.specs.Asked.{Seen, seen_with}
use Rattle.reasons.specs.Details.{details_text}
use Rattle.reasons.specs.Conditions.{range_place}
use Rattle.reasons.specs.Called.{called_object}
use Rattle.reasons.specs.Remedies.{sp_object}
use Rattle.reasons.specs.Sent.{session_of_frame}
use Rattle.reasons.specs.Within.{Asker, asker_with, told_within}
use Rattle.reasons.specs.Rulings.{command_carried, ruled_text}

-- how many acts stand before the earlier ones
abbrev pub added : List Act → List Sourced → ℕ
added acts past = length acts - length (bare_acts past)

-- the acts of a line come from it, behind those that were before
abbrev pub attributed : Source → List Act → List Sourced → List Sourced
attributed source acts past = map (from_source source) (take (added acts past) acts) ++ past

-- why an act was refused: what denied it, or else the rule; neither where it was not
pub record Objection : Type 0 where
  pub denied : Option Why
  pub rule : Option Rule

abbrev pub no_objection : Objection
no_objection = record { denied = None; rule = None }

abbrev pub objection_of : Event → Objection
objection_of event = record { denied = event.denied; rule = event.rule }

-- of the first of these events that was refused
abbrev pub objection_in : List Event → Objection
objection_in [] = no_objection
objection_in (event ∷ events) =
    if is_some event.denied || is_some event.rule then objection_of event else objection_in events

-- the command that these acts, the newest first, did: that of the newest FIS
abbrev pub command_done : List Act → Option Command
command_done [] = None
command_done (Accept fis payload ∷ acts) = command_carried (h2d_at fis)
command_done (Complete tag payload ∷ acts) = command_done acts
command_done (Reset kind ∷ acts) = None
command_done (SoftwareReset ∷ acts) = None

-- and the bytes that it brought
abbrev pub payload_done : List Act → List ℕ
payload_done [] = []
payload_done (Accept fis payload ∷ acts) = payload
payload_done (Complete tag payload ∷ acts) = payload_done acts
payload_done (Reset kind ∷ acts) = []
payload_done (SoftwareReset ∷ acts) = []

-- the SP whose rows a denial went by that a transaction may have changed: of a method for which no ACE holds, and of an
-- authority that is not enabled
abbrev pub sp_of_failure : Sp → AttemptFailure → Option Sp
sp_of_failure sp Disabled = Some sp
sp_of_failure sp _ = None

abbrev pub sp_asked : Why → Option Sp
sp_asked (NoEntryHolds sp object method column need) = Some sp
sp_asked (AttemptFailed sp authority failure) = sp_of_failure sp failure
sp_asked _ = None

-- that a transaction is open there, whose changes its session sees, and all do behind the commit (Core 2.01, section 3.3.9)
abbrev pub pending_text : Bool → Sp → List ℕ
pending_text false sp = []
pending_text true sp =
    codes "because a transaction is open on " ++ called_object (sp_object sp)
    ++ codes ": its session sees what it set, and all do behind its commit" ++ 10 ∷ []

abbrev pub open_text : List Event → Option Sp → List ℕ
open_text past None = []
open_text past (Some sp) = pending_text (is_some (open_on past sp)) sp

-- the session that the frame of a payload names, on an SP
abbrev pub session_named_on : List ℕ → Sp → SessionId
session_named_on payload sp = record { tsn = session_of_frame (frame_in payload); sp = sp }

-- the one in which a command was denied; a transfer is denied in none
abbrev pub sp_denied : Why → Sp
sp_denied (NoEntryHolds sp object method column need) = sp
sp_denied (NoAccessRow sp object method) = sp
sp_denied (AttemptFailed sp authority failure) = sp
sp_denied _ = Locking

abbrev pub session_denied : List ℕ → Why → SessionId
session_denied payload why = session_named_on payload (sp_denied why)

-- what it sees behind acts, and what it holds: the rules judge its calls by that
abbrev pub asker_after : Origin → List Event → SessionId → Asker
asker_after o past id =
    asker_with o.tables.config.profile id.tsn (rows_of_session o past (living_session past id))

abbrev pub held_after : List Event → SessionId → Option (List Uid)
held_after past id = held_of_session past (living_session past id)

-- and the session of the Locking SP that is named, with how many bytes a response to it has room for
abbrev pub seen_on : Origin → List Event → SessionId → Seen
seen_on o past id =
    seen_with o.tables.config.profile (rows_of_session o past (living_session past id))
    (sizes_in o.tables.config)
    (room_of_session o.tables.config.profile past (living_session past id))

abbrev pub seen_after : Origin → List Act → List ℕ → Seen
seen_after o acts payload = seen_on o (log o acts) (session_named_on payload Locking)

-- what is told of a rule, by the command with its bytes, the rows in force, what its session sees, and the sessions before it
abbrev pub refusal_text : Counted → Origin → List Sourced → List Act → Option Command → List ℕ
    → Option Rule → List ℕ
refusal_text counted o past acts command payload rule =
    ruled_text o.tables.config.profile (in_force o (log o acts)) command rule
    ++ details_text counted (seen_after o acts payload) (life_of o past) payload rule

-- what is told of a denial, by the locks as they were before its acts, by the rows in force behind them, and by what its
-- session sees and holds; or of the rule: lines, each with its line feed
abbrev pub told_after : Counted → Origin → List Sourced → List Act → SessionId → Why → List ℕ
told_after counted o past acts id why =
    told_within counted (λ c. held_since (holds_after o c) past)
    (range_place (in_force o (log o (bare_acts past)))) o.tables.config.profile
    (in_force o (log o acts)) (asker_after o (log o acts) id) (held_after (log o acts) id) why

abbrev pub denial_text : Counted → Origin → List Sourced → List Act → Option Command → List ℕ
    → Option Why → Option Rule → List ℕ
denial_text counted o past acts command payload None rule =
    refusal_text counted o past acts command payload rule
denial_text counted o past acts command payload (Some why) rule =
    open_text (log o acts) (sp_asked why)
    ++ told_after counted o past acts (session_denied payload why) why

abbrev pub objection_text : Origin → List Sourced → List Act → Objection → List ℕ
objection_text o past acts objection =
    denial_text Acts o past acts (command_done acts) (payload_done acts) objection.denied
    objection.rule

-- what is told of the acts of a line
abbrev pub told_reasons : Origin → List Sourced → List Act → List ℕ
told_reasons o past acts =
    objection_text o past acts (objection_in (take (added acts past) (log o acts)))

-- the acts of a command: it is accepted, and where it is held it is completed
abbrev pub once_served : Bool → List ℕ → List ℕ → ℕ → List ℕ → List Act → List Act
once_served held fis payload tag bytes acts =
    if held then Complete tag bytes ∷ Accept fis payload ∷ acts else Accept fis payload ∷ acts

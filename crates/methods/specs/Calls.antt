-- What a call in a session does: it is judged by what the session sees and holds, and the judgement says what is done
-- and answered. Attempts go by the rows in force.
use Rattle.std.specs.Prelude.{ℕ, ◌≡◌, slice_index, false, List, map, Option, Some, None, if◌then◌else◌}
use Rattle.tcg_tokens.specs.Tree.{Tree, tree}
use Rattle.tcg_tokens.specs.Message.{message}
use Rattle.tcg_tokens.specs.declared.value.Call.{Call}
use Rattle.sp_cells.specs.declared.names.Uid.{Uid}
use Rattle.sp_cells.specs.declared.names.Sp.{Sp}
use Rattle.sp_cells.specs.declared.names.Sp.TheVariants.{Admin, Locking}
use Rattle.sp_cells.specs.Names.{c_pin_sid}
use Rattle.sp_cells.specs.ColumnNames.{pin_column}
use Rattle.sp_cells.specs.Config.{sizes_in}
use Rattle.sp_cells.specs.Flat.{LookUp}
use Rattle.audit.specs.declared.reason.AttemptFailure.{AttemptFailure}
use Rattle.transactions.specs.declared.change.SessionId.{SessionId}
use Rattle.transactions.specs.Stored.{Stored}
use Rattle.transactions.specs.Sights.{sight_of, latest_look}
use Rattle.tcg_calls.specs.Asks.{ask_of, uid_of}
use Rattle.tcg_calls.specs.Statuses.{success, not_authorized}
use Rattle.sessions.specs.Answers.{rows_in_force}
use Rattle.sessions.specs.Attempts.{attempt_failure as failure_of}
use Rattle.sessions.specs.Deeds.{Unchanged, Changed, Sets, Activated, Reverted, Erased, Drew, Outcome, says, refuses, gains_of, tried}
use Rattle.sessions.specs.declared.beside.Beside.{Beside}
use Rattle.sessions.specs.Live.{Live, session_room}
use Rattle.sessions.specs.Made.{Meets}
use Rattle.sessions.specs.Starts.{is_in_use}
use Rattle.methods.specs.declared.outcome.Outcome.{Outcome as Answered}
use Rattle.methods.specs.Said.{reply_of, refusal_of, done, attempt_reply, attempt_denied}
use Rattle.methods.specs.Effects.{held_in, seen_by, has_transaction}
use Rattle.methods.specs.Random.{random_bytes}
use Rattle.methods.specs.Erasures.{erased_by_revert, erased_by_key, erased_by_revert_sp}
use Rattle.methods.specs.Judgement.{Standing, Judgement, Denies, Refuses, Gives, Draws, Makes, Attempts, Activates, Reverts, Erases, RevertsSp, judged}

-- what the rules ask of a session that holds these authorities, and whose responses have so much room, of what is kept
abbrev pub standing_on : Beside → ℕ → Stored → SessionId → List Uid → Standing
standing_on beside room s session held = record {
  profile = s.config.profile;
  sectors = s.config.sectors;
  sizes = sizes_in s.config;
  rows = seen_by s session;
  byte = slice_index (sight_of s session).bytes;
  sp = session.sp;
  newest = latest_look s session.sp;
  held = held;
  is_open = has_transaction s session;
  block = beside.block;
  room = room;
  random = random_bytes s.config.seed beside.drawn;
}

-- with those that it holds
abbrev pub standing_in : Stored → Live → SessionId → Standing
standing_in s live session =
    standing_on live.beside (session_room s.config.profile live session) s session
    (held_in live session)

-- what comes of a call with these arguments, and of the call that a session sends
abbrev pub judged_with : Stored → Live → SessionId → Uid → Uid → List Tree → Judgement
judged_with s live session object method args =
    judged (standing_in s live session) object method
    (ask_of s.config.profile session.sp object method args)

abbrev pub judged_call : Stored → Live → SessionId → Call → Judgement
judged_call s live session call =
    judged_with s live session (uid_of call.object) (uid_of call.method) (map tree call.args.items)

abbrev pub tried_in : LookUp → Sp → Uid → Option AttemptFailure → Outcome
tried_in rows sp authority failure = record {
  deed = tried rows sp authority failure (gains_of rows sp authority failure);
  said = attempt_reply failure;
  denied = attempt_denied sp authority failure;
  rule = None;
}

abbrev pub activates : LookUp → Outcome
activates rows =
    says (if is_in_use rows Locking then Unchanged
    else Activated (rows Admin c_pin_sid pin_column)) done

-- what a judgement does, and how it is answered, by the rows in force
abbrev pub outcome_of : LookUp → Sp → Judgement → Outcome
outcome_of rows sp (Denies why) = record {
  deed = Unchanged;
  said = refusal_of not_authorized;
  denied = Some why;
  rule = None;
}
outcome_of rows sp (Refuses status rule) = refuses (refusal_of status) rule
outcome_of rows sp (Gives results) = says Unchanged (reply_of results success)
outcome_of rows sp (Draws count results) = says (Drew count) (reply_of results success)
outcome_of rows sp (Makes setting) = says (Changed sp (Sets setting)) done
outcome_of rows sp (Attempts block authority pin) =
    tried_in rows sp authority (failure_of block rows sp authority pin)
outcome_of rows sp Activates = activates rows
outcome_of rows sp (Reverts reverted) = says (Reverted reverted (erased_by_revert rows)) done
outcome_of rows sp (Erases range) = says (Erased (erased_by_key rows range)) done
outcome_of rows sp (RevertsSp keep) = says (Reverted Locking (erased_by_revert_sp rows keep)) done

-- in a session, by those that are kept
abbrev pub outcome_in : Stored → SessionId → Judgement → Outcome
outcome_in s session judgement = outcome_of (rows_in_force s) session.sp judgement

-- what is answered, and what is made of the store and of the sessions, is what an outcome says
pub record Fulfils (outcome : Outcome) (out : Answered) (s t : Stored) (l m : Live) : Type 0 where
  pub met : Meets outcome (message out.reply) out.denied out.rule out.erases s t l m
  pub unchanged : out.changes ≡ false → t ≡ s

-- so it is of a judgement that changes nothing, whatever is kept
abbrev pub Tells : Judgement → Answered → Type 0
Tells judgement out =
    (rows : LookUp) (sp : Sp) (s : Stored) (l : Live)
    → Fulfils (outcome_of rows sp judgement) out s s l l

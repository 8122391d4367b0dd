-- Methods, over every lawful list of steps: a call of a right shape with valid values takes effect,
-- and a column is listed, exactly where an access entry that names it holds of the session's
-- authorities in its view.
use Rattle.std.specs.Prelude.{◌++◌, ◌≡◌, ◌↔◌, ◌<◌, ℕ, true, false, List, [], ◌∷◌, map, Option, Some, None, Ok}
use Rattle.sp_cells.specs.declared.cells.Cell.{Cell}
use Rattle.sp_cells.specs.declared.names.Column.{Column}
use Rattle.sp_cells.specs.declared.names.Sp.TheVariants.{Admin, Locking}
use Rattle.sp_cells.specs.declared.names.Uid.{Uid}
use Rattle.sp_cells.specs.ColumnNames.{pin_column}
use Rattle.sp_cells.specs.Names.{c_pin_sid, table_of}
use Rattle.sp_tables.specs.RowNames.{rows_of_table}
use Rattle.ace_eval.specs.Aces.{acl_at}
use Rattle.methods.specs.Tables.{rows_asked, uids_tree}
use Rattle.audit.specs.declared.reason.Why.{Why}
use Rattle.compacket.specs.Frames.{Frame, reading as frame_in}
use Rattle.tcg_tokens.specs.Message.{call}
use Rattle.tcg_tokens.specs.Tree.{Trees, list, trees_of}
use Rattle.trusted_cmds.specs.declared.command.Command.TheVariants.{Send}
use Rattle.tcg_calls.specs.Asks.{uid_of}
use Rattle.tcg_calls.specs.Statuses.{success, not_authorized}
use Rattle.tcg_calls.specs.declared.call_shapes.ask.Ask.{Ask}
use Rattle.tcg_calls.specs.declared.call_shapes.ask.Ask.TheVariants.{GetCells, GetBytes, SetCells, SetBytes, Authenticate, Activate, Revert, GenKey, RevertSp, Next, GetAcl, Random, Other}
use Rattle.shadow_mbr.specs.Erasure.{no_sectors, all_sectors}
use Rattle.sp_cells.specs.Numbers.{key_number}
use Rattle.methods.specs.Erasures.{erased_by_key, erased_by_revert_sp, is_wholly_locked}
use Rattle.methods.specs.Laws.{IsAmong, IsListed, are_rising, IsGranted, takes_effect}
use Rattle.methods.specs.Listed.{cell_value}
use Rattle.methods.specs.Said.{reply_of}
use Rattle.sessions.specs.Attempts.{attempt_failure as failure_of, credential}
use Rattle.sessions.specs.Starts.{is_in_use}
use Rattle.methods.specs.Effects.{sp_of_row}
use Rattle.sessions.specs.Deeds.{Setting, Sets, Outcome, says, Attempt, SessionDeed, Unchanged, Tried, Changed, Activated, Reverted, Erased, Drew, Begun}
use Rattle.methods.specs.Judgement.{Judgement, Standing, asked, does, to_set}
use Rattle.history.specs.Decisions.{is_session_com_id}
use Rattle.history.specs.Tcg.{takes_blocks, answers, is_manager, tcg, item_in}
use Rattle.methods.specs.Calls.{outcome_of}
use Rattle.history.specs.Facts.{Facts, session_named, standing}
use Rattle.history.specs.Opening.{Origin}
use Rattle.port_history.specs.declared.stages.Put.{Put}
use Rattle.port_history.specs.declared.stages.Stage.TheVariants.{Issued}
use Rattle.port_history.specs.declared.step.Step.{Step}
use Rattle.port_history.specs.declared.step.Step.TheVariants as steps
use Rattle.port_history.specs.Refusals.{IsLawful}
use Rattle.port_history.specs.Steps.{trace, stage, payload}
use Rattle.headline.specs.Steps.{facts_after, event_after}

-- A step at which the drive takes a call that a client sent: by security protocol 01h, in no more
-- blocks than the drive takes, on a ComID of sessions on which no response waits, in a frame that
-- names a live session.
pub record IsCallStep (o : Origin) (before : List Step) (step : Step) (session : Begun)
    (object method : List ℕ) (args : Trees) : Type 0 where
  pub tag : ℕ
  pub put : Put
  pub accepts : step ≡ steps.Accept tag
  pub stands : stage (trace o before) tag ≡ Issued put
  pub com_id : ℕ
  pub blocks : ℕ
  pub sends : put.command ≡ Send 1 com_id blocks true
  pub some : 0 < blocks
  pub fits : takes_blocks o.tables.config.profile blocks ≡ true
  pub of_sessions : is_session_com_id com_id ≡ true
  pub free : (facts_after tcg o before).waiting com_id ≡ None
  pub frame : Frame
  pub framed : frame_in (payload (trace o before) tag) ≡ Ok frame
  pub addressed : frame.com_id ≡ com_id
  pub no_manager : is_manager frame.session ≡ false
  pub named : session_named (facts_after tcg o before) com_id frame.session ≡ Some session
  pub status : List ℕ
  pub calls : item_in o.tables.config.profile frame.payload ≡ Ok (call object method args status)

-- The session's authorities, and what it sees.
abbrev pub standing_at : Origin → List Step → Begun → Standing
standing_at o before session = standing (facts_after tcg o before) session

-- Each column that the call names has an access entry that names it and whose expression is the
-- postorder writing of a tree that is true of the session's authorities; where the call names no
-- column, some entry of its method is so.
abbrev pub IsGrantedAt : Origin → List Step → Begun → List ℕ → List ℕ → Ask → Type 0
IsGrantedAt o before session object method ask =
    IsGranted (standing_at o before session) (uid_of object) (uid_of method) ask

-- What the ask comes to in the session, were it granted: a listing, a Set, an attempt, an Activate, a
-- Revert; or a refusal, where its values are not valid.
abbrev pub comes_to : Origin → List Step → Begun → List ℕ → Ask → Judgement
comes_to o before session object ask = does (standing_at o before session) (uid_of object) ask

-- What it means that a method takes effect: Get changes nothing; Set changes the named cells, or
-- bytes, in its SP; Authenticate makes its attempt, on the credential of the authority by the rows in
-- force; Activate activates the Locking SP, with the PIN of SID, where it is not yet in use; Revert
-- reverts the SP of the row, and erases all sectors where the Locking SP is in use, and else none;
-- GenKey erases the sectors of the range whose key the object is, by the rows in force; RevertSP reverts
-- the Locking SP, and erases all sectors, or those of the numbered ranges by the rows in force before
-- it, where it keeps the global range, which then is not locked both ways; Random gives so many random
-- bytes, which are given to no other call.
abbrev pub EffectIs : Facts → Begun → Uid → Ask → SessionDeed → Type 0
EffectIs f session object (GetCells first last) deed = deed ≡ Unchanged
EffectIs f session object (GetBytes first last) deed = deed ≡ Unchanged
EffectIs f session object (SetCells values) deed =
    (set : Setting) × (to_set (standing f session) object (SetCells values) ≡ Ok set)
    × (deed ≡ Changed session.sp (Sets set))
EffectIs f session object (SetBytes at content) deed =
    (set : Setting) × (to_set (standing f session) object (SetBytes at content) ≡ Ok set)
    × (deed ≡ Changed session.sp (Sets set))
EffectIs f session object (Authenticate authority pin) deed =
    (attempt : Attempt) × (deed ≡ Tried attempt)
    × (attempt.sp ≡ session.sp) × (attempt.authority ≡ authority)
    × (attempt.row ≡ credential f.rows session.sp authority)
    × (attempt.failure ≡ failure_of f.beside.block f.rows session.sp authority pin)
EffectIs f session object Activate deed =
    (is_in_use f.rows Locking ≡ true → deed ≡ Unchanged)
    × (is_in_use f.rows Locking ≡ false → deed ≡ Activated (f.rows Admin c_pin_sid pin_column))
EffectIs f session object Revert deed =
    (is_in_use f.rows Locking ≡ true → deed ≡ Reverted (sp_of_row object) all_sectors)
    × (is_in_use f.rows Locking ≡ false → deed ≡ Reverted (sp_of_row object) no_sectors)
EffectIs f session object GenKey deed =
    (range : ℕ) × (key_number object ≡ Some range) × (deed ≡ Erased (erased_by_key f.rows range))
EffectIs f session object (RevertSp keep) deed =
    (keep ≡ true → is_wholly_locked (f.rows_of session.number) ≡ false)
    × (deed ≡ Reverted Locking (erased_by_revert_sp f.rows keep))
EffectIs f session object (Next after count) deed = deed ≡ Unchanged
EffectIs f session object (GetAcl about what) deed = deed ≡ Unchanged
EffectIs f session object (Random count) deed = deed ≡ Drew count
EffectIs f session object Other deed = ⊥

-- A call that is refused for want of an entry: it changes nothing, and is answered NOT_AUTHORIZED,
-- status 01h.
abbrev pub refused_with : Why → Outcome
refused_with why =
    record { deed = Unchanged; said = reply_of [] not_authorized; denied = Some why; rule = None }

-- The step does so, and leaves its response.
pub record DoesSo (o : Origin) (before : List Step) (step : Step) (session : Begun)
    (object method : List ℕ) (args : Trees)
    (c : IsCallStep o before step session object method args) (x : Outcome) : Type 0 where
  pub event : event_after tcg o before step ≡ Some (answers c.com_id c.frame.session x)

-- The columns of a Get: the pairs that it lists are those that have an entry, with the cells that
-- the session sees; they rise by their columns, and so none is there twice.
pub record Lists (o : Origin) (before : List Step) (step : Step) (session : Begun)
    (object method : List ℕ) (args : Trees)
    (c : IsCallStep o before step session object method args) (first last : ℕ) : Type 0 where
  pub cells : List (Column × Cell)
  pub says : event_after tcg o before step
      ≡ Some (answers c.com_id c.frame.session
      (says Unchanged (reply_of (list (trees_of (map cell_value cells)) ∷ []) success)))
  pub exactly : (column : Column) (cell : Cell) → IsAmong {A = Column × Cell} cells (column, cell)
      ↔ IsListed (standing_at o before session).profile (standing_at o before session).rows
      session.sp (uid_of object) first last (standing_at o before session).held column cell
  pub rises : are_rising (map (λ (pair : Column × Cell). pair.0) cells) ≡ true

-- The rows that a Next tells: all those of the table in the session's SP, in their order, or those behind the row that it
-- names, and no more of them than its count. The ACEs that a GetACL tells: those of the line of the access list.
pub record TellsRows (o : Origin) (before : List Step) (step : Step) (session : Begun)
    (object method : List ℕ) (args : Trees)
    (c : IsCallStep o before step session object method args)
    (after : Option Uid) (count : Option ℕ) : Type 0 where
  pub rows : List Uid
  pub asked_for : rows_asked after count (rows_of_table session.sp (table_of (uid_of object)))
      ≡ Some rows
  pub says : event_after tcg o before step
      ≡ Some (answers c.com_id c.frame.session
      (says Unchanged (reply_of (uids_tree rows ∷ []) success)))

pub record TellsAcl (o : Origin) (before : List Step) (step : Step) (session : Begun)
    (object method : List ℕ) (args : Trees)
    (c : IsCallStep o before step session object method args) (about what : Uid) : Type 0 where
  pub acl : List Uid
  pub line : acl_at o.tables.config.profile session.sp about what ≡ Some acl
  pub says : event_after tcg o before step
      ≡ Some (answers c.com_id c.frame.session
      (says Unchanged (reply_of (uids_tree acl ∷ []) success)))

-- Of a call of the right shape: with valid values it takes effect exactly where it is granted, and
-- then does what its method says; where it is not granted it is refused; a Get that takes effect lists
-- exactly what has an entry, and a Next and a GetACL tell the rows and the ACEs that there are.
pub record IsJudged (o : Origin) (before : List Step) (step : Step) (session : Begun)
    (object method : List ℕ) (args : Trees)
    (c : IsCallStep o before step session object method args) (ask : Ask) : Type 0 where
  pub granted : takes_effect (comes_to o before session object ask) ≡ true
      → DoesSo o before step session object method args c
      (outcome_of (facts_after tcg o before).rows session.sp (comes_to o before session object ask))
      ↔ IsGrantedAt o before session object method ask
  pub effect : takes_effect (comes_to o before session object ask) ≡ true
      → EffectIs (facts_after tcg o before) session (uid_of object) ask
      (outcome_of (facts_after tcg o before).rows session.sp
      (comes_to o before session object ask)).deed
  pub refused : (IsGrantedAt o before session object method ask → ⊥)
      → (why : Why) × DoesSo o before step session object method args c (refused_with why)
  pub listed : (first last : ℕ) → ask ≡ GetCells first last
      → takes_effect (comes_to o before session object ask) ≡ true
      → IsGrantedAt o before session object method ask
      → Lists o before step session object method args c first last
  pub rows_told : (after : Option Uid) (count : Option ℕ) → ask ≡ Next after count
      → takes_effect (comes_to o before session object ask) ≡ true
      → IsGrantedAt o before session object method ask
      → TellsRows o before step session object method args c after count
  pub acl_told : (about what : Uid) → ask ≡ GetAcl about what
      → takes_effect (comes_to o before session object ask) ≡ true
      → IsGrantedAt o before session object method ask
      → TellsAcl o before step session object method args c about what

-- Each call of a right shape among the steps of a list.
abbrev pub AreJudged : Origin → List Step → Type 0
AreJudged o all =
    (later before : List Step) (step : Step) (session : Begun) (object method : List ℕ)
    (args : Trees) (ask : Ask) → all ≡ later ++ step ∷ before
    → (c : IsCallStep o before step session object method args)
    → asked o.tables.config.profile session.sp (uid_of object) (uid_of method) args ≡ Some ask
    → IsJudged o before step session object method args c ask

abbrev pub MethodLaw : Type 0
MethodLaw = (o : Origin) (all : List Step) → IsLawful o all → AreJudged o all

-- A wrong PIN counts below the limit alone.
use Rattle.std.proofs.Common.{◌≡◌, ℕ, ◌==◌, Bool, true, false, not, ◌||◌, List, Option, Some, None, refl, sym, ◌∙◌, ap, cond, inl, inr, ◌&&◌}
use Rattle.std.specs.Prelude.{zero, suc, Result, Ok, Err}
use Rattle.sp_cells.specs.declared.names.Uid.{Uid}
use Rattle.sp_cells.specs.declared.names.Sp.{Sp}
use Rattle.sp_cells.specs.declared.names.Sp.TheVariants.{Admin, Locking}
use Rattle.sp_cells.specs.Names.{set, c_pin_sid, anybody, sid, properties, start_session}
use Rattle.trusted_cmds.specs.declared.block.SidBlock.{SidBlock}
use Rattle.trusted_cmds.specs.BlockSid.{is_blocked}
use Rattle.audit.specs.declared.reason.AttemptFailure.{AttemptFailure}
use Rattle.tcg_tokens.specs.declared.error.TokenError.{TokenError}
use Rattle.tcg_tokens.specs.Message.{Message, call, reply, end_session, begin, end}
use Rattle.sp_cells.specs.ColumnNames.{pin_column, try_limit_column, tries_column, is_class_column, enabled_column}
use Rattle.sessions.specs.Attempts.{attempt_failure as failure_of, is_there, credential, is_pin, is_used_up}
use Rattle.tcg_calls.specs.Asks.{uid_of}
use Rattle.sessions.specs.Deeds.{Begun, SessionDeed, Unchanged, Tried, Activated, Outcome, says, refuses as refuses_item}
use Rattle.tcg_calls.specs.Statuses.{fail}
use Rattle.sessions.specs.Properties.{properties_message, host_told, told_deed}
use Rattle.methods.specs.Judgement.{Judgement, Refuses, Gives, Makes, Attempts, Activates, Reverts, Erases, RevertsSp, Denies, Draws}
use Rattle.sessions.specs.declared.opening.Opening.{Opening}
use Rattle.sessions.specs.declared.opening.StartVerdict.{StartVerdict}
use Rattle.sessions.specs.declared.opening.StartVerdict.TheVariants.{Refused, Attempted}
use Rattle.sessions.specs.Live.{Live, lives_on}
use Rattle.sessions.specs.Starts.{opening_of, is_in_use, sp_named, is_full, opening_verdict_on}
use Rattle.tcg_calls.specs.Named.{values_of}
use Rattle.sp_cells.specs.Flat.{LookUp}
use Rattle.history.specs.Facts.{live, has_open, Facts}
use Rattle.history.specs.Tcg.{start_verdict, deed_of_start, start_deed, started, is_method_of_manager, to_manager, judgement_on, begins_on, ends_on, in_session, properties_told}
use Rattle.methods.specs.Calls.{outcome_of}
use Rattle.methods.specs.Said.{refusal_of}
use Rattle.history.proofs.Items.{item-from, stack_deed}
use Rattle.sp_cells.specs.Ranges.{number}
use Rattle.audit.specs.declared.reason.AttemptFailure.TheVariants.{WrongPin, LockedOut, Disabled, Blocked, Unknown}
use Rattle.history.specs.TriesLaw.{is_below_limit, LimitLaw}
use Rattle.audit.specs.declared.rules.rule.Rule.TheVariants.{NoMethod, NotInUse, SpBusy, NoNumber}
use Rattle.sessions.specs.declared.beside.HostLimits.{HostLimits}
use Rattle.sessions.specs.Beside.{channel_of}

-- the tests of an attempt
by-tests : (a b d c u p : Bool) → cond a (Some Unknown) (cond b (Some Disabled) (cond d (Some Blocked) (cond c None (cond u (Some LockedOut) (cond p None (Some WrongPin)))))) ≡ Some WrongPin → not u ≡ true
by-tests true b d c u p h = cc
by-tests false true d c u p h = cc
by-tests false false true c u p h = cc
by-tests false false false true u p h = cc
by-tests false false false false true p h = cc
by-tests false false false false false p h = refl

failed-below : (block : SidBlock) (look : LookUp) (sp : Sp) (authority : Uid) (proof : List ℕ) → failure_of block look sp authority proof ≡ Some WrongPin
    → not (is_used_up (number look sp (credential look sp authority) try_limit_column) (number look sp (credential look sp authority) tries_column)) ≡ true
failed-below block look sp authority proof h =
    let row : Uid = credential look sp authority in
    by-tests (not (is_there look sp authority) || (number look sp authority is_class_column == 1)) (not (number look sp authority enabled_column == 1)) (is_blocked block && (authority.0 == sid.0)) (authority.0 == anybody.0)
    (is_used_up (number look sp row try_limit_column) (number look sp row tries_column)) (is_pin proof (look sp row pin_column)) h

-- a StartSession that fails by its attempt
attempted-by : (look : LookUp) (l : Live) (opening : Opening) (sp s : Sp) (g f : Option AttemptFailure) (a b c : Bool) → g ≡ failure_of l.beside.block look s opening.authority opening.proof
    → cond (not a) (Refused 0x0c NotInUse) (cond b (Refused 3 SpBusy) (cond c (Refused 7 NoNumber) (Attempted s g))) ≡ Attempted sp f → failure_of l.beside.block look sp opening.authority opening.proof ≡ f
attempted-by look l opening sp s g f false b c is h = cc
attempted-by look l opening sp s g f true true c is h = cc
attempted-by look l opening sp s g f true false true is h = cc
attempted-by look l opening sp s g f true false false is h =
    let same : s ≡ sp = cc in
    let other : g ≡ f = cc in
    ap (λ x. failure_of l.beside.block look x opening.authority opening.proof) (sym same) ∙ sym is ∙ other

attempted : (look : LookUp) (l : Live) (opening : Opening) (sp : Sp) (f : Option AttemptFailure) (named : Option Sp) → opening_verdict_on look l opening named ≡ Attempted sp f → failure_of l.beside.block look sp opening.authority opening.proof ≡ f
attempted look l opening sp f None h = cc
attempted look l opening sp f (Some s) h = attempted-by look l opening sp s (failure_of l.beside.block look s opening.authority opening.proof) f (is_in_use look s) (lives_on s l) (is_full l) refl h

-- each deed
abbrev Below : Facts → SessionDeed → Type 0
Below f (Tried attempt) = attempt.failure ≡ Some WrongPin → is_below_limit f attempt ≡ true
Below f _ = Unit {0}

start-below : (f : Facts) (com_id : ℕ) (opening : Opening) (v : StartVerdict) → start_verdict f (Some opening) ≡ v → Below f (deed_of_start f com_id opening v)
start-below f com_id opening (Refused status rule) is = tt
start-below f com_id opening (Attempted sp None) is = tt
start-below f com_id opening (Attempted sp (Some failure)) is = λ h. failed-below f.beside.block f.rows sp opening.authority opening.proof (attempted f.rows (live f) opening sp (Some failure) (sp_named opening.spid) is ∙ h)

started-below : (f : Facts) (com_id : ℕ) (x : Option Opening) → Below f (start_deed f com_id x)
started-below f com_id None = tt
started-below f com_id (Some opening) = start-below f com_id opening (start_verdict f (Some opening)) refl

either-below : (f : Facts) (b : Bool) (x y : Outcome) → Below f x.deed → Below f y.deed → Below f (cond b x y).deed
either-below f true x y h g = h
either-below f false x y h g = g

told-below : (f : Facts) (com_id : ℕ) (x : Option HostLimits) → Below f (told_deed com_id x)
told-below f com_id None = tt
told-below f com_id (Some limits) = tt

manager-below : (f : Facts) (com_id : ℕ) (read : Result Message TokenError) → Below f (to_manager f com_id read).deed
manager-below f com_id (Ok (call object method args status)) =
    either-below f (is_method_of_manager properties (uid_of object) (uid_of method)) (properties_told f com_id (values_of args)) _ (told-below f com_id (host_told f.config.profile (channel_of f.beside com_id).limits (values_of args)))
    (either-below f (is_method_of_manager start_session (uid_of object) (uid_of method)) (started f com_id (values_of args)) (refuses_item (refusal_of fail) NoMethod) (started-below f com_id (opening_of f.config.profile (values_of args))) tt)
manager-below f com_id (Ok (reply results status)) = tt
manager-below f com_id (Ok (begin n)) = tt
manager-below f com_id (Ok (end n)) = tt
manager-below f com_id (Ok end_session) = tt
manager-below f com_id (Err e) = tt

judged-below : (f : Facts) (sp : Sp) (j : Judgement) → Below f (outcome_of f.rows sp j).deed
judged-below f sp (Denies why) = tt
judged-below f sp (Refuses status rule) = tt
judged-below f sp (Gives results) = tt
judged-below f sp (Draws count results) = tt
judged-below f sp (Makes set) = tt
judged-below f sp (Attempts block authority pin) = λ h. failed-below block f.rows sp authority pin h
judged-below f sp Activates = by_state (is_in_use f.rows Locking)
  where
    by_state : (b : Bool) → Below f (cond b Unchanged (Activated (f.rows Admin c_pin_sid pin_column)))
    by_state true = tt
    by_state false = tt
judged-below f sp (Reverts r) = tt
judged-below f sp (Erases range) = tt
judged-below f sp (RevertsSp keep) = tt

begun-below : (f : Facts) (sp : Sp) (n : ℕ) (x : Option ℕ) → Below f (begins_on sp n x).deed
begun-below f sp n None = tt
begun-below f sp n (Some m) = tt

ended-below : (f : Facts) (sp : Sp) (n : ℕ) (b : Bool) → Below f (ends_on sp n b).deed
ended-below f sp zero true = tt
ended-below f sp (suc n) true = tt
ended-below f sp n false = tt

session-below : (f : Facts) (s : Begun) (read : Result Message TokenError) → Below f (in_session f s read).deed
session-below f s (Ok (call object method args status)) = judged-below f s.sp (judgement_on f s (uid_of object) (uid_of method) args)
session-below f s (Ok (begin n)) = begun-below f s.sp s.number (f.open_on s.sp)
session-below f s (Ok (end n)) = ended-below f s.sp n (has_open f s)
session-below f s (Ok end_session) = tt
session-below f s (Ok (reply results status)) = tt
session-below f s (Err e) = tt

stack-below : (f : Facts) (com_id : ℕ) (b : Bool) → Below f (stack_deed f com_id b)
stack-below f com_id true = tt
stack-below f com_id false = tt

pub limit_law : LimitLaw
limit_law f act attempt response is = elim (item-from f act (Tried attempt) response is) [
  | inl m ↦ below m.does (manager-below f m.com_id m.read)
  | inr (inl s) ↦ below s.does (session-below f s.session s.read)
  | inr (inr t) ↦ below t.does (stack-below f t.com_id t.is_reset)
]
  where
    below : {x y : SessionDeed} → x ≡ y → Below f y → Below f x
    below {x} {y} same h = rw same h

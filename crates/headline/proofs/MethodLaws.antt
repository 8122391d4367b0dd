-- A call takes effect exactly where it is granted.
use Rattle.port_history.specs.Laws.{read_as}
use Rattle.std.proofs.Common.{nat_le, ◌==◌, ◌≡◌, ◌∙◌, ◌||◌, ◌+◌, ◌-◌, ℕ, ◌%◌, ◌≤◌, ◌<◌, nat_lt, not, ◌&&◌, Bool, true, false, List, [], ◌∷◌, Option, Some, None, refl, sym, ap, subst, arith, eq-eqb}
use Rattle.std.specs.Prelude.{is_some, option_map, Ok, if◌then◌else◌, Result, Err}
use Rattle.std.proofs.lemmas.Bool.{ltb-true}
use Rattle.std.proofs.lemmas.Bool.Decides.{nat_tests}
use Rattle.fis.specs.H2d.{h2d_at}
use Rattle.fis.specs.declared.h2d.RegH2d.{RegH2d}
use Rattle.audit.specs.declared.reason.Why.{Why}
use Rattle.compacket.specs.Frames.{reading as frame_in}
use Rattle.tcg_tokens.specs.Tree.{Tree, Trees, bytes}
use Rattle.trusted_cmds.specs.declared.command.Command.{Command}
use Rattle.trusted_cmds.specs.declared.command.Command.TheVariants.{Send}
use Rattle.trusted_cmds.specs.Commands.{fis_of, tag_with, is_queued as is_queued_code}
use Rattle.tcg_calls.specs.Asks.{uid_of}
use Rattle.tcg_calls.specs.Statuses.{fail, invalid_parameter, response_overflow, not_authorized, success}
use Rattle.tcg_calls.specs.declared.call_shapes.ask.Ask.{Ask}
use Rattle.tcg_calls.specs.declared.call_shapes.ask.Ask.TheVariants.{GetCells, GetBytes, SetCells, SetBytes, Authenticate, Activate, Revert, GenKey, RevertSp, Next, GetAcl, Random, Other}
use Rattle.sessions.specs.Starts.{is_in_use}
use Rattle.shadow_mbr.specs.Erasure.{no_sectors, all_sectors}
use Rattle.methods.specs.Effects.{has_ask}
use Rattle.sp_cells.specs.ByteTables.{bytes_of_table, table_begin}
use Rattle.methods.specs.Kinds.{kind_of, byte_table_of}
use Rattle.sessions.specs.Deeds.{Setting, Sets, Unchanged, Changed, Activated, Reverted, Erased, Drew, Begun, says}
use Rattle.methods.specs.Listed.{listed}
use Rattle.methods.proofs.ListLaws.{list_law}
use Rattle.sp_cells.specs.Numbers.{key_number}
use Rattle.methods.specs.Erasures.{erased_by_key, erased_by_revert_sp, is_wholly_locked}
use Rattle.methods.specs.Judgement.{RevertsSp, erases, Judgement, Refuses, Gives, Draws, draws, fits, Activates, Reverts, Standing, bytes_between, rows_given, gives, listing, makes, unless_open, does_ask, does, judged, asked, Denies, rows_told, acl_told}
use Rattle.history.specs.Decisions.{is_session_com_id, is_trusted}
use Rattle.history.specs.Tcg.{takes_blocks, answers, tcg}
use Rattle.methods.specs.Calls.{outcome_of}
use Rattle.history.specs.Facts.{Facts, standing}
use Rattle.history.specs.History.{Act, Accept as AcceptFis, event_by}
use Rattle.history.specs.MethodLaws.{IsLookedAt, IsSent, IsCall}
use Rattle.methods.specs.Laws.{IsGranted, takes_effect, IsJudgedByAces}
use Rattle.methods.proofs.GrantLaws.{effect_law as effects}
use Rattle.history.proofs.MethodProofs.{call_law, effect_law}
use Rattle.sp_cells.specs.declared.names.Sp.{Sp}
use Rattle.sp_cells.specs.declared.names.Sp.TheVariants.{Admin, Locking}
use Rattle.sp_cells.specs.declared.names.Uid.{Uid}
use Rattle.sp_cells.specs.ColumnNames.{pin_column}
use Rattle.sp_tables.specs.RowNames.{rows_of_table}
use Rattle.methods.specs.Tables.{rows_asked, uids_tree}
use Rattle.ace_eval.specs.Aces.{acl_at}
use Rattle.sp_cells.specs.Names.{c_pin_sid, table_of}
use Rattle.history.specs.Opening.{Origin}
use Rattle.port_history.specs.declared.stages.Put.{Put}
use Rattle.port_history.specs.declared.stages.Stage.TheVariants.{Issued}
use Rattle.port_history.specs.declared.step.Step.{Step}
use Rattle.port_history.specs.declared.step.Step.TheVariants as steps
use Rattle.port_history.specs.Refusals.{IsLawful}
use Rattle.port_history.specs.Requests.{command_fis}
use Rattle.port_history.specs.Stages.{is_queued_command}
use Rattle.port_history.specs.Steps.{Effect, Moment, trace, stage, failed, payload, accept_payload}
use Rattle.port_history.proofs.Acted.{reads_bytes, commands_of, tcg_for_ports}
use Rattle.port_history.proofs.Fises.{fis_back}
use Rattle.port_history.proofs.Kept.{Kept}
use Rattle.port_history.proofs.KeptLaw.{kept, accept_is, mended_queue, idle, fit_issued}
use Rattle.port_history.proofs.Tests.{none_is, none_holds, tests_of}
use Rattle.headline.specs.Steps.{facts_after, event_after}
use Rattle.headline.proofs.AuditLaws.{lawful_before}
use Rattle.headline.proofs.Rising.{listed_rises}
use Rattle.headline.specs.Methods.{IsCallStep, IsGrantedAt, comes_to, EffectIs, refused_with, DoesSo, Lists, IsJudged, MethodLaw, TellsRows, TellsAcl}
use Rattle.audit.specs.declared.rules.rule.Rule.TheVariants.{OutsideTable, TooLong, GlobalLocked, ManyRandomBytes}
use Rattle.audit.specs.declared.rules.rule.Rule.{Rule}
use Rattle.methods.specs.Said.{reply_of}

-- a ComID of sessions has 16 bits
com_id_fits : (com_id : ℕ) → is_session_com_id com_id ≡ true → com_id % 65536 ≡ com_id
com_id_fits com_id h = let le : com_id ≤ 0x1003 = grind (arith, nat_tests) in omega (arith, le)

send_fis : (com_id blocks tag : ℕ)
    → is_queued_code (fis_of (Send 1 com_id blocks true) tag).command ≡ false
send_fis com_id blocks tag = refl

-- the act of the step
abbrev act_at : Origin → List Step → ℕ → Put → Act
act_at o before u put =
    AcceptFis (command_fis put.command u) (accept_payload put (payload (trace o before) u))

-- the send is looked at
looked : (o : Origin) (before : List Step) (u : ℕ) (put : Put) (com_id blocks : ℕ) → u < 32
    → Kept (trace o before) → failed (trace o before) ≡ None
    → stage (trace o before) u ≡ Issued put → put.command ≡ Send 1 com_id blocks true
    → is_session_com_id com_id ≡ true
    → IsLookedAt (facts_after tcg o before) (act_at o before u put) (Send 1 com_id blocks true) None
looked o before u put com_id blocks lu k mended was sends of_sessions = record {
  fis = command_fis put.command u;
  payload = accept_payload put (payload ms u);
  accepts = refl;
  kind = refl;
  commands = ap (λ (h : RegH2d). h.is_command) (fis_back put.command u) ∙ commands_of put.command u;
  mended = mended_queue ms k mended;
  unmixed = ap (λ (b : Bool). b && not (is_queued_code (h2d_at (command_fis put.command u)).command))
      (idle o ms u put lu k was unqueued);
  reads =
      reads_bytes tcg tcg_for_ports o.tables.config put.command u lu (fit_issued ms u put k was).sized
      ∙ ap (λ (c : Command). Ok (read_as c, tag_with c u)) sends
      ∙ ap (λ (n : ℕ). Ok (Send 1 n blocks true, None)) (com_id_fits com_id of_sessions);
}
  where
    ms : List Moment
    ms = trace o before

    unqueued : is_queued_command put.command ≡ false
    unqueued = ap is_queued_command sends

trusted_now : (blocks : ℕ) (s t w : Bool) → 0 < blocks → s ≡ true → t ≡ true → w ≡ false
    → (is_trusted 1 blocks && s && (t && not w)) ≡ true
trusted_now blocks s t w some is fits free =
    let e : nat_lt 0 blocks ≡ true = grind (arith, nat_tests) in rw (e, is, fits, free) refl

none_waits : {A : Type 0} (x : Option A) → x ≡ None → is_some x ≡ false
none_waits x e = ap is_some e

-- so its frame is a call
called : (o : Origin) (before : List Step) (step : Step) (session : Begun) (object method : List ℕ)
    (args : Trees) → IsLawful o (step ∷ before)
    → (c : IsCallStep o before step session object method args)
    → IsCall (facts_after tcg o before) (act_at o before c.tag c.put) session object method args
unfolding looked
called o before step session object method args h c = record {
  com_id = c.com_id;
  frame = c.frame;
  sent = record {
    protocol = 1;
    blocks = c.blocks;
    dma = true;
    looked = looked o before c.tag c.put c.com_id c.blocks low (kept tcg tcg_for_ports o before at.2) mended c.stands c.sends c.of_sessions;
    taken = trusted_now c.blocks (is_session_com_id c.com_id) (takes_blocks o.tables.config.profile c.blocks)
        (is_some ((facts_after tcg o before).waiting c.com_id)) c.some c.of_sessions c.fits (none_waits _ c.free);
    framed = ap frame_in data_of ∙ c.framed;
    addressed = eq-eqb c.frame.com_id c.com_id c.addressed;
  };
  no_manager = c.no_manager;
  named = c.named;
  status = c.status;
  calls = c.calls;
}
  where
    at : IsLawful o (steps.Accept c.tag ∷ before)
    at = subst (λ (s : Step). IsLawful o (s ∷ before)) c.accepts h

    low : c.tag < 32
    low = ltb-true c.tag 32 at.0

    mended : failed (trace o before) ≡ None
    mended =
        let x = none_holds (tests_of (trace o before) (steps.Accept c.tag)) at.1 in
        none_is (failed (trace o before)) x.1.0

    data_of : accept_payload c.put (payload (trace o before) c.tag) ≡ payload (trace o before) c.tag
    data_of =
        ap (λ (command : Command). if is_queued_command command then [] else payload (trace o before) c.tag) c.sends

-- and its event is the step's
event_is_here : (o : Origin) (before : List Step) (step : Step) (u : ℕ) (put : Put)
    → step ≡ steps.Accept u → stage (trace o before) u ≡ Issued put
    → event_after tcg o before step ≡ Some (event_by (facts_after tcg o before) (act_at o before u put))
event_is_here o before step u put accepts was =
    ap (event_after tcg o before) accepts
    ∙ ap (λ (m : Moment). option_map (λ (e : Effect). e.event) m.effect)
    (accept_is tcg o (trace o before) u put was)

same_some : {A : Type 0} {x y : A} → Some x ≡ Some y → x ≡ y
same_some e = cc

-- what a Get gives
gives_cells : (s : Standing) (object : _) (first last : ℕ)
    → takes_effect (does s object (GetCells first last)) ≡ true
    → does s object (GetCells first last) ≡ Gives (listing s object first last)
gives_cells s object first last valid =
    by_kind (has_ask (kind_of s.sp object) (GetCells first last)) valid
  where
    by_room : (b : Bool) (results : List Tree)
        → takes_effect (if b then Gives results else Refuses response_overflow TooLong) ≡ true
        → (if b then Gives results else Refuses response_overflow TooLong) ≡ Gives results
    by_room true results v = refl
    by_room false results v = absurd (cc)

    by_kind : (b : Bool)
        → takes_effect (does_ask s object (if b then GetCells first last else Other)) ≡ true
        → does_ask s object (if b then GetCells first last else Other)
        ≡ Gives (listing s object first last)
    by_kind true v = by_room _ _ v
    by_kind false v = absurd (cc)

-- what a Next and a GetACL tell
gives_told : (b : Bool) (results : List Tree)
    → takes_effect (if b then Gives results else Refuses response_overflow TooLong) ≡ true
    → (if b then Gives results else Refuses response_overflow TooLong) ≡ Gives results
gives_told true results v = refl
gives_told false results v = absurd (cc)

gives_rows : (s : Standing) (object : Uid) (after : Option Uid) (count : Option ℕ)
    → takes_effect (does s object (Next after count)) ≡ true
    → (rows : List Uid) × (rows_asked after count (rows_of_table s.sp (table_of object)) ≡ Some rows)
    × (does s object (Next after count) ≡ Gives (uids_tree rows ∷ []))
gives_rows s object after count valid = by_kind (has_ask (kind_of s.sp object) (Next after count)) valid
  where
    by_rows : (x : Option (List Uid)) → takes_effect (rows_told s.room x) ≡ true
        → (rows : List Uid) × (x ≡ Some rows) × (rows_told s.room x ≡ Gives (uids_tree rows ∷ []))
    by_rows None v = absurd (cc)
    by_rows (Some rows) v = (rows, refl, gives_told _ _ v)

    by_kind : (b : Bool) → takes_effect (does_ask s object (if b then Next after count else Other)) ≡ true
        → (rows : List Uid) × (rows_asked after count (rows_of_table s.sp (table_of object)) ≡ Some rows)
        × (does_ask s object (if b then Next after count else Other) ≡ Gives (uids_tree rows ∷ []))
    by_kind true v = by_rows (rows_asked after count (rows_of_table s.sp (table_of object))) v
    by_kind false v = absurd (cc)

gives_acl : (s : Standing) (object about what : Uid)
    → takes_effect (does s object (GetAcl about what)) ≡ true
    → (acl : List Uid) × (acl_at s.profile s.sp about what ≡ Some acl)
    × (does s object (GetAcl about what) ≡ Gives (uids_tree acl ∷ []))
gives_acl s object about what valid = by_kind (has_ask (kind_of s.sp object) (GetAcl about what)) valid
  where
    by_acl : (x : Option (List Uid)) → takes_effect (acl_told s.room x) ≡ true
        → (acl : List Uid) × (x ≡ Some acl) × (acl_told s.room x ≡ Gives (uids_tree acl ∷ []))
    by_acl None v = absurd (cc)
    by_acl (Some acl) v = (acl, refl, gives_told _ _ v)

    by_kind : (b : Bool) → takes_effect (does_ask s object (if b then GetAcl about what else Other)) ≡ true
        → (acl : List Uid) × (acl_at s.profile s.sp about what ≡ Some acl)
        × (does_ask s object (if b then GetAcl about what else Other) ≡ Gives (uids_tree acl ∷ []))
    by_kind true v = by_acl (acl_at s.profile s.sp about what) v
    by_kind false v = absurd (cc)

-- what takes effect, method by method
by_room : (f : Facts) (session : Begun) (b : Bool) (results : List Tree)
    → (outcome_of f.rows session.sp (if b then Gives results else Refuses response_overflow TooLong)).deed ≡ Unchanged
by_room f session true results = refl
by_room f session false results = refl

by_setting : (f : Facts) (session : Begun) (found : Result Setting Rule)
    → takes_effect (makes found) ≡ true
    → (set : Setting) × (found ≡ Ok set)
    × ((outcome_of f.rows session.sp (makes found)).deed ≡ Changed session.sp (Sets set))
by_setting f session (Err rule) valid = absurd (cc)
by_setting f session (Ok set) valid = (set, refl, refl)

rows_deed : (f : Facts) (session : Begun) (room : ℕ) (byte : ℕ → ℕ) (size first last : ℕ)
    → (outcome_of f.rows session.sp (rows_given room byte size first last)).deed ≡ Unchanged
rows_deed f session room byte size first last =
    by_tests
    ((size == 0) || (nat_le size last || nat_lt last first))
    (nat_lt room (last + 1 - first))
  where
    by_tests : (a b : Bool)
        → (outcome_of f.rows session.sp (if a then Refuses invalid_parameter OutsideTable
        else (if b then Refuses response_overflow TooLong
        else gives room (bytes_between byte first last)))).deed ≡ Unchanged
    by_tests true b = refl
    by_tests false true = refl
    by_tests false false = by_room f session _ _

activates_deed : (f : Facts) (session : Begun) (in_use is_open : Bool)
    → takes_effect (unless_open is_open Activates) ≡ true → is_in_use f.rows Locking ≡ in_use
    → (in_use ≡ true → (outcome_of f.rows session.sp (unless_open is_open Activates)).deed ≡ Unchanged)
    × (in_use ≡ false → (outcome_of f.rows session.sp (unless_open is_open Activates)).deed
    ≡ Activated (f.rows Admin c_pin_sid pin_column))
activates_deed f session in_use true valid is = absurd (cc)
activates_deed f session true false valid is = (
  λ e. ap (λ (b : Bool). if b then Unchanged else Activated (f.rows Admin c_pin_sid pin_column)) is,
  λ e. absurd (cc),
)
activates_deed f session false false valid is = (
  λ e. absurd (cc),
  λ e. ap (λ (b : Bool). if b then Unchanged else Activated (f.rows Admin c_pin_sid pin_column)) is,
)

reverts_deed : (f : Facts) (session : Begun) (reverted : Sp) (is_open : Bool)
    → takes_effect (unless_open is_open (Reverts reverted)) ≡ true
    → (is_in_use f.rows Locking ≡ true → (outcome_of f.rows session.sp (unless_open is_open (Reverts reverted))).deed
    ≡ Reverted reverted all_sectors)
    × (is_in_use f.rows Locking ≡ false → (outcome_of f.rows session.sp (unless_open is_open (Reverts reverted))).deed
    ≡ Reverted reverted no_sectors)
reverts_deed f session reverted true valid = absurd (cc)
reverts_deed f session reverted false valid = (
  λ e. ap (λ (b : Bool). Reverted reverted (if b then all_sectors else no_sectors)) e,
  λ e. ap (λ (b : Bool). Reverted reverted (if b then all_sectors else no_sectors)) e,
)

erases_deed : (f : Facts) (session : Begun) (x : Option ℕ) (is_open : Bool)
    → takes_effect (unless_open is_open (erases x)) ≡ true
    → (range : ℕ) × (x ≡ Some range)
    × ((outcome_of f.rows session.sp (unless_open is_open (erases x))).deed ≡ Erased (erased_by_key f.rows range))
erases_deed f session x true valid = absurd (cc)
erases_deed f session None false valid = absurd (cc)
erases_deed f session (Some range) false valid = (range, refl, refl)

reverts_sp_deed : (f : Facts) (session : Begun) (locked keep is_open : Bool)
    → takes_effect (unless_open is_open (if keep && locked then Refuses fail GlobalLocked else RevertsSp keep)) ≡ true
    → (keep ≡ true → locked ≡ false)
    × ((outcome_of f.rows session.sp (unless_open is_open (if keep && locked then Refuses fail GlobalLocked else RevertsSp keep))).deed
    ≡ Reverted Locking (erased_by_revert_sp f.rows keep))
reverts_sp_deed f session locked keep true valid = absurd (cc)
reverts_sp_deed f session true true false valid = absurd (cc)
reverts_sp_deed f session false true false valid = (λ e. refl, refl)
reverts_sp_deed f session locked false false valid = (λ e. absurd (cc), refl)

told_deed : (f : Facts) (session : Begun) (room : ℕ) (x : Option (List Uid))
    → (outcome_of f.rows session.sp (rows_told room x)).deed ≡ Unchanged
told_deed f session room None = refl
told_deed f session room (Some rows) = by_room f session _ _

acl_deed : (f : Facts) (session : Begun) (room : ℕ) (x : Option (List Uid))
    → (outcome_of f.rows session.sp (acl_told room x)).deed ≡ Unchanged
acl_deed f session room None = refl
acl_deed f session room (Some acl) = by_room f session _ _

draws_deed : (f : Facts) (session : Begun) (count : ℕ) (many fit : Bool) (results : List Tree)
    → takes_effect (if many then Refuses invalid_parameter ManyRandomBytes
    else (if fit then Draws count results else Refuses response_overflow TooLong)) ≡ true
    → (outcome_of f.rows session.sp (if many then Refuses invalid_parameter ManyRandomBytes
    else (if fit then Draws count results else Refuses response_overflow TooLong))).deed ≡ Drew count
draws_deed f session count true fit results valid = absurd (cc)
draws_deed f session count false true results valid = refl
draws_deed f session count false false results valid = absurd (cc)

effect_is : (f : Facts) (session : Begun) (object : Uid) (ask : Ask) (has : Bool)
    → takes_effect (does_ask (standing f session) object (if has then ask else Other)) ≡ true
    → EffectIs f session object ask
    (outcome_of f.rows session.sp (does_ask (standing f session) object (if has then ask else Other))).deed
effect_is f session object ask false valid = absurd (cc)
effect_is f session object (GetCells first last) true valid = by_room f session _ _
effect_is f session object (GetBytes first last) true valid =
    let table = byte_table_of (kind_of session.sp object) in
    let sizes = (standing f session).sizes in
    rows_deed f session (standing f session).room (λ row. (standing f session).byte (table_begin sizes table + row)) (bytes_of_table sizes table) first _
effect_is f session object (SetCells values) true valid = by_setting f session _ valid
effect_is f session object (SetBytes at content) true valid = by_setting f session _ valid
effect_is f session object (Authenticate authority pin) true valid =
    (_, refl, refl, refl, refl, refl)
effect_is f session object Activate true valid =
    activates_deed f session (is_in_use f.rows Locking) _ valid refl
effect_is f session object Revert true valid = reverts_deed f session _ _ valid
effect_is f session object GenKey true valid = erases_deed f session (key_number object) _ valid
effect_is f session object (RevertSp keep) true valid = reverts_sp_deed f session (is_wholly_locked (f.rows_of session.number)) keep _ valid
effect_is f session object (Next after count) true valid =
    told_deed f session (standing f session).room (rows_asked after count (rows_of_table session.sp (table_of object)))
effect_is f session object (GetAcl about what) true valid =
    acl_deed f session (standing f session).room (acl_at f.config.profile session.sp about what)
effect_is f session object (Random count) true valid = draws_deed f session count _ _ _ valid
effect_is f session object Other true valid = absurd (cc)

judged_so_far : (o : Origin) (before : List Step) (step : Step) (session : Begun)
    (object method : List ℕ) (args : Trees) (ask : Ask) → IsLawful o (step ∷ before)
    → (c : IsCallStep o before step session object method args)
    → asked o.tables.config.profile session.sp (uid_of object) (uid_of method) args ≡ Some ask
    → IsJudged o before step session object method args c ask
unfolding called looked
judged_so_far o before step session object method args ask h c shaped = record {
  granted = λ valid. (
    λ d. (law valid).0 (same_some (sym here ∙ d.event)),
    λ g. record { event = here ∙ ap Some ((law valid).1 g) },
  );
  effect = λ valid. effect_is f session (uid_of object) ask
      (has_ask (kind_of session.sp (uid_of object)) ask) valid;
  refused = λ bare. refused_by bare (judges.denied bare);
  listed = lists;
  rows_told = tells_rows;
  acl_told = tells_acl;
}
  where
    f : Facts
    f = facts_after tcg o before

    act : Act
    act = act_at o before c.tag c.put

    is_call : IsCall f act session object method args
    is_call = called o before step session object method args h c

    here : event_after tcg o before step ≡ Some (event_by f act)
    here = event_is_here o before step c.tag c.put c.accepts c.stands

    judges : IsJudgedByAces (standing f session) (uid_of object) (uid_of method) ask
    judges = effects (standing f session) (uid_of object) (uid_of method) ask

    law : takes_effect (does (standing f session) (uid_of object) ask) ≡ true
        → (event_by f act ≡ answers c.com_id c.frame.session (outcome_of f.rows session.sp (does (standing f session) (uid_of object) ask))
        → IsGranted (standing f session) (uid_of object) (uid_of method) ask)
        × (IsGranted (standing f session) (uid_of object) (uid_of method) ask
        → event_by f act ≡ answers c.com_id c.frame.session (outcome_of f.rows session.sp (does (standing f session) (uid_of object) ask)))
    law valid = effect_law f act session object method args is_call ask shaped valid

    judged_so : event_by f act
        ≡ answers c.com_id c.frame.session
        (outcome_of f.rows session.sp (judged (standing f session) (uid_of object) (uid_of method) (Some ask)))
    judged_so =
        call_law f act session object method args is_call
        ∙ ap (λ (x : Option Ask). answers c.com_id c.frame.session
        (outcome_of f.rows session.sp (judged (standing f session) (uid_of object) (uid_of method) x))) shaped

    refused_by : (IsGrantedAt o before session object method ask → ⊥)
        → (why : Why) × (judged (standing f session) (uid_of object) (uid_of method) (Some ask) ≡ Denies why)
        → (why : Why) × DoesSo o before step session object method args c (refused_with why)
    refused_by bare d = (
      d.0,
      record {
        event =
            here ∙ ap Some (judged_so ∙ ap (λ (j : Judgement). answers c.com_id c.frame.session (outcome_of f.rows session.sp j)) d.1);
      },
    )

    lists : (first last : ℕ) → ask ≡ GetCells first last
        → takes_effect (comes_to o before session object ask) ≡ true
        → IsGrantedAt o before session object method ask
        → Lists o before step session object method args c first last
    lists first last is valid granted = record {
      cells = listed (standing f session).profile (standing f session).rows session.sp (uid_of object) first last (standing f session).held;
      says =
          here ∙ ap Some ((law valid).1 granted)
          ∙ ap (λ (j : Judgement). Some (answers c.com_id c.frame.session (outcome_of f.rows session.sp j)))
          (ap (does (standing f session) (uid_of object)) is
          ∙ gives_cells (standing f session) (uid_of object) first last
          (subst (λ (a : Ask). takes_effect (does (standing f session) (uid_of object) a) ≡ true) is valid));
      exactly = λ column cell. list_law (standing f session).profile (standing f session).rows session.sp (uid_of object) first last
          (standing f session).held column cell;
      rises = listed_rises (standing f session).profile (standing f session).rows session.sp (uid_of object) first last
          (standing f session).held;
    }

    told_as : (a : Ask) (results : List Tree) → ask ≡ a → takes_effect (comes_to o before session object ask) ≡ true
        → IsGrantedAt o before session object method ask
        → does (standing f session) (uid_of object) a ≡ Gives results
        → event_after tcg o before step ≡ Some (answers c.com_id c.frame.session (says Unchanged (reply_of results success)))
    told_as a results is valid granted gives =
        here ∙ ap Some ((law valid).1 granted)
        ∙ ap (λ (j : Judgement). Some (answers c.com_id c.frame.session (outcome_of f.rows session.sp j)))
        (ap (does (standing f session) (uid_of object)) is ∙ gives)

    tells_rows : (after : Option Uid) (count : Option ℕ) → ask ≡ Next after count
        → takes_effect (comes_to o before session object ask) ≡ true
        → IsGrantedAt o before session object method ask
        → TellsRows o before step session object method args c after count
    tells_rows after count is valid granted =
        let told = gives_rows (standing f session) (uid_of object) after count
        (subst (λ (a : Ask). takes_effect (does (standing f session) (uid_of object) a) ≡ true) is valid) in
        record { rows = told.0; asked_for = told.1; says = told_as (Next after count) (uids_tree told.0 ∷ []) is valid granted told.2 }

    tells_acl : (about what : Uid) → ask ≡ GetAcl about what
        → takes_effect (comes_to o before session object ask) ≡ true
        → IsGrantedAt o before session object method ask
        → TellsAcl o before step session object method args c about what
    tells_acl about what is valid granted =
        let told = gives_acl (standing f session) (uid_of object) about what
        (subst (λ (a : Ask). takes_effect (does (standing f session) (uid_of object) a) ≡ true) is valid) in
        record { acl = told.0; line = told.1; says = told_as (GetAcl about what) (uids_tree told.0 ∷ []) is valid granted told.2 }

pub method_law : MethodLaw
method_law o all h later before step session object method args ask place c shaped =
    judged_so_far o before step session object method args ask
    (lawful_before o later (step ∷ before) (subst (IsLawful o) place h)) c shaped

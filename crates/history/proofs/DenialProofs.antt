-- What denies an act.
use Rattle.std.proofs.Common.{◌≡◌, ℕ, ◌+◌, ◌==◌, ◌*◌, Bool, true, false, ◌&&◌, ◌||◌, not, List, [], ◌∷◌, Option, Some, None, refl, sym, ◌∙◌, ap, cond, inl, inr, eqb-true}
use Rattle.std.specs.Prelude.{◌-◌, is_some, nat_le, nat_lt, slice_index, length, zero, suc, Result, Ok, Err}
use Rattle.basics.specs.declared.profile.Profile.{Profile}
use Rattle.basics.specs.declared.profile.Profile.TheVariants.{Base, Field, Opal}
use Rattle.fis.specs.Types.{h2d_type}
use Rattle.fis.specs.H2d.{h2d_at}
use Rattle.fis.specs.declared.h2d.RegH2d.{RegH2d}
use Rattle.sp_cells.specs.declared.names.Uid.{Uid}
use Rattle.sp_cells.specs.declared.names.Sp.{Sp}
use Rattle.locking.specs.declared.range.Op.{Op}
use Rattle.locking.specs.declared.range.Op.TheVariants.{Read, Write}
use Rattle.trusted_cmds.specs.Commands.{is_queued, tag_of, sector_size}
use Rattle.audit.specs.declared.reason.AttemptFailure.{AttemptFailure}
use Rattle.audit.specs.declared.reason.Why.{Why}
use Rattle.trusted_cmds.specs.declared.block.SidBlock.{SidBlock}
use Rattle.compacket.specs.declared.error.FrameError.{FrameError}
use Rattle.compacket.specs.Frames.{Frame, reading as frame_in}
use Rattle.tcg_tokens.specs.declared.error.TokenError.{TokenError}
use Rattle.tcg_tokens.specs.Message.{Message, call, reply, end_session, begin, end}
use Rattle.tcg_tokens.specs.Reading.{reading as message_in}
use Rattle.tcg_tokens.specs.Tree.{Tree, Trees, bytes}
use Rattle.trusted_cmds.specs.declared.command.Command.{Command}
use Rattle.trusted_cmds.specs.declared.command.Command.TheVariants.{ReadQueued, WriteQueued, ReadDma, WriteDma, Send, Receive, Identify, ReadLog10, Flush, SetFeatures, ReadLog, ReadPio, WritePio, Verify, Trim, Control}
use Rattle.trusted_cmds.specs.declared.command.CommandError.{CommandError}
use Rattle.locking.specs.declared.ranges.Verdict.{Verdict}
use Rattle.locking.specs.declared.ranges.Verdict.TheVariants.{Serve, Shadow, Denied}
use Rattle.sessions.specs.Attempts.{attempt_failure as failure_of}
use Rattle.tcg_calls.specs.Asks.{uid_of}
use Rattle.ace_eval.specs.Aces.{acl_at}
use Rattle.sp_cells.specs.Names.{properties, start_session, table_of}
use Rattle.sessions.specs.Deeds.{Begun, Setting, Unchanged, says, refuses as refuses_item, StackTold}
use Rattle.tcg_calls.specs.Statuses.{success, fail}
use Rattle.sessions.specs.Properties.{properties_message}
use Rattle.sessions.specs.declared.opening.Opening.{Opening}
use Rattle.sessions.specs.declared.opening.StartVerdict.{StartVerdict}
use Rattle.sessions.specs.declared.opening.StartVerdict.TheVariants.{Refused, Attempted}
use Rattle.sessions.specs.Starts.{opening_of, host_of, denied_with}
use Rattle.tcg_calls.specs.Named.{values_of}
use Rattle.tcg_calls.specs.Carried.{is_carried}
use Rattle.methods.specs.Said.{reply_of, refusal_of}
use Rattle.tcg_calls.specs.Limits.{most_response}
use Rattle.sp_cells.specs.ByteTables.{bytes_of_table, table_begin}
use Rattle.methods.specs.Kinds.{kind_of, byte_table_of}
use Rattle.methods.specs.Tables.{rows_asked, uids_tree}
use Rattle.sp_tables.specs.RowNames.{rows_of_table}
use Rattle.methods.specs.Effects.{ask_at, last_row, sp_of_row}
use Rattle.sp_cells.specs.Numbers.{key_number}
use Rattle.methods.specs.Erasures.{is_wholly_locked}
use Rattle.methods.specs.Judgement.{asked, Standing, Judgement, Refuses, Gives, Makes, Attempts, Activates, Reverts, Erases, RevertsSp, erases, reverts_sp, denial, gives, listing, bytes_between, rows_given, to_set, makes, unless_open, does_ask, does, unless_denied, judged, Denies, rows_told, acl_told, Draws, draws, fits}
use Rattle.tcg_calls.specs.declared.call_shapes.ask.Ask.{Ask}
use Rattle.tcg_calls.specs.declared.call_shapes.ask.Ask.TheVariants.{GetCells, GetBytes, SetCells, SetBytes, Authenticate, Activate, Revert, GenKey, RevertSp, Next, GetAcl, Other, Random}
use Rattle.trusted_cmds.specs.BlockSid.{is_block_sid, block_asked, is_blocked}
use Rattle.device_data.specs.Discovery.{has_owner}
use Rattle.history.specs.Events.{Nothing, Wrote, Took, HeldCommand, Event, did, WasReset, BlockedSid, ignores, Silent, InSession}
use Rattle.history.specs.Facts.{Facts, session_named, has_open, standing}
use Rattle.history.specs.Decisions.{not_found, fails, refuses, aborted, fails_queue, on_drive, verdict_on, queued_by, admitted, unqueued_by, is_trusted, is_session_com_id, discovery_com_id, received, while_failed, is_busy, completed_by, completed, resets, is_received, unreceived, asks_stack, are_on_drive, first_denial, trimmed_by, trimmed, ranges_in_force, was_read}
use Rattle.trusted_cmds.specs.declared.trim.Extent.{Extent}
use Rattle.trusted_cmds.specs.Trims.{extents_in}
use Rattle.history.specs.Tcg.{answers, breaks_off, broken_off, is_discarded, manager_event, start_verdict, started_by, started, is_method_of_manager, to_manager, judgement_on, begins_on, ends_on, in_session, is_manager, to_session, framed, sent, unqueued, known, commanded, tcg, command_read, item_in, blocks_sid, send_item, send, unsent, is_sent, properties_told, unframed, unframed_in, broken_of, sent_by, stack_reset, stack_kept, stack_sent, send_other}
use Rattle.methods.specs.Calls.{tried_in, outcome_of}
use Rattle.history.specs.History.{Act, Accept, Complete, Reset, SoftwareReset, event_by}
use Rattle.history.specs.MethodLaws.{IsLookedAt, IsSent, IsCall}
use Rattle.history.specs.DenialLaws.{Reaches, read_queued, write_queued, read_dma, write_dma, read_pio, write_pio, verify, IsFree, TransferDenied, MethodDenied, AttemptDenied, StartDenied, TrimDenied, IsDenied, DenialLaw}
use Rattle.history.proofs.MethodProofs.{looked_event, looked_law, sent_law, call_law}
use Rattle.sp_cells.specs.Resets.{programmatic}
use Rattle.audit.specs.declared.rules.rule.Rule.TheVariants.{NoCommand, Unreadable, Mixed, BeyondDrive, SidKept, NoMethod, OutsideTable, TooLong, GlobalLocked, NoFrame, Discarded, BrokenOff, ManyRandomBytes}
use Rattle.audit.specs.declared.rules.rule.Rule.{Rule}
use Rattle.basics.specs.Profiles.{has_opal}
use Rattle.compacket.specs.declared.session.Named.{Named}
use Rattle.device_data.specs.StackReset.{is_stack_reset}

-- forward: each of them is denied for its reason

moved : (f : Facts) (h : RegH2d) (payload : List ℕ) (command : Command) (tag : Option ℕ) (op : Op) (lba count : ℕ) (why : Why) → Reaches command tag op lba count → IsFree f tag → on_drive f lba count ≡ true → verdict_on f op lba count ≡ Denied why → (looked_event tcg f h payload command tag).denied ≡ Some why
moved f h payload c tag op lba count why (read_queued {lba = l} {count = n} {tag = t}) free drive v =
    ap (λ x. (admitted f h t (ReadQueued l n) (is_some x)).denied) free
    ∙ ap (λ b. (cond b (queued_by h t (ReadQueued l n) (verdict_on f Read l n)) (fails_queue (Some t) not_found h None (Some BeyondDrive))).denied) drive
    ∙ ap (λ x. (queued_by h t (ReadQueued l n) x).denied) v
moved f h payload c tag op lba count why (write_queued {lba = l} {count = n} {tag = t}) free drive v =
    ap (λ x. (admitted f h t (WriteQueued l n) (is_some x)).denied) free
    ∙ ap (λ b. (cond b (queued_by h t (WriteQueued l n) (verdict_on f Write l n)) (fails_queue (Some t) not_found h None (Some BeyondDrive))).denied) drive
    ∙ ap (λ x. (queued_by h t (WriteQueued l n) x).denied) v
moved f h payload c tag op lba count why (read_dma {lba = l} {count = n}) free drive v =
    ap (λ b. (cond b (unqueued_by was_read (verdict_on f Read l n)) (fails not_found None (Some BeyondDrive))).denied) drive
    ∙ ap (λ x. (unqueued_by was_read x).denied) v
moved f h payload c tag op lba count why (write_dma {lba = l} {count = n}) free drive v =
    ap (λ b. (cond b (unqueued_by (Wrote l payload) (verdict_on f Write l n)) (fails not_found None (Some BeyondDrive))).denied) drive
    ∙ ap (λ x. (unqueued_by (Wrote l payload) x).denied) v
moved f h payload c tag op lba count why (read_pio {lba = l} {count = n}) free drive v =
    ap (λ b. (cond b (unqueued_by was_read (verdict_on f Read l n)) (fails not_found None (Some BeyondDrive))).denied) drive
    ∙ ap (λ x. (unqueued_by was_read x).denied) v
moved f h payload c tag op lba count why (write_pio {lba = l} {count = n}) free drive v =
    ap (λ b. (cond b (unqueued_by (Wrote l payload) (verdict_on f Write l n)) (fails not_found None (Some BeyondDrive))).denied) drive
    ∙ ap (λ x. (unqueued_by (Wrote l payload) x).denied) v
moved f h payload c tag op lba count why (verify {lba = l} {count = n}) free drive v =
    ap (λ b. (cond b (unqueued_by was_read (verdict_on f Read l n)) (fails not_found None (Some BeyondDrive))).denied) drive
    ∙ ap (λ x. (unqueued_by was_read x).denied) v

transfer-denied : (f : Facts) (act : Act) (why : Why) → TransferDenied f act why → (event_by f act).denied ≡ Some why
transfer-denied f act why d =
    ap (λ (e : Event). e.denied) (looked_law tcg f act d.command d.tag d.looked)
    ∙ moved f (h2d_at d.looked.fis) d.looked.payload d.command d.tag d.op d.lba d.count why d.moves d.free d.on_drive d.verdict

trim-denied : (f : Facts) (act : Act) (why : Why) → TrimDenied f act why → (event_by f act).denied ≡ Some why
trim-denied f act why d =
    let extents = extents_in d.looked.payload in
    ap (λ (e : Event). e.denied) (looked_law tcg f act (Trim d.blocks) None d.looked)
    ∙ ap (λ b. (cond b (trimmed_by extents (first_denial (ranges_in_force f) extents)) (fails not_found None (Some BeyondDrive))).denied) d.on_drive
    ∙ ap (λ x. (trimmed_by extents x).denied) d.denial

method-denied : (f : Facts) (act : Act) (why : Why) → MethodDenied f act why → (event_by f act).denied ≡ Some why
method-denied f act why d =
    ap (λ (e : Event). e.denied) (call_law f act d.session d.object d.method d.args d.called)
    ∙ ap (λ x. (outcome_of f.rows d.session.sp (judged (standing f d.session) (uid_of d.object) (uid_of d.method) x)).denied) d.shaped
    ∙ ap (λ x. (outcome_of f.rows d.session.sp (unless_denied x (does (standing f d.session) (uid_of d.object) d.ask))).denied) d.denial

attempt-denied : (f : Facts) (act : Act) (why : Why) → AttemptDenied f act why → (event_by f act).denied ≡ Some why
attempt-denied f act why d =
    ap (λ (e : Event). e.denied) (call_law f act d.session d.object d.method d.args d.called)
    ∙ ap (λ j. (outcome_of f.rows d.session.sp j).denied) d.attempts
    ∙ ap (λ x. (tried_in f.rows d.session.sp d.authority x).denied) d.fails
    ∙ ap (λ y. Some y) (sym d.why_is)

-- a call of one of its methods is not discarded
of-manager : (profile : Profile) (p q : Bool) → q ≡ true → (has_opal profile && not (p || q)) ≡ false
of-manager Base p q h = refl
of-manager Field p q h = refl
of-manager Opal true q h = refl
of-manager Opal false true h = refl
of-manager Opal false false h = cc

start-denied : (f : Facts) (act : Act) (why : Why) → StartDenied f act why → (event_by f act).denied ≡ Some why
start-denied f act why d =
    let o = uid_of d.object in let m = uid_of d.method in
    ap (λ (e : Event). e.denied) (sent_law f act d.com_id d.frame d.sent)
    ∙ ap (λ b. (cond b (manager_event f d.com_id d.frame.session (message_in d.frame.payload)) (to_session f d.com_id d.frame.session d.frame.payload (session_named f d.com_id d.frame.session))).denied) d.manager
    ∙ ap (λ r. (manager_event f d.com_id d.frame.session r).denied) d.calls
    ∙ ap (λ b. (cond b (ignores Discarded) (answers d.com_id d.frame.session (to_manager f d.com_id (Ok (call d.object d.method d.args d.status))))).denied) (of-manager f.config.profile (is_method_of_manager properties o m) (is_method_of_manager start_session o m) d.starts)
    ∙ ap (λ b. (cond b (properties_told f d.com_id (values_of d.args)) (cond (is_method_of_manager start_session o m) (started f d.com_id (values_of d.args)) (refuses_item (refusal_of fail) NoMethod))).denied) d.no_properties
    ∙ ap (λ b. (cond b (started f d.com_id (values_of d.args)) (refuses_item (refusal_of fail) NoMethod)).denied) d.starts
    ∙ ap (λ x. (started_by f d.com_id (host_of (values_of d.args)) x).denied) d.shaped
    ∙ ap (λ v. denied_with (Some d.opening) v) d.fails
    ∙ ap (λ y. Some y) (sym d.why_is)

denied-if : (f : Facts) (act : Act) (why : Why) → IsDenied f act why → (event_by f act).denied ≡ Some why
denied-if f act why (inl d) = transfer-denied f act why d
denied-if f act why (inr (inl d)) = method-denied f act why d
denied-if f act why (inr (inr (inl d))) = attempt-denied f act why d
denied-if f act why (inr (inr (inr (inl d)))) = start-denied f act why d
denied-if f act why (inr (inr (inr (inr d)))) = trim-denied f act why d

-- back: what has a reason is one of them

nothing : {why : Why} → None ≡ Some why → ⊥
nothing h = cc

same-why : {x y : Why} → Some x ≡ Some y → x ≡ y
same-why h = cc

-- the reason in a judgement; what a granted call comes to has none
abbrev reason : Judgement → Option Why
reason (Denies why) = Some why
reason (Refuses status rule) = None
reason (Gives results) = None
reason (Draws count results) = None
reason (Makes setting) = None
reason (Attempts block authority pin) = None
reason Activates = None
reason (Reverts sp) = None
reason (Erases range) = None
reason (RevertsSp keep) = None

clean-if : (b : Bool) (x y : Judgement) → reason x ≡ None → reason y ≡ None → reason (cond b x y) ≡ None
clean-if true x y h g = h
clean-if false x y h g = g

gives-clean : (room : ℕ) (results : List Tree) → reason (gives room results) ≡ None
gives-clean room results = clean-if (fits room results) (Gives results) (Refuses 0x11 TooLong) refl refl

rows-clean : (room : ℕ) (byte : ℕ → ℕ) (size first last : ℕ) → reason (rows_given room byte size first last) ≡ None
rows-clean room byte size first last =
    clean-if ((size == 0) || (nat_le size last || nat_lt last first)) (Refuses 0x0c OutsideTable) _ refl
    (clean-if (nat_lt room (last + 1 - first)) (Refuses 0x11 TooLong) (gives room (bytes_between byte first last)) refl (gives-clean room (bytes_between byte first last)))

makes-clean : (x : Result Setting Rule) → reason (makes x) ≡ None
makes-clean (Err rule) = refl
makes-clean (Ok set) = refl

open-clean : (b : Bool) (j : Judgement) → reason j ≡ None → reason (unless_open b j) ≡ None
open-clean true j h = refl
open-clean false j h = h

erases-clean : (x : Option ℕ) → reason (erases x) ≡ None
erases-clean None = refl
erases-clean (Some range) = refl

told-clean : (room : ℕ) (x : Option (List Uid)) → reason (rows_told room x) ≡ None
told-clean room None = refl
told-clean room (Some rows) = gives-clean room (uids_tree rows ∷ [])

acl-clean : (room : ℕ) (x : Option (List Uid)) → reason (acl_told room x) ≡ None
acl-clean room None = refl
acl-clean room (Some acl) = gives-clean room (uids_tree acl ∷ [])

draws-clean : (room : ℕ) (random : ℕ → List ℕ) (count : ℕ) → reason (draws room random count) ≡ None
draws-clean room random count =
    clean-if (nat_lt 32 count) (Refuses 0x0c ManyRandomBytes) _ refl
    (clean-if (fits room (bytes (random count) ∷ [])) (Draws count (bytes (random count) ∷ [])) (Refuses 0x11 TooLong) refl refl)

done-clean : (s : Standing) (object : Uid) (ask : Ask) → reason (does_ask s object ask) ≡ None
done-clean s object (GetCells a b) = gives-clean s.room (listing s object a b)
done-clean s object (GetBytes a b) = rows-clean s.room (λ row. s.byte (table_begin s.sizes (byte_table_of (kind_of s.sp object)) + row)) (bytes_of_table s.sizes (byte_table_of (kind_of s.sp object))) a (last_row (bytes_of_table s.sizes (byte_table_of (kind_of s.sp object))) b)
done-clean s object (SetCells values) = makes-clean (to_set s object (SetCells values))
done-clean s object (SetBytes place content) = makes-clean (to_set s object (SetBytes place content))
done-clean s object (Authenticate a pin) = refl
done-clean s object Activate = open-clean s.is_open Activates refl
done-clean s object Revert = open-clean s.is_open (Reverts (sp_of_row object)) refl
done-clean s object GenKey = open-clean s.is_open (erases (key_number object)) (erases-clean (key_number object))
done-clean s object (RevertSp keep) = open-clean s.is_open (reverts_sp s.rows keep) (clean-if (keep && is_wholly_locked s.rows) (Refuses 0x3f GlobalLocked) (RevertsSp keep) refl refl)
done-clean s object (Next after count) = told-clean s.room (rows_asked after count (rows_of_table s.sp (table_of object)))
done-clean s object (GetAcl about what) = acl-clean s.room (acl_at s.profile s.sp about what)
done-clean s object (Random count) = draws-clean s.room s.random count
done-clean s object Other = refl

does-clean : (s : Standing) (object : Uid) (ask : Ask) → reason (does s object ask) ≡ None
does-clean s object ask = done-clean s object (ask_at s.sp object ask)

-- the block of an attempt is that of the drive
abbrev block-of : SidBlock → Judgement → SidBlock
block-of d (Attempts block authority pin) = block
block-of d _ = d

own-if : (d : SidBlock) (b : Bool) (x y : Judgement) → block-of d x ≡ d → block-of d y ≡ d → block-of d (cond b x y) ≡ d
own-if d true x y h g = h
own-if d false x y h g = g

own-gives : (d : SidBlock) (room : ℕ) (results : List Tree) → block-of d (gives room results) ≡ d
own-gives d room results = own-if d (fits room results) (Gives results) (Refuses 0x11 TooLong) refl refl

own-makes : (d : SidBlock) (x : Result Setting Rule) → block-of d (makes x) ≡ d
own-makes d (Err rule) = refl
own-makes d (Ok set) = refl

own-open : (d : SidBlock) (b : Bool) (j : Judgement) → block-of d j ≡ d → block-of d (unless_open b j) ≡ d
own-open d true j h = refl
own-open d false j h = h

own-erases : (d : SidBlock) (x : Option ℕ) → block-of d (erases x) ≡ d
own-erases d None = refl
own-erases d (Some range) = refl

own-rows : (d : SidBlock) (room : ℕ) (byte : ℕ → ℕ) (size first last : ℕ) → block-of d (rows_given room byte size first last) ≡ d
own-rows d room byte size first last =
    own-if d ((size == 0) || (nat_le size last || nat_lt last first)) (Refuses 0x0c OutsideTable) _ refl
    (own-if d (nat_lt room (last + 1 - first)) (Refuses 0x11 TooLong) (gives room (bytes_between byte first last)) refl (own-gives d room (bytes_between byte first last)))

own-told : (d : SidBlock) (room : ℕ) (x : Option (List Uid)) → block-of d (rows_told room x) ≡ d
own-told d room None = refl
own-told d room (Some rows) = own-gives d room (uids_tree rows ∷ [])

own-acl : (d : SidBlock) (room : ℕ) (x : Option (List Uid)) → block-of d (acl_told room x) ≡ d
own-acl d room None = refl
own-acl d room (Some acl) = own-gives d room (uids_tree acl ∷ [])

own-draws : (d : SidBlock) (room : ℕ) (random : ℕ → List ℕ) (count : ℕ) → block-of d (draws room random count) ≡ d
own-draws d room random count =
    own-if d (nat_lt 32 count) (Refuses 0x0c ManyRandomBytes) _ refl
    (own-if d (fits room (bytes (random count) ∷ [])) (Draws count (bytes (random count) ∷ [])) (Refuses 0x11 TooLong) refl refl)

own-done : (s : Standing) (object : Uid) (ask : Ask) → block-of s.block (does_ask s object ask) ≡ s.block
own-done s object (GetCells a b) = own-gives s.block s.room (listing s object a b)
own-done s object (GetBytes a b) = own-rows s.block s.room (λ row. s.byte (table_begin s.sizes (byte_table_of (kind_of s.sp object)) + row)) (bytes_of_table s.sizes (byte_table_of (kind_of s.sp object))) a (last_row (bytes_of_table s.sizes (byte_table_of (kind_of s.sp object))) b)
own-done s object (SetCells values) = own-makes s.block (to_set s object (SetCells values))
own-done s object (SetBytes place content) = own-makes s.block (to_set s object (SetBytes place content))
own-done s object (Authenticate a pin) = refl
own-done s object Activate = own-open s.block s.is_open Activates refl
own-done s object Revert = own-open s.block s.is_open (Reverts (sp_of_row object)) refl
own-done s object GenKey = own-open s.block s.is_open (erases (key_number object)) (own-erases s.block (key_number object))
own-done s object (RevertSp keep) = own-open s.block s.is_open (reverts_sp s.rows keep) (own-if s.block (keep && is_wholly_locked s.rows) (Refuses 0x3f GlobalLocked) (RevertsSp keep) refl refl)
own-done s object (Next after count) = own-told s.block s.room (rows_asked after count (rows_of_table s.sp (table_of object)))
own-done s object (GetAcl about what) = own-acl s.block s.room (acl_at s.profile s.sp about what)
own-done s object (Random count) = own-draws s.block s.room s.random count
own-done s object Other = refl

own-denied : (s : Standing) (d : Option Why) (j : Judgement) → block-of s.block j ≡ s.block → block-of s.block (unless_denied d j) ≡ s.block
own-denied s None j h = h
own-denied s (Some why) j h = refl

own-block : (s : Standing) (object method : Uid) (x : Option Ask) → block-of s.block (judged s object method x) ≡ s.block
own-block s object method None = refl
own-block s object method (Some ask) = own-denied s (denial s object method ask) (does s object ask) (own-done s object (ask_at s.sp object ask))

-- a call of a session
refused-is : (f : Facts) (act : Act) (why : Why) (session : Begun) (object method : List ℕ) (args : Trees) → IsCall f act session object method args → (x : Option Ask) → asked f.config.profile session.sp (uid_of object) (uid_of method) args ≡ x
    → reason (judged (standing f session) (uid_of object) (uid_of method) x) ≡ Some why → IsDenied f act why
refused-is f act why session object method args c None is h = absurd (nothing h)
refused-is f act why session object method args c (Some ask) is h = by_denial (denial (standing f session) (uid_of object) (uid_of method) ask) refl h
  where
    by_denial : (d : Option Why) → denial (standing f session) (uid_of object) (uid_of method) ask ≡ d → reason (unless_denied d (does (standing f session) (uid_of object) ask)) ≡ Some why → IsDenied f act why
    by_denial None no_why g = absurd (nothing (sym (does-clean (standing f session) (uid_of object) ask) ∙ g))
    by_denial (Some w) some_why g = inr (inl (record { session = session; object = object; method = method; args = args; called = c; ask = ask; shaped = is; denial = some_why ∙ g }))

attempt-is : (f : Facts) (act : Act) (why : Why) (session : Begun) (object method : List ℕ) (args : Trees) → IsCall f act session object method args → (authority : Uid) (pin : List ℕ) → judgement_on f session (uid_of object) (uid_of method) args ≡ Attempts f.beside.block authority pin
    → (x : Option AttemptFailure) → failure_of f.beside.block f.rows session.sp authority pin ≡ x → (tried_in f.rows session.sp authority x).denied ≡ Some why → IsDenied f act why
attempt-is f act why session object method args c authority pin j None is h = absurd (nothing h)
attempt-is f act why session object method args c authority pin j (Some failure) is h =
    inr (inr (inl (record { session = session; object = object; method = method; args = args; called = c; authority = authority; pin = pin; attempts = j; failure = failure; fails = is; why_is = same-why (sym h) })))

judged-is : (f : Facts) (act : Act) (why : Why) (session : Begun) (object method : List ℕ) (args : Trees) → IsCall f act session object method args → (j : Judgement) → judgement_on f session (uid_of object) (uid_of method) args ≡ j → (outcome_of f.rows session.sp j).denied ≡ Some why → IsDenied f act why
judged-is f act why session object method args c (Refuses status rule) is h = absurd (nothing h)
judged-is f act why session object method args c (Denies reason_why) is h =
    refused-is f act why session object method args c (asked f.config.profile session.sp (uid_of object) (uid_of method) args) refl (ap reason is ∙ h)
judged-is f act why session object method args c (Attempts block authority pin) is h =
    let own : block ≡ f.beside.block = ap (block-of f.beside.block) (sym is) ∙ own-block (standing f session) (uid_of object) (uid_of method) (asked f.config.profile session.sp (uid_of object) (uid_of method) args) in
    attempt-is f act why session object method args c authority pin (is ∙ ap (λ b. Attempts b authority pin) own) (failure_of f.beside.block f.rows session.sp authority pin) refl
    (ap (λ b. (tried_in f.rows session.sp authority (failure_of b f.rows session.sp authority pin)).denied) (sym own) ∙ h)
judged-is f act why session object method args c (Gives results) is h = absurd (nothing h)
judged-is f act why session object method args c (Draws count results) is h = absurd (nothing h)
judged-is f act why session object method args c (Makes change) is h = absurd (nothing h)
judged-is f act why session object method args c Activates is h = absurd (nothing h)
judged-is f act why session object method args c (Reverts sp) is h = absurd (nothing h)
judged-is f act why session object method args c (Erases range) is h = absurd (nothing h)
judged-is f act why session object method args c (RevertsSp keep) is h = absurd (nothing h)

begun-none : (sp : Sp) (n : ℕ) (x : Option ℕ) → (begins_on sp n x).denied ≡ None
begun-none sp n None = refl
begun-none sp n (Some m) = refl

ended-none : (sp : Sp) (n : ℕ) (b : Bool) → (ends_on sp n b).denied ≡ None
ended-none sp zero true = refl
ended-none sp (suc n) true = refl
ended-none sp n false = refl

session-is : (f : Facts) (act : Act) (why : Why) (com_id : ℕ) (frame : Frame) → IsSent f act com_id frame → is_manager frame.session ≡ false → (session : Begun) → session_named f com_id frame.session ≡ Some session
    → (r : Result Message TokenError) → item_in f.config.profile frame.payload ≡ r → (in_session f session r).denied ≡ Some why → IsDenied f act why
session-is f act why com_id frame sent no_manager session named (Ok (call object method args status)) is h =
    judged-is f act why session object method args (record { com_id = com_id; frame = frame; sent = sent; no_manager = no_manager; named = named; status = status; calls = is }) (judgement_on f session (uid_of object) (uid_of method) args) refl h
session-is f act why com_id frame sent no_manager session named (Ok (begin n)) is h = absurd (nothing (sym (begun-none session.sp session.number (f.open_on session.sp)) ∙ h))
session-is f act why com_id frame sent no_manager session named (Ok (end n)) is h = absurd (nothing (sym (ended-none session.sp n (has_open f session)) ∙ h))
session-is f act why com_id frame sent no_manager session named (Ok end_session) is h = absurd (nothing h)
session-is f act why com_id frame sent no_manager session named (Ok (reply results status)) is h = absurd (nothing h)
session-is f act why com_id frame sent no_manager session named (Err e) is h = absurd (nothing h)

-- the session manager
called-is : (f : Facts) (act : Act) (why : Why) (com_id : ℕ) (frame : Frame) → IsSent f act com_id frame → is_manager frame.session ≡ true → (object method : List ℕ) (args : Trees) (status : List ℕ) → message_in frame.payload ≡ Ok (call object method args status)
    → (p q : Bool) → is_method_of_manager properties (uid_of object) (uid_of method) ≡ p → is_method_of_manager start_session (uid_of object) (uid_of method) ≡ q
    → (cond p (properties_told f com_id (values_of args)) (cond q (started f com_id (values_of args)) (refuses_item (refusal_of fail) NoMethod))).denied ≡ Some why → IsDenied f act why
called-is f act why com_id frame sent manager object method args status calls true q is_p is_q h = absurd (nothing h)
called-is f act why com_id frame sent manager object method args status calls false false is_p is_q h = absurd (nothing h)
called-is f act why com_id frame sent manager object method args status calls false true is_p is_q h = by_opening (opening_of f.config.profile (values_of args)) refl h
  where
    by_verdict : (c : Opening) → opening_of f.config.profile (values_of args) ≡ Some c → (v : StartVerdict) → start_verdict f (Some c) ≡ v → denied_with (Some c) v ≡ Some why → IsDenied f act why
    by_verdict c shaped (Refused s r) is g = absurd (nothing g)
    by_verdict c shaped (Attempted sp None) is g = absurd (nothing g)
    by_verdict c shaped (Attempted sp (Some failure)) is g = inr (inr (inr (inl (record {
      com_id = com_id;
      frame = frame;
      sent = sent;
      manager = manager;
      object = object;
      method = method;
      args = args;
      status = status;
      calls = calls;
      no_properties = is_p;
      starts = is_q;
      opening = c;
      shaped = shaped;
      sp = sp;
      failure = failure;
      fails = is;
      why_is = sym (same-why g);
    }))))

    by_opening : (x : Option Opening) → opening_of f.config.profile (values_of args) ≡ x → (started_by f com_id (host_of (values_of args)) x).denied ≡ Some why → IsDenied f act why
    by_opening None is g = absurd (nothing g)
    by_opening (Some c) is g = by_verdict c is (start_verdict f (Some c)) refl g

manager-is : (f : Facts) (act : Act) (why : Why) (com_id : ℕ) (frame : Frame) → IsSent f act com_id frame → is_manager frame.session ≡ true → (r : Result Message TokenError) → message_in frame.payload ≡ r → (to_manager f com_id r).denied ≡ Some why → IsDenied f act why
manager-is f act why com_id frame sent manager (Ok (call object method args status)) is h =
    called-is f act why com_id frame sent manager object method args status is (is_method_of_manager properties (uid_of object) (uid_of method)) (is_method_of_manager start_session (uid_of object) (uid_of method)) refl refl h
manager-is f act why com_id frame sent manager (Ok (reply results status)) is h = absurd (nothing h)
manager-is f act why com_id frame sent manager (Ok end_session) is h = absurd (nothing h)
manager-is f act why com_id frame sent manager (Ok (begin n)) is h = absurd (nothing h)
manager-is f act why com_id frame sent manager (Ok (end n)) is h = absurd (nothing h)
manager-is f act why com_id frame sent manager (Err e) is h = absurd (nothing h)

framed-is : (f : Facts) (act : Act) (why : Why) (com_id : ℕ) (frame : Frame) → IsSent f act com_id frame → (framed f com_id frame).denied ≡ Some why → IsDenied f act why
framed-is f act why com_id frame sent h = by_manager (is_manager frame.session) refl h
  where
    by_item : is_manager frame.session ≡ false → (session : Begun) → session_named f com_id frame.session ≡ Some session → (b : Bool) → (cond b (broken_off BrokenOff session.sp) (answers com_id frame.session (in_session f session (item_in f.config.profile frame.payload)))).denied ≡ Some why → IsDenied f act why
    by_item no_manager session is true g = absurd (nothing g)
    by_item no_manager session is false g = session-is f act why com_id frame sent no_manager session is (item_in f.config.profile frame.payload) refl g

    by_session : is_manager frame.session ≡ false → (x : Option Begun) → session_named f com_id frame.session ≡ x → (to_session f com_id frame.session frame.payload x).denied ≡ Some why → IsDenied f act why
    by_session no_manager None is g = absurd (nothing g)
    by_session no_manager (Some session) is g = by_item no_manager session is (breaks_off f.config.profile (item_in f.config.profile frame.payload)) g

    by_read : is_manager frame.session ≡ true → (b : Bool) → (cond b (ignores Discarded) (answers com_id frame.session (to_manager f com_id (message_in frame.payload)))).denied ≡ Some why → IsDenied f act why
    by_read is true g = absurd (nothing g)
    by_read is false g = manager-is f act why com_id frame sent is (message_in frame.payload) refl g

    by_manager : (b : Bool) → is_manager frame.session ≡ b → (cond b (manager_event f com_id frame.session (message_in frame.payload)) (to_session f com_id frame.session frame.payload (session_named f com_id frame.session))).denied ≡ Some why → IsDenied f act why
    by_manager true is g = by_read is (is_discarded f.config.profile (message_in frame.payload)) g
    by_manager false is g = by_session is (session_named f com_id frame.session) refl g

unframed-none : (f : Facts) (com_id : ℕ) (broken : Option Named) → (unframed f com_id broken).denied ≡ None
unframed-none f com_id None = refl
unframed-none f com_id (Some named) = by_id (named.com_id == com_id)
  where
    by_session : (x : Option Begun) → (unframed_in x).denied ≡ None
    by_session None = refl
    by_session (Some s) = refl

    by_id : (b : Bool) → (cond b (unframed_in (session_named f com_id named.session)) (ignores NoFrame)).denied ≡ None
    by_id true = by_session (session_named f com_id named.session)
    by_id false = refl

send-is : (f : Facts) (act : Act) (why : Why) (protocol com_id blocks : ℕ) (dma : Bool) (looked : IsLookedAt f act (Send protocol com_id blocks dma) None) → (send_item f protocol com_id blocks looked.payload).denied ≡ Some why → IsDenied f act why
send-is f act why protocol com_id blocks dma looked h = by_taken (is_sent f protocol com_id blocks) refl h
  where
    by_id : (is_sent f protocol com_id blocks) ≡ true → (frame : Frame) → frame_in looked.payload ≡ Ok frame → (b : Bool) → (frame.com_id == com_id) ≡ b → (cond b (framed f com_id frame) (ignores NoFrame)).denied ≡ Some why → IsDenied f act why
    by_id taken frame is false same g = absurd (nothing g)
    by_id taken frame is true same g = framed-is f act why com_id frame (record { protocol = protocol; blocks = blocks; dma = dma; looked = looked; taken = taken; framed = is; addressed = same }) g

    by_frame : (is_sent f protocol com_id blocks) ≡ true → (r : Result Frame FrameError) → frame_in looked.payload ≡ r → (sent_by f com_id (broken_of f.config.profile looked.payload) r).denied ≡ Some why → IsDenied f act why
    by_frame taken (Err e) is g = absurd (nothing (sym (unframed-none f com_id (broken_of f.config.profile looked.payload)) ∙ g))
    by_frame taken (Ok frame) is g = by_id taken frame is (frame.com_id == com_id) refl g

    by_taken : (b : Bool) → (is_sent f protocol com_id blocks) ≡ b → (cond b (sent f com_id looked.payload) (refuses (unsent (is_some (f.waiting com_id)) protocol com_id blocks))).denied ≡ Some why → IsDenied f act why
    by_taken false is g = absurd (nothing g)
    by_taken true is g = by_frame is (frame_in looked.payload) refl g

-- transfers
moves-is : (f : Facts) (act : Act) (why : Why) (command : Command) (tag : Option ℕ) → IsLookedAt f act command tag → (op : Op) (lba count : ℕ) → Reaches command tag op lba count → IsFree f tag → (make : Verdict → Event) (otherwise : Event)
    → otherwise.denied ≡ None → (make Serve).denied ≡ None → (make Shadow).denied ≡ None → ((w : Why) → (make (Denied w)).denied ≡ Some w) → (cond (on_drive f lba count) (make (verdict_on f op lba count)) otherwise).denied ≡ Some why → IsDenied f act why
moves-is f act why command tag looked op lba count moves free make otherwise no_other no_serve no_shadow denies h = by_drive (on_drive f lba count) refl h
  where
    by_verdict : on_drive f lba count ≡ true → (v : Verdict) → verdict_on f op lba count ≡ v → (make v).denied ≡ Some why → IsDenied f act why
    by_verdict drive Serve is g = absurd (nothing (sym no_serve ∙ g))
    by_verdict drive Shadow is g = absurd (nothing (sym no_shadow ∙ g))
    by_verdict drive (Denied w) is g =
        inl (record { command = command; tag = tag; looked = looked; op = op; lba = lba; count = count; moves = moves; free = free; on_drive = drive; verdict = is ∙ ap Denied (same-why (sym (denies w) ∙ g)) })

    by_drive : (b : Bool) → on_drive f lba count ≡ b → (cond b (make (verdict_on f op lba count)) otherwise).denied ≡ Some why → IsDenied f act why
    by_drive false is g = absurd (nothing (sym no_other ∙ g))
    by_drive true is g = by_verdict is (verdict_on f op lba count) refl g

queued-is : (f : Facts) (act : Act) (why : Why) (command : Command) (tag : ℕ) (looked : IsLookedAt f act command (Some tag)) → f.held tag ≡ None → (admitted f (h2d_at looked.fis) tag command false).denied ≡ Some why → IsDenied f act why
queued-is f act why (ReadQueued l n) tag looked free h = moves-is f act why (ReadQueued l n) (Some tag) looked Read l n read_queued free (queued_by (h2d_at looked.fis) tag (ReadQueued l n)) (fails_queue (Some tag) not_found (h2d_at looked.fis) None (Some BeyondDrive)) refl refl refl (λ w. refl) h
queued-is f act why (WriteQueued l n) tag looked free h = moves-is f act why (WriteQueued l n) (Some tag) looked Write l n write_queued free (queued_by (h2d_at looked.fis) tag (WriteQueued l n)) (fails_queue (Some tag) not_found (h2d_at looked.fis) None (Some BeyondDrive)) refl refl refl (λ w. refl) h
queued-is f act why (ReadDma l n) tag looked free h = absurd (nothing h)
queued-is f act why (WriteDma l n) tag looked free h = absurd (nothing h)
queued-is f act why (Send p c b d) tag looked free h = absurd (nothing h)
queued-is f act why (Receive p c b d) tag looked free h = absurd (nothing h)
queued-is f act why Identify tag looked free h = absurd (nothing h)
queued-is f act why (ReadLog10 d) tag looked free h = absurd (nothing h)
queued-is f act why Flush tag looked free h = absurd (nothing h)
queued-is f act why (SetFeatures feature) tag looked free h = absurd (nothing h)
queued-is f act why (ReadLog page dma) tag looked free h = absurd (nothing h)
queued-is f act why (ReadPio l n) tag looked free h = absurd (nothing h)
queued-is f act why (WritePio l n) tag looked free h = absurd (nothing h)
queued-is f act why (Verify l n) tag looked free h = absurd (nothing h)
queued-is f act why (Trim blocks) tag looked free h = absurd (nothing h)
queued-is f act why (Control control) tag looked free h = absurd (nothing h)

received-none : (com_id blocks : ℕ) (x : Option (List ℕ)) → (received com_id blocks x).denied ≡ None
received-none com_id blocks None = refl
received-none com_id blocks (Some r) = by_room (nat_le (length r) (sector_size * blocks))
  where
    by_room : (b : Bool) → (cond b (did (Took com_id)) (did Nothing)).denied ≡ None
    by_room true = refl
    by_room false = refl

none-if : (b : Bool) (x y : Event) → x.denied ≡ None → y.denied ≡ None → (cond b x y).denied ≡ None
none-if true x y h g = h
none-if false x y h g = g

trims-is : (f : Facts) (act : Act) (why : Why) (blocks : ℕ) (looked : IsLookedAt f act (Trim blocks) None)
    → (trimmed f (extents_in looked.payload)).denied ≡ Some why → IsDenied f act why
trims-is f act why blocks looked h = by (are_on_drive f.config.sectors extents) (first_denial (ranges_in_force f) extents) refl refl h
  where
    extents : List Extent
    extents = extents_in looked.payload

    by : (on : Bool) (x : Option Why) → are_on_drive f.config.sectors extents ≡ on → first_denial (ranges_in_force f) extents ≡ x
        → (cond on (trimmed_by extents x) (fails not_found None (Some BeyondDrive))).denied ≡ Some why → IsDenied f act why
    by true None on-is x-is g = absurd (nothing g)
    by true (Some w) on-is x-is g =
        inr (inr (inr (inr (record {
          blocks = blocks;
          looked = looked;
          on_drive = on-is;
          denial = x-is ∙ ap (λ (y : Why). Some y) (same-why g);
        }))))
    by false x on-is x-is g = absurd (nothing g)

unqueued-is : (f : Facts) (act : Act) (why : Why) (command : Command) (looked : IsLookedAt f act command None) → (unqueued f looked.payload command).denied ≡ Some why → IsDenied f act why
unqueued-is f act why (ReadDma l n) looked h = moves-is f act why (ReadDma l n) None looked Read l n read_dma tt (unqueued_by was_read) (fails not_found None (Some BeyondDrive)) refl refl refl (λ w. refl) h
unqueued-is f act why (WriteDma l n) looked h = moves-is f act why (WriteDma l n) None looked Write l n write_dma tt (unqueued_by (Wrote l looked.payload)) (fails not_found None (Some BeyondDrive)) refl refl refl (λ w. refl) h
unqueued-is f act why (Send p c b d) looked h = by_reset (resets f.rows (Send p c b d)) h
  where
    by_stack : (x : Bool) → (cond x (stack_sent f c looked.payload) (send_item f p c b looked.payload)).denied ≡ Some why → IsDenied f act why
    by_stack true g = absurd (nothing (sym (none-if (is_stack_reset c looked.payload) (stack_reset f c) (stack_kept c) refl refl) ∙ g))
    by_stack false g = send-is f act why p c b d looked g

    by_block : (x : Bool) → (cond x (blocks_sid f looked.payload) (send_other f p c b looked.payload)).denied ≡ Some why → IsDenied f act why
    by_block true g = absurd (nothing (sym (none-if (has_owner f.rows || is_blocked f.beside.block) (refuses SidKept) (did (BlockedSid (block_asked looked.payload))) refl refl) ∙ g))
    by_block false g = by_stack (asks_stack f.config.profile p c b) g

    by_reset : (x : Bool) → (cond x (did (WasReset programmatic)) (send f p c b looked.payload)).denied ≡ Some why → IsDenied f act why
    by_reset true g = absurd (nothing g)
    by_reset false g = by_block (is_block_sid f.config.profile (Send p c b true)) g
unqueued-is f act why (Receive p c b d) looked h =
    absurd (nothing (sym (none-if (asks_stack f.config.profile p c b) (did (InSession (StackTold c) Silent)) _ refl
    (none-if (is_received f p c b) (received c b (f.waiting c)) (refuses (unreceived p b)) (received-none c b (f.waiting c)) refl)) ∙ h))
unqueued-is f act why (ReadQueued l n) looked h = absurd (nothing h)
unqueued-is f act why (WriteQueued l n) looked h = absurd (nothing h)
unqueued-is f act why Identify looked h = absurd (nothing h)
unqueued-is f act why (ReadLog10 d) looked h = absurd (nothing h)
unqueued-is f act why Flush looked h = absurd (nothing h)
unqueued-is f act why (SetFeatures feature) looked h = absurd (nothing h)
unqueued-is f act why (ReadLog page dma) looked h = absurd (nothing h)
unqueued-is f act why (ReadPio l n) looked h = moves-is f act why (ReadPio l n) None looked Read l n read_pio tt (unqueued_by was_read) (fails not_found None (Some BeyondDrive)) refl refl refl (λ w. refl) h
unqueued-is f act why (WritePio l n) looked h = moves-is f act why (WritePio l n) None looked Write l n write_pio tt (unqueued_by (Wrote l looked.payload)) (fails not_found None (Some BeyondDrive)) refl refl refl (λ w. refl) h
unqueued-is f act why (Verify l n) looked h = moves-is f act why (Verify l n) None looked Read l n verify tt (unqueued_by was_read) (fails not_found None (Some BeyondDrive)) refl refl refl (λ w. refl) h
unqueued-is f act why (Trim blocks) looked h = trims-is f act why blocks looked h
unqueued-is f act why (Control control) looked h = absurd (nothing h)

looked-is : (f : Facts) (act : Act) (why : Why) (command : Command) (tag : Option ℕ) (looked : IsLookedAt f act command tag) → (looked_event tcg f (h2d_at looked.fis) looked.payload command tag).denied ≡ Some why → IsDenied f act why
looked-is f act why command None looked h = unqueued-is f act why command looked h
looked-is f act why command (Some tag) looked h = by_held (f.held tag) refl h
  where
    by_held : (x : Option HeldCommand) → f.held tag ≡ x → (admitted f (h2d_at looked.fis) tag command (is_some x)).denied ≡ Some why → IsDenied f act why
    by_held None is g = queued-is f act why command tag looked is g
    by_held (Some held) is g = absurd (nothing g)

-- acts
while_failed-none : (r : Result (Command × Option ℕ) CommandError) → (while_failed r).denied ≡ None
while_failed-none (Ok (ReadLog10 dma, tag)) = refl
while_failed-none _ = refl

accept-is : (f : Facts) (fis payload : List ℕ) (why : Why) → (event_by f (Accept fis payload)).denied ≡ Some why → IsDenied f (Accept fis payload) why
accept-is f fis payload why h = by_kind (slice_index fis 0 == h2d_type) refl h
  where
    c : RegH2d
    c = h2d_at fis

    by_reading : (slice_index fis 0 == h2d_type) ≡ true → c.is_command ≡ true → f.failure ≡ None → (is_busy f && not (is_queued c.command)) ≡ false → (r : Result (Command × Option ℕ) CommandError) → command_read f.config c ≡ r → (known f c payload r).denied ≡ Some why → IsDenied f (Accept fis payload) why
    by_reading kind commands mended unmixed (Err e) is g = absurd (nothing (sym (none-if (is_queued c.command) (fails_queue (Some (tag_of c)) aborted c None (Some (Unreadable e))) (refuses (Unreadable e)) refl refl) ∙ g))
    by_reading kind commands mended unmixed (Ok (command, Some tag)) is g =
        looked-is f (Accept fis payload) why command (Some tag) (record { fis = fis; payload = payload; accepts = refl; kind = eqb-true (slice_index fis 0) h2d_type kind; commands = commands; mended = mended; unmixed = unmixed; reads = is }) g
    by_reading kind commands mended unmixed (Ok (command, None)) is g =
        looked-is f (Accept fis payload) why command None (record { fis = fis; payload = payload; accepts = refl; kind = eqb-true (slice_index fis 0) h2d_type kind; commands = commands; mended = mended; unmixed = unmixed; reads = is }) g

    by_mix : (slice_index fis 0 == h2d_type) ≡ true → c.is_command ≡ true → f.failure ≡ None → (b : Bool) → (is_busy f && not (is_queued c.command)) ≡ b → (cond b (fails_queue None aborted c None (Some Mixed)) (known f c payload (command_read f.config c))).denied ≡ Some why → IsDenied f (Accept fis payload) why
    by_mix kind commands mended true is g = absurd (nothing g)
    by_mix kind commands mended false is g = by_reading kind commands mended is (command_read f.config c) refl g

    by_failure : (slice_index fis 0 == h2d_type) ≡ true → c.is_command ≡ true → (x : _) → f.failure ≡ x → (cond (is_some x) (while_failed (command_read f.config c)) (cond (is_busy f && not (is_queued c.command)) (fails_queue None aborted c None (Some Mixed)) (known f c payload (command_read f.config c)))).denied ≡ Some why → IsDenied f (Accept fis payload) why
    by_failure kind commands (Some x) is g = absurd (nothing (sym (while_failed-none (command_read f.config c)) ∙ g))
    by_failure kind commands None is g = by_mix kind commands is (is_busy f && not (is_queued c.command)) refl g

    by_command : (slice_index fis 0 == h2d_type) ≡ true → (b : Bool) → c.is_command ≡ b → (cond (not b) (refuses NoCommand) (cond (is_some f.failure) (while_failed (command_read f.config c)) (cond (is_busy f && not (is_queued c.command)) (fails_queue None aborted c None (Some Mixed)) (known f c payload (command_read f.config c))))).denied ≡ Some why → IsDenied f (Accept fis payload) why
    by_command kind false is g = absurd (nothing g)
    by_command kind true is g = by_failure kind is f.failure refl g

    by_kind : (b : Bool) → (slice_index fis 0 == h2d_type) ≡ b → (cond b (commanded f c payload) (refuses NoCommand)).denied ≡ Some why → IsDenied f (Accept fis payload) why
    by_kind false is g = absurd (nothing g)
    by_kind true is g = by_command is c.is_command refl g

completed-none : (tag : ℕ) (payload : List ℕ) (x : Option HeldCommand) → (completed tag payload x).denied ≡ None
completed-none tag payload None = refl
completed-none tag payload (Some h) = by_command h.command
  where
    by_command : (c : Command) → (completed_by tag payload c).denied ≡ None
    by_command (WriteQueued l n) = refl
    by_command _ = refl

is-denied : (f : Facts) (act : Act) (why : Why) → (event_by f act).denied ≡ Some why → IsDenied f act why
is-denied f (Accept fis payload) why h = accept-is f fis payload why h
is-denied f (Complete tag payload) why h = absurd (nothing (sym (completed-none tag payload (f.held tag)) ∙ h))
is-denied f (Reset kind) why h = absurd (nothing h)
is-denied f SoftwareReset why h = absurd (nothing h)

pub denial_law : DenialLaw
denial_law f act why = (is-denied f act why, denied-if f act why)

-- What is done with a command, and its answer, is what its event says.
use Rattle.device_data.specs.Protocols.{protocol_list, certificate_data}
use Rattle.trusted_cmds.specs.declared.command.CommandError.{CommandError}
use Rattle.sp_cells.specs.Config.{Config}
use Rattle.std.proofs.Common.{◌≡◌, ℕ, ◌<◌, ◌==◌, ◌*◌, ◌&&◌, nat_lt, Bool, true, false, List, [], ◌∷◌, ◌++◌, reverse, length, slice_index, Option, Some, None, Result, Ok, Err, is_some, refl, sym, subst, ap, ◌∙◌, if◌then◌else◌, arith}
use Rattle.std.specs.Prelude.{Result, nat_le, unwrap_or}
use Rattle.tcg_tokens.specs.declared.error.TokenError.{TokenError}
use Rattle.tcg_tokens.specs.Message.{Message}
use Rattle.audit.specs.declared.reason.Why.{Why}
use Rattle.fis.specs.H2d.{h2d_at}
use Rattle.fis.specs.Types.{h2d_type}
use Rattle.drive.proofs.Commands.{accepted-command, accepted-other}
use Rattle.fis.specs.declared.h2d.RegH2d.{RegH2d}
use Rattle.fis.specs.declared.any.Fis.{Fis}
use Rattle.locking.specs.declared.ranges.Verdict.TheVariants.{Serve, Shadow}
use Rattle.compacket.specs.Frames.{Frame, reading as frame_in}
use Rattle.compacket.specs.declared.error.FrameError.{FrameError}
use Rattle.compacket.specs.declared.session.Session.{Session}
use Rattle.compacket.specs.declared.session.Named.{Named}
use Rattle.device_data.specs.Discovery.{discovery_of}
use Rattle.device_data.specs.StackReset.{is_stack_reset, stack_answer}
use Rattle.device_data.specs.ErrorLog.{sized}
use Rattle.device_data.specs.Settings.{active}
use Rattle.device_data.specs.declared.log_page.Failure.{Failure}
use Rattle.locking.specs.declared.range.Op.{Op}
use Rattle.locking.specs.declared.range.Op.TheVariants.{Read, Write}
use Rattle.locking.specs.Verdict.{verdict_of}
use Rattle.tcg_tokens.specs.Reading.{reading as message_in}
use Rattle.shadow_mbr.specs.Stored.{StoredSectors, sector_size, sector_at, zeros}
use Rattle.transactions.specs.Sights.{look_up, committed_sight}
use Rattle.trusted_cmds.specs.declared.command.Command.{Command}
use Rattle.trusted_cmds.specs.declared.command.Command.TheVariants.{ReadQueued, WriteQueued, ReadDma, WriteDma, Send, Receive, Identify, ReadLog10, Flush, SetFeatures, ReadLog, ReadPio, WritePio, Verify, Trim, Control}
use Rattle.trusted_cmds.specs.declared.control.Control.TheVariants.{SetMultiple, Idle, Standby, CheckPowerMode, Diagnose}
use Rattle.trusted_cmds.specs.Commands.{is_programmatic_reset, is_protocol_list, is_certificate_data, reset_protocol}
use Rattle.trusted_cmds.specs.BlockSid.{is_block_sid, block_asked}
use Rattle.trusted_cmds.specs.declared.block.SidBlock.{SidBlock}
use Rattle.basics.specs.declared.profile.Profile.{Profile}
use Rattle.basics.specs.Profiles.{has_opal}
use Rattle.basics.specs.declared.profile.Profile.TheVariants.{Base, Field, Opal}
use Rattle.sp_cells.specs.Resets.{programmatic}
use Rattle.history.specs.Opening.{Origin}
use Rattle.sessions.specs.Deeds.{Begun}
use Rattle.sessions.specs.Beside.{channel_of}
use Rattle.history.specs.Events.{Deed, Nothing, OfQueue, QueueMended, Took, WasReset, BlockedSid, Event, did, ignores}
use Rattle.history.specs.Readers.{waiting, writing}
use Rattle.history.specs.Facts.{Facts, facts, session_named}
use Rattle.history.specs.Decisions.{received, aborted, asks_certificates, asks_stack, is_session_com_id}
use Rattle.history.specs.Tcg.{command_read, sent, sent_by, broken_of, unframed, unframed_in, stack_reset, stack_kept, stack_or, framed, to_session, to_manager, in_session, item_in, breaks_off, broken_off, is_discarded, manager_event, answers, is_manager, accepted, commanded, data_read, data_of, receive_data, certificates_or, received_bytes}
use Rattle.history.specs.Answers.{errored, ready, answer_fis, read_by, is_holding, served_fises}
use Rattle.history.specs.History.{Act, log}
use Rattle.tper.specs.Tper.{Keeps as KeepsTper, IsToldOfSend, response_at, told_event}
use Rattle.tper.specs.declared.trusted.Sent.{Sent}
use Rattle.drive.specs.declared.answer.Accepted.{Accepted}
use Rattle.drive.specs.declared.decision.Cause.{Cause}
use Rattle.drive.specs.declared.decision.Cause.TheVariants as causes
use Rattle.drive.specs.declared.decision.Decision.{Decision}
use Rattle.drive.specs.declared.decision.Decision.TheVariants.{Aborts, FailsQueue, Holds, Moves, Executes, Restarts, Blocks}
use Rattle.drive.specs.declared.transfer.Held.{Held}
use Rattle.drive.specs.declared.transfer.Way.{Way}
use Rattle.drive.specs.declared.transfer.Way.TheVariants as ways
use Rattle.drive.specs.Transfer.{transfer_by, queued_command, unqueued_command, moved_bytes, sector_then}
use Rattle.drive.specs.Queue.{with_slot, failed_queue}
use Rattle.drive.specs.Decision.{ranges_of, transfer_deed, executed, is_for_stack, asked_of_stack, reason, ruling, decision_event, CanExecute, IsMoved}
use Rattle.std.proofs.lemmas.Bool.Decides.{nat_tests}
use Rattle.std.proofs.lemmas.List.{reverse-append}
use Rattle.drive.specs.State.{DriveState, kept_facts, KeepsDrive, Agrees, AgreesInOrder}
use Rattle.drive.specs.Answers.{fises_in, IsAnswer, IsDoneAndAnswered}
use Rattle.shadow_mbr.specs.declared.erasure.Erasure.{Erasure}
use Rattle.shadow_mbr.specs.Erasure.{is_erased}
use Rattle.drive.proofs.Keeping.{seen-is, nothing-keeps, failed-keeps, holds-keeps, moved-keeps, tper-keeps, sends-of-tper, sends-erase, sent-deed, IsOfTper, of_tper}
use Rattle.audit.specs.declared.rules.rule.Rule.TheVariants.{NoCommand, NoFrame, Discarded, BrokenOff}
use Rattle.audit.specs.declared.rules.rule.Rule.{Rule}

-- what is sent and received

pub send-keeps : (d e : DriveState) (o : Origin) (acts : List Act) (com_id : ℕ) (payload : List ℕ) (s : Sent)
    → KeepsTper e.tper o (sent (facts o (log o acts)) com_id payload ∷ log o acts) → IsToldOfSend (sent (facts o (log o acts)) com_id payload) s
    → e.queue ≡ d.queue → e.settings ≡ d.settings → ((x : ℕ) → sector_at e.media x ≡ (if is_erased s.erases x then zeros else sector_at d.media x))
    → KeepsDrive d o (log o acts) → KeepsDrive e o (sent (facts o (log o acts)) com_id payload ∷ log o acts)
send-keeps d e o acts com_id payload s tper is queue chosen media k =
    let f : Facts = facts o (log o acts) in
    tper-keeps d e o (log o acts) (sent f com_id payload) (sends-of-tper (sent f com_id payload).deed (sent-deed f com_id payload)) tper queue chosen
    (λ x. media x ∙ ap (λ (w : Erasure). if is_erased w x then zeros else sector_at d.media x) is.erases
    ∙ sends-erase (sent f com_id payload).deed x (sector_at d.media x) (sent-deed f com_id payload)) k

-- the stack of a ComID: media stay
pub stack-reset-keeps : (d e : DriveState) (o : Origin) (past : List Event) (com_id : ℕ) → KeepsTper e.tper o (stack_reset (facts o past) com_id ∷ past)
    → e.queue ≡ d.queue → e.settings ≡ d.settings → e.media ≡ d.media → KeepsDrive d o past → KeepsDrive e o (stack_reset (facts o past) com_id ∷ past)
stack-reset-keeps d e o past com_id tper queue chosen media k =
    tper-keeps d e o past (stack_reset (facts o past) com_id) (of_tper (λ tag. refl) refl (λ s. refl)) tper queue chosen
    (λ s. ap (λ (m : StoredSectors). sector_at m s) media) k

pub stack-told-keeps : (d e : DriveState) (o : Origin) (past : List Event) (com_id : ℕ) (rule : Option Rule) → KeepsTper e.tper o (told_event com_id rule ∷ past)
    → e.queue ≡ d.queue → e.settings ≡ d.settings → e.media ≡ d.media → KeepsDrive d o past → KeepsDrive e o (told_event com_id rule ∷ past)
stack-told-keeps d e o past com_id rule tper queue chosen media k =
    tper-keeps d e o past (told_event com_id rule) (of_tper (λ tag. refl) refl (λ s. refl)) tper queue chosen
    (λ s. ap (λ (m : StoredSectors). sector_at m s) media) k

-- a receive does nothing, or takes what waits
took-of : (com_id : ℕ) (b : Bool) → IsOfTper (if b then did (Took com_id) else did Nothing).deed
took-of com_id true = of_tper (λ tag. refl) refl (λ s. refl)
took-of com_id false = of_tper (λ tag. refl) refl (λ s. refl)

received-of : (com_id blocks : ℕ) (w : Option (List ℕ)) → IsOfTper (received com_id blocks w).deed
received-of com_id blocks None = of_tper (λ tag. refl) refl (λ s. refl)
received-of com_id blocks (Some response) = took-of com_id (nat_le (length response) (sector_size * blocks))

took-moves : (com_id : ℕ) (b : Bool) (s : ℕ) → writing s (if b then did (Took com_id) else did Nothing).deed ≡ None
took-moves com_id true s = refl
took-moves com_id false s = refl

received-moves : (com_id blocks : ℕ) (w : Option (List ℕ)) (s : ℕ) → writing s (received com_id blocks w).deed ≡ None
received-moves com_id blocks None s = refl
received-moves com_id blocks (Some response) s = took-moves com_id (nat_le (length response) (sector_size * blocks)) s

pub receive-keeps : (d e : DriveState) (o : Origin) (past : List Event) (com_id blocks : ℕ) → KeepsTper e.tper o (received com_id blocks (waiting past com_id) ∷ past)
    → e.queue ≡ d.queue → e.settings ≡ d.settings → e.media ≡ d.media → KeepsDrive d o past → KeepsDrive e o (received com_id blocks (waiting past com_id) ∷ past)
receive-keeps d e o past com_id blocks tper queue chosen media k =
    tper-keeps d e o past (received com_id blocks (waiting past com_id)) (received-of com_id blocks (waiting past com_id)) tper queue chosen
    (λ s. ap (λ (m : StoredSectors). sector_at m s) media ∙ sym (ap (λ (x : Option (List ℕ)). unwrap_or x (sector_at d.media s)) (received-moves com_id blocks (waiting past com_id) s))) k

no-wait : (d : DriveState) (o : Origin) (past : List Event) (com_id : ℕ) → com_id ≡ 1 → KeepsDrive d o past → waiting past com_id ≡ None
no-wait d o past com_id is k = ap (waiting past) is ∙ sym (k.tper.waiting 1)

pub discovery-keeps : (d : DriveState) (o : Origin) (past : List Event) (com_id blocks : ℕ) → com_id ≡ 1 → KeepsDrive d o past → KeepsDrive d o (received com_id blocks (waiting past com_id) ∷ past)
discovery-keeps d o past com_id blocks is k =
    nothing-keeps d o past (received com_id blocks (waiting past com_id)) (ap (λ (w : Option (List ℕ)). (received com_id blocks w).deed) (no-wait d o past com_id is k)) k

-- nothing waits on the ComID of the list of protocols
no-list : false ≡ true → ⊥
no-list h = cc

protocols-com_id : (protocol com_id blocks : ℕ) (dma : Bool)
    → is_protocol_list (Receive protocol com_id blocks dma) ≡ true → com_id ≡ 0
protocols-com_id protocol com_id blocks dma is = grind (arith, nat_tests)

pub protocols-keeps : (d : DriveState) (o : Origin) (past : List Event) (payload : List ℕ) (command : Command)
    → is_protocol_list command ≡ true → KeepsDrive d o past
    → KeepsDrive d o (executed (facts o past) payload command ∷ past)
protocols-keeps d o past payload (Receive protocol com_id blocks dma) is k =
    let none : waiting past com_id ≡ None = ap (waiting past) (protocols-com_id protocol com_id blocks dma is) ∙ sym (k.tper.waiting 0) in
    nothing-keeps d o past (received com_id blocks (waiting past com_id)) (ap (λ (w : Option (List ℕ)). (received com_id blocks w).deed) none) k
protocols-keeps d o past payload (Send protocol com_id blocks dma) is k = absurd (no-list is)
protocols-keeps d o past payload Identify is k = absurd (no-list is)
protocols-keeps d o past payload (ReadLog10 dma) is k = absurd (no-list is)
protocols-keeps d o past payload Flush is k = absurd (no-list is)
protocols-keeps d o past payload (SetFeatures feature) is k = absurd (no-list is)
protocols-keeps d o past payload (ReadLog page dma) is k = absurd (no-list is)
protocols-keeps d o past payload (ReadQueued lba count) is k = absurd (no-list is)
protocols-keeps d o past payload (WriteQueued lba count) is k = absurd (no-list is)
protocols-keeps d o past payload (ReadDma lba count) is k = absurd (no-list is)
protocols-keeps d o past payload (WriteDma lba count) is k = absurd (no-list is)
protocols-keeps d o past payload (ReadPio lba count) is k = absurd (no-list is)
protocols-keeps d o past payload (WritePio lba count) is k = absurd (no-list is)
protocols-keeps d o past payload (Verify lba count) is k = absurd (no-list is)
protocols-keeps d o past payload (Trim blocks) is k = absurd (no-list is)
protocols-keeps d o past payload (Control control) is k = absurd (no-list is)

pub protocols-data : (f : Facts) (protocol com_id blocks : ℕ) (dma : Bool)
    → is_protocol_list (Receive protocol com_id blocks dma) ≡ true
    → sized (sector_size * blocks) protocol_list ≡ data_of f (Receive protocol com_id blocks dma)
protocols-data f protocol com_id blocks dma is =
    sym (ap (λ (b : Bool). if b then sized (sector_size * blocks) protocol_list else stack_or (asks_stack f.config.profile protocol com_id blocks) f (Receive protocol com_id blocks dma) com_id (sector_size * blocks)) is)

-- nor on that of the certificates, which an Opal drive tells
certificate-of : (p : Profile) (command : Command) → asks_certificates p command ≡ true → is_certificate_data command ≡ true
certificate-of Base command is = absurd (no-list is)
certificate-of Field command is = absurd (no-list is)
certificate-of Opal command is = is

certificates-com_id : (protocol com_id blocks : ℕ) (dma : Bool)
    → is_certificate_data (Receive protocol com_id blocks dma) ≡ true → com_id ≡ 1
certificates-com_id protocol com_id blocks dma is = grind (arith, nat_tests)

pub certificates-keeps : (d : DriveState) (o : Origin) (past : List Event) (payload : List ℕ) (command : Command) (p : Profile)
    → asks_certificates p command ≡ true → KeepsDrive d o past
    → KeepsDrive d o (executed (facts o past) payload command ∷ past)
certificates-keeps d o past payload command p is k = by_command command (certificate-of p command is)
  where
    by_command : (c : Command) → is_certificate_data c ≡ true → KeepsDrive d o (executed (facts o past) payload c ∷ past)
    by_command (Receive protocol com_id blocks dma) g = discovery-keeps d o past com_id blocks (certificates-com_id protocol com_id blocks dma g) k
    by_command (Send protocol com_id blocks dma) g = absurd (no-list g)
    by_command Identify g = absurd (no-list g)
    by_command (ReadLog10 dma) g = absurd (no-list g)
    by_command Flush g = absurd (no-list g)
    by_command (SetFeatures feature) g = absurd (no-list g)
    by_command (ReadLog page dma) g = absurd (no-list g)
    by_command (ReadQueued lba count) g = absurd (no-list g)
    by_command (WriteQueued lba count) g = absurd (no-list g)
    by_command (ReadDma lba count) g = absurd (no-list g)
    by_command (WriteDma lba count) g = absurd (no-list g)
    by_command (ReadPio lba count) g = absurd (no-list g)
    by_command (WritePio lba count) g = absurd (no-list g)
    by_command (Verify lba count) g = absurd (no-list g)
    by_command (Trim blocks) g = absurd (no-list g)
    by_command (Control control) g = absurd (no-list g)

-- what is told where the list of protocols is not asked for, nor the stack of a ComID
other-data : (f : Facts) (protocol com_id blocks : ℕ) (dma certificates : Bool)
    → is_protocol_list (Receive protocol com_id blocks dma) ≡ false
    → is_for_stack f.config.profile (Receive protocol com_id blocks dma) ≡ false
    → asks_certificates f.config.profile (Receive protocol com_id blocks dma) ≡ certificates
    → certificates_or certificates f com_id (sector_size * blocks) ≡ data_of f (Receive protocol com_id blocks dma)
other-data f protocol com_id blocks dma certificates other apart is =
    ap (λ (b : Bool). certificates_or b f com_id (sector_size * blocks)) (sym is)
    ∙ ap (λ (b : Bool). stack_or b f (Receive protocol com_id blocks dma) com_id (sector_size * blocks)) (sym apart)
    ∙ sym (ap (λ (b : Bool). if b then sized (sector_size * blocks) protocol_list else stack_or (asks_stack f.config.profile protocol com_id blocks) f (Receive protocol com_id blocks dma) com_id (sector_size * blocks)) other)

pub certificates-data : (d : DriveState) (o : Origin) (past : List Event) (protocol com_id blocks : ℕ) (dma : Bool)
    → is_protocol_list (Receive protocol com_id blocks dma) ≡ false
    → is_for_stack d.tper.store.config.profile (Receive protocol com_id blocks dma) ≡ false
    → asks_certificates d.tper.store.config.profile (Receive protocol com_id blocks dma) ≡ true → KeepsDrive d o past
    → sized (sector_size * blocks) certificate_data ≡ data_of (facts o past) (Receive protocol com_id blocks dma)
certificates-data d o past protocol com_id blocks dma other apart is k =
    other-data (kept_facts d (facts o past)) protocol com_id blocks dma true other apart is
    ∙ ap (λ (f : Facts). data_of f (Receive protocol com_id blocks dma)) (seen-is d o past k)

pub received-data : (d : DriveState) (o : Origin) (past : List Event) (protocol com_id blocks : ℕ) (dma : Bool)
    → is_protocol_list (Receive protocol com_id blocks dma) ≡ false
    → is_for_stack d.tper.store.config.profile (Receive protocol com_id blocks dma) ≡ false
    → asks_certificates d.tper.store.config.profile (Receive protocol com_id blocks dma) ≡ false → KeepsDrive d o past
    → receive_data (facts o past) com_id (sector_size * blocks) ≡ data_of (facts o past) (Receive protocol com_id blocks dma)
received-data d o past protocol com_id blocks dma other apart is k =
    ap (λ (f : Facts). receive_data f com_id (sector_size * blocks)) (sym (seen-is d o past k))
    ∙ other-data (kept_facts d (facts o past)) protocol com_id blocks dma false other apart is
    ∙ ap (λ (f : Facts). data_of f (Receive protocol com_id blocks dma)) (seen-is d o past k)

-- what is for the stack of a ComID is on one of those of sessions
stack-parts : (a b c d : Bool) → (a && (b && (c && d))) ≡ true → c ≡ true
stack-parts true true true d is = refl
stack-parts true true false d is = is
stack-parts true false c d is = absurd (no-list is)
stack-parts false b c d is = absurd (no-list is)

pub stack-com_id : (p : Profile) (protocol com_id blocks : ℕ) → asks_stack p protocol com_id blocks ≡ true → is_session_com_id com_id ≡ true
stack-com_id p protocol com_id blocks is = stack-parts (has_opal p) (protocol == reset_protocol) (is_session_com_id com_id) (nat_lt 0 blocks) is

-- what is told of it
stack-no-list : (p : Profile) (protocol com_id blocks : ℕ) (dma : Bool)
    → asks_stack p protocol com_id blocks ≡ true → is_protocol_list (Receive protocol com_id blocks dma) ≡ false
stack-no-list Base protocol com_id blocks dma is = absurd (no-list is)
stack-no-list Field protocol com_id blocks dma is = absurd (no-list is)
stack-no-list Opal protocol com_id blocks dma is = grind (arith, nat_tests)

stack-data-in : (f : Facts) (protocol com_id blocks : ℕ) (dma : Bool)
    → is_for_stack f.config.profile (Receive protocol com_id blocks dma) ≡ true
    → sized (sector_size * blocks) (stack_answer com_id (channel_of f.beside com_id).was_reset) ≡ data_of f (Receive protocol com_id blocks dma)
stack-data-in f protocol com_id blocks dma is =
    ap (λ (b : Bool). stack_or b f (Receive protocol com_id blocks dma) com_id (sector_size * blocks)) (sym is)
    ∙ sym (ap (λ (b : Bool). if b then sized (sector_size * blocks) protocol_list else stack_or (asks_stack f.config.profile protocol com_id blocks) f (Receive protocol com_id blocks dma) com_id (sector_size * blocks)) (stack-no-list f.config.profile protocol com_id blocks dma is))

pub stack-data : (d : DriveState) (o : Origin) (past : List Event) (protocol com_id blocks : ℕ) (dma : Bool)
    → is_for_stack d.tper.store.config.profile (Receive protocol com_id blocks dma) ≡ true → KeepsDrive d o past
    → sized (sector_size * blocks) (stack_answer com_id (channel_of d.tper.live.beside com_id).was_reset) ≡ data_of (facts o past) (Receive protocol com_id blocks dma)
stack-data d o past protocol com_id blocks dma is k =
    stack-data-in (kept_facts d (facts o past)) protocol com_id blocks dma is
    ∙ ap (λ (f : Facts). data_of f (Receive protocol com_id blocks dma)) (seen-is d o past k)

pub discovery-data : (d : DriveState) (o : Origin) (past : List Event) (com_id room : ℕ) → com_id ≡ 1 → KeepsDrive d o past
    → sized room (discovery_of d.tper.store.config.profile (look_up (committed_sight d.tper.store)) d.tper.live.beside.block) ≡ receive_data (facts o past) com_id room
discovery-data d o past com_id room is k =
    ap (λ (n : ℕ). receive_data (kept_facts d (facts o past)) n room) (sym is) ∙ ap (λ (f : Facts). receive_data f com_id room) (seen-is d o past k)

pub waiting-data : (d : DriveState) (o : Origin) (past : List Event) (com_id room : ℕ) → (com_id == 1) ≡ false → KeepsDrive d o past
    → sized room (received_bytes com_id room (response_at d.tper.waiting com_id)) ≡ receive_data (facts o past) com_id room
waiting-data d o past com_id room other k =
    sym (ap (λ (b : Bool). if b then sized room (discovery_of d.tper.store.config.profile (look_up (committed_sight d.tper.store)) d.tper.live.beside.block) else sized room (received_bytes com_id room (response_at d.tper.waiting com_id))) other)
    ∙ ap (λ (f : Facts). receive_data f com_id room) (seen-is d o past k)

-- events of commands that are executed

abbrev pub Succeeds : Event → Type 0
Succeeds ev = (ev.failed ≡ None) × (is_holding ev.deed ≡ false)

broken-succeeds : (f : Facts) (com_id : ℕ) (named : Session) (session : Begun) (item : Result Message TokenError) (b : Bool) → Succeeds (if b then broken_off BrokenOff session.sp else answers com_id named (in_session f session item))
broken-succeeds f com_id named session item true = (refl, refl)
broken-succeeds f com_id named session item false = (refl, refl)

manager-succeeds : (f : Facts) (com_id : ℕ) (named : Session) (item : Result Message TokenError) (b : Bool) → Succeeds (if b then ignores Discarded else answers com_id named (to_manager f com_id item))
manager-succeeds f com_id named item true = (refl, refl)
manager-succeeds f com_id named item false = (refl, refl)

to-session-succeeds : (f : Facts) (com_id : ℕ) (named : Session) (payload : List ℕ) (b : Option Begun) → Succeeds (to_session f com_id named payload b)
to-session-succeeds f com_id named payload None = (refl, refl)
to-session-succeeds f com_id named payload (Some session) = broken-succeeds f com_id named session (item_in f.config.profile payload) (breaks_off f.config.profile (item_in f.config.profile payload))

framed-succeeds : (f : Facts) (com_id : ℕ) (frame : Frame) (b : Bool)
    → Succeeds (if b then manager_event f com_id frame.session (message_in frame.payload) else to_session f com_id frame.session frame.payload (session_named f com_id frame.session))
framed-succeeds f com_id frame true = manager-succeeds f com_id frame.session (message_in frame.payload) (is_discarded f.config.profile (message_in frame.payload))
framed-succeeds f com_id frame false = to-session-succeeds f com_id frame.session frame.payload (session_named f com_id frame.session)

frame-succeeds : (f : Facts) (com_id : ℕ) (frame : Frame) (b : Bool) → Succeeds (if b then framed f com_id frame else ignores NoFrame)
frame-succeeds f com_id frame true = framed-succeeds f com_id frame (is_manager frame.session)
frame-succeeds f com_id frame false = (refl, refl)

unframed-in-succeeds : (session : Option Begun) → Succeeds (unframed_in session)
unframed-in-succeeds None = (refl, refl)
unframed-in-succeeds (Some session) = (refl, refl)

named-succeeds : (f : Facts) (com_id : ℕ) (named : Named) (b : Bool) → Succeeds (if b then unframed_in (session_named f com_id named.session) else ignores NoFrame)
named-succeeds f com_id named true = unframed-in-succeeds (session_named f com_id named.session)
named-succeeds f com_id named false = (refl, refl)

unframed-succeeds : (f : Facts) (com_id : ℕ) (broken : Option Named) → Succeeds (unframed f com_id broken)
unframed-succeeds f com_id None = (refl, refl)
unframed-succeeds f com_id (Some named) = named-succeeds f com_id named (named.com_id == com_id)

sent-by-succeeds : (f : Facts) (com_id : ℕ) (broken : Option Named) (r : Result Frame FrameError) → Succeeds (sent_by f com_id broken r)
sent-by-succeeds f com_id broken (Err e) = unframed-succeeds f com_id broken
sent-by-succeeds f com_id broken (Ok frame) = frame-succeeds f com_id frame (frame.com_id == com_id)

sent-succeeds : (f : Facts) (com_id : ℕ) (payload : List ℕ) → Succeeds (sent f com_id payload)
sent-succeeds f com_id payload = sent-by-succeeds f com_id (broken_of f.config.profile payload) (frame_in payload)

stack-succeeds : (f : Facts) (com_id : ℕ) (b : Bool) → Succeeds (if b then stack_reset f com_id else stack_kept com_id)
stack-succeeds f com_id true = (refl, refl)
stack-succeeds f com_id false = (refl, refl)

asked-succeeds : (f : Facts) (payload : List ℕ) (command : Command) → Succeeds (asked_of_stack f payload command)
asked-succeeds f payload (Send protocol com_id blocks dma) = stack-succeeds f com_id (is_stack_reset com_id payload)
asked-succeeds f payload (Receive protocol com_id blocks dma) = (refl, refl)
asked-succeeds f payload Identify = (refl, refl)
asked-succeeds f payload (ReadLog10 dma) = (refl, refl)
asked-succeeds f payload Flush = (refl, refl)
asked-succeeds f payload (SetFeatures feature) = (refl, refl)
asked-succeeds f payload (ReadLog page dma) = (refl, refl)
asked-succeeds f payload (ReadQueued lba count) = (refl, refl)
asked-succeeds f payload (WriteQueued lba count) = (refl, refl)
asked-succeeds f payload (ReadDma lba count) = (refl, refl)
asked-succeeds f payload (WriteDma lba count) = (refl, refl)
asked-succeeds f payload (ReadPio lba count) = (refl, refl)
asked-succeeds f payload (WritePio lba count) = (refl, refl)
asked-succeeds f payload (Verify lba count) = (refl, refl)
asked-succeeds f payload (Trim blocks) = (refl, refl)
asked-succeeds f payload (Control control) = (refl, refl)

took-succeeds : (com_id : ℕ) (b : Bool) → Succeeds (if b then did (Took com_id) else did Nothing)
took-succeeds com_id true = (refl, refl)
took-succeeds com_id false = (refl, refl)

received-succeeds : (com_id blocks : ℕ) (w : Option (List ℕ)) → Succeeds (received com_id blocks w)
received-succeeds com_id blocks None = (refl, refl)
received-succeeds com_id blocks (Some response) = took-succeeds com_id (nat_le (length response) (sector_size * blocks))

log-succeeds : (b : Bool) → Succeeds (did (if b then OfQueue QueueMended else Nothing))
log-succeeds true = (refl, refl)
log-succeeds false = (refl, refl)

executed-succeeds : (f : Facts) (payload : List ℕ) (command : Command) → CanExecute command → Succeeds (executed f payload command)
executed-succeeds f payload (Send protocol com_id blocks dma) can = sent-succeeds f com_id payload
executed-succeeds f payload (Receive protocol com_id blocks dma) can = received-succeeds com_id blocks (f.waiting com_id)
executed-succeeds f payload Identify can = (refl, refl)
executed-succeeds f payload (ReadLog10 dma) can = log-succeeds (is_some f.failure)
executed-succeeds f payload Flush can = (refl, refl)
executed-succeeds f payload (SetFeatures feature) can = (refl, refl)
executed-succeeds f payload (ReadLog page dma) can = (refl, refl)
executed-succeeds f payload (ReadQueued lba count) can = absurd can
executed-succeeds f payload (WriteQueued lba count) can = absurd can
executed-succeeds f payload (ReadDma lba count) can = absurd can
executed-succeeds f payload (WriteDma lba count) can = absurd can
executed-succeeds f payload (ReadPio lba count) can = absurd can
executed-succeeds f payload (WritePio lba count) can = absurd can
executed-succeeds f payload (Verify lba count) can = absurd can
executed-succeeds f payload (Trim blocks) can = (refl, refl)
executed-succeeds f payload (Control SetMultiple) can = (refl, refl)
executed-succeeds f payload (Control Idle) can = (refl, refl)
executed-succeeds f payload (Control Standby) can = (refl, refl)
executed-succeeds f payload (Control CheckPowerMode) can = (refl, refl)
executed-succeeds f payload (Control Diagnose) can = (refl, refl)

-- the fields of an answer

pub record IsTold (a : Accepted) (status error : ℕ) (held : Bool) (fises : List Fis) (bytes : List ℕ) (denied : Option Why) (rule : Option Rule) : Type 0 where
  pub status_is : a.status ≡ status
  pub error_is : a.error ≡ error
  pub held_is : a.held ≡ held
  pub fises_are : fises_in a ≡ fises
  pub bytes_are : a.bytes.items ≡ bytes
  pub denied_is : a.denied ≡ denied
  pub rule_is : a.rule ≡ rule

failed-answer : (f : Facts) (h : RegH2d) (error : ℕ) (deed : Deed) (denied : Option Why) (rule : Option Rule) (a : Accepted) → is_holding deed ≡ false
    → IsTold a errored error false (answer_fis true errored error ∷ []) [] denied rule
    → IsAnswer f h (record { failed = Some error; deed = deed; denied = denied; rule = rule }) a
failed-answer f h error deed denied rule a free t =
    record { status = t.status_is; error = t.error_is; held = t.held_is ∙ sym free; fises = t.fises_are; bytes = t.bytes_are; denied = t.denied_is; rule = t.rule_is }

pub served-answer : (f : Facts) (h : RegH2d) (ev : Event) (a : Accepted) (command : Command) → Succeeds ev → command_read f.config h ≡ Ok (command, None)
    → IsTold a ready 0 false (served_fises f.settings command) (data_of f command) ev.denied ev.rule → IsAnswer f h ev a
served-answer f h ev a command s reads t = record {
  status = t.status_is ∙ rw s.0 refl;
  error = t.error_is ∙ rw s.0 refl;
  held = t.held_is ∙ sym s.1;
  fises = t.fises_are ∙ rw (s.0, s.1, reads) refl;
  bytes = t.bytes_are ∙ rw (s.0, reads) refl;
  denied = t.denied_is;
  rule = t.rule_is;
}

-- what the drive reads is what the history reads
pub read-as : (d : DriveState) (o : Origin) (past : List Event) (h : RegH2d) (r : Result (Command × Option ℕ) CommandError)
    → KeepsDrive d o past → command_read d.tper.store.config h ≡ r → command_read o.tables.config h ≡ r
read-as d o past h r k e = ap (λ (config : Config). command_read config h) (sym k.tper.store.config) ∙ e

-- what each decision comes to

pub aborts-done : (f : Facts) (h : RegH2d) (d : DriveState) (o : Origin) (past : List Event) (payload : List ℕ) (error : ℕ) (cause : Cause) (made : Decision) (a : Accepted)
    → made ≡ Aborts error cause → IsTold a errored error false (answer_fis true errored error ∷ []) [] (reason cause) (ruling cause)
    → KeepsDrive d o past → IsDoneAndAnswered f h (decision_event f payload made) d o past a
aborts-done f h d o past payload error cause made a is t k =
    subst (λ (x : Decision). IsDoneAndAnswered f h (decision_event f payload x) d o past a) (sym is)
    (nothing-keeps d o past (decision_event f payload (Aborts error cause)) refl k, failed-answer f h error Nothing (reason cause) (ruling cause) a refl t)

pub fails-done : (f : Facts) (h : RegH2d) (d e : DriveState) (o : Origin) (past : List Event) (payload : List ℕ) (fault : Failure) (cause : Cause) (made : Decision) (a : Accepted)
    → made ≡ FailsQueue fault cause → e ≡ record d { queue = failed_queue fault }
    → IsTold a errored fault.error false (answer_fis true errored fault.error ∷ []) [] (reason cause) (ruling cause)
    → KeepsDrive d o past → IsDoneAndAnswered f h (decision_event f payload made) e o past a
fails-done f h d e o past payload fault cause made a is to t k =
    subst (λ (x : Decision). IsDoneAndAnswered f h (decision_event f payload x) e o past a) (sym is)
    (failed-keeps d e o past fault (decision_event f payload (FailsQueue fault cause)) refl to k, failed-answer f h fault.error _ (reason cause) (ruling cause) a refl t)

pub holds-done : (f : Facts) (h : RegH2d) (d e : DriveState) (o : Origin) (past : List Event) (payload : List ℕ) (tag : ℕ) (its : Held) (made : Decision) (a : Accepted)
    → tag < 32 → made ≡ Holds tag its → e ≡ record d { queue = with_slot tag (Some its) d.queue }
    → command_read f.config h ≡ Ok (queued_command its.transfer, Some tag)
    → IsTold a ready 0 true (answer_fis false ready 0 ∷ []) [] None None
    → KeepsDrive d o past → IsDoneAndAnswered f h (decision_event f payload made) e o past a
holds-done f h d e o past payload tag its made a small is to reads t k =
    subst (λ (x : Decision). IsDoneAndAnswered f h (decision_event f payload x) e o past a) (sym is) (
      holds-keeps d e o past tag its (decision_event f payload (Holds tag its)) small refl to k,
      record { status = t.status_is; error = t.error_is; held = t.held_is; fises = t.fises_are; bytes = t.bytes_are ∙ sym (ap (data_read f) reads); denied = t.denied_is; rule = t.rule_is },
    )

pub executes-done : (f : Facts) (h : RegH2d) (e : DriveState) (o : Origin) (past : List Event) (payload : List ℕ) (command : Command) (made : Decision) (a : Accepted)
    → made ≡ Executes command → (command_read f.config h ≡ Ok (command, None)) × CanExecute command
    → IsTold a ready 0 false (served_fises f.settings command) (data_of f command) (executed f payload command).denied (executed f payload command).rule
    → KeepsDrive e o (executed f payload command ∷ past) → IsDoneAndAnswered f h (decision_event f payload made) e o past a
executes-done f h e o past payload command made a is due t k =
    subst (λ (x : Decision). IsDoneAndAnswered f h (decision_event f payload x) e o past a) (sym is)
    (k, served-answer f h (executed f payload command) a command (executed-succeeds f payload command due.1) due.0 t)

pub asks-done : (f : Facts) (h : RegH2d) (e : DriveState) (o : Origin) (past : List Event) (payload : List ℕ) (command : Command) (a : Accepted)
    → command_read f.config h ≡ Ok (command, None)
    → IsTold a ready 0 false (served_fises f.settings command) (data_of f command) (asked_of_stack f payload command).denied (asked_of_stack f payload command).rule
    → KeepsDrive e o (asked_of_stack f payload command ∷ past) → IsDoneAndAnswered f h (asked_of_stack f payload command) e o past a
asks-done f h e o past payload command a reads t k = (k, served-answer f h (asked_of_stack f payload command) a command (asked-succeeds f payload command) reads t)

-- a command that resets gives no data
reset-no-data : (f : Facts) (command : Command) → is_programmatic_reset command ≡ true → [] ≡ data_of f command
reset-no-data f (Send protocol com_id blocks dma) is = refl
reset-no-data f (Receive protocol com_id blocks dma) is = absurd cc
reset-no-data f Identify is = absurd cc
reset-no-data f (ReadLog10 dma) is = absurd cc
reset-no-data f Flush is = absurd cc
reset-no-data f (SetFeatures feature) is = absurd cc
reset-no-data f (ReadLog page dma) is = absurd cc
reset-no-data f (ReadQueued lba count) is = absurd cc
reset-no-data f (WriteQueued lba count) is = absurd cc
reset-no-data f (ReadDma lba count) is = absurd cc
reset-no-data f (WriteDma lba count) is = absurd cc
reset-no-data f (ReadPio lba count) is = absurd cc
reset-no-data f (WritePio lba count) is = absurd cc
reset-no-data f (Verify lba count) is = absurd cc
reset-no-data f (Trim blocks) is = absurd cc
reset-no-data f (Control control) is = absurd cc

pub restarts-done : (f : Facts) (h : RegH2d) (e : DriveState) (o : Origin) (past : List Event) (payload : List ℕ) (command : Command) (made : Decision) (a : Accepted)
    → made ≡ Restarts command → (command_read f.config h ≡ Ok (command, None)) × (is_programmatic_reset command ≡ true)
    → IsTold a ready 0 false (served_fises f.settings command) [] None None
    → KeepsDrive e o (did (WasReset programmatic) ∷ past) → IsDoneAndAnswered f h (decision_event f payload made) e o past a
restarts-done f h e o past payload command made a is due t k =
    let told : IsTold a ready 0 false (served_fises f.settings command) (data_of f command) None None =
    record { status_is = t.status_is; error_is = t.error_is; held_is = t.held_is; fises_are = t.fises_are; bytes_are = t.bytes_are ∙ reset-no-data f command due.1; denied_is = t.denied_is; rule_is = t.rule_is } in
    subst (λ (x : Decision). IsDoneAndAnswered f h (decision_event f payload x) e o past a) (sym is)
    (k, served-answer f h (did (WasReset programmatic)) a command (refl, refl) due.0 told)

-- nor does one that blocks SID
block-no-data : (f : Facts) (profile : Profile) (command : Command) → is_block_sid profile command ≡ true → [] ≡ data_of f command
block-no-data f profile (Send protocol com_id blocks dma) is = refl
block-no-data f profile (Receive protocol com_id blocks dma) is = absurd cc
block-no-data f profile Identify is = absurd cc
block-no-data f profile (ReadLog10 dma) is = absurd cc
block-no-data f profile Flush is = absurd cc
block-no-data f profile (SetFeatures feature) is = absurd cc
block-no-data f profile (ReadLog page dma) is = absurd cc
block-no-data f profile (ReadQueued lba count) is = absurd cc
block-no-data f profile (WriteQueued lba count) is = absurd cc
block-no-data f profile (ReadDma lba count) is = absurd cc
block-no-data f profile (WriteDma lba count) is = absurd cc
block-no-data f profile (ReadPio lba count) is = absurd cc
block-no-data f profile (WritePio lba count) is = absurd cc
block-no-data f profile (Verify lba count) is = absurd cc
block-no-data f profile (Trim blocks) is = absurd cc
block-no-data f profile (Control control) is = absurd cc

pub blocks-done : (f : Facts) (h : RegH2d) (e : DriveState) (o : Origin) (past : List Event) (payload : List ℕ) (profile : Profile) (command : Command) (made : Decision) (a : Accepted)
    → made ≡ Blocks command → (command_read f.config h ≡ Ok (command, None)) × (is_block_sid profile command ≡ true)
    → IsTold a ready 0 false (served_fises f.settings command) [] None None
    → KeepsDrive e o (did (BlockedSid (block_asked payload)) ∷ past) → IsDoneAndAnswered f h (decision_event f payload made) e o past a
blocks-done f h e o past payload profile command made a is due t k =
    let told : IsTold a ready 0 false (served_fises f.settings command) (data_of f command) None None =
    record { status_is = t.status_is; error_is = t.error_is; held_is = t.held_is; fises_are = t.fises_are; bytes_are = t.bytes_are ∙ block-no-data f profile command due.1; denied_is = t.denied_is; rule_is = t.rule_is } in
    subst (λ (x : Decision). IsDoneAndAnswered f h (decision_event f payload x) e o past a) (sym is)
    (k, served-answer f h (did (BlockedSid (block_asked payload))) a command (refl, refl) due.0 told)

-- what a block of SID leaves
pub block-keeps : (d e : DriveState) (o : Origin) (past : List Event) (block : SidBlock) → KeepsTper e.tper o (did (BlockedSid block) ∷ past)
    → e.queue ≡ d.queue → e.settings ≡ d.settings → e.media ≡ d.media → KeepsDrive d o past → KeepsDrive e o (did (BlockedSid block) ∷ past)
block-keeps d e o past block tper queue chosen media k =
    tper-keeps d e o past (did (BlockedSid block)) (of_tper (λ tag. refl) refl (λ s. refl)) tper queue chosen
    (λ s. ap (λ (m : StoredSectors). sector_at m s) media) k

-- the data of an unqueued transfer
pub moved-data : (d : DriveState) (f : Facts) (way : Way) (op : Op) (lba count : ℕ) (shadowed : Bool)
    → verdict_of (ranges_of d.tper) op lba count ≡ (if shadowed then Shadow else Serve)
    → moved_bytes (kept_facts d f) way (record { transfer = transfer_by op lba count; is_shadowed = shadowed })
    ≡ data_of (kept_facts d f) (unqueued_command way (transfer_by op lba count))
moved-data d f ways.Dma Read lba count shadowed v = sym (ap (read_by (kept_facts d f) lba count) v)
moved-data d f ways.Dma Write lba count shadowed v = refl
moved-data d f ways.Pio Read lba count shadowed v = sym (ap (read_by (kept_facts d f) lba count) v)
moved-data d f ways.Pio Write lba count shadowed v = refl
moved-data d f ways.Verify op lba count shadowed v = refl

pub moves-succeeds : (op : Op) (lba count : ℕ) (payload : List ℕ) → Succeeds (did (transfer_deed (transfer_by op lba count) payload))
moves-succeeds Read lba count payload = (refl, refl)
moves-succeeds Write lba count payload = (refl, refl)

pub moves-done : (h : RegH2d) (d e : DriveState) (o : Origin) (past : List Event) (payload : List ℕ) (its : Held) (way : Way) (made : Decision) (a : Accepted)
    → made ≡ Moves its way → IsMoved d h its way → e.tper ≡ d.tper → e.queue ≡ d.queue → e.settings ≡ active d.settings
    → ((s : ℕ) → sector_at e.media s ≡ sector_then its.transfer payload (sector_at d.media s) s)
    → IsTold a ready 0 false (served_fises (facts o past).settings (unqueued_command way its.transfer)) (moved_bytes (kept_facts d (facts o past)) way its) None None
    → KeepsDrive d o past → IsDoneAndAnswered (facts o past) h (decision_event (facts o past) payload made) e o past a
moves-done h d e o past payload its way made a is due tper queue chosen media t k =
    let op : Op = its.transfer.op in
    let lba : ℕ = its.transfer.lba in
    let count : ℕ = its.transfer.count in
    let same : moved_bytes (kept_facts d (facts o past)) way its ≡ data_of (facts o past) (unqueued_command way its.transfer) =
    moved-data d (facts o past) way op lba count its.is_shadowed due.verdict ∙ ap (λ (f : Facts). data_of f (unqueued_command way its.transfer)) (seen-is d o past k) in
    let told : IsTold a ready 0 false (served_fises (facts o past).settings (unqueued_command way its.transfer)) (data_of (facts o past) (unqueued_command way its.transfer)) None None =
    record { status_is = t.status_is; error_is = t.error_is; held_is = t.held_is; fises_are = t.fises_are; bytes_are = t.bytes_are ∙ same; denied_is = t.denied_is; rule_is = t.rule_is } in
    subst (λ (x : Decision). IsDoneAndAnswered (facts o past) h (decision_event (facts o past) payload x) e o past a) (sym is) (
      moved-keeps d e o past op lba count payload (did (transfer_deed its.transfer payload)) refl tper queue chosen media k,
      served-answer (facts o past) h (did (transfer_deed its.transfer payload)) a (unqueued_command way its.transfer) (moves-succeeds op lba count payload) (read-as d o past h _ k due.reads) told,
    )

-- what was decided by what is kept is what the past says
pub event-is : (d : DriveState) (o : Origin) (past : List Event) (fis payload : List ℕ) (h : RegH2d) (made : Decision)
    → slice_index fis 0 ≡ h2d_type → h ≡ h2d_at fis
    → ((f : Facts) (p : List ℕ) → decision_event (kept_facts d f) p made ≡ commanded (kept_facts d f) h p) → KeepsDrive d o past
    → decision_event (facts o past) payload made ≡ accepted (facts o past) fis payload
event-is d o past fis payload h made kind is decided k =
    subst (λ (f : Facts). decision_event f payload made ≡ commanded f h payload) (seen-is d o past k) (decided (facts o past) payload)
    ∙ accepted-command (facts o past) fis payload h kind is

-- another FIS than a command's
pub other-done : (d : DriveState) (o : Origin) (past : List Event) (fis payload : List ℕ) (a : Accepted) → (slice_index fis 0 == h2d_type) ≡ false
    → IsTold a errored aborted false (answer_fis true errored aborted ∷ []) [] None (Some NoCommand)
    → KeepsDrive d o past → IsDoneAndAnswered (facts o past) (h2d_at fis) (accepted (facts o past) fis payload) d o past a
other-done d o past fis payload a other t k =
    subst (λ (ev : Event). IsDoneAndAnswered (facts o past) (h2d_at fis) ev d o past a) (accepted-other (facts o past) fis payload other)
    (aborts-done (facts o past) (h2d_at fis) d o past payload aborted (causes.Rule NoCommand) (Aborts aborted (causes.Rule NoCommand)) a refl t k)

-- the newest act comes first, or last
pub in-order : (d e : DriveState) (o : Origin) (acts : List Act) (act : Act) → (Agrees d o (reverse acts) → Agrees e o (act ∷ reverse acts))
    → AgreesInOrder d o acts → AgreesInOrder e o (acts ++ act ∷ [])
in-order d e o acts act h k = subst (λ (x : List Act). Agrees e o x) (sym (reverse-append acts (act ∷ []))) (h k)

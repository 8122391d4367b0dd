-- What the items of this drive do and give, by the facts: the session manager, sessions, responses
-- (Core 2.01, chapter 3; Opal SSC 2.01, section 3.1.1, Level 0 discovery).
use Rattle.basics.specs.declared.profile.Profile.TheVariants.{Base, Field, Opal}
use Rattle.basics.specs.Profiles.{has_field, has_opal}
use Rattle.basics.specs.declared.profile.Profile.{Profile}
use Rattle.tcg_tokens.specs.Lex.{begins_with_end}
use Rattle.device_data.specs.Protocols.{protocol_list, certificate_data}
use Rattle.trusted_cmds.specs.Commands.{is_protocol_list}
use Rattle.trusted_cmds.specs.BlockSid.{is_block_sid, block_asked, is_blocked}
use Rattle.device_data.specs.StackReset.{is_stack_reset, stack_answer}
use Rattle.device_data.specs.DevicePages.{device_log}
use Rattle.std.specs.Prelude.{ℕ, zero, suc, ◌*◌, ◌==◌, Bool, true, false, not, ◌&&◌, ◌||◌, nat_le, List, [], length, Option, Some, None, is_some, Result, Ok, Err, if◌then◌else◌}
use Rattle.fis.specs.declared.any.Fis.{Fis}
use Rattle.fis.specs.declared.h2d.RegH2d.{RegH2d}
use Rattle.sp_cells.specs.Config.{Config}
use Rattle.sp_cells.specs.declared.names.Uid.{Uid}
use Rattle.sp_cells.specs.declared.names.Sp.{Sp}
use Rattle.sp_cells.specs.Names.{session_manager, properties, start_session}
use Rattle.compacket.specs.declared.session.Session.{Session}
use Rattle.compacket.specs.declared.error.FrameError.{FrameError}
use Rattle.compacket.specs.declared.session.Named.{Named}
use Rattle.compacket.specs.Frames.{Frame, broken_in, reading as frame_in}
use Rattle.compacket.specs.Spelling.{frame_bytes, com_packet_header}
use Rattle.tcg_tokens.specs.declared.error.TokenError.{TokenError}
use Rattle.tcg_tokens.specs.Message.{Message, call, reply, end_session, begin, end}
use Rattle.tcg_tokens.specs.Reading.{reading as message_in}
use Rattle.tcg_tokens.specs.Spelling.{item_spelling_of}
use Rattle.tcg_tokens.specs.Tree.{Tree, Trees}
use Rattle.tcg_calls.specs.Named.{values_of}
use Rattle.trusted_cmds.specs.declared.command.Command.{Command}
use Rattle.trusted_cmds.specs.declared.command.Command.TheVariants.{Send, Receive, Identify, ReadLog}
use Rattle.trusted_cmds.specs.declared.command.CommandError.{CommandError}
use Rattle.trusted_cmds.specs.Profiles.{reading_in}
use Rattle.sessions.specs.Attempts.{credential}
use Rattle.tcg_calls.specs.Asks.{uid_of}
use Rattle.sessions.specs.Deeds.{Begun, SessionDeed, Unchanged, Started, Began, Committed, Aborted, Ended, HostTold, StackReset, StackTold, Outcome, says, refuses as refuses_item, tried}
use Rattle.tcg_calls.specs.Statuses.{transaction_failure, fail}
use Rattle.sessions.specs.declared.opening.Opening.{Opening}
use Rattle.sessions.specs.declared.opening.StartVerdict.{StartVerdict}
use Rattle.sessions.specs.declared.opening.StartVerdict.TheVariants.{Refused, Attempted}
use Rattle.sessions.specs.Gains.{first_held}
use Rattle.sessions.specs.Starts.{opening_of, verdict, host_of, reply_to, denied_with, rule_of}
use Rattle.audit.specs.declared.rules.rule.Rule.{Rule}
use Rattle.audit.specs.declared.rules.rule.Rule.TheVariants.{NoMethod, NoItem, AlreadyOpen, NoneOpen, NoSession, BrokenOff, Discarded, NoFrame, NoSubpacket, NoStackReset, SidKept, LongTransfer, Protocol, ComId, ResponseWaits}
use Rattle.sessions.specs.declared.beside.HostLimits.{HostLimits}
use Rattle.sessions.specs.Beside.{channel_of}
use Rattle.sessions.specs.Properties.{max_com_packet_size, properties_message, properties_deed}
use Rattle.methods.specs.Said.{refusal_of}
use Rattle.methods.specs.Judgement.{Judgement, asked, judged}
use Rattle.methods.specs.Calls.{outcome_of}
use Rattle.history.specs.Events.{Nothing, InSession, Left, Silent, Dropped, BlockedSid, Event, did, ignores}
use Rattle.history.specs.Facts.{Facts, live, session_named, is_on_com_id, has_open, standing}
use Rattle.device_data.specs.Discovery.{has_owner, discovery_of}
use Rattle.device_data.specs.Identity.{identity_of}
use Rattle.device_data.specs.ErrorLog.{sized}
use Rattle.shadow_mbr.specs.Stored.{sector_size}
use Rattle.history.specs.Items.{Items}
use Rattle.history.specs.Decisions.{refuses, is_session_com_id, discovery_com_id, is_trusted, asks_stack, asks_certificates, unqueued_of, known_of, commanded_of, accepted_of}
use Rattle.history.specs.Answers.{block_of, data_read_of, answer_data_of, accepted_data_of, answer_fises_of, accepted_fises_of}

-- Items.

abbrev pub answers : ℕ → Session → Outcome → Event
answers com_id session outcome = record {
  failed = None;
  deed = InSession outcome.deed
      (Left com_id (frame_bytes com_id session (item_spelling_of outcome.said)));
  denied = outcome.denied;
  rule = outcome.rule;
}

-- The session manager.

abbrev pub begun : Facts → ℕ → Opening → Sp → Begun
begun f com_id opening sp = record {
  number = f.next_number;
  host = opening.host;
  com_id = com_id;
  sp = sp;
  authorities = first_held f.rows sp opening.authority;
}

-- What comes of a StartSession, by the rows in force and the sessions that live.
abbrev pub start_verdict : Facts → Option Opening → StartVerdict
start_verdict f opening = verdict f.rows (live f) opening

abbrev pub deed_of_start : Facts → ℕ → Opening → StartVerdict → SessionDeed
deed_of_start f com_id opening (Refused status rule) = Unchanged
deed_of_start f com_id opening (Attempted sp (Some failure)) =
    tried f.rows sp opening.authority (Some failure) []
deed_of_start f com_id opening (Attempted sp None) =
    Started (begun f com_id opening sp) (credential f.rows sp opening.authority)

abbrev pub start_deed : Facts → ℕ → Option Opening → SessionDeed
start_deed f com_id None = Unchanged
start_deed f com_id (Some opening) = deed_of_start f com_id opening (start_verdict f (Some opening))

abbrev pub started_by : Facts → ℕ → ℕ → Option Opening → Outcome
started_by f com_id host opening = record {
  deed = start_deed f com_id opening;
  said = reply_to host f.next_number (start_verdict f opening);
  denied = denied_with opening (start_verdict f opening);
  rule = rule_of (start_verdict f opening);
}

abbrev pub started : Facts → ℕ → List Tree → Outcome
started f com_id args = started_by f com_id (host_of args) (opening_of f.config.profile args)

abbrev pub is_method_of_manager : Uid → Uid → Uid → Bool
is_method_of_manager wanted object method = object.0 == session_manager.0 && method.0 == wanted.0

-- Properties: what its host takes is kept of the ComID.
abbrev pub properties_with : Profile → ℕ → HostLimits → List Tree → Outcome
properties_with profile com_id before args =
    says (properties_deed profile com_id before args) (properties_message profile before args)

abbrev pub properties_told : Facts → ℕ → List Tree → Outcome
properties_told f com_id args =
    properties_with f.config.profile com_id (channel_of f.beside com_id).limits args

abbrev pub called_manager : Facts → ℕ → Uid → Uid → List Tree → Outcome
called_manager f com_id object method args =
    if is_method_of_manager properties object method
    then properties_told f com_id args
    else (if is_method_of_manager start_session object method then started f com_id args
    else refuses_item (refusal_of fail) NoMethod)

abbrev pub to_manager : Facts → ℕ → Result Message TokenError → Outcome
to_manager f com_id (Ok (call object method args status)) =
    called_manager f com_id (uid_of object) (uid_of method) (values_of args)
to_manager f com_id _ = refuses_item (refusal_of fail) NoItem

-- A session.

abbrev pub judgement_on : Facts → Begun → Uid → Uid → Trees → Judgement
judgement_on f session object method args =
    judged (standing f session) object method (asked f.config.profile session.sp object method args)

-- A transaction on an SP is opened where none is open, and closed where the session has one open.
abbrev pub begins_on : Sp → ℕ → Option ℕ → Outcome
begins_on sp number None = says (Began sp number) (begin 0)
begins_on sp number (Some owner) = refuses_item (begin transaction_failure) AlreadyOpen

abbrev pub transaction_end : Sp → ℕ → Outcome
transaction_end sp zero = says (Committed sp) (end 0)
transaction_end sp (suc n) = says (Aborted sp) (end 1)

abbrev pub ends_on : Sp → ℕ → Bool → Outcome
ends_on sp number true = transaction_end sp number
ends_on sp number false = refuses_item (end transaction_failure) NoneOpen

abbrev pub in_session : Facts → Begun → Result Message TokenError → Outcome
in_session f session (Ok (call object method args status)) =
    outcome_of f.rows session.sp (judgement_on f session (uid_of object) (uid_of method) args)
in_session f session (Ok (begin n)) = begins_on session.sp session.number (f.open_on session.sp)
in_session f session (Ok (end n)) = ends_on session.sp n (has_open f session)
in_session f session (Ok end_session) = says (Ended session.sp) end_session
in_session f session (Ok (reply results status)) = refuses_item (refusal_of fail) NoItem
in_session f session (Err e) = refuses_item (refusal_of fail) NoItem

abbrev pub is_manager : Session → Bool
is_manager session = session.tsn == 0 && session.hsn == 0

-- What a payload has for a session: under each profile but the base one it ends the session where its first token
-- says so, whatever follows.
abbrev pub ends_session : Profile → List ℕ → Bool
ends_session profile payload = has_field profile && begins_with_end payload

abbrev pub item_in : Profile → List ℕ → Result Message TokenError
item_in profile payload =
    if ends_session profile payload then Ok end_session else message_in payload

-- Under the opal profile what is no item ends the session that it is sent to, and leaves no response (Opal SSC 2.01,
-- section 3.3.4.1.3).
abbrev pub breaks_off : Profile → Result Message TokenError → Bool
breaks_off profile (Ok (call object method args status)) = false
breaks_off profile (Ok (begin n)) = false
breaks_off profile (Ok (end n)) = false
breaks_off profile (Ok end_session) = false
breaks_off profile (Ok (reply results status)) = has_opal profile
breaks_off profile (Err e) = has_opal profile

abbrev pub broken_off : Rule → Sp → Event
broken_off rule sp = record {
  failed = None;
  deed = InSession (Ended sp) Silent;
  denied = None;
  rule = Some rule;
}

abbrev pub item_event : Facts → ℕ → Session → Begun → Result Message TokenError → Event
item_event f com_id named session item =
    if breaks_off f.config.profile item then broken_off BrokenOff session.sp
    else answers com_id named (in_session f session item)

-- An item for no live session is taken, and leaves no response.
abbrev pub to_session : Facts → ℕ → Session → List ℕ → Option Begun → Event
to_session f com_id named payload None = ignores NoSession
to_session f com_id named payload (Some session) =
    item_event f com_id named session (item_in f.config.profile payload)

-- And what is sent to the session manager, and calls neither of its methods, is discarded there (the same section).
abbrev pub is_of_manager : Result Message TokenError → Bool
is_of_manager (Ok (call object method args status)) =
    is_method_of_manager properties (uid_of object) (uid_of method)
    || is_method_of_manager start_session (uid_of object) (uid_of method)
is_of_manager _ = false

abbrev pub is_discarded : Profile → Result Message TokenError → Bool
is_discarded profile item = has_opal profile && not (is_of_manager item)

abbrev pub manager_event : Facts → ℕ → Session → Result Message TokenError → Event
manager_event f com_id named item =
    if is_discarded f.config.profile item then ignores Discarded
    else answers com_id named (to_manager f com_id item)

abbrev pub framed : Facts → ℕ → Frame → Event
framed f com_id frame =
    if is_manager frame.session
    then manager_event f com_id frame.session (message_in frame.payload)
    else to_session f com_id frame.session frame.payload (session_named f com_id frame.session)

-- What carries no whole subpacket ends the session that it names, under the opal profile too (the same section). Any other frame
-- that is none, or that names another ComID, is taken likewise.
abbrev pub unframed_in : Option Begun → Event
unframed_in None = ignores NoFrame
unframed_in (Some session) = broken_off NoSubpacket session.sp

abbrev pub unframed : Facts → ℕ → Option Named → Event
unframed f com_id None = ignores NoFrame
unframed f com_id (Some named) =
    if named.com_id == com_id
    then unframed_in (session_named f com_id named.session) else ignores NoFrame

abbrev pub broken_of : Profile → List ℕ → Option Named
broken_of profile payload = if has_opal profile then broken_in payload else None

abbrev pub sent_by : Facts → ℕ → Option Named → Result Frame FrameError → Event
sent_by f com_id broken (Err e) = unframed f com_id broken
sent_by f com_id broken (Ok frame) =
    if frame.com_id == com_id then framed f com_id frame else ignores NoFrame

abbrev pub sent : Facts → ℕ → List ℕ → Event
sent f com_id payload = sent_by f com_id (broken_of f.config.profile payload) (frame_in payload)

-- The reset of a ComID's stack ends its sessions, aborts their transactions, and drops the response that waits (Core 2.01,
-- section 3.3.4.7.5). Whatever else is sent there does nothing.
abbrev pub stack_reset : Facts → ℕ → Event
stack_reset f com_id =
    did (InSession (StackReset com_id (λ sp. is_on_com_id com_id (f.session_on sp)))
    (Dropped com_id))

abbrev pub stack_kept : ℕ → Event
stack_kept com_id = record {
  failed = None;
  deed = InSession (StackTold com_id) Silent;
  denied = None;
  rule = Some NoStackReset;
}

abbrev pub stack_sent : Facts → ℕ → List ℕ → Event
stack_sent f com_id payload =
    if is_stack_reset com_id payload then stack_reset f com_id else stack_kept com_id

-- SID is blocked where its PIN is the MSID still, and it is not blocked yet (Block SID Authentication
-- feature set 1.00). No session ends.
abbrev pub blocks_sid : Facts → List ℕ → Event
blocks_sid f payload =
    if has_owner f.rows || is_blocked f.beside.block
    then refuses SidKept else did (BlockedSid (block_asked payload))

-- Under the opal profile a send has no more bytes than the largest ComPacket (Core 2.01, section 3.3.10, MaxComPacketSize;
-- SIIS, invalid transfer length).
abbrev pub takes_blocks : Profile → ℕ → Bool
takes_blocks Base blocks = true
takes_blocks Field blocks = true
takes_blocks Opal blocks = nat_le (sector_size * blocks) max_com_packet_size

-- Why a send is refused: its protocol and its blocks, its ComID, that a response waits there, or its length.
abbrev pub unsent : Bool → ℕ → ℕ → ℕ → Rule
unsent waits protocol com_id blocks =
    if not (is_trusted protocol blocks) then Protocol
    else (if not (is_session_com_id com_id) then ComId
    else (if waits then ResponseWaits else LongTransfer))

-- A send while a response waits is aborted, and one that is too long.
abbrev pub is_free_for : Facts → ℕ → ℕ → Bool
is_free_for f com_id blocks =
    takes_blocks f.config.profile blocks && not (is_some (f.waiting com_id))

abbrev pub is_sent : Facts → ℕ → ℕ → ℕ → Bool
is_sent f protocol com_id blocks =
    is_trusted protocol blocks && is_session_com_id com_id && is_free_for f com_id blocks

abbrev pub send_item : Facts → ℕ → ℕ → ℕ → List ℕ → Event
send_item f protocol com_id blocks payload =
    if is_sent f protocol com_id blocks
    then sent f com_id payload
    else refuses (unsent (is_some (f.waiting com_id)) protocol com_id blocks)

abbrev pub send_other : Facts → ℕ → ℕ → ℕ → List ℕ → Event
send_other f protocol com_id blocks payload =
    if asks_stack f.config.profile protocol com_id blocks
    then stack_sent f com_id payload else send_item f protocol com_id blocks payload

abbrev pub send : Facts → ℕ → ℕ → ℕ → List ℕ → Event
send f protocol com_id blocks payload =
    if is_block_sid f.config.profile (Send protocol com_id blocks true)
    then blocks_sid f payload else send_other f protocol com_id blocks payload

-- A receive: the response where it fits, else a header that tells its size, or a header alone where
-- none waits.
abbrev pub received_bytes : ℕ → ℕ → Option (List ℕ) → List ℕ
received_bytes com_id room None = com_packet_header com_id 0 0 0
received_bytes com_id room (Some response) =
    if nat_le (length response) room
    then response else com_packet_header com_id (length response) (length response) 0

abbrev pub receive_data : Facts → ℕ → ℕ → List ℕ
receive_data f com_id room =
    if com_id == discovery_com_id
    then sized room (discovery_of f.config.profile f.rows f.beside.block)
    else sized room (received_bytes com_id room (f.waiting com_id))

-- The certificates, of the opal profile, and else what waits on a ComID.
abbrev pub certificates_or : Bool → Facts → ℕ → ℕ → List ℕ
certificates_or true f com_id room = sized room certificate_data
certificates_or false f com_id room = receive_data f com_id room

-- Or what is told of the stack of a ComID.
abbrev pub stack_or : Bool → Facts → Command → ℕ → ℕ → List ℕ
stack_or true f command com_id room =
    sized room (stack_answer com_id (channel_of f.beside com_id).was_reset)
stack_or false f command com_id room =
    certificates_or (asks_certificates f.config.profile command) f com_id room

-- The data of a receive, of IDENTIFY DEVICE, and of the pages that tell of the device.
abbrev pub item_data : Facts → Command → List ℕ
item_data f (Receive protocol com_id blocks dma) =
    if is_protocol_list (Receive protocol com_id blocks dma)
    then sized (sector_size * blocks) protocol_list
    else stack_or (asks_stack f.config.profile protocol com_id blocks) f
    (Receive protocol com_id blocks dma) com_id (sector_size * blocks)
item_data f Identify = identity_of f.config f.settings
item_data f (ReadLog pages dma) = device_log f.config f.settings pages
item_data f _ = []

-- The command of a FIS (ACS-3).
abbrev pub command_read : Config → RegH2d → Result (Command × Option ℕ) CommandError
command_read config h = reading_in config.profile h

-- What an item of this drive reads, does and gives.
abbrev pub tcg : Items
tcg = record { reads = command_read; sends = send; gives = item_data }

-- And so what its acts do and give.

abbrev pub unqueued : Facts → List ℕ → Command → Event
unqueued = unqueued_of tcg

abbrev pub known : Facts → RegH2d → List ℕ → Result (Command × Option ℕ) CommandError → Event
known = known_of tcg

abbrev pub commanded : Facts → RegH2d → List ℕ → Event
commanded = commanded_of tcg

abbrev pub accepted : Facts → List ℕ → List ℕ → Event
accepted = accepted_of tcg

abbrev pub data_of : Facts → Command → List ℕ
data_of = block_of tcg

abbrev pub data_read : Facts → Result (Command × Option ℕ) CommandError → List ℕ
data_read = data_read_of tcg

abbrev pub answer_data : Facts → RegH2d → Event → List ℕ
answer_data = answer_data_of tcg

abbrev pub accepted_data : Facts → List ℕ → Event → List ℕ
accepted_data = accepted_data_of tcg

abbrev pub answer_fises : Facts → RegH2d → Event → List Fis
answer_fises = answer_fises_of tcg

abbrev pub accepted_fises : Facts → List ℕ → Event → List Fis
accepted_fises = accepted_fises_of tcg

-- The sessions that the clients of a script know, and the `call` lines that lines by name stand for. A session is known by the
-- SyncSession that its client received (TCG Core 2.01, section 5.2.3.2): the host's number of the session, and the TPer's.
use Rattle.std.specs.Prelude.{ℕ, Bool, false, ◌==◌, ◌&&◌, ◌-◌, ◌^◌, nat_le, nat_eq, List, [], ◌∷◌, ◌++◌, codes, decimal, Option, None, Some, option_and_then, Result, Ok, Err, if◌then◌else◌}
use Rattle.std.specs.Map.{lookup}
use Rattle.std.specs.Str.{bytes_eq}
use Rattle.hex.specs.Hex.{decode_of, encode_lower}
use Rattle.indexmap.specs.IndexMap.{insert_entry}
use Rattle.compacket.specs.Frames.{Frame, reading as frame_in}
use Rattle.compacket.specs.declared.error.FrameError.{FrameError}
use Rattle.compacket.specs.declared.session.Session.{Session}
use Rattle.tcg_tokens.specs.Message.{Message, call, reply, end_session, begin, end}
use Rattle.tcg_tokens.specs.Reading.{reading as item_in}
use Rattle.tcg_tokens.specs.Tree.{Tree, Trees, empty, more}
use Rattle.tcg_tokens.specs.declared.error.TokenError.{TokenError}
use Rattle.tcg_calls.specs.Asks.{uid_of}
use Rattle.tcg_calls.specs.CellValues.{number_in}
use Rattle.sp_cells.specs.declared.names.Uid.{Uid}
use Rattle.sp_cells.specs.Names.{session_manager, sync_session}
use Rattle.script_lines.specs.Words.{first_word, nth_word}
use Rattle.script_lines.specs.CallVerbs.{call_verb_of}
use Rattle.script_lines.specs.Phrases.{hex_or_none}
use Rattle.script_lines.specs.Said.{line_of_verb}
use Rattle.script_lines.specs.Lines.{line_said}
use Rattle.script_lines.specs.declared.fault.LineFault.{LineFault}
use Rattle.script_lines.specs.declared.line.Line.{Line}
use Rattle.script_lines.specs.declared.line.Line.TheVariants.{Receive}
use Rattle.script_lines.specs.declared.named_lines.fault.CallFault.{CallFault}
use Rattle.script_lines.specs.declared.named_lines.fault.CallFault.TheVariants.{NoCall, NoSession}
use Rattle.script_lines.specs.declared.named_lines.known.KnownSession.{KnownSession}
use Rattle.script_lines.specs.declared.named_lines.line.NamedLine.{NamedLine}
use Rattle.script_lines.specs.declared.named_lines.verb.CallVerb.{CallVerb}

-- clients, each with the session that it knows
abbrev pub Known : Type 0
Known = List (ℕ × KnownSession)

-- the `call` line of these tokens in a session
abbrev pub call_line_text : ℕ → KnownSession → List ℕ → List ℕ
call_line_text client known tokens =
    codes "call " ++ decimal client ++ codes " " ++ decimal known.com_id ++ codes " "
    ++ decimal known.session.tsn ++ codes " " ++ decimal known.session.hsn ++ codes " "
    ++ encode_lower tokens

-- the session manager, by a ComID
abbrev pub manager_at : ℕ → KnownSession
manager_at com_id = record { com_id = com_id; session = record { tsn = 0; hsn = 0 } }

-- in the session that the client knows, if it knows one
abbrev pub called_in : NamedLine → Option KnownSession → Result (List ℕ) CallFault
called_in line None = Err (NoSession line.client)
called_in line (Some known) = Ok (call_line_text line.client known line.tokens)

-- a line that begins a session names its ComID, and calls the session manager
abbrev pub called_by : Known → NamedLine → Option ℕ → Result (List ℕ) CallFault
called_by known line (Some com_id) = Ok (call_line_text line.client (manager_at com_id) line.tokens)
called_by known line None = called_in line (lookup (nat_eq line.client) known)

-- the `call` line that a line of this verb stands for
abbrev pub call_of_line : Known → CallVerb → Option NamedLine → Result (List ℕ) CallFault
call_of_line known verb None = Err (NoCall verb)
call_of_line known verb (Some line) = called_by known line line.com_id

abbrev pub call_of : Known → CallVerb → List ℕ → Result (List ℕ) CallFault
call_of known verb text = call_of_line known verb (line_of_verb verb text)

-- any line as one without names: one that begins with no verb of these stands as it is
abbrev pub plain_by : Known → Option CallVerb → List ℕ → Result (List ℕ) CallFault
plain_by known None text = Ok text
plain_by known (Some verb) text = call_of known verb text

abbrev pub plain_line : Known → List ℕ → Result (List ℕ) CallFault
plain_line known text = plain_by known (call_verb_of (first_word text)) text

-- two numbers of 32 bits
abbrev pub session_of_numbers : Option ℕ → Option ℕ → Option Session
session_of_numbers (Some hsn) (Some tsn) =
    if nat_le hsn (2 ^ 32 - 1) && nat_le tsn (2 ^ 32 - 1)
    then Some (record { tsn = tsn; hsn = hsn }) else None
session_of_numbers _ _ = None

-- the arguments of a SyncSession: first the host's number, and then the TPer's
abbrev pub session_behind : Tree → Trees → Option Session
session_behind hsn empty = None
session_behind hsn (more tsn others) = session_of_numbers (number_in hsn) (number_in tsn)

abbrev pub session_among : Trees → Option Session
session_among empty = None
session_among (more hsn others) = session_behind hsn others

-- a SyncSession of the session manager
abbrev pub is_sync_session : Uid → Uid → Bool
is_sync_session object method =
    (object.0 == session_manager.0) && (method.0 == sync_session.0)

-- the first number of a status list tells the status: 0 is success
abbrev pub is_success : List ℕ → Bool
is_success [] = false
is_success (status ∷ others) = status == 0

abbrev pub session_of_call : List ℕ → List ℕ → Trees → List ℕ → Option Session
session_of_call object method args status =
    if is_sync_session (uid_of object) (uid_of method)
    then (if is_success status then session_among args else None) else None

abbrev pub session_begun : Message → Option Session
session_begun (call object method args status) = session_of_call object method args status
session_begun (reply results status) = None
session_begun end_session = None
session_begun (begin status) = None
session_begun (end status) = None

-- the session that was begun, by what a ComPacket carries
abbrev pub session_by_item : Result Message TokenError → Option Session
session_by_item (Ok item) = session_begun item
session_by_item (Err fault) = None

abbrev pub session_by_frame : Result Frame FrameError → Option Session
session_by_frame (Ok frame) = session_by_item (item_in frame.payload)
session_by_frame (Err fault) = None

abbrev pub session_in : List ℕ → Option Session
session_in received = session_by_frame (frame_in received)

-- the bytes that a printed line shows, where it shows what was received
abbrev pub received_in : List ℕ → Option (List ℕ)
received_in printed =
    if bytes_eq (first_word printed) (codes "data")
    then hex_or_none (decode_of (nth_word 1 printed)) else None

abbrev pub session_told : List ℕ → Option Session
session_told printed = option_and_then session_in (received_in printed)

-- a client knows the session that was begun last of those that it received a SyncSession of
abbrev pub knows_too : Known → ℕ → ℕ → Option Session → Known
knows_too known client com_id None = known
knows_too known client com_id (Some session) =
    insert_entry nat_eq known client (record { com_id = com_id; session = session })

-- the client that receives by a line, and its ComID
abbrev pub receiver_of : Line → Option (ℕ × ℕ)
receiver_of (Receive client com_id blocks) = Some (client, com_id)
receiver_of _ = None

abbrev pub told_to : Known → Option (ℕ × ℕ) → Option Session → Known
told_to known None session = known
told_to known (Some receiver) session = knows_too known receiver.0 receiver.1 session

-- what is known behind a line that printed this: no line but `recv` tells of a session
abbrev pub learned_from : Known → Result Line LineFault → List ℕ → Known
learned_from known (Ok line) printed = told_to known (receiver_of line) (session_told printed)
learned_from known (Err fault) printed = known

abbrev pub learned : Known → List ℕ → List ℕ → Known
learned known text printed = learned_from known (line_said text) printed

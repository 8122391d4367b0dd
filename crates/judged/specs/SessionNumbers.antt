-- The numbers that a drive gives its sessions (TCG Core 2.01, sections 3.3.7.1.3 and 5.2.3): a SyncSession hands one out, and
-- packets name their session by it.
use Rattle.std.specs.Prelude.{ℕ, ◌+◌, ◌-◌, ◌*◌, ◌==◌, nat_le, nat_lt, Bool, false, ◌&&◌, List, [], ◌∷◌, ◌++◌, length, take, drop, codes, Option, None, Some, is_some, option_and_then, Result, Ok, Err, if◌then◌else◌}
use Rattle.std.specs.Int.{w64, to_be_bytes}
use Rattle.std.specs.Str.{bytes_eq}
use Rattle.hex.specs.Hex.{encode_lower, decode_of}
use Rattle.hex.specs.declared.error.FromHexError.{FromHexError}
use Rattle.sp_cells.specs.Names.{session_manager, sync_session}
use Rattle.compacket.specs.Frames.{Frame, reading}
use Rattle.compacket.specs.Spelling.{frame_bytes}
use Rattle.compacket.specs.declared.error.FrameError.{FrameError}
use Rattle.compacket.specs.declared.writer.TheConstants.{MAX_PAYLOAD}
use Rattle.judged.specs.declared.received.Received.{Received}

-- how many bytes stand in front of the digits in `data HEX`
abbrev pub data_place : ℕ
data_place = 5

-- the line that tells that this was received: a ComPacket whose fields without a name are 0
abbrev pub received_line : Received → List ℕ
received_line received = codes "data "
    ++ encode_lower (frame_bytes received.com_id received.session received.payload)

-- a ComPacket has room for so much, and carries something
abbrev pub may_be_carried : List ℕ → Bool
may_be_carried payload = nat_lt 0 (length payload) && nat_le (length payload) MAX_PAYLOAD

abbrev pub received_if : List ℕ → Received → Option Received
received_if line received =
    if may_be_carried received.payload && bytes_eq line (received_line received)
    then Some received else None

abbrev pub received_by_frame : List ℕ → Result Frame FrameError → Option Received
received_by_frame line (Ok frame) = received_if line (record {
  com_id = frame.com_id;
  session = frame.session;
  payload = frame.payload;
})
received_by_frame line (Err fault) = None

abbrev pub received_by_bytes : List ℕ → Result (List ℕ) FromHexError → Option Received
received_by_bytes line (Ok bytes) = received_by_frame line (reading bytes)
received_by_bytes line (Err fault) = None

-- what a line tells that was received, where it tells of a ComPacket
abbrev pub packet_told : List ℕ → Option Received
packet_told line = received_by_bytes line (decode_of (drop data_place line))

-- The payload of a SyncSession of success that has no optional parameter: what stands in front of the host's number, and what
-- stands behind the TPer's (sections 3.2.2 and 5.2.3.2).
abbrev pub sync_front : List ℕ
sync_front = 0xf8 ∷ 0xa8 ∷ (to_be_bytes w64 session_manager.0
    ++ (0xa8 ∷ (to_be_bytes w64 sync_session.0 ++ 0xf0 ∷ [])))

abbrev pub sync_behind : List ℕ
sync_behind = 0xf1 ∷ 0xf9 ∷ 0xf0 ∷ 0 ∷ 0 ∷ 0 ∷ 0xf1 ∷ []

abbrev pub front_length : ℕ
front_length = 20

abbrev pub behind_length : ℕ
behind_length = 7

-- A number of 32 bits in one token: a tiny atom, which is the number, or a short one, whose first byte says how many follow.
abbrev pub token_number : List ℕ → Option ℕ
token_number (a ∷ []) = if nat_lt a 64 then Some a else None
token_number (a ∷ b ∷ []) = if a == 0x81 then Some b else None
token_number (a ∷ b ∷ c ∷ []) = if a == 0x82 then Some (b * 256 + c) else None
token_number (a ∷ b ∷ c ∷ d ∷ []) =
    if a == 0x83 then Some (b * 65536 + c * 256 + d) else None
token_number (a ∷ b ∷ c ∷ d ∷ e ∷ []) =
    if a == 0x84 then Some (b * 16777216 + (c * 65536 + d * 256 + e)) else None
token_number tokens = None

-- how many bytes the token has that tokens begin with, a tiny or a short atom
abbrev pub token_size : List ℕ → ℕ
token_size [] = 1
token_size (first ∷ tokens) = if nat_lt first 0x80 then 1 else first - 0x7f

-- a SyncSession through the host's number, and the token of the TPer's
abbrev pub hosts_size : List ℕ → ℕ
hosts_size payload = front_length + token_size (drop front_length payload)

abbrev pub hosts_part : List ℕ → List ℕ
hosts_part payload = take (hosts_size payload) payload

abbrev pub number_part : List ℕ → List ℕ
number_part payload = drop (hosts_size payload) (take (length payload - behind_length) payload)

abbrev pub is_sync : List ℕ → Bool
is_sync payload = nat_lt (front_length + behind_length) (length payload)
    && bytes_eq (take front_length payload) sync_front
    && bytes_eq (drop (length payload - behind_length) payload) sync_behind

-- the number that a SyncSession hands out: none has 0, which names the session manager
abbrev pub not_zero : Option ℕ → Option ℕ
not_zero None = None
not_zero (Some number) = if number == 0 then None else Some number

abbrev pub number_handed : List ℕ → Option ℕ
number_handed payload =
    if is_sync payload then not_zero (token_number (number_part payload)) else None

abbrev pub number_received : Received → Option ℕ
number_received received = number_handed received.payload

-- the number that a line tells, of a session that begins
abbrev pub number_told : List ℕ → Option ℕ
number_told line = option_and_then number_received (packet_told line)

-- Two that were received are SyncSessions that differ in the TPer's number alone: in its token, and in the lengths that count it.
abbrev pub differs_in_number : Received → Received → Bool
differs_in_number heard wanted = heard.com_id == wanted.com_id
    && heard.session.tsn == wanted.session.tsn && heard.session.hsn == wanted.session.hsn
    && is_some (number_received heard) && is_some (number_received wanted)
    && bytes_eq (hosts_part heard.payload) (hosts_part wanted.payload)

abbrev pub differ_in_numbers : Option Received → Option Received → Bool
differ_in_numbers (Some heard) (Some wanted) = differs_in_number heard wanted
differ_in_numbers (Some heard) None = false
differ_in_numbers None wanted = false

abbrev pub differs_by_number : List ℕ → List ℕ → Bool
differs_by_number heard wanted = differ_in_numbers (packet_told heard) (packet_told wanted)

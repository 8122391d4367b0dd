-- Frames as they are read: TCG Core 2.01, 3.2.3, "ComPackets, Packets and Subpackets".
use Rattle.std.specs.Prelude.{◌≡◌, ℕ, ◌+◌, ◌-◌, ◌*◌, ◌/◌, ◌<◌, ◌≤◌, ◌==◌, nat_lt, Bool, not, ◌&&◌, is_some, List, length, take, drop, Option, Some, None, Result, Ok, Err, if◌then◌else◌}
use Rattle.byteorder.specs.Endian.{big_number}
use Rattle.compacket.specs.declared.session.Session.{Session}
use Rattle.compacket.specs.declared.session.Named.{Named}
use Rattle.compacket.specs.declared.error.FrameError.{FrameError}
use Rattle.compacket.specs.declared.error.FrameError.TheVariants as errors
use Rattle.compacket.specs.declared.headers.TheConstants.{MAX_COM_PACKET}

-- What a frame carries.
pub record Frame : Type 0 where
  pub com_id : ℕ
  pub session : Session
  pub payload : List ℕ

-- The number in so many bytes from a place on, the highest byte first.
abbrev pub big_endian_at : ℕ → List ℕ → ℕ → ℕ
big_endian_at size bytes place = big_number size (drop place bytes)

-- how many bytes the header of a ComPacket has, that of a packet, that of a subpacket, and all three
abbrev pub com_packet_header_size : ℕ
com_packet_header_size = 20

abbrev pub packet_header_size : ℕ
packet_header_size = 24

abbrev pub subpacket_header_size : ℕ
subpacket_header_size = 12

abbrev pub headers_size : ℕ
headers_size = com_packet_header_size + packet_header_size + subpacket_header_size

-- the Kind of a data subpacket
abbrev pub data_kind : ℕ
data_kind = 0

-- A subpacket's data are padded to a multiple of this; its Length leaves the padding out.
abbrev pub padding_unit : ℕ
padding_unit = 4

abbrev pub padded : ℕ → ℕ
padded n = (n + (padding_unit - 1)) / padding_unit * padding_unit

-- The fields of a ComPacket header: reserved 4, ComID 2, ComID extension 2, OutstandingData 4,
-- MinTransfer 4, Length 4. Of a packet header: TSN 4, HSN 4, SeqNumber 4, reserved 2, AckType 2,
-- Acknowledgement 4, Length 4. Of a subpacket header: reserved 6, Kind 2, Length 4.
abbrev pub com_id_of : List ℕ → ℕ
com_id_of com_packet = big_endian_at 2 com_packet 4

abbrev pub com_packet_length : List ℕ → ℕ
com_packet_length com_packet = big_endian_at 4 com_packet 16

abbrev pub session_of : List ℕ → Session
session_of packet = record { tsn = big_endian_at 4 packet 0; hsn = big_endian_at 4 packet 4 }

abbrev pub packet_length : List ℕ → ℕ
packet_length packet = big_endian_at 4 packet 20

abbrev pub subpacket_kind : List ℕ → ℕ
subpacket_kind subpacket = big_endian_at 2 subpacket 6

abbrev pub subpacket_length : List ℕ → ℕ
subpacket_length subpacket = big_endian_at 4 subpacket 8

-- How many bytes each has by the Length in its header, which counts what it carries.
abbrev pub com_packet_size : List ℕ → ℕ
com_packet_size bytes = com_packet_header_size + com_packet_length bytes

abbrev pub packet_size : List ℕ → ℕ
packet_size bytes = packet_header_size + packet_length bytes

abbrev pub subpacket_size : List ℕ → ℕ
subpacket_size bytes = subpacket_header_size + padded (subpacket_length bytes)

-- What each carries.
abbrev pub com_packet_content : List ℕ → List ℕ
com_packet_content bytes = take (com_packet_length bytes) (drop com_packet_header_size bytes)

abbrev pub packet_content : List ℕ → List ℕ
packet_content bytes = drop packet_header_size bytes

abbrev pub subpacket_content : List ℕ → List ℕ
subpacket_content bytes = take (subpacket_length bytes) (drop subpacket_header_size bytes)

-- The bytes begin with a ComPacket for this ComID, with this content. What stands behind it, and
-- the fields that are not named, may have any value.
pub record IsComPacket (bytes : List ℕ) (com_id : ℕ) (content : List ℕ) : Type 0 where
  pub is_whole : com_packet_size bytes ≤ length bytes
  pub is_small : com_packet_size bytes ≤ MAX_COM_PACKET
  pub names : com_id_of bytes ≡ com_id
  pub carries : com_packet_content bytes ≡ content

-- The bytes are one packet of this session, with this content.
pub record IsPacket (bytes : List ℕ) (session : Session) (content : List ℕ) : Type 0 where
  pub is_whole : packet_size bytes ≡ length bytes
  pub names : session_of bytes ≡ session
  pub carries : packet_content bytes ≡ content

-- The bytes are one data subpacket with this payload, of one byte at least.
pub record IsDataSubpacket (bytes payload : List ℕ) : Type 0 where
  pub is_whole : subpacket_size bytes ≡ length bytes
  pub is_data : subpacket_kind bytes ≡ data_kind
  pub is_some : 0 < subpacket_length bytes
  pub carries : subpacket_content bytes ≡ payload

-- The bytes begin with a frame: a ComPacket that carries one packet that carries one data
-- subpacket that carries the payload.
pub record IsFrame (bytes : List ℕ) (frame : Frame) : Type 0 where
  pub packet : List ℕ
  pub subpacket : List ℕ
  pub is_com_packet : IsComPacket bytes frame.com_id packet
  pub is_packet : IsPacket packet frame.session subpacket
  pub is_subpacket : IsDataSubpacket subpacket frame.payload

-- The order of the checks. Each sum is one of natural numbers, so none wraps.
abbrev pub com_packet_fault : List ℕ → Option FrameError
com_packet_fault bytes =
    if nat_lt (length bytes) com_packet_header_size then Some errors.Short
    else (if nat_lt (length bytes) (com_packet_size bytes) then Some errors.Short
    else (if com_packet_length bytes == 0 then Some errors.Empty
    else (if nat_lt (com_packet_length bytes) packet_header_size then Some errors.Length
    else (if nat_lt MAX_COM_PACKET (com_packet_size bytes) then Some errors.Length
    else None))))

abbrev pub packet_fault : List ℕ → Option FrameError
packet_fault bytes =
    if nat_lt (length bytes) (packet_size bytes) then Some errors.Length
    else (if nat_lt (packet_size bytes) (length bytes) then Some errors.Many
    else (if packet_length bytes == 0 then Some errors.Empty
    else (if nat_lt (packet_length bytes) subpacket_header_size then Some errors.Length
    else None)))

abbrev pub subpacket_fault : List ℕ → Option FrameError
subpacket_fault bytes =
    if not (subpacket_kind bytes == data_kind) then Some errors.Kind
    else (if subpacket_length bytes == 0 then Some errors.Empty
    else (if nat_lt (length bytes) (subpacket_size bytes) then Some errors.Length
    else (if nat_lt (subpacket_size bytes) (length bytes) then Some errors.Many
    else None)))

-- The first fault, if there is one.
abbrev pub first_fault : Option FrameError → Option FrameError → Option FrameError
first_fault (Some fault) later = Some fault
first_fault None later = later

abbrev pub fault_of : List ℕ → Option FrameError
fault_of bytes =
    first_fault (com_packet_fault bytes)
    (first_fault (packet_fault (com_packet_content bytes))
    (subpacket_fault (packet_content (com_packet_content bytes))))

-- What bytes without a fault carry.
abbrev pub frame_in : List ℕ → Frame
frame_in bytes = record {
  com_id = com_id_of bytes;
  session = session_of (com_packet_content bytes);
  payload = subpacket_content (packet_content (com_packet_content bytes));
}

-- What a ComPacket names whose headers fit one another down to its packet, while what the packet carries is no whole
-- subpacket: it has no room for the header of one, or its data end behind the packet (Opal SSC 2.01, section 3.3.4.1.3).
abbrev pub exceeds_packet : List ℕ → Bool
exceeds_packet subpacket =
    if nat_lt (length subpacket) subpacket_header_size
    then nat_lt 0 (length subpacket)
    else subpacket_kind subpacket == data_kind
    && nat_lt (length subpacket) (subpacket_size subpacket)

abbrev pub lacks_subpacket : List ℕ → Bool
lacks_subpacket packet =
    packet_size packet == length packet && exceeds_packet (packet_content packet)

abbrev pub is_broken : List ℕ → Bool
is_broken bytes =
    not (is_some (com_packet_fault bytes)) && lacks_subpacket (com_packet_content bytes)

abbrev pub broken_in : List ℕ → Option Named
broken_in bytes =
    if is_broken bytes
    then Some (record {
      com_id = com_id_of bytes;
      session = session_of (com_packet_content bytes);
    })
    else None

-- What a reader answers: the frame that the bytes begin with, or the first fault.
abbrev pub read_unless : Option FrameError → Frame → Result Frame FrameError
read_unless None frame = Ok frame
read_unless (Some fault) frame = Err fault

abbrev pub reading : List ℕ → Result Frame FrameError
reading bytes = read_unless (fault_of bytes) (frame_in bytes)

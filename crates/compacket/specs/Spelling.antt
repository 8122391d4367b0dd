-- Frames as they are written: TCG Core 2.01, 3.2.3. Each field that is not named is 0.
use Rattle.std.specs.Prelude.{ℕ, ◌+◌, ◌-◌, List, ◌++◌, length, replicate}
use Rattle.byteorder.specs.Endian.{big_bytes}
use Rattle.compacket.specs.declared.session.Session.{Session}
use Rattle.compacket.specs.Frames.{packet_header_size, subpacket_header_size, headers_size, data_kind, padded}

-- Reserved, ComID, ComID extension, OutstandingData, MinTransfer, Length.
abbrev pub com_packet_header : ℕ → ℕ → ℕ → ℕ → List ℕ
com_packet_header com_id outstanding_data min_transfer len =
    big_bytes 4 0 ++ big_bytes 2 com_id ++ big_bytes 2 0
    ++ big_bytes 4 outstanding_data ++ big_bytes 4 min_transfer ++ big_bytes 4 len

-- TSN, HSN, SeqNumber, reserved, AckType, Acknowledgement, Length.
abbrev pub packet_header : Session → ℕ → List ℕ
packet_header session len =
    big_bytes 4 session.tsn ++ big_bytes 4 session.hsn ++ big_bytes 4 0 ++ big_bytes 2 0
    ++ big_bytes 2 0 ++ big_bytes 4 0 ++ big_bytes 4 len

-- Reserved, Kind, Length.
abbrev pub subpacket_header : ℕ → List ℕ
subpacket_header len = big_bytes 6 0 ++ big_bytes 2 data_kind ++ big_bytes 4 len

-- Zeros up to a multiple of the unit.
abbrev pub padding : ℕ → List ℕ
padding n = replicate (padded n - n) 0

-- How many bytes the frame of a payload of n bytes has.
abbrev pub frame_length : ℕ → ℕ
frame_length n = headers_size + padded n

-- What stands before a payload of n bytes.
abbrev pub headers_bytes : ℕ → Session → ℕ → List ℕ
headers_bytes com_id session n =
    com_packet_header com_id 0 0 (packet_header_size + subpacket_header_size + padded n)
    ++ packet_header session (subpacket_header_size + padded n) ++ subpacket_header n

-- The frame of a payload.
abbrev pub frame_bytes : ℕ → Session → List ℕ → List ℕ
frame_bytes com_id session payload =
    headers_bytes com_id session (length payload) ++ payload ++ padding (length payload)

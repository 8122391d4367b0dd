-- The order in which the faults of a frame are told, as one list of checks: each says when it applies to bytes, and what it tells.
-- From the outside in, the ComPacket, its packet, the subpacket; of each that it ends too early or too late, and what it carries
-- (Core 2.01, section 3.2.3; the order is this drive's own).
use Rattle.std.specs.Prelude.{◌≡◌, ℕ, ◌==◌, nat_lt, Bool, not, List, [], ◌∷◌, length, Option, Some, None, if◌then◌else◌}
use Rattle.compacket.specs.declared.error.FrameError.{FrameError}
use Rattle.compacket.specs.declared.error.FrameError.TheVariants as errors
use Rattle.compacket.specs.declared.headers.TheConstants.{MAX_COM_PACKET}
use Rattle.compacket.specs.Frames.{packet_header_size, subpacket_header_size, data_kind, com_packet_length, packet_length, subpacket_kind, subpacket_length, com_packet_size, packet_size, subpacket_size, com_packet_content, packet_content, fault_of}

pub record Check : Type 0 where
  pub applies : List ℕ → Bool
  pub tells : FrameError

-- The bytes end within the ComPacket; it carries nothing, no whole header of a packet, more than it may.
abbrev pub ends_early : List ℕ → Bool
ends_early bytes = nat_lt (length bytes) (com_packet_size bytes)

abbrev pub carries_nothing : List ℕ → Bool
carries_nothing bytes = com_packet_length bytes == 0

abbrev pub has_no_packet_header : List ℕ → Bool
has_no_packet_header bytes = nat_lt (com_packet_length bytes) packet_header_size

abbrev pub exceeds_most : List ℕ → Bool
exceeds_most bytes = nat_lt MAX_COM_PACKET (com_packet_size bytes)

-- The packet, which is what the ComPacket carries: it ends behind that, or before; it carries nothing, or no whole header of a
-- subpacket.
abbrev pub packet_in : List ℕ → List ℕ
packet_in bytes = com_packet_content bytes

abbrev pub packet_ends_behind : List ℕ → Bool
packet_ends_behind bytes = nat_lt (length (packet_in bytes)) (packet_size (packet_in bytes))

abbrev pub packet_ends_before : List ℕ → Bool
packet_ends_before bytes = nat_lt (packet_size (packet_in bytes)) (length (packet_in bytes))

abbrev pub packet_carries_nothing : List ℕ → Bool
packet_carries_nothing bytes = packet_length (packet_in bytes) == 0

abbrev pub has_no_subpacket_header : List ℕ → Bool
has_no_subpacket_header bytes = nat_lt (packet_length (packet_in bytes)) subpacket_header_size

-- The subpacket, which is what the packet carries: it is of another kind, it has no data, it ends behind the packet, or before.
abbrev pub subpacket_in : List ℕ → List ℕ
subpacket_in bytes = packet_content (packet_in bytes)

abbrev pub is_of_another_kind : List ℕ → Bool
is_of_another_kind bytes = not (subpacket_kind (subpacket_in bytes) == data_kind)

abbrev pub has_no_data : List ℕ → Bool
has_no_data bytes = subpacket_length (subpacket_in bytes) == 0

abbrev pub subpacket_ends_behind : List ℕ → Bool
subpacket_ends_behind bytes =
    nat_lt (length (subpacket_in bytes)) (subpacket_size (subpacket_in bytes))

abbrev pub subpacket_ends_before : List ℕ → Bool
subpacket_ends_before bytes =
    nat_lt (subpacket_size (subpacket_in bytes)) (length (subpacket_in bytes))

-- The order.
abbrev pub checks : List Check
checks = record { applies = ends_early; tells = errors.Short }
    ∷ record { applies = carries_nothing; tells = errors.Empty }
    ∷ record { applies = has_no_packet_header; tells = errors.Length }
    ∷ record { applies = exceeds_most; tells = errors.Length }
    ∷ record { applies = packet_ends_behind; tells = errors.Length }
    ∷ record { applies = packet_ends_before; tells = errors.Many }
    ∷ record { applies = packet_carries_nothing; tells = errors.Empty }
    ∷ record { applies = has_no_subpacket_header; tells = errors.Length }
    ∷ record { applies = is_of_another_kind; tells = errors.Kind }
    ∷ record { applies = has_no_data; tells = errors.Empty }
    ∷ record { applies = subpacket_ends_behind; tells = errors.Length }
    ∷ record { applies = subpacket_ends_before; tells = errors.Many } ∷ []

-- The fault of bytes is that of the first check that applies.
abbrev pub first_told : List Check → List ℕ → Option FrameError
first_told [] bytes = None
first_told (check ∷ later) bytes =
    if check.applies bytes then Some check.tells else first_told later bytes

abbrev pub FaultOrder : Type 0
FaultOrder = (bytes : List ℕ) → fault_of bytes ≡ first_told checks bytes

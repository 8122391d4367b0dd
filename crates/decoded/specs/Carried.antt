-- ComPackets (Core 2.01, section 3.2.3): the header of the ComPacket, and where it carries something, those of the one
-- packet and the one subpacket in it, and the payload. Numbers have the highest byte first.
use Rattle.std.specs.Prelude.{ℕ, ◌==◌, List, [], ◌∷◌, ◌++◌, length, Option, None, Some, Result, Ok, Err, codes, if◌then◌else◌}
use Rattle.compacket.specs.Frames.{Frame, reading, fault_of, com_packet_length}
use Rattle.compacket.specs.declared.error.FrameError.{FrameError}
use Rattle.compacket.specs.declared.error.FrameError.TheVariants.{Short}
use Rattle.tcg_tokens.specs.Message.{Message}
use Rattle.tcg_tokens.specs.Reading as tokens
use Rattle.tcg_tokens.specs.declared.error.TokenError.{TokenError}
use Rattle.tcg_calls.specs.NamedText.{or_text, named_item_text_of}
use Rattle.decoded.specs.declared.field.Form.TheVariants.{Decimal, Hex}
use Rattle.decoded.specs.Fields.{FieldRow, field, big_endian, prefixed_hex, field_line, row_lines, cut_field}
use Rattle.decoded.specs.Faults.{BytesFault, cut_in, no_frame, earlier, fields_fault}

unfoldable pub com_packet_fields : List FieldRow
com_packet_fields =
    field (codes "ComID") (big_endian 4 2) Hex
    ∷ field (codes "ComIDExtension") (big_endian 6 2) Hex
    ∷ field (codes "OutstandingData") (big_endian 8 4) Decimal
    ∷ field (codes "MinTransfer") (big_endian 12 4) Decimal
    ∷ field (codes "ComPacketLength") (big_endian 16 4) Decimal
    ∷ []

-- the headers of the packet and of the subpacket, which stand behind that of the ComPacket
unfoldable pub packet_fields : List FieldRow
packet_fields =
    field (codes "TSN") (big_endian 20 4) Decimal
    ∷ field (codes "HSN") (big_endian 24 4) Decimal
    ∷ field (codes "SeqNumber") (big_endian 28 4) Decimal
    ∷ field (codes "AckType") (big_endian 34 2) Hex
    ∷ field (codes "Acknowledgement") (big_endian 36 4) Decimal
    ∷ field (codes "PacketLength") (big_endian 40 4) Decimal
    ∷ field (codes "SubpacketKind") (big_endian 50 2) Hex
    ∷ field (codes "SubpacketLength") (big_endian 52 4) Decimal
    ∷ []

-- the payload as the item that its tokens spell, with names; in hex, where they spell none
abbrev pub payload_told : Result Message TokenError → List ℕ → List ℕ
payload_told (Ok item) payload = field_line (codes "Tokens") (named_item_text_of item)
payload_told (Err e) payload = field_line (codes "Payload") (prefixed_hex payload)

abbrev pub payload_line : List ℕ → List ℕ
payload_line payload = payload_told (tokens.reading payload) payload

abbrev pub carried_lines : Result Frame FrameError → List ℕ → List ℕ
carried_lines (Ok frame) bytes = row_lines packet_fields bytes ++ payload_line frame.payload
carried_lines (Err e) bytes = []

-- bytes behind the ComPacket are not looked at
abbrev pub com_packet_lines : List ℕ → List ℕ
com_packet_lines bytes = row_lines com_packet_fields bytes ++ carried_lines (reading bytes) bytes

-- the bytes are no frame; where they end too early, the field is told in which
abbrev pub frame_fault_said : Option FrameError → List ℕ → Option BytesFault
frame_fault_said None bytes = None
frame_fault_said (Some Short) bytes =
    Some (cut_in (or_text (cut_field packet_fields (length bytes)) (codes "Payload")))
frame_fault_said (Some e) bytes = Some (no_frame e)

-- A ComPacket that carries nothing has the header alone.
abbrev pub com_packet_wrong : List ℕ → Option BytesFault
com_packet_wrong bytes =
    earlier (fields_fault com_packet_fields bytes)
    (if com_packet_length bytes == 0 then None else frame_fault_said (fault_of bytes) bytes)

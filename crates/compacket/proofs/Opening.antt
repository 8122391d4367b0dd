-- A written frame is read, whatever follows.
use Rattle.std.proofs.Common.{◌≡◌, ℕ, ◌+◌, ◌-◌, ◌^◌, ◌<◌, ◌≤◌, List, [], ◌++◌, length, arith, refl, append_assoc, length-append}
use Rattle.std.proofs.lemmas.List.{take_at, length-replicate}
use Rattle.byteorder.specs.Numbers.{big_number-reads_back}
use Rattle.compacket.specs.Frames.{IsComPacket, IsPacket, IsDataSubpacket, IsFrame, com_packet_length, packet_length, subpacket_length, padded, big_endian_at}
use Rattle.compacket.specs.Spelling.{com_packet_header, packet_header, subpacket_header, padding, frame_bytes}
use Rattle.compacket.specs.Frames.{reading}
use Rattle.compacket.proofs.Readings.{frame_is_read}
use Rattle.std.proofs.Common.{Ok}
use Rattle.compacket.specs.declared.headers.TheConstants.{MAX_COM_PACKET}
use Rattle.compacket.specs.declared.session.Session.{Session}
use Rattle.compacket.specs.declared.writer.TheConstants.{MAX_PAYLOAD}

com_packet_written : (com_id : ℕ) (content rest : List ℕ) (n : ℕ) → com_id < 2 ^ 16 → n ≡ length content → 20 + n ≤ MAX_COM_PACKET → IsComPacket (com_packet_header com_id 0 0 n ++ content ++ rest) com_id content
com_packet_written com_id content rest n fits is long =
    let len : com_packet_length (com_packet_header com_id 0 0 n ++ content ++ rest) ≡ n =
    big_number-reads_back 4 n (content ++ rest) (omega arith) in
    record {
      is_whole = rw len (omega (arith, length-append content rest));
      is_small = rw len (omega arith);
      names = big_number-reads_back 2 com_id [] (omega arith);
      carries = rw (len, is) (take_at content rest (length content) refl);
    }

packet_written : (session : Session) (content : List ℕ) (n : ℕ) → session.tsn < 2 ^ 32 → session.hsn < 2 ^ 32 → n ≡ length content → n < 2 ^ 32 → IsPacket (packet_header session n ++ content) session content
packet_written session content n tsn hsn is long =
    let len : packet_length (packet_header session n ++ content) ≡ n =
    big_number-reads_back 4 n content (omega arith) in
    let first : big_endian_at 4 (packet_header session n ++ content) 0 ≡ session.tsn =
    big_number-reads_back 4 session.tsn [] (omega arith) in
    let second : big_endian_at 4 (packet_header session n ++ content) 4 ≡ session.hsn =
    big_number-reads_back 4 session.hsn [] (omega arith) in
    record {
      is_whole = rw len (omega arith);
      names = rw (first, second) refl;
      carries = refl;
    }

subpacket_written : (payload : List ℕ) → 0 < length payload → length payload < 2 ^ 32 → IsDataSubpacket (subpacket_header (length payload) ++ payload ++ padding (length payload)) payload
subpacket_written payload some long =
    let len : subpacket_length (subpacket_header (length payload) ++ payload ++ padding (length payload)) ≡ length payload =
    big_number-reads_back 4 (length payload) (payload ++ padding (length payload)) (omega arith) in
    record {
      is_whole = rw len (omega (arith, length-append payload (padding (length payload)), length-replicate {A = ℕ} (padded (length payload) - length payload) 0));
      is_data = refl;
      is_some = rw len some;
      carries = rw len (take_at payload (padding (length payload)) (length payload) refl);
    }

regroup : (a b c d e r : List ℕ) → a ++ b ++ c ++ d ++ e ++ r ≡ a ++ (b ++ (c ++ d ++ e)) ++ r
regroup a b c d e r = simp append_assoc

-- The frame of a payload, whatever follows, is a frame that carries it.
pub frame_written : (com_id : ℕ) (session : Session) (payload rest : List ℕ) → com_id < 2 ^ 16 → session.tsn < 2 ^ 32 → session.hsn < 2 ^ 32 → 0 < length payload → length payload ≤ MAX_PAYLOAD → IsFrame (frame_bytes com_id session payload ++ rest) (record { com_id = com_id; session = session; payload = payload })
frame_written com_id session payload rest fits tsn hsn some long =
    let n : ℕ = length payload in
    let subpacket : List ℕ = subpacket_header n ++ payload ++ padding n in
    let packet : List ℕ = packet_header session (12 + padded n) ++ subpacket in
    let carried : IsDataSubpacket subpacket payload = subpacket_written payload some (omega arith) in
    let size : 12 + padded n ≡ length subpacket =
    omega (arith, length-append payload (padding n), length-replicate {A = ℕ} (padded n - n) 0) in
    let whole : 24 + 12 + padded n ≡ length packet = omega (arith, size) in
    let bytes : frame_bytes com_id session payload ++ rest ≡ com_packet_header com_id 0 0 (24 + 12 + padded n) ++ packet ++ rest =
    regroup (com_packet_header com_id 0 0 (24 + 12 + padded n)) (packet_header session (12 + padded n)) (subpacket_header n) payload (padding n) rest in
    record {
      packet = packet;
      subpacket = subpacket;
      is_com_packet = rw bytes (com_packet_written com_id packet rest (24 + 12 + padded n) fits whole (omega arith));
      is_packet = packet_written session subpacket (12 + padded n) tsn hsn size (omega arith);
      is_subpacket = carried;
    }

pub frame_reads : (com_id : ℕ) (session : Session) (payload rest : List ℕ) → com_id < 2 ^ 16 → session.tsn < 2 ^ 32 → session.hsn < 2 ^ 32 → 0 < length payload → length payload ≤ MAX_PAYLOAD → reading (frame_bytes com_id session payload ++ rest) ≡ Ok (record { com_id = com_id; session = session; payload = payload })
frame_reads com_id session payload rest fits tsn hsn some long =
    frame_is_read _ _ (frame_written com_id session payload rest fits tsn hsn some long)

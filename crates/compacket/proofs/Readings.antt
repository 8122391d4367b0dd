-- What bytes without a fault are, and that a frame has no fault.
use Rattle.std.proofs.Common.{◌≡◌, ℕ, ◌≤◌, List, Option, None, Ok, length, arith, refl}
use Rattle.std.proofs.lemmas.Bool.Decides.{nat_tests}
use Rattle.std.proofs.lemmas.Grind.{common_steps}
use Rattle.compacket.specs.Frames.{Frame, IsComPacket, IsPacket, IsDataSubpacket, IsFrame, com_packet_fault, com_packet_content, com_id_of, session_of, packet_fault, packet_content, subpacket_fault, subpacket_content, first_fault, fault_of, frame_in, reading}
use Rattle.compacket.specs.declared.session.Session.{Session}
use Rattle.compacket.specs.declared.error.FrameError.{FrameError}

com_packet_passes : (bytes content : List ℕ) (com_id : ℕ) → IsComPacket bytes com_id content → 24 ≤ length content → com_packet_fault bytes ≡ None
com_packet_passes bytes content com_id is long = grind (arith, nat_tests, common_steps)

packet_passes : (bytes content : List ℕ) (session : Session) → IsPacket bytes session content → 12 ≤ length content → packet_fault bytes ≡ None
packet_passes bytes content session is long = grind (arith, nat_tests, common_steps)

subpacket_passes : (bytes payload : List ℕ) → IsDataSubpacket bytes payload → subpacket_fault bytes ≡ None
subpacket_passes bytes payload is = grind (arith, nat_tests)

no_fault : (a b c : Option FrameError) → a ≡ None → b ≡ None → c ≡ None → first_fault a (first_fault b c) ≡ None
no_fault a b c p q r = rw (p, q, r) refl

-- A frame has no fault.
frame_passes : (bytes : List ℕ) (frame : Frame) → IsFrame bytes frame → fault_of bytes ≡ None
frame_passes bytes frame is =
    let here : com_packet_content bytes ≡ is.packet = is.is_com_packet.carries in
    let there : packet_content is.packet ≡ is.subpacket = is.is_packet.carries in
    let rest : 12 ≤ length is.subpacket = omega (arith, is.is_subpacket.is_whole) in
    let long : 24 ≤ length is.packet = omega (arith, is.is_packet.is_whole) in
    let first : com_packet_fault bytes ≡ None = com_packet_passes bytes is.packet frame.com_id is.is_com_packet long in
    let second : packet_fault (com_packet_content bytes) ≡ None = rw here (packet_passes is.packet is.subpacket frame.session is.is_packet rest) in
    let third : subpacket_fault (packet_content (com_packet_content bytes)) ≡ None = rw (here, there) (subpacket_passes is.subpacket frame.payload is.is_subpacket) in
    no_fault _ _ _ first second third

-- A frame is what its bytes carry.
frame_carried : (bytes : List ℕ) (frame : Frame) → IsFrame bytes frame → frame_in bytes ≡ frame
frame_carried bytes frame is =
    let here : com_packet_content bytes ≡ is.packet = is.is_com_packet.carries in
    let there : packet_content is.packet ≡ is.subpacket = is.is_packet.carries in
    let id : com_id_of bytes ≡ frame.com_id = is.is_com_packet.names in
    let session : session_of is.packet ≡ frame.session = is.is_packet.names in
    let payload : subpacket_content is.subpacket ≡ frame.payload = is.is_subpacket.carries in
    rw (here, there, id, session, payload) refl

-- A frame is what a reader answers.
pub frame_is_read : (bytes : List ℕ) (frame : Frame) → IsFrame bytes frame → reading bytes ≡ Ok frame
frame_is_read bytes frame is = rw (frame_passes bytes frame is, frame_carried bytes frame is) refl

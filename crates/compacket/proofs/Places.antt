-- Where the payload stands.
use Rattle.std.proofs.Common.{◌≡◌, ℕ, ◌+◌, ◌-◌, ◌≤◌, List, length, take, drop, arith, refl, ap, sym, ◌∙◌}
use Rattle.std.proofs.lemmas.List.{drop-drop, drop-take, take-take, length-take-le, length-drop}
use Rattle.std.specs.Prelude.{slice_range}
use Rattle.compacket.specs.Frames.{Frame, IsFrame, com_packet_length, subpacket_length}

inner : (bytes : List ℕ) (n m : ℕ) → n ≤ m → take n (drop 12 (drop 24 (take (36 + m) (drop 20 bytes)))) ≡ take n (drop 56 bytes)
inner bytes n m below =
    rw (drop-drop 12 24 (take (36 + m) (drop 20 bytes)), drop-take 36 m (drop 20 bytes), take-take n m (drop 36 (drop 20 bytes)) below, drop-drop 36 20 bytes) refl

chained : (bytes packet subpacket payload : List ℕ) (len n m : ℕ) → take len (drop 20 bytes) ≡ packet → drop 24 packet ≡ subpacket → take n (drop 12 subpacket) ≡ payload → len ≡ 36 + m → n ≤ m → payload ≡ take n (drop 56 bytes)
chained bytes packet subpacket payload len n m first second third split below =
    rw (← third, ← second, ← first, split) (inner bytes n m below)

-- The payload of a frame stands behind the three headers.
pub stands_at : (bytes : List ℕ) (frame : Frame) → IsFrame bytes frame → frame.payload ≡ slice_range bytes 56 (56 + length frame.payload)
stands_at bytes frame is =
    let n : ℕ = subpacket_length is.subpacket in
    let len : ℕ = com_packet_length bytes in
    let packet : take len (drop 20 bytes) ≡ is.packet = is.is_com_packet.carries in
    let subpacket : drop 24 is.packet ≡ is.subpacket = is.is_packet.carries in
    let payload : take n (drop 12 is.subpacket) ≡ frame.payload = is.is_subpacket.carries in
    let whole : 20 + len ≤ length bytes = is.is_com_packet.is_whole in
    let size : length is.packet ≡ len =
    ap length (sym packet) ∙ length-take-le len (drop 20 bytes) (omega (arith, length-drop 20 bytes)) in
    let rest : length is.subpacket ≡ len - 24 =
    ap length (sym subpacket) ∙ length-drop 24 is.packet ∙ ap (λ k. k - 24) size in
    let fits : 36 + n ≤ len = omega (arith, is.is_subpacket.is_whole, is.is_subpacket.is_some, rest) in
    let split : len ≡ 36 + (len - 36) = omega arith in
    let here : frame.payload ≡ take n (drop 56 bytes) =
    chained bytes is.packet is.subpacket frame.payload len n (len - 36) packet subpacket payload split (omega arith) in
    let count : length frame.payload ≡ n =
    ap length here ∙ length-take-le n (drop 56 bytes) (omega (arith, length-drop 56 bytes)) in
    let same : 56 + length frame.payload - 56 ≡ n = omega arith in
    here ∙ rw same refl

-- The data of a receive.
use Rattle.std.proofs.Common.{◌≡◌, ℕ, ◌∙◌, Bool, false, List, length, Option, Some, sym, ap, cond}
use Rattle.compacket.specs.Spelling.{com_packet_header}
use Rattle.history.specs.Tcg.{received_bytes}
use Rattle.tper.specs.Tper.{fits_in}

-- of a response that is longer than the transfer, a header alone
pub long-header : (com_id room n : ℕ) (w : Option (List ℕ)) (r header : List ℕ) → w ≡ Some r → fits_in room w ≡ false → n ≡ length r → header ≡ com_packet_header com_id n n 0 → header ≡ received_bytes com_id room w
long-header com_id room n w r header waits long size is =
    let longer : fits_in room (Some r) ≡ false = sym (ap (fits_in room) waits) ∙ long in
    is ∙ ap (λ (k : ℕ). com_packet_header com_id k k 0) size
    ∙ sym (ap (λ (x : Option (List ℕ)). received_bytes com_id room x) waits
    ∙ ap (λ (b : Bool). cond b r (com_packet_header com_id (length r) (length r) 0)) longer)

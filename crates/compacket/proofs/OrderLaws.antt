-- The fault of bytes is that of the first check that applies.
use Rattle.std.proofs.Common.{◌≡◌, ℕ, Bool, true, false, List, length, Option, None, Some, refl, arith, nat_lt, if◌then◌else◌}
use Rattle.std.proofs.lemmas.Bool.Decides.{nat_tests}
use Rattle.compacket.specs.declared.error.FrameError.{FrameError}
use Rattle.compacket.specs.declared.error.FrameError.TheVariants as errors
use Rattle.compacket.specs.Frames.{com_packet_header_size, first_fault}
use Rattle.compacket.specs.Orders.{FaultOrder, ends_early, carries_nothing, has_no_packet_header, exceeds_most, packet_ends_behind, packet_ends_before, packet_carries_nothing, has_no_subpacket_header, is_of_another_kind, has_no_data, subpacket_ends_behind, subpacket_ends_before}

untrue : false ≡ true → ⊥
untrue h = cc

abbrev told : Bool → FrameError → Option FrameError → Option FrameError
told applies fault later = if applies then Some fault else later

-- the checks of the ComPacket, of its packet and of the subpacket, one behind the other; bytes without a whole header of a ComPacket
-- end within it
in_order : (h s z n l a b c d e f g i : Bool) → (h ≡ true → s ≡ true) → first_fault (told h errors.Short (told s errors.Short (told z errors.Empty (told n errors.Length (told l errors.Length None))))) (first_fault (told a errors.Length (told b errors.Many (told c errors.Empty (told d errors.Length None)))) (told e errors.Kind (told f errors.Empty (told g errors.Length (told i errors.Many None))))) ≡ told s errors.Short (told z errors.Empty (told n errors.Length (told l errors.Length (told a errors.Length (told b errors.Many (told c errors.Empty (told d errors.Length (told e errors.Kind (told f errors.Empty (told g errors.Length (told i errors.Many None)))))))))))
in_order true true z n l a b c d e f g i within = refl
in_order true false z n l a b c d e f g i within = absurd (untrue (within refl))
in_order false true z n l a b c d e f g i within = refl
in_order false false true n l a b c d e f g i within = refl
in_order false false false true l a b c d e f g i within = refl
in_order false false false false true a b c d e f g i within = refl
in_order false false false false false true b c d e f g i within = refl
in_order false false false false false false true c d e f g i within = refl
in_order false false false false false false false true d e f g i within = refl
in_order false false false false false false false false true e f g i within = refl
in_order false false false false false false false false false true f g i within = refl
in_order false false false false false false false false false false true g i within = refl
in_order false false false false false false false false false false false true i within = refl
in_order false false false false false false false false false false false false true within = refl
in_order false false false false false false false false false false false false false within = refl

within_header : (bytes : List ℕ) → nat_lt (length bytes) com_packet_header_size ≡ true → ends_early bytes ≡ true
within_header bytes h = grind (arith, nat_tests)

pub order_law : FaultOrder
order_law bytes =
    in_order (nat_lt (length bytes) com_packet_header_size) (ends_early bytes) (carries_nothing bytes) (has_no_packet_header bytes) (exceeds_most bytes)
    (packet_ends_behind bytes) (packet_ends_before bytes) (packet_carries_nothing bytes) (has_no_subpacket_header bytes)
    (is_of_another_kind bytes) (has_no_data bytes) (subpacket_ends_behind bytes) (subpacket_ends_before bytes) (within_header bytes)

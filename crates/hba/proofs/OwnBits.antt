-- PxIS has the bits that are raised alone, operation by operation.
use Rattle.std.proofs.Common.{◌≡◌, ℕ, ◌-◌, ◌%◌, ◌<◌, Bool, true, false, not, nat_le, bit_and, List, [], ◌∷◌, Option, Some, None, refl, ap, subst, sym, ◌∙◌}
use Rattle.std.specs.Prelude.{◌==◌, ◌&&◌, bit_or, if◌then◌else◌}
use Rattle.std.specs.Int.{bit_not, w32}
use Rattle.std.proofs.lemmas.Nat.{and_assoc, and_comm, and_or_apart}
use Rattle.std.specs.Int.Bits.{and_zero_r}
use Rattle.fis.specs.declared.any.Fis.{Fis}
use Rattle.fis.specs.declared.any.Fis.TheVariants as fises
use Rattle.hba_regs.specs.declared.register.Register.{Register}
use Rattle.hba_regs.specs.declared.register.Register.TheVariants as at
use Rattle.hba_regs.specs.Registers.{Regs, register_at, has_bits, start_bit, receive_bit, run_if, without}
use Rattle.history.specs.History.{Accept, Complete}
use Rattle.host_memory.specs.declared.hba_memory.miss.Miss.{Miss}
use Rattle.host_memory.specs.declared.hba_memory.miss.Miss.TheVariants as misses
use Rattle.host_memory.specs.declared.hba_memory.delivery.Arrival.{Arrival}
use Rattle.port_history.specs.Registers.{raised, with_task, task_error_bit, carried, no_more_issued, shown, all_shown, is_finished, register_bit, pio_setup_bit, dma_setup_bit, device_bits_bit}
use Rattle.hba.specs.declared.registers.Registers.{Registers}
use Rattle.hba.specs.Registers.{port_at, reset_bit, enable_bit, override_bit, packet_bit, light_bit, control_bits, overflow_bit, processed_bit, kept, stopped_if, overridden, lost_if, found_if, goes_down, comes_up, port_written, port_written_of, after_hba_reset, generic_written, written_at}
use Rattle.hba.specs.Showing.{served, moved, fetching, bits_of}
use Rattle.hba.specs.History.{Opened, Operation, Wrote, Powered, Signed, Missed, Controlled, Asserted, Restarted, Unheard, Fetched, Completed, account, regs_of, effect_after}
use Rattle.hba.specs.AccessTypes.{HasOwnBits}
use Rattle.hba.specs.OwnBits.{OwnBitsLaw}
use Rattle.hba.proofs.CurrentLaw.{current_law}

-- No bit that is never raised is set.
abbrev IsOwn : ℕ → Type 0
IsOwn word = bit_and word 0x827fffd0 ≡ 0

with_own : (bits word : ℕ) → IsOwn bits → IsOwn word → IsOwn (bit_or word bits)
with_own bits word b w = and_or_apart 0x827fffd0 word bits b ∙ w

own_if : (told : Bool) (bits word : ℕ) → IsOwn bits → IsOwn word → IsOwn (if told then bit_or word bits else word)
own_if true bits word b w = with_own bits word b w
own_if false bits word b w = w

without_own : (word value : ℕ) → IsOwn word → IsOwn (without word value)
without_own word value w =
    and_assoc 0x827fffd0 word (bit_not w32 value)
    ∙ ap (bit_and word) (and_comm (bit_not w32 value) 0x827fffd0)
    ∙ sym (and_assoc (bit_not w32 value) word 0x827fffd0)
    ∙ ap (λ (n : ℕ). bit_and n (bit_not w32 value)) w
    ∙ and_comm 0 (bit_not w32 value) ∙ and_zero_r (bit_not w32 value)

-- A write.
command_own : (st override gets packet light : Bool) (regs : Registers)
    → (stopped_if (not st) (overridden override (record regs {
      port = run_if st (record regs.port { receiving = gets });
      is_packet = packet;
      has_light = light;
    }))).port.interrupts
    ≡ regs.port.interrupts
command_own true true gets packet light regs = refl
command_own true false gets packet light regs = refl
command_own false true gets packet light regs = refl
command_own false false gets packet light regs = refl

link_own : (comes goes : Bool) (regs : Registers)
    → (found_if comes (lost_if goes regs)).port.interrupts ≡ regs.port.interrupts
link_own true true regs = refl
link_own true false regs = refl
link_own false true regs = refl
link_own false false regs = refl

tags_own : (st : Bool) (one other : Regs) → one.interrupts ≡ other.interrupts
    → (if st then one else other).interrupts ≡ other.interrupts
tags_own true one other e = e
tags_own false one other e = refl

same_own : (before after : ℕ) → after ≡ before → IsOwn before → IsOwn after
same_own before after e w = ap (λ (n : ℕ). bit_and n 0x827fffd0) e ∙ w

port_own : (regs : Registers) (value : ℕ) (register : Register) → IsOwn regs.port.interrupts
    → IsOwn (port_written regs register value).port.interrupts
port_own regs value at.ListBase w = w
port_own regs value at.ListBaseUpper w = w
port_own regs value at.FisBase w = w
port_own regs value at.FisBaseUpper w = w
port_own regs value at.InterruptStatus w = without_own regs.port.interrupts value w
port_own regs value at.InterruptEnable w = w
port_own regs value at.Command w =
    same_own regs.port.interrupts (port_written regs at.Command value).port.interrupts
    (command_own (has_bits value start_bit) (has_bits value override_bit) (has_bits value receive_bit)
    (has_bits value packet_bit) (has_bits value light_bit) regs) w
port_own regs value at.TaskFile w = w
port_own regs value at.Signature w = w
port_own regs value at.SataStatus w = w
port_own regs value at.SataControl w =
    same_own regs.port.interrupts (port_written regs at.SataControl value).port.interrupts
    (link_own (comes_up regs value) (goes_down regs value) (kept regs at.SataControl (bit_and value control_bits))) w
port_own regs value at.SataError w = w
port_own regs value at.Active w =
    same_own regs.port.interrupts (port_written regs at.Active value).port.interrupts
    (tags_own regs.port.running (record regs.port { active = bit_or regs.port.active value }) regs.port refl) w
port_own regs value at.Issue w =
    same_own regs.port.interrupts (port_written regs at.Issue value).port.interrupts
    (tags_own regs.port.running (record regs.port { issued = bit_or regs.port.issued value }) regs.port refl) w

place_own : (regs : Registers) (value : ℕ) (register : Option Register) → IsOwn regs.port.interrupts
    → IsOwn (port_written_of regs register value).port.interrupts
place_own regs value None w = w
place_own regs value (Some register) w = port_own regs value register w

offset_own : (regs : Registers) (is_control is_status resets enables raises : Bool) → IsOwn regs.port.interrupts
    → IsOwn (if is_control
    then (if resets then after_hba_reset regs else record regs { interrupts_enabled = enables })
    else (if is_status then record regs { is_raised = raises } else regs)).port.interrupts
offset_own regs true is_status true enables raises w = refl
offset_own regs true is_status false enables raises w = w
offset_own regs false true resets enables raises w = w
offset_own regs false false resets enables raises w = w

by_place : (is_port : Bool) (regs : Registers) (offset value : ℕ) → IsOwn regs.port.interrupts
    → IsOwn (if is_port then port_written_of regs (register_at (offset - port_at)) value
    else generic_written regs offset value).port.interrupts
by_place true regs offset value w = place_own regs value (register_at (offset - port_at)) w
by_place false regs offset value w =
    offset_own regs (offset == 0x04) (offset == 0x08) (has_bits value reset_bit) (has_bits value enable_bit)
    (regs.is_raised && not (has_bits value 1)) w

written_own : (regs : Registers) (offset value : ℕ) → IsOwn regs.port.interrupts
    → IsOwn (written_at regs offset value).port.interrupts
written_own regs offset value w = by_place (nat_le port_at offset) regs offset value w

-- FISes.
raised_own : (bits : ℕ) (raises : Bool) (regs : Regs) → IsOwn bits → IsOwn regs.interrupts
    → IsOwn (raised bits raises regs).interrupts
raised_own bits true regs b w = with_own bits regs.interrupts b w
raised_own bits false regs b w = w

ended_own : (tag : ℕ) (ends : Bool) (regs : Regs) → IsOwn regs.interrupts
    → IsOwn (no_more_issued tag ends regs).interrupts
ended_own tag true regs w = w
ended_own tag false regs w = w

taken_own : (bits status error : ℕ) (told : Bool) (regs : Regs) → IsOwn bits → IsOwn regs.interrupts
    → IsOwn (raised bits told (with_task status error regs)).interrupts
taken_own bits status error told regs b w =
    raised_own bits told (with_task status error regs) b
    (raised_own task_error_bit (status % 2 == 1) (record regs { status = status; error = error }) refl w)

fis_own : (tag : ℕ) (regs : Regs) (fis : Fis) → IsOwn regs.interrupts → IsOwn (shown tag regs fis).interrupts
fis_own tag regs (fises.H2d f) w = w
fis_own tag regs (fises.D2h f) w =
    ended_own tag (is_finished f.status) (raised register_bit f.interrupt (with_task f.status f.error regs))
    (taken_own register_bit f.status f.error f.interrupt regs refl w)
fis_own tag regs (fises.PioSetup f) w =
    ended_own tag (f.to_host && is_finished f.end_status)
    (raised pio_setup_bit f.interrupt (with_task f.end_status f.error regs))
    (taken_own pio_setup_bit f.end_status f.error f.interrupt regs refl w)
fis_own tag regs (fises.DmaSetup f) w = raised_own dma_setup_bit f.interrupt regs refl w
fis_own tag regs (fises.SetDeviceBits f) w =
    taken_own device_bits_bit (carried regs.status f.status) f.error f.interrupt regs refl w

fises_own : (tag : ℕ) (list : List Fis) (regs : Regs) → IsOwn regs.interrupts
    → IsOwn (all_shown tag regs list).interrupts
fises_own tag [] regs w = w
fises_own tag (fis ∷ later) regs w = fises_own tag later (shown tag regs fis) (fis_own tag regs fis w)

miss_own : (miss : Miss) → IsOwn (bits_of miss)
miss_own misses.List = refl
miss_own misses.Table = refl
miss_own misses.Block = refl
miss_own misses.Overflow = refl
miss_own misses.Fis = refl

served_own : (missed : Option Miss) (tag : ℕ) (list : List Fis) (regs : Registers) → IsOwn regs.port.interrupts
    → IsOwn (served tag list missed regs).port.interrupts
served_own None tag list regs w = fises_own tag list regs.port w
served_own (Some misses.List) tag list regs w = with_own (bits_of misses.List) regs.port.interrupts refl w
served_own (Some misses.Table) tag list regs w = with_own (bits_of misses.Table) regs.port.interrupts refl w
served_own (Some misses.Block) tag list regs w = with_own (bits_of misses.Block) regs.port.interrupts refl w
served_own (Some misses.Overflow) tag list regs w = with_own (bits_of misses.Overflow) regs.port.interrupts refl w
served_own (Some misses.Fis) tag list regs w =
    with_own (bits_of misses.Fis) (all_shown tag regs.port list).interrupts refl (fises_own tag list regs.port w)

moved_own : (arrival : Arrival) (regs : Registers) → IsOwn regs.port.interrupts
    → IsOwn (moved arrival regs).port.interrupts
moved_own arrival regs w =
    own_if arrival.is_short overflow_bit
    (if arrival.is_processed then bit_or regs.port.interrupts processed_bit else regs.port.interrupts) refl
    (own_if arrival.is_processed processed_bit regs.port.interrupts refl w)

own_so : (o : Opened) (list : List Operation) → IsOwn (regs_of o list).port.interrupts
own_so o [] = refl
own_so o (Wrote offset value ∷ before) = written_own (regs_of o before) offset value (own_so o before)
own_so o (Powered ∷ before) = refl
own_so o (Signed ∷ before) = own_so o before
own_so o (Missed fetched miss ∷ before) =
    with_own (bits_of miss) (regs_of o before).port.interrupts (miss_own miss) (own_so o before)
own_so o (Controlled tag ∷ before) = own_so o before
own_so o (Asserted tag ∷ before) = own_so o before
own_so o (Restarted tag ∷ before) = own_so o before
own_so o (Unheard tag ∷ before) = own_so o before
own_so o (Fetched tag fis payload arrival ∷ before) =
    served_own arrival.missed tag (effect_after o (account o before) (Accept fis payload)).fises
    (moved arrival (fetching tag (regs_of o before)))
    (moved_own arrival (fetching tag (regs_of o before)) (own_so o before))
own_so o (Completed tag payload arrival ∷ before) =
    served_own arrival.missed tag (effect_after o (account o before) (Complete tag payload)).fises
    (moved arrival (regs_of o before))
    (moved_own arrival (regs_of o before) (own_so o before))

pub own_law : OwnBitsLaw
own_law o list slot = record {
  raised = own_so o list;
  slot = subst (λ (n : ℕ). n < 32) (sym (current_law o list)) slot;
}

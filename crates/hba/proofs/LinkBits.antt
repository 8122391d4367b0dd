-- The link, and the bits of PxSERR, operation by operation.
use Rattle.std.proofs.Common.{◌≡◌, ℕ, ◌+◌, ◌-◌, ◌%◌, Bool, true, false, not, nat_le, List, [], ◌∷◌, Option, Some, None, refl, ap, ◌∙◌}
use Rattle.std.specs.Prelude.{◌==◌, ◌&&◌, ◌||◌, bit_and, bit_or, if◌then◌else◌}
use Rattle.std.proofs.lemmas.Nat.{and_mask}
use Rattle.std.proofs.Math.Pow.{mod-mod-pow}
use Rattle.fis.specs.declared.any.Fis.{Fis}
use Rattle.fis.specs.declared.any.Fis.TheVariants as fises
use Rattle.hba_regs.specs.declared.register.Register.{Register}
use Rattle.hba_regs.specs.declared.register.Register.TheVariants as at
use Rattle.hba_regs.specs.Registers.{Regs, register_at, has_bits, start_bit, run_if, disk_signature}
use Rattle.history.specs.History.{Accept, Complete}
use Rattle.host_memory.specs.declared.hba_memory.miss.Miss.{Miss}
use Rattle.host_memory.specs.declared.hba_memory.miss.Miss.TheVariants as misses
use Rattle.port_history.specs.Registers.{raised, with_task, task_error_bit, carried, no_more_issued, shown, all_shown, is_finished, register_bit, pio_setup_bit, dma_setup_bit, device_bits_bit}
use Rattle.hba.specs.declared.registers.Registers.{Registers}
use Rattle.hba.specs.Registers.{is_up, port_at, reset_bit, enable_bit, override_bit, control_bits, exchange_bit, phy_error_bit, change_bit, phy_change_bit, kept, optioned, overridden, stopped_if, lost_if, found_if, goes_down, comes_up, noted, port_written, port_written_of, after_hba_reset, written_at, no_signature}
use Rattle.hba.specs.Showing.{served, moved, fetching}
use Rattle.hba.specs.History.{Opened, Operation, Wrote, Powered, Signed, Missed, Controlled, Asserted, Restarted, Unheard, Fetched, Completed, account, regs_of, effect_after}
use Rattle.hba.specs.BitLaws.{at_register, by_write, link_after, linked, exchange_after, link_came_up, phy_after, link_changed, ErrorsLaw, ChangesLaw, signature_after, signature_told, SignatureLaw}
use Rattle.hba.proofs.BitByBit.{or_false}

abbrev enabled_as : Bool → Registers → Registers
enabled_as b regs = record regs { interrupts_enabled = b }

abbrev raised_as : Bool → Registers → Registers
raised_as b regs = record regs { is_raised = b }

-- A write, by where it goes.
at_offset : (look : Registers → Bool) (port : Register → Bool) (reset : Bool) (regs : Registers) (value : ℕ)
    → ((register : Register) → look (port_written regs register value) ≡ port register)
    → look (after_hba_reset regs) ≡ reset
    → ((b : Bool) → look (enabled_as b regs) ≡ look regs) → ((b : Bool) → look (raised_as b regs) ≡ look regs)
    → (is_port : Bool) (register : Option Register) (is_control is_status resets enables raises : Bool)
    → look (if is_port then port_written_of regs register value
    else (if is_control
    then (if resets then after_hba_reset regs else record regs { interrupts_enabled = enables })
    else (if is_status then record regs { is_raised = raises } else regs)))
    ≡ (if is_port then at_register port (look regs) register
    else (if is_control && resets then reset else look regs))
at_offset look port reset regs value p r e s true None is_control is_status resets enables raises = refl
at_offset look port reset regs value p r e s true (Some register) is_control is_status resets enables raises = p register
at_offset look port reset regs value p r e s false register true is_status true enables raises = r
at_offset look port reset regs value p r e s false register true is_status false enables raises = e enables
at_offset look port reset regs value p r e s false register false true resets enables raises = s raises
at_offset look port reset regs value p r e s false register false false resets enables raises = refl

field_so : (look : Registers → Bool) (port : Register → Bool) (reset : Bool) (regs : Registers) (offset value : ℕ)
    → ((other : Registers) → look (noted other) ≡ look other)
    → ((register : Register) → look (port_written regs register value) ≡ port register)
    → look (after_hba_reset regs) ≡ reset
    → ((b : Bool) → look (enabled_as b regs) ≡ look regs) → ((b : Bool) → look (raised_as b regs) ≡ look regs)
    → look (written_at regs offset value) ≡ by_write port reset (look regs) offset value
field_so look port reset regs offset value n p r e s =
    n _
    ∙ at_offset look port reset regs value p r e s (nat_le port_at offset) (register_at (offset - port_at))
    (offset == 0x04) (offset == 0x08) (has_bits value reset_bit) (has_bits value enable_bit)
    (regs.is_raised && not (has_bits value 1))

-- PxSCTL keeps DET.
up_kept : (value : ℕ) → is_up (bit_and value control_bits) ≡ is_up value
up_kept value =
    ap (λ (n : ℕ). n % 16 == 0) (and_mask value 12) ∙ ap (λ (n : ℕ). n == 0) (mod-mod-pow value 8 4)

pub run_control : (st : Bool) (regs : Regs) → (run_if st regs).control ≡ regs.control
run_control true regs = refl
run_control false regs = refl

pub command_control : (stops asked : Bool) (regs : Registers)
    → (stopped_if stops (overridden asked regs)).port.control ≡ regs.port.control
command_control true true regs = refl
command_control true false regs = refl
command_control false true regs = refl
command_control false false regs = refl

pub link_control : (comes goes : Bool) (regs : Registers)
    → (found_if comes (lost_if goes regs)).port.control ≡ regs.port.control
link_control true true regs = refl
link_control true false regs = refl
link_control false true regs = refl
link_control false false regs = refl

pub tags_control : (st : Bool) (one other : Regs) → one.control ≡ other.control
    → (if st then one else other).control ≡ other.control
tags_control true one other e = e
tags_control false one other e = refl

abbrev pub is_linked : Registers → Bool
is_linked regs = is_up regs.port.control

port_linked : (value : ℕ) (regs : Registers) (register : Register)
    → is_linked (port_written regs register value) ≡ link_after value (is_linked regs) register
port_linked value regs at.ListBase = refl
port_linked value regs at.ListBaseUpper = refl
port_linked value regs at.FisBase = refl
port_linked value regs at.FisBaseUpper = refl
port_linked value regs at.InterruptStatus = refl
port_linked value regs at.InterruptEnable = refl
port_linked value regs at.Command =
    ap is_up (command_control (not (has_bits value start_bit)) (has_bits value override_bit)
    (optioned value (kept regs at.Command value))
    ∙ run_control (has_bits value start_bit) (record regs.port { receiving = has_bits value 0x10 }))
port_linked value regs at.TaskFile = refl
port_linked value regs at.Signature = refl
port_linked value regs at.SataStatus = refl
port_linked value regs at.SataControl =
    ap is_up (link_control (comes_up regs value) (goes_down regs value)
    (kept regs at.SataControl (bit_and value control_bits)))
    ∙ up_kept value
port_linked value regs at.SataError = refl
port_linked value regs at.Active =
    ap is_up (tags_control regs.port.running (record regs.port { active = bit_or regs.port.active value }) regs.port refl)
port_linked value regs at.Issue =
    ap is_up (tags_control regs.port.running (record regs.port { issued = bit_or regs.port.issued value }) regs.port refl)

raised_control : (bits : ℕ) (raises : Bool) (regs : Regs) → (raised bits raises regs).control ≡ regs.control
raised_control bits true regs = refl
raised_control bits false regs = refl

ended_control : (tag : ℕ) (ends : Bool) (regs : Regs) → (no_more_issued tag ends regs).control ≡ regs.control
ended_control tag true regs = refl
ended_control tag false regs = refl

task_control : (bits status error : ℕ) (told : Bool) (regs : Regs)
    → (raised bits told (with_task status error regs)).control ≡ regs.control
task_control bits status error told regs =
    raised_control bits told (with_task status error regs)
    ∙ raised_control task_error_bit (status % 2 == 1) (record regs { status = status; error = error })

shown_control : (tag : ℕ) (regs : Regs) (fis : Fis) → (shown tag regs fis).control ≡ regs.control
shown_control tag regs (fises.H2d f) = refl
shown_control tag regs (fises.D2h f) =
    ended_control tag (is_finished f.status) (raised register_bit f.interrupt (with_task f.status f.error regs))
    ∙ task_control register_bit f.status f.error f.interrupt regs
shown_control tag regs (fises.PioSetup f) =
    ended_control tag (f.to_host && is_finished f.end_status)
    (raised pio_setup_bit f.interrupt (with_task f.end_status f.error regs))
    ∙ task_control pio_setup_bit f.end_status f.error f.interrupt regs
shown_control tag regs (fises.DmaSetup f) = raised_control dma_setup_bit f.interrupt regs
shown_control tag regs (fises.SetDeviceBits f) =
    task_control device_bits_bit (carried regs.status f.status) f.error f.interrupt regs

all_control : (tag : ℕ) (list : List Fis) (regs : Regs) → (all_shown tag regs list).control ≡ regs.control
all_control tag [] regs = refl
all_control tag (fis ∷ later) regs =
    all_control tag later (shown tag regs fis) ∙ shown_control tag regs fis

pub served_control : (missed : Option Miss) (tag : ℕ) (list : List Fis) (regs : Registers)
    → (served tag list missed regs).port.control ≡ regs.port.control
served_control None tag list regs = all_control tag list regs.port
served_control (Some misses.List) tag list regs = refl
served_control (Some misses.Table) tag list regs = refl
served_control (Some misses.Block) tag list regs = refl
served_control (Some misses.Overflow) tag list regs = refl
served_control (Some misses.Fis) tag list regs = all_control tag list regs.port

abbrev LinkedLaw : Type 0
LinkedLaw = (o : Opened) (list : List Operation) → is_linked (regs_of o list) ≡ linked list

pub linked_law : LinkedLaw
linked_law o [] = refl
linked_law o (Wrote offset value ∷ before) =
    let regs = regs_of o before in
    field_so is_linked (link_after value (is_linked regs)) true regs offset value (λ other. refl) (port_linked value regs)
    refl (λ b. refl) (λ b. refl)
    ∙ ap (λ (b : Bool). by_write (link_after value b) true b offset value) (linked_law o before)
linked_law o (Powered ∷ before) = refl
linked_law o (Signed ∷ before) = linked_law o before
linked_law o (Missed fetched miss ∷ before) = linked_law o before
linked_law o (Controlled tag ∷ before) = linked_law o before
linked_law o (Asserted tag ∷ before) = linked_law o before
linked_law o (Restarted tag ∷ before) = linked_law o before
linked_law o (Unheard tag ∷ before) = linked_law o before
linked_law o (Fetched tag fis payload arrival ∷ before) =
    ap is_up (served_control arrival.missed tag (effect_after o (account o before) (Accept fis payload)).fises
    (moved arrival (fetching tag (regs_of o before))))
    ∙ linked_law o before
linked_law o (Completed tag payload arrival ∷ before) =
    ap is_up (served_control arrival.missed tag (effect_after o (account o before) (Complete tag payload)).fises
    (moved arrival (regs_of o before)))
    ∙ linked_law o before

-- PxSERR.
or_true : (a : Bool) → true ≡ (a || true)
or_true true = refl
or_true false = refl

command_errors : (stops asked : Bool) (regs : Registers)
    → ((stopped_if stops (overridden asked regs)).is_exchanged ≡ regs.is_exchanged)
    × ((stopped_if stops (overridden asked regs)).has_phy_changed ≡ regs.has_phy_changed)
command_errors true true regs = (refl, refl)
command_errors true false regs = (refl, refl)
command_errors false true regs = (refl, refl)
command_errors false false regs = (refl, refl)

link_exchange : (comes goes : Bool) (regs : Registers)
    → (found_if comes (lost_if goes regs)).is_exchanged ≡ (regs.is_exchanged || comes)
link_exchange true true regs = or_true regs.is_exchanged
link_exchange true false regs = or_true regs.is_exchanged
link_exchange false true regs = or_false regs.is_exchanged
link_exchange false false regs = or_false regs.is_exchanged

link_phy : (comes goes : Bool) (regs : Registers)
    → (found_if comes (lost_if goes regs)).has_phy_changed ≡ (regs.has_phy_changed || goes || comes)
link_phy true goes regs = or_true (regs.has_phy_changed || goes)
link_phy false true regs = or_true regs.has_phy_changed ∙ or_false (regs.has_phy_changed || true)
link_phy false false regs = or_false regs.has_phy_changed ∙ or_false (regs.has_phy_changed || false)

abbrev has_come_up : Registers → Bool
has_come_up regs = regs.is_exchanged

abbrev has_changed : Registers → Bool
has_changed regs = regs.has_phy_changed

port_exchanged : (value : ℕ) (regs : Registers) (register : Register)
    → has_come_up (port_written regs register value)
    ≡ exchange_after value (is_linked regs) regs.is_exchanged register
port_exchanged value regs at.ListBase = refl
port_exchanged value regs at.ListBaseUpper = refl
port_exchanged value regs at.FisBase = refl
port_exchanged value regs at.FisBaseUpper = refl
port_exchanged value regs at.InterruptStatus = refl
port_exchanged value regs at.InterruptEnable = refl
port_exchanged value regs at.Command =
    (command_errors (not (has_bits value start_bit)) (has_bits value override_bit)
    (optioned value (kept regs at.Command value))).0
port_exchanged value regs at.TaskFile = refl
port_exchanged value regs at.Signature = refl
port_exchanged value regs at.SataStatus = refl
port_exchanged value regs at.SataControl =
    link_exchange (comes_up regs value) (goes_down regs value)
    (kept regs at.SataControl (bit_and value control_bits))
port_exchanged value regs at.SataError = refl
port_exchanged value regs at.Active = refl
port_exchanged value regs at.Issue = refl

port_changed : (value : ℕ) (regs : Registers) (register : Register)
    → has_changed (port_written regs register value)
    ≡ phy_after value (is_linked regs) regs.has_phy_changed register
port_changed value regs at.ListBase = refl
port_changed value regs at.ListBaseUpper = refl
port_changed value regs at.FisBase = refl
port_changed value regs at.FisBaseUpper = refl
port_changed value regs at.InterruptStatus = refl
port_changed value regs at.InterruptEnable = refl
port_changed value regs at.Command =
    (command_errors (not (has_bits value start_bit)) (has_bits value override_bit)
    (optioned value (kept regs at.Command value))).1
port_changed value regs at.TaskFile = refl
port_changed value regs at.Signature = refl
port_changed value regs at.SataStatus = refl
port_changed value regs at.SataControl =
    link_phy (comes_up regs value) (goes_down regs value)
    (kept regs at.SataControl (bit_and value control_bits))
port_changed value regs at.SataError = refl
port_changed value regs at.Active = refl
port_changed value regs at.Issue = refl

served_errors : (missed : Option Miss) (tag : ℕ) (list : List Fis) (regs : Registers)
    → ((served tag list missed regs).is_exchanged ≡ regs.is_exchanged)
    × ((served tag list missed regs).has_phy_changed ≡ regs.has_phy_changed)
served_errors None tag list regs = (refl, refl)
served_errors (Some misses.List) tag list regs = (refl, refl)
served_errors (Some misses.Table) tag list regs = (refl, refl)
served_errors (Some misses.Block) tag list regs = (refl, refl)
served_errors (Some misses.Overflow) tag list regs = (refl, refl)
served_errors (Some misses.Fis) tag list regs = (refl, refl)

exchanged_law : (o : Opened) (list : List Operation) → (regs_of o list).is_exchanged ≡ link_came_up list
exchanged_law o [] = refl
exchanged_law o (Wrote offset value ∷ before) =
    let regs = regs_of o before in
    field_so has_come_up (exchange_after value (is_linked regs) regs.is_exchanged) true regs offset value
    (λ other. refl) (port_exchanged value regs) refl (λ b. refl) (λ b. refl)
    ∙ ap (λ (b : Bool). by_write (exchange_after value b regs.is_exchanged) true regs.is_exchanged offset value) (linked_law o before)
    ∙ ap (λ (b : Bool). by_write (exchange_after value (linked before) b) true b offset value) (exchanged_law o before)
exchanged_law o (Powered ∷ before) = refl
exchanged_law o (Signed ∷ before) = exchanged_law o before
exchanged_law o (Missed fetched miss ∷ before) = exchanged_law o before
exchanged_law o (Controlled tag ∷ before) = exchanged_law o before
exchanged_law o (Asserted tag ∷ before) = exchanged_law o before
exchanged_law o (Restarted tag ∷ before) = exchanged_law o before
exchanged_law o (Unheard tag ∷ before) = exchanged_law o before
exchanged_law o (Fetched tag fis payload arrival ∷ before) =
    (served_errors arrival.missed tag (effect_after o (account o before) (Accept fis payload)).fises
    (moved arrival (fetching tag (regs_of o before)))).0
    ∙ exchanged_law o before
exchanged_law o (Completed tag payload arrival ∷ before) =
    (served_errors arrival.missed tag (effect_after o (account o before) (Complete tag payload)).fises
    (moved arrival (regs_of o before))).0
    ∙ exchanged_law o before

changed_law : (o : Opened) (list : List Operation) → (regs_of o list).has_phy_changed ≡ link_changed list
changed_law o [] = refl
changed_law o (Wrote offset value ∷ before) =
    let regs = regs_of o before in
    field_so has_changed (phy_after value (is_linked regs) regs.has_phy_changed) true regs offset value
    (λ other. refl) (port_changed value regs) refl (λ b. refl) (λ b. refl)
    ∙ ap (λ (b : Bool). by_write (phy_after value b regs.has_phy_changed) true regs.has_phy_changed offset value) (linked_law o before)
    ∙ ap (λ (b : Bool). by_write (phy_after value (linked before) b) true b offset value) (changed_law o before)
changed_law o (Powered ∷ before) = refl
changed_law o (Signed ∷ before) = changed_law o before
changed_law o (Missed fetched miss ∷ before) = changed_law o before
changed_law o (Controlled tag ∷ before) = changed_law o before
changed_law o (Asserted tag ∷ before) = changed_law o before
changed_law o (Restarted tag ∷ before) = changed_law o before
changed_law o (Unheard tag ∷ before) = changed_law o before
changed_law o (Fetched tag fis payload arrival ∷ before) =
    (served_errors arrival.missed tag (effect_after o (account o before) (Accept fis payload)).fises
    (moved arrival (fetching tag (regs_of o before)))).1
    ∙ changed_law o before
changed_law o (Completed tag payload arrival ∷ before) =
    (served_errors arrival.missed tag (effect_after o (account o before) (Complete tag payload)).fises
    (moved arrival (regs_of o before))).1
    ∙ changed_law o before

pub errors_law : ErrorsLaw
errors_law o list =
    ap (λ (b : Bool). (if b then exchange_bit else 0) + (if (regs_of o list).has_phy_changed then phy_error_bit else 0))
    (exchanged_law o list)
    ∙ ap (λ (b : Bool). (if link_came_up list then exchange_bit else 0) + (if b then phy_error_bit else 0)) (changed_law o list)

pub changes_law : ChangesLaw
changes_law o list =
    let told = (regs_of o list).port.interrupts in
    ap (λ (b : Bool). bit_or (bit_or told (if b then change_bit else 0))
    (if (regs_of o list).has_phy_changed then phy_change_bit else 0)) (exchanged_law o list)
    ∙ ap (λ (b : Bool). bit_or (bit_or told (if link_came_up list then change_bit else 0)) (if b then phy_change_bit else 0))
    (changed_law o list)

-- PxSIG.
abbrev has_signed : Registers → Bool
has_signed regs = regs.is_signed

command_signed : (stops asked : Bool) (regs : Registers)
    → (stopped_if stops (overridden asked regs)).is_signed ≡ regs.is_signed
command_signed true true regs = refl
command_signed true false regs = refl
command_signed false true regs = refl
command_signed false false regs = refl

link_signed : (comes goes : Bool) (regs : Registers)
    → (found_if comes (lost_if goes regs)).is_signed ≡ (not goes && regs.is_signed)
link_signed true true regs = refl
link_signed true false regs = refl
link_signed false true regs = refl
link_signed false false regs = refl

port_signed : (value : ℕ) (regs : Registers) (register : Register)
    → has_signed (port_written regs register value)
    ≡ signature_after value (is_linked regs) regs.is_signed register
port_signed value regs at.ListBase = refl
port_signed value regs at.ListBaseUpper = refl
port_signed value regs at.FisBase = refl
port_signed value regs at.FisBaseUpper = refl
port_signed value regs at.InterruptStatus = refl
port_signed value regs at.InterruptEnable = refl
port_signed value regs at.Command =
    command_signed (not (has_bits value start_bit)) (has_bits value override_bit)
    (optioned value (kept regs at.Command value))
port_signed value regs at.TaskFile = refl
port_signed value regs at.Signature = refl
port_signed value regs at.SataStatus = refl
port_signed value regs at.SataControl =
    link_signed (comes_up regs value) (goes_down regs value)
    (kept regs at.SataControl (bit_and value control_bits))
port_signed value regs at.SataError = refl
port_signed value regs at.Active = refl
port_signed value regs at.Issue = refl

served_signed : (missed : Option Miss) (tag : ℕ) (list : List Fis) (regs : Registers)
    → (served tag list missed regs).is_signed ≡ regs.is_signed
served_signed None tag list regs = refl
served_signed (Some misses.List) tag list regs = refl
served_signed (Some misses.Table) tag list regs = refl
served_signed (Some misses.Block) tag list regs = refl
served_signed (Some misses.Overflow) tag list regs = refl
served_signed (Some misses.Fis) tag list regs = refl

signed_law : (o : Opened) (list : List Operation) → (regs_of o list).is_signed ≡ signature_told list
signed_law o [] = refl
signed_law o (Wrote offset value ∷ before) =
    let regs = regs_of o before in
    field_so has_signed (signature_after value (is_linked regs) regs.is_signed) false regs offset value
    (λ other. refl) (port_signed value regs) refl (λ b. refl) (λ b. refl)
    ∙ ap (λ (b : Bool). by_write (signature_after value b regs.is_signed) false regs.is_signed offset value) (linked_law o before)
    ∙ ap (λ (b : Bool). by_write (signature_after value (linked before) b) false b offset value) (signed_law o before)
signed_law o (Powered ∷ before) = refl
signed_law o (Signed ∷ before) = refl
signed_law o (Missed fetched miss ∷ before) = signed_law o before
signed_law o (Controlled tag ∷ before) = signed_law o before
signed_law o (Asserted tag ∷ before) = signed_law o before
signed_law o (Restarted tag ∷ before) = refl
signed_law o (Unheard tag ∷ before) = signed_law o before
signed_law o (Fetched tag fis payload arrival ∷ before) =
    served_signed arrival.missed tag (effect_after o (account o before) (Accept fis payload)).fises
    (moved arrival (fetching tag (regs_of o before)))
    ∙ signed_law o before
signed_law o (Completed tag payload arrival ∷ before) =
    served_signed arrival.missed tag (effect_after o (account o before) (Complete tag payload)).fises
    (moved arrival (regs_of o before))
    ∙ signed_law o before

pub signature_law : SignatureLaw
signature_law o list =
    ap (λ (b : Bool). if b then disk_signature else no_signature) (signed_law o list)

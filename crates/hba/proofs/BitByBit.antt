-- The bits of PxCI and of PxIS, operation by operation.
use Rattle.std.proofs.Common.{◌≡◌, ℕ, ◌-◌, ◌%◌, ◌<◌, Bool, true, false, not, nat_le, List, [], ◌∷◌, Option, Some, None, refl, ap, ◌∙◌}
use Rattle.std.specs.Prelude.{◌==◌, ◌&&◌, ◌||◌, bit_and, bit_or, if◌then◌else◌}
use Rattle.fis.specs.declared.any.Fis.{Fis}
use Rattle.fis.specs.declared.any.Fis.TheVariants as fises
use Rattle.hba_regs.specs.declared.register.Register.{Register}
use Rattle.hba_regs.specs.declared.register.Register.TheVariants as at
use Rattle.hba_regs.specs.Registers.{Regs, register_at, has_bits, start_bit, run_if}
use Rattle.history.specs.History.{Accept, Complete}
use Rattle.host_memory.specs.declared.hba_memory.miss.Miss.{Miss}
use Rattle.host_memory.specs.declared.hba_memory.miss.Miss.TheVariants as misses
use Rattle.port_history.specs.Registers.{raised, with_task, task_error_bit, carried, no_more_issued, shown, all_shown, is_finished, register_bit, pio_setup_bit, dma_setup_bit, device_bits_bit}
use Rattle.hba.specs.declared.registers.Registers.{Registers}
use Rattle.hba.specs.Registers.{port_at, reset_bit, enable_bit, override_bit, control_bits, kept, optioned, overridden, stopped_if, lost_if, found_if, goes_down, comes_up, port_written, port_written_of, after_hba_reset, written_at}
use Rattle.hba.specs.Showing.{served, moved, fetching}
use Rattle.hba.specs.History.{Wrote, Powered, Signed, Missed, Controlled, Asserted, Restarted, Unheard, Fetched, Completed, account, regs_of, effect_after}
use Rattle.hba.specs.BitLaws.{word_has, at_register, by_write, start_after, runs, shown_if, ends_command, one_ends, issues, IssuedLaw, raises, RunningLaw}
use Rattle.hba.proofs.BitsOfWords.{has_zero, has_or, has_without_one}

-- What a look at ST, PxCI, PxSACT and PxIS finds.
abbrev pub seen : (Bool → ℕ → ℕ → ℕ → Bool) → Regs → Bool
seen look regs = look regs.running regs.issued regs.active regs.interrupts

-- A write, by where it goes.
at_offset : (look : Bool → ℕ → ℕ → ℕ → Bool) (port : Register → Bool) (reset : Bool) (regs : Registers)
    (value : ℕ)
    → ((register : Register) → seen look (port_written regs register value).port ≡ port register)
    → seen look (after_hba_reset regs).port ≡ reset
    → (is_port : Bool) (register : Option Register) (is_control is_status resets enables raises : Bool)
    → seen look (if is_port then port_written_of regs register value
    else (if is_control
    then (if resets then after_hba_reset regs else record regs { interrupts_enabled = enables })
    else (if is_status then record regs { is_raised = raises } else regs))).port
    ≡ (if is_port then at_register port (seen look regs.port) register
    else (if is_control && resets then reset else seen look regs.port))
at_offset look port reset regs value p r true None is_control is_status resets enables raises = refl
at_offset look port reset regs value p r true (Some register) is_control is_status resets enables raises = p register
at_offset look port reset regs value p r false register true is_status true enables raises = r
at_offset look port reset regs value p r false register true is_status false enables raises = refl
at_offset look port reset regs value p r false register false true resets enables raises = refl
at_offset look port reset regs value p r false register false false resets enables raises = refl

pub written_so : (look : Bool → ℕ → ℕ → ℕ → Bool) (port : Register → Bool) (reset : Bool) (regs : Registers)
    (offset value : ℕ)
    → ((register : Register) → seen look (port_written regs register value).port ≡ port register)
    → seen look (after_hba_reset regs).port ≡ reset
    → seen look (written_at regs offset value).port ≡ by_write port reset (seen look regs.port) offset value
written_so look port reset regs offset value p r =
    at_offset look port reset regs value p r (nat_le port_at offset) (register_at (offset - port_at))
    (offset == 0x04) (offset == 0x08) (has_bits value reset_bit) (has_bits value enable_bit)
    (regs.is_raised && not (has_bits value 1))

-- PxCMD and PxSCTL, beside ST.
by_command : (look : Bool → ℕ → ℕ → ℕ → Bool) (stops asked : Bool) (regs : Registers)
    → seen look (stopped_if stops (overridden asked regs)).port ≡ seen look regs.port
by_command look true true regs = refl
by_command look true false regs = refl
by_command look false true regs = refl
by_command look false false regs = refl

by_control : (look : Bool → ℕ → ℕ → ℕ → Bool) (comes goes : Bool) (regs : Registers)
    → seen look (found_if comes (lost_if goes regs)).port ≡ seen look regs.port
by_control look true true regs = refl
by_control look true false regs = refl
by_control look false true regs = refl
by_control look false false regs = refl

-- A written PxCMD, for what ST takes along.
pub commanded : (look : Bool → ℕ → ℕ → ℕ → Bool) (regs : Registers) (value : ℕ)
    → seen look (port_written regs at.Command value).port
    ≡ seen look (run_if (has_bits value start_bit) (record regs.port { receiving = has_bits value 0x10 }))
commanded look regs value =
    by_command look (not (has_bits value start_bit)) (has_bits value override_bit)
    (optioned value (kept regs at.Command value))

pub controlled_so : (look : Bool → ℕ → ℕ → ℕ → Bool) (regs : Registers) (value : ℕ)
    → seen look (port_written regs at.SataControl value).port ≡ seen look regs.port
controlled_so look regs value =
    by_control look (comes_up regs value) (goes_down regs value)
    (kept regs at.SataControl (bit_and value control_bits))

-- ST.
abbrev running : Bool → ℕ → ℕ → ℕ → Bool
running st issued active interrupts = st

run_started : (st : Bool) (regs : Regs) → (run_if st regs).running ≡ st
run_started true regs = refl
run_started false regs = refl

set_if : (st : Bool) (one other : Regs) → one.running ≡ other.running
    → (if st then one else other).running ≡ other.running
set_if true one other e = e
set_if false one other e = refl

port_running : (regs : Registers) (value : ℕ) (register : Register)
    → seen running (port_written regs register value).port ≡ start_after value regs.port.running register
port_running regs value at.ListBase = refl
port_running regs value at.ListBaseUpper = refl
port_running regs value at.FisBase = refl
port_running regs value at.FisBaseUpper = refl
port_running regs value at.InterruptStatus = refl
port_running regs value at.InterruptEnable = refl
port_running regs value at.Command =
    commanded running regs value
    ∙ run_started (has_bits value start_bit) (record regs.port { receiving = has_bits value 0x10 })
port_running regs value at.TaskFile = refl
port_running regs value at.Signature = refl
port_running regs value at.SataStatus = refl
port_running regs value at.SataControl = controlled_so running regs value
port_running regs value at.SataError = refl
port_running regs value at.Active =
    set_if regs.port.running (record regs.port { active = bit_or regs.port.active value }) regs.port refl
port_running regs value at.Issue =
    set_if regs.port.running (record regs.port { issued = bit_or regs.port.issued value }) regs.port refl

raised_running : (bits : ℕ) (raises : Bool) (regs : Regs) → (raised bits raises regs).running ≡ regs.running
raised_running bits true regs = refl
raised_running bits false regs = refl

ended_running : (tag : ℕ) (ends : Bool) (regs : Regs) → (no_more_issued tag ends regs).running ≡ regs.running
ended_running tag true regs = refl
ended_running tag false regs = refl

shown_running : (tag : ℕ) (regs : Regs) (fis : Fis) → (shown tag regs fis).running ≡ regs.running
shown_running tag regs (fises.H2d f) = refl
shown_running tag regs (fises.D2h f) =
    ended_running tag (is_finished f.status) (raised register_bit f.interrupt (with_task f.status f.error regs))
    ∙ raised_running register_bit f.interrupt (with_task f.status f.error regs)
    ∙ raised_running task_error_bit (f.status % 2 == 1) (record regs { status = f.status; error = f.error })
shown_running tag regs (fises.PioSetup f) =
    ended_running tag (f.to_host && is_finished f.end_status) (raised pio_setup_bit f.interrupt (with_task f.end_status f.error regs))
    ∙ raised_running pio_setup_bit f.interrupt (with_task f.end_status f.error regs)
    ∙ raised_running task_error_bit (f.end_status % 2 == 1) (record regs { status = f.end_status; error = f.error })
shown_running tag regs (fises.DmaSetup f) = raised_running dma_setup_bit f.interrupt regs
shown_running tag regs (fises.SetDeviceBits f) =
    let status = carried regs.status f.status in
    raised_running device_bits_bit f.interrupt (with_task status f.error regs)
    ∙ raised_running task_error_bit (status % 2 == 1) (record regs { status = status; error = f.error })

all_running : (tag : ℕ) (list : List Fis) (regs : Regs) → (all_shown tag regs list).running ≡ regs.running
all_running tag [] regs = refl
all_running tag (fis ∷ later) regs =
    all_running tag later (shown tag regs fis) ∙ shown_running tag regs fis

served_running : (missed : Option Miss) (tag : ℕ) (list : List Fis) (regs : Registers)
    → (served tag list missed regs).port.running ≡ regs.port.running
served_running None tag list regs = all_running tag list regs.port
served_running (Some misses.List) tag list regs = refl
served_running (Some misses.Table) tag list regs = refl
served_running (Some misses.Block) tag list regs = refl
served_running (Some misses.Overflow) tag list regs = refl
served_running (Some misses.Fis) tag list regs = all_running tag list regs.port

pub running_law : RunningLaw
running_law o [] = refl
running_law o (Wrote offset value ∷ before) =
    let regs = regs_of o before in
    written_so running (start_after value regs.port.running) false regs offset value (port_running regs value) refl
    ∙ ap (λ (b : Bool). by_write (start_after value b) false b offset value) (running_law o before)
running_law o (Powered ∷ before) = refl
running_law o (Signed ∷ before) = running_law o before
running_law o (Missed fetched miss ∷ before) = running_law o before
running_law o (Controlled tag ∷ before) = running_law o before
running_law o (Asserted tag ∷ before) = running_law o before
running_law o (Restarted tag ∷ before) = running_law o before
running_law o (Unheard tag ∷ before) = running_law o before
running_law o (Fetched tag fis payload arrival ∷ before) =
    served_running arrival.missed tag (effect_after o (account o before) (Accept fis payload)).fises
    (moved arrival (fetching tag (regs_of o before)))
    ∙ running_law o before
running_law o (Completed tag payload arrival ∷ before) =
    served_running arrival.missed tag (effect_after o (account o before) (Complete tag payload)).fises
    (moved arrival (regs_of o before))
    ∙ running_law o before

-- PxCI.
abbrev issued_bit : ℕ → Bool → ℕ → ℕ → ℕ → Bool
issued_bit tag st issued active interrupts = word_has issued tag

run_issued : (tag : ℕ) (st : Bool) (regs : Regs)
    → word_has (run_if st regs).issued tag ≡ (st && word_has regs.issued tag)
run_issued tag true regs = refl
run_issued tag false regs = has_zero tag

pub or_false : (a : Bool) → a ≡ (a || false)
or_false true = refl
or_false false = refl

issue_if : (tag value : ℕ) (st : Bool) (regs : Regs)
    → word_has (if st then record regs { issued = bit_or regs.issued value } else regs).issued tag
    ≡ (word_has regs.issued tag || st && word_has value tag)
issue_if tag value true regs = has_or regs.issued value tag
issue_if tag value false regs = or_false (word_has regs.issued tag)

active_if : (value : ℕ) (st : Bool) (regs : Regs)
    → (if st then record regs { active = bit_or regs.active value } else regs).issued ≡ regs.issued
active_if value true regs = refl
active_if value false regs = refl

port_issued : (tag value : ℕ) (regs : Registers) (register : Register)
    → seen (issued_bit tag) (port_written regs register value).port
    ≡ issues value tag regs.port.running (word_has regs.port.issued tag) register
port_issued tag value regs at.ListBase = refl
port_issued tag value regs at.ListBaseUpper = refl
port_issued tag value regs at.FisBase = refl
port_issued tag value regs at.FisBaseUpper = refl
port_issued tag value regs at.InterruptStatus = refl
port_issued tag value regs at.InterruptEnable = refl
port_issued tag value regs at.Command =
    commanded (issued_bit tag) regs value
    ∙ run_issued tag (has_bits value start_bit) (record regs.port { receiving = has_bits value 0x10 })
port_issued tag value regs at.TaskFile = refl
port_issued tag value regs at.Signature = refl
port_issued tag value regs at.SataStatus = refl
port_issued tag value regs at.SataControl = controlled_so (issued_bit tag) regs value
port_issued tag value regs at.SataError = refl
port_issued tag value regs at.Active = ap (λ (w : ℕ). word_has w tag) (active_if value regs.port.running regs.port)
port_issued tag value regs at.Issue = issue_if tag value regs.port.running regs.port

raised_issued : (bits : ℕ) (raises : Bool) (regs : Regs) → (raised bits raises regs).issued ≡ regs.issued
raised_issued bits true regs = refl
raised_issued bits false regs = refl

no_more_has : (tag slot : ℕ) (ends : Bool) (regs : Regs) → slot < 32 → tag < 32
    → word_has (no_more_issued slot ends regs).issued tag ≡ (not (ends && slot == tag) && word_has regs.issued tag)
no_more_has tag slot true regs s t = has_without_one regs.issued slot tag s t
no_more_has tag slot false regs s t = refl

shown_issued : (tag slot : ℕ) (regs : Regs) (fis : Fis) → slot < 32 → tag < 32
    → word_has (shown slot regs fis).issued tag ≡ (not (ends_command fis && slot == tag) && word_has regs.issued tag)
shown_issued tag slot regs (fises.H2d f) s t = refl
shown_issued tag slot regs (fises.D2h f) s t =
    no_more_has tag slot (is_finished f.status) (raised register_bit f.interrupt (with_task f.status f.error regs)) s t
    ∙ ap (λ (w : ℕ). not (is_finished f.status && slot == tag) && word_has w tag)
    (raised_issued register_bit f.interrupt (with_task f.status f.error regs)
    ∙ raised_issued task_error_bit (f.status % 2 == 1) (record regs { status = f.status; error = f.error }))
shown_issued tag slot regs (fises.PioSetup f) s t =
    let ends = f.to_host && is_finished f.end_status in
    no_more_has tag slot ends (raised pio_setup_bit f.interrupt (with_task f.end_status f.error regs)) s t
    ∙ ap (λ (w : ℕ). not (ends && slot == tag) && word_has w tag)
    (raised_issued pio_setup_bit f.interrupt (with_task f.end_status f.error regs)
    ∙ raised_issued task_error_bit (f.end_status % 2 == 1) (record regs { status = f.end_status; error = f.error }))
shown_issued tag slot regs (fises.DmaSetup f) s t =
    ap (λ (w : ℕ). word_has w tag) (raised_issued dma_setup_bit f.interrupt regs)
shown_issued tag slot regs (fises.SetDeviceBits f) s t =
    let status = carried regs.status f.status in
    ap (λ (w : ℕ). word_has w tag)
    (raised_issued device_bits_bit f.interrupt (with_task status f.error regs)
    ∙ raised_issued task_error_bit (status % 2 == 1) (record regs { status = status; error = f.error }))

both_end : (a b x y : Bool) → (not (b && x) && (not (a && x) && y)) ≡ (not ((a || b) && x) && y)
both_end false b x y = refl
both_end true false x y = refl
both_end true true true y = refl
both_end true true false y = refl

all_issued : (tag slot : ℕ) (list : List Fis) (regs : Regs) → slot < 32 → tag < 32
    → word_has (all_shown slot regs list).issued tag ≡ (not (one_ends list && slot == tag) && word_has regs.issued tag)
all_issued tag slot [] regs s t = refl
all_issued tag slot (fis ∷ later) regs s t =
    all_issued tag slot later (shown slot regs fis) s t
    ∙ ap (λ (b : Bool). not (one_ends later && slot == tag) && b) (shown_issued tag slot regs fis s t)
    ∙ both_end (ends_command fis) (one_ends later) (slot == tag) (word_has regs.issued tag)

pub served_issued : (missed : Option Miss) (tag slot : ℕ) (list : List Fis) (regs : Registers) → slot < 32 → tag < 32
    → word_has (served slot list missed regs).port.issued tag
    ≡ (not (one_ends (shown_if missed list) && slot == tag) && word_has regs.port.issued tag)
served_issued None tag slot list regs s t = all_issued tag slot list regs.port s t
served_issued (Some misses.List) tag slot list regs s t = refl
served_issued (Some misses.Table) tag slot list regs s t = refl
served_issued (Some misses.Block) tag slot list regs s t = refl
served_issued (Some misses.Overflow) tag slot list regs s t = refl
served_issued (Some misses.Fis) tag slot list regs s t = all_issued tag slot list regs.port s t

pub issued_law : IssuedLaw
issued_law o [] tag w t = has_zero tag
issued_law o (Wrote offset value ∷ before) tag w t =
    let regs = regs_of o before in
    written_so (issued_bit tag) (issues value tag regs.port.running (word_has regs.port.issued tag)) false regs offset value
    (port_issued tag value regs) (has_zero tag)
    ∙ ap (λ (b : Bool). by_write (issues value tag b (word_has regs.port.issued tag)) false (word_has regs.port.issued tag) offset value)
    (running_law o before)
    ∙ ap (λ (b : Bool). by_write (issues value tag (runs before) b) false b offset value) (issued_law o before tag w.1 t)
issued_law o (Powered ∷ before) tag w t = has_zero tag
issued_law o (Signed ∷ before) tag w t = issued_law o before tag w.1 t
issued_law o (Missed fetched miss ∷ before) tag w t = issued_law o before tag w.1 t
issued_law o (Controlled slot ∷ before) tag w t =
    has_without_one (regs_of o before).port.issued slot tag w.0 t
    ∙ ap (λ (b : Bool). not (slot == tag) && b) (issued_law o before tag w.1 t)
issued_law o (Asserted slot ∷ before) tag w t =
    has_without_one (regs_of o before).port.issued slot tag w.0 t
    ∙ ap (λ (b : Bool). not (slot == tag) && b) (issued_law o before tag w.1 t)
issued_law o (Restarted slot ∷ before) tag w t =
    has_without_one (regs_of o before).port.issued slot tag w.0 t
    ∙ ap (λ (b : Bool). not (slot == tag) && b) (issued_law o before tag w.1 t)
issued_law o (Unheard slot ∷ before) tag w t = issued_law o before tag w.1 t
issued_law o (Fetched slot fis payload arrival ∷ before) tag w t =
    let list = (effect_after o (account o before) (Accept fis payload)).fises in
    served_issued arrival.missed tag slot list (moved arrival (fetching slot (regs_of o before))) w.0 t
    ∙ ap (λ (b : Bool). not (one_ends (shown_if arrival.missed list) && slot == tag) && b) (issued_law o before tag w.1 t)
issued_law o (Completed slot payload arrival ∷ before) tag w t =
    let list = (effect_after o (account o before) (Complete slot payload)).fises in
    served_issued arrival.missed tag slot list (moved arrival (regs_of o before)) w.0 t
    ∙ ap (λ (b : Bool). not (one_ends (shown_if arrival.missed list) && slot == tag) && b) (issued_law o before tag w.1 t)

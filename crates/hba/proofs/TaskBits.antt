-- The task file and the link's state, operation by operation.
use Rattle.std.proofs.Common.{◌≡◌, ℕ, ◌+◌, ◌-◌, ◌*◌, ◌/◌, ◌%◌, Bool, true, false, not, nat_le, bit_and, List, [], ◌∷◌, Option, Some, None, refl, ap, arith, ◌∙◌}
use Rattle.std.specs.Prelude.{◌==◌, ◌&&◌, bit_or, if◌then◌else◌}
use Rattle.std.proofs.lemmas.Nat.{and_mask}
use Rattle.std.proofs.Math.Pow.{mod-mod-pow}
use Rattle.fis.specs.declared.any.Fis.{Fis}
use Rattle.fis.specs.declared.any.Fis.TheVariants as fises
use Rattle.hba_regs.specs.declared.register.Register.{Register}
use Rattle.hba_regs.specs.declared.register.Register.TheVariants as at
use Rattle.hba_regs.specs.Registers.{Regs, register_at, has_bits, start_bit, receive_bit, run_if}
use Rattle.history.specs.History.{Accept, Complete}
use Rattle.host_memory.specs.declared.hba_memory.miss.Miss.{Miss}
use Rattle.host_memory.specs.declared.hba_memory.miss.Miss.TheVariants as misses
use Rattle.port_history.specs.Registers.{raised, with_task, task_error_bit, carried, no_more_issued, shown, all_shown, is_finished, register_bit, pio_setup_bit, dma_setup_bit, device_bits_bit}
use Rattle.hba.specs.declared.registers.Registers.{Registers}
use Rattle.hba.specs.Registers.{is_up, port_at, reset_bit, enable_bit, override_bit, packet_bit, light_bit, control_bits, link_bits, fastest, speed_by, link_word, kept, stopped_if, overridden, lost_if, found_if, goes_down, comes_up, noted, port_written, port_written_of, after_hba_reset, written_at}
use Rattle.hba.specs.Showing.{served, moved, fetching}
use Rattle.hba.specs.History.{Opened, Operation, Wrote, Powered, Signed, Missed, Controlled, Asserted, Restarted, Unheard, Fetched, Completed, account, regs_of, effect_after}
use Rattle.hba.specs.BitLaws.{linked, shown_if}
use Rattle.hba.specs.TaskLaws.{left_at, left_by, Task, awaited_task, task_told, task_told_by, task_overridden, task_linked, task_after, task_of, TaskLaw, detection_after, detection, speed_after, link_speed, LinkStatusLaw}
use Rattle.hba.proofs.LinkBits.{is_linked, linked_law, link_control, command_control, run_control, tags_control, served_control}

-- A write, by where it goes, for what a look finds.
at_offset : {A : Type 0} (look : Registers → A) (port : Register → A) (reset : A) (regs : Registers) (value : ℕ)
    → ((register : Register) → look (port_written regs register value) ≡ port register)
    → look (after_hba_reset regs) ≡ reset
    → ((b : Bool) → look (record regs { interrupts_enabled = b }) ≡ look regs)
    → ((b : Bool) → look (record regs { is_raised = b }) ≡ look regs)
    → (is_port : Bool) (register : Option Register) (is_control is_status resets enables raises : Bool)
    → look (if is_port then port_written_of regs register value
    else (if is_control
    then (if resets then after_hba_reset regs else record regs { interrupts_enabled = enables })
    else (if is_status then record regs { is_raised = raises } else regs)))
    ≡ (if is_port then left_at port (look regs) register
    else (if is_control && resets then reset else look regs))
at_offset look port reset regs value p r e s true None is_control is_status resets enables raises = refl
at_offset look port reset regs value p r e s true (Some register) is_control is_status resets enables raises = p register
at_offset look port reset regs value p r e s false register true is_status true enables raises = r
at_offset look port reset regs value p r e s false register true is_status false enables raises = e enables
at_offset look port reset regs value p r e s false register false true resets enables raises = s raises
at_offset look port reset regs value p r e s false register false false resets enables raises = refl

pub left_so : {A : Type 0} (look : Registers → A) (port : Register → A) (reset : A) (regs : Registers) (offset value : ℕ)
    → ((other : Registers) → look (noted other) ≡ look other)
    → ((register : Register) → look (port_written regs register value) ≡ port register)
    → look (after_hba_reset regs) ≡ reset
    → ((b : Bool) → look (record regs { interrupts_enabled = b }) ≡ look regs)
    → ((b : Bool) → look (record regs { is_raised = b }) ≡ look regs)
    → look (written_at regs offset value) ≡ left_by port reset (look regs) offset value
left_so look port reset regs offset value n p r e s =
    n _
    ∙ at_offset look port reset regs value p r e s (nat_le port_at offset) (register_at (offset - port_at))
    (offset == 0x04) (offset == 0x08) (has_bits value reset_bit) (has_bits value enable_bit)
    (regs.is_raised && not (has_bits value 1))

-- The task file.
abbrev of_port : Regs → Task
of_port regs = record { status = regs.status; error = regs.error }

abbrev shown_task : Registers → Task
shown_task regs = of_port regs.port

command_task : (st override gets packet light : Bool) (regs : Registers)
    → shown_task (stopped_if (not st) (overridden override (record regs {
      port = run_if st (record regs.port { receiving = gets });
      is_packet = packet;
      has_light = light;
    })))
    ≡ task_overridden override (shown_task regs)
command_task true true gets packet light regs = refl
command_task true false gets packet light regs = refl
command_task false true gets packet light regs = refl
command_task false false gets packet light regs = refl

link_task : (was is : Bool) (regs : Registers)
    → shown_task (found_if (not was && is) (lost_if (was && not is) regs)) ≡ task_linked was is (shown_task regs)
link_task true true regs = refl
link_task true false regs = refl
link_task false true regs = refl
link_task false false regs = refl

tags_task : (st : Bool) (one other : Regs) → of_port one ≡ of_port other
    → of_port (if st then one else other) ≡ of_port other
tags_task true one other e = e
tags_task false one other e = refl

port_task : (value : ℕ) (regs : Registers) (register : Register)
    → shown_task (port_written regs register value) ≡ task_after value (is_linked regs) (shown_task regs) register
port_task value regs at.ListBase = refl
port_task value regs at.ListBaseUpper = refl
port_task value regs at.FisBase = refl
port_task value regs at.FisBaseUpper = refl
port_task value regs at.InterruptStatus = refl
port_task value regs at.InterruptEnable = refl
port_task value regs at.Command =
    command_task (has_bits value start_bit) (has_bits value override_bit) (has_bits value receive_bit)
    (has_bits value packet_bit) (has_bits value light_bit) regs
port_task value regs at.TaskFile = refl
port_task value regs at.Signature = refl
port_task value regs at.SataStatus = refl
port_task value regs at.SataControl =
    link_task (is_up regs.port.control) (is_up value) (kept regs at.SataControl (bit_and value control_bits))
port_task value regs at.SataError = refl
port_task value regs at.Active =
    tags_task regs.port.running (record regs.port { active = bit_or regs.port.active value }) regs.port refl
port_task value regs at.Issue =
    tags_task regs.port.running (record regs.port { issued = bit_or regs.port.issued value }) regs.port refl

-- FISes.
raised_task : (bits : ℕ) (raises : Bool) (regs : Regs) → of_port (raised bits raises regs) ≡ of_port regs
raised_task bits true regs = refl
raised_task bits false regs = refl

ended_task : (tag : ℕ) (ends : Bool) (regs : Regs) → of_port (no_more_issued tag ends regs) ≡ of_port regs
ended_task tag true regs = refl
ended_task tag false regs = refl

taken_task : (bits status error : ℕ) (told : Bool) (regs : Regs)
    → of_port (raised bits told (with_task status error regs)) ≡ record { status = status; error = error }
taken_task bits status error told regs =
    raised_task bits told (with_task status error regs)
    ∙ raised_task task_error_bit (status % 2 == 1) (record regs { status = status; error = error })

fis_task : (tag : ℕ) (regs : Regs) (fis : Fis) → of_port (shown tag regs fis) ≡ task_told (of_port regs) fis
fis_task tag regs (fises.H2d f) = refl
fis_task tag regs (fises.D2h f) =
    ended_task tag (is_finished f.status) (raised register_bit f.interrupt (with_task f.status f.error regs))
    ∙ taken_task register_bit f.status f.error f.interrupt regs
fis_task tag regs (fises.PioSetup f) =
    ended_task tag (f.to_host && is_finished f.end_status)
    (raised pio_setup_bit f.interrupt (with_task f.end_status f.error regs))
    ∙ taken_task pio_setup_bit f.end_status f.error f.interrupt regs
fis_task tag regs (fises.DmaSetup f) = raised_task dma_setup_bit f.interrupt regs
fis_task tag regs (fises.SetDeviceBits f) =
    taken_task device_bits_bit (carried regs.status f.status) f.error f.interrupt regs

fises_task : (tag : ℕ) (list : List Fis) (regs : Regs)
    → of_port (all_shown tag regs list) ≡ task_told_by (of_port regs) list
fises_task tag [] regs = refl
fises_task tag (fis ∷ later) regs =
    fises_task tag later (shown tag regs fis)
    ∙ ap (λ (task : Task). task_told_by task later) (fis_task tag regs fis)

served_task : (missed : Option Miss) (tag : ℕ) (list : List Fis) (regs : Registers)
    → shown_task (served tag list missed regs) ≡ task_told_by (shown_task regs) (shown_if missed list)
served_task None tag list regs = fises_task tag list regs.port
served_task (Some misses.List) tag list regs = refl
served_task (Some misses.Table) tag list regs = refl
served_task (Some misses.Block) tag list regs = refl
served_task (Some misses.Overflow) tag list regs = refl
served_task (Some misses.Fis) tag list regs = fises_task tag list regs.port

task_so : (o : Opened) (list : List Operation) → shown_task (regs_of o list) ≡ task_of o list
task_so o [] = refl
task_so o (Wrote offset value ∷ before) =
    let regs = regs_of o before in
    left_so shown_task (task_after value (is_linked regs) (shown_task regs)) awaited_task regs offset value
    (λ other. refl) (port_task value regs) refl (λ b. refl) (λ b. refl)
    ∙ ap (λ (up : Bool). left_by (task_after value up (shown_task regs)) awaited_task (shown_task regs) offset value)
    (linked_law o before)
    ∙ ap (λ (task : Task). left_by (task_after value (linked before) task) awaited_task task offset value)
    (task_so o before)
task_so o (Powered ∷ before) = refl
task_so o (Signed ∷ before) = refl
task_so o (Missed fetched miss ∷ before) = task_so o before
task_so o (Controlled tag ∷ before) = task_so o before
task_so o (Asserted tag ∷ before) = task_so o before
task_so o (Restarted tag ∷ before) = refl
task_so o (Unheard tag ∷ before) =
    ap (λ (task : Task). record { status = bit_or task.status 0x80; error = task.error }) (task_so o before)
task_so o (Fetched tag fis payload arrival ∷ before) =
    let list = (effect_after o (account o before) (Accept fis payload)).fises in
    served_task arrival.missed tag list (moved arrival (fetching tag (regs_of o before)))
    ∙ ap (λ (task : Task). task_told_by task (shown_if arrival.missed list)) (task_so o before)
task_so o (Completed tag payload arrival ∷ before) =
    let list = (effect_after o (account o before) (Complete tag payload)).fises in
    served_task arrival.missed tag list (moved arrival (regs_of o before))
    ∙ ap (λ (task : Task). task_told_by task (shown_if arrival.missed list)) (task_so o before)

pub task_law : TaskLaw
task_law o list = ap (λ (task : Task). task.status + 256 * task.error) (task_so o list)

-- PxSSTS.
abbrev shown_detection : Registers → ℕ
shown_detection regs = regs.port.control % 16

detection_kept : (value : ℕ) → bit_and value control_bits % 16 ≡ value % 16
detection_kept value = ap (λ (n : ℕ). n % 16) (and_mask value 12) ∙ mod-mod-pow value 8 4

port_detection : (value : ℕ) (regs : Registers) (register : Register)
    → shown_detection (port_written regs register value) ≡ detection_after value (shown_detection regs) register
port_detection value regs at.ListBase = refl
port_detection value regs at.ListBaseUpper = refl
port_detection value regs at.FisBase = refl
port_detection value regs at.FisBaseUpper = refl
port_detection value regs at.InterruptStatus = refl
port_detection value regs at.InterruptEnable = refl
port_detection value regs at.Command =
    ap (λ (n : ℕ). n % 16)
    (command_control (not (has_bits value start_bit)) (has_bits value override_bit) (record regs {
      port = run_if (has_bits value start_bit) (record regs.port { receiving = has_bits value receive_bit });
      is_packet = has_bits value packet_bit;
      has_light = has_bits value light_bit;
    })
    ∙ run_control (has_bits value start_bit) (record regs.port { receiving = has_bits value receive_bit }))
port_detection value regs at.TaskFile = refl
port_detection value regs at.Signature = refl
port_detection value regs at.SataStatus = refl
port_detection value regs at.SataControl =
    ap (λ (n : ℕ). n % 16)
    (link_control (comes_up regs value) (goes_down regs value) (kept regs at.SataControl (bit_and value control_bits)))
    ∙ detection_kept value
port_detection value regs at.SataError = refl
port_detection value regs at.Active =
    ap (λ (n : ℕ). n % 16)
    (tags_control regs.port.running (record regs.port { active = bit_or regs.port.active value }) regs.port refl)
port_detection value regs at.Issue =
    ap (λ (n : ℕ). n % 16)
    (tags_control regs.port.running (record regs.port { issued = bit_or regs.port.issued value }) regs.port refl)

detection_so : (o : Opened) (list : List Operation) → shown_detection (regs_of o list) ≡ detection list
detection_so o [] = refl
detection_so o (Wrote offset value ∷ before) =
    let regs = regs_of o before in
    left_so shown_detection (detection_after value (shown_detection regs)) 0 regs offset value
    (λ other. refl) (port_detection value regs) refl (λ b. refl) (λ b. refl)
    ∙ ap (λ (n : ℕ). left_by (detection_after value n) 0 n offset value) (detection_so o before)
detection_so o (Powered ∷ before) = refl
detection_so o (Signed ∷ before) = detection_so o before
detection_so o (Missed fetched miss ∷ before) = detection_so o before
detection_so o (Controlled tag ∷ before) = detection_so o before
detection_so o (Asserted tag ∷ before) = detection_so o before
detection_so o (Restarted tag ∷ before) = detection_so o before
detection_so o (Unheard tag ∷ before) = detection_so o before
detection_so o (Fetched tag fis payload arrival ∷ before) =
    ap (λ (n : ℕ). n % 16)
    (served_control arrival.missed tag (effect_after o (account o before) (Accept fis payload)).fises
    (moved arrival (fetching tag (regs_of o before))))
    ∙ detection_so o before
detection_so o (Completed tag payload arrival ∷ before) =
    ap (λ (n : ℕ). n % 16)
    (served_control arrival.missed tag (effect_after o (account o before) (Complete tag payload)).fises
    (moved arrival (regs_of o before)))
    ∙ detection_so o before

-- SPD.
abbrev shown_speed : Registers → ℕ
shown_speed regs = regs.speed

command_speed : (stops override : Bool) (regs : Registers)
    → (stopped_if stops (overridden override regs)).speed ≡ regs.speed
command_speed true true regs = refl
command_speed true false regs = refl
command_speed false true regs = refl
command_speed false false regs = refl

speed_found : (comes goes : Bool) (regs : Registers)
    → (found_if comes (lost_if goes regs)).speed ≡ (if comes then speed_by regs.port.control else regs.speed)
speed_found true true regs = refl
speed_found true false regs = refl
speed_found false true regs = refl
speed_found false false regs = refl

speed_kept : (value : ℕ) → bit_and value control_bits / 16 % 16 ≡ value / 16 % 16
speed_kept value =
    let below : value % 4096 / 16 % 16 ≡ value / 16 % 16 = omega arith in
    ap (λ (n : ℕ). n / 16 % 16) (and_mask value 12) ∙ below

port_speed : (value : ℕ) (regs : Registers) (register : Register)
    → shown_speed (port_written regs register value) ≡ speed_after value (is_linked regs) regs.speed register
port_speed value regs at.ListBase = refl
port_speed value regs at.ListBaseUpper = refl
port_speed value regs at.FisBase = refl
port_speed value regs at.FisBaseUpper = refl
port_speed value regs at.InterruptStatus = refl
port_speed value regs at.InterruptEnable = refl
port_speed value regs at.Command =
    command_speed (not (has_bits value start_bit)) (has_bits value override_bit) (record regs {
      port = run_if (has_bits value start_bit) (record regs.port { receiving = has_bits value receive_bit });
      is_packet = has_bits value packet_bit;
      has_light = has_bits value light_bit;
    })
port_speed value regs at.TaskFile = refl
port_speed value regs at.Signature = refl
port_speed value regs at.SataStatus = refl
port_speed value regs at.SataControl =
    speed_found (comes_up regs value) (goes_down regs value) (kept regs at.SataControl (bit_and value control_bits))
    ∙ ap (λ (n : ℕ). if comes_up regs value then (if n == 1 then 1 else fastest) else regs.speed) (speed_kept value)
port_speed value regs at.SataError = refl
port_speed value regs at.Active = refl
port_speed value regs at.Issue = refl

served_speed : (missed : Option Miss) (tag : ℕ) (list : List Fis) (regs : Registers)
    → (served tag list missed regs).speed ≡ regs.speed
served_speed None tag list regs = refl
served_speed (Some misses.List) tag list regs = refl
served_speed (Some misses.Table) tag list regs = refl
served_speed (Some misses.Block) tag list regs = refl
served_speed (Some misses.Overflow) tag list regs = refl
served_speed (Some misses.Fis) tag list regs = refl

speed_so : (o : Opened) (list : List Operation) → shown_speed (regs_of o list) ≡ link_speed list
speed_so o [] = refl
speed_so o (Wrote offset value ∷ before) =
    let regs = regs_of o before in
    left_so shown_speed (speed_after value (is_linked regs) regs.speed) 2 regs offset value
    (λ other. refl) (port_speed value regs) refl (λ b. refl) (λ b. refl)
    ∙ ap (λ (up : Bool). left_by (speed_after value up regs.speed) 2 regs.speed offset value) (linked_law o before)
    ∙ ap (λ (n : ℕ). left_by (speed_after value (linked before) n) 2 n offset value) (speed_so o before)
speed_so o (Powered ∷ before) = refl
speed_so o (Signed ∷ before) = speed_so o before
speed_so o (Missed fetched miss ∷ before) = speed_so o before
speed_so o (Controlled tag ∷ before) = speed_so o before
speed_so o (Asserted tag ∷ before) = speed_so o before
speed_so o (Restarted tag ∷ before) = speed_so o before
speed_so o (Unheard tag ∷ before) = speed_so o before
speed_so o (Fetched tag fis payload arrival ∷ before) =
    served_speed arrival.missed tag (effect_after o (account o before) (Accept fis payload)).fises
    (moved arrival (fetching tag (regs_of o before)))
    ∙ speed_so o before
speed_so o (Completed tag payload arrival ∷ before) =
    served_speed arrival.missed tag (effect_after o (account o before) (Complete tag payload)).fises
    (moved arrival (regs_of o before))
    ∙ speed_so o before

abbrev status_word : ℕ → ℕ → ℕ
status_word speed detected =
    if detected == 0 then link_bits + 16 * speed else (if detected == 4 then 4 else 0)

pub link_status_law : LinkStatusLaw
link_status_law o list =
    ap (λ (n : ℕ). status_word (regs_of o list).speed n) (detection_so o list)
    ∙ ap (λ (n : ℕ). status_word n (detection list)) (speed_so o list)

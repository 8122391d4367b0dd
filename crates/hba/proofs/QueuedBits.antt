-- The bits of PxSACT, operation by operation.
use Rattle.std.proofs.Common.{◌≡◌, ℕ, ◌+◌, ◌/◌, ◌^◌, ◌<◌, Bool, true, false, not, List, [], ◌∷◌, map, length, Option, Some, None, refl, ap, ◌∙◌}
use Rattle.std.specs.Prelude.{◌&&◌, ◌||◌, is_some, unwrap_or, Result, Ok, Err, bit_or, if◌then◌else◌}
use Rattle.std.proofs.lemmas.Nat.{pow_below}
use Rattle.fis.specs.H2d.{h2d_at}
use Rattle.fis.specs.declared.any.Fis.{Fis}
use Rattle.fis.specs.declared.any.Fis.TheVariants as fises
use Rattle.hba_regs.specs.declared.register.Register.{Register}
use Rattle.hba_regs.specs.declared.register.Register.TheVariants as at
use Rattle.hba_regs.specs.Registers.{Regs, has_bits, start_bit, run_if, without}
use Rattle.trusted_cmds.specs.declared.command.Command.{Command}
use Rattle.trusted_cmds.specs.declared.command.Command.TheVariants.{ReadQueued, WriteQueued, ReadDma, WriteDma, Send, Receive, Identify, ReadLog10, Flush, SetFeatures, ReadLog, ReadPio, WritePio, Verify, Trim, Control}
use Rattle.trusted_cmds.specs.declared.control.Control.TheVariants.{SetMultiple, Idle, Standby, CheckPowerMode, Diagnose}
use Rattle.device_data.specs.declared.settings.Settings.{Settings}
use Rattle.trusted_cmds.specs.declared.command.CommandError.{CommandError}
use Rattle.history.specs.Answers.{errored, ready, answer_fis, is_holding, served_fises, fises_read, fises_of, completed_fises}
use Rattle.history.specs.Events.{HeldCommand}
use Rattle.history.specs.History.{Accept, Complete, event_by}
use Rattle.history.specs.Tcg.{command_read}
use Rattle.host_memory.specs.declared.hba_memory.miss.Miss.{Miss}
use Rattle.host_memory.specs.declared.hba_memory.miss.Miss.TheVariants as misses
use Rattle.port_history.specs.Registers.{all_shown}
use Rattle.hba.specs.declared.registers.Registers.{Registers}
use Rattle.hba.specs.Registers.{port_written}
use Rattle.hba.specs.Blocks.{block_size, of_last_block}
use Rattle.hba.specs.Showing.{served, moved, fetching}
use Rattle.hba.specs.History.{facts_of, Wrote, Powered, Signed, Missed, Controlled, Asserted, Restarted, Unheard, Fetched, Completed, account, acts_of, regs_of, drive_effect, effect_after}
use Rattle.hba.specs.BitLaws.{word_has, by_write, runs, shown_if, one_ends_queued, queues, QueuedLaw}
use Rattle.hba.proofs.BitsOfWords.{has_zero, has_or, has_without}
use Rattle.hba.proofs.BitByBit.{seen, written_so, commanded, controlled_so, or_false, running_law}
use Rattle.hba.proofs.Shown.{active_after, shown_active}

abbrev queued_bit : ℕ → Bool → ℕ → ℕ → ℕ → Bool
queued_bit tag st issued active interrupts = word_has active tag

run_queued : (tag : ℕ) (st : Bool) (regs : Regs)
    → word_has (run_if st regs).active tag ≡ (st && word_has regs.active tag)
run_queued tag true regs = refl
run_queued tag false regs = has_zero tag

queue_if : (tag value : ℕ) (st : Bool) (regs : Regs)
    → word_has (if st then record regs { active = bit_or regs.active value } else regs).active tag
    ≡ (word_has regs.active tag || st && word_has value tag)
queue_if tag value true regs = has_or regs.active value tag
queue_if tag value false regs = or_false (word_has regs.active tag)

issue_if : (value : ℕ) (st : Bool) (regs : Regs)
    → (if st then record regs { issued = bit_or regs.issued value } else regs).active ≡ regs.active
issue_if value true regs = refl
issue_if value false regs = refl

port_queued : (tag value : ℕ) (regs : Registers) (register : Register)
    → seen (queued_bit tag) (port_written regs register value).port
    ≡ queues value tag regs.port.running (word_has regs.port.active tag) register
port_queued tag value regs at.ListBase = refl
port_queued tag value regs at.ListBaseUpper = refl
port_queued tag value regs at.FisBase = refl
port_queued tag value regs at.FisBaseUpper = refl
port_queued tag value regs at.InterruptStatus = refl
port_queued tag value regs at.InterruptEnable = refl
port_queued tag value regs at.Command =
    commanded (queued_bit tag) regs value
    ∙ run_queued tag (has_bits value start_bit) (record regs.port { receiving = has_bits value 0x10 })
port_queued tag value regs at.TaskFile = refl
port_queued tag value regs at.Signature = refl
port_queued tag value regs at.SataStatus = refl
port_queued tag value regs at.SataControl = controlled_so (queued_bit tag) regs value
port_queued tag value regs at.SataError = refl
port_queued tag value regs at.Active = queue_if tag value regs.port.running regs.port
port_queued tag value regs at.Issue = ap (λ (w : ℕ). word_has w tag) (issue_if value regs.port.running regs.port)

-- Each Set Device Bits FIS has a word of tags.
abbrev AreWords : List Fis → Type 0
AreWords [] = Unit {0}
AreWords (fises.H2d f ∷ later) = AreWords later
AreWords (fises.D2h f ∷ later) = AreWords later
AreWords (fises.PioSetup f ∷ later) = AreWords later
AreWords (fises.DmaSetup f ∷ later) = AreWords later
AreWords (fises.SetDeviceBits f ∷ later) = (f.active < 2 ^ 32) × AreWords later

neither : (a b x : Bool) → (not b && (not a && x)) ≡ (not (a || b) && x)
neither false b x = refl
neither true true x = refl
neither true false x = refl

after_list : (tag active : ℕ) (list : List Fis) → tag < 32 → AreWords list
    → word_has (active_after active list) tag ≡ (not (one_ends_queued tag list) && word_has active tag)
after_list tag active [] t w = refl
after_list tag active (fises.H2d f ∷ later) t w = after_list tag active later t w
after_list tag active (fises.D2h f ∷ later) t w = after_list tag active later t w
after_list tag active (fises.PioSetup f ∷ later) t w = after_list tag active later t w
after_list tag active (fises.DmaSetup f ∷ later) t w = after_list tag active later t w
after_list tag active (fises.SetDeviceBits f ∷ later) t w =
    after_list tag (without active f.active) later t w.1
    ∙ ap (λ (x : Bool). not (one_ends_queued tag later) && x) (has_without active f.active tag w.0 t)
    ∙ neither (word_has f.active tag) (one_ends_queued tag later) (word_has active tag)

all_queued : (tag slot : ℕ) (list : List Fis) (regs : Regs) → tag < 32 → AreWords list
    → word_has (all_shown slot regs list).active tag ≡ (not (one_ends_queued tag list) && word_has regs.active tag)
all_queued tag slot list regs t w =
    ap (λ (x : ℕ). word_has x tag) (shown_active slot list regs) ∙ after_list tag regs.active list t w

served_queued : (missed : Option Miss) (tag slot : ℕ) (list : List Fis) (regs : Registers) → tag < 32
    → AreWords list
    → word_has (served slot list missed regs).port.active tag
    ≡ (not (one_ends_queued tag (shown_if missed list)) && word_has regs.port.active tag)
served_queued None tag slot list regs t w = all_queued tag slot list regs.port t w
served_queued (Some misses.List) tag slot list regs t w = refl
served_queued (Some misses.Table) tag slot list regs t w = refl
served_queued (Some misses.Block) tag slot list regs t w = refl
served_queued (Some misses.Overflow) tag slot list regs t w = refl
served_queued (Some misses.Fis) tag slot list regs t w = all_queued tag slot list regs.port t w

-- A command that is accepted has none of them.
served_words : (n : ℕ) (settings : Settings) (command : Command) → AreWords (map (of_last_block n) (served_fises settings command))
served_words n settings (ReadQueued lba count) = tt
served_words n settings (WriteQueued lba count) = tt
served_words n settings (ReadDma lba count) = tt
served_words n settings (WriteDma lba count) = tt
served_words n settings (Send protocol com_id blocks true) = tt
served_words n settings (Send protocol com_id blocks false) = tt
served_words n settings (Receive protocol com_id blocks true) = tt
served_words n settings (Receive protocol com_id blocks false) = tt
served_words n settings Identify = tt
served_words n settings (ReadLog10 true) = tt
served_words n settings (ReadLog10 false) = tt
served_words n settings Flush = tt
served_words n settings (SetFeatures feature) = tt
served_words n settings (ReadLog page true) = tt
served_words n settings (ReadLog page false) = tt
served_words n settings (ReadPio lba count) = tt
served_words n settings (WritePio lba count) = tt
served_words n settings (Verify lba count) = tt
served_words n settings (Trim blocks) = tt
served_words n settings (Control SetMultiple) = tt
served_words n settings (Control Idle) = tt
served_words n settings (Control Standby) = tt
served_words n settings (Control CheckPowerMode) = tt
served_words n settings (Control Diagnose) = tt

read_words : (n : ℕ) (settings : Settings) (read : Result (Command × Option ℕ) CommandError)
    → AreWords (map (of_last_block n) (fises_read settings read))
read_words n settings (Err e) = tt
read_words n settings (Ok (command, slot)) = served_words n settings command

accepted_words : (n : ℕ) (settings : Settings) (error : Option ℕ) (holds : Bool) (read : Result (Command × Option ℕ) CommandError)
    → AreWords (map (of_last_block n)
    (if is_some error then answer_fis true errored (unwrap_or error 0) ∷ []
    else (if holds then answer_fis false ready 0 ∷ [] else fises_read settings read)))
accepted_words n settings (Some error) holds read = tt
accepted_words n settings None true read = tt
accepted_words n settings None false read = read_words n settings read

-- A completion has the bit of its tag.
command_words : (tag : ℕ) (command : Command) → tag < 32 → AreWords (fises_of tag command)
command_words tag (ReadQueued lba count) t = (pow_below tag 32 t, tt)
command_words tag (WriteQueued lba count) t = (pow_below tag 32 t, tt)
command_words tag (ReadDma lba count) t = tt
command_words tag (WriteDma lba count) t = tt
command_words tag (Send protocol com_id blocks dma) t = tt
command_words tag (Receive protocol com_id blocks dma) t = tt
command_words tag Identify t = tt
command_words tag (ReadLog10 dma) t = tt
command_words tag Flush t = tt
command_words tag (SetFeatures feature) t = tt
command_words tag (ReadLog page dma) t = tt
command_words tag (ReadPio lba count) t = tt
command_words tag (WritePio lba count) t = tt
command_words tag (Verify lba count) t = tt
command_words tag (Trim blocks) t = tt
command_words tag (Control control) t = tt

completed_words : (tag : ℕ) (held : Option HeldCommand) → tag < 32 → AreWords (completed_fises tag held)
completed_words tag None t = tt
completed_words tag (Some held) t = command_words tag held.command t

pub queued_law : QueuedLaw
queued_law o [] tag w t = has_zero tag
queued_law o (Wrote offset value ∷ before) tag w t =
    let regs = regs_of o before in
    written_so (queued_bit tag) (queues value tag regs.port.running (word_has regs.port.active tag)) false regs offset value
    (port_queued tag value regs) (has_zero tag)
    ∙ ap (λ (b : Bool). by_write (queues value tag b (word_has regs.port.active tag)) false (word_has regs.port.active tag) offset value)
    (running_law o before)
    ∙ ap (λ (b : Bool). by_write (queues value tag (runs before) b) false b offset value) (queued_law o before tag w.1 t)
queued_law o (Powered ∷ before) tag w t = has_zero tag
queued_law o (Signed ∷ before) tag w t = queued_law o before tag w.1 t
queued_law o (Missed fetched miss ∷ before) tag w t = queued_law o before tag w.1 t
queued_law o (Controlled slot ∷ before) tag w t = queued_law o before tag w.1 t
queued_law o (Asserted slot ∷ before) tag w t = queued_law o before tag w.1 t
queued_law o (Restarted slot ∷ before) tag w t = queued_law o before tag w.1 t
queued_law o (Unheard slot ∷ before) tag w t = queued_law o before tag w.1 t
queued_law o (Fetched slot fis payload arrival ∷ before) tag w t =
    let f = facts_of o (acts_of o before) in
    let event = event_by f (Accept fis payload) in
    let list = (effect_after o (account o before) (Accept fis payload)).fises in
    let n = (length payload + length (drive_effect o (account o before) (Accept fis payload)).bytes) / block_size in
    served_queued arrival.missed tag slot list (moved arrival (fetching slot (regs_of o before))) t
    (accepted_words n f.settings event.failed (is_holding event.deed) (command_read f.config (h2d_at fis)))
    ∙ ap (λ (b : Bool). not (one_ends_queued tag (shown_if arrival.missed list)) && b) (queued_law o before tag w.1 t)
queued_law o (Completed slot payload arrival ∷ before) tag w t =
    let f = facts_of o (acts_of o before) in
    let list = (effect_after o (account o before) (Complete slot payload)).fises in
    served_queued arrival.missed tag slot list (moved arrival (regs_of o before)) t
    (completed_words slot (f.held slot) w.0)
    ∙ ap (λ (b : Bool). not (one_ends_queued tag (shown_if arrival.missed list)) && b) (queued_law o before tag w.1 t)

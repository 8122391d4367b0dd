-- The bits of PxIS, operation by operation.
use Rattle.std.proofs.Common.{◌≡◌, ℕ, ◌^◌, ◌%◌, ◌<◌, min, Bool, true, false, List, [], ◌∷◌, Option, Some, None, refl, ap, sym, ◌∙◌, arith}
use Rattle.std.specs.Prelude.{◌==◌, ◌&&◌, ◌||◌, bit_and, bit_or, max, if◌then◌else◌}
use Rattle.std.specs.Int.{bit_at}
use Rattle.std.proofs.lemmas.Nat.Bits.{bit_at_lowest, bit_at_or, bit_at_and, bit_at-lt}
use Rattle.fis.specs.declared.any.Fis.{Fis}
use Rattle.fis.specs.declared.any.Fis.TheVariants as fises
use Rattle.hba_regs.specs.declared.register.Register.{Register}
use Rattle.hba_regs.specs.declared.register.Register.TheVariants as at
use Rattle.hba_regs.specs.Registers.{Regs, has_bits, start_bit, run_if}
use Rattle.history.specs.History.{Accept, Complete}
use Rattle.host_memory.specs.declared.hba_memory.miss.Miss.{Miss}
use Rattle.host_memory.specs.declared.hba_memory.miss.Miss.TheVariants as misses
use Rattle.host_memory.specs.declared.hba_memory.delivery.Arrival.{Arrival}
use Rattle.port_history.specs.Registers.{raised, with_task, task_error_bit, carried, kept_bits, carried_bits, no_more_issued, shown, all_shown, is_finished, register_bit, pio_setup_bit, dma_setup_bit, device_bits_bit}
use Rattle.hba.specs.declared.registers.Registers.{Registers}
use Rattle.hba.specs.Registers.{processed_bit, overflow_bit, port_written, interrupts}
use Rattle.hba.specs.Showing.{served, moved, fetching, bits_of}
use Rattle.hba.specs.History.{Wrote, Powered, Signed, Missed, Controlled, Asserted, Restarted, Unheard, Fetched, Completed, account, regs_of, effect_after}
use Rattle.hba.specs.BitLaws.{word_has, by_write, shown_if, raises, one_raises, missing_raises, arrival_raises, clears, RaisedLaw}
use Rattle.hba.proofs.BitsOfWords.{has_zero, has_or, has_without}
use Rattle.hba.proofs.BitByBit.{seen, written_so, commanded, controlled_so, or_false}

abbrev raised_bit : ℕ → Bool → ℕ → ℕ → ℕ → Bool
raised_bit bit st issued active interrupts = word_has interrupts bit

run_raised : (st : Bool) (regs : Regs) → (run_if st regs).interrupts ≡ regs.interrupts
run_raised true regs = refl
run_raised false regs = refl

tags_if : (st : Bool) (one other : Regs) → one.interrupts ≡ other.interrupts
    → (if st then one else other).interrupts ≡ other.interrupts
tags_if true one other e = e
tags_if false one other e = refl

port_raised : (bit value : ℕ) (regs : Registers) → value < 2 ^ 32 → bit < 32 → (register : Register)
    → seen (raised_bit bit) (port_written regs register value).port
    ≡ clears value bit (word_has regs.port.interrupts bit) register
port_raised bit value regs v b at.ListBase = refl
port_raised bit value regs v b at.ListBaseUpper = refl
port_raised bit value regs v b at.FisBase = refl
port_raised bit value regs v b at.FisBaseUpper = refl
port_raised bit value regs v b at.InterruptStatus = has_without regs.port.interrupts value bit v b
port_raised bit value regs v b at.InterruptEnable = refl
port_raised bit value regs v b at.Command =
    commanded (raised_bit bit) regs value
    ∙ ap (λ (w : ℕ). word_has w bit)
    (run_raised (has_bits value start_bit) (record regs.port { receiving = has_bits value 0x10 }))
port_raised bit value regs v b at.TaskFile = refl
port_raised bit value regs v b at.Signature = refl
port_raised bit value regs v b at.SataStatus = refl
port_raised bit value regs v b at.SataControl = controlled_so (raised_bit bit) regs value
port_raised bit value regs v b at.SataError = refl
port_raised bit value regs v b at.Active =
    ap (λ (w : ℕ). word_has w bit)
    (tags_if regs.port.running (record regs.port { active = bit_or regs.port.active value }) regs.port refl)
port_raised bit value regs v b at.Issue =
    ap (λ (w : ℕ). word_has w bit)
    (tags_if regs.port.running (record regs.port { issued = bit_or regs.port.issued value }) regs.port refl)

-- FISes.
has_raised : (bits bit : ℕ) (told : Bool) (regs : Regs)
    → word_has (raised bits told regs).interrupts bit ≡ (word_has regs.interrupts bit || told && word_has bits bit)
has_raised bits bit true regs = has_or regs.interrupts bits bit
has_raised bits bit false regs = or_false (word_has regs.interrupts bit)

ended_raised : (tag : ℕ) (ends : Bool) (regs : Regs)
    → (no_more_issued tag ends regs).interrupts ≡ regs.interrupts
ended_raised tag true regs = refl
ended_raised tag false regs = refl

or_or : (a b c : Bool) → ((a || b) || c) ≡ (a || (b || c))
or_or true b c = refl
or_or false b c = refl

-- A status, and then the bit of a kind.
told_raised : (bits bit status error : ℕ) (told : Bool) (regs : Regs)
    → word_has (raised bits told (with_task status error regs)).interrupts bit
    ≡ (word_has regs.interrupts bit || (status % 2 == 1 && word_has task_error_bit bit || told && word_has bits bit))
told_raised bits bit status error told regs =
    has_raised bits bit told (with_task status error regs)
    ∙ ap (λ (x : Bool). x || told && word_has bits bit)
    (has_raised task_error_bit bit (status % 2 == 1) (record regs { status = status; error = error }))
    ∙ or_or (word_has regs.interrupts bit) (status % 2 == 1 && word_has task_error_bit bit) (told && word_has bits bit)

lowest : (a b : ℕ) → a < 2 → b < 2 → max (min a 0) (min b 1) ≡ b
lowest a b p q = omega arith

-- ERR of a status that a Set Device Bits FIS carries.
carried_error : (before status : ℕ) → carried before status % 2 ≡ status % 2
carried_error before status =
    sym (bit_at_lowest (carried before status))
    ∙ bit_at_or (bit_and before kept_bits) (bit_and status carried_bits) 0
    ∙ ap (λ (n : ℕ). max n (bit_at (bit_and status carried_bits) 0)) (bit_at_and before kept_bits 0)
    ∙ ap (λ (n : ℕ). max (min (bit_at before 0) (bit_at kept_bits 0)) n) (bit_at_and status carried_bits 0)
    ∙ lowest (bit_at before 0) (bit_at status 0) (bit_at-lt before 0) (bit_at-lt status 0)
    ∙ bit_at_lowest status

shown_raised : (bit tag : ℕ) (regs : Regs) (fis : Fis)
    → word_has (shown tag regs fis).interrupts bit ≡ (word_has regs.interrupts bit || raises fis bit)
shown_raised bit tag regs (fises.H2d f) = or_false (word_has regs.interrupts bit)
shown_raised bit tag regs (fises.D2h f) =
    ap (λ (w : ℕ). word_has w bit)
    (ended_raised tag (is_finished f.status) (raised register_bit f.interrupt (with_task f.status f.error regs)))
    ∙ told_raised register_bit bit f.status f.error f.interrupt regs
shown_raised bit tag regs (fises.PioSetup f) =
    ap (λ (w : ℕ). word_has w bit)
    (ended_raised tag (f.to_host && is_finished f.end_status)
    (raised pio_setup_bit f.interrupt (with_task f.end_status f.error regs)))
    ∙ told_raised pio_setup_bit bit f.end_status f.error f.interrupt regs
shown_raised bit tag regs (fises.DmaSetup f) = has_raised dma_setup_bit bit f.interrupt regs
shown_raised bit tag regs (fises.SetDeviceBits f) =
    told_raised device_bits_bit bit (carried regs.status f.status) f.error f.interrupt regs
    ∙ ap (λ (n : ℕ). word_has regs.interrupts bit || (n == 1 && word_has task_error_bit bit || f.interrupt && word_has device_bits_bit bit))
    (carried_error regs.status f.status)

all_raised : (bit tag : ℕ) (list : List Fis) (regs : Regs)
    → word_has (all_shown tag regs list).interrupts bit ≡ (word_has regs.interrupts bit || one_raises list bit)
all_raised bit tag [] regs = or_false (word_has regs.interrupts bit)
all_raised bit tag (fis ∷ later) regs =
    all_raised bit tag later (shown tag regs fis)
    ∙ ap (λ (x : Bool). x || one_raises later bit) (shown_raised bit tag regs fis)
    ∙ or_or (word_has regs.interrupts bit) (raises fis bit) (one_raises later bit)

-- What memory missed.
missed_too : (bit bits : ℕ) (word : ℕ) (x : Bool) → word_has word bit ≡ x
    → word_has (bit_or word bits) bit ≡ (x || word_has bits bit)
missed_too bit bits word x e = has_or word bits bit ∙ ap (λ (y : Bool). y || word_has bits bit) e

served_raised : (missed : Option Miss) (bit tag : ℕ) (list : List Fis) (regs : Registers)
    → word_has (served tag list missed regs).port.interrupts bit
    ≡ ((word_has regs.port.interrupts bit || one_raises (shown_if missed list) bit) || missing_raises missed bit)
served_raised None bit tag list regs =
    all_raised bit tag list regs.port ∙ or_false (word_has regs.port.interrupts bit || one_raises list bit)
served_raised (Some misses.List) bit tag list regs =
    missed_too bit (bits_of misses.List) regs.port.interrupts _ (or_false (word_has regs.port.interrupts bit))
served_raised (Some misses.Table) bit tag list regs =
    missed_too bit (bits_of misses.Table) regs.port.interrupts _ (or_false (word_has regs.port.interrupts bit))
served_raised (Some misses.Block) bit tag list regs =
    missed_too bit (bits_of misses.Block) regs.port.interrupts _ (or_false (word_has regs.port.interrupts bit))
served_raised (Some misses.Overflow) bit tag list regs =
    missed_too bit (bits_of misses.Overflow) regs.port.interrupts _ (or_false (word_has regs.port.interrupts bit))
served_raised (Some misses.Fis) bit tag list regs =
    missed_too bit (bits_of misses.Fis) (all_shown tag regs.port list).interrupts _ (all_raised bit tag list regs.port)

-- How data moved.
word_if : (bit bits word : ℕ) (told : Bool)
    → word_has (if told then bit_or word bits else word) bit ≡ (word_has word bit || told && word_has bits bit)
word_if bit bits word true = has_or word bits bit
word_if bit bits word false = or_false (word_has word bit)

moved_raised : (bit : ℕ) (arrival : Arrival) (regs : Registers)
    → word_has (moved arrival regs).port.interrupts bit
    ≡ ((word_has regs.port.interrupts bit || arrival.is_processed && word_has processed_bit bit)
    || arrival.is_short && word_has overflow_bit bit)
moved_raised bit arrival regs =
    word_if bit overflow_bit
    (if arrival.is_processed then bit_or regs.port.interrupts processed_bit else regs.port.interrupts) arrival.is_short
    ∙ ap (λ (x : Bool). x || arrival.is_short && word_has overflow_bit bit)
    (word_if bit processed_bit regs.port.interrupts arrival.is_processed)

regroup : (x p s f m : Bool) → ((((x || p) || s) || f) || m) ≡ (x || (((p || s) || f) || m))
regroup true p s f m = refl
regroup false p s f m = refl

arrived_raised : (bit tag : ℕ) (arrival : Arrival) (list : List Fis) (regs : Registers)
    → word_has (served tag list arrival.missed (moved arrival regs)).port.interrupts bit
    ≡ (word_has regs.port.interrupts bit || arrival_raises arrival (shown_if arrival.missed list) bit)
arrived_raised bit tag arrival list regs =
    let shown = shown_if arrival.missed list in
    served_raised arrival.missed bit tag list (moved arrival regs)
    ∙ ap (λ (x : Bool). (x || one_raises shown bit) || missing_raises arrival.missed bit) (moved_raised bit arrival regs)
    ∙ regroup (word_has regs.port.interrupts bit) (arrival.is_processed && word_has processed_bit bit)
    (arrival.is_short && word_has overflow_bit bit) (one_raises shown bit) (missing_raises arrival.missed bit)

pub raised_law : RaisedLaw
raised_law o [] bit w b = has_zero bit
raised_law o (Wrote offset value ∷ before) bit w b =
    let regs = regs_of o before in
    written_so (raised_bit bit) (clears value bit (word_has regs.port.interrupts bit)) false regs offset value
    (port_raised bit value regs w.0 b) (has_zero bit)
    ∙ ap (λ (x : Bool). by_write (clears value bit x) false x offset value) (raised_law o before bit w.1 b)
raised_law o (Powered ∷ before) bit w b = has_zero bit
raised_law o (Signed ∷ before) bit w b = raised_law o before bit w.1 b
raised_law o (Missed fetched miss ∷ before) bit w b =
    missed_too bit (bits_of miss) (regs_of o before).port.interrupts _ (raised_law o before bit w.1 b)
raised_law o (Controlled tag ∷ before) bit w b = raised_law o before bit w.1 b
raised_law o (Asserted tag ∷ before) bit w b = raised_law o before bit w.1 b
raised_law o (Restarted tag ∷ before) bit w b = raised_law o before bit w.1 b
raised_law o (Unheard tag ∷ before) bit w b = raised_law o before bit w.1 b
raised_law o (Fetched tag fis payload arrival ∷ before) bit w b =
    let list = (effect_after o (account o before) (Accept fis payload)).fises in
    arrived_raised bit tag arrival list (fetching tag (regs_of o before))
    ∙ ap (λ (x : Bool). x || arrival_raises arrival (shown_if arrival.missed list) bit) (raised_law o before bit w.1 b)
raised_law o (Completed tag payload arrival ∷ before) bit w b =
    let list = (effect_after o (account o before) (Complete tag payload)).fises in
    arrived_raised bit tag arrival list (regs_of o before)
    ∙ ap (λ (x : Bool). x || arrival_raises arrival (shown_if arrival.missed list) bit) (raised_law o before bit w.1 b)

-- Laws of single bits, over every list of operations, the newest first: each bit of PxCI, PxSACT and PxIS
-- that a driver reads is what set it, and what cleared it, since (AHCI 1.3.1, 3.3.5, 3.3.13 and 3.3.14).
use Rattle.std.specs.Prelude.{◌≡◌, ℕ, ◌+◌, bit_or, ◌<◌, ◌-◌, ◌^◌, ◌%◌, ◌==◌, ◌&&◌, ◌||◌, not, nat_le, Bool, true, false, List, [], ◌∷◌, Option, Some, None, if◌then◌else◌}
use Rattle.std.specs.Int.{bit_at}
use Rattle.fis.specs.Tags.{slot_count}
use Rattle.fis.specs.declared.any.Fis.{Fis}
use Rattle.fis.specs.declared.any.Fis.TheVariants as fises
use Rattle.hba_regs.specs.declared.register.Register.{Register}
use Rattle.hba_regs.specs.declared.register.Register.TheVariants as at
use Rattle.hba_regs.specs.Registers.{register_at, has_bits, start_bit, disk_signature}
use Rattle.history.specs.History.{Accept, Complete}
use Rattle.port_history.specs.Registers.{is_finished, register_bit, pio_setup_bit, dma_setup_bit, device_bits_bit, task_error_bit}
use Rattle.host_memory.specs.declared.hba_memory.miss.Miss.{Miss}
use Rattle.host_memory.specs.declared.hba_memory.delivery.Arrival.{Arrival}
use Rattle.hba.specs.Registers.{word_at, port_at, is_up, reset_bit, no_signature, exchange_bit, phy_error_bit, change_bit, phy_change_bit, processed_bit, overflow_bit}
use Rattle.hba.specs.Showing.{shows_fises, bits_of}
use Rattle.hba.specs.History.{Opened, Operation, Wrote, Powered, Signed, Missed, Controlled, Asserted, Restarted, Unheard, Fetched, Completed, account, regs_of, effect_after}

-- A bit of a word.
abbrev pub word_has : ℕ → ℕ → Bool
word_has word bit = bit_at word bit == 1

-- A written word has 32 bits, and there are 32 slots.
abbrev pub IsOfWords : Operation → Type 0
IsOfWords (Wrote offset value) = value < 2 ^ 32
IsOfWords Powered = Unit {0}
IsOfWords Signed = Unit {0}
IsOfWords (Missed fetched miss) = Unit {0}
IsOfWords (Controlled tag) = tag < slot_count
IsOfWords (Asserted tag) = tag < slot_count
IsOfWords (Restarted tag) = tag < slot_count
IsOfWords (Unheard tag) = tag < slot_count
IsOfWords (Fetched tag fis payload arrival) = tag < slot_count
IsOfWords (Completed tag payload arrival) = tag < slot_count

abbrev pub AreOfWords : List Operation → Type 0
AreOfWords [] = Unit {0}
AreOfWords (operation ∷ before) = IsOfWords operation × AreOfWords before

-- What a write leaves: at a register of the port by the register, after a reset of the HBA (3.1.2, HR),
-- and elsewhere what was before.
abbrev pub at_register : (Register → Bool) → Bool → Option Register → Bool
at_register port before None = before
at_register port before (Some register) = port register

abbrev pub by_write : (Register → Bool) → Bool → Bool → ℕ → ℕ → Bool
by_write port reset before offset value =
    if nat_le port_at offset then at_register port before (register_at (offset - port_at))
    else (if offset == 0x04 && has_bits value reset_bit then reset else before)

-- ST, as it was written last since a reset (3.3.7).
abbrev pub start_after : ℕ → Bool → Register → Bool
start_after value before at.Command = has_bits value start_bit
start_after value before register = before

abbrev pub runs : List Operation → Bool
runs [] = false
runs (Wrote offset value ∷ before) =
    by_write (start_after value (runs before)) false (runs before) offset value
runs (Powered ∷ before) = false
runs (Signed ∷ before) = runs before
runs (Missed fetched miss ∷ before) = runs before
runs (Controlled tag ∷ before) = runs before
runs (Asserted tag ∷ before) = runs before
runs (Restarted tag ∷ before) = runs before
runs (Unheard tag ∷ before) = runs before
runs (Fetched tag fis payload arrival ∷ before) = runs before
runs (Completed tag payload arrival ∷ before) = runs before

-- The FISes that the registers show, where memory missed something behind the act.
abbrev pub shown_if : Option Miss → List Fis → List Fis
shown_if None list = list
shown_if (Some miss) list = if shows_fises miss then list else []

abbrev pub fetch_shows : Opened → List Operation → List ℕ → List ℕ → Arrival → List Fis
fetch_shows o before fis payload arrival =
    shown_if arrival.missed (effect_after o (account o before) (Accept fis payload)).fises

abbrev pub completion_shows : Opened → List Operation → ℕ → List ℕ → Arrival → List Fis
completion_shows o before tag payload arrival =
    shown_if arrival.missed (effect_after o (account o before) (Complete tag payload)).fises

-- A FIS that ends its command: it leaves a status without BSY, DRQ and ERR (3.3.14).
abbrev pub ends_command : Fis → Bool
ends_command (fises.H2d f) = false
ends_command (fises.D2h f) = is_finished f.status
ends_command (fises.PioSetup f) = f.to_host && is_finished f.end_status
ends_command (fises.DmaSetup f) = false
ends_command (fises.SetDeviceBits f) = false

abbrev pub one_ends : List Fis → Bool
one_ends [] = false
one_ends (fis ∷ later) = ends_command fis || one_ends later

-- A write of PxCI sets its bits while ST is 1; ST 0 clears all (3.3.14).
abbrev pub issues : ℕ → ℕ → Bool → Bool → Register → Bool
issues value tag running before at.Command = has_bits value start_bit && before
issues value tag running before at.Issue = before || running && word_has value tag
issues value tag running before register = before

-- A slot's command was issued since ST was cleared and a reset came, and has not ended: by a FIS of its
-- own, or as a FIS that carries no command.
abbrev pub issued_since : Opened → ℕ → List Operation → Bool
issued_since o tag [] = false
issued_since o tag (Wrote offset value ∷ before) =
    by_write (issues value tag (runs before) (issued_since o tag before)) false
    (issued_since o tag before) offset value
issued_since o tag (Powered ∷ before) = false
issued_since o tag (Signed ∷ before) = issued_since o tag before
issued_since o tag (Missed fetched miss ∷ before) = issued_since o tag before
issued_since o tag (Controlled slot ∷ before) = not (slot == tag) && issued_since o tag before
issued_since o tag (Asserted slot ∷ before) = not (slot == tag) && issued_since o tag before
issued_since o tag (Restarted slot ∷ before) = not (slot == tag) && issued_since o tag before
issued_since o tag (Unheard slot ∷ before) = issued_since o tag before
issued_since o tag (Fetched slot fis payload arrival ∷ before) =
    not (one_ends (fetch_shows o before fis payload arrival) && slot == tag)
    && issued_since o tag before
issued_since o tag (Completed slot payload arrival ∷ before) =
    not (one_ends (completion_shows o before slot payload arrival) && slot == tag)
    && issued_since o tag before

-- PxCI has the bit of a slot exactly then.
abbrev pub IssuedLaw : Type 0
IssuedLaw =
    (o : Opened) (list : List Operation) (tag : ℕ) → AreOfWords list → tag < slot_count
    → word_has (word_at (regs_of o list) 0x138) tag ≡ issued_since o tag list

-- The bits of PxIS that a FIS raises (3.3.5): that of its kind where it has bit I, and TFES where the
-- status takes ERR.
abbrev pub raises : Fis → ℕ → Bool
raises (fises.H2d f) bit = false
raises (fises.D2h f) bit =
    f.status % 2 == 1 && word_has task_error_bit bit || f.interrupt && word_has register_bit bit
raises (fises.PioSetup f) bit =
    f.end_status % 2 == 1 && word_has task_error_bit bit
    || f.interrupt && word_has pio_setup_bit bit
raises (fises.DmaSetup f) bit = f.interrupt && word_has dma_setup_bit bit
raises (fises.SetDeviceBits f) bit =
    f.status % 2 == 1 && word_has task_error_bit bit || f.interrupt && word_has device_bits_bit bit

abbrev pub one_raises : List Fis → ℕ → Bool
one_raises [] bit = false
one_raises (fis ∷ later) bit = raises fis bit || one_raises later bit

-- And those that tell how data moved, and what memory missed.
abbrev pub missing_raises : Option Miss → ℕ → Bool
missing_raises None bit = false
missing_raises (Some miss) bit = word_has (bits_of miss) bit

abbrev pub arrival_raises : Arrival → List Fis → ℕ → Bool
arrival_raises arrival shown bit =
    arrival.is_processed && word_has processed_bit bit
    || arrival.is_short && word_has overflow_bit bit
    || one_raises shown bit || missing_raises arrival.missed bit

-- A written 1 clears a bit of PxIS.
abbrev pub clears : ℕ → ℕ → Bool → Register → Bool
clears value bit before at.InterruptStatus = not (word_has value bit) && before
clears value bit before register = before

-- A bit was raised since a 1 was written to it and a reset came.
abbrev pub raised_since : Opened → ℕ → List Operation → Bool
raised_since o bit [] = false
raised_since o bit (Wrote offset value ∷ before) =
    by_write (clears value bit (raised_since o bit before)) false (raised_since o bit before)
    offset value
raised_since o bit (Powered ∷ before) = false
raised_since o bit (Signed ∷ before) = raised_since o bit before
raised_since o bit (Missed fetched miss ∷ before) =
    raised_since o bit before || word_has (bits_of miss) bit
raised_since o bit (Controlled tag ∷ before) = raised_since o bit before
raised_since o bit (Asserted tag ∷ before) = raised_since o bit before
raised_since o bit (Restarted tag ∷ before) = raised_since o bit before
raised_since o bit (Unheard tag ∷ before) = raised_since o bit before
raised_since o bit (Fetched tag fis payload arrival ∷ before) =
    raised_since o bit before
    || arrival_raises arrival (fetch_shows o before fis payload arrival) bit
raised_since o bit (Completed tag payload arrival ∷ before) =
    raised_since o bit before
    || arrival_raises arrival (completion_shows o before tag payload arrival) bit

-- PxIS has the bit exactly then, but for PCS and PRCS, which follow PxSERR.
abbrev pub RaisedLaw : Type 0
RaisedLaw =
    (o : Opened) (list : List Operation) (bit : ℕ) → AreOfWords list → bit < 32
    → word_has (regs_of o list).port.interrupts bit ≡ raised_since o bit list

-- ST is as it was written last.
abbrev pub RunningLaw : Type 0
RunningLaw = (o : Opened) (list : List Operation) → (regs_of o list).port.running ≡ runs list

-- A FIS that ends queued commands: Set Device Bits, with their bits of SActive (3.3.13).
abbrev pub ends_queued : ℕ → Fis → Bool
ends_queued tag (fises.H2d f) = false
ends_queued tag (fises.D2h f) = false
ends_queued tag (fises.PioSetup f) = false
ends_queued tag (fises.DmaSetup f) = false
ends_queued tag (fises.SetDeviceBits f) = word_has f.active tag

abbrev pub one_ends_queued : ℕ → List Fis → Bool
one_ends_queued tag [] = false
one_ends_queued tag (fis ∷ later) = ends_queued tag fis || one_ends_queued tag later

-- A write of PxSACT sets its bits while ST is 1; ST 0 clears all (3.3.13).
abbrev pub queues : ℕ → ℕ → Bool → Bool → Register → Bool
queues value tag running before at.Command = has_bits value start_bit && before
queues value tag running before at.Active = before || running && word_has value tag
queues value tag running before register = before

-- A queued command was written since ST was cleared and a reset came, and no Set Device Bits FIS has
-- ended it.
abbrev pub queued_since : Opened → ℕ → List Operation → Bool
queued_since o tag [] = false
queued_since o tag (Wrote offset value ∷ before) =
    by_write (queues value tag (runs before) (queued_since o tag before)) false
    (queued_since o tag before) offset value
queued_since o tag (Powered ∷ before) = false
queued_since o tag (Signed ∷ before) = queued_since o tag before
queued_since o tag (Missed fetched miss ∷ before) = queued_since o tag before
queued_since o tag (Controlled slot ∷ before) = queued_since o tag before
queued_since o tag (Asserted slot ∷ before) = queued_since o tag before
queued_since o tag (Restarted slot ∷ before) = queued_since o tag before
queued_since o tag (Unheard slot ∷ before) = queued_since o tag before
queued_since o tag (Fetched slot fis payload arrival ∷ before) =
    not (one_ends_queued tag (fetch_shows o before fis payload arrival))
    && queued_since o tag before
queued_since o tag (Completed slot payload arrival ∷ before) =
    not (one_ends_queued tag (completion_shows o before slot payload arrival))
    && queued_since o tag before

-- PxSACT has the bit of a slot exactly then.
abbrev pub QueuedLaw : Type 0
QueuedLaw =
    (o : Opened) (list : List Operation) (tag : ℕ) → AreOfWords list → tag < slot_count
    → word_has (word_at (regs_of o list) 0x134) tag ≡ queued_since o tag list

-- The link is up by PxSCTL.DET, as it was written last since a reset (3.3.11).
abbrev pub link_after : ℕ → Bool → Register → Bool
link_after value before at.SataControl = is_up value
link_after value before register = before

abbrev pub linked : List Operation → Bool
linked [] = true
linked (Wrote offset value ∷ before) =
    by_write (link_after value (linked before)) true (linked before) offset value
linked (Powered ∷ before) = true
linked (Signed ∷ before) = linked before
linked (Missed fetched miss ∷ before) = linked before
linked (Controlled tag ∷ before) = linked before
linked (Asserted tag ∷ before) = linked before
linked (Restarted tag ∷ before) = linked before
linked (Unheard tag ∷ before) = linked before
linked (Fetched tag fis payload arrival ∷ before) = linked before
linked (Completed tag payload arrival ∷ before) = linked before

-- PxSERR.DIAG.X (3.3.12): the link has come up since a 1 was written to it; DIAG.N: it has come up or gone
-- down. After a reset it has come up.
abbrev pub exchange_after : ℕ → Bool → Bool → Register → Bool
exchange_after value up before at.SataError = before && not (has_bits value exchange_bit)
exchange_after value up before at.SataControl = before || not up && is_up value
exchange_after value up before register = before

abbrev pub link_came_up : List Operation → Bool
link_came_up [] = true
link_came_up (Wrote offset value ∷ before) =
    by_write (exchange_after value (linked before) (link_came_up before)) true (link_came_up before)
    offset value
link_came_up (Powered ∷ before) = true
link_came_up (Signed ∷ before) = link_came_up before
link_came_up (Missed fetched miss ∷ before) = link_came_up before
link_came_up (Controlled tag ∷ before) = link_came_up before
link_came_up (Asserted tag ∷ before) = link_came_up before
link_came_up (Restarted tag ∷ before) = link_came_up before
link_came_up (Unheard tag ∷ before) = link_came_up before
link_came_up (Fetched tag fis payload arrival ∷ before) = link_came_up before
link_came_up (Completed tag payload arrival ∷ before) = link_came_up before

abbrev pub phy_after : ℕ → Bool → Bool → Register → Bool
phy_after value up before at.SataError = before && not (has_bits value phy_error_bit)
phy_after value up before at.SataControl =
    before || up && not (is_up value) || not up && is_up value
phy_after value up before register = before

abbrev pub link_changed : List Operation → Bool
link_changed [] = true
link_changed (Wrote offset value ∷ before) =
    by_write (phy_after value (linked before) (link_changed before)) true (link_changed before)
    offset value
link_changed (Powered ∷ before) = true
link_changed (Signed ∷ before) = link_changed before
link_changed (Missed fetched miss ∷ before) = link_changed before
link_changed (Controlled tag ∷ before) = link_changed before
link_changed (Asserted tag ∷ before) = link_changed before
link_changed (Restarted tag ∷ before) = link_changed before
link_changed (Unheard tag ∷ before) = link_changed before
link_changed (Fetched tag fis payload arrival ∷ before) = link_changed before
link_changed (Completed tag payload arrival ∷ before) = link_changed before

-- PxSERR has these two bits and no other, and PxIS has PCS and PRCS with them (3.3.5).
abbrev pub ErrorsLaw : Type 0
ErrorsLaw =
    (o : Opened) (list : List Operation)
    → word_at (regs_of o list) 0x130
    ≡ (if link_came_up list then exchange_bit else 0)
    + (if link_changed list then phy_error_bit else 0)

abbrev pub ChangesLaw : Type 0
ChangesLaw =
    (o : Opened) (list : List Operation)
    → word_at (regs_of o list) 0x110
    ≡ bit_or (bit_or (regs_of o list).port.interrupts (if link_came_up list then change_bit else 0))
    (if link_changed list then phy_change_bit else 0)

-- The device has told its signature since the link went down, and since a reset (3.3.9).
abbrev pub signature_after : ℕ → Bool → Bool → Register → Bool
signature_after value up before at.SataControl = not (up && not (is_up value)) && before
signature_after value up before register = before

abbrev pub signature_told : List Operation → Bool
signature_told [] = false
signature_told (Wrote offset value ∷ before) =
    by_write (signature_after value (linked before) (signature_told before)) false
    (signature_told before) offset value
signature_told (Powered ∷ before) = false
signature_told (Signed ∷ before) = true
signature_told (Missed fetched miss ∷ before) = signature_told before
signature_told (Controlled tag ∷ before) = signature_told before
signature_told (Asserted tag ∷ before) = signature_told before
signature_told (Restarted tag ∷ before) = true
signature_told (Unheard tag ∷ before) = signature_told before
signature_told (Fetched tag fis payload arrival ∷ before) = signature_told before
signature_told (Completed tag payload arrival ∷ before) = signature_told before

-- PxSIG has the signature of a disk exactly then.
abbrev pub SignatureLaw : Type 0
SignatureLaw =
    (o : Opened) (list : List Operation)
    → word_at (regs_of o list) 0x124
    ≡ (if signature_told list then disk_signature else no_signature)

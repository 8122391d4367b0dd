-- Transfers that are served, in the words of the registers and of the host's memory, over every list of
-- operations: what is permitted at its act reaches the memory or the media, and is told (AHCI 1.3.1, 5.5 and
-- 5.6; Serial ATA). What is denied stands in Laws.
use Rattle.std.specs.Prelude.{◌≡◌, ℕ, ◌+◌, ◌*◌, ◌/◌, ◌<◌, Bool, true, false, List, [], ◌∷◌, length, map, Option, Some, None, bit_and, ◌==◌, ◌^◌}
use Rattle.fis.specs.Tags.{slot_count}
use Rattle.fis.specs.declared.any.Fis.{Fis}
use Rattle.locking.specs.declared.range.Op.TheVariants.{Read, Write}
use Rattle.shadow_mbr.specs.Stored.{sector_size}
use Rattle.hba_regs.specs.Registers.{has_bits}
use Rattle.trusted_cmds.specs.declared.command.Command.{Command}
use Rattle.trusted_cmds.specs.declared.command.Command.TheVariants.{ReadQueued, WriteQueued, ReadDma, ReadPio, WritePio}
use Rattle.history.specs.Answers.{ready, busy, answer_fis, pio_fis, setup_fis, moved_fis, read_by}
use Rattle.history.specs.Decisions.{on_drive, ranges_in_force, verdict_on}
use Rattle.history.specs.DenialLaws.{Reaches}
use Rattle.history.specs.Events.{HeldCommand, Wrote as WroteSectors, OfQueue, CompletedWrite}
use Rattle.history.specs.Facts.{Facts}
use Rattle.history.specs.History.{Act, Accept, Complete}
use Rattle.history.specs.MethodLaws.{IsLookedAt}
use Rattle.history.specs.TransferLaws.{IsPermitted}
use Rattle.port_history.specs.Steps.{Effect}
use Rattle.host_memory.specs.Access.{Access}
use Rattle.host_memory.specs.declared.hba_memory.delivery.Arrival.{Arrival}
use Rattle.host_memory.specs.declared.hba_memory.delivery.Place.{Place}
use Rattle.host_memory.specs.declared.hba_memory.reading.Moved.{Moved}
use Rattle.host_memory.specs.Memory.{Delivers}
use Rattle.host_memory.specs.DeliveryLaws.{GivesAll}
use Rattle.hba.specs.History.{facts_of, Opened, Operation, Fetched, Completed, account, acts_of, regs_of, effect_after}
use Rattle.hba.specs.BitLaws.{word_has}
use Rattle.hba.specs.Blocks.{block_size, of_last_block}
use Rattle.hba.specs.Registers.{busy_bits}
use Rattle.hba.specs.Ready.{is_working, ready_after}

-- Where memory misses nothing and the PRDT has room, the data lie over the blocks that the descriptors name,
-- PRDBC counts them and what was brought, the FISes stand in their places, and nothing else is accessed.
abbrev pub GivesWhole : Effect → List Fis → List ℕ → Type 0
GivesWhole effect fises bytes =
    (place : Place) (brought : Moved) (talk : List Access) (arrival : Arrival)
    → Delivers place brought effect.fises effect.bytes talk arrival
    → arrival.missed ≡ None → arrival.is_short ≡ false
    → GivesAll place (brought.len + length bytes) fises bytes talk

-- The FISes by which the device serves a transfer that is not queued (Serial ATA, device command layer): data to the host
-- by PIO have a PIO Setup FIS for each block, those from the host one behind them too, and all else is one Register FIS.
abbrev pub serving_fises : Command → List Fis
serving_fises (ReadPio lba count) = pio_fis true ready ∷ []
serving_fises (WritePio lba count) = pio_fis false busy ∷ answer_fis true ready 0 ∷ []
serving_fises command = answer_fis true ready 0 ∷ []

-- The bytes that it gives: its sectors, or those of the shadow, and none of sectors that are verified.
abbrev pub bytes_served : Facts → Command → List ℕ
bytes_served f (ReadDma lba count) = read_by f lba count (verdict_on f Read lba count)
bytes_served f (ReadPio lba count) = read_by f lba count (verdict_on f Read lba count)
bytes_served f command = []

-- A fetched command is answered by FISes without an error, of PIO Setup FISes the last, and its bit of PxCI is clear behind
-- them.
pub record EndsFetched (o : Opened) (before : List Operation) (tag : ℕ) (fis payload : List ℕ)
    (fises : List Fis) (bytes : List ℕ) : Type 0 where
  pub gives : GivesWhole (effect_after o (account o before) (Accept fis payload))
      (map (of_last_block ((length payload + length bytes) / block_size)) fises) bytes
  pub clear : (arrival : Arrival) → arrival.missed ≡ None → tag < slot_count
      → word_has (regs_of o (Fetched tag fis payload arrival ∷ before)).port.issued tag ≡ false

-- A completed command is answered by DMA Setup and Set Device Bits, and its bit of PxSACT is clear.
pub record EndsHeld (o : Opened) (before : List Operation) (tag : ℕ) (payload : List ℕ)
    (setup : Fis) (bytes : List ℕ) : Type 0 where
  pub gives : GivesWhole (effect_after o (account o before) (Complete tag payload))
      (setup ∷ moved_fis tag ∷ []) bytes
  pub clear : (arrival : Arrival) → arrival.missed ≡ None → tag < slot_count
      → word_has (regs_of o (Completed tag payload arrival ∷ before)).port.active tag ≡ false

-- What the drive knows after a list of operations.
abbrev pub facts_behind : Opened → List Operation → Facts
facts_behind o before = facts_of o (acts_of o before)

-- A read that is permitted by the rows in force at its fetch: its sectors, or those of the shadow; and so is a
-- verification, with no bytes.
abbrev pub ReadServedLaw : Type 0
ReadServedLaw =
    (o : Opened) (before : List Operation) (tag : ℕ) (fis payload : List ℕ) (command : Command)
    (lba count : ℕ)
    → let f = facts_behind o before in
    IsLookedAt f (Accept fis payload) command None → Reaches command None Read lba count
    → on_drive f lba count ≡ true → IsPermitted (ranges_in_force f) Read lba count
    → EndsFetched o before tag fis payload (serving_fises command) (bytes_served f command)

-- A write: the media have what was brought.
pub record IsWritten (o : Opened) (before : List Operation) (tag : ℕ) (fis payload : List ℕ)
    (command : Command) (lba : ℕ) : Type 0 where
  pub answered : EndsFetched o before tag fis payload (serving_fises command) []
  pub written : (effect_after o (account o before) (Accept fis payload)).event.deed
      ≡ WroteSectors lba payload

abbrev pub WriteServedLaw : Type 0
WriteServedLaw =
    (o : Opened) (before : List Operation) (tag : ℕ) (fis payload : List ℕ) (command : Command)
    (lba count : ℕ)
    → let f = facts_behind o before in
    IsLookedAt f (Accept fis payload) command None → Reaches command None Write lba count
    → on_drive f lba count ≡ true → IsPermitted (ranges_in_force f) Write lba count
    → IsWritten o before tag fis payload command lba

-- A held read, which was permitted at its acceptance: its sectors, as they are at its completion.
abbrev pub HeldReadLaw : Type 0
HeldReadLaw =
    (o : Opened) (before : List Operation) (tag : ℕ) (payload : List ℕ) (h : HeldCommand)
    (lba count : ℕ)
    → let f = facts_behind o before in
    f.held tag ≡ Some h → h.command ≡ ReadQueued lba count
    → EndsHeld o before tag payload (setup_fis true tag (sector_size * count))
    (read_by f lba count h.verdict)

-- A held write: the media have what was brought.
pub record IsWrittenHeld (o : Opened) (before : List Operation) (tag : ℕ) (payload : List ℕ)
    (lba count : ℕ) : Type 0 where
  pub completed : EndsHeld o before tag payload (setup_fis false tag (sector_size * count)) []
  pub written : (effect_after o (account o before) (Complete tag payload)).event.deed
      ≡ OfQueue (CompletedWrite tag lba payload)

abbrev pub HeldWriteLaw : Type 0
HeldWriteLaw =
    (o : Opened) (before : List Operation) (tag : ℕ) (payload : List ℕ) (h : HeldCommand)
    (lba count : ℕ)
    → let f = facts_behind o before in
    f.held tag ≡ Some h → h.command ≡ WriteQueued lba count
    → IsWrittenHeld o before tag payload lba count

-- No command waits for ever: where nothing is ready, as behind the works of a run, each that was issued has
-- ended; or the port does not work (ST or FRE is 0, an error or a fault has halted it, the link is down), or
-- the device is busy, in a software reset.
abbrev pub WaitsLaw : Type 0
WaitsLaw =
    (o : Opened) (list : List Operation) (tag : ℕ) → tag < slot_count → ready_after o list ≡ []
    → is_working (regs_of o list) ≡ true
    → (bit_and (regs_of o list).port.status busy_bits == 0) ≡ true
    → has_bits (regs_of o list).port.issued (2 ^ tag) ≡ false

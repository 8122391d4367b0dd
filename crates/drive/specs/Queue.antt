-- The slots of held transfers (ACS-3, NCQ feature set).
use Rattle.std.specs.Prelude.{ℕ, List, replicate, slice_index_or, slice_set, Option, Some, None, option_map}
use Rattle.fis.specs.Tags.{slot_count}
use Rattle.device_data.specs.declared.log_page.Failure.{Failure}
use Rattle.history.specs.Events.{HeldCommand}
use Rattle.drive.specs.Transfer.{held_command, StandsOnDrive}
use Rattle.drive.specs.declared.transfer.Held.{Held}
use Rattle.drive.specs.declared.queue.Queue.{Queue}

-- What is in a slot.
abbrev pub slot_at : List (Option Held) → ℕ → Option Held
slot_at slots tag = slice_index_or slots tag None

-- No slot holds a transfer.
unfoldable pub empty_slots : List (Option Held)
empty_slots = replicate slot_count None

abbrev pub empty_queue : Queue
empty_queue = record { slots = empty_slots; failure = None }

-- A failed queue holds nothing.
abbrev pub failed_queue : Failure → Queue
failed_queue failure = record { slots = empty_slots; failure = Some failure }

abbrev pub mended_queue : Queue → Queue
mended_queue queue = record queue { failure = None }

abbrev pub with_slot : ℕ → Option Held → Queue → Queue
with_slot tag held queue = record queue { slots = slice_set queue.slots tag held }

-- The command that is held under a tag, with its verdict.
abbrev pub held_at : Queue → ℕ → Option HeldCommand
held_at queue tag = option_map held_command (slot_at queue.slots tag)

-- The sectors of what is held are on the drive, and those of a shadowed read in the shadow.
abbrev pub SlotFits : ℕ → ℕ → Option Held → Type 0
SlotFits sectors mbr_sectors None = Unit {0}
SlotFits sectors mbr_sectors (Some held) = StandsOnDrive sectors mbr_sectors held

abbrev pub AllFit : ℕ → ℕ → Queue → Type 0
AllFit sectors mbr_sectors queue =
    (tag : ℕ) → SlotFits sectors mbr_sectors (slot_at queue.slots tag)

-- The bytes and FISes that an act gives, by the facts (Serial ATA; ACS-3, IDENTIFY DEVICE and log
-- page 10h), whatever its items give.
use Rattle.sp_cells.specs.Config.{Config}
use Rattle.std.specs.Prelude.{ℕ, ◌*◌, ◌^◌, ◌==◌, slice_index, Bool, true, false, List, [], ◌∷◌, Option, Some, None, is_some, unwrap_or, Result, Ok, Err, if◌then◌else◌}
use Rattle.device_data.specs.ErrorLog.{error_log}
use Rattle.device_data.specs.declared.settings.Settings.{Settings}
use Rattle.fis.specs.Types.{h2d_type}
use Rattle.fis.specs.H2d.{h2d_at}
use Rattle.fis.specs.declared.h2d.RegH2d.{RegH2d}
use Rattle.fis.specs.declared.any.Fis.{Fis}
use Rattle.fis.specs.declared.any.Fis.TheVariants as fises
use Rattle.locking.specs.declared.range.Op.TheVariants.{Read}
use Rattle.shadow_mbr.specs.Stored.{sector_size, sectors_from}
use Rattle.trusted_cmds.specs.declared.command.Command.{Command}
use Rattle.trusted_cmds.specs.declared.command.Command.TheVariants.{ReadQueued, WriteQueued, ReadDma, Send, Receive, Identify, ReadLog10, ReadLog, ReadPio, WritePio, Control}
use Rattle.trusted_cmds.specs.declared.control.Control.TheVariants.{CheckPowerMode, Diagnose}
use Rattle.trusted_cmds.specs.declared.command.CommandError.{CommandError}
use Rattle.trusted_cmds.specs.Profiles.{payload_length_in}
use Rattle.locking.specs.declared.ranges.Verdict.{Verdict}
use Rattle.locking.specs.declared.ranges.Verdict.TheVariants.{Serve, Shadow, Denied}
use Rattle.transactions.specs.Bytes.{bytes_from}
use Rattle.history.specs.Events.{HeldCommand, Held, Deed, OfQueue, Event}
use Rattle.history.specs.Facts.{Facts}
use Rattle.history.specs.Items.{Items}
use Rattle.history.specs.Decisions.{verdict_on}

-- What a read gives: the sectors, or the shadow's bytes, as they are then.
abbrev pub read_by : Facts → ℕ → ℕ → Verdict → List ℕ
read_by f lba count Serve = sectors_from f.sector lba count
read_by f lba count Shadow = bytes_from f.byte (sector_size * lba) (sector_size * count)
read_by f lba count (Denied why) = []

-- The data block of an unqueued command that is served, by what its items give.
abbrev pub block_of : Items → Facts → Command → List ℕ
block_of items f (ReadDma lba count) = read_by f lba count (verdict_on f Read lba count)
block_of items f (ReadPio lba count) = read_by f lba count (verdict_on f Read lba count)
block_of items f (ReadLog10 dma) = error_log f.failure
block_of items f (Receive protocol com_id blocks dma) =
    items.gives f (Receive protocol com_id blocks dma)
block_of items f Identify = items.gives f Identify
block_of items f (ReadLog pages dma) = items.gives f (ReadLog pages dma)
block_of items f _ = []

abbrev pub data_read_of : Items → Facts → Result (Command × Option ℕ) CommandError → List ℕ
data_read_of items f (Ok (command, None)) = block_of items f command
data_read_of items f _ = []

-- Of the FIS of a command, with its event; and of the bytes of an accepted FIS.
abbrev pub answer_data_of : Items → Facts → RegH2d → Event → List ℕ
answer_data_of items f h event =
    if is_some event.failed then [] else data_read_of items f (items.reads f.config h)

abbrev pub accepted_data_of : Items → Facts → List ℕ → Event → List ℕ
accepted_data_of items f fis event = answer_data_of items f (h2d_at fis) event

-- Of a completion.
abbrev pub held_data : Facts → HeldCommand → List ℕ
held_data f h = held_read h.command
  where
    held_read : Command → List ℕ
    held_read (ReadQueued lba count) = read_by f lba count h.verdict
    held_read _ = []

-- How many bytes come with the 20 bytes of a FIS, by what the drive is made with: none, where their
-- first says that they carry no command.
abbrev pub payload_of : Config → List ℕ → ℕ
payload_of config fis =
    if slice_index fis 0 == h2d_type then payload_length_in config.profile (h2d_at fis) else 0

-- How many bytes a completion brings: the sectors of a held write.
abbrev pub expected_by : Command → ℕ
expected_by (WriteQueued lba count) = sector_size * count
expected_by _ = 0

abbrev pub expected : Option HeldCommand → ℕ
expected None = 0
expected (Some h) = expected_by h.command

abbrev pub completed_data : Facts → Option HeldCommand → List ℕ
completed_data f None = []
completed_data f (Some h) = held_data f h

-- FISes.

-- DRDY, with the bit that ACS-3 calls command dependent; with ERR; with DRQ; with BSY.
abbrev pub ready : ℕ
ready = 0x50

abbrev pub errored : ℕ
errored = 0x51

abbrev pub data_requested : ℕ
data_requested = 0x58

abbrev pub busy : ℕ
busy = 0xd0

abbrev pub status_of : Option ℕ → ℕ
status_of None = ready
status_of (Some error) = errored

-- A register FIS with bit I, the status and the error; its other fields are 0.
abbrev pub answer_fis : Bool → ℕ → ℕ → Fis
answer_fis interrupt status error =
    fises.D2h (record {
      interrupt = interrupt;
      port = 0;
      status = status;
      error = error;
      lba = 0;
      device = 0;
      count = 0;
    })

-- The signature of an ATA device (ACS-3, device signatures), beside the result of its own tests, which is always that it passed
-- (ACS-3, EXECUTE DEVICE DIAGNOSTIC, diagnostic codes).
abbrev pub signature_lba : ℕ
signature_lba = 1

abbrev pub signature_count : ℕ
signature_count = 1

abbrev pub passed : ℕ
passed = 1

abbrev pub diagnosed_fis : Fis
diagnosed_fis =
    fises.D2h (record {
      interrupt = true;
      port = 0;
      status = ready;
      error = passed;
      lba = signature_lba;
      device = 0;
      count = signature_count;
    })

-- A device that is active, or idle; and one that is in standby (ACS-3, CHECK POWER MODE, Normal Outputs).
abbrev pub active_or_idle : ℕ
active_or_idle = 0xff

abbrev pub standby : ℕ
standby = 0x00

abbrev pub power_fis : Bool → Fis
power_fis in_standby =
    fises.D2h (record {
      interrupt = true;
      port = 0;
      status = ready;
      error = 0;
      lba = 0;
      device = 0;
      count = if in_standby then standby else active_or_idle;
    })

-- A PIO Setup FIS, one for all blocks.
abbrev pub pio_fis : Bool → ℕ → Fis
pio_fis to_host end_status =
    fises.PioSetup (record {
      interrupt = to_host;
      to_host = to_host;
      port = 0;
      status = data_requested;
      error = 0;
      lba = 0;
      device = 0;
      count = 0;
      end_status = end_status;
      transfer_count = sector_size;
    })

-- The PIO forms: a send and a write have one PIO Setup FIS in front; IDENTIFY, a receive, a log read and a read have it
-- alone. Some commands tell by the fields of their FIS.
abbrev pub served_fises : Settings → Command → List Fis
served_fises settings (Send protocol com_id blocks false) =
    pio_fis false busy ∷ answer_fis true ready 0 ∷ []
served_fises settings (Receive protocol com_id blocks false) = pio_fis true ready ∷ []
served_fises settings (ReadLog10 false) = pio_fis true ready ∷ []
served_fises settings (ReadLog pages false) = pio_fis true ready ∷ []
served_fises settings Identify = pio_fis true ready ∷ []
served_fises settings (ReadPio lba count) = pio_fis true ready ∷ []
served_fises settings (WritePio lba count) =
    pio_fis false busy ∷ answer_fis true ready 0 ∷ []
served_fises settings (Control Diagnose) = diagnosed_fis ∷ []
served_fises settings (Control CheckPowerMode) = power_fis settings.in_standby ∷ []
served_fises settings _ = answer_fis true ready 0 ∷ []

abbrev pub fises_read : Settings → Result (Command × Option ℕ) CommandError → List Fis
fises_read settings (Ok (command, tag)) = served_fises settings command
fises_read settings (Err e) = []

abbrev pub is_holding : Deed → Bool
is_holding (OfQueue (Held tag held)) = true
is_holding _ = false

abbrev pub answer_fises_of : Items → Facts → RegH2d → Event → List Fis
answer_fises_of items f h event =
    if is_some event.failed then answer_fis true errored (unwrap_or event.failed 0) ∷ []
    else (if is_holding event.deed then answer_fis false ready 0 ∷ []
    else fises_read f.settings (items.reads f.config h))

abbrev pub accepted_fises_of : Items → Facts → List ℕ → Event → List Fis
accepted_fises_of items f fis event = answer_fises_of items f (h2d_at fis) event

-- A completion: a DMA Setup FIS with bit D for a read, the tag and the count of bytes, and a Set
-- Device Bits FIS with bit I and the tag's bit of SActive.
abbrev pub setup_fis : Bool → ℕ → ℕ → Fis
setup_fis to_host tag count =
    fises.DmaSetup (record {
      auto_activate = false;
      interrupt = false;
      to_host = to_host;
      port = 0;
      buffer_low = tag;
      buffer_high = 0;
      offset = 0;
      count = count;
    })

abbrev pub moved_fis : ℕ → Fis
moved_fis tag =
    fises.SetDeviceBits (record {
      notification = false;
      interrupt = true;
      port = 0;
      status = ready;
      error = 0;
      active = 2 ^ tag;
    })

abbrev pub fises_of : ℕ → Command → List Fis
fises_of tag (ReadQueued lba count) = setup_fis true tag (sector_size * count) ∷ moved_fis tag ∷ []
fises_of tag (WriteQueued lba count) =
    setup_fis false tag (sector_size * count) ∷ moved_fis tag ∷ []
fises_of tag _ = []

abbrev pub completed_fises : ℕ → Option HeldCommand → List Fis
completed_fises tag None = []
completed_fises tag (Some h) = fises_of tag h.command

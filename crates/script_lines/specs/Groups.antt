-- Words of a line that together say one thing.
use Rattle.std.specs.Prelude.{ℕ, Bool, true, false, List, Result, Ok}
use Rattle.compacket.specs.declared.session.Session.{Session}
use Rattle.locking.specs.declared.range.RangeRow.{RangeRow}
use Rattle.script_lines.specs.Words.{nth_word}
use Rattle.script_lines.specs.Fields.{◌>>=◌, number_of_field, flag_in}
use Rattle.script_lines.specs.declared.fault.LineFault.{LineFault}
use Rattle.script_lines.specs.declared.field.Field.TheVariants as fields
use Rattle.script_lines.specs.declared.line.Transfer.{Transfer}
use Rattle.script_lines.specs.declared.line.DmaTransfer.{DmaTransfer}
use Rattle.script_lines.specs.declared.line.Reset.{Reset}
use Rattle.script_lines.specs.declared.line.Reset.TheVariants.{Power, Hardware}

-- what the words of a range row say
abbrev pub range_in : List ℕ → Result RangeRow LineFault
range_in text = do
  range ← number_of_field fields.Range (nth_word 0 text)
  start ← number_of_field fields.Start (nth_word 1 text)
  length ← number_of_field fields.Length (nth_word 2 text)
  read_enabled ← flag_in fields.ReadLockEnabled (nth_word 3 text)
  write_enabled ← flag_in fields.WriteLockEnabled (nth_word 4 text)
  read_locked ← flag_in fields.ReadLocked (nth_word 5 text)
  write_locked ← flag_in fields.WriteLocked (nth_word 6 text)
  Ok (record {
    range = range;
    start = start;
    length = length;
    read_enabled = read_enabled;
    write_enabled = write_enabled;
    read_locked = read_locked;
    write_locked = write_locked;
  })

-- what the words of a queued transfer say
abbrev pub transfer_in : List ℕ → Result Transfer LineFault
transfer_in text = do
  client ← number_of_field fields.Client (nth_word 0 text)
  tag ← number_of_field fields.Tag (nth_word 1 text)
  lba ← number_of_field fields.Address (nth_word 2 text)
  count ← number_of_field fields.Count (nth_word 3 text)
  Ok (record { client = client; tag = tag; lba = lba; count = count })

-- what the words of an unqueued transfer say
abbrev pub dma_transfer_in : List ℕ → Result DmaTransfer LineFault
dma_transfer_in text = do
  client ← number_of_field fields.Client (nth_word 0 text)
  lba ← number_of_field fields.DmaAddress (nth_word 1 text)
  count ← number_of_field fields.DmaCount (nth_word 2 text)
  Ok (record { client = client; lba = lba; count = count })

-- what the words say that name a session
abbrev pub session_in : List ℕ → Result Session LineFault
session_in text = do
  tsn ← number_of_field fields.TperSession (nth_word 0 text)
  hsn ← number_of_field fields.HostSession (nth_word 1 text)
  Ok (record { tsn = tsn; hsn = hsn })

-- which reset a flag names
abbrev pub reset_named : Bool → Reset
reset_named false = Power
reset_named true = Hardware

-- what the word of a reset says
abbrev pub reset_in : List ℕ → Result Reset LineFault
reset_in nth_word = flag_in fields.ResetKind nth_word >>= λ hardware. Ok (reset_named hardware)

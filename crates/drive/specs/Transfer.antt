-- Transfers: what moves, and what the media hold then (ACS-3, READ FPDMA QUEUED and WRITE FPDMA
-- QUEUED, READ DMA EXT and WRITE DMA EXT, READ SECTOR(S) and WRITE SECTOR(S), READ VERIFY SECTOR(S)).
use Rattle.std.specs.Prelude.{ℕ, ◌≡◌, ◌+◌, ◌*◌, Bool, true, nat_le, List, [], if◌then◌else◌}
use Rattle.locking.specs.declared.range.Op.{Op}
use Rattle.locking.specs.declared.range.Op.TheVariants.{Read, Write}
use Rattle.locking.specs.declared.ranges.Verdict.{Verdict}
use Rattle.locking.specs.declared.ranges.Verdict.TheVariants.{Serve, Shadow}
use Rattle.trusted_cmds.specs.declared.command.Command.{Command}
use Rattle.trusted_cmds.specs.declared.command.Command.TheVariants.{ReadQueued, WriteQueued, ReadDma, WriteDma, ReadPio, WritePio, Verify}
use Rattle.shadow_mbr.specs.Stored.{sector_size, sector_after}
use Rattle.history.specs.Events.{HeldCommand}
use Rattle.history.specs.Answers.{read_by}
use Rattle.history.specs.Facts.{Facts}
use Rattle.drive.specs.declared.transfer.Transfer.{Transfer}
use Rattle.drive.specs.declared.transfer.Held.{Held}
use Rattle.drive.specs.declared.transfer.Way.{Way}
use Rattle.drive.specs.declared.transfer.Way.TheVariants as ways

abbrev pub transfer_by : Op → ℕ → ℕ → Transfer
transfer_by op lba count = record { op = op; lba = lba; count = count }

-- The first for a read, the second for a write.
abbrev pub by_op : {A : Type 0} → Op → A → A → A
by_op Read x y = x
by_op Write x y = y

-- The commands that ask for a transfer.
abbrev pub queued_command : Transfer → Command
queued_command transfer =
    by_op transfer.op (ReadQueued transfer.lba transfer.count)
    (WriteQueued transfer.lba transfer.count)

abbrev pub unqueued_command : Way → Transfer → Command
unqueued_command ways.Dma transfer =
    by_op transfer.op (ReadDma transfer.lba transfer.count) (WriteDma transfer.lba transfer.count)
unqueued_command ways.Pio transfer =
    by_op transfer.op (ReadPio transfer.lba transfer.count) (WritePio transfer.lba transfer.count)
unqueued_command ways.Verify transfer = Verify transfer.lba transfer.count

-- Sectors are verified where they are read.
abbrev pub CanGo : Way → Op → Type 0
CanGo ways.Dma op = Unit {0}
CanGo ways.Pio op = Unit {0}
CanGo ways.Verify op = op ≡ Read

-- The verdict of a transfer that is permitted: a shadowed read gives the shadow's bytes.
abbrev pub verdict_held : Held → Verdict
verdict_held held = if held.is_shadowed then Shadow else Serve

-- What is held, as the history tells it.
abbrev pub held_command : Held → HeldCommand
held_command held =
    record { command = queued_command held.transfer; verdict = verdict_held held }

-- How many bytes move.
abbrev pub size_of : Transfer → ℕ
size_of transfer = sector_size * transfer.count

-- How many bytes come with it: those of a write.
abbrev pub payload_size_of : Transfer → ℕ
payload_size_of transfer = by_op transfer.op 0 (size_of transfer)

-- The bytes that it gives, by the facts then: the sectors of a read, or the shadow's.
abbrev pub held_bytes : Facts → Held → List ℕ
held_bytes f held =
    by_op held.transfer.op
    (read_by f held.transfer.lba held.transfer.count (verdict_held held)) []

-- Those that go to the host where it is not queued: none of sectors that are verified.
abbrev pub moved_bytes : Facts → Way → Held → List ℕ
moved_bytes f ways.Dma held = held_bytes f held
moved_bytes f ways.Pio held = held_bytes f held
moved_bytes f ways.Verify held = []

-- What a sector holds after it, where it held `before`.
abbrev pub sector_then : Transfer → List ℕ → List ℕ → ℕ → List ℕ
sector_then transfer payload before sector =
    by_op transfer.op before (sector_after transfer.lba payload before sector)

-- A drive of so many sectors, or a shadow, has each of these.
abbrev pub is_on_drive : ℕ → Transfer → Bool
is_on_drive sectors transfer = nat_le (transfer.lba + transfer.count) sectors

pub record StandsOnDrive (sectors mbr_sectors : ℕ) (held : Held) : Type 0 where
  pub on_drive : is_on_drive sectors held.transfer ≡ true
  pub in_shadow : held.is_shadowed ≡ true → is_on_drive mbr_sectors held.transfer ≡ true

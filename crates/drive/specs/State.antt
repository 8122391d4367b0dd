-- What a drive keeps, and when that is what a list of acts says.
use Rattle.std.specs.Prelude.{◌≡◌, ℕ, List, length, reverse, slice_index}
use Rattle.fis.specs.Tags.{slot_count}
use Rattle.device_data.specs.declared.settings.Settings.{Settings}
use Rattle.shadow_mbr.specs.Stored.{StoredSectors, sector_at}
use Rattle.transactions.specs.Sights.{look_up, committed_sight}
use Rattle.history.specs.Opening.{Origin}
use Rattle.history.specs.Events.{Event}
use Rattle.history.specs.Readers.{sector, held, failure, settings}
use Rattle.history.specs.Facts.{Facts}
use Rattle.history.specs.History.{Act, log}
use Rattle.tper.specs.Tper.{Tper, Keeps as KeepsTper, response_at}
use Rattle.drive.specs.declared.queue.Queue.{Queue}
use Rattle.drive.specs.Queue.{held_at}

-- What contracts see of a drive: the rows, sessions and responses, the queue, the media, and what a host has chosen.
pub record DriveState : Type 0 where
  pub tper : Tper
  pub queue : Queue
  pub media : StoredSectors
  pub settings : Settings

-- Facts of which the drive shows those that it keeps itself; the sessions are its TPer's.
abbrev pub kept_facts : DriveState → Facts → Facts
kept_facts d f = record f {
  config = d.tper.store.config;
  rows = look_up (committed_sight d.tper.store);
  byte = slice_index d.tper.store.locking.bytes;
  held = held_at d.queue;
  failure = d.queue.failure;
  waiting = response_at d.tper.waiting;
  sector = sector_at d.media;
  beside = d.tper.live.beside;
  settings = d.settings;
}

-- It keeps what these events say, part by part.
pub record KeepsDrive (d : DriveState) (o : Origin) (past : List Event) : Type 0 where
  pub tper : KeepsTper d.tper o past
  pub slots : length d.queue.slots ≡ slot_count
  pub held : (tag : ℕ) → held_at d.queue tag ≡ held past tag
  pub failure : d.queue.failure ≡ failure past
  pub sectors : (place : ℕ) → sector_at d.media place ≡ sector past place
  pub settings : d.settings ≡ settings past

-- The drive agrees with what it started from and the acts so far, the newest first.
abbrev pub Agrees : DriveState → Origin → List Act → Type 0
Agrees d o acts = KeepsDrive d o (log o acts)

-- The same for a list whose oldest act comes first.
abbrev pub AgreesInOrder : DriveState → Origin → List Act → Type 0
AgreesInOrder d o acts = Agrees d o (reverse acts)

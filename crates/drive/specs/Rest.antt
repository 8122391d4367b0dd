-- What a drive keeps without power (Core 2.01, section 5.1.3, reset_type 0, the power cycle), and when it is off.
use Rattle.std.specs.Prelude.{◌≡◌, ℕ, List, ◌∷◌, length, None}
use Rattle.fis.specs.Tags.{slot_count}
use Rattle.sp_cells.specs.declared.names.Sp.{Sp}
use Rattle.sp_cells.specs.Resets.{power_cycle}
use Rattle.sp_tables.specs.Contents.{Contents}
use Rattle.shadow_mbr.specs.Stored.{StoredSectors}
use Rattle.device_data.specs.Settings.{first_settings}
use Rattle.transactions.specs.Stored.{part, new_store}
use Rattle.sessions.specs.Live.{session_at}
use Rattle.sessions.specs.Beside.{new_beside}
use Rattle.history.specs.Opening.{Origin}
use Rattle.history.specs.Events.{Event, WasReset, did}
use Rattle.tper.specs.Tper.{response_at}
use Rattle.drive.specs.Queue.{held_at}
use Rattle.drive.specs.State.{DriveState, KeepsDrive}

-- the tables, the bytes of the byte tables, the media, the number of the next session, and how many random bytes were given
pub record Rest : Type 0 where
  pub tables : Contents
  pub bytes : StoredSectors
  pub media : StoredSectors
  pub next : ℕ
  pub drawn : ℕ

-- No session lives, no transaction is open, nothing waits or is held, and what hosts chose is as at first.
pub record IsOff (d : DriveState) : Type 0 where
  pub sessions : (number : ℕ) → session_at d.tper.live number ≡ None
  pub transactions : (sp : Sp) → (part d.tper.store sp).pending ≡ None
  pub waiting : (com_id : ℕ) → response_at d.tper.waiting com_id ≡ None
  pub beside : d.tper.live.beside ≡ record new_beside { drawn = d.tper.live.beside.drawn }
  pub slots : length d.queue.slots ≡ slot_count
  pub held : (tag : ℕ) → held_at d.queue tag ≡ None
  pub failure : d.queue.failure ≡ None
  pub settings : d.settings ≡ first_settings

-- A drive that is off keeps this.
pub record KeepsRest (rest : Rest) (d : DriveState) : Type 0 where
  pub store : d.tper.store ≡ new_store rest.tables rest.bytes
  pub media : d.media ≡ rest.media
  pub next : d.tper.live.next ≡ rest.next
  pub drawn : d.tper.live.beside.drawn ≡ rest.drawn

-- Laws.

-- Behind a power cycle a drive is off.
abbrev pub PowerOffLaw : Type 0
PowerOffLaw =
    (d : DriveState) (o : Origin) (past : List Event)
    → KeepsDrive d o (did (WasReset power_cycle) ∷ past) → IsOff d

-- Of two drives that are off and keep the same, what is true of the past of the one is true of that of the other.
abbrev pub SameRestLaw : Type 0
SameRestLaw =
    (rest : Rest) (d e : DriveState) (o : Origin) (past : List Event)
    → IsOff d → IsOff e → KeepsRest rest d → KeepsRest rest e → KeepsDrive d o past
    → KeepsDrive e o past

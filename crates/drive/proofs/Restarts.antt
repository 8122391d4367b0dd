-- What a reset leaves, and what a drive starts from.
use Rattle.std.proofs.Common.{◌≡◌, ℕ, List, [], ◌∷◌, ◌++◌, length, reverse, None, sym, subst, ap, ◌∙◌, option_map}
use Rattle.std.proofs.lemmas.List.{reverse-append}
use Rattle.shadow_mbr.specs.Stored.{StoredSectors, sector_at, zeros}
use Rattle.history.specs.Opening.{Origin}
use Rattle.history.specs.Events.{WasReset, Event, did}
use Rattle.history.specs.History.{Act, SoftwareReset, log}
use Rattle.tper.specs.Tper.{Keeps as KeepsTper}
use Rattle.drive.specs.declared.queue.Queue.{Queue}
use Rattle.drive.specs.Transfer.{held_command}
use Rattle.drive.specs.Queue.{held_at, empty_queue}
use Rattle.device_data.specs.Settings.{first_settings, settings_at_reset}
use Rattle.drive.specs.State.{DriveState, KeepsDrive, Agrees, AgreesInOrder}
use Rattle.drive.proofs.Slots.{no_slot, none_length}
use Rattle.drive.proofs.Keeping.{keeps-more, ended-keeps}

pub empty-held : (queue : Queue) (tag : ℕ) → queue ≡ empty_queue → held_at queue tag ≡ None
empty-held queue tag is = ap (λ (q : Queue). held_at q tag) is ∙ ap (option_map held_command) (no_slot tag)

pub empty-length : (queue : Queue) → queue ≡ empty_queue → length queue.slots ≡ 32
empty-length queue is = ap (λ (q : Queue). length q.slots) is ∙ none_length

-- nothing is held after a reset, and media stay
pub restart-keeps : (d e : DriveState) (o : Origin) (past : List Event) (kind : ℕ) → KeepsTper e.tper o (did (WasReset kind) ∷ past)
    → e.queue ≡ empty_queue → e.media ≡ d.media → e.settings ≡ settings_at_reset kind d.settings → KeepsDrive d o past → KeepsDrive e o (did (WasReset kind) ∷ past)
restart-keeps d e o past kind tper queue media chosen k =
    keeps-more d e o past (did (WasReset kind)) tper (empty-length e.queue queue) (λ tag. empty-held e.queue tag queue)
    (ap (λ (q : Queue). q.failure) queue) (λ s. ap (λ (m : StoredSectors). sector_at m s) media) chosen k

-- nothing was done
pub fresh-keeps : (d : DriveState) (o : Origin) → KeepsTper d.tper o [] → d.queue ≡ empty_queue → ((s : ℕ) → sector_at d.media s ≡ zeros) → d.settings ≡ first_settings → KeepsDrive d o []
fresh-keeps d o tper queue media chosen = record {
  tper = tper;
  slots = empty-length d.queue queue;
  held = λ tag. empty-held d.queue tag queue;
  failure = ap (λ (q : Queue). q.failure) queue;
  sectors = media;
  settings = chosen;
}

-- the newest act is the last of a list in order
pub in-order : (d : DriveState) (o : Origin) (acts : List Act) (act : Act) → Agrees d o (act ∷ reverse acts) → Agrees d o (reverse (acts ++ act ∷ []))
in-order d o acts act k = subst (λ (past : List Act). Agrees d o past) (sym (reverse-append acts (act ∷ []))) k

-- a software reset
pub ended : (d e : DriveState) (o : Origin) (acts : List Act) → e ≡ record d { queue = empty_queue } → Agrees d o acts → Agrees e o (SoftwareReset ∷ acts)
ended d e o acts is k = ended-keeps d e o (log o acts) is k

pub ended_in_order : (d e : DriveState) (o : Origin) (acts : List Act) → e ≡ record d { queue = empty_queue } → AgreesInOrder d o acts
    → AgreesInOrder e o (acts ++ SoftwareReset ∷ [])
ended_in_order d e o acts is k = in-order e o acts SoftwareReset (ended d e o (reverse acts) is k)

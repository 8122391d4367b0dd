-- Sectors that an answer lends: a read that is not queued gives them where they stand (ACS-3, READ DMA EXT, READ SECTOR(S)).
use Rattle.std.specs.Prelude.{◌≡◌, ℕ, ◌+◌, ◌≤◌, Bool, true, false, List, [], ◌∷◌, ◌++◌, Option, Some, None, IfSome, unwrap_or, length, if◌then◌else◌}
use Rattle.shadow_mbr.specs.Stored.{StoredSectors, sector_at, sector_size, sectors_from}
use Rattle.fis.specs.declared.h2d.RegH2d.{RegH2d}
use Rattle.history.specs.Opening.{Origin}
use Rattle.history.specs.Events.{Event}
use Rattle.history.specs.Facts.{Facts}
use Rattle.history.specs.Answers.{status_of, is_holding}
use Rattle.history.specs.Tcg.{answer_data, answer_fises}
use Rattle.history.specs.History.{Act}
use Rattle.drive.specs.State.{DriveState, KeepsDrive, Agrees, AgreesInOrder}
use Rattle.drive.specs.Answers.{fises_in}
use Rattle.drive.specs.declared.lending.Run.{Run}
use Rattle.drive.specs.declared.answer.Accepted.{Accepted}
use Rattle.drive.specs.declared.transfer.Held.{Held}
use Rattle.drive.specs.declared.transfer.Way.{Way}
use Rattle.drive.specs.declared.transfer.Way.TheVariants as ways
use Rattle.drive.specs.Transfer.{by_op}

-- The bytes that an answer gives: those of a run of the media, else its own.
abbrev pub given_bytes : StoredSectors → Option Run → List ℕ → List ℕ
given_bytes media None bytes = bytes
given_bytes media (Some run) bytes = sectors_from (sector_at media) run.lba run.count

-- An act is added to each list that the drive agreed with, at its end that is the newest.
abbrev pub TakesAct : Act → DriveState → DriveState → Type 0
TakesAct act old new =
    (o : Origin) (acts : List Act) → Agrees old o acts → Agrees new o (act ∷ acts)

abbrev pub TakesInOrder : Act → DriveState → DriveState → Type 0
TakesInOrder act old new =
    (o : Origin) (acts : List Act) → AgreesInOrder old o acts
    → AgreesInOrder new o (acts ++ act ∷ [])

-- Media of so many sectors have each of a run.
abbrev pub HaveRun : ℕ → Option Run → Type 0
HaveRun sectors lent = IfSome lent (λ run. run.lba + run.count ≤ sectors)

-- Each sector is whole.
abbrev pub AllAreWhole : StoredSectors → Type 0
AllAreWhole media = (sector : ℕ) → length (sector_at media sector) ≡ sector_size

-- The answer to the FIS of a command is that of its event, with these bytes for the host.
pub record IsAnswerWith (f : Facts) (h : RegH2d) (event : Event) (answer : Accepted)
    (given : List ℕ) : Type 0 where
  pub status : answer.status ≡ status_of event.failed
  pub error : answer.error ≡ unwrap_or event.failed 0
  pub held : answer.held ≡ is_holding event.deed
  pub fises : fises_in answer ≡ answer_fises f h event
  pub bytes : given ≡ answer_data f h event
  pub denied : answer.denied ≡ event.denied
  pub rule : answer.rule ≡ event.rule

-- The event was done: it is kept, and answered with the bytes that the answer gives.
abbrev pub IsDoneAndGiven : Facts → RegH2d → Event → DriveState → Origin → List Event → Accepted
    → Option Run → Type 0
IsDoneAndGiven f h event d o past answer lent = KeepsDrive d o (event ∷ past)
    × IsAnswerWith f h event answer (given_bytes d.media lent answer.bytes.items)

-- The sectors that a permitted transfer lends, where it may: those of a read whose data go to the host, and not those of the
-- shadow.
abbrev pub lent_of : Bool → Held → Way → Option Run
lent_of false held way = None
lent_of true held ways.Verify = None
lent_of true held _ =
    if held.is_shadowed then None
    else by_op held.transfer.op
    (Some (record { lba = held.transfer.lba; count = held.transfer.count })) None

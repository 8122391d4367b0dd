-- Sectors that are lent are those that would be read.
use Rattle.std.proofs.Common.{◌≡◌, ℕ, zero, suc, ◌+◌, ◌-◌, ◌*◌, ◌/◌, ◌%◌, ◌<◌, ◌≤◌, Bool, true, false, List, [], length, Option, Some, None, Ok, get_or, refl, ap, sym, ◌∙◌, arith, ⊎_elim, take, drop, subst}
use Rattle.std.specs.Prelude.{slice_range}
use Rattle.std.proofs.lemmas.Bool.{cases_lt}
use Rattle.std.proofs.lemmas.Bool.Decides.{nat_tests}
use Rattle.std.proofs.lemmas.List.{get_or-take, get_or-drop, length-take-le, length-drop, ext_get_or, get_or_append_left, length-append}
use Rattle.std.proofs.Math.Seq.{get_or-append_right}
use Rattle.shadow_mbr.specs.Stored.{StoredSectors, sector_at, byte_at, sectors_from}
use Rattle.fis.specs.declared.h2d.RegH2d.{RegH2d}
use Rattle.locking.specs.declared.range.Op.{Op}
use Rattle.locking.specs.declared.range.Op.TheVariants.{Read, Write}
use Rattle.history.specs.Answers.{ready, served_fises}
use Rattle.history.specs.Events.{Event, did}
use Rattle.history.specs.Tcg.{command_read, data_of}
use Rattle.trusted_cmds.specs.declared.command.Command.{Command}
use Rattle.history.specs.Facts.{Facts, facts}
use Rattle.history.specs.Opening.{Origin}
use Rattle.device_data.specs.Settings.{active}
use Rattle.drive.specs.Answers.{IsDoneAndAnswered}
use Rattle.drive.specs.Decision.{IsMoved, decision_event, transfer_deed}
use Rattle.drive.specs.Lending.{AllAreWhole, given_bytes, lent_of, IsAnswerWith, IsDoneAndGiven}
use Rattle.drive.specs.State.{DriveState, kept_facts, KeepsDrive}
use Rattle.drive.specs.Transfer.{transfer_by, unqueued_command, moved_bytes, sector_then, is_on_drive, StandsOnDrive}
use Rattle.drive.specs.declared.answer.Accepted.{Accepted}
use Rattle.drive.specs.declared.decision.Decision.{Decision}
use Rattle.drive.specs.declared.decision.Decision.TheVariants.{Moves}
use Rattle.drive.specs.declared.lending.Run.{Run}
use Rattle.drive.specs.declared.transfer.Held.{Held}
use Rattle.drive.specs.declared.transfer.Way.{Way}
use Rattle.drive.specs.declared.transfer.Way.TheVariants as ways
use Rattle.drive.proofs.Acting.{IsTold, Succeeds, moved-data, moves-succeeds, read-as}
use Rattle.drive.proofs.Keeping.{moved-keeps, seen-is}

-- The bytes of a transfer that lends a run, by its parts.
lent-bytes : (d : DriveState) (f : Facts) (op : Op) (lba count : ℕ) (shadowed : Bool) (way : Way) (run : Run)
    → lent_of true (record { transfer = transfer_by op lba count; is_shadowed = shadowed }) way ≡ Some run
    → sectors_from (sector_at d.media) run.lba run.count ≡ moved_bytes (kept_facts d f) way (record { transfer = transfer_by op lba count; is_shadowed = shadowed })
lent-bytes d f Read lba count false ways.Dma run e =
    let same : record { lba = lba; count = count } ≡ run = cc in
    ap (λ (r : Run). sectors_from (sector_at d.media) r.lba r.count) (sym same)
lent-bytes d f Read lba count false ways.Pio run e =
    let same : record { lba = lba; count = count } ≡ run = cc in
    ap (λ (r : Run). sectors_from (sector_at d.media) r.lba r.count) (sym same)
lent-bytes d f Write lba count false ways.Dma run e = cc
lent-bytes d f Write lba count false ways.Pio run e = cc
lent-bytes d f op lba count true ways.Dma run e = cc
lent-bytes d f op lba count true ways.Pio run e = cc
lent-bytes d f op lba count shadowed ways.Verify run e = cc

-- It leaves each sector as it was.
lent-stays : (payload before : List ℕ) (s : ℕ) (op : Op) (lba count : ℕ) (shadowed : Bool) (way : Way) (run : Run)
    → lent_of true (record { transfer = transfer_by op lba count; is_shadowed = shadowed }) way ≡ Some run
    → before ≡ sector_then (transfer_by op lba count) payload before s
lent-stays payload before s Read lba count shadowed way run e = refl
lent-stays payload before s Write lba count false ways.Dma run e = cc
lent-stays payload before s Write lba count false ways.Pio run e = cc
lent-stays payload before s Write lba count true ways.Dma run e = cc
lent-stays payload before s Write lba count true ways.Pio run e = cc
lent-stays payload before s Write lba count shadowed ways.Verify run e = cc

-- Each of its sectors is on the drive.
lent-on : (sectors : ℕ) (op : Op) (lba count : ℕ) (shadowed : Bool) (way : Way) (run : Run)
    → lent_of true (record { transfer = transfer_by op lba count; is_shadowed = shadowed }) way ≡ Some run
    → is_on_drive sectors (transfer_by op lba count) ≡ true → run.lba + run.count ≤ sectors
lent-on sectors Read lba count false ways.Dma run e on =
    let same : record { lba = lba; count = count } ≡ run = cc in
    let within : lba + count ≤ sectors = grind (arith, nat_tests) in
    subst (λ (r : Run). r.lba + r.count ≤ sectors) same within
lent-on sectors Read lba count false ways.Pio run e on =
    let same : record { lba = lba; count = count } ≡ run = cc in
    let within : lba + count ≤ sectors = grind (arith, nat_tests) in
    subst (λ (r : Run). r.lba + r.count ≤ sectors) same within
lent-on sectors Write lba count false ways.Dma run e on = cc
lent-on sectors Write lba count false ways.Pio run e on = cc
lent-on sectors op lba count true ways.Dma run e on = cc
lent-on sectors op lba count true ways.Pio run e on = cc
lent-on sectors op lba count shadowed ways.Verify run e on = cc

pub lent-there : (sectors shadow : ℕ) (its : Held) (way : Way) (run : Run) → lent_of true its way ≡ Some run
    → StandsOnDrive sectors shadow its → run.lba + run.count ≤ sectors
lent-there sectors shadow its way run e within =
    lent-on sectors its.transfer.op its.transfer.lba its.transfer.count its.is_shadowed way run e within.on_drive

-- A transfer that lends may lend.
pub may-lend : (lends : Bool) (its : Held) (way : Way) (run : Run) → lent_of lends its way ≡ Some run
    → lent_of true its way ≡ Some run
may-lend true its way run e = e
may-lend false its way run e = cc

pub never-lends : (lends : Bool) (its : Held) (way : Way) (run : Run) → lent_of lends its way ≡ Some run
    → lends ≡ false → ⊥
never-lends true its way run e off = cc
never-lends false its way run e off = cc

-- The answer to a command that was served without bytes of its own.
served-with : (f : Facts) (h : RegH2d) (ev : Event) (a : Accepted) (given : List ℕ) (command : Command) → Succeeds ev
    → command_read f.config h ≡ Ok (command, None) → given ≡ data_of f command
    → IsTold a ready 0 false (served_fises f.settings command) [] ev.denied ev.rule → IsAnswerWith f h ev a given
served-with f h ev a given command s reads same t = record {
  status = t.status_is ∙ rw s.0 refl;
  error = t.error_is ∙ rw s.0 refl;
  held = t.held_is ∙ sym s.1;
  fises = t.fises_are ∙ rw (s.0, s.1, reads) refl;
  bytes = same ∙ rw (s.0, reads) refl;
  denied = t.denied_is;
  rule = t.rule_is;
}

-- An answer that lends nothing gives its own bytes.
pub own-given : (f : Facts) (h : RegH2d) (event : Event) (d : DriveState) (o : Origin) (past : List Event) (a : Accepted)
    → IsDoneAndAnswered f h event d o past a → IsDoneAndGiven f h event d o past a None
own-given f h event d o past a done = (
  done.0,
  record { status = done.1.status; error = done.1.error; held = done.1.held; fises = done.1.fises; bytes = done.1.bytes; denied = done.1.denied; rule = done.1.rule },
)

pub given-own : (f : Facts) (h : RegH2d) (event : Event) (d : DriveState) (o : Origin) (past : List Event) (a : Accepted) (lent : Option Run)
    → lent ≡ None → IsDoneAndGiven f h event d o past a lent → IsDoneAndAnswered f h event d o past a
given-own f h event d o past a lent none done =
    let same = ap (λ (l : Option Run). given_bytes d.media l a.bytes.items) none in (
      done.0,
      record { status = done.1.status; error = done.1.error; held = done.1.held; fises = done.1.fises; bytes = sym same ∙ done.1.bytes; denied = done.1.denied; rule = done.1.rule },
    )

pub lent-done : (h : RegH2d) (d e : DriveState) (o : Origin) (past : List Event) (payload : List ℕ) (its : Held) (way : Way) (made : Decision) (run : Run) (a : Accepted)
    → made ≡ Moves its way → IsMoved d h its way → lent_of true its way ≡ Some run → e ≡ record d { settings = active d.settings }
    → IsTold a ready 0 false (served_fises (facts o past).settings (unqueued_command way its.transfer)) [] None None
    → KeepsDrive d o past → IsDoneAndGiven (facts o past) h (decision_event (facts o past) payload made) e o past a (Some run)
lent-done h d e o past payload its way made run a is due lends new t k =
    let same = ap (λ (x : DriveState). x.media) new in
    let op : Op = its.transfer.op in
    let lba : ℕ = its.transfer.lba in
    let count : ℕ = its.transfer.count in
    let command : Command = unqueued_command way its.transfer in
    let given : given_bytes e.media (Some run) a.bytes.items ≡ data_of (facts o past) command =
    ap (λ (m : StoredSectors). sectors_from (sector_at m) run.lba run.count) same
    ∙ lent-bytes d (facts o past) op lba count its.is_shadowed way run lends
    ∙ moved-data d (facts o past) way op lba count its.is_shadowed due.verdict
    ∙ ap (λ (f : Facts). data_of f command) (seen-is d o past k) in
    subst (λ (x : Decision). IsDoneAndGiven (facts o past) h (decision_event (facts o past) payload x) e o past a (Some run)) (sym is) (
      moved-keeps d e o past op lba count payload (did (transfer_deed its.transfer payload)) refl
          (ap (λ (x : DriveState). x.tper) new) (ap (λ (x : DriveState). x.queue) new) (ap (λ (x : DriveState). x.settings) new)
          (λ s. ap (λ (m : StoredSectors). sector_at m s) same
          ∙ lent-stays payload (sector_at d.media s) s op lba count its.is_shadowed way run lends) k,
      served-with (facts o past) h (did (transfer_deed its.transfer payload)) a (given_bytes e.media (Some run) a.bytes.items) command
          (moves-succeeds op lba count payload) (read-as d o past h _ k due.reads) given t,
    )

-- The byte at a place of a sector.
byte_of_sector : (stored : StoredSectors) (s i : ℕ) → i < 512 → byte_at stored (512 * s + i) ≡ get_or (sector_at stored s) i 0
byte_of_sector stored s i below =
    let at : (512 * s + i) / 512 ≡ s = omega arith in
    let in_it : (512 * s + i) % 512 ≡ i = omega arith in
    rw (at, in_it) refl

-- So many sectors have so many bytes.
pub sectors-size : (stored : StoredSectors) (lba n : ℕ) → AllAreWhole stored → length (sectors_from (sector_at stored) lba n) ≡ 512 * n
unfolding sectors_from
sectors-size stored lba zero whole = refl
sectors-size stored lba (suc n) whole =
    let later = sectors-size stored (lba + 1) n whole in
    let first = whole lba in
    omega (arith, length-append (sector_at stored lba) (sectors_from (sector_at stored) (lba + 1) n), later, first)

-- What is given has so many bytes, where it is a run.
pub run-size : (stored : StoredSectors) (lent : Option Run) (bytes given : List ℕ) (run : Run) → AllAreWhole stored
    → lent ≡ Some run → given_bytes stored lent bytes ≡ given → 512 * run.count ≡ length given
run-size stored lent bytes given run whole is view =
    sym (sectors-size stored run.lba run.count whole)
    ∙ ap (λ (o : Option Run). length (given_bytes stored o bytes)) (sym is) ∙ ap length view

-- Each byte of so many sectors.
sectors-byte : (stored : StoredSectors) (lba n i : ℕ) → AllAreWhole stored → i < 512 * n
    → get_or (sectors_from (sector_at stored) lba n) i 0 ≡ byte_at stored (512 * lba + i)
unfolding sectors_from
sectors-byte stored lba zero i whole below = absurd (omega arith)
sectors-byte stored lba (suc n) i whole below =
    let first = whole lba in
    ⊎_elim
    (λ (inside : i < 512).
    get_or_append_left (sector_at stored lba) (sectors_from (sector_at stored) (lba + 1) n) 0 i (omega (arith, first))
    ∙ sym (byte_of_sector stored lba i inside))
    (λ (behind : 512 ≤ i).
    let place : 512 * (lba + 1) + (i - 512) ≡ 512 * lba + i = omega arith in
    let far : i - length (sector_at stored lba) ≡ i - 512 = omega (arith, first) in
    get_or-append_right (sector_at stored lba) (sectors_from (sector_at stored) (lba + 1) n) i 0 (omega (arith, first))
    ∙ ap (λ k. get_or (sectors_from (sector_at stored) (lba + 1) n) k 0) far
    ∙ sectors-byte stored (lba + 1) n (i - 512) whole (omega arith)
    ∙ ap (byte_at stored) place)
    (cases_lt i 512)

-- Bytes that are those of sectors, place by place, are a part of them.
pub sectors-part : (stored : StoredSectors) (lba n from : ℕ) (xs : List ℕ) → AllAreWhole stored → from + length xs ≤ 512 * n
    → ((k : ℕ) → k < length xs → get_or xs k 0 ≡ byte_at stored (512 * lba + from + k))
    → xs ≡ slice_range (sectors_from (sector_at stored) lba n) from (from + length xs)
sectors-part stored lba n from xs whole fits each =
    let all : List ℕ = sectors_from (sector_at stored) lba n in
    let size : from + length xs - from ≡ length xs = omega arith in
    let long : length (drop from all) ≡ 512 * n - from = length-drop from all ∙ ap (λ m. m - from) (sectors-size stored lba n whole) in
    let part : length (take (length xs) (drop from all)) ≡ length xs = length-take-le (length xs) (drop from all) (omega (arith, long)) in
    rw size (
    ext_get_or 0 xs (take (length xs) (drop from all)) (sym part)
    (λ i below.
    let place : 512 * lba + from + i ≡ 512 * lba + (from + i) = omega arith in
    each i below ∙ ap (byte_at stored) place
    ∙ sym (sectors-byte stored lba n (from + i) whole (omega arith))
    ∙ sym (get_or-drop from all i 0)
    ∙ sym (get_or-take (length xs) (drop from all) i 0 below)))

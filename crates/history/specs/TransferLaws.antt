-- Transfers, over every list of acts and whatever quiet items do: the verdict by sectors, what is
-- held, and what comes to the policy.
use Rattle.std.specs.Prelude.{◌≡◌, ◌⊎◌, ◌↔◌, ℕ, ◌+◌, ◌≤◌, ◌<◌, Bool, true, false, List, ◌∷◌, ◌++◌, Option, Some, None}
use Rattle.std.specs.List.{All}
use Rattle.locking.specs.Range.{RangeRows, row_at, is_shadowed}
use Rattle.locking.specs.Verdict.{AreOpen, ArePermitted, AreShadowed, IsLeastDenied, why_of, shadow_why, verdict_of}
use Rattle.locking.specs.declared.range.Op.{Op}
use Rattle.locking.specs.declared.range.Op.TheVariants.{Read, Write}
use Rattle.audit.specs.declared.reason.Why.{Why}
use Rattle.fis.specs.Tags.{slot_count}
use Rattle.history.specs.Opening.{Origin}
use Rattle.trusted_cmds.specs.declared.command.Command.{Command}
use Rattle.locking.specs.declared.ranges.Verdict.{Verdict}
use Rattle.locking.specs.declared.ranges.Verdict.TheVariants.{Serve, Shadow, Denied}
use Rattle.trusted_cmds.specs.declared.command.Command.TheVariants.{Trim}
use Rattle.trusted_cmds.specs.declared.trim.Extent.{Extent}
use Rattle.trusted_cmds.specs.Trims.{extents_in}
use Rattle.history.specs.Events.{HeldCommand, Deed, Nothing, Wrote, Trimmed, Event}
use Rattle.shadow_mbr.specs.Stored.{zeros}
use Rattle.history.specs.Readers.{held, writing}
use Rattle.history.specs.Facts.{Facts, facts}
use Rattle.history.specs.Decisions.{aborted, on_drive, ranges_in_force, verdict_on}
use Rattle.history.specs.Items.{Items}
use Rattle.history.specs.Quiet.{IsQuiet, ReadsTags}
use Rattle.history.specs.History.{Act, Accept, event_by, event_in, log_of}
use Rattle.history.specs.Looked.{IsLookedAtBy}
use Rattle.history.specs.Tcg.{tcg, accepted_data, accepted_fises}
use Rattle.history.specs.DenialLaws.{Reaches, IsFree}

abbrev pub is_denied : Verdict → Bool
is_denied Serve = false
is_denied Shadow = false
is_denied (Denied why) = true

-- No sector is shadowed and the range of each permits the transfer; or it is a read of shadowed
-- sectors alone.
abbrev pub IsPermitted : RangeRows → Op → ℕ → ℕ → Type 0
IsPermitted ranges op lba count =
    (AreOpen ranges lba (lba + count) × ArePermitted ranges op lba (lba + count))
    ⊎ ((op ≡ Read) × AreShadowed ranges lba (lba + count))

-- The reason is the shadow, where a sector is shadowed.
pub record NamesShadow (ranges : RangeRows) (op : Op) (lba count : ℕ) (why : Why) : Type 0 where
  pub sector : ℕ
  pub from : lba ≤ sector
  pub below : sector < lba + count
  pub shadowed : is_shadowed ranges sector ≡ true
  pub names : why ≡ shadow_why op lba count

-- Else it is the range and the flag of the least denied sector.
pub record NamesRange (ranges : RangeRows) (op : Op) (lba count : ℕ) (why : Why) : Type 0 where
  pub opened : AreOpen ranges lba (lba + count)
  pub sector : ℕ
  pub least : IsLeastDenied ranges op lba count sector
  pub names : why ≡ why_of op lba count (row_at ranges sector).range

abbrev pub IsReason : RangeRows → Op → ℕ → ℕ → Why → Type 0
IsReason ranges op lba count why =
    NamesShadow ranges op lba count why ⊎ NamesRange ranges op lba count why

-- The verdict serves exactly what is permitted, and a denial has its reason.
pub record IsBySectors (ranges : RangeRows) (op : Op) (lba count : ℕ) : Type 0 where
  pub served : (is_denied (verdict_of ranges op lba count) ≡ false)
      ↔ IsPermitted ranges op lba count
  pub reason : (why : Why) → verdict_of ranges op lba count ≡ Denied why
      → IsReason ranges op lba count why

abbrev pub VerdictLaw : Type 0
VerdictLaw = (ranges : RangeRows) (op : Op) (lba count : ℕ) → IsBySectors ranges op lba count

-- A held command was accepted at an act of the list, on the drive, with the verdict of the rows in
-- force there, which permitted it.
pub record WasAccepted (items : Items) (o : Origin) (acts : List Act) (tag : ℕ)
    (h : HeldCommand) : Type 0 where
  pub before : List Act
  pub later : List Act
  pub fis : List ℕ
  pub payload : List ℕ
  pub place : acts ≡ later ++ Accept fis payload ∷ before
  pub looked : IsLookedAtBy items (facts o (log_of items o before)) (Accept fis payload)
      h.command (Some tag)
  pub op : Op
  pub lba : ℕ
  pub count : ℕ
  pub moves : Reaches h.command (Some tag) op lba count
  pub on_drive : on_drive (facts o (log_of items o before)) lba count ≡ true
  pub verdict : verdict_on (facts o (log_of items o before)) op lba count ≡ h.verdict
  pub permitted : IsPermitted (ranges_in_force (facts o (log_of items o before))) op lba count

abbrev pub HeldLaw : Type 0
HeldLaw =
    (items : Items) → IsQuiet items → (o : Origin) (acts : List Act) (tag : ℕ) (h : HeldCommand)
    → held (log_of items o acts) tag ≡ Some h → WasAccepted items o acts tag h

-- A transfer, queued or not, that comes to the policy is served exactly where it is permitted, and
-- else aborted.
pub record ServesAct (items : Items) (f : Facts) (act : Act) (op : Op)
    (lba count : ℕ) : Type 0 where
  pub served : ((event_in items f act).failed ≡ None)
      ↔ IsPermitted (ranges_in_force f) op lba count
  pub denied : (IsPermitted (ranges_in_force f) op lba count → ⊥)
      → (event_in items f act).failed ≡ Some aborted

abbrev pub ServiceLaw : Type 0
ServiceLaw =
    (items : Items) (f : Facts) (act : Act) (command : Command) (tag : Option ℕ) (op : Op)
    (lba count : ℕ) → IsLookedAtBy items f act command tag → Reaches command tag op lba count
    → IsFree f tag → on_drive f lba count ≡ true
    → ServesAct items f act op lba count

-- Nothing is held under a tag that no slot has.
abbrev pub TagLaw : Type 0
TagLaw =
    (items : Items) → IsQuiet items → ReadsTags items → (o : Origin) (acts : List Act) (tag : ℕ)
    (h : HeldCommand) → held (log_of items o acts) tag ≡ Some h → tag < slot_count

-- An unqueued write that moved its data: of sectors on the drive, and permitted.
pub record Writes (items : Items) (f : Facts) (act : Act) (lba : ℕ) (bytes : List ℕ) : Type 0 where
  pub count : ℕ
  pub command : Command
  pub writes : Reaches command None Write lba count
  pub looked : IsLookedAtBy items f act command None
  pub payload : bytes ≡ looked.payload
  pub on_drive : on_drive f lba count ≡ true
  pub permitted : IsPermitted (ranges_in_force f) Write lba count

abbrev pub WriteLaw : Type 0
WriteLaw =
    (items : Items) → IsQuiet items → (f : Facts) (act : Act) (lba : ℕ) (bytes : List ℕ)
    → (event_in items f act).deed ≡ Wrote lba bytes → Writes items f act lba bytes

-- A TRIM has no sectors of its own, as those transfers have: it reaches those that its payload names.
abbrev pub trims : Command → Bool
trims (Trim blocks) = true
trims _ = false

-- A command, with its tag, that reaches no data: no sectors of media, nor of the shadow in their place.
pub record ReachesNone (command : Command) (tag : Option ℕ) : Type 0 where
  pub reached : (op : Op) (lba count : ℕ) → Reaches command tag op lba count → ⊥
  pub trims_none : trims command ≡ false

-- No bytes are written to media, and nothing is trimmed: a sector is as it was, or zeros, where a method erased it.
pub record LeavesMedia (deed : Deed) : Type 0 where
  pub unwritten : (lba : ℕ) (bytes : List ℕ) → deed ≡ Wrote lba bytes → ⊥
  pub untrimmed : (extents : List Extent) → deed ≡ Trimmed extents → ⊥
  pub left : (place : ℕ) → (writing place deed ≡ None) ⊎ (writing place deed ≡ Some zeros)

-- Facts with other media.
abbrev pub with_sectors : Facts → (ℕ → List ℕ) → Facts
with_sectors f sectors = record f { sector = sectors }

-- What an act does and gives, and its FISes, by the FIS that it accepts, are the same whatever media hold.
pub record IsBlind (f : Facts) (act : Act) (fis : List ℕ) : Type 0 where
  pub done : (sectors : ℕ → List ℕ) → event_by (with_sectors f sectors) act ≡ event_by f act
  pub given : (sectors : ℕ → List ℕ)
      → accepted_data (with_sectors f sectors) fis (event_by f act)
      ≡ accepted_data f fis (event_by f act)
  pub told : (sectors : ℕ → List ℕ)
      → accepted_fises (with_sectors f sectors) fis (event_by f act)
      ≡ accepted_fises f fis (event_by f act)

-- A command that is looked at and reaches no data leaves media, whatever quiet items do; and by the items of this drive what it
-- does and gives rests on nothing that media hold.
abbrev pub UnwrittenLaw : Type 0
UnwrittenLaw =
    (items : Items) → IsQuiet items → (f : Facts) (act : Act) (command : Command) (tag : Option ℕ)
    → IsLookedAtBy items f act command tag → ReachesNone command tag
    → LeavesMedia (event_in items f act).deed

abbrev pub UngivenLaw : Type 0
UngivenLaw =
    (f : Facts) (act : Act) (command : Command) (tag : Option ℕ)
    → (looked : IsLookedAtBy tcg f act command tag) → ReachesNone command tag
    → IsBlind f act looked.fis

abbrev pub UnreachedLaw : Type 0
UnreachedLaw = UnwrittenLaw × UngivenLaw

-- Each of the extents is on the drive, and may be written.
abbrev pub AreTrimmable : Facts → List Extent → Type 0
AreTrimmable f extents =
    All (λ (extent : Extent). (on_drive f extent.lba extent.count ≡ true)
    × IsPermitted (ranges_in_force f) Write extent.lba extent.count) extents

-- The reason is that of an extent, and each before it may be written.
pub record NamesExtent (ranges : RangeRows) (extents : List Extent) (why : Why) : Type 0 where
  pub before : List Extent
  pub extent : Extent
  pub after : List Extent
  pub place : extents ≡ before ++ extent ∷ after
  pub passed : All (λ (e : Extent). IsPermitted ranges Write e.lba e.count) before
  pub reason : IsReason ranges Write extent.lba extent.count why

-- A TRIM is done exactly where all that it names may be written; then all of it is trimmed, and else nothing changes. A denial
-- has its reason.
pub record TrimsAll (f : Facts) (event : Event) (extents : List Extent) : Type 0 where
  pub done : (event.failed ≡ None) ↔ AreTrimmable f extents
  pub whole : event.failed ≡ None → event.deed ≡ Trimmed extents
  pub none : (error : ℕ) → event.failed ≡ Some error → event.deed ≡ Nothing
  pub reason : (why : Why) → event.denied ≡ Some why
      → NamesExtent (ranges_in_force f) extents why

abbrev pub TrimLaw : Type 0
TrimLaw =
    (items : Items) (f : Facts) (act : Act) (blocks : ℕ)
    → (looked : IsLookedAtBy items f act (Trim blocks) None)
    → TrimsAll f (event_in items f act) (extents_in looked.payload)

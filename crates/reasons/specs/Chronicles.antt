-- What is kept of the onsets of all conditions.
use Rattle.std.specs.Prelude.{◌≡◌, ℕ, true, nat_le, List, slice_index_or, Option, None, if◌then◌else◌}
use Rattle.sp_cells.specs.declared.names.TheConstants.{RANGES}
use Rattle.sp_cells.specs.Flat.{LookUp}
use Rattle.history.specs.Opening.{Origin}
use Rattle.history.specs.Readers.{in_force}
use Rattle.history.specs.History.{log}
use Rattle.reasons.specs.declared.explained.condition.Flag.{Flag}
use Rattle.reasons.specs.declared.explained.condition.Flag.TheVariants.{ReadLockEnabled, WriteLockEnabled, ReadLocked, WriteLocked}
use Rattle.reasons.specs.declared.explained.condition.Place.{Place}
use Rattle.reasons.specs.declared.explained.condition.Condition.{Condition}
use Rattle.reasons.specs.declared.explained.condition.Condition.TheVariants.{Lock, At, Shadow}
use Rattle.reasons.specs.declared.explained.onset.Onset.{Onset}
use Rattle.reasons.specs.declared.explained.onsets.RangeOnsets.{RangeOnsets}
use Rattle.reasons.specs.Conditions.{HasRange, is_in_force, nowhere, place_in, same_place, range_place}
use Rattle.reasons.specs.Onsets.{Sourced, bare_acts, act_number, onset_after, held_since, holds_after}

-- how many acts there were, the onsets of each range's flags and of its place, the global range's first, and that of the
-- shadow
pub record KeptOnsets : Type 0 where
  pub acts : ℕ
  pub ranges : List RangeOnsets
  pub shadow : Option Onset

abbrev pub no_onsets : RangeOnsets
no_onsets = record {
  read_lock_enabled = None;
  write_lock_enabled = None;
  read_locked = None;
  write_locked = None;
  place = nowhere;
  placed = None;
}

abbrev pub onset_of_flag : Flag → RangeOnsets → Option Onset
onset_of_flag ReadLockEnabled onsets = onsets.read_lock_enabled
onset_of_flag WriteLockEnabled onsets = onsets.write_lock_enabled
onset_of_flag ReadLocked onsets = onsets.read_locked
onset_of_flag WriteLocked onsets = onsets.write_locked

-- since when a range has been at a place, if it is there
abbrev pub onset_of_place : Place → RangeOnsets → Option Onset
onset_of_place place onsets = if same_place onsets.place place then onsets.placed else None

-- since when a condition holds, by what is kept
abbrev pub kept_onset : KeptOnsets → Condition → Option Onset
kept_onset k (Lock range flag) = onset_of_flag flag (slice_index_or k.ranges range no_onsets)
kept_onset k (At range place) = onset_of_place place (slice_index_or k.ranges range no_onsets)
kept_onset k Shadow = k.shadow

-- where a range lies, by what is kept
abbrev pub kept_place : KeptOnsets → ℕ → Place
kept_place k range =
    if nat_le range RANGES then (slice_index_or k.ranges range no_onsets).place else nowhere

-- the flags of a range and its place by the rows, behind an act or at the opening
abbrev pub range_onsets_after : LookUp → ℕ → Onset → RangeOnsets → RangeOnsets
range_onsets_after rows range now old = record {
  read_lock_enabled =
      onset_after old.read_lock_enabled (is_in_force rows (Lock range ReadLockEnabled)) now;
  write_lock_enabled =
      onset_after old.write_lock_enabled (is_in_force rows (Lock range WriteLockEnabled)) now;
  read_locked = onset_after old.read_locked (is_in_force rows (Lock range ReadLocked)) now;
  write_locked = onset_after old.write_locked (is_in_force rows (Lock range WriteLocked)) now;
  place = place_in rows range;
  placed = onset_after (onset_of_place (place_in rows range) old) true now;
}

-- it keeps the onsets that the acts say
pub record Recounts (k : KeptOnsets) (o : Origin) (past : List Sourced) : Type 0 where
  pub acts : k.acts ≡ act_number past
  pub onsets : (condition : Condition) → HasRange condition
      → kept_onset k condition ≡ held_since (holds_after o condition) past
  pub places : (range : ℕ)
      → kept_place k range ≡ range_place (in_force o (log o (bare_acts past))) range

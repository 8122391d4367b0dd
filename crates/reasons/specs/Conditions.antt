-- What the denial of a transfer rests on: a lock that is enabled and set, and where its range lies (Opal SSC 2.01, section
-- 4.3.5.2), or the shadow MBR, which is enabled and not done (section 4.3.5.3).
use Rattle.std.specs.Prelude.{◌≡◌, ◌==◌, ◌&&◌, ℕ, Bool, true, nat_le, nat_lt, List, [], ◌∷◌, if◌then◌else◌}
use Rattle.sp_cells.specs.declared.names.TheConstants.{RANGES}
use Rattle.sp_cells.specs.declared.names.Column.{Column}
use Rattle.sp_cells.specs.ColumnNames.{read_lock_enabled_column, write_lock_enabled_column, read_locked_column, write_locked_column}
use Rattle.sp_cells.specs.Flat.{LookUp}
use Rattle.sp_cells.specs.Ranges.{of_range, range_start, range_length}
use Rattle.locking.specs.Ranges.{is_shadow_up}
use Rattle.audit.specs.declared.reason.Why.{Why}
use Rattle.audit.specs.declared.reason.Why.TheVariants as whys
use Rattle.reasons.specs.declared.explained.condition.Flag.{Flag}
use Rattle.reasons.specs.declared.explained.condition.Flag.TheVariants.{ReadLockEnabled, WriteLockEnabled, ReadLocked, WriteLocked}
use Rattle.reasons.specs.declared.explained.condition.Place.{Place}
use Rattle.reasons.specs.declared.explained.condition.Condition.{Condition}
use Rattle.reasons.specs.declared.explained.condition.Condition.TheVariants.{Lock, At, Shadow}

-- the column of the Locking table
abbrev pub flag_column : Flag → Column
flag_column ReadLockEnabled = read_lock_enabled_column
flag_column WriteLockEnabled = write_lock_enabled_column
flag_column ReadLocked = read_locked_column
flag_column WriteLocked = write_locked_column

-- where a range lies, and whether that is there
abbrev pub place_in : LookUp → ℕ → Place
place_in rows range = record { start = range_start rows range; length = range_length rows range }

abbrev pub same_place : Place → Place → Bool
same_place a b = (a.start == b.start) && (a.length == b.length)

-- whether it holds by these rows
abbrev pub is_in_force : LookUp → Condition → Bool
is_in_force rows (Lock range flag) = of_range rows range (flag_column flag) == 1
is_in_force rows (At range place) = same_place (place_in rows range) place
is_in_force rows Shadow = is_shadow_up rows

-- a range of that number there is
abbrev pub has_range : Condition → Bool
has_range (Lock range flag) = nat_le range RANGES
has_range (At range place) = nat_le range RANGES
has_range Shadow = true

abbrev pub HasRange : Condition → Type 0
HasRange condition = has_range condition ≡ true

-- where a range lies, if there is one of that number
abbrev pub nowhere : Place
nowhere = record { start = 0; length = 0 }

abbrev pub range_place : LookUp → ℕ → Place
range_place rows range = if nat_le range RANGES then place_in rows range else nowhere

-- the range that a denial names; the global one where it names none
abbrev pub range_named : Why → ℕ
range_named (whys.ReadLocked lba count range) = range
range_named (whys.WriteLocked lba count range) = range
range_named _ = 0

-- where a numbered range lies; the global one has the sectors that are left
abbrev pub lies : (range : ℕ) → Place → List Condition
lies range place = if nat_lt 0 range then At range place ∷ [] else []

-- what a denial rests on: the lock and what enables it, and where the range lies; or the shadow
abbrev pub conditions_of : Why → Place → List Condition
conditions_of (whys.ReadLocked lba count range) place =
    Lock range ReadLocked ∷ Lock range ReadLockEnabled ∷ lies range place
conditions_of (whys.WriteLocked lba count range) place =
    Lock range WriteLocked ∷ Lock range WriteLockEnabled ∷ lies range place
conditions_of (whys.ReadShadow lba count) place = Shadow ∷ []
conditions_of (whys.WriteShadow lba count) place = Shadow ∷ []
conditions_of _ place = []

-- by the rows before it
abbrev pub conditions_in : LookUp → Why → List Condition
conditions_in rows why = conditions_of why (range_place rows (range_named why))

-- What a drive starts from: the tables of its SPs, and those that a Revert brings back. Its media are
-- zeros, and nothing is held.
use Rattle.std.specs.Prelude.{◌≡◌, ℕ, Bool, true, false, List, [], ◌∷◌, ◌++◌, Option, Some, None, Result, Ok, Err}
use Rattle.sp_cells.specs.Config.{Config, IsWithinLimits}
use Rattle.sp_tables.specs.Contents.{Contents, factory_contents, with_row}
use Rattle.sp_tables.specs.Faults.{set_fault}
use Rattle.sp_cells.specs.Limits.{manufactured}
use Rattle.sp_cells.specs.Names.{locking_sp, range_uid, admin_pin_uid}
use Rattle.sp_cells.specs.ColumnNames.{life_cycle_state_column, pin_column, range_start_column, range_length_column, read_lock_enabled_column, write_lock_enabled_column, read_locked_column, write_locked_column}
use Rattle.sp_cells.specs.declared.names.Sp.TheVariants.{Admin, Locking}
use Rattle.sp_cells.specs.declared.names.Column.{Column}
use Rattle.sp_cells.specs.declared.cells.Cell.{Cell}
use Rattle.sp_cells.specs.declared.cells.Cell.TheVariants.{Number, Bytes}
use Rattle.sp_cells.specs.declared.error.SetError.{SetError}
use Rattle.locking.specs.declared.range.RangeRow.{RangeRow}

-- What a drive starts from, and the tables of a new drive.
pub record Origin : Type 0 where
  pub tables : Contents
  pub factory : Contents

-- A new drive has the tables of the factory for the same config.
abbrev pub origin_on : Contents → Origin
origin_on tables =
    record { tables = tables; factory = factory_contents tables.config }

-- The tables as they leave the factory.
abbrev pub factory_origin : Config → Origin
factory_origin config = origin_on (factory_contents config)

-- After an Activate the Locking SP is Manufactured, and the PIN of its Admin1 is the MSID (Opal
-- SSC, Activate).
abbrev pub life_cycle : List (Column × Cell)
life_cycle = (life_cycle_state_column, Number manufactured) ∷ []

abbrev pub pin : List ℕ → List (Column × Cell)
pin msid = (pin_column, Bytes msid) ∷ []

abbrev pub manufactured_contents : Config → Contents
manufactured_contents config = with_row Admin locking_sp life_cycle (factory_contents config)

abbrev pub activated_contents : Config → Contents
activated_contents config =
    with_row Locking (admin_pin_uid 1) (pin config.msid) (manufactured_contents config)

abbrev pub activated_origin : Config → Origin
activated_origin config = origin_on (activated_contents config)

abbrev pub flag : Bool → Cell
flag true = Number 1
flag false = Number 0

-- RangeStart, RangeLength, ReadLockEnabled, WriteLockEnabled, ReadLocked, WriteLocked (Opal SSC,
-- Locking table).
abbrev pub changes_of : RangeRow → List (Column × Cell)
changes_of row =
    (range_start_column, Number row.start) ∷ (range_length_column, Number row.length)
    ∷ (read_lock_enabled_column, flag row.read_enabled)
    ∷ (write_lock_enabled_column, flag row.write_enabled)
    ∷ (read_locked_column, flag row.read_locked) ∷ (write_locked_column, flag row.write_locked) ∷ []

-- Why the cells of a range are not set.
abbrev pub row_fault : Origin → RangeRow → Option SetError
row_fault o row = set_fault o.tables Locking (range_uid row.range) (changes_of row)

-- What a drive starts from once they are set.
abbrev pub with_range : RangeRow → Origin → Origin
with_range row o =
    record o { tables = with_row Locking (range_uid row.range) (changes_of row) o.tables }

-- The fault, or else what follows.
abbrev pub unless : {A : Type 0} → Option SetError → Result A SetError → Result A SetError
unless None next = next
unless (Some fault) next = Err fault

-- The rows are set one after the other, and the first refused one decides.
abbrev pub origin_after : List RangeRow → Origin → Result Origin SetError
origin_after [] o = Ok o
origin_after (row ∷ rows) o = unless (row_fault o row) (origin_after rows (with_range row o))

-- The factory's tables after an Activate, with the given cells of ranges.
abbrev pub origin_with : Config → List RangeRow → Result Origin SetError
origin_with config rows = origin_after rows (activated_origin config)

-- A drive for which no row is given is as it leaves the factory.
abbrev pub opened_with : Config → List RangeRow → Result Origin SetError
opened_with config [] = Ok (factory_origin config)
opened_with config (row ∷ rows) = origin_with config (row ∷ rows)

-- Both settings of an Activate fit the factory's tables.
abbrev pub ActivationLaw : Type 0
ActivationLaw =
    (config : Config) → IsWithinLimits config.sectors config.mbr_sectors config.msid
    → (set_fault (factory_contents config) Admin locking_sp life_cycle ≡ None)
    × (set_fault (manufactured_contents config) Locking (admin_pin_uid 1) (pin config.msid) ≡ None)

-- A row behind others is set where it has no fault, and else decides.
abbrev pub RowLaw : Type 0
RowLaw =
    (config : Config) (rows : List RangeRow) (row : RangeRow) (o : Origin)
    → origin_with config rows ≡ Ok o
    → origin_with config (rows ++ row ∷ []) ≡ unless (row_fault o row) (Ok (with_range row o))

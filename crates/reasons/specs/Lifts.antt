-- What the remedy of a denied transfer does: it names a Set, and by the rows with that cell set the same transfer is
-- permitted, where nothing else denied it (Opal SSC 2.01, sections 4.3.5.2 and 4.3.5.3).
use Rattle.std.specs.Prelude.{◌≡◌, ◌⊎◌, ℕ, ◌+◌, true, List, [], ◌∷◌, ◌++◌, Option, None, Some, is_some}
use Rattle.basics.specs.declared.profile.Profile.{Profile}
use Rattle.sp_cells.specs.declared.names.Uid.{Uid}
use Rattle.sp_cells.specs.declared.names.Sp.{Sp}
use Rattle.sp_cells.specs.declared.names.Sp.TheVariants.{Locking}
use Rattle.sp_cells.specs.declared.names.Column.{Column}
use Rattle.sp_cells.specs.declared.cells.Cell.TheVariants.{Number}
use Rattle.sp_cells.specs.Names.{range_uid, mbr_control}
use Rattle.sp_cells.specs.ColumnNames.{read_locked_column, write_locked_column, mbr_done_column}
use Rattle.sp_cells.specs.Flat.{LookUp}
use Rattle.sp_tables.specs.Looks.{changed}
use Rattle.ace_eval.specs.Aces.{holds_at, ace_of}
use Rattle.audit.specs.declared.reason.Why.{Why}
use Rattle.audit.specs.declared.reason.Why.TheVariants as whys
use Rattle.locking.specs.declared.range.Op.{Op}
use Rattle.locking.specs.Range.{RangeRows, row_at}
use Rattle.locking.specs.Ranges.{ranges_in}
use Rattle.locking.specs.Verdict.{EachSector, is_permitted}
use Rattle.history.specs.Facts.{Facts}
use Rattle.history.specs.Decisions.{ranges_in_force}
use Rattle.history.specs.History.{Act}
use Rattle.history.specs.DenialLaws.{TransferDenied}
use Rattle.history.specs.TransferLaws.{IsPermitted}
use Rattle.reasons.specs.Remedies.{aces_for, set_text, lifting_text}

-- a number that is put into a cell of the Locking SP
pub record NamedSet : Type 0 where
  pub object : Uid
  pub column : Column
  pub number : ℕ

-- a lock of a range becomes 0, Done of the shadow MBR 1
abbrev pub lock_cleared : (range : ℕ) → Column → NamedSet
lock_cleared range column = record { object = range_uid range; column = column; number = 0 }

abbrev pub shadow_done : NamedSet
shadow_done = record { object = mbr_control; column = mbr_done_column; number = 1 }

-- the Set that lifts the denial of a transfer; none for what is no transfer
abbrev pub set_named : Why → Option NamedSet
set_named (whys.ReadLocked lba count range) = Some (lock_cleared range read_locked_column)
set_named (whys.WriteLocked lba count range) = Some (lock_cleared range write_locked_column)
set_named (whys.ReadShadow lba count) = Some shadow_done
set_named (whys.WriteShadow lba count) = Some shadow_done
set_named _ = None

-- it is the Set that is told
abbrev pub TellsSet : Why → NamedSet → Type 0
TellsSet why its =
    (profile : Profile) (look : LookUp) → lifting_text profile look why
    ≡ set_text profile look Locking its.object its.column its.number

-- the rows have its cell, and as they are with it set
abbrev pub HasNamedCell : LookUp → NamedSet → Type 0
HasNamedCell look its = is_some (look Locking its.object its.column) ≡ true

abbrev pub rows_set : LookUp → NamedSet → LookUp
rows_set look its = changed look Locking its.object ((its.column, Number its.number) ∷ [])

-- nothing but the reason denies a sector: the range that it names has it, or its range permits it; by the shadow its
-- range permits it
abbrev pub IsOfRange : RangeRows → Op → (range sector : ℕ) → Type 0
IsOfRange rows op range sector =
    ((row_at rows sector).range ≡ range) ⊎ (is_permitted rows op sector ≡ true)

abbrev pub IsDeniedByThisAlone : Why → RangeRows → Op → ℕ → Type 0
IsDeniedByThisAlone (whys.ReadLocked lba count range) rows op sector =
    IsOfRange rows op range sector
IsDeniedByThisAlone (whys.WriteLocked lba count range) rows op sector =
    IsOfRange rows op range sector
IsDeniedByThisAlone _ rows op sector = is_permitted rows op sector ≡ true

-- The remedy names a Set and tells it. Behind it no sector is denied by its range that was not; and the transfer is
-- permitted, where nothing but the reason denied a sector of it.
pub record IsLifted (f : Facts) (op : Op) (lba count : ℕ) (why : Why) : Type 0 where
  pub its : NamedSet
  pub named : set_named why ≡ Some its
  pub told : TellsSet why its
  pub stays : (sector : ℕ) → is_permitted (ranges_in_force f) op sector ≡ true
      → is_permitted (ranges_in f.config.mbr_sectors (rows_set f.rows its)) op sector ≡ true
  pub permits : HasNamedCell f.rows its
      → EachSector lba (lba + count) (IsDeniedByThisAlone why (ranges_in_force f) op)
      → IsPermitted (ranges_in f.config.mbr_sectors (rows_set f.rows its)) op lba count

abbrev pub LiftLaw : Type 0
LiftLaw =
    (f : Facts) (act : Act) (why : Why) (its : TransferDenied f act why)
    → IsLifted f its.op its.lba its.count why

-- Who fulfils one of the ACEs that are told has an ACE for the method, and the column.
abbrev pub FulfilLaw : Type 0
FulfilLaw =
    (profile : Profile) (look : LookUp) (sp : Sp) (object method : Uid) (column : Option Column)
    (held before later : List Uid) (ace : Uid)
    → aces_for profile look sp object method column ≡ before ++ ace ∷ later
    → holds_at look sp held ace ≡ true
    → is_some (ace_of profile look sp object method column held) ≡ true

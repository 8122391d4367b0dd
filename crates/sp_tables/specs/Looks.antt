-- A change of a row, and why it is not made, as whoever reads the rows sees it.
use Rattle.std.specs.Prelude.{◌==◌, ℕ, not, ◌&&◌, List, [], ◌∷◌, Option, option_map, if◌then◌else◌}
use Rattle.sp_cells.specs.declared.names.Uid.{Uid}
use Rattle.sp_cells.specs.declared.names.Sp.{Sp}
use Rattle.sp_cells.specs.declared.names.Column.{Column}
use Rattle.sp_cells.specs.declared.cells.Cell.{Cell}
use Rattle.sp_cells.specs.declared.error.SetError.{SetError}
use Rattle.sp_cells.specs.declared.error.SetError.TheVariants as faults
use Rattle.sp_cells.specs.Flat.{LookUp, sp_eq, has_each}
use Rattle.sp_cells.specs.Values.{takes_each}
use Rattle.sp_tables.specs.Faults.{range_row_number, is_overlap, is_beyond, are_fit, first_of}

-- the rows of one SP as whoever reads them sees them
abbrev pub RowLook : Type 0
RowLook = Uid → Column → Option Cell

-- the rows with another value in a cell, where there is one
abbrev pub put_in : Uid → Column → Cell → RowLook → RowLook
put_in object column v rows o c =
    if (object.0 == o.0) && (column.0 == c.0) then option_map (λ _. v) (rows o c) else rows o c

-- the rows with these cells of one object changed, one after another
abbrev pub puts_in : Uid → List (Column × Cell) → RowLook → RowLook
puts_in object [] rows = rows
puts_in object (p ∷ ps) rows = puts_in object ps (put_in object p.0 p.1 rows)

-- the rows of both SPs with these cells of one object changed
abbrev pub changed : LookUp → Sp → Uid → List (Column × Cell) → LookUp
changed look sp object changes s = if sp_eq s sp then puts_in object changes (look s) else look s

-- why these cells of an object are not set, by the rows as they are and as they would be after it
abbrev pub fault_seen : ℕ → LookUp → Sp → Uid → List (Column × Cell) → Option SetError
fault_seen sectors look sp object changes = first_of (
    (not (has_each look sp object changes), faults.NoCell)
    ∷ (not (takes_each object changes), faults.WrongType)
    ∷ (is_overlap (changed look sp object changes) (range_row_number sp object), faults.Overlap)
    ∷ (
      is_beyond sectors (changed look sp object changes)
          (range_row_number sp object),
      faults.Beyond,
    )
    ∷ (not (are_fit changes), faults.Expr)
    ∷ [])

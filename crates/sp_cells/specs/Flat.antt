-- The rows as a flat list of cells, and what it means to read and to set one.
use Rattle.std.specs.Prelude.{◌==◌, Bool, true, false, ◌&&◌, List, [], ◌∷◌, Option, None, Some, is_some, if◌then◌else◌}
use Rattle.std.specs.List.{list_all}
use Rattle.sp_cells.specs.declared.names.Uid.{Uid}
use Rattle.sp_cells.specs.declared.names.Sp.{Sp}
use Rattle.sp_cells.specs.declared.names.Sp.TheVariants.{Admin, Locking}
use Rattle.sp_cells.specs.declared.names.Column.{Column}
use Rattle.sp_cells.specs.declared.cells.Cell.{Cell}

-- a cell with its place: the SP, the object and the column (Core 2.01, chapter 3, on tables)
pub record PlacedCell : Type 0 where
  pub sp : Sp
  pub object : Uid
  pub column : Column
  pub value : Cell

-- the rows as whoever reads them sees them
abbrev pub LookUp : Type 0
LookUp = Sp → Uid → Column → Option Cell

abbrev pub sp_eq : Sp → Sp → Bool
sp_eq Admin Admin = true
sp_eq Admin Locking = false
sp_eq Locking Admin = false
sp_eq Locking Locking = true

-- the cell stands at this place
abbrev pub is_at : Sp → Uid → Column → PlacedCell → Bool
is_at sp object column e = sp_eq e.sp sp && (e.object.0 == object.0) && (e.column.0 == column.0)

-- the cell at a place: the first that stands there
abbrev pub cell_at : List PlacedCell → LookUp
cell_at [] sp object column = None
cell_at (e ∷ es) sp object column =
    if is_at sp object column e then Some e.value else cell_at es sp object column

-- the list with that cell replaced, and nothing else
abbrev pub with_cell : List PlacedCell → Sp → Uid → Column → Cell → List PlacedCell
with_cell [] sp object column v = []
with_cell (e ∷ es) sp object column v =
    if is_at sp object column e then record e { value = v } ∷ es else
    e ∷ with_cell es sp object column v

-- the list with these cells of one object replaced, one after another
abbrev pub with_cells : List PlacedCell → Sp → Uid → List (Column × Cell) → List PlacedCell
with_cells es sp object [] = es
with_cells es sp object (p ∷ ps) = with_cells (with_cell es sp object p.0 p.1) sp object ps

-- the object has each of these columns
abbrev pub has_each : LookUp → Sp → Uid → List (Column × Cell) → Bool
has_each look sp object ps = list_all (λ p. is_some (look sp object p.0)) ps

-- The rows of one SP as a flat list.
use Rattle.std.specs.Prelude.{◌≡◌, ◌==◌, ℕ, Bool, ◌&&◌, List, [], ◌∷◌, ◌++◌, map, Option, None, Some, unwrap_or, if◌then◌else◌, suc}
use Rattle.sp_cells.specs.declared.names.Uid.{Uid}
use Rattle.sp_cells.specs.declared.names.Sp.{Sp}
use Rattle.sp_cells.specs.declared.names.Column.{Column}
use Rattle.sp_cells.specs.declared.cells.Cell.{Cell}
use Rattle.sp_cells.specs.Names.{uid}
use Rattle.sp_cells.specs.Flat.{PlacedCell}

-- a cell of one SP with its place
pub record Item : Type 0 where
  pub object : Uid
  pub column : Column
  pub value : Cell

-- the cell that stands in a list for such a triple
abbrev pub item_of : Uid × Column × Cell → Item
item_of p = record { object = p.0; column = p.1; value = p.2 }

-- these were added to a list of such triples
abbrev pub AddsItems : List (Uid × Column × Cell) → List (Uid × Column × Cell) → List Item
    → Type 0
AddsItems old new items = map item_of new ≡ map item_of old ++ items

-- the cells with their SP
abbrev pub on : Sp → List Item → List PlacedCell
on sp items = map (λ i. record {
  sp = sp;
  object = i.object;
  column = i.column;
  value = i.value;
}) items

-- the cell stands at this place
abbrev pub is_here : Uid → Column → Item → Bool
is_here object column i = (i.object.0 == object.0) && (i.column.0 == column.0)

-- the first cell at a place
abbrev pub item_at : List Item → Uid → Column → Option Cell
item_at [] object column = None
item_at (i ∷ is) object column =
    if is_here object column i then Some i.value else item_at is object column

-- the list with that cell replaced, and nothing else
abbrev pub with_item : List Item → Uid → Column → Cell → List Item
with_item [] object column v = []
with_item (i ∷ is) object column v =
    if is_here object column i then record i { value = v } ∷ is else
    i ∷ with_item is object column v

-- the list with these cells of one object replaced, one after another
abbrev pub with_items : List Item → Uid → List (Column × Cell) → List Item
with_items is object [] = is
with_items is object (p ∷ ps) = with_items (with_item is object p.0 p.1) object ps

-- what each of these changes finds in its place
abbrev pub replaced : List Item → Uid → List (Column × Cell) → List Cell
replaced is object [] = []
replaced is object (p ∷ ps) =
    unwrap_or (item_at is object p.0) p.1 ∷ replaced (with_item is object p.0 p.1) object ps

-- the columns of one row
abbrev pub column_at : List (Column × Cell) → Column → Option Cell
column_at [] column = None
column_at (p ∷ ps) column = if p.0.0 == column.0 then Some p.1 else column_at ps column

abbrev pub with_column : List (Column × Cell) → Column → Cell → List (Column × Cell)
with_column [] column v = []
with_column (p ∷ ps) column v =
    if p.0.0 == column.0 then (p.0, v) ∷ ps else p ∷ with_column ps column v

-- the cells of one row
abbrev pub row_items : Uid → List (Column × Cell) → List Item
row_items object ps = map (λ p. record { object = object; column = p.0; value = p.1 }) ps

-- the cells of rows whose names follow one another
abbrev pub rows_from : {R : Type 0} → (R → List (Column × Cell)) → ℕ → List R → List Item
rows_from columns first [] = []
rows_from columns first (r ∷ rs) =
    row_items (uid first) (columns r) ++ rows_from columns (suc first) rs

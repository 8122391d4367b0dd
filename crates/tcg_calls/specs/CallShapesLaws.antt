-- What Get writes of a cell, Set reads back.
use Rattle.std.specs.Prelude.{◌≡◌, ◌&&◌, ◌^◌, nat_le, nat_lt, ℕ, Bool, true, length, Some}
use Rattle.std.specs.List.{list_all}
use Rattle.sp_cells.specs.declared.cells.Cell.{Cell}
use Rattle.sp_cells.specs.declared.cells.Cell.TheVariants.{Number, Bytes, Uid, Numbers, Expr, Columns, OneName}
use Rattle.sp_cells.specs.declared.cells.Element.{Element}
use Rattle.sp_cells.specs.declared.cells.Element.TheVariants.{Authority, And, Or}
use Rattle.sp_cells.specs.declared.values.ColumnType.{ColumnType}
use Rattle.sp_cells.specs.declared.values.ColumnType.TheVariants as types
use Rattle.sp_cells.specs.Limits.{most_short_elements, most_elements}
use Rattle.sp_cells.specs.Values.{is_of_type}
use Rattle.tcg_calls.specs.CellValues.{cell_tree, cell_in}

-- a name has eight bytes
abbrev pub is_short : ℕ → Bool
is_short n = nat_lt n (2 ^ 64)

abbrev pub is_short_element : Element → Bool
is_short_element (Authority a) = is_short a.0
is_short_element And = true
is_short_element Or = true

-- the most elements of an expression in a column of this type
abbrev pub most_elements_in : ColumnType → ℕ
most_elements_in types.Expression = most_short_elements
most_elements_in _ = most_elements

-- as every cell of the code is: names have eight bytes, and an expression has no more elements than one may have there
abbrev pub is_short_cell : (most : ℕ) → Cell → Bool
is_short_cell most (Uid u) = is_short u.0
is_short_cell most (Expr es) = list_all is_short_element es && nat_le (length es) most
is_short_cell most (Number n) = true
is_short_cell most (Bytes b) = true
is_short_cell most (Numbers r) = true
is_short_cell most (Columns cs) = true
is_short_cell most (OneName b) = true

abbrev pub RoundTrip : Type 0
RoundTrip = (kind : ColumnType) (cell : Cell) → is_of_type kind cell ≡ true
    → is_short_cell (most_elements_in kind) cell ≡ true
    → cell_in kind (cell_tree cell) ≡ Some cell

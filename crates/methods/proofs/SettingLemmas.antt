-- Cells that are read one after another.
use Rattle.std.proofs.Common.{ℕ, List, ◌++◌, Option, None, Some, is_some, if◌then◌else◌}
use Rattle.std.specs.List.{list_all, filter_map}
use Rattle.sp_cells.specs.declared.names.Column.{Column}
use Rattle.sp_cells.specs.declared.cells.Cell.{Cell}
use Rattle.sp_cells.specs.declared.values.ColumnType.{ColumnType}
use Rattle.tcg_tokens.specs.Tree.{Tree}
use Rattle.methods.specs.Settings.{cell_for}

-- what the rest of the assignments set behind those that were read
abbrev pub cells_behind : List (Column × ColumnType) → List (Column × Cell) → List (ℕ × Tree) → Option (List (Column × Cell))
cells_behind types cs ps = if list_all (λ p. is_some (cell_for types p)) ps then Some (cs ++ filter_map (cell_for types) ps) else None

-- Which rows Next tells of a table, and how names of objects are written in one list (Core 2.01, sections 5.3.3.8 and 5.3.3.13).
use Rattle.std.specs.Prelude.{◌==◌, ℕ, List, [], ◌∷◌, map, take, Option, None, Some, option_map, if◌then◌else◌}
use Rattle.sp_cells.specs.declared.names.Uid.{Uid}
use Rattle.tcg_tokens.specs.Tree.{Tree, list, trees_of}
use Rattle.tcg_calls.specs.CellValues.{uid_tree}

-- the rows behind this one; None where it is none of them
abbrev pub rows_past : Uid → List Uid → Option (List Uid)
rows_past row [] = None
rows_past row (r ∷ rs) = if r.0 == row.0 then Some rs else rows_past row rs

-- from the first row on, or from the one behind this one
abbrev pub rows_from_next : Option Uid → List Uid → Option (List Uid)
rows_from_next None rows = Some rows
rows_from_next (Some row) rows = rows_past row rows

-- at most so many
abbrev pub first_rows : Option ℕ → List Uid → List Uid
first_rows None rows = rows
first_rows (Some count) rows = take count rows

abbrev pub rows_asked : Option Uid → Option ℕ → List Uid → Option (List Uid)
rows_asked after count rows = option_map (first_rows count) (rows_from_next after rows)

-- the names of objects as one value
abbrev pub uids_tree : List Uid → Tree
uids_tree names = list (trees_of (map uid_tree names))

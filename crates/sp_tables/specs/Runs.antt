-- Rows of a table in runs of names that follow one another.
use Rattle.std.specs.Prelude.{◌≡◌, ◌<◌, ℕ, true, List, length, take, slice_index_or, None, is_some}
use Rattle.std.specs.List.{flat_map}
use Rattle.sp_cells.specs.declared.names.Uid.{Uid}
use Rattle.sp_cells.specs.declared.names.Column.{Column}
use Rattle.sp_cells.specs.declared.cells.Cell.{Cell}
use Rattle.sp_tables.specs.declared.sp_rows.runs.Run.{Run}
use Rattle.sp_tables.specs.Items.{Item, item_at, rows_from}

-- the cells of a run
abbrev pub run_items : {R : Type 0} → (R → List (Column × Cell)) → Run R → List Item
run_items columns run = rows_from columns run.first.0 run.rows.items

-- list i has this cell, and no list before it
pub record FindsRun {R : Type 0} (items : R → List Item) (lists : List R) (object : Uid)
    (column : Column) (i : ℕ) : Type 0 where
  pub within : i < length lists
  pub has : (r : R) → is_some (item_at (items (slice_index_or lists i r)) object column) ≡ true
  pub before : item_at (flat_map items (take i lists)) object column ≡ None

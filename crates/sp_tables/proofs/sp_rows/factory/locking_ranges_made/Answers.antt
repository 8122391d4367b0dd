use Rattle.std.proofs.Common.{◌≡◌, ◌++◌, codes, ◌∙◌, ap, rules}
use Rattle.std.specs.List.{flat_map}
use Rattle.sp_cells.specs.declared.names.TheConstants.{RANGES}
use Rattle.sp_cells.specs.Names.{global_range, range_base}
use Rattle.sp_tables.specs.Items.{row_items}
use Rattle.sp_tables.specs.Runs.{run_items}
use Rattle.sp_tables.specs.Columns.{locking_columns}
use Rattle.sp_tables.specs.Factory.{new_range, numbered_range, family, locking_ranges}
use Rattle.sp_tables.proofs.sp_rows.factory.locking_ranges_made.Goals as goal

pub returns : goal.returns
unfolding locking_ranges
returns c =
    let global : flat_map (run_items locking_columns) c.push_one.new.runs.items ≡ row_items global_range (new_range global_range (codes "Locking_GlobalRange")) = search rules in
    c.in_ok-push_family.ensures ∙ ap (λ q. q ++ family range_base numbered_range RANGES) global

-- The cells of the tables of one SP.
use Rattle.std.specs.Prelude.{List, ◌++◌}
use Rattle.std.specs.List.{flat_map}
use Rattle.sp_tables.specs.declared.sp_rows.runs.Run.{Run}
use Rattle.sp_tables.specs.declared.sp_rows.rows.AceRow.{AceRow}
use Rattle.sp_tables.specs.declared.sp_rows.halves.SpTables.{SpTables}
use Rattle.sp_tables.specs.declared.sp_rows.halves.FieldTables.{FieldTables}
use Rattle.sp_tables.specs.Items.{Item}
use Rattle.sp_tables.specs.Runs.{run_items}
use Rattle.sp_tables.specs.Columns.{sp_columns, authority_columns, c_pin_columns, locking_columns, mbr_control_columns, tper_info_columns, ace_columns, range_key_columns, locking_info_columns, table_columns, data_removal_columns, constant_columns}

-- those that `Base` has not
abbrev pub field_items : FieldTables → List Item
field_items t =
    flat_map (run_items range_key_columns) t.range_keys.items
    ++ (flat_map (run_items locking_info_columns) t.locking_infos.items
    ++ (flat_map (run_items table_columns) t.tables.items
    ++ (flat_map (run_items data_removal_columns) t.data_removals.items
    ++ flat_map (run_items constant_columns) t.constants.items)))

-- the ACEs and those
abbrev pub last_items : List (Run AceRow) → FieldTables → List Item
last_items aces field = flat_map (run_items ace_columns) aces ++ field_items field

-- table behind table
abbrev pub half_items : SpTables → List Item
half_items t =
    flat_map (run_items sp_columns) t.sps.items
    ++ (flat_map (run_items authority_columns) t.authorities.items
    ++ (flat_map (run_items c_pin_columns) t.pins.items
    ++ (flat_map (run_items locking_columns) t.ranges.items
    ++ (flat_map (run_items mbr_control_columns) t.mbr_controls.items
    ++ (flat_map (run_items tper_info_columns) t.tper_infos.items
    ++ last_items t.aces.items t.field)))))

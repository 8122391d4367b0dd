-- The kinds of objects (Core 2.01, chapter 5; Opal SSC 2.01, sections 4.2 and 4.3).
use Rattle.std.specs.Prelude.{◌==◌, ◌%◌, ◌||◌, ℕ, Bool, Option, None, Some, if◌then◌else◌}
use Rattle.sp_cells.specs.declared.names.Uid.{Uid}
use Rattle.sp_cells.specs.declared.names.Sp.{Sp}
use Rattle.sp_cells.specs.Names.{this_sp, table_of, access_control, mbr_table_row, datastore_table_row, sp_info_table, sp_templates_table, method_id_table, secret_protect_table, template_table, ace_table, authority_table, c_pin_table, sp_table, locking_info_table, table_table, locking_table, mbr_control_table, tper_info_table, key_table, data_removal_table}
use Rattle.sp_cells.specs.declared.byte_tables.ByteTable.{ByteTable}
use Rattle.sp_cells.specs.declared.byte_tables.ByteTable.TheVariants as byte_tables
use Rattle.tcg_calls.specs.Asks.{is_mbr_table, is_datastore}
use Rattle.methods.specs.declared.kinds.Kind.{Kind}
use Rattle.methods.specs.declared.kinds.Kind.TheVariants as kinds

-- a table as an object: it is no row of its table
abbrev pub is_whole_table : Uid → Bool
is_whole_table object = object.0 % 0x100000000 == 0

-- a row of the Table table on one of the two byte tables
abbrev pub tells_of_bytes : Uid → Bool
tells_of_bytes object = object.0 == mbr_table_row.0 || object.0 == datastore_table_row.0

-- the kind of a table's rows
abbrev pub kind_of_table : ℕ → Option Kind
kind_of_table table =
    if table == ace_table then Some kinds.Ace else
    if table == authority_table then Some kinds.Authority else
    if table == c_pin_table then Some kinds.CPin else
    if table == sp_table then Some kinds.Sp else
    if table == locking_table then Some kinds.Locking else
    if table == mbr_control_table then Some kinds.MbrControl else
    if table == tper_info_table then Some kinds.TperInfo else
    if table == locking_info_table then Some kinds.LockingInfo else
    if table == table_table then Some kinds.ObjectTable else
    if table == sp_info_table then Some kinds.SpInfo else
    if table == sp_templates_table then Some kinds.SpTemplates else
    if table == method_id_table then Some kinds.MethodId else
    if table == secret_protect_table then Some kinds.SecretProtect else
    if table == template_table then Some kinds.Template else
    if table == key_table then Some kinds.Key else
    if table == data_removal_table then Some kinds.DataRemoval else None

-- the kind of an object in a session of an SP
abbrev pub kind_of : Sp → Uid → Option Kind
kind_of sp object =
    if object.0 == this_sp.0 then Some kinds.ThisSp else
    if is_mbr_table sp object then Some kinds.MbrTable else
    if is_datastore sp object then Some kinds.DataStore else
    if object.0 == access_control.0 then Some kinds.AccessControl else
    if is_whole_table object then Some kinds.WholeTable else
    if tells_of_bytes object then Some kinds.Table else
    kind_of_table (table_of object)

-- the byte table that an object of this kind is; one that is none has no bytes to ask for
abbrev pub byte_table_of : Option Kind → ByteTable
byte_table_of (Some kinds.DataStore) = byte_tables.DataStore
byte_table_of _ = byte_tables.ShadowMbr

-- The names of objects and methods (Core 2.01, section 5.1; Opal SSC 2.01, sections 4.2 and 4.3): no other file of
-- the definitions has their numbers.
use Rattle.std.specs.Prelude.{◌+◌, ◌*◌, ◌/◌, ℕ, zero, suc}
use Rattle.sp_cells.specs.declared.names.Uid.{Uid}
use Rattle.sp_cells.specs.declared.names.Column.{Column}

-- the name that this number writes
abbrev pub uid : ℕ → Uid
uid n = record { 0 = n }

-- the table that an object is a row of, by the upper four bytes of its name
abbrev pub table_of : Uid → ℕ
table_of object = object.0 / 0x100000000

abbrev pub table_table : ℕ
table_table = 0x0001

abbrev pub sp_info_table : ℕ
sp_info_table = 0x0002

abbrev pub sp_templates_table : ℕ
sp_templates_table = 0x0003

abbrev pub method_id_table : ℕ
method_id_table = 0x0006

abbrev pub access_control_table : ℕ
access_control_table = 0x0007

abbrev pub ace_table : ℕ
ace_table = 0x0008

abbrev pub authority_table : ℕ
authority_table = 0x0009

abbrev pub c_pin_table : ℕ
c_pin_table = 0x000b

abbrev pub secret_protect_table : ℕ
secret_protect_table = 0x001d

abbrev pub template_table : ℕ
template_table = 0x0204

abbrev pub sp_table : ℕ
sp_table = 0x0205

abbrev pub locking_info_table : ℕ
locking_info_table = 0x0801

abbrev pub locking_table : ℕ
locking_table = 0x0802

abbrev pub mbr_control_table : ℕ
mbr_control_table = 0x0803

abbrev pub tper_info_table : ℕ
tper_info_table = 0x0201

abbrev pub key_table : ℕ
key_table = 0x0806

abbrev pub data_removal_table : ℕ
data_removal_table = 0x1101

-- a table as an object, and its row in the Table table
abbrev pub table_uid : ℕ → Uid
table_uid table = uid (table * 0x100000000)

abbrev pub table_row : ℕ → Uid
table_row table = uid (0x100000000 + table)

-- the column of this number
abbrev pub col : ℕ → Column
col n = record { 0 = n }

-- no object
abbrev pub none : Uid
none = uid 0

-- the SP that a session is on, and the rows of both in the SP table
abbrev pub this_sp : Uid
this_sp = uid 1

abbrev pub admin_sp : Uid
admin_sp = uid 0x0000020500000001

abbrev pub locking_sp : Uid
locking_sp = uid 0x0000020500000002

-- the one row of the SPInfo table of an SP, and the two of its SPTemplates table
abbrev pub sp_info : Uid
sp_info = uid 0x0000000200000001

abbrev pub sp_template_base : Uid
sp_template_base = uid 0x0000000300000001

abbrev pub sp_template_own : Uid
sp_template_own = uid 0x0000000300000002

-- the rows of the Template table
abbrev pub template_base : Uid
template_base = uid 0x0000020400000001

abbrev pub template_admin : Uid
template_admin = uid 0x0000020400000002

abbrev pub template_locking : Uid
template_locking = uid 0x0000020400000006

-- the table AccessControl as an object
abbrev pub access_control : Uid
access_control = uid 0x0000000700000000

-- the row of SecretProtect on the column Key of K_AES_256
abbrev pub secret_protect_key : Uid
secret_protect_key = uid 0x0000001d0000001e

-- the one row of the TPerInfo table
abbrev pub tper_info : Uid
tper_info = uid 0x0000020100030001

-- the authority that everyone is, and the drive's owner
abbrev pub anybody : Uid
anybody = uid 0x0000000900000001

abbrev pub sid : Uid
sid = uid 0x0000000900000006

-- the Admin SP's class Makers, and its Admin1, whose class is that of the Admins
abbrev pub makers_class : Uid
makers_class = uid 0x0000000900000003

abbrev pub admin_sp_admin : Uid
admin_sp_admin = uid 0x0000000900000201

-- who holds the label of the drive (PSID feature set 1.00)
abbrev pub psid : Uid
psid = uid 0x000000090001ff01

-- an Admin and a User of the Locking SP, and their classes
abbrev pub admin_base : ℕ
admin_base = 0x0000000900010000

abbrev pub user_base : ℕ
user_base = 0x0000000900030000

abbrev pub admin_uid : ℕ → Uid
admin_uid n = uid (admin_base + n)

abbrev pub user_uid : ℕ → Uid
user_uid n = uid (user_base + n)

abbrev pub admins_class : Uid
admins_class = uid 0x0000000900000002

abbrev pub users_class : Uid
users_class = user_uid 0

-- the C_PIN rows: the owner's, the one that anybody may read, the label's, an Admin's, a User's
abbrev pub admin_pin_base : ℕ
admin_pin_base = 0x0000000b00010000

abbrev pub user_pin_base : ℕ
user_pin_base = 0x0000000b00030000

abbrev pub c_pin_sid : Uid
c_pin_sid = uid 0x0000000b00000001

abbrev pub c_pin_msid : Uid
c_pin_msid = uid 0x0000000b00008402

-- of the Admin SP's Admin1
abbrev pub c_pin_admin_sp_admin : Uid
c_pin_admin_sp_admin = uid 0x0000000b00000201

abbrev pub c_pin_psid : Uid
c_pin_psid = uid 0x0000000b0001ff01

abbrev pub admin_pin_uid : ℕ → Uid
admin_pin_uid n = uid (admin_pin_base + n)

abbrev pub user_pin_uid : ℕ → Uid
user_pin_uid n = uid (user_pin_base + n)

-- the row of a range in the Locking table, the global range being number 0
abbrev pub range_base : ℕ
range_base = 0x0000080200030000

abbrev pub global_range : Uid
global_range = uid 0x0000080200000001

abbrev pub range_uid : ℕ → Uid
range_uid zero = global_range
range_uid (suc n) = uid (range_base + suc n)

-- the one row of the LockingInfo table
abbrev pub locking_info : Uid
locking_info = uid 0x0000080100000001

-- the key of a range (table K_AES_256), that of the global range being number 0
abbrev pub key_base : ℕ
key_base = 0x0000080600030000

abbrev pub global_key : Uid
global_key = uid 0x0000080600000001

abbrev pub key_uid : ℕ → Uid
key_uid zero = global_key
key_uid (suc n) = uid (key_base + suc n)

-- the shadow MBR: the one row of the MBRControl table, and the byte table, with its row in the Table table
abbrev pub mbr_control : Uid
mbr_control = uid 0x0000080300000001

abbrev pub mbr_table : Uid
mbr_table = uid 0x0000080400000000

abbrev pub mbr_table_row : Uid
mbr_table_row = uid 0x0000000100000804

-- the bytes that a host keeps on the drive: the byte table DataStore, with its row in the Table table
abbrev pub datastore_table : Uid
datastore_table = uid 0x0000100100000000

abbrev pub datastore_table_row : Uid
datastore_table_row = uid 0x0000000100001001

-- how the drive removes data: the one row of the DataRemovalMechanism table
abbrev pub data_removal : Uid
data_removal = uid 0x0000110100000001

-- an ACE, by its number
abbrev pub ace_base : ℕ
ace_base = 0x0000000800000000

abbrev pub ace_uid : ℕ → Uid
ace_uid n = uid (ace_base + n)

-- the ACEs that everyone fulfils, that the Admins fulfil, and on reading the name that a host gives
abbrev pub ace_anybody : Uid
ace_anybody = ace_uid 1

abbrev pub ace_admins : Uid
ace_admins = ace_uid 2

abbrev pub ace_anybody_get_common_name : Uid
ace_anybody_get_common_name = ace_uid 3

-- on setting that name of a range and of an Admin, and of a User
abbrev pub ace_admins_set_common_name : Uid
ace_admins_set_common_name = ace_uid 4

abbrev pub user_common_name_ace_base : ℕ
user_common_name_ace_base = ace_base + 0x44000

abbrev pub ace_user_set_common_name : ℕ → Uid
ace_user_set_common_name n = uid (user_common_name_ace_base + n)

-- on reading ACEs and authorities, and the mode of a key
abbrev pub ace_ace_get_all : Uid
ace_ace_get_all = ace_uid 0x38000

abbrev pub ace_authority_get_all : Uid
ace_authority_get_all = ace_uid 0x39000

abbrev pub ace_key_mode : Uid
ace_key_mode = ace_uid 0x3bfff

-- the Admin SP: who may enable its Makers and its Admin1
abbrev pub ace_set_enabled : Uid
ace_set_enabled = ace_uid 0x30001

-- the Admin SP: who may read and set SID's PIN, read the MSID and PSID's row, change the SPs, let a command reset the
-- drive, and choose how it removes data
abbrev pub ace_c_pin_sid_get_nopin : Uid
ace_c_pin_sid_get_nopin = ace_uid 0x8c02

abbrev pub ace_c_pin_sid_set_pin : Uid
ace_c_pin_sid_set_pin = ace_uid 0x8c03

abbrev pub ace_c_pin_msid_get_pin : Uid
ace_c_pin_msid_get_pin = ace_uid 0x8c04

abbrev pub ace_c_pin_get_psid_nopin : Uid
ace_c_pin_get_psid_nopin = ace_uid 0x100e0

abbrev pub ace_sp_psid : Uid
ace_sp_psid = ace_uid 0x100e1

abbrev pub ace_sp_sid : Uid
ace_sp_sid = ace_uid 0x30002

abbrev pub ace_tper_info_set_programmatic_reset_enable : Uid
ace_tper_info_set_programmatic_reset_enable = ace_uid 0x30003

abbrev pub ace_data_removal_set_active : Uid
ace_data_removal_set_active = ace_uid 0x50001

-- the Locking SP: who may set an ACE's expression, and enable an authority
abbrev pub ace_ace_set_boolean_expression : Uid
ace_ace_set_boolean_expression = ace_uid 0x38001

abbrev pub ace_authority_set_enabled : Uid
ace_authority_set_enabled = ace_uid 0x39001

-- who may read its C_PIN rows but for the PIN, and set an Admin's PIN, or a User's
abbrev pub ace_c_pin_admins_get_all_nopin : Uid
ace_c_pin_admins_get_all_nopin = ace_uid 0x3a000

abbrev pub ace_c_pin_admins_set_pin : Uid
ace_c_pin_admins_set_pin = ace_uid 0x3a001

abbrev pub user_ace_base : ℕ
user_ace_base = ace_base + 0x3a800

abbrev pub ace_c_pin_user_set_pin : ℕ → Uid
ace_c_pin_user_set_pin n = uid (user_ace_base + n)

-- who may read its ranges; under the profile `Field` each range has an ACE of its own, the global range being number 0
abbrev pub ace_locking_get_all : Uid
ace_locking_get_all = ace_uid 0x3d000

abbrev pub range_get_ace_base : ℕ
range_get_ace_base = ace_base + 0x3d000

abbrev pub ace_range_get : ℕ → Uid
ace_range_get n = uid (range_get_ace_base + n)

-- who may make a new key for one
abbrev pub gen_key_ace_base : ℕ
gen_key_ace_base = ace_base + 0x3b800

abbrev pub ace_key_gen_key : ℕ → Uid
ace_key_gen_key n = uid (gen_key_ace_base + n)

-- who may set the ReadLocked flag and the WriteLocked flag of one

abbrev pub read_locked_ace_base : ℕ
read_locked_ace_base = ace_base + 0x3e000

abbrev pub ace_range_set_read_locked : ℕ → Uid
ace_range_set_read_locked n = uid (read_locked_ace_base + n)

abbrev pub write_locked_ace_base : ℕ
write_locked_ace_base = ace_base + 0x3e800

abbrev pub ace_range_set_write_locked : ℕ → Uid
ace_range_set_write_locked n = uid (write_locked_ace_base + n)

-- who may set the global range, and the numbered ones
abbrev pub ace_locking_global_range_admins_set : Uid
ace_locking_global_range_admins_set = ace_uid 0x3f000

abbrev pub ace_locking_admins_set : Uid
ace_locking_admins_set = ace_uid 0x3f001

-- who may set the control of the shadow MBR, and lift the shadow
abbrev pub ace_mbr_control_admins_set : Uid
ace_mbr_control_admins_set = ace_uid 0x3f800

abbrev pub ace_mbr_control_set_done_to_dor : Uid
ace_mbr_control_set_done_to_dor = ace_uid 0x3f801

-- who may read the bytes of DataStore, and write them
abbrev pub ace_datastore_get_all : Uid
ace_datastore_get_all = ace_uid 0x3fc00

abbrev pub ace_datastore_set_all : Uid
ace_datastore_set_all = ace_uid 0x3fc01

-- the methods
abbrev pub get : Uid
get = uid 0x0000000600000016

abbrev pub set : Uid
set = uid 0x0000000600000017

abbrev pub authenticate : Uid
authenticate = uid 0x000000060000001c

abbrev pub revert : Uid
revert = uid 0x0000000600000202

abbrev pub activate : Uid
activate = uid 0x0000000600000203

-- the methods of the field profile alone
abbrev pub gen_key : Uid
gen_key = uid 0x0000000600000010

abbrev pub revert_sp : Uid
revert_sp = uid 0x0000000600000011

-- the methods of the opal profile alone
abbrev pub next : Uid
next = uid 0x0000000600000008

abbrev pub get_acl : Uid
get_acl = uid 0x000000060000000d

abbrev pub random : Uid
random = uid 0x0000000600000601

-- the session manager and its methods (Core 2.01, section 5.2)
abbrev pub session_manager : Uid
session_manager = uid 0x00000000000000ff

abbrev pub properties : Uid
properties = uid 0x000000000000ff01

abbrev pub start_session : Uid
start_session = uid 0x000000000000ff02

abbrev pub sync_session : Uid
sync_session = uid 0x000000000000ff03

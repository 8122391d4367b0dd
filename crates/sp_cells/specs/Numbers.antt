-- The numbers of the rows that come in families (Opal SSC 2.01, section 4.3): which row of a family an object is.
use Rattle.std.specs.Prelude.{◌+◌, ◌-◌, ◌==◌, ◌&&◌, ℕ, nat_lt, nat_le, Option, Some, None, if◌then◌else◌}
use Rattle.sp_cells.specs.declared.names.TheConstants.{RANGES, USERS, ADMINS}
use Rattle.sp_cells.specs.declared.names.Uid.{Uid}
use Rattle.sp_cells.specs.Names.{admin_base, user_base, admin_pin_base, user_pin_base, global_range, range_base, user_ace_base, user_common_name_ace_base, range_get_ace_base, gen_key_ace_base, read_locked_ace_base, write_locked_ace_base, global_key, key_base}

-- the number of an object, where it is one of the first rows behind a base
abbrev pub number_behind : (base count : ℕ) → Uid → Option ℕ
number_behind base count object =
    if nat_lt base object.0 && nat_le object.0 (base + count) then Some (object.0 - base) else None

-- the same with a row of number 0, which has a name of its own
abbrev pub member_number_from : (zeroth base count : ℕ) → Uid → Option ℕ
member_number_from zeroth base count object =
    if object.0 == zeroth then Some 0 else number_behind base count object

-- an Admin and a User, and their C_PIN rows
abbrev pub admin_number : Uid → Option ℕ
admin_number = number_behind admin_base ADMINS

abbrev pub user_number : Uid → Option ℕ
user_number = number_behind user_base USERS

abbrev pub admin_pin_number : Uid → Option ℕ
admin_pin_number = number_behind admin_pin_base ADMINS

abbrev pub user_pin_number : Uid → Option ℕ
user_pin_number = number_behind user_pin_base USERS

-- the row of a range, the global range being number 0
abbrev pub range_number : Uid → Option ℕ
range_number = member_number_from global_range.0 range_base RANGES

-- the ACEs of a User's PIN and name, of the columns and the key of a range, and of its two flags
abbrev pub user_ace_number : Uid → Option ℕ
user_ace_number = number_behind user_ace_base USERS

abbrev pub user_common_name_ace_number : Uid → Option ℕ
user_common_name_ace_number = number_behind user_common_name_ace_base USERS

abbrev pub range_get_ace_number : Uid → Option ℕ
range_get_ace_number = member_number_from range_get_ace_base range_get_ace_base RANGES

abbrev pub gen_key_ace_number : Uid → Option ℕ
gen_key_ace_number = member_number_from gen_key_ace_base gen_key_ace_base RANGES

abbrev pub read_locked_ace_number : Uid → Option ℕ
read_locked_ace_number = member_number_from read_locked_ace_base read_locked_ace_base RANGES

abbrev pub write_locked_ace_number : Uid → Option ℕ
write_locked_ace_number = member_number_from write_locked_ace_base write_locked_ace_base RANGES

-- the row of a range's key, the global range being number 0
abbrev pub key_number : Uid → Option ℕ
key_number = member_number_from global_key.0 key_base RANGES

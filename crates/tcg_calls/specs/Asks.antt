-- What a call asks, by its method and its arguments (Core 2.01, sections 5.3.3 and 5.3.4; Opal SSC 2.01, section 5.1).
use Rattle.std.specs.Prelude.{◌==◌, ◌||◌, ◌-◌, ◌^◌, nat_le, ℕ, Bool, true, false, List, [], ◌∷◌, length, Option, None, Some, option_map, if◌then◌else◌}
use Rattle.std.specs.Int.{w64, from_be_bytes}
use Rattle.basics.specs.declared.profile.Profile.{Profile}
use Rattle.basics.specs.declared.profile.Profile.TheVariants.{Base, Field, Opal}
use Rattle.tcg_tokens.specs.Tree.{Tree, number, bytes, list, named}
use Rattle.sp_cells.specs.declared.names.Uid.{Uid}
use Rattle.sp_cells.specs.declared.names.Sp.{Sp}
use Rattle.sp_cells.specs.declared.names.Sp.TheVariants.{Admin, Locking}
use Rattle.sp_cells.specs.Names.{uid, mbr_table, datastore_table, get, set, authenticate, activate, revert, gen_key, revert_sp, next, get_acl, random}
use Rattle.tcg_calls.specs.declared.call_shapes.ask.Ask.{Ask}
use Rattle.tcg_calls.specs.declared.call_shapes.ask.Ask.TheVariants.{GetCells, GetBytes, SetCells, SetBytes, Authenticate, Activate, Revert, GenKey, RevertSp, Next, GetAcl, Random, Other}
use Rattle.tcg_calls.specs.Parameters.{start_row_parameter, end_row_parameter, start_column_parameter, end_column_parameter, where_parameter, values_parameter, next_where_parameter, next_count_parameter, proof_parameter, keep_global_range_key_parameter}
use Rattle.tcg_calls.specs.Named.{list_in, assignments, value_of, options, number_or, number_if_any, bytes_or_empty}

-- the object or the method that eight bytes name
abbrev pub uid_of : List ℕ → Uid
uid_of octets = uid (from_be_bytes w64 octets)

-- that of any bytes, where they are eight, and of a value
abbrev pub uid_by : List ℕ → Option Uid
uid_by octets = if length octets == 8 then Some (uid_of octets) else None

abbrev pub uid_in : Tree → Option Uid
uid_in (bytes b) = uid_by b
uid_in (number n) = None
uid_in (list ts) = None
uid_in (named n v) = None

-- the byte tables, in a session of their SP; elsewhere their names are like any other
abbrev pub is_mbr_table : Sp → Uid → Bool
is_mbr_table Admin object = false
is_mbr_table Locking object = object.0 == mbr_table.0

abbrev pub is_datastore : Sp → Uid → Bool
is_datastore Admin object = false
is_datastore Locking object = object.0 == datastore_table.0

-- those of a drive of this profile
abbrev pub is_byte_table : Profile → Sp → Uid → Bool
is_byte_table Base sp object = is_mbr_table sp object
is_byte_table Field sp object = is_mbr_table sp object || is_datastore sp object
is_byte_table Opal sp object = is_mbr_table sp object || is_datastore sp object

-- a cellblock: one list that names what is asked
abbrev pub cellblock_in : ℕ → ℕ → Option (List Tree) → Option (List (ℕ × Tree))
cellblock_in first last None = None
cellblock_in first last (Some ts) = options (first ∷ last ∷ []) ts

abbrev pub cellblock : ℕ → ℕ → List Tree → Option (List (ℕ × Tree))
cellblock first last (t ∷ []) = cellblock_in first last (list_in t)
cellblock first last [] = None
cellblock first last (t ∷ u ∷ ts) = None

-- the columns from the first to the last
abbrev pub columns_between : Option ℕ → Option ℕ → Option Ask
columns_between (Some first) (Some last) =
    if nat_le first last then Some (GetCells first last) else None
columns_between _ _ = None

-- Get of columns: all of them, where neither end is named
abbrev pub columns_asked_in : Option (List (ℕ × Tree)) → Option Ask
columns_asked_in None = None
columns_asked_in (Some ps) =
    columns_between (number_or 0 (value_of start_column_parameter ps))
    (number_or (2 ^ 64 - 1) (value_of end_column_parameter ps))

-- the rows from the first to the last, or to the end of the table
abbrev pub is_ordered : ℕ → Option ℕ → Bool
is_ordered first None = true
is_ordered first (Some last) = nat_le first last

abbrev pub rows_between : Option ℕ → Option (Option ℕ) → Option Ask
rows_between (Some first) (Some last) =
    if is_ordered first last then Some (GetBytes first last) else None
rows_between _ _ = None

-- Get of bytes: from the first row on, where no row is named
abbrev pub rows_in : Option (List (ℕ × Tree)) → Option Ask
rows_in None = None
rows_in (Some ps) = rows_between (number_or 0 (value_of start_row_parameter ps))
    (number_if_any (value_of end_row_parameter ps))

-- Set of columns: the values are named by columns
abbrev pub cells_of : Option (List Tree) → Option Ask
cells_of None = None
cells_of (Some ts) = option_map SetCells (assignments ts)

abbrev pub cells_to_set : Option Tree → Option Ask
cells_to_set None = None
cells_to_set (Some t) = cells_of (list_in t)

abbrev pub cells_in : Option (List (ℕ × Tree)) → Option Ask
cells_in None = None
cells_in (Some ps) = cells_to_set (value_of values_parameter ps)

-- Set of bytes: from the first row on, where no place is named
abbrev pub bytes_to_set : Option ℕ → Option Tree → Option Ask
bytes_to_set (Some at) (Some (bytes b)) = Some (SetBytes at b)
bytes_to_set _ _ = None

abbrev pub bytes_in : Option (List (ℕ × Tree)) → Option Ask
bytes_in None = None
bytes_in (Some ps) =
    bytes_to_set (number_or 0 (value_of where_parameter ps)) (value_of values_parameter ps)

-- Authenticate: an authority, and its proof
abbrev pub proof_of : Uid → Option (List ℕ) → Option Ask
proof_of authority None = None
proof_of authority (Some proof) = Some (Authenticate authority proof)

abbrev pub proof_in : Uid → Option (List (ℕ × Tree)) → Option Ask
proof_in authority None = None
proof_in authority (Some ps) = proof_of authority (bytes_or_empty (value_of proof_parameter ps))

abbrev pub attempt_in : List Tree → Option Ask
attempt_in (bytes b ∷ rest) =
    if length b == 8 then proof_in (uid_of b) (options (proof_parameter ∷ []) rest) else None
attempt_in _ = None

-- a method without arguments
abbrev pub without_arguments : Ask → List Tree → Option Ask
without_arguments ask [] = Some ask
without_arguments ask (t ∷ ts) = None

-- Get and Set, of a byte table or of columns
abbrev pub get_of : Bool → List Tree → Option Ask
get_of true args = rows_in (cellblock start_row_parameter end_row_parameter args)
get_of false args = columns_asked_in (cellblock start_column_parameter end_column_parameter args)

abbrev pub set_of : Bool → List Tree → Option Ask
set_of true args = bytes_in (options (where_parameter ∷ values_parameter ∷ []) args)
set_of false args = cells_in (options (values_parameter ∷ []) args)

-- RevertSP: whether the global range's data are kept, which 0 and 1 say; they are not where nothing does
abbrev pub keep_of : Option ℕ → Option Ask
keep_of None = None
keep_of (Some n) = if n == 0 then Some (RevertSp false) else
    if n == 1 then Some (RevertSp true) else None

abbrev pub keep_in : Option (List (ℕ × Tree)) → Option Ask
keep_in None = None
keep_in (Some ps) = keep_of (number_or 0 (value_of keep_global_range_key_parameter ps))

abbrev pub revert_sp_in : List Tree → Option Ask
revert_sp_in args = keep_in (options (keep_global_range_key_parameter ∷ []) args)

-- Next: behind which row, and how many rows at most; from the first row on, where none is named, and all of them, where
-- no number is (Core 2.01, section 5.3.3.8)
abbrev pub row_if_any : Option Tree → Option (Option Uid)
row_if_any None = Some None
row_if_any (Some t) = option_map Some (uid_in t)

abbrev pub rows_asked_behind : Option (Option Uid) → Option (Option ℕ) → Option Ask
rows_asked_behind (Some after) (Some count) = Some (Next after count)
rows_asked_behind _ _ = None

abbrev pub next_in : Option (List (ℕ × Tree)) → Option Ask
next_in None = None
next_in (Some ps) = rows_asked_behind (row_if_any (value_of next_where_parameter ps))
    (number_if_any (value_of next_count_parameter ps))

abbrev pub next_of : List Tree → Option Ask
next_of args = next_in (options (next_where_parameter ∷ next_count_parameter ∷ []) args)

-- GetACL: an object and a method, whose line of the access list is asked for (Core 2.01, section 5.3.3.13)
abbrev pub line_asked : (object method : Option Uid) → Option Ask
line_asked (Some object) (Some method) = Some (GetAcl object method)
line_asked _ _ = None

abbrev pub get_acl_of : List Tree → Option Ask
get_acl_of (object ∷ method ∷ []) = line_asked (uid_in object) (uid_in method)
get_acl_of _ = None

-- Random: how many bytes. It has no BufferOut (Core 2.01, section 5.6.4.1)
abbrev pub random_of : List Tree → Option Ask
random_of (number count ∷ []) = Some (Random count)
random_of _ = None

-- the methods that the field and the opal profile have besides; the base profile does not know their names
abbrev pub field_ask_of : Uid → List Tree → Option Ask
field_ask_of method args =
    if method.0 == gen_key.0 then without_arguments GenKey args else
    if method.0 == revert_sp.0 then revert_sp_in args else
    Some Other

-- those that the opal profile has alone
abbrev pub opal_ask_of : Uid → List Tree → Option Ask
opal_ask_of method args =
    if method.0 == next.0 then next_of args else
    if method.0 == get_acl.0 then get_acl_of args else
    if method.0 == random.0 then random_of args else
    field_ask_of method args

abbrev pub other_ask_of : Profile → Uid → List Tree → Option Ask
other_ask_of Base method args = Some Other
other_ask_of Field method args = field_ask_of method args
other_ask_of Opal method args = opal_ask_of method args

-- what a call asks; None where its arguments have not the shape that its method wants. A method that the profile does
-- not know takes any
abbrev pub ask_of : Profile → Sp → Uid → Uid → List Tree → Option Ask
ask_of profile sp object method args =
    if method.0 == get.0 then get_of (is_byte_table profile sp object) args else
    if method.0 == set.0 then set_of (is_byte_table profile sp object) args else
    if method.0 == authenticate.0 then attempt_in args else
    if method.0 == activate.0 then without_arguments Activate args else
    if method.0 == revert.0 then without_arguments Revert args else
    other_ask_of profile method args

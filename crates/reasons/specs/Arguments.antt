-- Which argument of a method has not the shape that the method wants (Core 2.01, sections 5.3.3 and 5.3.4; Opal SSC 2.01,
-- section 5.1). The texts are this project's:
--   because the cellblock of Get names startColumn and endColumn alone, each at most once
--   because startColumn of Get lies behind endColumn
--   because Values of Set is no list
--   because GetACL wants two names of eight bytes, an object and a method
--   because Random wants one number, how many bytes
use Rattle.std.specs.Prelude.{◌≡◌, ℕ, ◌==◌, ◌-◌, ◌^◌, ◌&&◌, Bool, true, false, not, nat_le, List, [], ◌∷◌, Option, None, Some, is_some, codes, if◌then◌else◌}
use Rattle.basics.specs.declared.profile.Profile.{Profile}
use Rattle.basics.specs.declared.profile.Profile.TheVariants.{Base, Field, Opal}
use Rattle.compacket.specs.Frames.{reading as frame_in}
use Rattle.sp_cells.specs.declared.names.Sp.{Sp}
use Rattle.sp_cells.specs.declared.names.Uid.{Uid}
use Rattle.sp_cells.specs.Names.{get, set, authenticate, activate, revert, gen_key, revert_sp, next, get_acl, random}
use Rattle.tcg_tokens.specs.Tree.{Tree, number, bytes, list, named}
use Rattle.tcg_calls.specs.Asks.{uid_in, is_byte_table, is_ordered, ask_of}
use Rattle.tcg_calls.specs.Parameters.{start_row_parameter, end_row_parameter, start_column_parameter, end_column_parameter, where_parameter, values_parameter, next_where_parameter, next_count_parameter, proof_parameter, keep_global_range_key_parameter}
use Rattle.tcg_calls.specs.Named.{list_in, assignments, value_of, options, number_or, number_if_any, bytes_or_empty}
use Rattle.reasons.specs.declared.arguments.ArgumentFault.{ArgumentFault}
use Rattle.reasons.specs.declared.arguments.ArgumentFault.TheVariants as faults
use Rattle.reasons.specs.declared.explained.lives.SpLife.{SpLife}
use Rattle.reasons.specs.Rulings.{because_text}
use Rattle.reasons.specs.Sent.{SentCall, call_sent, session_of_frame}
use Rattle.reasons.specs.Untaken.{sp_of_session}

-- Get: a cellblock, one list that names the first and the last row, or column
abbrev pub row_order_fault : Option ℕ → Option (Option ℕ) → Option ArgumentFault
row_order_fault None last = Some faults.StartRow
row_order_fault (Some first) None = Some faults.EndRow
row_order_fault (Some first) (Some last) =
    if is_ordered first last then None else Some faults.RowOrder

abbrev pub rows_fault : Option (List (ℕ × Tree)) → Option ArgumentFault
rows_fault None = Some faults.RowNames
rows_fault (Some ps) =
    row_order_fault (number_or 0 (value_of start_row_parameter ps))
    (number_if_any (value_of end_row_parameter ps))

abbrev pub column_order_fault : (first last : Option ℕ) → Option ArgumentFault
column_order_fault None last = Some faults.StartColumn
column_order_fault (Some first) None = Some faults.EndColumn
column_order_fault (Some first) (Some last) =
    if nat_le first last then None else Some faults.ColumnOrder

abbrev pub columns_fault : Option (List (ℕ × Tree)) → Option ArgumentFault
columns_fault None = Some faults.ColumnNames
columns_fault (Some ps) =
    column_order_fault (number_or 0 (value_of start_column_parameter ps))
    (number_or (2 ^ 64 - 1) (value_of end_column_parameter ps))

abbrev pub block_fault : Bool → Option (List Tree) → Option ArgumentFault
block_fault of_bytes None = Some faults.Cellblock
block_fault true (Some ts) =
    rows_fault (options (start_row_parameter ∷ end_row_parameter ∷ []) ts)
block_fault false (Some ts) =
    columns_fault (options (start_column_parameter ∷ end_column_parameter ∷ []) ts)

abbrev pub get_fault : Bool → List Tree → Option ArgumentFault
get_fault of_bytes [] = Some faults.Cellblock
get_fault of_bytes (t ∷ []) = block_fault of_bytes (list_in t)
get_fault of_bytes (t ∷ u ∷ ts) = Some faults.Cellblock

-- Set: values for columns, each once, or bytes from a row on
abbrev pub assigned_fault : Option (List (ℕ × Tree)) → Option ArgumentFault
assigned_fault None = Some faults.ValueNames
assigned_fault (Some ps) = None

abbrev pub list_fault : Option (List Tree) → Option ArgumentFault
list_fault None = Some faults.ValueList
list_fault (Some ts) = assigned_fault (assignments ts)

abbrev pub values_fault : Option Tree → Option ArgumentFault
values_fault None = Some faults.ValueList
values_fault (Some t) = list_fault (list_in t)

abbrev pub cells_fault : Option (List (ℕ × Tree)) → Option ArgumentFault
cells_fault None = Some faults.SetNames
cells_fault (Some ps) = values_fault (value_of values_parameter ps)

abbrev pub content_fault : Option Tree → Option ArgumentFault
content_fault (Some (bytes b)) = None
content_fault (Some (number n)) = Some faults.ValueBytes
content_fault (Some (list ts)) = Some faults.ValueBytes
content_fault (Some (named n v)) = Some faults.ValueBytes
content_fault None = Some faults.ValueBytes

abbrev pub bytes_fault : Option (List (ℕ × Tree)) → Option ArgumentFault
bytes_fault None = Some faults.SetBytesNames
bytes_fault (Some ps) =
    if is_some (number_or 0 (value_of where_parameter ps))
    then content_fault (value_of values_parameter ps) else Some faults.SetWhere

abbrev pub put_fault : Bool → List Tree → Option ArgumentFault
put_fault true args = bytes_fault (options (where_parameter ∷ values_parameter ∷ []) args)
put_fault false args = cells_fault (options (values_parameter ∷ []) args)

-- Authenticate: an authority, and its proof
abbrev pub proof_fault : Option (List (ℕ × Tree)) → Option ArgumentFault
proof_fault None = Some faults.ProofNames
proof_fault (Some ps) =
    if is_some (bytes_or_empty (value_of proof_parameter ps)) then None else Some faults.Proof

abbrev pub attempt_fault : List Tree → Option ArgumentFault
attempt_fault [] = Some faults.Authority
attempt_fault (t ∷ rest) =
    if is_some (uid_in t) then proof_fault (options (proof_parameter ∷ []) rest)
    else Some faults.Authority

-- a method without arguments
abbrev pub none_fault : List Tree → Option ArgumentFault
none_fault [] = None
none_fault (t ∷ ts) = Some faults.NoneTaken

-- RevertSP: whether the global range's data are kept
abbrev pub keep_fault : Option ℕ → Option ArgumentFault
keep_fault None = Some faults.Keep
keep_fault (Some n) =
    if n == 0 then None else
    if n == 1 then None else Some faults.Keep

abbrev pub revert_sp_fault : Option (List (ℕ × Tree)) → Option ArgumentFault
revert_sp_fault None = Some faults.KeepNames
revert_sp_fault (Some ps) =
    keep_fault (number_or 0 (value_of keep_global_range_key_parameter ps))

-- Next: behind which row, and how many rows
abbrev pub is_row : Option Tree → Bool
is_row None = true
is_row (Some t) = is_some (uid_in t)

abbrev pub next_fault : Option (List (ℕ × Tree)) → Option ArgumentFault
next_fault None = Some faults.NextNames
next_fault (Some ps) =
    if is_row (value_of next_where_parameter ps) then
    (if is_some (number_if_any (value_of next_count_parameter ps)) then None
    else Some faults.NextCount)
    else Some faults.NextWhere

-- GetACL: an object and a method
abbrev pub line_fault : List Tree → Option ArgumentFault
line_fault [] = Some faults.Line
line_fault (object ∷ []) = Some faults.Line
line_fault (object ∷ method ∷ []) =
    if is_some (uid_in object) && is_some (uid_in method) then None else Some faults.Line
line_fault (object ∷ method ∷ t ∷ ts) = Some faults.Line

-- Random: how many bytes
abbrev pub random_fault : List Tree → Option ArgumentFault
random_fault (number count ∷ []) = None
random_fault _ = Some faults.RandomCount

-- by the method, as the profile knows it
abbrev pub field_fault : Uid → List Tree → Option ArgumentFault
field_fault method args =
    if method.0 == gen_key.0 then none_fault args else
    if method.0 == revert_sp.0
    then revert_sp_fault (options (keep_global_range_key_parameter ∷ []) args) else
    None

abbrev pub opal_fault : Uid → List Tree → Option ArgumentFault
opal_fault method args =
    if method.0 == next.0
    then next_fault (options (next_where_parameter ∷ next_count_parameter ∷ []) args) else
    if method.0 == get_acl.0 then line_fault args else
    if method.0 == random.0 then random_fault args else
    field_fault method args

abbrev pub other_fault : Profile → Uid → List Tree → Option ArgumentFault
other_fault Base method args = None
other_fault Field method args = field_fault method args
other_fault Opal method args = opal_fault method args

abbrev pub argument_fault : Profile → Sp → Uid → Uid → List Tree → Option ArgumentFault
argument_fault profile sp object method args =
    if method.0 == get.0 then get_fault (is_byte_table profile sp object) args else
    if method.0 == set.0 then put_fault (is_byte_table profile sp object) args else
    if method.0 == authenticate.0 then attempt_fault args else
    if method.0 == activate.0 then none_fault args else
    if method.0 == revert.0 then none_fault args else
    other_fault profile method args

-- in words
abbrev pub argument_words : ArgumentFault → List ℕ
argument_words faults.Cellblock = codes "Get wants a cellblock, one list"
argument_words faults.RowNames =
    codes "the cellblock of Get names startRow and endRow alone, each at most once"
argument_words faults.StartRow = codes "startRow of Get is no number"
argument_words faults.EndRow = codes "endRow of Get is no number"
argument_words faults.RowOrder = codes "startRow of Get lies behind endRow"
argument_words faults.ColumnNames =
    codes "the cellblock of Get names startColumn and endColumn alone, each at most once"
argument_words faults.StartColumn = codes "startColumn of Get is no number"
argument_words faults.EndColumn = codes "endColumn of Get is no number"
argument_words faults.ColumnOrder = codes "startColumn of Get lies behind endColumn"
argument_words faults.SetNames = codes "Set of columns takes Values alone, once"
argument_words faults.ValueList = codes "Values of Set is no list"
argument_words faults.ValueNames =
    codes "Values of Set names each column by its number, and none twice"
argument_words faults.SetBytesNames =
    codes "Set of bytes takes Where and Values alone, each at most once"
argument_words faults.SetWhere = codes "Where of Set is no number"
argument_words faults.ValueBytes = codes "Values of Set is no byte string"
argument_words faults.Authority = codes "the authority of Authenticate is no name of eight bytes"
argument_words faults.ProofNames = codes "Authenticate takes Proof alone behind its authority, once"
argument_words faults.Proof = codes "Proof of Authenticate is no byte string"
argument_words faults.NoneTaken = codes "the method takes no argument"
argument_words faults.KeepNames = codes "RevertSP takes KeepGlobalRangeKey alone, once"
argument_words faults.Keep = codes "KeepGlobalRangeKey of RevertSP is neither 0 nor 1"
argument_words faults.NextNames = codes "Next takes Where and Count alone, each at most once"
argument_words faults.NextWhere = codes "Where of Next is no name of eight bytes"
argument_words faults.NextCount = codes "Count of Next is no number"
argument_words faults.Line = codes "GetACL wants two names of eight bytes, an object and a method"
argument_words faults.RandomCount = codes "Random wants one number, how many bytes"

abbrev pub argument_line : Option ArgumentFault → List ℕ
argument_line None = []
argument_line (Some fault) = because_text (argument_words fault)

-- of a call in a session of an SP
abbrev pub shape_line : Profile → Sp → Option SentCall → List ℕ
shape_line profile sp None = []
shape_line profile sp (Some c) =
    argument_line (argument_fault profile sp c.object c.method c.args)

abbrev pub arguments_on : Profile → Option Sp → List ℕ → List ℕ
arguments_on profile None payload = []
arguments_on profile (Some sp) payload = shape_line profile sp (call_sent payload)

abbrev pub arguments_text : Profile → (Sp → SpLife) → List ℕ → List ℕ
arguments_text profile lives payload =
    arguments_on profile (sp_of_session lives (session_of_frame (frame_in payload))) payload

-- A fault is told exactly where a call asks nothing.
abbrev pub ArgumentLaw : Type 0
ArgumentLaw =
    (profile : Profile) (sp : Sp) (object method : Uid) (args : List Tree)
    → is_some (argument_fault profile sp object method args)
    ≡ not (is_some (ask_of profile sp object method args))

-- What is told of the arguments of a method is told exactly where its call asks nothing.
use Rattle.std.proofs.Common.{◌≡◌, ◌==◌, ◌-◌, ◌^◌, ◌&&◌, not, ℕ, nat_le, Bool, true, false, List, [], ◌∷◌, length, refl, if◌then◌else◌, Option, None, Some}
use Rattle.std.specs.Prelude.{is_some, option_map}
use Rattle.basics.specs.declared.profile.Profile.{Profile}
use Rattle.basics.specs.declared.profile.Profile.TheVariants.{Base, Field, Opal}
use Rattle.sp_cells.specs.declared.names.Sp.{Sp}
use Rattle.sp_cells.specs.declared.names.Uid.{Uid}
use Rattle.sp_cells.specs.Names.{get, set, authenticate, activate, revert, gen_key, revert_sp, next, get_acl, random}
use Rattle.tcg_tokens.specs.Tree.{Tree, number, bytes, list, named}
use Rattle.tcg_calls.specs.declared.call_shapes.ask.Ask.{Ask}
use Rattle.tcg_calls.specs.declared.call_shapes.ask.Ask.TheVariants as asks
use Rattle.tcg_calls.specs.Asks.{uid_of, uid_in, is_byte_table, cellblock_in, columns_between, columns_asked_in, is_ordered, rows_between, rows_in, cells_of, cells_to_set, cells_in, bytes_to_set, bytes_in, proof_of, proof_in, attempt_in, without_arguments, get_of, set_of, keep_of, keep_in, row_if_any, rows_asked_behind, next_in, line_asked, get_acl_of, random_of, field_ask_of, opal_ask_of, other_ask_of, ask_of}
use Rattle.tcg_calls.specs.Parameters.{start_row_parameter, end_row_parameter, start_column_parameter, end_column_parameter, where_parameter, values_parameter, next_where_parameter, next_count_parameter, proof_parameter, keep_global_range_key_parameter}
use Rattle.tcg_calls.specs.Named.{list_in, assignments, value_of, options, number_or, number_if_any, bytes_or_empty}
use Rattle.reasons.specs.declared.arguments.ArgumentFault.{ArgumentFault}
use Rattle.reasons.specs.declared.arguments.ArgumentFault.TheVariants as faults
use Rattle.reasons.specs.Arguments.{row_order_fault, rows_fault, column_order_fault, columns_fault, block_fault, get_fault, assigned_fault, list_fault, values_fault, cells_fault, content_fault, bytes_fault, put_fault, proof_fault, attempt_fault, none_fault, keep_fault, revert_sp_fault, is_row, next_fault, line_fault, random_fault, field_fault, opal_fault, other_fault, argument_fault, ArgumentLaw}

-- one of them
abbrev Told : Option ArgumentFault → Option Ask → Type 0
Told fault ask = is_some fault ≡ not (is_some ask)

one-of : (b : Bool) (fault : ArgumentFault) (ask : Ask) → Told (if b then None else Some fault) (if b then Some ask else None)
one-of true fault ask = refl
one-of false fault ask = refl

choice : (b : Bool) (f g : Option ArgumentFault) (a c : Option Ask) → Told f a → Told g c → Told (if b then f else g) (if b then a else c)
choice true f g a c first second = first
choice false f g a c first second = second

-- Get

row-order : (first : Option ℕ) (last : Option (Option ℕ)) → Told (row_order_fault first last) (rows_between first last)
row-order None last = refl
row-order (Some first) None = refl
row-order (Some first) (Some last) = one-of (is_ordered first last) faults.RowOrder (asks.GetBytes first last)

rows : (ps : Option (List (ℕ × Tree))) → Told (rows_fault ps) (rows_in ps)
rows None = refl
rows (Some ps) = row-order (number_or 0 (value_of start_row_parameter ps)) (number_if_any (value_of end_row_parameter ps))

column-order : (first last : Option ℕ) → Told (column_order_fault first last) (columns_between first last)
column-order None last = refl
column-order (Some first) None = refl
column-order (Some first) (Some last) = one-of (nat_le first last) faults.ColumnOrder (asks.GetCells first last)

columns : (ps : Option (List (ℕ × Tree))) → Told (columns_fault ps) (columns_asked_in ps)
columns None = refl
columns (Some ps) = column-order (number_or 0 (value_of start_column_parameter ps)) (number_or (2 ^ 64 - 1) (value_of end_column_parameter ps))

row-block : (block : Option (List Tree)) → Told (block_fault true block) (rows_in (cellblock_in start_row_parameter end_row_parameter block))
row-block None = refl
row-block (Some ts) = rows (options (start_row_parameter ∷ end_row_parameter ∷ []) ts)

column-block : (block : Option (List Tree))
    → Told (block_fault false block) (columns_asked_in (cellblock_in start_column_parameter end_column_parameter block))
column-block None = refl
column-block (Some ts) = columns (options (start_column_parameter ∷ end_column_parameter ∷ []) ts)

got : (of_bytes : Bool) (args : List Tree) → Told (get_fault of_bytes args) (get_of of_bytes args)
got true [] = refl
got true (t ∷ []) = row-block (list_in t)
got true (t ∷ u ∷ ts) = refl
got false [] = refl
got false (t ∷ []) = column-block (list_in t)
got false (t ∷ u ∷ ts) = refl

-- Set

assigned-so : (ps : Option (List (ℕ × Tree))) → Told (assigned_fault ps) (option_map asks.SetCells ps)
assigned-so None = refl
assigned-so (Some ps) = refl

listed : (ts : Option (List Tree)) → Told (list_fault ts) (cells_of ts)
listed None = refl
listed (Some ts) = assigned-so (assignments ts)

valued : (v : Option Tree) → Told (values_fault v) (cells_to_set v)
valued None = refl
valued (Some t) = listed (list_in t)

cells : (ps : Option (List (ℕ × Tree))) → Told (cells_fault ps) (cells_in ps)
cells None = refl
cells (Some ps) = valued (value_of values_parameter ps)

content : (at : Option ℕ) (v : Option Tree) → Told (if is_some at then content_fault v else Some faults.SetWhere) (bytes_to_set at v)
content None v = refl
content (Some at) None = refl
content (Some at) (Some (bytes b)) = refl
content (Some at) (Some (number n)) = refl
content (Some at) (Some (list ts)) = refl
content (Some at) (Some (named n v)) = refl

of-bytes : (ps : Option (List (ℕ × Tree))) → Told (bytes_fault ps) (bytes_in ps)
of-bytes None = refl
of-bytes (Some ps) = content (number_or 0 (value_of where_parameter ps)) (value_of values_parameter ps)

put : (of_bytes : Bool) (args : List Tree) → Told (put_fault of_bytes args) (set_of of_bytes args)
put true args = of-bytes (options (where_parameter ∷ values_parameter ∷ []) args)
put false args = cells (options (values_parameter ∷ []) args)

-- Authenticate

proof-so : (authority : Uid) (proof : Option (List ℕ)) → Told (if is_some proof then None else Some faults.Proof) (proof_of authority proof)
proof-so authority None = refl
proof-so authority (Some proof) = refl

proved : (authority : Uid) (ps : Option (List (ℕ × Tree))) → Told (proof_fault ps) (proof_in authority ps)
proved authority None = refl
proved authority (Some ps) = proof-so authority (bytes_or_empty (value_of proof_parameter ps))

by-name : (b : Bool) (authority : Uid) (ps : Option (List (ℕ × Tree)))
    → Told (if is_some (if b then Some authority else None) then proof_fault ps else Some faults.Authority) (if b then proof_in authority ps else None)
by-name true authority ps = proved authority ps
by-name false authority ps = refl

attempt : (args : List Tree) → Told (attempt_fault args) (attempt_in args)
attempt [] = refl
attempt (bytes b ∷ rest) = by-name (length b == 8) (uid_of b) (options (proof_parameter ∷ []) rest)
attempt (number n ∷ rest) = refl
attempt (list ts ∷ rest) = refl
attempt (named n v ∷ rest) = refl

-- the others

without : (ask : Ask) (args : List Tree) → Told (none_fault args) (without_arguments ask args)
without ask [] = refl
without ask (t ∷ ts) = refl

kept-as : (none one : Bool) → Told (if none then None else (if one then None else Some faults.Keep))
    (if none then Some (asks.RevertSp false) else (if one then Some (asks.RevertSp true) else None))
kept-as true one = refl
kept-as false true = refl
kept-as false false = refl

kept : (n : Option ℕ) → Told (keep_fault n) (keep_of n)
kept None = refl
kept (Some n) = kept-as (n == 0) (n == 1)

keeps : (ps : Option (List (ℕ × Tree))) → Told (revert_sp_fault ps) (keep_in ps)
keeps None = refl
keeps (Some ps) = kept (number_or 0 (value_of keep_global_range_key_parameter ps))

by-count : (after : Option Uid) (count : Option (Option ℕ))
    → Told (if is_some count then None else Some faults.NextCount) (rows_asked_behind (Some after) count)
by-count after None = refl
by-count after (Some count) = refl

by-row : (row : Option Uid) (count : Option (Option ℕ))
    → Told (if is_some row then (if is_some count then None else Some faults.NextCount) else Some faults.NextWhere)
    (rows_asked_behind (option_map Some row) count)
by-row None count = refl
by-row (Some row) count = by-count (Some row) count

behind : (v : Option Tree) (count : Option (Option ℕ))
    → Told (if is_row v then (if is_some count then None else Some faults.NextCount) else Some faults.NextWhere) (rows_asked_behind (row_if_any v) count)
behind None count = by-count None count
behind (Some t) count = by-row (uid_in t) count

nexts : (ps : Option (List (ℕ × Tree))) → Told (next_fault ps) (next_in ps)
nexts None = refl
nexts (Some ps) = behind (value_of next_where_parameter ps) (number_if_any (value_of next_count_parameter ps))

two-names : (object method : Option Uid) → Told (if is_some object && is_some method then None else Some faults.Line) (line_asked object method)
two-names None method = refl
two-names (Some object) None = refl
two-names (Some object) (Some method) = refl

lines : (args : List Tree) → Told (line_fault args) (get_acl_of args)
lines [] = refl
lines (object ∷ []) = refl
lines (object ∷ method ∷ []) = two-names (uid_in object) (uid_in method)
lines (object ∷ method ∷ t ∷ ts) = refl

one-number : (args : List Tree) → Told (random_fault args) (random_of args)
one-number [] = refl
one-number (number count ∷ []) = refl
one-number (bytes b ∷ []) = refl
one-number (list ts ∷ []) = refl
one-number (named n v ∷ []) = refl
one-number (number count ∷ u ∷ us) = refl
one-number (bytes b ∷ u ∷ us) = refl
one-number (list ts ∷ u ∷ us) = refl
one-number (named n v ∷ u ∷ us) = refl

-- by the method

of-field : (method : Uid) (args : List Tree) → Told (field_fault method args) (field_ask_of method args)
of-field method args =
    choice (method.0 == gen_key.0) _ _ _ _ (without asks.GenKey args)
    (choice (method.0 == revert_sp.0) _ _ _ _ (keeps (options (keep_global_range_key_parameter ∷ []) args)) refl)

of-opal : (method : Uid) (args : List Tree) → Told (opal_fault method args) (opal_ask_of method args)
of-opal method args =
    choice (method.0 == next.0) _ _ _ _ (nexts (options (next_where_parameter ∷ next_count_parameter ∷ []) args))
    (choice (method.0 == get_acl.0) _ _ _ _ (lines args)
    (choice (method.0 == random.0) _ _ _ _ (one-number args) (of-field method args)))

of-others : (profile : Profile) (method : Uid) (args : List Tree) → Told (other_fault profile method args) (other_ask_of profile method args)
of-others Base method args = refl
of-others Field method args = of-field method args
of-others Opal method args = of-opal method args

pub arguments : ArgumentLaw
arguments profile sp object method args =
    choice (method.0 == get.0) _ _ _ _ (got (is_byte_table profile sp object) args)
    (choice (method.0 == set.0) _ _ _ _ (put (is_byte_table profile sp object) args)
    (choice (method.0 == authenticate.0) _ _ _ _ (attempt args)
    (choice (method.0 == activate.0) _ _ _ _ (without asks.Activate args)
    (choice (method.0 == revert.0) _ _ _ _ (without asks.Revert args) (of-others profile method args)))))

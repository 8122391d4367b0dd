-- What the numbers in a call mean, by where they stand (Core 2.01, sections 5.3.3.6 to 5.3.3.8).
use Rattle.std.specs.Prelude.{◌==◌, ◌||◌, ℕ, List, Option, None, Some, codes, if◌then◌else◌}
use Rattle.sp_cells.specs.declared.names.Uid.{Uid}
use Rattle.sp_cells.specs.Names.{get, set, next, table_of, col}
use Rattle.tcg_calls.specs.Parameters.{start_row_parameter, end_row_parameter, start_column_parameter, end_column_parameter, where_parameter, values_parameter, next_where_parameter, next_count_parameter}
use Rattle.tcg_calls.specs.Columns.{column_name}
use Rattle.tcg_calls.specs.declared.named_tokens.place.Place.{Place}
use Rattle.tcg_calls.specs.declared.named_tokens.place.Place.TheVariants.{Plain, Get, GetName, Set, SetName, Next, NextName, Cells, Column}

-- the arguments of a method of an object
abbrev pub place_in_call : Uid → Uid → Place
place_in_call object method =
    if method.0 == get.0 then Get (table_of object) else
    if method.0 == set.0 then Set (table_of object) else
    if method.0 == next.0 then Next else Plain

-- the name of a named value
abbrev pub place_of_name : Place → Place
place_of_name (Get table) = GetName
place_of_name (Set table) = SetName
place_of_name Next = NextName
place_of_name (Cells table) = Column table
place_of_name _ = Plain

-- the value behind a name that is this number: a column of the row, or its cells
abbrev pub place_behind_number : Place → ℕ → Place
place_behind_number (Get table) n =
    if n == start_column_parameter || (n == end_column_parameter) then Column table else Plain
place_behind_number (Set table) n = if n == values_parameter then Cells table else Plain
place_behind_number _ n = Plain

abbrev pub place_behind : Place → Option ℕ → Place
place_behind place None = Plain
place_behind place (Some n) = place_behind_number place n

-- the name of a number that stands there
abbrev pub get_parameter_name : ℕ → Option (List ℕ)
get_parameter_name n =
    if n == start_row_parameter then Some (codes "startRow") else
    if n == end_row_parameter then Some (codes "endRow") else
    if n == start_column_parameter then Some (codes "startColumn") else
    if n == end_column_parameter then Some (codes "endColumn") else None

abbrev pub set_parameter_name : ℕ → Option (List ℕ)
set_parameter_name n =
    if n == where_parameter then Some (codes "Where") else
    if n == values_parameter then Some (codes "Values") else None

abbrev pub next_parameter_name : ℕ → Option (List ℕ)
next_parameter_name n =
    if n == next_where_parameter then Some (codes "Where") else
    if n == next_count_parameter then Some (codes "Count") else None

abbrev pub number_name : Place → ℕ → Option (List ℕ)
number_name GetName n = get_parameter_name n
number_name SetName n = set_parameter_name n
number_name NextName n = next_parameter_name n
number_name (Column table) n = column_name table (col n)
number_name _ n = None

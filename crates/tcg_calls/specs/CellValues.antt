-- Cells as values of token streams (Core 2.01, section 5.1.3; this drive's forms of sets and expressions).
use Rattle.std.specs.Prelude.{◌==◌, nat_le, ℕ, List, [], ◌∷◌, map, length, Option, None, Some, is_some, option_map, if◌then◌else◌}
use Rattle.std.specs.List.{list_all, filter_map}
use Rattle.std.specs.Int.{w64, to_be_bytes}
use Rattle.std.specs.Str.{bytes_eq}
use Rattle.tcg_tokens.specs.Tree.{Tree, number, bytes, list, named, trees_of}
use Rattle.sp_cells.specs.declared.names.Uid.{Uid as UidType}
use Rattle.sp_cells.specs.declared.cells.Cell.{Cell}
use Rattle.sp_cells.specs.declared.cells.Cell.TheVariants.{Number, Bytes, Uid, Numbers, Expr, Columns, OneName}
use Rattle.sp_cells.specs.declared.cells.Element.{Element}
use Rattle.sp_cells.specs.declared.cells.Element.TheVariants.{Authority, And, Or}
use Rattle.sp_cells.specs.declared.values.ColumnType.{ColumnType}
use Rattle.sp_cells.specs.declared.values.ColumnType.TheVariants as types
use Rattle.sp_cells.specs.Names.{col}
use Rattle.sp_cells.specs.Resets.{is_reset_set, reset_set, reset_numbers}
use Rattle.sp_cells.specs.Limits.{most_pin_bytes, most_common_name_bytes, most_short_elements, most_elements, cryptographic_erase}
use Rattle.tcg_calls.specs.Named.{list_in}
use Rattle.tcg_calls.specs.Asks.{uid_in}

-- the types of an element of an expression: the name of an authority, and an operator
abbrev pub authority_ref : List ℕ
authority_ref = 0 ∷ 0 ∷ 0x0c ∷ 5 ∷ []

abbrev pub operator_ref : List ℕ
operator_ref = 0 ∷ 0 ∷ 4 ∷ 0x0e ∷ []

abbrev pub uid_tree : UidType → Tree
uid_tree u = bytes (to_be_bytes w64 u.0)

abbrev pub element_tree : Element → Tree
element_tree (Authority a) = named (bytes authority_ref) (uid_tree a)
element_tree And = named (bytes operator_ref) (number 0)
element_tree Or = named (bytes operator_ref) (number 1)

abbrev pub numbers_tree : List ℕ → Tree
numbers_tree ns = list (trees_of (map number ns))

-- how Get writes a cell
abbrev pub cell_tree : Cell → Tree
cell_tree (Number n) = number n
cell_tree (Bytes b) = bytes b
cell_tree (Uid u) = uid_tree u
cell_tree (Numbers r) = numbers_tree (reset_numbers r)
cell_tree (Expr elements) = list (trees_of (map element_tree elements))
cell_tree (Columns columns) = numbers_tree (map (λ c. c.0) columns)
cell_tree (OneName b) = list (trees_of (bytes b ∷ []))

-- what each of these values stands for, where each stands for something
abbrev pub each_of : {A : Type 0} → (Tree → Option A) → List Tree → Option (List A)
each_of f ts = if list_all (λ t. is_some (f t)) ts then Some (filter_map f ts) else None

abbrev pub number_in : Tree → Option ℕ
number_in (number n) = Some n
number_in (bytes b) = None
number_in (list ts) = None
number_in (named n v) = None

abbrev pub operator_in : Tree → Option Element
operator_in (number n) = if n == 0 then Some And else if n == 1 then Some Or else None
operator_in (bytes b) = None
operator_in (list ts) = None
operator_in (named n v) = None

-- the element that a value writes
abbrev pub element_in : Tree → Option Element
element_in (named (bytes kind) v) =
    if bytes_eq kind authority_ref then option_map Authority (uid_in v) else
    if bytes_eq kind operator_ref then operator_in v else None
element_in _ = None

abbrev pub resets_of : Option (List ℕ) → Option Cell
resets_of None = None
resets_of (Some ns) = if is_reset_set ns then Some (Numbers (reset_set ns)) else None

-- a set of resets, where it has the power cycle (Opal SSC 2.01, sections 4.3.5.2.2 and 4.3.5.3.1)
abbrev pub with_power_cycle : Option Cell → Option Cell
with_power_cycle (Some (Numbers r)) = if r.power_cycle then Some (Numbers r) else None
with_power_cycle _ = None

-- an expression of so many elements at most
abbrev pub expression_of : (most : ℕ) → Option (List Element) → Option Cell
expression_of most None = None
expression_of most (Some es) = if nat_le (length es) most then Some (Expr es) else None

abbrev pub columns_written : Option (List ℕ) → Option Cell
columns_written None = None
columns_written (Some ns) = Some (Columns (map col ns))

-- the values of a list, read one by one
abbrev pub numbers_in : Option (List Tree) → Option (List ℕ)
numbers_in None = None
numbers_in (Some ts) = each_of number_in ts

abbrev pub elements_in : Option (List Tree) → Option (List Element)
elements_in None = None
elements_in (Some ts) = each_of element_in ts

abbrev pub bytes_in : Tree → Option (List ℕ)
bytes_in (bytes b) = Some b
bytes_in (number n) = None
bytes_in (list ts) = None
bytes_in (named n v) = None

abbrev pub name_cell : Option (List ℕ) → Option Cell
name_cell None = None
name_cell (Some b) = Some (Bytes b)

-- so many bytes at most
abbrev pub bytes_at_most : (most : ℕ) → Option (List ℕ) → Option Cell
bytes_at_most most None = None
bytes_at_most most (Some b) = if nat_le (length b) most then Some (Bytes b) else None

abbrev pub object_of : Option UidType → Option Cell
object_of None = None
object_of (Some u) = Some (Uid u)

abbrev pub number_of : Option ℕ → Option Cell
number_of None = None
number_of (Some n) = Some (Number n)

abbrev pub flag_of : Option ℕ → Option Cell
flag_of None = None
flag_of (Some n) = if nat_le n 1 then Some (Number n) else None

abbrev pub mechanism_of : Option ℕ → Option Cell
mechanism_of None = None
mechanism_of (Some n) = if n == cryptographic_erase then Some (Number n) else None

-- the one name of a list
abbrev pub one_name_of : Option (List Tree) → Option Cell
one_name_of (Some (bytes b ∷ [])) = Some (OneName b)
one_name_of _ = None

-- the cell that a value writes in a column of this type
abbrev pub cell_in : ColumnType → Tree → Option Cell
cell_in types.Name t = name_cell (bytes_in t)
cell_in types.CommonName t = bytes_at_most most_common_name_bytes (bytes_in t)
cell_in types.Secret t = bytes_at_most most_pin_bytes (bytes_in t)
cell_in types.Object t = object_of (uid_in t)
cell_in types.Number t = number_of (number_in t)
cell_in types.Flag t = flag_of (number_in t)
cell_in types.Mechanism t = mechanism_of (number_in t)
cell_in types.Resets t = resets_of (numbers_in (list_in t))
cell_in types.PowerCycleResets t = with_power_cycle (resets_of (numbers_in (list_in t)))
cell_in types.Expression t = expression_of most_short_elements (elements_in (list_in t))
cell_in types.LongExpression t = expression_of most_elements (elements_in (list_in t))
cell_in types.Columns t = columns_written (numbers_in (list_in t))
cell_in types.OneName t = one_name_of (list_in t)

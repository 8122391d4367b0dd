-- The wrong attempts that a C_PIN row counts (Core 2.01, section 5.3, table C_PIN), apart from the other cells.
use Rattle.std.specs.Prelude.{◌==◌, ℕ, zero, suc, Bool, ◌&&◌, List, [], ◌∷◌, if◌then◌else◌}
use Rattle.std.specs.List.{list_any}
use Rattle.sp_cells.specs.declared.names.TheConstants.{USERS, ADMINS}
use Rattle.sp_cells.specs.declared.names.Uid.{Uid}
use Rattle.sp_cells.specs.declared.names.Column.{Column}
use Rattle.sp_cells.specs.declared.cells.Cell.{Cell}
use Rattle.sp_cells.specs.declared.cells.Cell.TheVariants.{Number}
use Rattle.sp_cells.specs.Names.{table_of, c_pin_table, c_pin_sid, c_pin_msid, c_pin_psid, c_pin_admin_sp_admin, admin_pin_uid, user_pin_uid}
use Rattle.sp_cells.specs.ColumnNames.{tries_column}
use Rattle.sp_tables.specs.Items.{Item, with_item}

-- the object is a C_PIN row
abbrev pub is_pin_row : Uid → Bool
is_pin_row object = table_of object == c_pin_table

-- the place is where a C_PIN row counts
abbrev pub is_tries : Uid → Column → Bool
is_tries object column = is_pin_row object && (column.0 == tries_column.0)

-- one of these columns of the object is
abbrev pub names_tries : Uid → List (Column × Cell) → Bool
names_tries object changes = list_any (λ p. is_tries object p.0) changes

-- the cells that are no Tries
abbrev pub without_tries : List Item → List Item
without_tries [] = []
without_tries (i ∷ is) =
    if is_tries i.object i.column then without_tries is else i ∷ without_tries is

-- the Tries alone
abbrev pub tries_among : List Item → List Item
tries_among [] = []
tries_among (i ∷ is) = if is_tries i.object i.column then i ∷ tries_among is else tries_among is

-- the cells with this number of wrong attempts in a C_PIN row
abbrev pub tries_put : Uid → ℕ → List Item → List Item
tries_put pin n is = if is_pin_row pin then with_item is pin tries_column (Number n) else is

-- no wrong attempts in the first n rows of a family
unfoldable pub family_cleared : (ℕ → Uid) → ℕ → List Item → List Item
family_cleared name zero is = is
family_cleared name (suc n) is =
    with_item (family_cleared name n is) (name (suc n)) tries_column (Number 0)

-- nor in any C_PIN row of the Admin SP
abbrev pub admin_cleared : List Item → List Item
admin_cleared is =
    with_item (with_item (with_item (with_item is c_pin_sid tries_column (Number 0)) c_pin_msid
    tries_column (Number 0)) c_pin_psid tries_column (Number 0)) c_pin_admin_sp_admin tries_column
    (Number 0)

-- nor in any of the Locking SP
abbrev pub locking_cleared : List Item → List Item
locking_cleared is = family_cleared user_pin_uid USERS (family_cleared admin_pin_uid ADMINS is)

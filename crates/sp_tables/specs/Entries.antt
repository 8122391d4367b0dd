-- The tables from which the rows of a new drive are made (Opal SSC 2.01, sections 4.2 and 4.3): what each of their
-- entries stands for.
use Rattle.std.specs.Prelude.{◌==◌, ◌+◌, ◌*◌, ℕ, Bool, true, List, [], ◌∷◌, ◌++◌, map, if◌then◌else◌, not}
use Rattle.std.specs.Fmt.{decimal}
use Rattle.basics.specs.declared.profile.Profile.{Profile}
use Rattle.sp_cells.specs.declared.names.TheConstants.{RANGES, USERS}
use Rattle.sp_cells.specs.declared.names.Column.{Column}
use Rattle.sp_cells.specs.declared.cells.Cell.{Cell}
use Rattle.sp_cells.specs.declared.cells.Cell.TheVariants.{Number, Bytes, Uid as Object, Numbers, OneName}
use Rattle.sp_cells.specs.declared.cells.Element.{Element}
use Rattle.sp_cells.specs.declared.cells.Element.TheVariants.{Authority, Or}
use Rattle.sp_cells.specs.Limits.{new_try_limit}
use Rattle.sp_cells.specs.Names.{uid, admins_class, user_uid, key_base, ace_base, authority_table, c_pin_table}
use Rattle.sp_tables.specs.declared.sp_rows.entries.Entry.{Entry}
use Rattle.sp_tables.specs.declared.sp_rows.entries.Drives.{Drives}
use Rattle.sp_tables.specs.declared.sp_rows.entries.Drives.TheVariants.{All, Base as OfBase, Field as OfField, Opal as OfOpal, ButOpal}
use Rattle.sp_tables.specs.declared.sp_rows.aces.Who.{Who}
use Rattle.sp_tables.specs.declared.sp_rows.aces.Who.TheVariants.{Admins, AdminsOrUser}
use Rattle.sp_tables.specs.declared.sp_rows.aces.AceFamily.{AceFamily}
use Rattle.sp_tables.specs.declared.sp_rows.aces.Aces.{Aces}
use Rattle.sp_tables.specs.declared.sp_rows.aces.Aces.TheVariants.{One, AdminsOr, OfUsers, OfRanges}
use Rattle.sp_tables.specs.declared.sp_rows.families.AuthorityFamily.{AuthorityFamily}
use Rattle.sp_tables.specs.declared.sp_rows.families.Authorities.{Authorities}
use Rattle.sp_tables.specs.declared.sp_rows.families.Authorities.TheVariants.{Group, Member, Each}
use Rattle.sp_tables.specs.declared.sp_rows.families.PinFamily.{PinFamily}
use Rattle.sp_tables.specs.declared.sp_rows.constants.Constant.{Constant}
use Rattle.sp_tables.specs.declared.sp_rows.constants.Constant.TheVariants as constants
use Rattle.sp_tables.specs.declared.sp_rows.constants.Constants.{Constants}
use Rattle.sp_tables.specs.declared.sp_rows.constants.Constants.TheVariants.{One as OneRow, OfAuthorities, OfKeys}
use Rattle.basics.specs.Profiles.{has_field}
use Rattle.sp_tables.specs.Items.{Item, row_items}
use Rattle.sp_tables.specs.Factory.{has_opal, new_group, new_member, new_pin, new_ace, ace_row, admins_or_row, numbered_key, family}

-- the drives that have what stands in an entry: all, those of one profile with those that have all of it, or all but Opal's
abbrev pub is_in : Drives → Profile → Bool
is_in All profile = true
is_in OfBase profile = not (has_field profile)
is_in OfField profile = has_field profile
is_in OfOpal profile = has_opal profile
is_in ButOpal profile = not (has_opal profile)

abbrev pub entry_items : {E : Type 0} → (E → List Item) → Profile → Entry E → List Item
entry_items items profile entry = if is_in entry.drives profile then items entry.rows else []

-- who fulfils the expression of the ACE of this number
abbrev pub who_fulfils : Who → ℕ → List Element
who_fulfils Admins n = Authority admins_class ∷ []
who_fulfils AdminsOrUser n = Authority admins_class ∷ Authority (user_uid n) ∷ Or ∷ []

-- the ACE of this number
abbrev pub member_ace : AceFamily → ℕ → List (Column × Cell)
member_ace f n = new_ace (uid (ace_base + f.number + n))
    (f.before.now ++ decimal n ++ f.behind.now) (who_fulfils f.who n) f.columns.now

-- one ACE, one that an Admin fulfils too, or one for each User, or for each range, the global one first
abbrev pub ace_items : Aces → List Item
ace_items (One a) = ace_row a.object a.name.now a.authority a.columns.now
ace_items (AdminsOr a) = admins_or_row a.object a.name.now a.authority a.columns.now
ace_items (OfUsers f) = family (ace_base + f.number) (member_ace f) USERS
ace_items (OfRanges f) = row_items (uid (ace_base + f.number)) (member_ace f 0)
    ++ family (ace_base + f.number) (member_ace f) RANGES

-- where the names of the rows of a table begin
abbrev pub row_base : ℕ → ℕ
row_base table = table * 0x100000000

-- the authority of this number, and its PIN
abbrev pub member_authority : AuthorityFamily → ℕ → List (Column × Cell)
member_authority f n = new_member (uid (row_base authority_table + f.number + n))
    (f.name.now ++ decimal n) f.class (if n == 1 then f.first_enabled else 0)
    (uid (row_base c_pin_table + f.number + n))

abbrev pub authority_items : Authorities → List Item
authority_items (Group g) = row_items g.object (new_group g.object g.name.now g.is_class)
authority_items (Member m) = row_items m.object
    (new_member m.object m.name.now m.class m.enabled m.credential)
authority_items (Each f) = family (row_base authority_table + f.number) (member_authority f) f.count

abbrev pub member_pin : PinFamily → ℕ → List (Column × Cell)
member_pin f n = new_pin (uid (row_base c_pin_table + f.number + n)) (f.name.now ++ decimal n) []
    new_try_limit

abbrev pub pin_items : PinFamily → List Item
pin_items f = family (row_base c_pin_table + f.number) (member_pin f) f.count

-- the cell that a value of the code stands for
abbrev pub constant_cell : Constant → Cell
constant_cell (constants.Number n) = Number n
constant_cell (constants.Text text) = Bytes text.now
constant_cell (constants.Bytes bytes) = Bytes bytes.now
constant_cell (constants.Uid object) = Object object
constant_cell (constants.Resets resets) = Numbers resets
constant_cell (constants.OneName name) = OneName name.now

abbrev pub constant_cells : List (Column × Constant) → List (Column × Cell)
constant_cells values = map (λ p. (p.0, constant_cell p.1)) values

-- the cells of one row, those that each authority of a family has, or the keys of the numbered ranges
abbrev pub constant_items : Constants → List Item
constant_items (OneRow r) = row_items r.object (constant_cells r.cells.now)
constant_items (OfAuthorities f) =
    family (row_base authority_table + f.number) (λ _. constant_cells f.cells.now) f.count
constant_items OfKeys = family key_base numbered_key RANGES

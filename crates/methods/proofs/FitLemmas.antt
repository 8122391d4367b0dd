-- What is set at all: no Tries, and bytes of the Locking SP within its byte tables.
use Rattle.std.proofs.Common.{◌≡◌, ◌+◌, ◌*◌, ◌/◌, ◌≤◌, ℕ, Bool, true, false, List, length, Option, Some, None, refl, subst, cond, arith}
use Rattle.std.specs.Prelude.{nat_le, Result, Ok, Err}
use Rattle.audit.specs.declared.rules.rule.Rule.{Rule}
use Rattle.std.proofs.lemmas.Bool.Decides.{nat_tests}
use Rattle.basics.specs.declared.profile.Profile.{Profile}
use Rattle.sp_cells.specs.declared.names.Uid.{Uid}
use Rattle.sp_cells.specs.declared.names.Sp.{Sp}
use Rattle.sp_cells.specs.declared.names.Sp.TheVariants.{Admin, Locking}
use Rattle.sp_cells.specs.declared.names.Column.{Column}
use Rattle.sp_cells.specs.declared.byte_tables.ByteTable.{ByteTable}
use Rattle.sp_cells.specs.declared.byte_tables.ByteTable.TheVariants.{ShadowMbr, DataStore}
use Rattle.sp_cells.specs.declared.byte_tables.TableSizes.{TableSizes}
use Rattle.sp_cells.specs.ByteTables.{table_begin, sectors_of, fits_table}
use Rattle.sp_cells.specs.declared.cells.Cell.{Cell}
use Rattle.sp_cells.specs.declared.values.ColumnType.{ColumnType}
use Rattle.sp_cells.specs.declared.error.SetError.{SetError}
use Rattle.sp_cells.specs.declared.error.SetError.TheVariants as faults
use Rattle.sp_tables.specs.Looks.{fault_seen}
use Rattle.sp_tables.specs.Tries.{names_tries}
use Rattle.tcg_calls.specs.declared.call_shapes.ask.Ask.{Ask}
use Rattle.tcg_calls.specs.declared.call_shapes.ask.Ask.TheVariants.{GetCells, GetBytes, SetCells, SetBytes, Authenticate, Activate, Revert, GenKey, RevertSp, Next, GetAcl, Random, Other}
use Rattle.sessions.specs.Deeds.{Setting, cells_set, bytes_set}
use Rattle.sessions.specs.Made.{is_within, CanSet}
use Rattle.methods.specs.declared.kinds.Kind.{Kind}
use Rattle.methods.specs.declared.kinds.Kind.TheVariants as kinds
use Rattle.methods.specs.Kinds.{kind_of}
use Rattle.methods.specs.Columns.{set_types_of}
use Rattle.methods.specs.Settings.{cells_for, setting_of_cells, cells_of_ask, bytes_of_ask, setting}
use Rattle.methods.specs.Effects.{unless_fault}
use Rattle.methods.specs.Judgement.{Standing, valid, to_set}

-- bytes alone
abbrev BytesFit : TableSizes → Sp → Option Setting → Type 0
BytesFit sizes sp None = Unit {0}
BytesFit sizes sp (Some (cells_set object cells)) = Unit {0}
BytesFit sizes Locking (Some (bytes_set place content)) = is_within (sectors_of sizes) place content ≡ true
BytesFit sizes Admin (Some (bytes_set place content)) = ⊥

cells-fit : (sizes : TableSizes) (sp : Sp) (object : Uid) (types : List (Column × ColumnType)) (ask : Ask) → BytesFit sizes sp (cells_of_ask object types ask)
cells-fit sizes sp object types (SetCells ps) = by_cells (cells_for types ps)
  where
    by_cells : (x : Option (List (Column × Cell))) → BytesFit sizes sp (setting_of_cells object x)
    by_cells None = tt
    by_cells (Some cells) = tt
cells-fit sizes sp object types (GetCells a b) = tt
cells-fit sizes sp object types (GetBytes a b) = tt
cells-fit sizes sp object types (SetBytes a b) = tt
cells-fit sizes sp object types (Authenticate a b) = tt
cells-fit sizes sp object types Activate = tt
cells-fit sizes sp object types Revert = tt
cells-fit sizes sp object types GenKey = tt
cells-fit sizes sp object types (RevertSp keep) = tt
cells-fit sizes sp object types (Next after count) = tt
cells-fit sizes sp object types (GetAcl about what) = tt
cells-fit sizes sp object types (Random count) = tt
cells-fit sizes sp object types Other = tt

le-of : (a b : ℕ) → nat_le a b ≡ true → a ≤ b
le-of a b h = grind (arith, nat_tests)

of-le : (a b : ℕ) → a ≤ b → nat_le a b ≡ true
of-le a b h = grind (arith, nat_tests)

-- bytes that fit a table stand within the sectors of all
pub place-fits : (sizes : TableSizes) (table : ByteTable) (row : ℕ) (bytes : List ℕ) → fits_table sizes table row bytes ≡ true → is_within (sectors_of sizes) (table_begin sizes table + row) bytes ≡ true
place-fits sizes ShadowMbr row bytes h =
    let fits : row + length bytes ≤ 512 * sizes.mbr_sectors = le-of (row + length bytes) (512 * sizes.mbr_sectors) h in
    of-le (0 + row + length bytes) (512 * (sizes.mbr_sectors + (sizes.datastore + 511) / 512)) (omega (arith, fits))
place-fits sizes DataStore row bytes h =
    let fits : row + length bytes ≤ sizes.datastore = le-of (row + length bytes) sizes.datastore h in
    of-le (512 * sizes.mbr_sectors + row + length bytes) (512 * (sizes.mbr_sectors + (sizes.datastore + 511) / 512)) (omega (arith, fits))

bytes-fit : (sizes : TableSizes) (sp : Sp) (table : ByteTable) (ask : Ask) → BytesFit sizes sp (bytes_of_ask sp sizes table ask)
bytes-fit sizes Admin table ask = tt
bytes-fit sizes Locking table (SetBytes a b) = by_place (fits_table sizes table a b) refl
  where
    by_place : (fits : Bool) → fits_table sizes table a b ≡ fits → BytesFit sizes Locking (cond fits (Some (bytes_set (table_begin sizes table + a) b)) None)
    by_place true is = place-fits sizes table a b is
    by_place false is = tt
bytes-fit sizes Locking table (GetCells a b) = tt
bytes-fit sizes Locking table (GetBytes a b) = tt
bytes-fit sizes Locking table (SetCells a) = tt
bytes-fit sizes Locking table (Authenticate a b) = tt
bytes-fit sizes Locking table Activate = tt
bytes-fit sizes Locking table Revert = tt
bytes-fit sizes Locking table GenKey = tt
bytes-fit sizes Locking table (RevertSp keep) = tt
bytes-fit sizes Locking table (Next after count) = tt
bytes-fit sizes Locking table (GetAcl about what) = tt
bytes-fit sizes Locking table (Random count) = tt
bytes-fit sizes Locking table Other = tt

setting-fits : (profile : Profile) (sizes : TableSizes) (sp : Sp) (object : Uid) (kind : Option Kind) (ask : Ask) → BytesFit sizes sp (setting profile sp sizes object kind ask)
setting-fits profile sizes sp object None ask = cells-fit sizes sp object (set_types_of profile None) ask
setting-fits profile sizes sp object (Some kinds.ThisSp) ask = cells-fit sizes sp object (set_types_of profile (Some kinds.ThisSp)) ask
setting-fits profile sizes sp object (Some kinds.Sp) ask = cells-fit sizes sp object (set_types_of profile (Some kinds.Sp)) ask
setting-fits profile sizes sp object (Some kinds.Authority) ask = cells-fit sizes sp object (set_types_of profile (Some kinds.Authority)) ask
setting-fits profile sizes sp object (Some kinds.CPin) ask = cells-fit sizes sp object (set_types_of profile (Some kinds.CPin)) ask
setting-fits profile sizes sp object (Some kinds.Ace) ask = cells-fit sizes sp object (set_types_of profile (Some kinds.Ace)) ask
setting-fits profile sizes sp object (Some kinds.Locking) ask = cells-fit sizes sp object (set_types_of profile (Some kinds.Locking)) ask
setting-fits profile sizes sp object (Some kinds.MbrControl) ask = cells-fit sizes sp object (set_types_of profile (Some kinds.MbrControl)) ask
setting-fits profile sizes sp object (Some kinds.TperInfo) ask = cells-fit sizes sp object (set_types_of profile (Some kinds.TperInfo)) ask
setting-fits profile sizes sp object (Some kinds.LockingInfo) ask = cells-fit sizes sp object (set_types_of profile (Some kinds.LockingInfo)) ask
setting-fits profile sizes sp object (Some kinds.Table) ask = cells-fit sizes sp object (set_types_of profile (Some kinds.Table)) ask
setting-fits profile sizes sp object (Some kinds.Key) ask = cells-fit sizes sp object (set_types_of profile (Some kinds.Key)) ask
setting-fits profile sizes sp object (Some kinds.WholeTable) ask = cells-fit sizes sp object (set_types_of profile (Some kinds.WholeTable)) ask
setting-fits profile sizes sp object (Some kinds.AccessControl) ask = cells-fit sizes sp object (set_types_of profile (Some kinds.AccessControl)) ask
setting-fits profile sizes sp object (Some kinds.ObjectTable) ask = cells-fit sizes sp object (set_types_of profile (Some kinds.ObjectTable)) ask
setting-fits profile sizes sp object (Some kinds.SpInfo) ask = cells-fit sizes sp object (set_types_of profile (Some kinds.SpInfo)) ask
setting-fits profile sizes sp object (Some kinds.SpTemplates) ask = cells-fit sizes sp object (set_types_of profile (Some kinds.SpTemplates)) ask
setting-fits profile sizes sp object (Some kinds.MethodId) ask = cells-fit sizes sp object (set_types_of profile (Some kinds.MethodId)) ask
setting-fits profile sizes sp object (Some kinds.SecretProtect) ask = cells-fit sizes sp object (set_types_of profile (Some kinds.SecretProtect)) ask
setting-fits profile sizes sp object (Some kinds.Template) ask = cells-fit sizes sp object (set_types_of profile (Some kinds.Template)) ask
setting-fits profile sizes sp object (Some kinds.MbrTable) ask = bytes-fit sizes sp ShadowMbr ask
setting-fits profile sizes sp object (Some kinds.DataStore) ask = bytes-fit sizes sp DataStore ask
setting-fits profile sizes sp object (Some kinds.DataRemoval) ask = cells-fit sizes sp object (set_types_of profile (Some kinds.DataRemoval)) ask

-- with what a fault tells
abbrev Fits : TableSizes → Sp → Result Setting Rule → Type 0
Fits sizes sp x = (set : Setting) → x ≡ Ok set → CanSet (sectors_of sizes) sp set

none-some : {rule : Rule} {x : Setting} → Err rule ≡ Ok x → ⊥
none-some h = cc

by-some : {x y : Setting} → ◌≡◌ {A = Result Setting Rule} (Ok x) (Ok y) → x ≡ y
by-some h = cc

valid-fits : (s : Standing) (x : Option Setting) → BytesFit s.sizes s.sp x → Fits s.sizes s.sp (valid s x)
valid-fits s None h set is = absurd (none-some is)
valid-fits s (Some (cells_set object cells)) h set is = by_tries (names_tries object cells) refl is
  where
    by_fault : names_tries object cells ≡ false → (fault : Option SetError) → unless_fault fault (cells_set object cells) ≡ Ok set → CanSet (sectors_of s.sizes) s.sp set
    by_fault no_tries None g = subst (CanSet (sectors_of s.sizes) s.sp) (by-some g) no_tries
    by_fault no_tries (Some fault) g = absurd (none-some g)

    by_tries : (b : Bool) → names_tries object cells ≡ b → unless_fault (cond b (Some faults.NoCell) (fault_seen s.sectors (λ _. s.newest) s.sp object cells)) (cells_set object cells) ≡ Ok set → CanSet (sectors_of s.sizes) s.sp set
    by_tries true at g = absurd (none-some g)
    by_tries false at g = by_fault at (fault_seen s.sectors (λ _. s.newest) s.sp object cells) g
valid-fits s (Some (bytes_set place content)) h set is = subst (CanSet (sectors_of s.sizes) s.sp) (by-some is) (by_sp s.sp h)
  where
    by_sp : (sp : Sp) → BytesFit s.sizes sp (Some (bytes_set place content)) → CanSet (sectors_of s.sizes) sp (bytes_set place content)
    by_sp Admin g = g
    by_sp Locking g = g

pub to_set-fits : (s : Standing) (object : Uid) (ask : Ask) (set : Setting) → to_set s object ask ≡ Ok set → CanSet (sectors_of s.sizes) s.sp set
to_set-fits s object ask set is = valid-fits s (setting s.profile s.sp s.sizes object (kind_of s.sp object) ask) (setting-fits s.profile s.sizes s.sp object (kind_of s.sp object) ask) set is

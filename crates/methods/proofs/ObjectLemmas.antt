-- The object that a Set changes is the one that its call names.
use Rattle.std.proofs.Common.{◌≡◌, ◌+◌, ℕ, Bool, true, false, List, Option, None, Some, refl, ap, ◌∙◌, sym, if◌then◌else◌}
use Rattle.basics.specs.declared.profile.Profile.{Profile}
use Rattle.sp_cells.specs.declared.names.Uid.{Uid}
use Rattle.sp_cells.specs.declared.names.Column.{Column}
use Rattle.sp_cells.specs.declared.names.Sp.{Sp}
use Rattle.sp_cells.specs.declared.names.Sp.TheVariants.{Admin, Locking}
use Rattle.sp_cells.specs.declared.byte_tables.ByteTable.{ByteTable}
use Rattle.sp_cells.specs.declared.byte_tables.ByteTable.TheVariants.{ShadowMbr, DataStore}
use Rattle.sp_cells.specs.declared.byte_tables.TableSizes.{TableSizes}
use Rattle.sp_cells.specs.ByteTables.{table_begin, fits_table}
use Rattle.sp_cells.specs.declared.cells.Cell.{Cell}
use Rattle.sp_cells.specs.declared.values.ColumnType.{ColumnType}
use Rattle.transactions.specs.declared.change.Change.{Change}
use Rattle.transactions.specs.declared.change.Change.TheVariants.{Cells, Mbr}
use Rattle.tcg_calls.specs.declared.call_shapes.ask.Ask.{Ask}
use Rattle.tcg_calls.specs.declared.call_shapes.ask.Ask.TheVariants.{GetCells, GetBytes, SetCells, SetBytes, Authenticate, Activate, Revert, GenKey, RevertSp, Next, GetAcl, Random, Other}
use Rattle.methods.specs.declared.kinds.Kind.{Kind}
use Rattle.methods.specs.declared.kinds.Kind.TheVariants as kinds
use Rattle.methods.specs.Kinds.{kind_of}
use Rattle.methods.specs.Columns.{set_types_of}
use Rattle.methods.specs.Effects.{has_set}
use Rattle.methods.specs.Settings.{setting, setting_of_cells, cells_of_ask, cells_for, bytes_of_ask}
use Rattle.sessions.specs.Deeds.{cells_set, bytes_set}
use Rattle.methods.specs.Changes.{setting_seen, changed_object}

-- cells that are set are of the object
cells_there : (object o : Uid) (cells : List (Column × Cell)) (c : Option (List (Column × Cell))) → setting_of_cells object c ≡ Some (cells_set o cells) → object ≡ o
cells_there object o cells None e = cc
cells_there object o cells (Some cs) e = cc

asked_there : (object o : Uid) (cells : List (Column × Cell)) (types : List (Column × ColumnType)) (ask : Ask) → cells_of_ask object types ask ≡ Some (cells_set o cells) → object ≡ o
asked_there object o cells types (SetCells ps) e = cells_there object o cells (cells_for types ps) e
asked_there object o cells types (GetCells first last) e = cc
asked_there object o cells types (GetBytes first last) e = cc
asked_there object o cells types (SetBytes at bs) e = cc
asked_there object o cells types (Authenticate a p) e = cc
asked_there object o cells types Activate e = cc
asked_there object o cells types Revert e = cc
asked_there object o cells types GenKey e = cc
asked_there object o cells types (RevertSp keep) e = cc
asked_there object o cells types (Next after count) e = cc
asked_there object o cells types (GetAcl about what) e = cc
asked_there object o cells types (Random count) e = cc
asked_there object o cells types Other e = cc

-- Set of columns sets no byte
no_bytes_of : (object : Uid) (at : ℕ) (bs : List ℕ) (c : Option (List (Column × Cell))) → setting_of_cells object c ≡ Some (bytes_set at bs) → ⊥
no_bytes_of object at bs None e = cc
no_bytes_of object at bs (Some cs) e = cc

no_bytes : (object : Uid) (at : ℕ) (bs : List ℕ) (types : List (Column × ColumnType)) (ask : Ask) → cells_of_ask object types ask ≡ Some (bytes_set at bs) → ⊥
no_bytes object at bs types (SetCells ps) e = no_bytes_of object at bs (cells_for types ps) e
no_bytes object at bs types (GetCells first last) e = cc
no_bytes object at bs types (GetBytes first last) e = cc
no_bytes object at bs types (SetBytes a b) e = cc
no_bytes object at bs types (Authenticate a p) e = cc
no_bytes object at bs types Activate e = cc
no_bytes object at bs types Revert e = cc
no_bytes object at bs types GenKey e = cc
no_bytes object at bs types (RevertSp keep) e = cc
no_bytes object at bs types (Next after count) e = cc
no_bytes object at bs types (GetAcl about what) e = cc
no_bytes object at bs types (Random count) e = cc
no_bytes object at bs types Other e = cc

-- Set of bytes sets no cell
no_cells_if : (o : Uid) (cells : List (Column × Cell)) (at : ℕ) (bs : List ℕ) (b : Bool) → (if b then Some (bytes_set at bs) else None) ≡ Some (cells_set o cells) → ⊥
no_cells_if o cells at bs true e = cc
no_cells_if o cells at bs false e = cc

pub no_cells : (o : Uid) (cells : List (Column × Cell)) (sp : Sp) (n : TableSizes) (table : ByteTable) (ask : Ask) → bytes_of_ask sp n table ask ≡ Some (cells_set o cells) → ⊥
no_cells o cells Admin n table ask e = cc
no_cells o cells Locking n table (SetBytes at bs) e = no_cells_if o cells (table_begin n table + at) bs (fits_table n table at bs) e
no_cells o cells Locking n table (SetCells ps) e = cc
no_cells o cells Locking n table (GetCells first last) e = cc
no_cells o cells Locking n table (GetBytes first last) e = cc
no_cells o cells Locking n table (Authenticate a p) e = cc
no_cells o cells Locking n table Activate e = cc
no_cells o cells Locking n table Revert e = cc
no_cells o cells Locking n table GenKey e = cc
no_cells o cells Locking n table (RevertSp keep) e = cc
no_cells o cells Locking n table (Next after count) e = cc
no_cells o cells Locking n table (GetAcl about what) e = cc
no_cells o cells Locking n table (Random count) e = cc
no_cells o cells Locking n table Other e = cc

cells_of_object : (profile : Profile) (sp : Sp) (n : TableSizes) (object o : Uid) (cells : List (Column × Cell)) (kind : Option Kind) (ask : Ask) → setting profile sp n object kind ask ≡ Some (cells_set o cells) → object ≡ o
cells_of_object profile sp n object o cells (Some kinds.MbrTable) ask e = absurd (no_cells o cells sp n ShadowMbr ask e)
cells_of_object profile sp n object o cells (Some kinds.DataStore) ask e = absurd (no_cells o cells sp n DataStore ask e)
cells_of_object profile sp n object o cells (Some kinds.DataRemoval) ask e = asked_there object o cells (set_types_of profile (Some kinds.DataRemoval)) ask e
cells_of_object profile sp n object o cells (Some kinds.ThisSp) ask e = asked_there object o cells (set_types_of profile (Some kinds.ThisSp)) ask e
cells_of_object profile sp n object o cells (Some kinds.Sp) ask e = asked_there object o cells (set_types_of profile (Some kinds.Sp)) ask e
cells_of_object profile sp n object o cells (Some kinds.Authority) ask e = asked_there object o cells (set_types_of profile (Some kinds.Authority)) ask e
cells_of_object profile sp n object o cells (Some kinds.CPin) ask e = asked_there object o cells (set_types_of profile (Some kinds.CPin)) ask e
cells_of_object profile sp n object o cells (Some kinds.Ace) ask e = asked_there object o cells (set_types_of profile (Some kinds.Ace)) ask e
cells_of_object profile sp n object o cells (Some kinds.Locking) ask e = asked_there object o cells (set_types_of profile (Some kinds.Locking)) ask e
cells_of_object profile sp n object o cells (Some kinds.MbrControl) ask e = asked_there object o cells (set_types_of profile (Some kinds.MbrControl)) ask e
cells_of_object profile sp n object o cells (Some kinds.TperInfo) ask e = asked_there object o cells (set_types_of profile (Some kinds.TperInfo)) ask e
cells_of_object profile sp n object o cells (Some kinds.LockingInfo) ask e = asked_there object o cells (set_types_of profile (Some kinds.LockingInfo)) ask e
cells_of_object profile sp n object o cells (Some kinds.Table) ask e = asked_there object o cells (set_types_of profile (Some kinds.Table)) ask e
cells_of_object profile sp n object o cells (Some kinds.Key) ask e = asked_there object o cells (set_types_of profile (Some kinds.Key)) ask e
cells_of_object profile sp n object o cells (Some kinds.WholeTable) ask e = asked_there object o cells (set_types_of profile (Some kinds.WholeTable)) ask e
cells_of_object profile sp n object o cells (Some kinds.AccessControl) ask e = asked_there object o cells (set_types_of profile (Some kinds.AccessControl)) ask e
cells_of_object profile sp n object o cells (Some kinds.ObjectTable) ask e = asked_there object o cells (set_types_of profile (Some kinds.ObjectTable)) ask e
cells_of_object profile sp n object o cells (Some kinds.SpInfo) ask e = asked_there object o cells (set_types_of profile (Some kinds.SpInfo)) ask e
cells_of_object profile sp n object o cells (Some kinds.SpTemplates) ask e = asked_there object o cells (set_types_of profile (Some kinds.SpTemplates)) ask e
cells_of_object profile sp n object o cells (Some kinds.MethodId) ask e = asked_there object o cells (set_types_of profile (Some kinds.MethodId)) ask e
cells_of_object profile sp n object o cells (Some kinds.SecretProtect) ask e = asked_there object o cells (set_types_of profile (Some kinds.SecretProtect)) ask e
cells_of_object profile sp n object o cells (Some kinds.Template) ask e = asked_there object o cells (set_types_of profile (Some kinds.Template)) ask e
cells_of_object profile sp n object o cells None ask e = asked_there object o cells (set_types_of profile None) ask e

-- no bytes are set in the Admin SP
bytes_of_locking : (profile : Profile) (n : TableSizes) (object : Uid) (at : ℕ) (bs : List ℕ) (kind : Option Kind) (ask : Ask) → setting profile Admin n object kind ask ≡ Some (bytes_set at bs) → ⊥
bytes_of_locking profile n object at bs (Some kinds.MbrTable) ask e = cc
bytes_of_locking profile n object at bs (Some kinds.DataStore) ask e = cc
bytes_of_locking profile n object at bs (Some kinds.DataRemoval) ask e = no_bytes object at bs (set_types_of profile (Some kinds.DataRemoval)) ask e
bytes_of_locking profile n object at bs (Some kinds.ThisSp) ask e = no_bytes object at bs (set_types_of profile (Some kinds.ThisSp)) ask e
bytes_of_locking profile n object at bs (Some kinds.Sp) ask e = no_bytes object at bs (set_types_of profile (Some kinds.Sp)) ask e
bytes_of_locking profile n object at bs (Some kinds.Authority) ask e = no_bytes object at bs (set_types_of profile (Some kinds.Authority)) ask e
bytes_of_locking profile n object at bs (Some kinds.CPin) ask e = no_bytes object at bs (set_types_of profile (Some kinds.CPin)) ask e
bytes_of_locking profile n object at bs (Some kinds.Ace) ask e = no_bytes object at bs (set_types_of profile (Some kinds.Ace)) ask e
bytes_of_locking profile n object at bs (Some kinds.Locking) ask e = no_bytes object at bs (set_types_of profile (Some kinds.Locking)) ask e
bytes_of_locking profile n object at bs (Some kinds.MbrControl) ask e = no_bytes object at bs (set_types_of profile (Some kinds.MbrControl)) ask e
bytes_of_locking profile n object at bs (Some kinds.TperInfo) ask e = no_bytes object at bs (set_types_of profile (Some kinds.TperInfo)) ask e
bytes_of_locking profile n object at bs (Some kinds.LockingInfo) ask e = no_bytes object at bs (set_types_of profile (Some kinds.LockingInfo)) ask e
bytes_of_locking profile n object at bs (Some kinds.Table) ask e = no_bytes object at bs (set_types_of profile (Some kinds.Table)) ask e
bytes_of_locking profile n object at bs (Some kinds.Key) ask e = no_bytes object at bs (set_types_of profile (Some kinds.Key)) ask e
bytes_of_locking profile n object at bs (Some kinds.WholeTable) ask e = no_bytes object at bs (set_types_of profile (Some kinds.WholeTable)) ask e
bytes_of_locking profile n object at bs (Some kinds.AccessControl) ask e = no_bytes object at bs (set_types_of profile (Some kinds.AccessControl)) ask e
bytes_of_locking profile n object at bs (Some kinds.ObjectTable) ask e = no_bytes object at bs (set_types_of profile (Some kinds.ObjectTable)) ask e
bytes_of_locking profile n object at bs (Some kinds.SpInfo) ask e = no_bytes object at bs (set_types_of profile (Some kinds.SpInfo)) ask e
bytes_of_locking profile n object at bs (Some kinds.SpTemplates) ask e = no_bytes object at bs (set_types_of profile (Some kinds.SpTemplates)) ask e
bytes_of_locking profile n object at bs (Some kinds.MethodId) ask e = no_bytes object at bs (set_types_of profile (Some kinds.MethodId)) ask e
bytes_of_locking profile n object at bs (Some kinds.SecretProtect) ask e = no_bytes object at bs (set_types_of profile (Some kinds.SecretProtect)) ask e
bytes_of_locking profile n object at bs (Some kinds.Template) ask e = no_bytes object at bs (set_types_of profile (Some kinds.Template)) ask e
bytes_of_locking profile n object at bs None ask e = no_bytes object at bs (set_types_of profile None) ask e

-- where the object that a call names has Set, the object of what it sets has it
pub set_there : (profile : Profile) (sp : Sp) (n : TableSizes) (object : Uid) (ask : Ask) (change : Change) → Some (setting_seen change) ≡ setting profile sp n object (kind_of sp object) ask → has_set (kind_of sp object) ≡ true → has_set (kind_of sp (changed_object change)) ≡ true
set_there profile sp n object ask (Cells o cells) e h = ap (λ u. has_set (kind_of sp u)) (sym (cells_of_object profile sp n object o cells.items (kind_of sp object) ask (sym e))) ∙ h
set_there profile Admin n object ask (Mbr at bs) e h = absurd (bytes_of_locking profile n object at bs.items (kind_of Admin object) ask (sym e))
set_there profile Locking n object ask (Mbr at bs) e h = refl

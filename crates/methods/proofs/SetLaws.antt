-- A Set sets cells of its own object alone, in columns that Set takes of the object's kind.
use Rattle.std.proofs.Common.{◌≡◌, ◌==◌, ℕ, Bool, true, false, List, [], ◌∷◌, Option, None, Some, refl, sym, ◌∙◌, ap, subst, ◌⊎◌, inl, inr, if◌then◌else◌, eqb-true}
use Rattle.basics.specs.declared.profile.Profile.{Profile}
use Rattle.basics.specs.declared.profile.Profile.TheVariants.{Base, Field, Opal}
use Rattle.sp_cells.specs.ColumnNames.{pin_column}
use Rattle.std.specs.Prelude.{is_some, Ok}
use Rattle.std.specs.List.{list_all, filter_map, cons_option}
use Rattle.sp_cells.specs.declared.names.Uid.{Uid}
use Rattle.sp_cells.specs.declared.names.Sp.{Sp}
use Rattle.sp_cells.specs.declared.names.Column.{Column}
use Rattle.sp_cells.specs.declared.byte_tables.ByteTable.TheVariants.{ShadowMbr, DataStore}
use Rattle.sp_cells.specs.declared.byte_tables.TableSizes.{TableSizes}
use Rattle.sp_cells.specs.declared.cells.Cell.{Cell}
use Rattle.sp_cells.specs.declared.error.SetError.{SetError}
use Rattle.sp_cells.specs.declared.values.ColumnType.{ColumnType}
use Rattle.sp_cells.specs.Names.{col}
use Rattle.sp_cells.specs.Values.{type_at}
use Rattle.tcg_tokens.specs.Tree.{Tree}
use Rattle.tcg_calls.specs.declared.call_shapes.ask.Ask.{Ask}
use Rattle.tcg_calls.specs.declared.call_shapes.ask.Ask.TheVariants.{GetCells, GetBytes, SetCells, SetBytes, Authenticate, Activate, Revert, GenKey, RevertSp, Next, GetAcl, Random, Other}
use Rattle.methods.specs.declared.kinds.Kind.{Kind}
use Rattle.methods.specs.declared.kinds.Kind.TheVariants as kinds
use Rattle.methods.specs.Kinds.{kind_of}
use Rattle.methods.specs.Columns.{columns_in, set_types_of}
use Rattle.methods.specs.Settings.{setting, setting_of_cells, cells_of_ask, cells_for, cell_for, cell_as, placed_cell}
use Rattle.sessions.specs.Deeds.{Setting, cells_set}
use Rattle.methods.specs.Effects.{unless_fault}
use Rattle.methods.specs.Judgement.{Standing, fault_by, valid}
use Rattle.methods.specs.Laws.{IsAmong, SetsOnly, SetLaw, PinLaw, SettingLaw, set_columns_of}
use Rattle.methods.proofs.ObjectLemmas.{no_cells}

-- an element of what a function gives of a list is given by it
from_option : {A B : Type 0} (f : A → Option B) (x : A) (rest : List B) (y : B) (o : Option B) → f x ≡ o → IsAmong (cons_option o rest) y → (f x ≡ Some y) ⊎ IsAmong rest y
from_option f x rest y None is h = inr h
from_option f x rest y (Some z) is (inl h) = inl (is ∙ ap Some h)
from_option f x rest y (Some z) is (inr h) = inr h

from_filter : {A B : Type 0} (f : A → Option B) (xs : List A) (y : B) → IsAmong (filter_map f xs) y → (x : A) × (f x ≡ Some y)
from_filter f [] y h = absurd h
from_filter f (x ∷ xs) y h = elim (from_option f x (filter_map f xs) y (f x) refl h) [
  | inl given ↦ (x, given)
  | inr later ↦ from_filter f xs y later
]

-- a column that has a type is among those of the types
typed_step : (p : Column × ColumnType) (ps : List (Column × ColumnType)) (k : Column) (kind : ColumnType) (b : Bool) → (p.0.0 == k.0) ≡ b → (if b then Some p.1 else type_at ps k) ≡ Some kind → (type_at ps k ≡ Some kind → IsAmong (columns_in ps) k) → IsAmong (columns_in (p ∷ ps)) k
typed_step p ps k kind true same is later = inl (ap col (eqb-true p.0.0 k.0 same))
typed_step p ps k kind false apart is later = inr (later is)

typed_column : (types : List (Column × ColumnType)) (k : Column) (kind : ColumnType) → type_at types k ≡ Some kind → IsAmong (columns_in types) k
typed_column [] k kind is = cc
typed_column (p ∷ ps) k kind is = typed_step p ps k kind (p.0.0 == k.0) refl is (typed_column ps k kind)

-- a cell that is assigned stands in a column that has a type
same_parts : (p q : Column × Cell) → Some p ≡ Some q → (p.0 ≡ q.0) × (Some p.1 ≡ Some q.1)
same_parts p q is = (let same : p ≡ q = cc in (ap (λ (x : Column × Cell). x.0) same, ap (λ (x : Column × Cell). Some x.1) same))

with_there : (n k : Column) (cell : Cell) (o : Option Cell) → placed_cell n o ≡ Some (k, cell) → (n ≡ k) × (o ≡ Some cell)
with_there n k cell None is = (cc, cc)
with_there n k cell (Some c) is = same_parts (n, c) (k, cell) is

type_there : (o : Option ColumnType) (t : Tree) (cell : Cell) → cell_as o t ≡ Some cell → (kind : ColumnType) × (o ≡ Some kind)
type_there None t cell is = absurd (cc)
type_there (Some kind) t cell is = (kind, refl)

column_there : (types : List (Column × ColumnType)) (p : ℕ × Tree) (k : Column) (cell : Cell) → cell_for types p ≡ Some (k, cell) → IsAmong (columns_in types) k
column_there types p k cell is =
    let w = with_there (col p.0) k cell (cell_as (type_at types (col p.0)) p.1) is in
    let t = type_there (type_at types (col p.0)) p.1 cell w.1 in
    subst (λ (n : Column). IsAmong (columns_in types) n) w.0 (typed_column types (col p.0) t.0 t.1)

-- all of them do
if_there : (b : Bool) (found cells : List (Column × Cell)) → (if b then Some found else None) ≡ Some cells → found ≡ cells
if_there true found cells is = cc
if_there false found cells is = cc

columns_there : (types : List (Column × ColumnType)) (ps : List (ℕ × Tree)) (cells : List (Column × Cell)) → cells_for types ps ≡ Some cells → (k : Column) (cell : Cell) → IsAmong {A = Column × Cell} cells (k, cell) → IsAmong (columns_in types) k
unfolding cells_for
columns_there types ps cells is k cell h =
    let found = if_there (list_all (λ p. is_some (cell_for types p)) ps) (filter_map (cell_for types) ps) cells is in
    let w = from_filter (cell_for types) ps (k, cell) (subst (λ (cs : List (Column × Cell)). IsAmong {A = Column × Cell} cs (k, cell)) (sym found) h) in
    column_there types w.0 k cell w.1

cells_there : (object target : Uid) (cells : List (Column × Cell)) (c : Option (List (Column × Cell))) → setting_of_cells object c ≡ Some (cells_set target cells) → (target ≡ object) × (c ≡ Some cells)
cells_there object target cells None is = (cc, cc)
cells_there object target cells (Some cs) is = (cc, cc)

asked_there : (object target : Uid) (cells : List (Column × Cell)) (types : List (Column × ColumnType)) (ask : Ask) → cells_of_ask object types ask ≡ Some (cells_set target cells) → SetsOnly object (columns_in types) target cells
asked_there object target cells types (SetCells ps) is =
    let w = cells_there object target cells (cells_for types ps) is in
    record { object_is = w.0; column_is = columns_there types ps cells w.1 }
asked_there object target cells types (GetCells first last) is = absurd cc
asked_there object target cells types (GetBytes first last) is = absurd cc
asked_there object target cells types (SetBytes at bs) is = absurd cc
asked_there object target cells types (Authenticate a p) is = absurd cc
asked_there object target cells types Activate is = absurd cc
asked_there object target cells types Revert is = absurd cc
asked_there object target cells types GenKey is = absurd cc
asked_there object target cells types (RevertSp keep) is = absurd cc
asked_there object target cells types (Next after count) is = absurd cc
asked_there object target cells types (GetAcl about what) is = absurd cc
asked_there object target cells types (Random count) is = absurd cc
asked_there object target cells types Other is = absurd cc

set_there : (profile : Profile) (sp : Sp) (n : TableSizes) (object target : Uid) (cells : List (Column × Cell)) (kind : Option Kind) (ask : Ask) → setting profile sp n object kind ask ≡ Some (cells_set target cells) → SetsOnly object (set_columns_of profile kind) target cells
set_there profile sp n object target cells (Some kinds.MbrTable) ask is = absurd (no_cells target cells sp n ShadowMbr ask is)
set_there profile sp n object target cells (Some kinds.DataStore) ask is = absurd (no_cells target cells sp n DataStore ask is)
set_there profile sp n object target cells (Some kinds.DataRemoval) ask is = asked_there object target cells (set_types_of profile (Some kinds.DataRemoval)) ask is
set_there profile sp n object target cells (Some kinds.ThisSp) ask is = asked_there object target cells (set_types_of profile (Some kinds.ThisSp)) ask is
set_there profile sp n object target cells (Some kinds.Sp) ask is = asked_there object target cells (set_types_of profile (Some kinds.Sp)) ask is
set_there profile sp n object target cells (Some kinds.Authority) ask is = asked_there object target cells (set_types_of profile (Some kinds.Authority)) ask is
set_there profile sp n object target cells (Some kinds.CPin) ask is = asked_there object target cells (set_types_of profile (Some kinds.CPin)) ask is
set_there profile sp n object target cells (Some kinds.Ace) ask is = asked_there object target cells (set_types_of profile (Some kinds.Ace)) ask is
set_there profile sp n object target cells (Some kinds.Locking) ask is = asked_there object target cells (set_types_of profile (Some kinds.Locking)) ask is
set_there profile sp n object target cells (Some kinds.MbrControl) ask is = asked_there object target cells (set_types_of profile (Some kinds.MbrControl)) ask is
set_there profile sp n object target cells (Some kinds.TperInfo) ask is = asked_there object target cells (set_types_of profile (Some kinds.TperInfo)) ask is
set_there profile sp n object target cells (Some kinds.LockingInfo) ask is = asked_there object target cells (set_types_of profile (Some kinds.LockingInfo)) ask is
set_there profile sp n object target cells (Some kinds.Table) ask is = asked_there object target cells (set_types_of profile (Some kinds.Table)) ask is
set_there profile sp n object target cells (Some kinds.Key) ask is = asked_there object target cells (set_types_of profile (Some kinds.Key)) ask is
set_there profile sp n object target cells (Some kinds.WholeTable) ask is = asked_there object target cells (set_types_of profile (Some kinds.WholeTable)) ask is
set_there profile sp n object target cells (Some kinds.AccessControl) ask is = asked_there object target cells (set_types_of profile (Some kinds.AccessControl)) ask is
set_there profile sp n object target cells (Some kinds.ObjectTable) ask is = asked_there object target cells (set_types_of profile (Some kinds.ObjectTable)) ask is
set_there profile sp n object target cells (Some kinds.SpInfo) ask is = asked_there object target cells (set_types_of profile (Some kinds.SpInfo)) ask is
set_there profile sp n object target cells (Some kinds.SpTemplates) ask is = asked_there object target cells (set_types_of profile (Some kinds.SpTemplates)) ask is
set_there profile sp n object target cells (Some kinds.MethodId) ask is = asked_there object target cells (set_types_of profile (Some kinds.MethodId)) ask is
set_there profile sp n object target cells (Some kinds.SecretProtect) ask is = asked_there object target cells (set_types_of profile (Some kinds.SecretProtect)) ask is
set_there profile sp n object target cells (Some kinds.Template) ask is = asked_there object target cells (set_types_of profile (Some kinds.Template)) ask is
set_there profile sp n object target cells None ask is = asked_there object target cells (set_types_of profile None) ask is

pub set_law : SetLaw
set_law profile sp n object target ask cells is = set_there profile sp n object target cells (kind_of sp object) ask is

pin_columns : (profile : Profile) → set_columns_of profile (Some kinds.CPin) ≡ pin_column ∷ []
pin_columns Base = refl
pin_columns Field = refl
pin_columns Opal = refl

pub pin_law : PinLaw
pin_law profile sp n object target ask cells kind is =
    subst (λ (columns : List Column). SetsOnly object columns target cells) (pin_columns profile)
    (subst (λ (k : Option Kind). SetsOnly object (set_columns_of profile k) target cells) kind (set_law profile sp n object target ask cells is))

-- a setting that is valid is the one that was asked for
fault_there : (fault : Option SetError) (st asked : Setting) → unless_fault fault asked ≡ Ok st → Some asked ≡ Some st
fault_there None st asked is = let same : asked ≡ st = cc in ap Some same
fault_there (Some f) st asked is = cc

valid_there : (s : Standing) (o : Option Setting) (st : Setting) → valid s o ≡ Ok st → o ≡ Some st
valid_there s None st is = cc
valid_there s (Some asked) st is = fault_there (fault_by s.sectors s.newest s.sp asked) st asked is

pub store_law : SettingLaw
store_law s object ask st is = valid_there s (setting s.profile s.sp s.sizes object (kind_of s.sp object) ask) st is

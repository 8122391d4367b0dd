-- What calls come to, in the words of ACEs: a call does what it asks exactly where it is granted, it is denied by the
-- first column without an ACE, and Get lists a column exactly where it has one.
use Rattle.basics.specs.declared.profile.Profile.{Profile}
use Rattle.std.specs.Prelude.{◌≡◌, ◌≤◌, ◌⊎◌, ◌↔◌, nat_lt, ℕ, Bool, true, false, ◌&&◌, List, [], ◌∷◌, ◌++◌, Option, None, Some, Ok}
use Rattle.sp_cells.specs.declared.names.Uid.{Uid}
use Rattle.sp_cells.specs.declared.names.Sp.{Sp}
use Rattle.sp_cells.specs.declared.names.Column.{Column}
use Rattle.sp_cells.specs.declared.cells.Cell.{Cell}
use Rattle.sp_cells.specs.ColumnNames.{pin_column}
use Rattle.sp_cells.specs.Names.{get}
use Rattle.sp_cells.specs.declared.byte_tables.TableSizes.{TableSizes}
use Rattle.sp_cells.specs.Flat.{LookUp}
use Rattle.ace_eval.specs.Aces.{HasAce, acl_at}
use Rattle.audit.specs.declared.reason.Why.{Why}
use Rattle.tcg_calls.specs.declared.call_shapes.ask.Ask.{Ask}
use Rattle.methods.specs.declared.kinds.Kind.{Kind}
use Rattle.methods.specs.declared.kinds.Kind.TheVariants as kinds
use Rattle.methods.specs.Kinds.{kind_of}
use Rattle.methods.specs.Columns.{columns_in, columns_of, set_types_of}
use Rattle.methods.specs.Listed.{listed}
use Rattle.methods.specs.Grants.{wanted, why_denied}
use Rattle.methods.specs.Settings.{setting}
use Rattle.sessions.specs.Deeds.{Setting, cells_set}
use Rattle.methods.specs.Judgement.{Standing, Judgement, Denies, Refuses, Gives, Draws, Makes, Attempts, Activates, Reverts, Erases, RevertsSp, denial, to_set, does, judged}

-- each of these columns has an ACE: one that names it, and whose expression is the postorder writing of a tree that is
-- true of the authorities held
abbrev pub EachHasAce : Profile → LookUp → Sp → Uid → Uid → List Uid → List (Option Column)
    → Type 0
EachHasAce profile look sp object method held [] = Unit {0}
EachHasAce profile look sp object method held (k ∷ ks) = HasAce profile look sp object method k held
    × EachHasAce profile look sp object method held ks

-- each column for which a call wants an ACE has one, of those that the session holds in its view
abbrev pub IsGranted : Standing → Uid → Uid → Ask → Type 0
IsGranted s object method ask = EachHasAce s.profile s.rows s.sp object method s.held (wanted ask)

abbrev pub GrantLaw : Type 0
GrantLaw = (s : Standing) (object method : Uid) (ask : Ask)
    → (denial s object method ask ≡ None) ↔ IsGranted s object method ask

-- the reason is that of the first column, in the call's order, that has no ACE
pub record IsDeniedBy (s : Standing) (object method : Uid) (ask : Ask) (why : Why) : Type 0 where
  pub before : List (Option Column)
  pub column : Option Column
  pub after : List (Option Column)
  pub order : wanted ask ≡ before ++ column ∷ after
  pub granted : EachHasAce s.profile s.rows s.sp object method s.held before
  pub without : HasAce s.profile s.rows s.sp object method column s.held → ⊥
  pub reason : why
      ≡ why_denied s.rows s.sp object method column (acl_at s.profile s.sp object method)

abbrev pub DenyLaw : Type 0
DenyLaw = (s : Standing) (object method : Uid) (ask : Ask) (why : Why)
    → denial s object method ask ≡ Some why → IsDeniedBy s object method ask why

abbrev pub takes_effect : Judgement → Bool
takes_effect (Denies why) = false
takes_effect (Refuses status rule) = false
takes_effect (Gives results) = true
takes_effect (Draws count results) = true
takes_effect (Makes setting) = true
takes_effect (Attempts block authority pin) = true
takes_effect Activates = true
takes_effect (Reverts sp) = true
takes_effect (Erases range) = true
takes_effect (RevertsSp keep) = true

-- of a call of the right shape: with valid values it takes effect exactly where it is granted, and then it is what the
-- ask comes to; where it is not granted, it is refused with a reason
pub record IsJudgedByAces (s : Standing) (object method : Uid) (ask : Ask) : Type 0 where
  pub effect : takes_effect (does s object ask) ≡ true
      → (takes_effect (judged s object method (Some ask)) ≡ true) ↔ IsGranted s object method ask
  pub granted : IsGranted s object method ask
      → judged s object method (Some ask) ≡ does s object ask
  pub denied : (IsGranted s object method ask → ⊥)
      → (why : Why) × (judged s object method (Some ask) ≡ Denies why)

abbrev pub EffectLaw : Type 0
EffectLaw = (s : Standing) (object method : Uid) (ask : Ask) → IsJudgedByAces s object method ask

-- an element of a list
abbrev pub IsAmong : {A : Type 0} → List A → A → Type 0
IsAmong [] y = ⊥
IsAmong (x ∷ xs) y = (x ≡ y) ⊎ IsAmong xs y

-- a column is listed with its cell: the object's kind has the column, it is asked for, it has an ACE, and the cell is
-- what the session sees there
pub record IsListed (profile : Profile) (look : LookUp) (sp : Sp) (object : Uid) (first last : ℕ)
    (held : List Uid) (k : Column) (cell : Cell) : Type 0 where
  pub known : IsAmong (columns_of (kind_of sp object)) k
  pub from : first ≤ k.0
  pub to : k.0 ≤ last
  pub ace : HasAce profile look sp object get (Some k) held
  pub in_view : look sp object k ≡ Some cell

abbrev pub ListLaw : Type 0
ListLaw = (profile : Profile) (look : LookUp) (sp : Sp) (object : Uid) (first last : ℕ)
    (held : List Uid) (k : Column) (cell : Cell)
    → IsAmong {A = Column × Cell} (listed profile look sp object first last held) (k, cell)
    ↔ IsListed profile look sp object first last held k cell

-- each number is above those before it
abbrev pub is_below : ℕ → List Column → Bool
is_below n [] = true
is_below n (k ∷ ks) = nat_lt n k.0

abbrev pub are_rising : List Column → Bool
are_rising [] = true
are_rising (k ∷ ks) = is_below k.0 ks && are_rising ks

-- the columns of each kind rise
abbrev pub RiseLaw : Type 0
RiseLaw = (kind : Option Kind) → are_rising (columns_of kind) ≡ true

-- the columns of a kind that Set takes
abbrev pub set_columns_of : Profile → Option Kind → List Column
set_columns_of profile kind = columns_in (set_types_of profile kind)

-- the cells are of this object, and each stands in one of these columns
pub record SetsOnly (object : Uid) (columns : List Column) (target : Uid)
    (cells : List (Column × Cell)) : Type 0 where
  pub object_is : target ≡ object
  pub column_is : (k : Column) (cell : Cell) → IsAmong {A = Column × Cell} cells (k, cell)
      → IsAmong columns k

-- a call sets cells of its own object alone, and in columns that Set takes of the object's kind
abbrev pub SetLaw : Type 0
SetLaw = (profile : Profile) (sp : Sp) (sizes : TableSizes) (object target : Uid) (ask : Ask)
    (cells : List (Column × Cell)) → setting profile sp sizes object (kind_of sp object) ask
    ≡ Some (cells_set target cells)
    → SetsOnly object (set_columns_of profile (kind_of sp object)) target cells

-- of a C_PIN row it sets the PIN alone: no Set changes a TryLimit, a Tries or a UID
abbrev pub PinLaw : Type 0
PinLaw = (profile : Profile) (sp : Sp) (sizes : TableSizes) (object target : Uid) (ask : Ask)
    (cells : List (Column × Cell)) → kind_of sp object ≡ Some kinds.CPin
    → setting profile sp sizes object (kind_of sp object) ask ≡ Some (cells_set target cells)
    → SetsOnly object (pin_column ∷ []) target cells

-- what is stored is what the call sets
abbrev pub SettingLaw : Type 0
SettingLaw = (s : Standing) (object : Uid) (ask : Ask) (set : Setting)
    → to_set s object ask ≡ Ok set
    → setting s.profile s.sp s.sizes object (kind_of s.sp object) ask ≡ Some set

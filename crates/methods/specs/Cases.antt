-- Each method that the access list offers has a case, and each column of a row stands in the table of columns (Core
-- 2.01, section 5.3; Opal SSC 2.01, section 5.1).
use Rattle.std.specs.Prelude.{◌≡◌, true, List, Option, Some, is_some}
use Rattle.sp_cells.specs.declared.names.Uid.{Uid}
use Rattle.sp_cells.specs.declared.names.Sp.{Sp}
use Rattle.sp_cells.specs.declared.names.Column.{Column}
use Rattle.sp_cells.specs.ColumnNames.{uid_column}
use Rattle.sp_cells.specs.Config.{Config}
use Rattle.sp_tables.specs.Items.{Item, item_at}
use Rattle.sp_tables.specs.Contents.{items_of, factory_contents}
use Rattle.tcg_tokens.specs.Tree.{Tree}
use Rattle.ace_eval.specs.Aces.{acl_at}
use Rattle.tcg_calls.specs.declared.call_shapes.ask.Ask.{Ask}
use Rattle.tcg_calls.specs.Asks.{ask_of}
use Rattle.methods.specs.Kinds.{kind_of}
use Rattle.methods.specs.declared.kinds.Kind.{Kind}
use Rattle.methods.specs.declared.kinds.Kind.TheVariants as kinds
use Rattle.methods.specs.Columns.{columns_in, columns_of}
use Rattle.sp_cells.specs.Values.{sp_types, authority_types, locking_types, tper_info_types}
use Rattle.basics.specs.declared.profile.Profile.{Profile}
use Rattle.basics.specs.declared.profile.Profile.TheVariants.{Base, Field, Opal}
use Rattle.methods.specs.Effects.{has_ask}
use Rattle.methods.specs.Laws.{IsAmong}

-- where a method is offered, and its arguments have the shape that it wants, the object's kind has what is asked
abbrev pub CaseLaw : Type 0
CaseLaw = (profile : Profile) (sp : Sp) (object method : Uid) (args : List Tree) (ask : Ask)
    → is_some (acl_at profile sp object method) ≡ true
    → ask_of profile sp object method args ≡ Some ask
    → has_ask (kind_of sp object) ask ≡ true

-- the cells of a new drive's SP
abbrev pub new_cells : Config → Sp → List Item
new_cells config sp = items_of (factory_contents config) sp

-- an object has a cell in a column
abbrev pub HasCell : List Item → Uid → Column → Type 0
HasCell items object k = is_some (item_at items object k) ≡ true

-- the columns of a kind in a drive of this profile: keys of ranges are not Base's, and a whole row of SP, Authority and TPerInfo
-- is Opal's
abbrev pub field_columns : Option Kind → List Column
field_columns (Some kinds.Sp) = columns_in sp_types
field_columns (Some kinds.Authority) = columns_in authority_types
field_columns (Some kinds.TperInfo) = columns_in tper_info_types
field_columns kind = columns_of kind

abbrev pub columns_under : Profile → Option Kind → List Column
columns_under Base (Some kinds.Locking) = columns_in locking_types
columns_under Base kind = field_columns kind
columns_under Field kind = field_columns kind
columns_under Opal kind = columns_of kind

-- an object has cells in columns of its kind alone; one that has a cell in the first has one in each of them
pub record HasColumnsOfKind (profile : Profile) (sp : Sp) (items : List Item) (object : Uid)
    (k : Column) : Type 0 where
  pub alone : HasCell items object k → IsAmong (columns_under profile (kind_of sp object)) k
  pub each : HasCell items object uid_column → IsAmong (columns_under profile (kind_of sp object)) k
      → HasCell items object k

-- so it is of a new drive
abbrev pub KindColumnLaw : Type 0
KindColumnLaw = (config : Config) (sp : Sp) (object : Uid) (k : Column)
    → HasColumnsOfKind config.profile sp (new_cells config sp) object k

-- What is nowhere, after any acts: cells that no table has, bytes of the shadow past its table,
-- responses on other ComIDs.
use Rattle.basics.specs.declared.profile.Profile.{Profile}
use Rattle.basics.specs.declared.profile.Profile.TheVariants.{Base, Field, Opal}
use Rattle.std.specs.Prelude.{◌≡◌, ℕ, ◌*◌, ◌≤◌, ◌<◌, false, List, [], ◌∷◌, length, None, Ok}
use Rattle.sp_cells.specs.declared.names.Sp.{Sp}
use Rattle.sp_cells.specs.declared.names.Uid.{Uid}
use Rattle.sp_cells.specs.declared.names.Column.{Column}
use Rattle.sp_cells.specs.ColumnNames.{credential_column, recommended_access_granularity_column, log_to_column}
use Rattle.sp_cells.specs.Config.{Config, table_sectors}
use Rattle.sp_tables.specs.Contents.{cells_look_up}
use Rattle.shadow_mbr.specs.Stored.{sector_size, zeros}
use Rattle.locking.specs.declared.range.RangeRow.{RangeRow}
use Rattle.history.specs.Opening.{Origin, factory_origin, origin_with}
use Rattle.history.specs.Events.{Event}
use Rattle.history.specs.Readers.{factory_rows, in_force, view, byte_in_force, byte_in_view, sector, waiting}
use Rattle.history.specs.Facts.{Facts, facts}
use Rattle.history.specs.Answers.{payload_of, expected}
use Rattle.history.specs.Decisions.{is_session_com_id}
use Rattle.history.specs.History.{Act, Accept, Complete, Reset, SoftwareReset, log}

-- Neither what a drive starts from nor a new drive has a cell there: then there is none after any
-- events.
pub record IsNowhere (o : Origin) (sp : Sp) (object : Uid) (column : Column) : Type 0 where
  pub opened : cells_look_up o.tables sp object column ≡ None
  pub factory : factory_rows o sp object column ≡ None

pub record HasNone (o : Origin) (past : List Event) (sp : Sp) (object : Uid)
    (column : Column) : Type 0 where
  pub rows : in_force o past sp object column ≡ None
  pub views : (number : ℕ) → view o past number sp object column ≡ None

abbrev pub CellLaw : Type 0
CellLaw =
    (o : Origin) (past : List Event) (sp : Sp) (object : Uid) (column : Column)
    → IsNowhere o sp object column
    → HasNone o past sp object column

-- No opening has a column behind the last one that tables have, in a drive of this profile.
abbrev pub last_column : Profile → Column
last_column Base = credential_column
last_column Field = recommended_access_granularity_column
last_column Opal = log_to_column

abbrev pub HasNoColumn : Origin → Column → Type 0
HasNoColumn o column = (sp : Sp) (object : Uid) → IsNowhere o sp object column

abbrev pub ColumnLaw : Type 0
ColumnLaw =
    (config : Config) (column : Column) → (last_column config.profile).0 < column.0
    → HasNoColumn (factory_origin config) column
    × ((rows : List RangeRow) (o : Origin) → origin_with config rows ≡ Ok o → HasNoColumn o column)

-- Past the byte tables there are zeros.
pub record IsZero (past : List Event) (place : ℕ) : Type 0 where
  pub byte : byte_in_force past place ≡ 0
  pub views : (number : ℕ) → byte_in_view past number place ≡ 0

abbrev pub TableLaw : Type 0
TableLaw =
    (o : Origin) (acts : List Act) (place : ℕ)
    → sector_size * table_sectors o.tables.config ≤ place → IsZero (log o acts) place

-- No response waits on a ComID that is not one for sessions.
abbrev pub ResponseLaw : Type 0
ResponseLaw =
    (o : Origin) (acts : List Act) (com_id : ℕ) → is_session_com_id com_id ≡ false
    → waiting (log o acts) com_id ≡ None

-- An act brings as many bytes as its command wants.
abbrev pub IsFed : Facts → Act → Type 0
IsFed f (Accept fis payload) = length payload ≡ payload_of f.config fis
IsFed f (Complete tag payload) = length payload ≡ expected (f.held tag)
IsFed f (Reset kind) = Unit {0}
IsFed f SoftwareReset = Unit {0}

abbrev pub AreFed : Origin → List Act → Type 0
AreFed o [] = Unit {0}
AreFed o (act ∷ acts) = IsFed (facts o (log o acts)) act × AreFed o acts

-- Then sectors behind the last one are zeros.
abbrev pub SectorLaw : Type 0
SectorLaw =
    (o : Origin) (acts : List Act) (place : ℕ) → AreFed o acts → o.tables.config.sectors ≤ place
    → sector (log o acts) place ≡ zeros

-- How what a drive keeps without power is written: one reply of a token stream (TCG Core 2.01, section 3.2.2), whose results
-- are these. The order, and the numbers of kinds, are this project's.
use Rattle.std.specs.Prelude.{◌≡◌, ℕ, Bool, true, false, List, [], ◌∷◌, map, Ok}
use Rattle.std.specs.Map.{keys_of}
use Rattle.basics.specs.declared.profile.Profile.{Profile}
use Rattle.basics.specs.declared.profile.Profile.TheVariants.{Base, Field, Opal}
use Rattle.sp_cells.specs.declared.cells.Cell.{Cell}
use Rattle.sp_cells.specs.declared.cells.Cell.TheVariants.{Number, Bytes, Uid as Object, Numbers, Expr, Columns, OneName}
use Rattle.sp_cells.specs.declared.cells.Element.{Element}
use Rattle.sp_cells.specs.declared.cells.Element.TheVariants.{Authority, And, Or}
use Rattle.sp_cells.specs.Config.{Config, table_sectors}
use Rattle.sp_tables.specs.Items.{Item}
use Rattle.shadow_mbr.specs.Stored.{StoredSectors, IsSound, sector_at}
use Rattle.tcg_tokens.specs.Tree.{Tree, Trees, number, bytes, list, named, trees_of}
use Rattle.tcg_tokens.specs.Message.{reply}
use Rattle.tcg_tokens.specs.Reading.{reading}
use Rattle.history.specs.Opening.{Origin}
use Rattle.history.specs.History.{Act}
use Rattle.drive.specs.State.{DriveState, Agrees}
use Rattle.drive.specs.Rest.{Rest, IsOff, KeepsRest}

-- a value behind the number of its kind
abbrev pub kind : ℕ → Tree → Tree
kind number_of value = named (number number_of) value

abbrev pub flag_tree : Bool → Tree
flag_tree false = number 0
flag_tree true = number 1

abbrev pub list_tree : List Tree → Tree
list_tree values = list (trees_of values)

abbrev pub saved_element : Element → Tree
saved_element (Authority authority) = kind 0 (number authority.0)
saved_element And = number 0
saved_element Or = number 1

abbrev pub saved_cell : Cell → Tree
saved_cell (Number n) = kind 0 (number n)
saved_cell (Bytes content) = kind 1 (bytes content)
saved_cell (Object object) = kind 2 (number object.0)
saved_cell (Numbers resets) =
    kind 3 (list_tree (flag_tree resets.power_cycle ∷ flag_tree resets.hardware
    ∷ flag_tree resets.programmatic ∷ []))
saved_cell (Expr elements) = kind 4 (list_tree (map saved_element elements))
saved_cell (Columns columns) = kind 5 (list_tree (map (λ column. number column.0) columns))
saved_cell (OneName name) = kind 6 (bytes name)

-- a cell behind the numbers of its object and of its column
abbrev pub item_tree : Item → Tree
item_tree item = kind item.object.0 (kind item.column.0 (saved_cell item.value))

-- what a sector holds, behind its number
abbrev pub sector_tree : StoredSectors → ℕ → Tree
sector_tree stored sector = kind sector (bytes (sector_at stored sector))

-- the sectors that are kept; each other one is zeros
abbrev pub sectors_tree : StoredSectors → Tree
sectors_tree stored = list_tree (map (sector_tree stored) (keys_of stored.kept))

abbrev pub saved_profile : Profile → ℕ
saved_profile Base = 0
saved_profile Field = 1
saved_profile Opal = 2

-- what the drive was made with
abbrev pub config_tree : Config → Tree
config_tree config = list_tree (number (saved_profile config.profile) ∷ number config.sectors
    ∷ number config.mbr_sectors ∷ bytes config.msid ∷ bytes config.serial ∷ bytes config.model
    ∷ bytes config.psid ∷ number config.datastore ∷ number config.seed ∷ [])

-- the name and the version of the form: "Opalport", 1
abbrev pub form_name : List ℕ
form_name = 0x4f ∷ 0x70 ∷ 0x61 ∷ 0x6c ∷ 0x70 ∷ 0x6f ∷ 0x72 ∷ 0x74 ∷ []

abbrev pub form_version : ℕ
form_version = 1

abbrev pub saved : Rest → Trees
saved rest = trees_of (bytes form_name ∷ number form_version ∷ config_tree rest.tables.config
    ∷ list_tree (map item_tree rest.tables.admin) ∷ list_tree (map item_tree rest.tables.locking)
    ∷ sectors_tree rest.bytes ∷ sectors_tree rest.media
    ∷ number rest.next ∷ number rest.drawn ∷ [])

-- These bytes are what the drive keeps.
abbrev pub TellsRest : List ℕ → Rest → Type 0
TellsRest text rest = reading text ≡ Ok (reply (saved rest) (0 ∷ 0 ∷ 0 ∷ []))

-- There are as many sectors of each kind as the drive was made with.
pub record IsWhole (rest : Rest) : Type 0 where
  pub bytes : rest.bytes.sectors ≡ table_sectors rest.tables.config
  pub media : rest.media.sectors ≡ rest.tables.config.sectors
  pub sound_bytes : IsSound rest.bytes
  pub sound_media : IsSound rest.media

-- A drive that is off, of which these bytes say what it keeps.
pub record IsSaved (text : List ℕ) (d : DriveState) : Type 0 where
  pub rest : Rest
  pub spells : TellsRest text rest
  pub whole : IsWhole rest
  pub off : IsOff d
  pub rests : KeepsRest rest d

-- These bytes are what is left of a drive of which those acts are true.
abbrev pub IsSavedBy : List ℕ → Origin → List Act → Type 0
IsSavedBy text o acts = (d : DriveState) × IsSaved text d × Agrees d o acts

-- Laws.

-- The same bytes are what one drive keeps, and no other.
abbrev pub OneRestLaw : Type 0
OneRestLaw =
    (text : List ℕ) (a b : Rest) → IsWhole a → IsWhole b → TellsRest text a → TellsRest text b
    → a ≡ b

-- Of two drives that the same bytes say, what is true of the acts of the one is true of those of the other.
abbrev pub SameDriveLaw : Type 0
SameDriveLaw =
    (text : List ℕ) (d e : DriveState) (o : Origin) (acts : List Act)
    → IsSaved text d → IsSaved text e → Agrees d o acts → Agrees e o acts

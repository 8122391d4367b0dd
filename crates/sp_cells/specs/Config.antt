-- What a drive is made with, and the limits of it.
use Rattle.std.specs.Prelude.{◌≡◌, ◌≤◌, ℕ, List, length, Bool, true, ◌&&◌, ◌==◌, nat_le, codes}
use Rattle.std.specs.List.{list_all}
use Rattle.basics.specs.Addresses.{address_limit}
use Rattle.basics.specs.declared.profile.Profile.{Profile}
use Rattle.basics.specs.declared.profile.Profile.TheVariants.{Base, Field, Opal}
use Rattle.sp_cells.specs.declared.byte_tables.TableSizes.{TableSizes}
use Rattle.sp_cells.specs.ByteTables.{sectors_of}
use Rattle.sp_cells.specs.Limits.{most_mbr_sectors, most_datastore_bytes, new_datastore_bytes, opal_mbr_sectors, least_opal_datastore_bytes, new_seed, most_pin_bytes, most_serial_bytes, most_model_bytes}

-- the sectors of the drive, those that can be shadowed, the PIN of a new drive's owner, and the profile with the names
-- that the drive tells under it, with the PIN on its label, the bytes of its DataStore, and the seed of its random bytes
pub record Config : Type 0 where
  pub sectors : ℕ
  pub mbr_sectors : ℕ
  pub msid : List ℕ
  pub profile : Profile
  pub serial : List ℕ
  pub model : List ℕ
  pub psid : List ℕ
  pub datastore : ℕ
  pub seed : ℕ

-- no more sectors than commands can name, a shadow within them, a PIN that fits a C_PIN row
pub record IsWithinLimits (sectors mbr_sectors : ℕ) (msid : List ℕ) : Type 0 where
  pub some_sector : 1 ≤ sectors
  pub sectors_named : sectors ≤ address_limit
  pub shadow_small : mbr_sectors ≤ most_mbr_sectors
  pub shadow_within : mbr_sectors ≤ sectors
  pub some_byte : 1 ≤ length msid
  pub msid_short : length msid ≤ most_pin_bytes

-- the shadow has as many sectors as the profile asks for: an Opal drive's are told (Opal SSC 2.01, section 4.3.5.4)
abbrev pub is_own_shadow : Profile → ℕ → Bool
is_own_shadow Base mbr_sectors = true
is_own_shadow Field mbr_sectors = true
is_own_shadow Opal mbr_sectors = mbr_sectors == opal_mbr_sectors

abbrev pub HasOwnShadow : Profile → ℕ → Type 0
HasOwnShadow profile mbr_sectors = is_own_shadow profile mbr_sectors ≡ true

-- DataStore has at least as many bytes as the profile asks for (Opal SSC 2.01, section 4.3.8.1)
abbrev pub is_own_store : Profile → ℕ → Bool
is_own_store Base datastore = true
is_own_store Field datastore = true
is_own_store Opal datastore = nat_le least_opal_datastore_bytes datastore

abbrev pub HasOwnStore : Profile → ℕ → Type 0
HasOwnStore profile datastore = is_own_store profile datastore ≡ true

-- a name is printable ASCII (ACS-3, IDENTIFY DEVICE data, "ATA strings")
abbrev pub is_printable : ℕ → Bool
is_printable byte = nat_le 32 byte && nat_le byte 126

-- a name that fits its words
pub record IsAtaText (most : ℕ) (text : List ℕ) : Type 0 where
  pub short : length text ≤ most
  pub printable : list_all is_printable text ≡ true

-- the serial number and the model number fit theirs
pub record AreNames (serial model : List ℕ) : Type 0 where
  pub serial_named : IsAtaText most_serial_bytes serial
  pub model_named : IsAtaText most_model_bytes model

-- the PIN on the label fits a C_PIN row (PSID feature set 1.00)
pub record IsLabel (psid : List ℕ) : Type 0 where
  pub some : 1 ≤ length psid
  pub short : length psid ≤ most_pin_bytes

-- the names of a drive that is given none (this drive)
abbrev pub new_serial : List ℕ
new_serial = codes "0000000001"

abbrev pub new_model : List ℕ
new_model = codes "Opalport"

-- and the PIN on its label
abbrev pub new_psid : List ℕ
new_psid = codes "the PSID of the label"

-- and the bytes of its DataStore, which Base has not
abbrev pub new_datastore : Profile → ℕ
new_datastore Base = 0
new_datastore Field = new_datastore_bytes
new_datastore Opal = least_opal_datastore_bytes

abbrev pub config_in : Profile → ℕ → ℕ → List ℕ → Config
config_in profile sectors mbr_sectors msid = record {
  sectors = sectors;
  mbr_sectors = mbr_sectors;
  msid = msid;
  profile = profile;
  serial = new_serial;
  model = new_model;
  psid = new_psid;
  datastore = new_datastore profile;
  seed = new_seed;
}

abbrev pub base_config : ℕ → ℕ → List ℕ → Config
base_config sectors mbr_sectors msid = config_in Base sectors mbr_sectors msid

abbrev pub field_config : ℕ → ℕ → List ℕ → Config
field_config sectors mbr_sectors msid = config_in Field sectors mbr_sectors msid

abbrev pub opal_config : ℕ → ℕ → List ℕ → Config
opal_config sectors mbr_sectors msid = config_in Opal sectors mbr_sectors msid

-- the same drive with other names
abbrev pub named_config : Config → List ℕ → List ℕ → Config
named_config config serial model = record config { serial = serial; model = model }

-- the same drive with another PIN on its label
abbrev pub labelled_config : Config → List ℕ → Config
labelled_config config psid = record config { psid = psid }

-- the same drive with a DataStore of another size
abbrev pub stored_config : Config → ℕ → Config
stored_config config datastore = record config { datastore = datastore }

-- the same drive with another seed
abbrev pub seeded_config : Config → ℕ → Config
seeded_config config seed = record config { seed = seed }

-- how large its byte tables are, and in how many sectors they stand
abbrev pub sizes_in : Config → TableSizes
sizes_in config = record { mbr_sectors = config.mbr_sectors; datastore = config.datastore }

abbrev pub table_sectors : Config → ℕ
table_sectors config = sectors_of (sizes_in config)

-- What the options of the command line write.
use Rattle.std.specs.Prelude.{◌≡◌, ◌≤◌, ℕ, Bool, true, false, not, ◌||◌, List, [], ◌∷◌, length, codes, Option, None, Some, Result, Ok, Err, IsOk, is_some, option_map, if◌then◌else◌}
use Rattle.std.specs.Str.{bytes_eq}
use Rattle.hex.specs.Hex.{decode_of}
use Rattle.hex.specs.declared.error.FromHexError.{FromHexError}
use Rattle.basics.specs.declared.profile.Profile.{Profile}
use Rattle.basics.specs.declared.profile.Profile.TheVariants.{Base, Field, Opal}
use Rattle.sp_cells.specs.Config.{Config, IsWithinLimits, HasOwnShadow, HasOwnStore, AreNames, IsLabel, new_serial, new_model, new_psid, new_datastore}
use Rattle.sp_cells.specs.Limits.{most_datastore_bytes, opal_mbr_sectors, new_seed}
use Rattle.script_lines.specs.Numbers.{number_up_to, largest}
use Rattle.tool.specs.declared.options.DriveTexts.{DriveTexts}
use Rattle.tool.specs.declared.options.OptionsFault.{OptionsFault}
use Rattle.tool.specs.declared.options.OptionsFault.TheVariants as faults

-- the texts of the options that say which drive; one that is left out has none
pub record DriveText : Type 0 where
  pub sectors : Option (List ℕ)
  pub shadow : Option (List ℕ)
  pub msid : List ℕ
  pub profile : List ℕ
  pub serial : Option (List ℕ)
  pub model : Option (List ℕ)
  pub psid : Option (List ℕ)
  pub datastore : Option (List ℕ)
  pub seed : Option (List ℕ)

abbrev pub drive_text : DriveTexts → DriveText
drive_text texts = record {
  sectors = option_map (λ s. s.now) texts.sectors;
  shadow = option_map (λ s. s.now) texts.shadow;
  msid = texts.msid.now;
  profile = texts.profile.now;
  serial = option_map (λ s. s.now) texts.serial;
  model = option_map (λ s. s.now) texts.model;
  psid = option_map (λ s. s.now) texts.psid;
  datastore = option_map (λ s. s.now) texts.datastore;
  seed = option_map (λ s. s.now) texts.seed;
}

abbrev pub profile_named : List ℕ → Option Profile
profile_named name =
    if bytes_eq name (codes "base") then Some Base
    else (if bytes_eq name (codes "field") then Some Field
    else (if bytes_eq name (codes "opal") then Some Opal else None))

-- the sectors of a drive that is told none, and those of its shadow (this drive; an Opal drive has a shadow of 128 MiB:
-- Opal SSC 2.01, section 4.3.5.4)
abbrev pub new_sectors : Option Profile → ℕ
new_sectors None = 1000
new_sectors (Some Base) = 1000
new_sectors (Some Field) = 1000
new_sectors (Some Opal) = 524288

abbrev pub new_shadow : Option Profile → ℕ
new_shadow None = 8
new_shadow (Some Base) = 8
new_shadow (Some Field) = 8
new_shadow (Some Opal) = opal_mbr_sectors

-- the number that a text writes, or another one where there is no text
abbrev pub size_or : ℕ → Option (List ℕ) → Option ℕ
size_or other None = Some other
size_or other (Some text) = number_up_to (largest 64) text

-- the sectors that the texts write, those of the shadow, and the seed
abbrev pub sectors_in : DriveText → Option ℕ
sectors_in texts = size_or (new_sectors (profile_named texts.profile)) texts.sectors

abbrev pub shadow_in : DriveText → Option ℕ
shadow_in texts = size_or (new_shadow (profile_named texts.profile)) texts.shadow

abbrev pub seed_in : DriveText → Option ℕ
seed_in texts = size_or new_seed texts.seed

-- a text, or another one where there is none
abbrev pub text_or : List ℕ → Option (List ℕ) → List ℕ
text_or other None = other
text_or other (Some text) = text

-- the bytes that hex writes, or the PSID of a drive that is given none
abbrev pub label_of : Option (List ℕ) → Result (List ℕ) FromHexError
label_of None = Ok new_psid
label_of (Some text) = decode_of text

-- a serial number, a model number or a PSID is given
abbrev pub has_names : DriveText → Bool
has_names texts = is_some texts.serial || (is_some texts.model || is_some texts.psid)

-- which a drive of the base profile is not
abbrev pub may_have_names : Profile → DriveText → Bool
may_have_names Base texts = not (has_names texts)
may_have_names Field texts = true
may_have_names Opal texts = true

-- a drive of the base profile has no DataStore
abbrev pub may_have_store : Profile → DriveText → Bool
may_have_store Base texts = not (is_some texts.datastore)
may_have_store Field texts = true
may_have_store Opal texts = true

-- only a drive of the profile Opal gives random bytes, and has a seed
abbrev pub may_have_seed : Profile → DriveText → Bool
may_have_seed Base texts = not (is_some texts.seed)
may_have_seed Field texts = not (is_some texts.seed)
may_have_seed Opal texts = true

-- the bytes of DataStore that a number says, or those of a drive that is told none
abbrev pub store_of : Profile → Option (List ℕ) → Option ℕ
store_of profile text = size_or (new_datastore profile) text

-- a text is given, and is empty
abbrev pub is_empty_text : Option (List ℕ) → Bool
is_empty_text (Some []) = true
is_empty_text (Some (byte ∷ bytes)) = false
is_empty_text None = false

-- a name is given that has no character
abbrev pub has_empty_name : DriveText → Bool
has_empty_name texts = is_empty_text texts.serial || is_empty_text texts.model

-- what is given beside the profile is the profile's to have, writes the bytes of DataStore, and has no empty name
pub record IsStore (profile : Profile) (texts : DriveText) (datastore : ℕ) : Type 0 where
  pub names_wanted : may_have_names profile texts ≡ true
  pub store_wanted : may_have_store profile texts ≡ true
  pub seed_wanted : may_have_seed profile texts ≡ true
  pub number : store_of profile texts.datastore ≡ Some datastore
  pub some_names : has_empty_name texts ≡ false

-- The texts write the configuration: two decimal numbers of 64 bits, hex, the name of a profile, the names of a drive,
-- hex, and two decimal numbers. What is left out is as in a new drive of the profile.
pub record WritesConfig (texts : DriveText) (config : Config) : Type 0 where
  pub sectors_written : sectors_in texts ≡ Some config.sectors
  pub shadow_written : shadow_in texts ≡ Some config.mbr_sectors
  pub seed_written : seed_in texts ≡ Some config.seed
  pub msid_written : decode_of texts.msid ≡ Ok config.msid
  pub profile_written : profile_named texts.profile ≡ Some config.profile
  pub serial_written : config.serial ≡ text_or new_serial texts.serial
  pub model_written : config.model ≡ text_or new_model texts.model
  pub psid_written : label_of texts.psid ≡ Ok config.psid
  pub store_written : IsStore config.profile texts config.datastore

-- its sizes are within the limits, and the shadow is as large as the profile wants it
abbrev pub HasDriveSizes : Config → Type 0
HasDriveSizes config =
    IsWithinLimits config.sectors config.mbr_sectors config.msid
    × HasOwnShadow config.profile config.mbr_sectors

-- so is its DataStore
abbrev pub HasStoreSize : Config → Type 0
HasStoreSize config =
    (config.datastore ≤ most_datastore_bytes) × HasOwnStore config.profile config.datastore

-- The configuration is within the limits, and so are its names.
abbrev pub IsOfDrive : Config → Type 0
IsOfDrive config =
    HasDriveSizes config
    × AreNames config.serial config.model × IsLabel config.psid × HasStoreSize config

-- the numbers of sectors and the seed are written as numbers
abbrev pub AreNumbers : DriveText → Type 0
AreNumbers texts =
    (sectors_in texts ≡ None → ⊥) × (shadow_in texts ≡ None → ⊥) × (seed_in texts ≡ None → ⊥)

-- both PINs are written in hex
abbrev pub AreHex : DriveText → Type 0
AreHex texts = IsOk (decode_of texts.msid) × IsOk (label_of texts.psid)

-- or the first of it that is not
abbrev pub IsStoreFault : Profile → DriveText → OptionsFault → Type 0
IsStoreFault profile texts faults.NamesOfBase = may_have_names profile texts ≡ false
IsStoreFault profile texts faults.DatastoreOfBase =
    (may_have_names profile texts ≡ true) × (may_have_store profile texts ≡ false)
IsStoreFault profile texts faults.SeedBelowOpal =
    (may_have_names profile texts ≡ true) × (may_have_store profile texts ≡ true)
    × (may_have_seed profile texts ≡ false)
IsStoreFault profile texts faults.Datastore =
    (may_have_names profile texts ≡ true) × (may_have_store profile texts ≡ true)
    × (may_have_seed profile texts ≡ true)
    × (store_of profile texts.datastore ≡ None)
IsStoreFault profile texts faults.EmptyName =
    (may_have_names profile texts ≡ true) × (may_have_store profile texts ≡ true)
    × (may_have_seed profile texts ≡ true) × (store_of profile texts.datastore ≡ None → ⊥)
    × (has_empty_name texts ≡ true)
IsStoreFault profile texts fault = ⊥

abbrev pub IsFaultUnder : DriveText → OptionsFault → Type 0
IsFaultUnder texts fault =
    AreNumbers texts × AreHex texts
    × ((profile : Profile) × (profile_named texts.profile ≡ Some profile)
    × IsStoreFault profile texts fault)

-- The fault is the first one of the texts: each text is looked at in turn, and then what they
-- write.
abbrev pub IsFirstOptionFault : DriveText → OptionsFault → Type 0
IsFirstOptionFault texts faults.Sectors = sectors_in texts ≡ None
IsFirstOptionFault texts faults.Shadow =
    (sectors_in texts ≡ None → ⊥) × (shadow_in texts ≡ None)
IsFirstOptionFault texts faults.Seed =
    (sectors_in texts ≡ None → ⊥) × (shadow_in texts ≡ None → ⊥) × (seed_in texts ≡ None)
IsFirstOptionFault texts (faults.Msid fault) = AreNumbers texts × (decode_of texts.msid ≡ Err fault)
IsFirstOptionFault texts (faults.Psid fault) =
    AreNumbers texts × IsOk (decode_of texts.msid) × (label_of texts.psid ≡ Err fault)
IsFirstOptionFault texts faults.Profile =
    AreNumbers texts × AreHex texts × (profile_named texts.profile ≡ None)
IsFirstOptionFault texts faults.NamesOfBase = IsFaultUnder texts faults.NamesOfBase
IsFirstOptionFault texts faults.DatastoreOfBase = IsFaultUnder texts faults.DatastoreOfBase
IsFirstOptionFault texts faults.SeedBelowOpal = IsFaultUnder texts faults.SeedBelowOpal
IsFirstOptionFault texts faults.Datastore = IsFaultUnder texts faults.Datastore
IsFirstOptionFault texts faults.EmptyName = IsFaultUnder texts faults.EmptyName
IsFirstOptionFault texts (faults.NoDrive profile sectors shadow size) =
    (config : Config) × WritesConfig texts config × (HasDriveSizes config → ⊥)
    × (profile ≡ config.profile) × (sectors ≡ config.sectors) × (shadow ≡ config.mbr_sectors)
    × (size ≡ length config.msid)
IsFirstOptionFault texts faults.Names =
    (config : Config) × WritesConfig texts config × HasDriveSizes config
    × (AreNames config.serial config.model → ⊥)
IsFirstOptionFault texts (faults.Label size) =
    (config : Config) × WritesConfig texts config × HasDriveSizes config
    × AreNames config.serial config.model × (IsLabel config.psid → ⊥)
    × (size ≡ length config.psid)
IsFirstOptionFault texts (faults.DatastoreSize datastore) =
    (config : Config) × WritesConfig texts config × HasDriveSizes config
    × AreNames config.serial config.model × IsLabel config.psid
    × (HasStoreSize config → ⊥) × (datastore ≡ config.datastore)
IsFirstOptionFault texts faults.OutOfMemory = AreNumbers texts

-- A drive, as a caller from outside asks for it.
use Rattle.std.specs.Prelude.{◌≡◌, ◌⊎◌, ◌≤◌, ℕ, ◌-◌, ◌^◌, Bool, true, false, not, nat_le, ◌==◌, ◌&&◌, ◌||◌, List, [], ◌∷◌, length, map, if◌then◌else◌, Option, Some, None, Ok, Err}
use Rattle.std.specs.List.{list_all, list_any}
use Rattle.basics.specs.Addresses.{address_limit}
use Rattle.basics.specs.declared.profile.Profile.{Profile}
use Rattle.basics.specs.declared.profile.Profile.TheVariants.{Base, Field, Opal}
use Rattle.locking.specs.declared.range.RangeRow.{RangeRow}
use Rattle.sp_cells.specs.Config.{Config, IsWithinLimits, HasOwnShadow, HasOwnStore, is_own_shadow, AreNames, IsLabel, is_printable, config_in, named_config, labelled_config, stored_config, seeded_config, is_own_store, new_serial, new_model, new_psid, new_datastore}
use Rattle.sp_cells.specs.Limits.{most_mbr_sectors, most_datastore_bytes, new_seed, most_pin_bytes, most_serial_bytes, most_model_bytes}
use Rattle.sp_cells.specs.declared.error.SetError.{SetError}
use Rattle.history.specs.Opening.{Origin, opened_with}
use Rattle.drive.specs.State.{DriveState, Agrees}
use Rattle.opalport_c.specs.declared.asked.RangeCells.{RangeCells}
use Rattle.opalport_c.specs.declared.asked.Size.{Size}
use Rattle.library_calls.specs.declared.byte_calls.error.CallError.{CallError}
use Rattle.library_calls.specs.declared.byte_calls.error.CallError.TheVariants.{OutOfMemory}
use Rattle.library_calls.specs.declared.byte_calls.error.CallError.TheVariants as refusals
use Rattle.opalport_c.specs.Refused.{set_refusal}

-- a number as a truth value: 0 is false
abbrev pub is_nonzero : ℕ → Bool
is_nonzero number = not (number == 0)

abbrev pub row_asked : RangeCells → RangeRow
row_asked cells = record {
  range = cells.range;
  start = cells.start;
  length = cells.length;
  read_enabled = is_nonzero cells.read_lock_enabled;
  write_enabled = is_nonzero cells.write_lock_enabled;
  read_locked = is_nonzero cells.read_locked;
  write_locked = is_nonzero cells.write_locked;
}

abbrev pub profile_asked : ℕ → Option Profile
profile_asked number = if number == 0 then Some Base
    else (if number == 1 then Some Field
    else (if number == 2 then Some Opal else None))

-- what stands for that of a drive that is given none
abbrev pub bytes_or : List ℕ → List ℕ → List ℕ
bytes_or bytes other = if length bytes == 0 then other else bytes

abbrev pub any_size : ℕ
any_size = 2 ^ 64 - 1

abbrev pub store_or : Profile → ℕ → ℕ
store_or profile datastore = if datastore == any_size then new_datastore profile else datastore

-- no name but the MSID is given
abbrev pub is_bare : List ℕ → List ℕ → List ℕ → Bool
is_bare serial model psid =
    (length serial == 0) && (length model == 0) && (length psid == 0)

-- a drive of a further profile, with what it is given
abbrev pub config_of : Profile → Size → List ℕ → List ℕ → List ℕ → List ℕ → Config
config_of profile size msid serial model psid = seeded_config
    (stored_config
    (labelled_config (named_config (config_in profile size.sectors size.shadow msid)
    (bytes_or serial new_serial) (bytes_or model new_model)) (bytes_or psid new_psid))
    (store_or profile size.datastore))
    size.seed

-- The configuration is the one that is asked for. A drive of `Base` is given no names.
abbrev pub NamesAsked : Profile → Size → List ℕ → List ℕ → List ℕ → List ℕ → Config → Type 0
NamesAsked Base size msid serial model psid config = (is_bare serial model psid ≡ true)
    × (config ≡ config_in Base size.sectors size.shadow msid)
NamesAsked Field size msid serial model psid config =
    config ≡ config_of Field size msid serial model psid
NamesAsked Opal size msid serial model psid config =
    config ≡ config_of Opal size msid serial model psid

abbrev pub ConfigAsked : Size → List ℕ → List ℕ → List ℕ → List ℕ → Config → Type 0
ConfigAsked size msid serial model psid config = (profile_asked size.profile ≡ Some config.profile)
    × NamesAsked config.profile size msid serial model psid config

-- whether a drive of this profile is given such a seed: only one of `Opal` gives random bytes
abbrev pub takes_seed : Profile → ℕ → Bool
takes_seed Base seed = seed == new_seed
takes_seed Field seed = seed == new_seed
takes_seed Opal seed = true

-- There is a drive of `Base` with these numbers: within the limits of a drive, with no names, the DataStore that it has, and
-- no seed.
pub record FitsBase (size : Size) (msid serial model psid : List ℕ) : Type 0 where
  pub limits : IsWithinLimits size.sectors size.shadow msid
  pub bare : is_bare serial model psid ≡ true
  pub datastore : size.datastore ≡ any_size
  pub seed : takes_seed Base size.seed ≡ true

-- There is one of a further profile: within the limits, with a shadow, names, a PIN on its label, a DataStore and a seed that
-- fit.
pub record FitsBeyond (profile : Profile) (size : Size) (msid serial model psid : List ℕ)
    : Type 0 where
  pub limits : IsWithinLimits size.sectors size.shadow msid
  pub shadow : HasOwnShadow profile size.shadow
  pub names : AreNames (bytes_or serial new_serial) (bytes_or model new_model)
  pub label : IsLabel (bytes_or psid new_psid)
  pub datastore : store_or profile size.datastore ≤ most_datastore_bytes
  pub store : HasOwnStore profile (store_or profile size.datastore)
  pub seed : takes_seed profile size.seed ≡ true

abbrev pub FitsProfile : Option Profile → Size → List ℕ → List ℕ → List ℕ → List ℕ → Type 0
FitsProfile None size msid serial model psid = ⊥
FitsProfile (Some Base) size msid serial model psid = FitsBase size msid serial model psid
FitsProfile (Some Field) size msid serial model psid = FitsBeyond Field size msid serial model psid
FitsProfile (Some Opal) size msid serial model psid = FitsBeyond Opal size msid serial model psid

-- Two rows are of one range.
abbrev pub is_row_of : ℕ → RangeCells → Bool
is_row_of range cells = cells.range == range

abbrev pub names_twice : List RangeCells → Bool
names_twice [] = false
names_twice (one ∷ rest) = list_any (is_row_of one.range) rest || names_twice rest

-- There is the drive that is asked for: its settings are within their limits, and each row is of another range.
abbrev pub CanBe : Size → List ℕ → List ℕ → List ℕ → List ℕ → List RangeCells → Type 0
CanBe size msid serial model psid cells = (names_twice cells ≡ false)
    × FitsProfile (profile_asked size.profile) size msid serial model psid

-- whether a drive has so many sectors, and one of this profile so many of these that can be shadowed; whether it has such
-- an MSID
abbrev pub has_sectors : ℕ → Bool
has_sectors sectors = nat_le 1 sectors && nat_le sectors address_limit

abbrev pub has_shadow : Profile → ℕ → ℕ → Bool
has_shadow profile sectors shadow =
    nat_le shadow most_mbr_sectors && nat_le shadow sectors && is_own_shadow profile shadow

abbrev pub has_msid : List ℕ → Bool
has_msid msid = nat_le 1 (length msid) && nat_le (length msid) most_pin_bytes

-- whether a drive of this profile is given such a name, and such a PIN on its label; empty ones are none
abbrev pub takes_name : Profile → ℕ → List ℕ → Bool
takes_name Base most name = length name == 0
takes_name Field most name = nat_le (length name) most && list_all is_printable name
takes_name Opal most name = nat_le (length name) most && list_all is_printable name

abbrev pub takes_label : Profile → List ℕ → Bool
takes_label Base psid = length psid == 0
takes_label Field psid = nat_le (length psid) most_pin_bytes
takes_label Opal psid = nat_le (length psid) most_pin_bytes

-- whether it is told such a size of DataStore
abbrev pub fits_store : Profile → ℕ → Bool
fits_store profile datastore =
    nat_le datastore most_datastore_bytes && is_own_store profile datastore

abbrev pub takes_store : Profile → ℕ → Bool
takes_store Base datastore = datastore == any_size
takes_store Field datastore = fits_store Field (store_or Field datastore)
takes_store Opal datastore = fits_store Opal (store_or Opal datastore)

-- Which setting is outside its limits, the first in this order: the rows, the profile, the sectors, the shadow, the MSID,
-- the names, the label, DataStore. Where it is none of these, it is the seed.
abbrev pub wrong_name : Profile → ℕ → List ℕ → List ℕ → List ℕ → CallError
wrong_name profile datastore serial model psid = if takes_name profile most_serial_bytes serial
    then (if takes_name profile most_model_bytes model
    then (if takes_label profile psid
    then (if takes_store profile datastore then refusals.Seed else refusals.Datastore)
    else refusals.Psid) else refusals.Model) else refusals.Serial

abbrev pub wrong_number : Profile → Size → List ℕ → List ℕ → List ℕ → List ℕ → CallError
wrong_number profile size msid serial model psid = if has_sectors size.sectors
    then (if has_shadow profile size.sectors size.shadow
    then (if has_msid msid then wrong_name profile size.datastore serial model psid
    else refusals.Msid)
    else refusals.Shadow) else refusals.Sectors

abbrev pub wrong_under : Option Profile → Size → List ℕ → List ℕ → List ℕ → List ℕ → CallError
wrong_under None size msid serial model psid = refusals.Profile
wrong_under (Some profile) size msid serial model psid =
    wrong_number profile size msid serial model psid

abbrev pub wrong_setting : Size → List ℕ → List ℕ → List ℕ → List ℕ → List RangeCells → CallError
wrong_setting size msid serial model psid cells = if names_twice cells then refusals.RangeTwice
    else wrong_under (profile_asked size.profile) size msid serial model psid

-- What a drive with these rows starts from: with none it is as it leaves the factory.
abbrev pub StartsAs : Config → List RangeRow → DriveState → Type 0
StartsAs config rows drive =
    (o : Origin) × (opened_with config rows ≡ Ok o) × Agrees drive o []

-- What is wrong with the rows.
abbrev pub IsOpeningFault : Config → List RangeRow → CallError → Type 0
IsOpeningFault config rows e =
    (error : SetError) × (opened_with config rows ≡ Err error) × (e ≡ set_refusal error)

-- Why the drive of this configuration is not made: its rows, or want of memory.
abbrev pub IsStartFault : Config → List RangeRow → CallError → Type 0
IsStartFault config rows e = (e ≡ OutOfMemory) ⊎ IsOpeningFault config rows e

-- Why the drive that is asked for is not made: there is none, or it is not made.
abbrev pub IsMakingFault : Size → List ℕ → List ℕ → List ℕ → List ℕ → List RangeCells → CallError
    → Type 0
IsMakingFault size msid serial model psid cells e =
    ((CanBe size msid serial model psid cells → ⊥)
    × (e ≡ wrong_setting size msid serial model psid cells))
    ⊎ (CanBe size msid serial model psid cells × ((config : Config)
    × ConfigAsked size msid serial model psid config
    × IsStartFault config (map row_asked cells) e))

-- The drive is the one that is asked for.
abbrev pub IsMadeAs : Size → List ℕ → List ℕ → List ℕ → List ℕ → List RangeCells → DriveState
    → Type 0
IsMadeAs size msid serial model psid cells drive = CanBe size msid serial model psid cells
    × ((config : Config) × ConfigAsked size msid serial model psid config
    × StartsAs config (map row_asked cells) drive)

-- The two settings of an Activate fit the factory's tables.
use Rattle.std.proofs.Common.{◌≡◌, ◌≤◌, ℕ, List, length, None, refl}
use Rattle.basics.specs.declared.profile.Profile.{Profile}
use Rattle.basics.specs.declared.profile.Profile.TheVariants.{Base, Field, Opal}
use Rattle.std.proofs.lemmas.Bool.{le-leb}
use Rattle.sp_cells.specs.Config.{Config}
use Rattle.sp_cells.specs.Names.{locking_sp, admin_pin_uid}
use Rattle.sp_cells.specs.declared.names.Sp.TheVariants.{Admin, Locking}
use Rattle.sp_tables.specs.Factory.{admin_sps, admin_authorities, label_authorities, opal_authorities, opal_pins, opal_admin_aces, admin_constants, locking_authorities, admin_pins, label_pins, locking_pins, admin_aces, label_aces, removal_aces, data_removals}
use Rattle.sp_tables.specs.Contents.{factory_contents}
use Rattle.sp_tables.specs.Faults.{set_fault}
use Rattle.history.specs.Opening.{life_cycle, pin, manufactured_contents, ActivationLaw}

pub life_cycle_fits : (config : Config) → set_fault (factory_contents config) Admin locking_sp life_cycle ≡ None
unfolding admin_sps
life_cycle_fits config = refl

-- a configuration by its parts
abbrev of_parts : Profile → (sectors mbr_sectors : ℕ) → (msid serial model psid : List ℕ) → (datastore seed : ℕ) → Config
of_parts profile sectors mbr_sectors msid serial model psid datastore seed = record { sectors = sectors; mbr_sectors = mbr_sectors; msid = msid; profile = profile; serial = serial; model = model; psid = psid; datastore = datastore; seed = seed }

fits : (profile : Profile) (sectors mbr_sectors : ℕ) (msid serial model psid : List ℕ) (datastore seed : ℕ) → length msid ≤ 32
    → set_fault (manufactured_contents (of_parts profile sectors mbr_sectors msid serial model psid datastore seed)) Locking (admin_pin_uid 1) (pin msid) ≡ None
unfolding admin_sps admin_authorities label_authorities opal_authorities opal_pins opal_admin_aces admin_constants locking_authorities admin_pins label_pins locking_pins admin_aces label_aces removal_aces data_removals
fits Base sectors mbr_sectors msid serial model psid datastore seed short = rw (le-leb (length msid) 32 short) refl
fits Field sectors mbr_sectors msid serial model psid datastore seed short = rw (le-leb (length msid) 32 short) refl
fits Opal sectors mbr_sectors msid serial model psid datastore seed short = rw (le-leb (length msid) 32 short) refl

pub pin_fits : (config : Config) → length config.msid ≤ 32 → set_fault (manufactured_contents config) Locking (admin_pin_uid 1) (pin config.msid) ≡ None
pin_fits config short = fits config.profile config.sectors config.mbr_sectors config.msid config.serial config.model config.psid config.datastore config.seed short

pub activation_law : ActivationLaw
activation_law config limits = (life_cycle_fits config, pin_fits config limits.msid_short)

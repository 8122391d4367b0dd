use Rattle.std.proofs.Common.{refl}
use Rattle.sp_tables.specs.Factory.{admin_sps, admin_authorities, label_authorities, opal_authorities, admin_pins, label_pins, opal_pins, admin_aces, label_aces, removal_aces, opal_admin_aces, data_removals, admin_constants}
use Rattle.sp_tables.specs.Factory.{locking_authorities, locking_pins, locking_ranges, locking_mbr_controls, authority_aces, pin_aces, range_get_aces, range_aces, mbr_aces, gen_key_aces, datastore_aces, opal_locking_aces, range_keys, locking_infos, byte_tables, locking_constants}
use Rattle.sp_tables.specs.RowNames.{listed_tables}
use Rattle.sp_tables.proofs.row_names.laws_of_row_names.Goals as goal

pub returns-clause-admin_tables : goal.returns-clause-admin_tables
unfolding listed_tables admin_sps admin_authorities label_authorities opal_authorities admin_pins label_pins opal_pins admin_aces label_aces removal_aces opal_admin_aces data_removals admin_constants
returns-clause-admin_tables c = λ msid psid. record { there = refl; only = refl; rising = refl }

pub returns-clause-admin_sp_templates : goal.returns-clause-admin_sp_templates
unfolding listed_tables admin_sps admin_authorities label_authorities opal_authorities admin_pins label_pins opal_pins admin_aces label_aces removal_aces opal_admin_aces data_removals admin_constants
returns-clause-admin_sp_templates c = λ msid psid. record { there = refl; only = refl; rising = refl }

pub returns-clause-admin_methods : goal.returns-clause-admin_methods
unfolding listed_tables admin_sps admin_authorities label_authorities opal_authorities admin_pins label_pins opal_pins admin_aces label_aces removal_aces opal_admin_aces data_removals admin_constants
returns-clause-admin_methods c = λ msid psid. record { there = refl; only = refl; rising = refl }

pub returns-clause-admin_aces : goal.returns-clause-admin_aces
unfolding listed_tables admin_sps admin_authorities label_authorities opal_authorities admin_pins label_pins opal_pins admin_aces label_aces removal_aces opal_admin_aces data_removals admin_constants
returns-clause-admin_aces c = λ msid psid. record { there = refl; only = refl; rising = refl }

pub returns-clause-admin_authorities : goal.returns-clause-admin_authorities
unfolding listed_tables admin_sps admin_authorities label_authorities opal_authorities admin_pins label_pins opal_pins admin_aces label_aces removal_aces opal_admin_aces data_removals admin_constants
returns-clause-admin_authorities c = λ msid psid. record { there = refl; only = refl; rising = refl }

pub returns-clause-admin_pins : goal.returns-clause-admin_pins
unfolding listed_tables admin_sps admin_authorities label_authorities opal_authorities admin_pins label_pins opal_pins admin_aces label_aces removal_aces opal_admin_aces data_removals admin_constants
returns-clause-admin_pins c = λ msid psid. record { there = refl; only = refl; rising = refl }

pub returns-clause-admin_templates : goal.returns-clause-admin_templates
unfolding listed_tables admin_sps admin_authorities label_authorities opal_authorities admin_pins label_pins opal_pins admin_aces label_aces removal_aces opal_admin_aces data_removals admin_constants
returns-clause-admin_templates c = λ msid psid. record { there = refl; only = refl; rising = refl }

pub returns-clause-admin_sps : goal.returns-clause-admin_sps
unfolding listed_tables admin_sps admin_authorities label_authorities opal_authorities admin_pins label_pins opal_pins admin_aces label_aces removal_aces opal_admin_aces data_removals admin_constants
returns-clause-admin_sps c = λ msid psid. record { there = refl; only = refl; rising = refl }

pub returns-clause-locking_tables : goal.returns-clause-locking_tables
unfolding listed_tables locking_authorities locking_pins locking_ranges locking_mbr_controls authority_aces pin_aces range_get_aces range_aces mbr_aces gen_key_aces datastore_aces opal_locking_aces range_keys locking_infos byte_tables locking_constants
returns-clause-locking_tables c = λ sizes. record { there = refl; only = refl; rising = refl }

pub returns-clause-locking_sp_templates : goal.returns-clause-locking_sp_templates
unfolding listed_tables locking_authorities locking_pins locking_ranges locking_mbr_controls authority_aces pin_aces range_get_aces range_aces mbr_aces gen_key_aces datastore_aces opal_locking_aces range_keys locking_infos byte_tables locking_constants
returns-clause-locking_sp_templates c = λ sizes. record { there = refl; only = refl; rising = refl }

pub returns-clause-locking_methods : goal.returns-clause-locking_methods
unfolding listed_tables locking_authorities locking_pins locking_ranges locking_mbr_controls authority_aces pin_aces range_get_aces range_aces mbr_aces gen_key_aces datastore_aces opal_locking_aces range_keys locking_infos byte_tables locking_constants
returns-clause-locking_methods c = λ sizes. record { there = refl; only = refl; rising = refl }

pub returns-clause-locking_aces : goal.returns-clause-locking_aces
unfolding listed_tables locking_authorities locking_pins locking_ranges locking_mbr_controls authority_aces pin_aces range_get_aces range_aces mbr_aces gen_key_aces datastore_aces opal_locking_aces range_keys locking_infos byte_tables locking_constants
returns-clause-locking_aces c = λ sizes. record { there = refl; only = refl; rising = refl }

pub returns-clause-locking_authorities : goal.returns-clause-locking_authorities
unfolding listed_tables locking_authorities locking_pins locking_ranges locking_mbr_controls authority_aces pin_aces range_get_aces range_aces mbr_aces gen_key_aces datastore_aces opal_locking_aces range_keys locking_infos byte_tables locking_constants
returns-clause-locking_authorities c = λ sizes. record { there = refl; only = refl; rising = refl }

pub returns-clause-locking_pins : goal.returns-clause-locking_pins
unfolding listed_tables locking_authorities locking_pins locking_ranges locking_mbr_controls authority_aces pin_aces range_get_aces range_aces mbr_aces gen_key_aces datastore_aces opal_locking_aces range_keys locking_infos byte_tables locking_constants
returns-clause-locking_pins c = λ sizes. record { there = refl; only = refl; rising = refl }

pub returns-clause-locking_secrets : goal.returns-clause-locking_secrets
unfolding listed_tables locking_authorities locking_pins locking_ranges locking_mbr_controls authority_aces pin_aces range_get_aces range_aces mbr_aces gen_key_aces datastore_aces opal_locking_aces range_keys locking_infos byte_tables locking_constants
returns-clause-locking_secrets c = λ sizes. record { there = refl; only = refl; rising = refl }

pub returns-clause-locking_ranges : goal.returns-clause-locking_ranges
unfolding listed_tables locking_authorities locking_pins locking_ranges locking_mbr_controls authority_aces pin_aces range_get_aces range_aces mbr_aces gen_key_aces datastore_aces opal_locking_aces range_keys locking_infos byte_tables locking_constants
returns-clause-locking_ranges c = λ sizes. record { there = refl; only = refl; rising = refl }

pub returns-clause-locking_keys : goal.returns-clause-locking_keys
unfolding listed_tables locking_authorities locking_pins locking_ranges locking_mbr_controls authority_aces pin_aces range_get_aces range_aces mbr_aces gen_key_aces datastore_aces opal_locking_aces range_keys locking_infos byte_tables locking_constants
returns-clause-locking_keys c = λ sizes. record { there = refl; only = refl; rising = refl }

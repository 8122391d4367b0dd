use Rattle.std.proofs.Common.{refl}
use Rattle.sp_tables.specs.Factory.{admin_sps, admin_authorities, label_authorities, admin_pins, label_pins, admin_aces, label_aces, removal_aces, data_removals}
use Rattle.sp_tables.specs.Factory.{locking_authorities, locking_pins, locking_ranges, locking_mbr_controls, authority_aces, pin_aces, range_get_aces, range_aces, mbr_aces, gen_key_aces, datastore_aces, range_keys, locking_infos, byte_tables}
use Rattle.sp_tables.proofs.sp_rows.factory.laws_of_factory.Goals as goal

pub returns-clause-base : goal.returns-clause-base
unfolding admin_sps admin_authorities label_authorities admin_pins label_pins admin_aces label_aces removal_aces data_removals
returns-clause-base c = λ msid psid. refl

pub returns-clause-base_locking : goal.returns-clause-base_locking
unfolding locking_authorities locking_pins locking_ranges locking_mbr_controls authority_aces pin_aces range_get_aces range_aces mbr_aces gen_key_aces datastore_aces range_keys locking_infos byte_tables
returns-clause-base_locking c = λ sizes. refl

pub returns-clause-field : goal.returns-clause-field
unfolding admin_sps admin_authorities label_authorities admin_pins label_pins admin_aces label_aces removal_aces data_removals
returns-clause-field c = λ msid psid. refl

pub returns-clause-field_locking : goal.returns-clause-field_locking
unfolding locking_authorities locking_pins locking_ranges locking_mbr_controls authority_aces pin_aces range_get_aces range_aces mbr_aces gen_key_aces datastore_aces range_keys locking_infos byte_tables
returns-clause-field_locking c = λ sizes. refl

pub returns-clause-same_aces : goal.returns-clause-same_aces
unfolding admin_sps admin_authorities label_authorities admin_pins label_pins admin_aces label_aces removal_aces data_removals
returns-clause-same_aces c = refl

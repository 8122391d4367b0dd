use Rattle.std.proofs.Common.{rules, refl, option_map}
use Rattle.sp_cells.specs.Config.{new_serial, new_model}
use Rattle.tool.specs.OptionTexts.{text_or}
use Rattle.tool.proofs.options.Options.parse.Goals as goal

pub returns-in_default-clause-fault : goal.returns-in_default-clause-fault
returns-in_default-clause-fault c = (
  record {
    sectors = c.in_ok-sectors.sectors;
    mbr_sectors = c.in_ok-shadow.shadow;
    msid = c.in-Ok.msid.items;
    profile = c.in_ok-profile.profile;
    serial = text_or new_serial (option_map (λ s. s.now) c.args.texts.now.serial);
    model = text_or new_model (option_map (λ s. s.now) c.args.texts.now.model);
    psid = c.in-Ok-label_in.psid.items;
    datastore = c.in_ok-datastore.datastore;
    seed = c.in_ok-seed.seed;
  },
  record {
    sectors_written = search rules;
    shadow_written = search rules;
    seed_written = search rules;
    msid_written = search rules;
    profile_written = search rules;
    serial_written = refl;
    model_written = refl;
    psid_written = search rules;
    store_written = search rules;
  },
  search rules,
  refl,
  refl,
  refl,
  search rules,
)

pub returns-in_default-with_names-clause-fault : goal.returns-in_default-with_names-clause-fault
returns-in_default-with_names-clause-fault c = (
  record {
    sectors = c.in_ok-sectors.sectors;
    mbr_sectors = c.in_ok-shadow.shadow;
    msid = c.in-Ok.msid.items;
    profile = c.in_ok-profile.profile;
    serial = text_or new_serial (option_map (λ s. s.now) c.args.texts.now.serial);
    model = text_or new_model (option_map (λ s. s.now) c.args.texts.now.model);
    psid = c.in-Ok-label_in.psid.items;
    datastore = c.in_ok-datastore.datastore;
    seed = c.in_ok-seed.seed;
  },
  record {
    sectors_written = search rules;
    shadow_written = search rules;
    seed_written = search rules;
    msid_written = search rules;
    profile_written = search rules;
    serial_written = refl;
    model_written = refl;
    psid_written = search rules;
    store_written = search rules;
  },
  search rules,
  search rules,
)

pub returns-in_default-with_psid-clause-fault : goal.returns-in_default-with_psid-clause-fault
returns-in_default-with_psid-clause-fault c = (
  record {
    sectors = c.in_ok-sectors.sectors;
    mbr_sectors = c.in_ok-shadow.shadow;
    msid = c.in-Ok.msid.items;
    profile = c.in_ok-profile.profile;
    serial = text_or new_serial (option_map (λ s. s.now) c.args.texts.now.serial);
    model = text_or new_model (option_map (λ s. s.now) c.args.texts.now.model);
    psid = c.in-Ok-label_in.psid.items;
    datastore = c.in_ok-datastore.datastore;
    seed = c.in_ok-seed.seed;
  },
  record {
    sectors_written = search rules;
    shadow_written = search rules;
    seed_written = search rules;
    msid_written = search rules;
    profile_written = search rules;
    serial_written = refl;
    model_written = refl;
    psid_written = search rules;
    store_written = search rules;
  },
  search rules,
  search rules,
  search rules,
  search rules,
)

pub returns-clause-fault : goal.returns-clause-fault
returns-clause-fault c = (
  record {
    sectors = c.in_ok-sectors.sectors;
    mbr_sectors = c.in_ok-shadow.shadow;
    msid = c.in-Ok.msid.items;
    profile = c.in_ok-profile.profile;
    serial = text_or new_serial (option_map (λ s. s.now) c.args.texts.now.serial);
    model = text_or new_model (option_map (λ s. s.now) c.args.texts.now.model);
    psid = c.in-Ok-label_in.psid.items;
    datastore = c.in_ok-datastore.datastore;
    seed = c.in_ok-seed.seed;
  },
  record {
    sectors_written = search rules;
    shadow_written = search rules;
    seed_written = search rules;
    msid_written = search rules;
    profile_written = search rules;
    serial_written = refl;
    model_written = refl;
    psid_written = search rules;
    store_written = search rules;
  },
  search rules,
  search rules,
  search rules,
  search rules,
  search rules,
)

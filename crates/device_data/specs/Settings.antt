-- What a host has chosen of a drive's interface (ACS-3, SET FEATURES, and the Power Management feature set).
use Rattle.std.specs.Prelude.{ℕ, ◌==◌, Bool, true, false, ◌||◌, if◌then◌else◌}
use Rattle.sp_cells.specs.Resets.{power_cycle, hardware}
use Rattle.trusted_cmds.specs.declared.feature.Feature.{Feature}
use Rattle.trusted_cmds.specs.declared.feature.Feature.TheVariants.{WriteCache, ReadLookAhead, TransferMode}
use Rattle.device_data.specs.declared.settings.Settings.{Settings}

-- A drive begins with Ultra DMA mode 6 (this drive).
abbrev pub first_mode : ℕ
first_mode = 0x46

-- It begins with the write cache and read look-ahead enabled (this drive), and active.
abbrev pub first_settings : Settings
first_settings = record {
  write_cache = true;
  read_look_ahead = true;
  transfer_mode = first_mode;
  in_standby = false;
}

-- What is chosen stands from then on, and all else stays.
abbrev pub with_feature : Feature → Settings → Settings
with_feature (WriteCache enabled) settings = record settings { write_cache = enabled }
with_feature (ReadLookAhead enabled) settings = record settings { read_look_ahead = enabled }
with_feature (TransferMode mode) settings = record settings { transfer_mode = mode }

-- In standby, or out of it: where sectors are read or written, the drive becomes active (ACS-3, Power Management feature set,
-- transition PM2 to PM0).
abbrev pub with_standby : Bool → Settings → Settings
with_standby in_standby settings = record settings { in_standby = in_standby }

abbrev pub active : Settings → Settings
active settings = with_standby false settings

-- A power cycle and a hardware reset bring back what it began with: the drive does not preserve settings (ACS-3, software
-- settings preservation, IDENTIFY DEVICE word 78 bit 6), and is active. A reset that a command makes leaves them.
abbrev pub settings_at_reset : ℕ → Settings → Settings
settings_at_reset kind settings =
    if kind == power_cycle || kind == hardware then first_settings else settings

-- What a drive keeps of its power mode (ACS-3, Power Management feature set).
use Rattle.device_data.specs.declared.settings.Settings.{Settings}
use Rattle.device_data.specs.Settings.{with_standby}
use Rattle.std.specs.Prelude.{true, false}
use Rattle.trusted_cmds.specs.declared.control.Control.{Control}
use Rattle.trusted_cmds.specs.declared.control.Control.TheVariants.{Idle, Standby}

-- What a command makes of what a host has chosen.
abbrev pub power_after : Control → Settings → Settings
power_after Standby settings = with_standby true settings
power_after Idle settings = with_standby false settings
power_after _ settings = settings

-- The command that blocks SID, which a drive of the field or the opal profile takes (Block SID Authentication feature set 1.00).
use Rattle.std.specs.Prelude.{ℕ, ◌%◌, ◌==◌, Bool, true, false, ◌&&◌, nat_lt, List, slice_index, if◌then◌else◌}
use Rattle.basics.specs.declared.profile.Profile.{Profile}
use Rattle.basics.specs.Profiles.{has_field}
use Rattle.trusted_cmds.specs.declared.command.Command.{Command}
use Rattle.trusted_cmds.specs.declared.command.Command.TheVariants.{Send}
use Rattle.trusted_cmds.specs.declared.block.SidBlock.{SidBlock}
use Rattle.trusted_cmds.specs.declared.block.SidBlock.TheVariants.{Free, UntilPowerCycle, UntilHardwareReset}
use Rattle.trusted_cmds.specs.Commands.{reset_protocol}

-- A send of one block at least, of security protocol 02h to the ComID 0005h.
abbrev pub block_com_id : ℕ
block_com_id = 5

abbrev pub is_block_sid : Profile → Command → Bool
is_block_sid profile (Send protocol sp_specific count dma) =
    protocol == reset_protocol && sp_specific == block_com_id && nat_lt 0 count
    && has_field profile
is_block_sid profile _ = false

-- Bit 0 of the payload's first byte is HardwareReset; nothing else of it is looked at.
abbrev pub block_asked : List ℕ → SidBlock
block_asked payload =
    if slice_index payload 0 % 2 == 1 then UntilHardwareReset else UntilPowerCycle

abbrev pub is_blocked : SidBlock → Bool
is_blocked Free = false
is_blocked _ = true

-- A hardware reset frees SID too.
abbrev pub ends_at_hardware_reset : SidBlock → Bool
ends_at_hardware_reset UntilHardwareReset = true
ends_at_hardware_reset _ = false

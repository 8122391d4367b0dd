-- Which reset ends a block of SID (Block SID Authentication feature set 1.00).
use Rattle.std.specs.Prelude.{ℕ, ◌==◌, ◌&&◌, ◌||◌, if◌then◌else◌}
use Rattle.sp_cells.specs.Resets.{power_cycle, hardware}
use Rattle.trusted_cmds.specs.declared.block.SidBlock.{SidBlock}
use Rattle.trusted_cmds.specs.declared.block.SidBlock.TheVariants.{Free}
use Rattle.trusted_cmds.specs.BlockSid.{ends_at_hardware_reset}

-- a power cycle, and a hardware reset where the command asked for that
abbrev pub block_at_reset : ℕ → SidBlock → SidBlock
block_at_reset kind block =
    if kind == power_cycle || (kind == hardware && ends_at_hardware_reset block)
    then Free else block

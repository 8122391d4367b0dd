-- Level 0 discovery of a drive as it leaves the factory, as text.
use Rattle.std.specs.Prelude.{ℕ, List, [], ◌∷◌, ◌++◌}
use Rattle.hex.specs.Hex.{encode_lower}
use Rattle.sp_cells.specs.Config.{Config}
use Rattle.sp_tables.specs.Contents.{cells_look_up, factory_contents}
use Rattle.trusted_cmds.specs.declared.block.SidBlock.TheVariants.{Free}
use Rattle.device_data.specs.Discovery.{discovery_of}

-- its bytes in hex
abbrev pub discovery_text : Config → List ℕ
discovery_text config =
    encode_lower (discovery_of config.profile (cells_look_up (factory_contents config)) Free)

-- as a line
abbrev pub level0_text : Config → List ℕ
level0_text config = discovery_text config ++ 10 ∷ []

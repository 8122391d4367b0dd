-- How much data comes with a FIS that carries a command.
use Rattle.sp_cells.specs.Config.{Config}
use Rattle.std.proofs.Common.{◌≡◌, ℕ, List, refl}
use Rattle.std.specs.Prelude.{slice_index}
use Rattle.fis.specs.Types.{h2d_type}
use Rattle.fis.specs.H2d.{h2d_at}
use Rattle.trusted_cmds.specs.Profiles.{payload_length_in}
use Rattle.history.specs.Answers.{payload_of}

pub payload-of-command : (config : Config) (fis : List ℕ) → slice_index fis 0 ≡ h2d_type
    → payload_of config fis ≡ payload_length_in config.profile (h2d_at fis)
payload-of-command config fis is = rw is refl

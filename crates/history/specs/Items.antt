-- What the order of the rules leaves open: which command a FIS carries, what a send on a ComID comes
-- to, and the data that are no sectors. The TCG's are those of this drive; another command set has
-- others.
use Rattle.std.specs.Prelude.{ℕ, List, Option, Result}
use Rattle.fis.specs.declared.h2d.RegH2d.{RegH2d}
use Rattle.sp_cells.specs.Config.{Config}
use Rattle.trusted_cmds.specs.declared.command.Command.{Command}
use Rattle.trusted_cmds.specs.declared.command.CommandError.{CommandError}
use Rattle.history.specs.Events.{Event}
use Rattle.history.specs.Facts.{Facts}

pub record Items : Type 0 where
  -- the command that a FIS carries, and its tag, by what the drive is made with
  pub reads : Config → RegH2d → Result (Command × Option ℕ) CommandError
  -- a send that resets nothing: its security protocol, ComID, blocks and payload
  pub sends : Facts → ℕ → ℕ → ℕ → List ℕ → Event
  -- the data of a receive, of IDENTIFY DEVICE and of a page of the device's logs
  pub gives : Facts → Command → List ℕ

-- Which act has a command that is looked at, whatever its items read.
use Rattle.std.specs.Prelude.{◌≡◌, ℕ, ◌&&◌, true, false, not, slice_index, List, Option, None, Some, Ok}
use Rattle.fis.specs.Types.{h2d_type}
use Rattle.fis.specs.H2d.{h2d_at}
use Rattle.trusted_cmds.specs.Commands.{is_queued}
use Rattle.trusted_cmds.specs.declared.command.Command.{Command}
use Rattle.history.specs.Decisions.{is_busy}
use Rattle.history.specs.Facts.{Facts}
use Rattle.history.specs.Items.{Items}
use Rattle.history.specs.History.{Act, Accept}

-- An accepted FIS whose command is looked at: it is one, the queue has not failed, and a command
-- that is not queued stands beside no held one.
pub record IsLookedAtBy (items : Items) (f : Facts) (act : Act) (command : Command)
    (tag : Option ℕ) : Type 0 where
  pub fis : List ℕ
  pub payload : List ℕ
  pub accepts : act ≡ Accept fis payload
  pub kind : slice_index fis 0 ≡ h2d_type
  pub commands : (h2d_at fis).is_command ≡ true
  pub mended : f.failure ≡ None
  pub unmixed : (is_busy f && not (is_queued (h2d_at fis).command)) ≡ false
  pub reads : items.reads f.config (h2d_at fis) ≡ Ok (command, tag)

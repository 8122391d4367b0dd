-- What is asked of items, so that the laws of transfers hold whatever else they do.
use Rattle.std.specs.Prelude.{◌≡◌, ◌<◌, ℕ, Bool, true, false, List, Some, Ok}
use Rattle.fis.specs.declared.h2d.RegH2d.{RegH2d}
use Rattle.fis.specs.Tags.{slot_count}
use Rattle.sp_cells.specs.Config.{Config}
use Rattle.trusted_cmds.specs.declared.command.Command.{Command}
use Rattle.history.specs.Events.{Deed, Nothing, InSession, WasReset, BlockedSid, Chose, PowerSet}
use Rattle.history.specs.Facts.{Facts}
use Rattle.history.specs.Items.{Items}

-- Nothing, a deed in a session or of the session manager, a block of SID, or a reset: it moves no data of
-- its own and leaves the queue, but for what is erased and what a reset stops.
abbrev pub is_quiet : Deed → Bool
is_quiet Nothing = true
is_quiet (InSession deed response) = true
is_quiet (WasReset kind) = true
is_quiet (BlockedSid block) = true
is_quiet (Chose feature) = true
is_quiet (PowerSet in_standby) = true
is_quiet _ = false

-- So is each send.
abbrev pub IsQuiet : Items → Type 0
IsQuiet items =
    (f : Facts) (protocol com_id blocks : ℕ) (payload : List ℕ)
    → is_quiet (items.sends f protocol com_id blocks payload).deed ≡ true

-- The tag of a command is that of a slot.
abbrev pub ReadsTags : Items → Type 0
ReadsTags items =
    (config : Config) (h : RegH2d) (command : Command) (tag : ℕ)
    → items.reads config h ≡ Ok (command, Some tag) → tag < slot_count

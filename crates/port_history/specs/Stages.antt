-- How far the command of a slot has come, and what each kind of step makes of it.
use Rattle.std.specs.Prelude.{ℕ, Bool, true, false, not, ◌==◌, ◌&&◌, ◌||◌, nat_lt, Option, Some, None, if◌then◌else◌}
use Rattle.fis.specs.Tags.{slot_count}
use Rattle.trusted_cmds.specs.declared.command.Command.{Command}
use Rattle.trusted_cmds.specs.declared.command.Command.TheVariants.{ReadQueued, WriteQueued}
use Rattle.history.specs.Decisions.{any_below}
use Rattle.port_history.specs.declared.stages.Put.{Put}
use Rattle.port_history.specs.declared.stages.Stage.{Stage}
use Rattle.port_history.specs.declared.stages.Stage.TheVariants.{Free, Prepared, Issued, Accepted, Answered}

-- The commands of the queue.
abbrev pub is_queued_command : Command → Bool
is_queued_command (ReadQueued lba count) = true
is_queued_command (WriteQueued lba count) = true
is_queued_command _ = false

abbrev pub is_queued_put : Option Put → Bool
is_queued_put None = false
is_queued_put (Some put) = is_queued_command put.command

-- The same Put at another stage.
abbrev pub to : (Put → Stage) → Stage → Stage
to stage Free = Free
to stage (Prepared put) = stage put
to stage (Issued put) = stage put
to stage (Accepted put) = stage put
to stage (Answered put) = stage put

abbrev pub put_at : Stage → Option Put
put_at Free = None
put_at (Prepared put) = Some put
put_at (Issued put) = Some put
put_at (Accepted put) = Some put
put_at (Answered put) = Some put

abbrev pub is_free : Stage → Bool
is_free Free = true
is_free _ = false

abbrev pub is_prepared : Stage → Bool
is_prepared (Prepared put) = true
is_prepared _ = false

abbrev pub is_issued : Stage → Bool
is_issued (Issued put) = true
is_issued _ = false

abbrev pub is_accepted : Stage → Bool
is_accepted (Accepted put) = true
is_accepted _ = false

abbrev pub is_answered : Stage → Bool
is_answered (Answered put) = true
is_answered _ = false

-- It is with the device; and it is a command of the queue.
abbrev pub is_out : Stage → Bool
is_out stage = is_issued stage || is_accepted stage

abbrev pub is_active : Stage → Bool
is_active stage = is_out stage && is_queued_put (put_at stage)

-- A reset stops it.
abbrev pub is_pending : Stage → Bool
is_pending stage = is_prepared stage || is_out stage

-- The device has accepted a command: a queued one is held until its completion, any other is done.
abbrev pub accepted_stage : Put → Stage
accepted_stage put = if is_queued_command put.command then Accepted put else Answered put

-- A recovery answers the command that failed, and gives the others that are out back to the port,
-- with their numbers.
abbrev pub recovered : Bool → Stage → Stage
recovered has_failed (Issued put) = if has_failed then Answered put else Prepared put
recovered has_failed (Accepted put) = if has_failed then Answered put else Prepared put
recovered has_failed stage = stage

-- A reset answers all that wait.
abbrev pub stage_after_reset : Stage → Stage
stage_after_reset stage = to Answered stage

-- A command that is not queued keeps a queued one back while it is issued, and while it is prepared
-- and was put before.
abbrev pub keeps_back : ℕ → Stage → Bool
keeps_back number (Prepared put) = not (is_queued_command put.command) && nat_lt put.number number
keeps_back number (Issued put) = not (is_queued_command put.command)
keeps_back number _ = false

-- The command of a slot must not be issued beside those of the others: one that is not queued goes
-- alone.
abbrev pub mixes_put : (ℕ → Stage) → Option Put → Bool
mixes_put stages None = false
mixes_put stages (Some put) =
    if is_queued_command put.command then any_below (λ tag. keeps_back put.number
    (stages tag)) slot_count
    else any_below (λ tag. is_out (stages tag)) slot_count

abbrev pub mixes : (ℕ → Stage) → Stage → Bool
mixes stages stage = mixes_put stages (put_at stage)

abbrev pub is_put_by : ℕ → Option Put → Bool
is_put_by client None = false
is_put_by client (Some put) = put.client == client

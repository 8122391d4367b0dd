-- What an act turned out to do, and the words by which a list of events is read. The newest event
-- comes first. A deed names its SP, and records what it did: the session as it began, the PIN that
-- an Activate copied, which sectors were erased, the bytes of a response.
use Rattle.std.specs.Prelude.{ℕ, ◌+◌, Bool, List, [], ◌∷◌, ◌++◌, Option, Some, None, option_to_list, if◌then◌else◌}
use Rattle.audit.specs.declared.reason.Why.{Why}
use Rattle.audit.specs.declared.rules.rule.Rule.{Rule}
use Rattle.trusted_cmds.specs.declared.command.Command.{Command}
use Rattle.trusted_cmds.specs.declared.block.SidBlock.{SidBlock}
use Rattle.trusted_cmds.specs.declared.feature.Feature.{Feature}
use Rattle.trusted_cmds.specs.declared.trim.Extent.{Extent}
use Rattle.locking.specs.declared.ranges.Verdict.{Verdict}
use Rattle.device_data.specs.declared.log_page.Failure.{Failure}
use Rattle.sessions.specs.Deeds.{SessionDeed}

-- The response that an item left on its ComID, the bytes of a frame; or that it left none; or that what waited there was
-- dropped.
pub data Response : Type 0 where
  Left : (com_id : ℕ) (bytes : List ℕ) → Response
  Silent : Response
  Dropped : (com_id : ℕ) → Response

-- A command that is held, with the verdict of its acceptance.
pub record HeldCommand : Type 0 where
  pub command : Command
  pub verdict : Verdict

-- What became of the queue.
pub data QueueDeed : Type 0 where
  Held : (tag : ℕ) (held : HeldCommand) → QueueDeed
  Completed : (tag : ℕ) → QueueDeed
  CompletedWrite : (tag lba : ℕ) (bytes : List ℕ) → QueueDeed
  QueueFailed : (failure : Failure) → QueueDeed
  QueueMended : QueueDeed
  -- what was held is gone, and no failure is left
  QueueEnded : QueueDeed

-- What an act did, by the part of the drive that it did it to.
pub data Deed : Type 0 where
  Nothing : Deed
  -- an item that was taken, or what is none and ended a session, and its response; or what was asked of the stack of a ComID
  InSession : (deed : SessionDeed) (response : Response) → Deed
  OfQueue : (deed : QueueDeed) → Deed
  -- an unqueued write
  Wrote : (lba : ℕ) (bytes : List ℕ) → Deed
  -- sectors were trimmed
  Trimmed : (extents : List Extent) → Deed
  -- a receive that took the waiting response
  Took : (com_id : ℕ) → Deed
  WasReset : (kind : ℕ) → Deed
  -- attempts on SID were blocked
  BlockedSid : (block : SidBlock) → Deed
  -- a host chose a feature
  Chose : (feature : Feature) → Deed
  -- the drive went to standby, or it became active, also because sectors were read
  PowerSet : (in_standby : Bool) → Deed

pub record Event : Type 0 where
  -- the error of a command that failed
  pub failed : Option ℕ
  pub deed : Deed
  -- what denied it, and which rule refused it, where nothing denied it
  pub denied : Option Why
  pub rule : Option Rule

abbrev pub did : Deed → Event
did deed = record { failed = None; deed = deed; denied = None; rule = None }

-- What is taken, and has no effect and no answer, by a rule.
abbrev pub ignores : Rule → Event
ignores rule = record { failed = None; deed = Nothing; denied = None; rule = Some rule }

-- The words.

-- The first, or else the second.
abbrev pub or_else : {A : Type 0} → Option A → Option A → Option A
or_else (Some x) y = Some x
or_else None y = y

-- What f reads off the latest event off which it reads something.
abbrev pub latest : {A : Type 0} → (Deed → Option A) → List Event → Option A
latest f [] = None
latest f (event ∷ before) = or_else (f event.deed) (latest f before)

-- What came after the latest event that passes.
abbrev pub since : (Deed → Bool) → List Event → List Event
since p [] = []
since p (event ∷ before) = if p event.deed then [] else event ∷ since p before

-- All that f reads, the newest first.
abbrev pub every : {A : Type 0} → (Deed → Option A) → List Event → List A
every f [] = []
every f (event ∷ before) = option_to_list (f event.deed) ++ every f before

-- How many pass.
abbrev pub count : (Deed → Bool) → List Event → ℕ
count p [] = 0
count p (event ∷ before) = if p event.deed then count p before + 1 else count p before

-- What is asked of items behind a port, and laws over every lawful list of steps.
use Rattle.std.specs.Prelude.{◌≡◌, ◌⊎◌, ℕ, ◌%◌, ◌<◌, ◌≤◌, ◌||◌, ◌==◌, Bool, true, false, List, [], ◌∷◌, length, slice_index, is_some, option_map, unwrap_or, Option, Some, None, Ok, if◌then◌else◌}
use Rattle.std.specs.Int.{bit_at}
use Rattle.fis.specs.Bytes.{bit}
use Rattle.fis.specs.H2d.{h2d_at}
use Rattle.fis.specs.Tags.{slot_count}
use Rattle.fis.specs.Types.{h2d_type}
use Rattle.trusted_cmds.specs.declared.command.Command.{Command}
use Rattle.trusted_cmds.specs.declared.command.Command.TheVariants as commands
use Rattle.trusted_cmds.specs.Commands.{fis_of, tag_with, IsCounted}
use Rattle.sp_cells.specs.Config.{Config}
use Rattle.device_data.specs.declared.log_page.Failure.{Failure}
use Rattle.history.specs.Bounds.{AreFed}
use Rattle.history.specs.Decisions.{is_busy}
use Rattle.history.specs.Events.{Event}
use Rattle.history.specs.Facts.{facts}
use Rattle.history.specs.History.{Accept as AcceptFis}
use Rattle.history.specs.Items.{Items}
use Rattle.history.specs.Opening.{Origin}
use Rattle.history.specs.Quiet.{IsQuiet}
use Rattle.history.specs.Readers.{held, failure}
use Rattle.history.specs.Tcg.{command_read}
use Rattle.port_history.specs.declared.request.Answer.{Answer}
use Rattle.port_history.specs.declared.step.Step.{Step}
use Rattle.port_history.specs.declared.step.Step.TheVariants as steps
use Rattle.port_history.specs.Refusals.{AreLawful, IsLawful, most_steps, refusal}
use Rattle.port_history.specs.Ready.{engine_ready}
use Rattle.port_history.specs.Registers.{registers}
use Rattle.port_history.specs.Requests.{log_fis, blocks_moved}
use Rattle.port_history.specs.Stages.{is_active, is_answered, is_issued, is_queued_command}
use Rattle.port_history.specs.Steps.{Moment, trace_of, trace, events, acts, stage, failed, is_tag, answer, act_of, reply}

-- The commands of requests: trusted ones in their forms by DMA, no read of a log, no choice of a feature, and no command that
-- the opal profile alone has.
abbrev pub is_of_request : Command → Bool
is_of_request (commands.Send protocol com_id blocks dma) = dma
is_of_request (commands.Receive protocol com_id blocks dma) = dma
is_of_request (commands.ReadLog10 dma) = false
is_of_request (commands.ReadLog page dma) = false
is_of_request (commands.SetFeatures feature) = false
is_of_request (commands.ReadPio lba count) = false
is_of_request (commands.WritePio lba count) = false
is_of_request (commands.Verify lba count) = false
is_of_request (commands.Trim blocks) = false
is_of_request (commands.Control control) = false
is_of_request _ = true

-- What a command needs so that it is read as it is.
pub record IsSized (command : Command) : Type 0 where
  pub counted : IsCounted command
  pub most : blocks_moved command ≤ 256
  pub asked : is_of_request command ≡ true

-- What a command is read back as: a trusted one has a protocol of one byte and a ComID of two.
abbrev pub read_as : Command → Command
read_as (commands.Send protocol com_id blocks dma) =
    commands.Send (protocol % 256) (com_id % 65536) blocks dma
read_as (commands.Receive protocol com_id blocks dma) =
    commands.Receive (protocol % 256) (com_id % 65536) blocks dma
read_as command = command

-- Quiet items that read each FIS of a port as the command that it carries.
pub record IsForPorts (items : Items) : Type 0 where
  pub quiet : IsQuiet items
  pub reads : (config : Config) (command : Command) (tag : ℕ) → tag < slot_count → IsSized command
      → items.reads config (fis_of command tag) ≡ Ok (read_as command, tag_with command tag)
  pub recovers : (config : Config)
      → items.reads config (fis_of (commands.ReadLog10 true) 0) ≡ Ok (commands.ReadLog10 true, None)

-- A FIS comes past the rules that stand before addresses, policy and security protocols: the queue
-- has not failed, the FIS carries a command; a queued one has a free tag, and any other finds
-- nothing held.
pub record IsUnmixed (o : Origin) (past : List Event) (fis : List ℕ) : Type 0 where
  pub tag : ℕ
  pub command : Command
  pub mended : failure past ≡ None
  pub kind : slice_index fis 0 ≡ h2d_type
  pub carries : command_read o.tables.config (h2d_at fis) ≡ Ok (command, tag_with command tag)
  pub is_command : (h2d_at fis).is_command ≡ true
  pub free : is_queued_command command ≡ true → held past tag ≡ None
  pub alone : is_queued_command command ≡ false → is_busy (facts o past) ≡ false

-- Or it reads the log page of a queue that has failed.
pub record IsRecovery (past : List Event) (fis : List ℕ) : Type 0 where
  pub failed : is_some (failure past) ≡ true
  pub reads : fis ≡ log_fis

-- The drive refuses no act of a lawful list for mixing queues, nor for a fault of its FIS: the port
-- never mixes queues.
abbrev pub NeverMixes : Type 0
NeverMixes =
    (o : Origin) (step : Step) (before : List Step) → IsLawful o (step ∷ before)
    → (fis payload : List ℕ) → act_of (trace o before) step ≡ Some (AcceptFis fis payload)
    → IsUnmixed o (events (trace o before)) fis ⊎ IsRecovery (events (trace o before)) fis

-- The drive's failure is the port's: it names the tag.
abbrev pub FailureLaw : Type 0
FailureLaw =
    (o : Origin) (list : List Step) → IsLawful o list
    → option_map (λ (f : Failure). f.tag) (failure (events (trace o list)))
    ≡ option_map (λ (tag : ℕ). Some tag) (failed (trace o list))

-- PxSACT has exactly the queued tags that are Issued or Accepted; PxCI exactly those that are
-- Issued, and the failed one while the port is failed.
pub record HasBits (ms : List Moment) (tag : ℕ) : Type 0 where
  pub active : bit_at (registers ms).active tag ≡ bit (is_active (stage ms tag))
  pub issued : bit_at (registers ms).issued tag
      ≡ bit (is_issued (stage ms tag) || is_tag tag (failed ms))

abbrev pub RegisterLaw : Type 0
RegisterLaw =
    (o : Origin) (list : List Step) → IsLawful o list → (tag : ℕ) → tag < slot_count
    → HasBits (trace o list) tag

-- Every tag that is Answered has an answer, whatever such items do.
abbrev pub AnswerLaw : Type 0
AnswerLaw =
    (items : Items) → IsForPorts items → (o : Origin) (list : List Step) → AreLawful items o list
    → (tag : ℕ) → is_answered (stage (trace_of items o list) tag) ≡ true
    → is_some (answer (trace_of items o list) tag) ≡ true

-- What a step says of a slot's owner: a Put makes its client the owner, a Take leaves none.
abbrev pub owner_by : ℕ → Step → Option (Option ℕ)
owner_by tag (steps.Put client slot request) = if slot == tag then Some (Some client) else None
owner_by tag (steps.Issue slot) = None
owner_by tag (steps.Accept slot) = None
owner_by tag (steps.Complete slot) = None
owner_by tag steps.Recover = None
owner_by tag (steps.Reset client kind) = None
owner_by tag (steps.Take client slot) = if slot == tag then Some None else None

-- The client of the newest Put into a slot, none where the slot was taken since: read off the steps
-- alone.
abbrev pub owner : List Step → ℕ → Option ℕ
owner [] tag = None
owner (step ∷ before) tag = unwrap_or (owner_by tag step) (owner before tag)

-- A client takes what is its own: the newest Put into the slot, not taken since, was this client's;
-- the slot is Answered; and the client gets its answer.
pub record TakesOwn (o : Origin) (client tag : ℕ) (before : List Step) : Type 0 where
  pub owns : owner before tag ≡ Some client
  pub answered : is_answered (stage (trace o before) tag) ≡ true
  pub its_answer : Answer
  pub stands : answer (trace o before) tag ≡ Some its_answer
  pub gets : reply (trace o before) (steps.Take client tag) ≡ its_answer

-- No client takes an answer to another's command, nor one twice.
abbrev pub TakeLaw : Type 0
TakeLaw =
    (o : Origin) (client tag : ℕ) (before : List Step)
    → IsLawful o (steps.Take client tag ∷ before) → TakesOwn o client tag before

-- And none is refused its own: where the history has room, its Take of an answer is lawful.
abbrev pub OwnLaw : Type 0
OwnLaw =
    (o : Origin) (client tag : ℕ) (before : List Step) → IsLawful o before → tag < slot_count
    → length (trace o before) < most_steps → owner before tag ≡ Some client
    → is_answered (stage (trace o before) tag) ≡ true
    → (refusal (trace o before) (steps.Take client tag) ≡ None)
    × IsLawful o (steps.Take client tag ∷ before)

-- The acts bring as many bytes as their commands want.
abbrev pub FedLaw : Type 0
FedLaw = (o : Origin) (list : List Step) → IsLawful o list → AreFed o (acts o list)

-- Where the history is full the engine may do nothing.
abbrev pub FullLaw : Type 0
FullLaw =
    (o : Origin) (list : List Step) → most_steps ≤ length (trace o list) → engine_ready o list ≡ []

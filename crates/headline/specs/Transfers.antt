-- Transfers, over every lawful list of steps and whatever items for ports do: one that the drive answers
-- is served exactly where every range that it touches permits it by the rows in force at its last
-- acceptance; and one that is no write that was done, as one that a reset stopped, moves nothing.
use Rattle.std.specs.Prelude.{◌≡◌, ◌≢◌, ◌↔◌, ℕ, ◌+◌, ◌*◌, ◌≤◌, ◌<◌, List, [], take, drop, unwrap_or, Option, Some, None}
use Rattle.locking.specs.Range.{RangeRows}
use Rattle.locking.specs.Verdict.{AreOpen, AreShadowed}
use Rattle.locking.specs.declared.range.Op.{Op}
use Rattle.locking.specs.declared.range.Op.TheVariants as ops
use Rattle.shadow_mbr.specs.Stored.{sector_size, sectors_from}
use Rattle.transactions.specs.Bytes.{bytes_from}
use Rattle.trusted_cmds.specs.declared.command.Command.{Command}
use Rattle.trusted_cmds.specs.declared.command.Command.TheVariants.{ReadQueued, WriteQueued, ReadDma, WriteDma}
use Rattle.history.specs.Events.{Event, latest}
use Rattle.history.specs.Facts.{Facts}
use Rattle.history.specs.Items.{Items}
use Rattle.history.specs.Opening.{Origin}
use Rattle.port_history.specs.Laws.{IsForPorts}
use Rattle.history.specs.Readers.{sector, writing}
use Rattle.history.specs.TransferLaws.{IsPermitted}
use Rattle.port_history.specs.declared.request.Answer.{Answer}
use Rattle.port_history.specs.declared.request.Answer.TheVariants.{Done, Failed, Reset}
use Rattle.port_history.specs.declared.stages.Put.{Put}
use Rattle.port_history.specs.declared.stages.Stage.TheVariants.{Answered}
use Rattle.port_history.specs.declared.step.Step.{Step}
use Rattle.port_history.specs.Refusals.{AreLawful}
use Rattle.port_history.specs.Requests.{no_bytes}
use Rattle.port_history.specs.Steps.{trace_of, stage, payload, answer}
use Rattle.headline.specs.Steps.{past_of, facts_after, ranges_after, before_acceptance, before_move, through_move, own_past}

-- A read or a write of so many sectors, from an address on.
pub record Transfer : Type 0 where
  pub op : Op
  pub lba : ℕ
  pub count : ℕ

-- What a command transfers, in the queue or out of it.
abbrev pub transfer_of : Command → Option Transfer
transfer_of (ReadQueued lba count) = Some (record { op = ops.Read; lba = lba; count = count })
transfer_of (WriteQueued lba count) = Some (record { op = ops.Write; lba = lba; count = count })
transfer_of (ReadDma lba count) = Some (record { op = ops.Read; lba = lba; count = count })
transfer_of (WriteDma lba count) = Some (record { op = ops.Write; lba = lba; count = count })
transfer_of _ = None

-- A client put it under a tag, and it is answered so.
pub record IsAnswered (items : Items) (o : Origin) (list : List Step) (tag : ℕ) (x : Transfer)
    (a : Answer) : Type 0 where
  pub put : Put
  pub stands : stage (trace_of items o list) tag ≡ Answered put
  pub asks : transfer_of put.command ≡ Some x
  pub answers : answer (trace_of items o list) tag ≡ Some a

abbrev pub IsDone : Answer → Type 0
IsDone a = (bytes : List ℕ) × (a ≡ Done bytes)

-- Its sectors are all on the drive.
abbrev pub IsOnDrive : Origin → Transfer → Type 0
IsOnDrive o x = x.lba + x.count ≤ o.tables.config.sectors

-- Every range that it touches permits it: no sector is shadowed and the range of each permits it, or
-- it is a read of shadowed sectors alone.
abbrev pub IsAllowed : RangeRows → Transfer → Type 0
IsAllowed ranges x = IsPermitted ranges x.op x.lba x.count

-- What a served transfer gives: a read the sectors of media, or the shadow's bytes where its sectors
-- are shadowed; a write none.
pub record GivesBytes (ranges : RangeRows) (f : Facts) (x : Transfer)
    (bytes : List ℕ) : Type 0 where
  pub media : x.op ≡ ops.Read → AreOpen ranges x.lba (x.lba + x.count)
      → bytes ≡ sectors_from f.sector x.lba x.count
  pub shadow : x.op ≡ ops.Read → AreShadowed ranges x.lba (x.lba + x.count)
      → bytes ≡ bytes_from f.byte (sector_size * x.lba) (sector_size * x.count)
  pub write : x.op ≡ ops.Write → bytes ≡ []

-- The sectors of a write hold its data.
abbrev pub HaveData : List Event → Transfer → List ℕ → Type 0
HaveData past x content =
    (k : ℕ) → k < x.count
    → sector past (x.lba + k) ≡ take sector_size (drop (sector_size * k) content)

-- It is done exactly where it is allowed by the rows in force at its last acceptance, with the bytes
-- of the act that moved its data, by which media have those of a write; 51h 04h where it is not,
-- 51h 10h where its addresses leave the drive. An earlier acceptance counts for nothing.
pub record IsServed (items : Items) (o : Origin) (list : List Step) (tag : ℕ) (x : Transfer)
    (a : Answer) : Type 0 where
  pub served : IsOnDrive o x
      → IsDone a ↔ IsAllowed (ranges_after items o (before_acceptance list tag)) x
  pub bytes : (bytes : List ℕ) → a ≡ Done bytes
      → GivesBytes (ranges_after items o (before_acceptance list tag))
      (facts_after items o (before_move list tag)) x bytes
  pub written : x.op ≡ ops.Write → IsDone a
      → HaveData (past_of items o (through_move list tag)) x (payload (trace_of items o list) tag)
  pub denied : IsOnDrive o x
      → (IsAllowed (ranges_after items o (before_acceptance list tag)) x → ⊥) → a ≡ Failed 0x51 0x04
  pub beyond : (IsOnDrive o x → ⊥) → a ≡ Failed 0x51 0x10

-- It is a write, and was done.
abbrev pub IsDoneWrite : Transfer → Answer → Type 0
IsDoneWrite x a = (x.op ≡ ops.Write) × IsDone a

-- None of the events writes a sector.
abbrev pub MoveNothing : List Event → Type 0
MoveNothing past = (place : ℕ) → latest (writing place) past ≡ None

-- What the drive answered, it served so: what a reset stopped is answered Reset, and the drive
-- answered nothing. And but for a write that was done, nothing since its Put moved its data.
pub record AreServed (items : Items) (o : Origin) (list : List Step) : Type 0 where
  pub served : (tag : ℕ) (x : Transfer) (a : Answer) → IsAnswered items o list tag x a
      → a ≢ Reset → IsServed items o list tag x a
  pub unmoved : (tag : ℕ) (x : Transfer) (a : Answer) → IsAnswered items o list tag x a
      → (IsDoneWrite x a → ⊥) → MoveNothing (own_past items o list tag)

abbrev pub TransferLaw : Type 0
TransferLaw =
    (items : Items) → IsForPorts items → (o : Origin) (list : List Step) → AreLawful items o list
    → AreServed items o list

-- And so what a client takes, where its command is a transfer.
abbrev pub IsServedAnswer : Items → Origin → List Step → ℕ → Answer → Type 0
IsServedAnswer items o list tag a =
    (put : Put) (x : Transfer) → stage (trace_of items o list) tag ≡ Answered put
    → transfer_of put.command ≡ Some x
    → (a ≢ Reset → IsServed items o list tag x a)
    × ((IsDoneWrite x a → ⊥) → MoveNothing (own_past items o list tag))

abbrev pub TakenLaw : Type 0
TakenLaw =
    (items : Items) → IsForPorts items → (o : Origin) (list : List Step) (tag : ℕ)
    → AreLawful items o list
    → IsServedAnswer items o list tag (unwrap_or (answer (trace_of items o list) tag) no_bytes)

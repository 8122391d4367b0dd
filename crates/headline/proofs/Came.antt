-- What an acceptance does with a transfer, by its verdict there.
use Rattle.port_history.specs.Laws.{read_as}
use Rattle.std.proofs.Common.{◌≡◌, ◌∙◌, ℕ, Bool, true, false, List, [], if◌then◌else◌, Option, Some, None, refl, ap}
use Rattle.std.specs.Prelude.{is_some, Ok}
use Rattle.fis.specs.declared.h2d.RegH2d.{RegH2d}
use Rattle.audit.specs.declared.reason.Why.{Why}
use Rattle.locking.specs.declared.range.Op.{Op}
use Rattle.locking.specs.declared.range.Op.TheVariants.{Read, Write}
use Rattle.locking.specs.declared.ranges.Verdict.{Verdict}
use Rattle.locking.specs.declared.ranges.Verdict.TheVariants.{Serve, Shadow, Denied}
use Rattle.trusted_cmds.specs.declared.command.Command.{Command}
use Rattle.trusted_cmds.specs.declared.command.Command.TheVariants.{ReadQueued, WriteQueued, ReadDma, WriteDma, Send, Receive, Identify, ReadLog10, Flush, SetFeatures, ReadLog, ReadPio, WritePio, Verify, Trim, Control}
use Rattle.trusted_cmds.specs.Commands.{tag_with}
use Rattle.history.specs.Answers.{read_by, held_data, data_read_of}
use Rattle.history.specs.Events.{Deed, Wrote, Event}
use Rattle.history.specs.Items.{Items}
use Rattle.history.specs.Facts.{Facts}
use Rattle.history.specs.Decisions.{not_found, fails, fails_queue, on_drive, verdict_on, holds, queued_by, unqueued_by, unqueued_of, known_of, was_read}
use Rattle.port_history.specs.declared.request.Answer.{Answer}
use Rattle.port_history.specs.declared.request.Answer.TheVariants as answers
use Rattle.port_history.specs.Stages.{is_queued_command}
use Rattle.port_history.specs.Steps.{answered_with}
use Rattle.headline.specs.Transfers.{Transfer, transfer_of}
use Rattle.audit.specs.declared.rules.rule.Rule.TheVariants.{BeyondDrive}
use Rattle.audit.specs.declared.rules.rule.Rule.{Rule}

-- The answer to a transfer, by the facts at its acceptance, and those at the act that moves its data.
abbrev pub moved_by : Facts → Op → ℕ → ℕ → Verdict → List ℕ
moved_by g Read lba count v = read_by g lba count v
moved_by g Write lba count v = []

abbrev pub answer_by : Facts → Op → ℕ → ℕ → Verdict → Answer
answer_by g op lba count (Denied why) = answers.Failed 0x51 0x04
answer_by g op lba count Serve = answers.Done (moved_by g op lba count Serve)
answer_by g op lba count Shadow = answers.Done (moved_by g op lba count Shadow)

abbrev pub answer_at : Facts → Op → ℕ → ℕ → Bool → Verdict → Answer
answer_at g op lba count true v = answer_by g op lba count v
answer_at g op lba count false v = answers.Failed 0x51 0x10

abbrev pub answer_to : Facts → Facts → Transfer → Answer
answer_to f g x =
    answer_at g x.op x.lba x.count (on_drive f x.lba x.count) (verdict_on f x.op x.lba x.count)

-- A queued transfer is held, and will be done with what it moves then; or it fails the queue.
pub data IsTaken (tag : ℕ) (command : Command) (f : Facts) (x : Transfer) (h : RegH2d) (e : Event) : Type 0 where
  TakenHeld : (v : Verdict) → e ≡ holds tag command v
      → ((g : Facts) → answer_to f g x ≡ answers.Done (held_data g (record { command = command; verdict = v })))
      → IsTaken tag command f x h e
  TakenFailed : (error : ℕ) (denied : Option Why × Option Rule) → e ≡ fails_queue (Some tag) error h denied.0 denied.1
      → ((g : Facts) → answer_to f g x ≡ answers.Failed 0x51 error)
      → IsTaken tag command f x h e

answer_is : (f g : Facts) (op : Op) (lba count : ℕ) (on : Bool) (v : Verdict)
    → on_drive f lba count ≡ on → verdict_on f op lba count ≡ v
    → answer_to f g (record { op = op; lba = lba; count = count }) ≡ answer_at g op lba count on v
answer_is f g op lba count on v is_on is_v =
    ap (λ (b : Bool). answer_at g op lba count b (verdict_on f op lba count)) is_on
    ∙ ap (answer_at g op lba count on) is_v

read_taken : (f : Facts) (h : RegH2d) (tag lba count : ℕ) (on : Bool) (v : Verdict)
    → on_drive f lba count ≡ on → verdict_on f Read lba count ≡ v
    → IsTaken tag (ReadQueued lba count) f (record { op = Read; lba = lba; count = count }) h
    (if on then queued_by h tag (ReadQueued lba count) v else fails_queue (Some tag) not_found h None (Some BeyondDrive))
read_taken f h tag lba count false v is_on is_v =
    TakenFailed 0x10 (None, Some BeyondDrive) refl (λ g. answer_is f g Read lba count false v is_on is_v)
read_taken f h tag lba count true (Denied why) is_on is_v =
    TakenFailed 0x04 (Some why, None) refl (λ g. answer_is f g Read lba count true (Denied why) is_on is_v)
read_taken f h tag lba count true Serve is_on is_v =
    TakenHeld Serve refl (λ g. answer_is f g Read lba count true Serve is_on is_v)
read_taken f h tag lba count true Shadow is_on is_v =
    TakenHeld Shadow refl (λ g. answer_is f g Read lba count true Shadow is_on is_v)

write_taken : (f : Facts) (h : RegH2d) (tag lba count : ℕ) (on : Bool) (v : Verdict)
    → on_drive f lba count ≡ on → verdict_on f Write lba count ≡ v
    → IsTaken tag (WriteQueued lba count) f (record { op = Write; lba = lba; count = count }) h
    (if on then queued_by h tag (WriteQueued lba count) v else fails_queue (Some tag) not_found h None (Some BeyondDrive))
write_taken f h tag lba count false v is_on is_v =
    TakenFailed 0x10 (None, Some BeyondDrive) refl (λ g. answer_is f g Write lba count false v is_on is_v)
write_taken f h tag lba count true (Denied why) is_on is_v =
    TakenFailed 0x04 (Some why, None) refl (λ g. answer_is f g Write lba count true (Denied why) is_on is_v)
write_taken f h tag lba count true Serve is_on is_v =
    TakenHeld Serve refl (λ g. answer_is f g Write lba count true Serve is_on is_v)
write_taken f h tag lba count true Shadow is_on is_v =
    TakenHeld Shadow refl (λ g. answer_is f g Write lba count true Shadow is_on is_v)

-- a queued command is a transfer
pub record IsTakenTransfer (tag : ℕ) (command : Command) (f : Facts) (h : RegH2d) (e : Event) : Type 0 where
  pub x : Transfer
  pub is : transfer_of command ≡ Some x
  pub taken : IsTaken tag command f x h e

pub queued_taken : (items : Items) (f : Facts) (h : RegH2d) (bytes : List ℕ) (command : Command) (tag : ℕ)
    → is_queued_command command ≡ true → f.held tag ≡ None
    → IsTakenTransfer tag command f h (known_of items f h bytes (Ok (read_as command, tag_with command tag)))
queued_taken items f h bytes (ReadQueued lba count) tag queued free = record {
  x = record { op = Read; lba = lba; count = count };
  is = refl;
  taken = rw (free) (read_taken f h tag lba count (on_drive f lba count) (verdict_on f Read lba count) refl refl);
}
queued_taken items f h bytes (WriteQueued lba count) tag queued free = record {
  x = record { op = Write; lba = lba; count = count };
  is = refl;
  taken = rw (free) (write_taken f h tag lba count (on_drive f lba count) (verdict_on f Write lba count) refl refl);
}
queued_taken items f h bytes (ReadDma lba count) tag queued free = absurd cc
queued_taken items f h bytes (WriteDma lba count) tag queued free = absurd cc
queued_taken items f h bytes (Send protocol com_id blocks dma) tag queued free = absurd cc
queued_taken items f h bytes (Receive protocol com_id blocks dma) tag queued free = absurd cc
queued_taken items f h bytes Identify tag queued free = absurd cc
queued_taken items f h bytes (ReadLog10 dma) tag queued free = absurd cc
queued_taken items f h bytes Flush tag queued free = absurd cc
queued_taken items f h bytes (SetFeatures feature) tag queued free = absurd cc
queued_taken items f h bytes (ReadLog page dma) tag queued free = absurd cc
queued_taken items f h bytes (ReadPio lba count) tag queued free = absurd cc
queued_taken items f h bytes (WritePio lba count) tag queued free = absurd cc
queued_taken items f h bytes (Verify lba count) tag queued free = absurd cc
queued_taken items f h bytes (Trim blocks) tag queued free = absurd cc
queued_taken items f h bytes (Control control) tag queued free = absurd cc

-- A transfer that is executed whole.
abbrev pub executed : Event → List ℕ → Answer
executed e bytes = answered_with e.failed (if is_some e.failed then [] else bytes)

served_now : (g : Facts) (d : Deed) (op : Op) (lba count : ℕ) (on : Bool) (v : Verdict) (bytes : List ℕ)
    → bytes ≡ moved_by g op lba count v
    → executed (if on then unqueued_by d v else fails not_found None (Some BeyondDrive)) bytes
    ≡ answer_at g op lba count on v
served_now g d op lba count false v bytes is = refl
served_now g d op lba count true (Denied why) bytes is = refl
served_now g d op lba count true Serve bytes is = ap answers.Done is
served_now g d op lba count true Shadow bytes is = ap answers.Done is

same : {x y : Transfer} → ◌≡◌ {A = Option Transfer} (Some x) (Some y) → x ≡ y
same e = cc

-- the answer of a command that is executed whole, where it is a transfer
pub executed_is : (items : Items) (f : Facts) (payload : List ℕ) (command : Command) (tag : ℕ) (x : Transfer)
    → is_queued_command command ≡ false → transfer_of command ≡ Some x
    → executed (unqueued_of items f payload (read_as command)) (data_read_of items f (Ok (read_as command, tag_with command tag)))
    ≡ answer_to f f x
executed_is items f payload (ReadQueued lba count) tag x unqueued_is is = absurd cc
executed_is items f payload (WriteQueued lba count) tag x unqueued_is is = absurd cc
executed_is items f payload (ReadDma lba count) tag x unqueued_is is =
    served_now f was_read Read lba count (on_drive f lba count) (verdict_on f Read lba count) _ refl
    ∙ same_transfer is
  where
    same_transfer : ◌≡◌ {A = Option Transfer} (Some (record { op = Read; lba = lba; count = count })) (Some x)
        → answer_to f f (record { op = Read; lba = lba; count = count }) ≡ answer_to f f x
    same_transfer e = ap (answer_to f f) (same e)
executed_is items f payload (WriteDma lba count) tag x unqueued_is is =
    served_now f (Wrote lba payload) Write lba count (on_drive f lba count) (verdict_on f Write lba count) _ refl
    ∙ same_transfer is
  where
    same_transfer : ◌≡◌ {A = Option Transfer} (Some (record { op = Write; lba = lba; count = count })) (Some x)
        → answer_to f f (record { op = Write; lba = lba; count = count }) ≡ answer_to f f x
    same_transfer e = ap (answer_to f f) (same e)
executed_is items f payload (Send protocol com_id blocks dma) tag x unqueued_is is = absurd cc
executed_is items f payload (Receive protocol com_id blocks dma) tag x unqueued_is is = absurd cc
executed_is items f payload Identify tag x unqueued_is is = absurd cc
executed_is items f payload (ReadLog10 dma) tag x unqueued_is is = absurd cc
executed_is items f payload Flush tag x unqueued_is is = absurd cc
executed_is items f payload (SetFeatures feature) tag x unqueued_is is = absurd cc
executed_is items f payload (ReadLog page dma) tag x unqueued_is is = absurd cc
executed_is items f payload (ReadPio lba count) tag x unqueued_is is = absurd cc
executed_is items f payload (WritePio lba count) tag x unqueued_is is = absurd cc
executed_is items f payload (Verify lba count) tag x unqueued_is is = absurd cc
executed_is items f payload (Trim blocks) tag x unqueued_is is = absurd cc
executed_is items f payload (Control control) tag x unqueued_is is = absurd cc

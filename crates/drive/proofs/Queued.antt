-- A queued transfer as it is read, and that it is held at once where its tag is free and it is permitted.
use Rattle.basics.specs.declared.profile.Profile.TheVariants.{Base, Field, Opal}
use Rattle.basics.specs.declared.profile.Profile.{Profile}
use Rattle.std.proofs.Common.{◌≡◌, ℕ, Bool, true, false, not, ◌&&◌, List, Option, Some, is_some, option_map, Result, Ok, refl, sym, ap, ◌∙◌}
use Rattle.fis.specs.declared.h2d.RegH2d.{RegH2d}
use Rattle.locking.specs.declared.range.Op.{Op}
use Rattle.locking.specs.declared.range.Op.TheVariants.{Read, Write}
use Rattle.trusted_cmds.specs.declared.command.Command.{Command}
use Rattle.trusted_cmds.specs.declared.command.Command.TheVariants.{ReadQueued, WriteQueued}
use Rattle.trusted_cmds.specs.declared.command.CommandError.{CommandError}
use Rattle.trusted_cmds.specs.Commands.{has_lba_bit, tag_of, sectors, reading, read_queued, write_queued, is_queued}
use Rattle.trusted_cmds.specs.Profiles.{reading_in, read_or, beside}
use Rattle.trusted_cmds.specs.General.{more}
use Rattle.sp_cells.specs.Config.{Config}
use Rattle.history.specs.Facts.{Facts}
use Rattle.history.specs.Decisions.{queued_transfer, admitted, is_busy}
use Rattle.history.specs.Tcg.{command_read, commanded}
use Rattle.drive.specs.declared.transfer.Transfer.{Transfer}
use Rattle.drive.specs.declared.transfer.Held.{Held}
use Rattle.drive.specs.declared.decision.Decision.TheVariants.{Holds}
use Rattle.drive.specs.Transfer.{by_op, queued_command, transfer_by, held_command}
use Rattle.drive.specs.Queue.{slot_at}
use Rattle.drive.specs.Decision.{decision_event, policy_on}
use Rattle.drive.specs.State.{DriveState, kept_facts}
use Rattle.drive.proofs.Policies.{queued_held}
use Rattle.drive.proofs.Commands.{admits-read, admits-write, known-some, commanded-known}

in-each : (p : Profile) (h : RegH2d) (r : Command × Option ℕ) → reading h ≡ Ok r → reading_in p h ≡ Ok r
in-each Base h r is = is
in-each Field h r is = ap (λ (x : Result (Command × Option ℕ) CommandError). read_or x (beside h)) is
in-each Opal h r is = ap (λ (x : Result (Command × Option ℕ) CommandError). read_or (read_or x (beside h)) (more h)) is

reads : (h : RegH2d) (op : Op) → h.is_command ≡ true → has_lba_bit h.device ≡ true → h.command ≡ by_op op read_queued write_queued
    → reading h ≡ Ok (queued_command (transfer_by op h.lba (sectors h.feature)), Some (tag_of h))
reads h Read is bit code = rw (is, code, bit) refl
reads h Write is bit code = rw (is, code, bit) refl

pub reads_so : (config : Config) (h : RegH2d) (op : Op) → h.is_command ≡ true → has_lba_bit h.device ≡ true → h.command ≡ by_op op read_queued write_queued
    → command_read config h ≡ Ok (queued_command (transfer_by op h.lba (sectors h.feature)), Some (tag_of h))
reads_so config h op is bit code = in-each config.profile h (queued_command (transfer_by op h.lba (sectors h.feature)), Some (tag_of h)) (reads h op is bit code)

admits : (f : Facts) (h : RegH2d) (tag : ℕ) (t : Transfer) (op : Op) (x : Option Held) → t.op ≡ op → is_some x ≡ false
    → queued_transfer f h tag (queued_command t) t.op t.lba t.count ≡ admitted f h tag (queued_command t) (is_some (option_map held_command x))
admits f h tag t Read x is free =
    admits-read f h tag t.lba t.count (queued_command t) t x (ap (λ (o : Op). by_op o (ReadQueued t.lba t.count) (WriteQueued t.lba t.count)) is) (ap (λ (o : Op). transfer_by o t.lba t.count) is) free
admits f h tag t Write x is free =
    admits-write f h tag t.lba t.count (queued_command t) t x (ap (λ (o : Op). by_op o (ReadQueued t.lba t.count) (WriteQueued t.lba t.count)) is) (ap (λ (o : Op). transfer_by o t.lba t.count) is) free

and-false : (b : Bool) → (b && false) ≡ false
and-false true = refl
and-false false = refl

pub held_so : (d : DriveState) (f : Facts) (h : RegH2d) (payload : List ℕ) (tag : ℕ) (t : Transfer) (s : Bool)
    → h.is_command ≡ true → is_queued h.command ≡ true → ((config : Config) → command_read config h ≡ Ok (queued_command t, Some tag))
    → is_some d.queue.failure ≡ false → is_some (slot_at d.queue.slots tag) ≡ false → policy_on d t ≡ Ok s
    → decision_event (kept_facts d f) payload (Holds tag (record { transfer = t; is_shadowed = s })) ≡ commanded (kept_facts d f) h payload
held_so d f h payload tag t s is queued reads mended free permits =
    let k : Facts = kept_facts d f in
    sym (queued_held d f h tag (queued_command t) t s permits)
    ∙ admits k h tag t t.op (slot_at d.queue.slots tag) refl free
    ∙ known-some k h payload (command_read k.config h) (queued_command t) (Some tag) tag refl (reads k.config) refl
    ∙ commanded-known k h payload is mended (ap (λ (q : Bool). is_busy k && not q) queued ∙ and-false (is_busy k))

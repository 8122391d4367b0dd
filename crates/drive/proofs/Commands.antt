-- What the history makes of a command, step by step, by what the drive found of it.
use Rattle.basics.specs.declared.profile.Profile.TheVariants.{Base, Field, Opal}
use Rattle.basics.specs.declared.profile.Profile.{Profile}
use Rattle.trusted_cmds.specs.Profiles.{CarriesIn}
use Rattle.std.proofs.Common.{◌≡◌, ◌==◌, slice_index, ℕ, Bool, true, false, not, ◌&&◌, ◌||◌, List, Option, Some, None, is_some, option_map, Result, Ok, refl, sym, ap, ◌∙◌, cond, inl, inr}
use Rattle.fis.specs.H2d.{h2d_at}
use Rattle.fis.specs.Types.{h2d_type}
use Rattle.fis.specs.declared.h2d.RegH2d.{RegH2d}
use Rattle.locking.specs.declared.range.Op.{Op}
use Rattle.locking.specs.declared.range.Op.TheVariants.{Read, Write}
use Rattle.trusted_cmds.specs.declared.command.Command.{Command}
use Rattle.trusted_cmds.specs.declared.command.Command.TheVariants.{ReadQueued, WriteQueued, ReadDma, WriteDma, Send, Receive, Identify, ReadLog10, Flush, SetFeatures, ReadLog, ReadPio, WritePio, Verify, Trim, Control}
use Rattle.trusted_cmds.specs.declared.command.CommandError.{CommandError}
use Rattle.trusted_cmds.specs.Commands.{is_queued}
use Rattle.trusted_cmds.specs.BlockSid.{is_block_sid, block_asked, is_blocked}
use Rattle.device_data.specs.Discovery.{has_owner}
use Rattle.sp_cells.specs.Resets.{programmatic}
use Rattle.sessions.specs.Deeds.{StackTold}
use Rattle.history.specs.Events.{InSession, Silent, WasReset, BlockedSid, did}
use Rattle.history.specs.Facts.{Facts}
use Rattle.history.specs.Decisions.{refuses, resets, while_failed, admitted, queued_transfer, unqueued_transfer, receive_other, is_busy}
use Rattle.history.specs.Tcg.{accepted, commanded, known, unqueued, command_read, blocks_sid, stack_sent, send_item, send_other, send}
use Rattle.drive.specs.declared.transfer.Held.{Held}
use Rattle.drive.specs.declared.transfer.Transfer.{Transfer}
use Rattle.drive.specs.declared.transfer.Way.{Way}
use Rattle.drive.specs.declared.transfer.Way.TheVariants as ways
use Rattle.drive.specs.Transfer.{transfer_by, queued_command, unqueued_command, held_command, CanGo}
use Rattle.drive.specs.Decision.{transfer_deed, is_for_stack, asked_of_stack}
use Rattle.audit.specs.declared.rules.rule.Rule.TheVariants.{NoCommand, SidKept}

-- what is in a slot is held
pub held-some : (x : Option Held) → is_some (option_map held_command x) ≡ is_some x
held-some None = refl
held-some (Some held) = refl

-- a queued transfer under a free tag
pub admits-read : (f : Facts) (h : RegH2d) (tag lba count : ℕ) (c : Command) (t : Transfer) (x : Option Held) → c ≡ ReadQueued lba count → t ≡ transfer_by Read lba count → is_some x ≡ false
    → queued_transfer f h tag (queued_command t) t.op t.lba t.count ≡ admitted f h tag c (is_some (option_map held_command x))
admits-read f h tag lba count c t x is made free = rw (is, made, held-some x, free) refl

pub admits-write : (f : Facts) (h : RegH2d) (tag lba count : ℕ) (c : Command) (t : Transfer) (x : Option Held) → c ≡ WriteQueued lba count → t ≡ transfer_by Write lba count → is_some x ≡ false
    → queued_transfer f h tag (queued_command t) t.op t.lba t.count ≡ admitted f h tag c (is_some (option_map held_command x))
admits-write f h tag lba count c t x is made free = rw (is, made, held-some x, free) refl

-- a transfer that is not queued
pub unqueued-so : (f : Facts) (payload : List ℕ) (way : Way) (op : Op) (lba count : ℕ) (c : Command) (t : Transfer) → CanGo way op
    → c ≡ unqueued_command way (transfer_by op lba count) → t ≡ transfer_by op lba count
    → unqueued_transfer f (transfer_deed t payload) t.op t.lba t.count ≡ unqueued f payload c
unqueued-so f payload ways.Dma Read lba count c t goes is made = rw (is, made) refl
unqueued-so f payload ways.Dma Write lba count c t goes is made = rw (is, made) refl
unqueued-so f payload ways.Pio Read lba count c t goes is made = rw (is, made) refl
unqueued-so f payload ways.Pio Write lba count c t goes is made = rw (is, made) refl
unqueued-so f payload ways.Verify Read lba count c t goes is made = rw (is, made) refl
unqueued-so f payload ways.Verify Write lba count c t goes is made = absurd cc

-- the command that blocks SID
pub block_made : (f : Facts) (payload : List ℕ) (c : Command) → is_block_sid f.config.profile c ≡ true → resets f.rows c ≡ false → false ≡ (has_owner f.rows || is_blocked f.beside.block)
    → did (BlockedSid (block_asked payload)) ≡ unqueued f payload c
block_made f payload (Send protocol com_id blocks dma) is kept free =
    sym (ap (λ b. cond b (did (WasReset programmatic)) (send f protocol com_id blocks payload)) kept
    ∙ ap (λ b. cond b (blocks_sid f payload) (send_other f protocol com_id blocks payload)) is
    ∙ ap (λ b. cond b (refuses SidKept) (did (BlockedSid (block_asked payload)))) (sym free))
block_made f payload (Receive protocol com_id blocks dma) is kept free = cc
block_made f payload Identify is kept free = cc
block_made f payload (ReadLog10 dma) is kept free = cc
block_made f payload Flush is kept free = cc
block_made f payload (SetFeatures feature) is kept free = cc
block_made f payload (ReadLog page dma) is kept free = cc
block_made f payload (ReadQueued lba count) is kept free = cc
block_made f payload (WriteQueued lba count) is kept free = cc
block_made f payload (ReadDma lba count) is kept free = cc
block_made f payload (WriteDma lba count) is kept free = cc
block_made f payload (ReadPio lba count) is kept free = cc
block_made f payload (WritePio lba count) is kept free = cc
block_made f payload (Verify lba count) is kept free = cc
block_made f payload (Trim blocks) is kept free = cc
block_made f payload (Control control) is kept free = cc

pub block_refused : (f : Facts) (payload : List ℕ) (c : Command) → is_block_sid f.config.profile c ≡ true → resets f.rows c ≡ false → true ≡ (has_owner f.rows || is_blocked f.beside.block)
    → refuses SidKept ≡ unqueued f payload c
block_refused f payload (Send protocol com_id blocks dma) is kept free =
    sym (ap (λ b. cond b (did (WasReset programmatic)) (send f protocol com_id blocks payload)) kept
    ∙ ap (λ b. cond b (blocks_sid f payload) (send_other f protocol com_id blocks payload)) is
    ∙ ap (λ b. cond b (refuses SidKept) (did (BlockedSid (block_asked payload)))) (sym free))
block_refused f payload (Receive protocol com_id blocks dma) is kept free = cc
block_refused f payload Identify is kept free = cc
block_refused f payload (ReadLog10 dma) is kept free = cc
block_refused f payload Flush is kept free = cc
block_refused f payload (SetFeatures feature) is kept free = cc
block_refused f payload (ReadLog page dma) is kept free = cc
block_refused f payload (ReadQueued lba count) is kept free = cc
block_refused f payload (WriteQueued lba count) is kept free = cc
block_refused f payload (ReadDma lba count) is kept free = cc
block_refused f payload (WriteDma lba count) is kept free = cc
block_refused f payload (ReadPio lba count) is kept free = cc
block_refused f payload (WritePio lba count) is kept free = cc
block_refused f payload (Verify lba count) is kept free = cc
block_refused f payload (Trim blocks) is kept free = cc
block_refused f payload (Control control) is kept free = cc

-- what is for the stack of a ComID
pub stack_asked : (f : Facts) (payload : List ℕ) (c : Command) → is_for_stack f.config.profile c ≡ true → is_block_sid f.config.profile c ≡ false → resets f.rows c ≡ false
    → asked_of_stack f payload c ≡ unqueued f payload c
stack_asked f payload (Send protocol com_id blocks dma) is other kept =
    sym (ap (λ b. cond b (did (WasReset programmatic)) (send f protocol com_id blocks payload)) kept
    ∙ ap (λ b. cond b (blocks_sid f payload) (send_other f protocol com_id blocks payload)) other
    ∙ ap (λ b. cond b (stack_sent f com_id payload) (send_item f protocol com_id blocks payload)) is)
stack_asked f payload (Receive protocol com_id blocks dma) is other kept =
    sym (ap (λ b. cond b (did (InSession (StackTold com_id) Silent)) (receive_other f protocol com_id blocks)) is)
stack_asked f payload Identify is other kept = cc
stack_asked f payload (ReadLog10 dma) is other kept = cc
stack_asked f payload Flush is other kept = cc
stack_asked f payload (SetFeatures feature) is other kept = cc
stack_asked f payload (ReadLog page dma) is other kept = cc
stack_asked f payload (ReadQueued lba count) is other kept = cc
stack_asked f payload (WriteQueued lba count) is other kept = cc
stack_asked f payload (ReadDma lba count) is other kept = cc
stack_asked f payload (WriteDma lba count) is other kept = cc
stack_asked f payload (ReadPio lba count) is other kept = cc
stack_asked f payload (WritePio lba count) is other kept = cc
stack_asked f payload (Verify lba count) is other kept = cc
stack_asked f payload (Trim blocks) is other kept = cc
stack_asked f payload (Control control) is other kept = cc

-- the order of the rules
pub commanded-failed : (f : Facts) (h : RegH2d) (payload : List ℕ) → h.is_command ≡ true → is_some f.failure ≡ true → while_failed (command_read f.config h) ≡ commanded f h payload
commanded-failed f h payload is failed = rw (is, failed) refl

pub commanded-known : (f : Facts) (h : RegH2d) (payload : List ℕ) → h.is_command ≡ true → is_some f.failure ≡ false → (is_busy f && not (is_queued h.command)) ≡ false
    → known f h payload (command_read f.config h) ≡ commanded f h payload
commanded-known f h payload is mended alone = rw (is, mended, alone) refl

-- only the log has no tag
pub log-untagged : (p : Profile) (h : RegH2d) (dma : Bool) (tag : Option ℕ) → CarriesIn p h (ReadLog10 dma) tag → tag ≡ None
log-untagged p h dma None w = refl
log-untagged Base h dma (Some tag) w = absurd w
log-untagged Field h dma (Some tag) (inl w) = absurd w
log-untagged Field h dma (Some tag) (inr w) = absurd w
log-untagged Opal h dma (Some tag) (inl (inl w)) = absurd w
log-untagged Opal h dma (Some tag) (inl (inr w)) = absurd w
log-untagged Opal h dma (Some tag) (inr w) = absurd w

-- what was read of the FIS
pub known-some : (f : Facts) (h : RegH2d) (payload : List ℕ) (r : Result (Command × Option ℕ) CommandError) (c : Command) (x : Option ℕ) (tag : ℕ)
    → r ≡ command_read f.config h → r ≡ Ok (c, x) → x ≡ Some tag → admitted f h tag c (is_some (f.held tag)) ≡ known f h payload (command_read f.config h)
known-some f h payload r c x tag e is some =
    sym (ap (known f h payload) (sym e ∙ is ∙ ap (λ (t : Option ℕ). Ok (c, t)) some))

pub known-none : (f : Facts) (h : RegH2d) (payload : List ℕ) (r : Result (Command × Option ℕ) CommandError) (c : Command) (x : Option ℕ)
    → r ≡ command_read f.config h → r ≡ Ok (c, x) → x ≡ None → unqueued f payload c ≡ known f h payload (command_read f.config h)
known-none f h payload r c x e is none =
    sym (ap (known f h payload) (sym e ∙ is ∙ ap (λ (t : Option ℕ). Ok (c, t)) none))

-- a FIS that carries a command, and another
pub accepted-command : (f : Facts) (fis payload : List ℕ) (h : RegH2d) → slice_index fis 0 ≡ h2d_type → h ≡ h2d_at fis → commanded f h payload ≡ accepted f fis payload
accepted-command f fis payload h is made = ap (λ (r : RegH2d). commanded f r payload) made ∙ rw is refl

pub accepted-other : (f : Facts) (fis payload : List ℕ) → (slice_index fis 0 == h2d_type) ≡ false → refuses NoCommand ≡ accepted f fis payload
accepted-other f fis payload is = rw is refl

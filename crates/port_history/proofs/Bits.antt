-- Single bits of a register, and the registers behind a FIS.
use Rattle.std.proofs.Common.{◌≡◌, ◌≢◌, ◌∙◌, ℕ, ◌+◌, ◌-◌, ◌*◌, ◌^◌, ◌%◌, ◌<◌, ◌≤◌, ◌==◌, ◌&&◌, Bool, true, false, List, [], ◌∷◌, bit_and, bit_or, if◌then◌else◌, Option, Some, None, refl, sym, ap, arith}
use Rattle.std.specs.Int.{bit_at, bit_not, w32}
use Rattle.std.proofs.lemmas.Nat.{pow_below}
use Rattle.std.proofs.lemmas.Nat.Bits.{bit_at_or, bit_at_and, bit_at-pow_same, bit_at-pow_other, bit_at-lt, bit_at_not}
use Rattle.hba_regs.specs.Registers.{Regs, without}
use Rattle.trusted_cmds.specs.declared.command.Command.{Command}
use Rattle.trusted_cmds.specs.declared.command.Command.TheVariants.{ReadQueued, WriteQueued, ReadDma, WriteDma, Send, Receive, Identify, ReadLog10, Flush, SetFeatures, ReadLog, ReadPio, WritePio, Verify, Trim, Control}
use Rattle.history.specs.Answers.{answer_fis, pio_fis, setup_fis, moved_fis, fises_of, ready, errored}
use Rattle.port_history.specs.Stages.{is_queued_command}
use Rattle.port_history.specs.Registers.{raised, with_task, no_more_issued, shown, all_shown, task_error_bit, register_bit, pio_setup_bit, device_bits_bit, carried}
use Rattle.port_history.proofs.Acted.{executed_fis}

most_one : (x y : ℕ) → x < 2 → y ≡ 1 → Rattle.std.proofs.Common.max x y ≡ 1
most_one x y l e = omega arith

most_none : (x y : ℕ) → y ≡ 0 → Rattle.std.proofs.Common.max x y ≡ x
most_none x y e = omega arith

least_none : (x y : ℕ) → y ≡ 0 → Rattle.std.proofs.Common.min x y ≡ 0
least_none x y e = omega arith

least_one : (x y : ℕ) → x < 2 → y ≡ 1 → Rattle.std.proofs.Common.min x y ≡ x
least_one x y l e = omega arith

pub or_same : (a k : ℕ) → bit_at (bit_or a (2 ^ k)) k ≡ 1
or_same a k =
    bit_at_or a (2 ^ k) k
    ∙ most_one (bit_at a k) (bit_at (2 ^ k) k) (bit_at-lt a k) (bit_at-pow_same k)

pub or_other : (a k j : ℕ) → j ≢ k → bit_at (bit_or a (2 ^ k)) j ≡ bit_at a j
or_other a k j ne =
    bit_at_or a (2 ^ k) j
    ∙ most_none (bit_at a j) (bit_at (2 ^ k) j) (bit_at-pow_other k j ne)

pub without_same : (x k : ℕ) → k < 32 → bit_at (without x (2 ^ k)) k ≡ 0
without_same x k lt =
    bit_at_and x (bit_not w32 (2 ^ k)) k
    ∙ least_none (bit_at x k) (bit_at (bit_not w32 (2 ^ k)) k)
    (bit_at_not w32 (2 ^ k) k (pow_below k 32 lt) lt
    ∙ ap (λ (b : ℕ). 1 - b) (bit_at-pow_same k))

pub without_other : (x k j : ℕ) → k < 32 → j < 32 → j ≢ k
    → bit_at (without x (2 ^ k)) j ≡ bit_at x j
without_other x k j lt low ne =
    bit_at_and x (bit_not w32 (2 ^ k)) j
    ∙ least_one (bit_at x j) (bit_at (bit_not w32 (2 ^ k)) j) (bit_at-lt x j)
    (bit_at_not w32 (2 ^ k) j (pow_below k 32 lt) low
    ∙ ap (λ (b : ℕ). 1 - b) (bit_at-pow_other k j ne))

-- The registers behind a FIS.

-- what the words of commands are
pub record HasWords (regs : Regs) (active issued : ℕ) : Type 0 where
  pub active_is : regs.active ≡ active
  pub issued_is : regs.issued ≡ issued

raised-words : (bits : ℕ) (b : Bool) (regs : Regs) (active issued : ℕ)
    → HasWords regs active issued → HasWords (raised bits b regs) active issued
raised-words bits true regs active issued h =
    record { active_is = h.active_is; issued_is = h.issued_is }
raised-words bits false regs active issued h = h

task-words : (status error : ℕ) (regs : Regs)
    → HasWords (with_task status error regs) regs.active regs.issued
task-words status error regs =
    raised-words task_error_bit (status % 2 == 1) (record regs { status = status; error = error })
    regs.active regs.issued (record { active_is = refl; issued_is = refl })

-- an answer that ends the command
ending-words : (tag : ℕ) (regs : Regs) (active issued : ℕ) → HasWords regs active issued
    → HasWords (no_more_issued tag true regs) active (without issued (2 ^ tag))
ending-words tag regs active issued h = record {
  active_is = h.active_is;
  issued_is = ap (λ (n : ℕ). without n (2 ^ tag)) h.issued_is;
}

pub ready-words : (tag : ℕ) (regs : Regs) (interrupt : Bool)
    → HasWords (shown tag regs (answer_fis interrupt ready 0)) regs.active
    (without regs.issued (2 ^ tag))
ready-words tag regs interrupt =
    ending-words tag (raised register_bit interrupt (with_task ready 0 regs)) regs.active
    regs.issued
    (raised-words register_bit interrupt (with_task ready 0 regs) regs.active regs.issued
    (task-words ready 0 regs))

-- one that does not
pub failed-words : (tag : ℕ) (regs : Regs) (error : ℕ)
    → HasWords (shown tag regs (answer_fis true errored error)) regs.active regs.issued
failed-words tag regs error =
    raised-words register_bit true (with_task errored error regs) regs.active regs.issued
    (task-words errored error regs)

pio-words : (tag : ℕ) (regs : Regs)
    → HasWords (shown tag regs (pio_fis true ready)) regs.active (without regs.issued (2 ^ tag))
pio-words tag regs =
    ending-words tag (raised pio_setup_bit true (with_task ready 0 regs)) regs.active regs.issued
    (raised-words pio_setup_bit true (with_task ready 0 regs) regs.active regs.issued
    (task-words ready 0 regs))

pub executed-words : (tag : ℕ) (regs : Regs) (command : Command)
    → HasWords (shown tag regs (executed_fis command None)) regs.active
    (without regs.issued (2 ^ tag))
executed-words tag regs (ReadQueued lba count) = ready-words tag regs true
executed-words tag regs (WriteQueued lba count) = ready-words tag regs true
executed-words tag regs (ReadDma lba count) = ready-words tag regs true
executed-words tag regs (WriteDma lba count) = ready-words tag regs true
executed-words tag regs (Send protocol com_id blocks dma) = ready-words tag regs true
executed-words tag regs (Receive protocol com_id blocks dma) = ready-words tag regs true
executed-words tag regs Identify = pio-words tag regs
executed-words tag regs (ReadLog10 dma) = ready-words tag regs true
executed-words tag regs Flush = ready-words tag regs true
executed-words tag regs (SetFeatures feature) = ready-words tag regs true
executed-words tag regs (ReadLog page dma) = ready-words tag regs true
executed-words tag regs (ReadPio lba count) = ready-words tag regs true
executed-words tag regs (WritePio lba count) = ready-words tag regs true
executed-words tag regs (Verify lba count) = ready-words tag regs true
executed-words tag regs (Trim blocks) = ready-words tag regs true
executed-words tag regs (Control control) = ready-words tag regs true

pub failing-words : (tag : ℕ) (regs : Regs) (command : Command) (error : ℕ)
    → HasWords (shown tag regs (executed_fis command (Some error))) regs.active regs.issued
failing-words tag regs (ReadQueued lba count) error = failed-words tag regs error
failing-words tag regs (WriteQueued lba count) error = failed-words tag regs error
failing-words tag regs (ReadDma lba count) error = failed-words tag regs error
failing-words tag regs (WriteDma lba count) error = failed-words tag regs error
failing-words tag regs (Send protocol com_id blocks dma) error = failed-words tag regs error
failing-words tag regs (Receive protocol com_id blocks dma) error = failed-words tag regs error
failing-words tag regs Identify error = failed-words tag regs error
failing-words tag regs (ReadLog10 dma) error = failed-words tag regs error
failing-words tag regs Flush error = failed-words tag regs error
failing-words tag regs (SetFeatures feature) error = failed-words tag regs error
failing-words tag regs (ReadLog page dma) error = failed-words tag regs error
failing-words tag regs (ReadPio lba count) error = failed-words tag regs error
failing-words tag regs (WritePio lba count) error = failed-words tag regs error
failing-words tag regs (Verify lba count) error = failed-words tag regs error
failing-words tag regs (Trim blocks) error = failed-words tag regs error
failing-words tag regs (Control control) error = failed-words tag regs error

-- the two FISes of a completion
pair-words : (tag : ℕ) (regs : Regs) (to_host : Bool) (count : ℕ)
    → HasWords (all_shown tag regs (setup_fis to_host tag count ∷ moved_fis tag ∷ []))
    (without regs.active (2 ^ tag)) regs.issued
pair-words tag regs to_host count =
    let h =
    raised-words device_bits_bit true (with_task (carried regs.status ready) 0 regs) regs.active
    regs.issued (task-words (carried regs.status ready) 0 regs) in
    record {
      active_is = ap (λ (n : ℕ). without n (2 ^ tag)) h.active_is;
      issued_is = h.issued_is;
    }

pub completed-words : (tag : ℕ) (regs : Regs) (command : Command) → is_queued_command command ≡ true
    → HasWords (all_shown tag regs (fises_of tag command)) (without regs.active (2 ^ tag))
    regs.issued
completed-words tag regs (ReadQueued lba count) queued = pair-words tag regs true (512 * count)
completed-words tag regs (WriteQueued lba count) queued = pair-words tag regs false (512 * count)
completed-words tag regs (ReadDma lba count) queued = absurd cc
completed-words tag regs (WriteDma lba count) queued = absurd cc
completed-words tag regs (Send protocol com_id blocks dma) queued = absurd cc
completed-words tag regs (Receive protocol com_id blocks dma) queued = absurd cc
completed-words tag regs Identify queued = absurd cc
completed-words tag regs (ReadLog10 dma) queued = absurd cc
completed-words tag regs Flush queued = absurd cc
completed-words tag regs (SetFeatures feature) queued = absurd cc
completed-words tag regs (ReadLog page dma) queued = absurd cc
completed-words tag regs (ReadPio lba count) queued = absurd cc
completed-words tag regs (WritePio lba count) queued = absurd cc
completed-words tag regs (Verify lba count) queued = absurd cc
completed-words tag regs (Trim blocks) queued = absurd cc
completed-words tag regs (Control control) queued = absurd cc

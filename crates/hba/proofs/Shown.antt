-- What FISes show of PxSACT, whatever else they show.
use Rattle.std.proofs.Common.{◌≡◌, ℕ, ◌+◌, ◌/◌, ◌%◌, Bool, true, false, List, [], ◌∷◌, map, length, refl, ap, ◌∙◌, sym}
use Rattle.std.specs.Prelude.{◌==◌, ◌&&◌}
use Rattle.fis.specs.declared.any.Fis.{Fis}
use Rattle.fis.specs.declared.any.Fis.TheVariants as fises
use Rattle.hba_regs.specs.Registers.{Regs, without}
use Rattle.history.specs.History.{Accept}
use Rattle.port_history.specs.Registers.{raised, with_task, task_error_bit, carried, no_more_issued, shown, all_shown, is_finished, register_bit, pio_setup_bit, dma_setup_bit, device_bits_bit}
use Rattle.port_history.specs.Steps.{Effect}
use Rattle.hba.specs.Blocks.{block_size}
use Rattle.hba.specs.Blocks.{of_last_block, by_blocks}
use Rattle.hba.specs.Engine.{IsEffect}

-- PxSACT after FISes.
abbrev pub active_after : ℕ → List Fis → ℕ
active_after active [] = active
active_after active (fises.H2d f ∷ later) = active_after active later
active_after active (fises.D2h f ∷ later) = active_after active later
active_after active (fises.PioSetup f ∷ later) = active_after active later
active_after active (fises.DmaSetup f ∷ later) = active_after active later
active_after active (fises.SetDeviceBits f ∷ later) = active_after (without active f.active) later

pub raised_active : (bits : ℕ) (raises : Bool) (regs : Regs) → (raised bits raises regs).active ≡ regs.active
raised_active bits true regs = refl
raised_active bits false regs = refl

pub task_active : (status error : ℕ) (regs : Regs) → (with_task status error regs).active ≡ regs.active
task_active status error regs =
    raised_active task_error_bit (status % 2 == 1) (record regs { status = status; error = error })

issued_active : (tag : ℕ) (ends : Bool) (regs : Regs) → (no_more_issued tag ends regs).active ≡ regs.active
issued_active tag true regs = refl
issued_active tag false regs = refl

pub shown_active : (tag : ℕ) (list : List Fis) (regs : Regs)
    → (all_shown tag regs list).active ≡ active_after regs.active list
shown_active tag [] regs = refl
shown_active tag (fises.H2d f ∷ later) regs = shown_active tag later regs
shown_active tag (fises.D2h f ∷ later) regs =
    let task = with_task f.status f.error regs in
    shown_active tag later (shown tag regs (fises.D2h f))
    ∙ ap (λ a. active_after a later)
    (issued_active tag (is_finished f.status) (raised register_bit f.interrupt task)
    ∙ raised_active register_bit f.interrupt task ∙ task_active f.status f.error regs)
shown_active tag (fises.PioSetup f ∷ later) regs =
    let task = with_task f.end_status f.error regs in
    shown_active tag later (shown tag regs (fises.PioSetup f))
    ∙ ap (λ a. active_after a later)
    (issued_active tag (f.to_host && is_finished f.end_status) (raised pio_setup_bit f.interrupt task)
    ∙ raised_active pio_setup_bit f.interrupt task ∙ task_active f.end_status f.error regs)
shown_active tag (fises.DmaSetup f ∷ later) regs =
    shown_active tag later (shown tag regs (fises.DmaSetup f))
    ∙ ap (λ a. active_after a later) (raised_active dma_setup_bit f.interrupt regs)
shown_active tag (fises.SetDeviceBits f ∷ later) regs =
    let task = with_task (carried regs.status f.status) f.error regs in
    shown_active tag later (shown tag regs (fises.SetDeviceBits f))
    ∙ ap (λ a. active_after (without a f.active) later)
    (raised_active device_bits_bit f.interrupt task ∙ task_active (carried regs.status f.status) f.error regs)

-- The FIS of the last block for those of all.
last_active : (n active : ℕ) (list : List Fis)
    → active_after active (map (of_last_block n) list) ≡ active_after active list
last_active n active [] = refl
last_active n active (fises.H2d f ∷ later) = last_active n active later
last_active n active (fises.D2h f ∷ later) = last_active n active later
last_active n active (fises.PioSetup f ∷ later) = last_active n active later
last_active n active (fises.DmaSetup f ∷ later) = last_active n active later
last_active n active (fises.SetDeviceBits f ∷ later) = last_active n (without active f.active) later

pub blocks_active : (n tag : ℕ) (list : List Fis) (regs : Regs)
    → (all_shown tag regs (map (of_last_block n) list)).active ≡ (all_shown tag regs list).active
blocks_active n tag list regs =
    shown_active tag (map (of_last_block n) list) regs ∙ last_active n regs.active list
    ∙ sym (shown_active tag list regs)

-- What the drive gives, as the host is told of it.
pub told_effect : (fis payload : List ℕ) (effect : Effect) (given : List Fis) (bytes : List ℕ)
    → IsEffect effect given bytes
    → IsEffect (by_blocks (Accept fis payload) effect)
    (map (of_last_block ((length payload + length bytes) / block_size)) given) bytes
told_effect fis payload effect given bytes e = record {
  fises =
      ap (λ (xs : List ℕ). map (of_last_block ((length payload + length xs) / block_size)) given) e.bytes
      ∙ ap (λ (fs : List Fis). map (of_last_block ((length payload + length effect.bytes) / block_size)) fs) e.fises;
  bytes = e.bytes;
}

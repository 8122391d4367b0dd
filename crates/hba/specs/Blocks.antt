-- PIO Setup FISes of a command whose data are several blocks (Serial ATA, PIO data-in and PIO data-out
-- command protocols; ACS-3, DRQ data block: 512 bytes).
use Rattle.std.specs.Prelude.{◌≡◌, ℕ, ◌+◌, ◌/◌, ◌||◌, zero, suc, not, nat_le, Bool, true, false, List, [], ◌∷◌, map, length}
use Rattle.fis.specs.declared.any.Fis.{Fis}
use Rattle.fis.specs.declared.any.Fis.TheVariants as fises
use Rattle.fis.specs.declared.pio_setup.PioSetup.{PioSetup}
use Rattle.hba_regs.specs.Registers.{Regs}
use Rattle.history.specs.Answers.{busy, ready}
use Rattle.history.specs.History.{Act, Accept, Complete, Reset, SoftwareReset}
use Rattle.port_history.specs.Registers.{shown, all_shown}
use Rattle.port_history.specs.Steps.{Effect}

-- How many bytes a block has.
abbrev pub block_size : ℕ
block_size = 512

-- The FIS of a block: to the device, the first has no bit I, since the host has just written the
-- command; all others have it. Behind it the device is busy, but for the last block to the host.
abbrev pub setup_of : Bool → PioSetup → ℕ → Fis
setup_of is_first f status =
    fises.PioSetup (record f { interrupt = f.to_host || not is_first; end_status = status })

-- One for each block, of so many behind the first that is left.
abbrev pub setups : Bool → PioSetup → ℕ → List Fis
setups is_first f zero = setup_of is_first f f.end_status ∷ []
setups is_first f (suc n) = setup_of is_first f busy ∷ setups false f n

-- The host's memory has one place for them, and the registers show the last: that of the last of so
-- many blocks stands for all.
abbrev pub of_last_block : ℕ → Fis → Fis
of_last_block blocks (fises.PioSetup f) =
    fises.PioSetup (record f { interrupt = f.interrupt || nat_le 2 blocks })
of_last_block blocks fis = fis

-- An act with its FISes so: its data go one way.
abbrev pub by_blocks : Act → Effect → Effect
by_blocks (Accept fis payload) effect = record effect {
  fises = map (of_last_block ((length payload + length effect.bytes) / block_size)) effect.fises;
}
by_blocks (Complete tag payload) effect = effect
by_blocks (Reset kind) effect = effect
by_blocks SoftwareReset effect = effect

-- The FISes of this drive: to the host, and to the device.
abbrev pub read_setup : PioSetup → PioSetup
read_setup f = record f { interrupt = true; to_host = true; end_status = ready }

abbrev pub write_setup : PioSetup → PioSetup
write_setup f = record f { interrupt = false; to_host = false; end_status = busy }

-- The registers after a FIS for each block, of one more than so many, are those after the last.
abbrev pub BlocksLaw : (PioSetup → PioSetup) → Type 0
BlocksLaw setup =
    (tag : ℕ) (regs : Regs) (f : PioSetup) (n : ℕ)
    → all_shown tag regs (setups true (setup f) n)
    ≡ shown tag regs (of_last_block (suc n) (fises.PioSetup (setup f)))

-- Laws over every list of operations: a command that fails, and a transfer that the policy denies, in
-- the words of the registers and of the host's memory.
use Rattle.std.specs.Prelude.{◌≡◌, ◌⊎◌, ℕ, ◌^◌, ◌-◌, ◌==◌, ◌&&◌, not, nat_le, Bool, List, [], ◌∷◌, Option, Some, None, true, false, bit_or, if◌then◌else◌}
use Rattle.fis.specs.declared.any.Fis.{Fis}
use Rattle.hba_regs.specs.declared.register.Register.{Register}
use Rattle.hba_regs.specs.declared.register.Register.TheVariants as at
use Rattle.hba_regs.specs.Registers.{register_at, has_bits, start_bit, without}
use Rattle.locking.specs.declared.range.Op.{Op}
use Rattle.trusted_cmds.specs.declared.command.Command.{Command}
use Rattle.history.specs.Answers.{errored, answer_fis, moved_fis}
use Rattle.history.specs.Decisions.{aborted, on_drive, ranges_in_force}
use Rattle.history.specs.DenialLaws.{Reaches, IsFree}
use Rattle.history.specs.History.{Accept, Complete}
use Rattle.history.specs.MethodLaws.{IsLookedAt}
use Rattle.history.specs.TransferLaws.{IsPermitted}
use Rattle.port_history.specs.Registers.{register_bit, task_error_bit}
use Rattle.hba.specs.declared.registers.Registers.{Registers}
use Rattle.host_memory.specs.Access.{Access}
use Rattle.host_memory.specs.declared.hba_memory.delivery.Arrival.{Arrival}
use Rattle.host_memory.specs.declared.hba_memory.reading.Moved.{Moved}
use Rattle.host_memory.specs.declared.hba_memory.delivery.Place.{Place}
use Rattle.host_memory.specs.Memory.{Delivers, PostsTo}
use Rattle.hba.specs.Registers.{port_at, reset_bit}
use Rattle.hba.specs.History.{facts_of, Opened, Operation, Wrote, Powered, Signed, Missed, Controlled, Asserted, Restarted, Unheard, Fetched, Completed, account, acts_of, regs_of, effect_after}

-- The registers tell the error: PxTFD has it, and PxIS has TFES.
pub record TellsError (error : ℕ) (before after : Registers) : Type 0 where
  pub status : after.port.status ≡ errored
  pub code : after.port.error ≡ error
  pub raised : after.port.interrupts
      ≡ bit_or (bit_or before.port.interrupts task_error_bit) register_bit

-- PxCI and PxSACT have each bit that they had, and the port is halted.
pub record Halts (before after : Registers) : Type 0 where
  pub issued : after.port.issued ≡ before.port.issued
  pub active : after.port.active ≡ before.port.active
  pub halted : after.is_halted ≡ true

-- Nothing reaches the memory but the FIS of the error, and no block is done.
abbrev pub GivesNothing : Place → ℕ → List Access → Arrival → Type 0
GivesNothing place error talk arrival =
    PostsTo place.to (answer_fis true errored error ∷ []) talk arrival.missed
    × (arrival.is_short ≡ false) × (arrival.is_processed ≡ false)

-- All that an act gives has arrived.
abbrev pub whole : Arrival
whole = record { is_short = false; is_processed = false; missed = None }

-- A fetched command fails with an error, in registers and memory; where memory misses something
-- behind the act, it halts all the same.
pub record FailsSo (o : Opened) (before : List Operation) (tag : ℕ) (fis payload : List ℕ)
    (error : ℕ) : Type 0 where
  pub tells : TellsError error (regs_of o before)
      (regs_of o (Fetched tag fis payload whole ∷ before))
  pub halts : (arrival : Arrival)
      → Halts (regs_of o before) (regs_of o (Fetched tag fis payload arrival ∷ before))
  pub gives : (place : Place) (brought : Moved) (talk : List Access) (arrival : Arrival)
      → Delivers place brought
      (effect_after o (account o before) (Accept fis payload)).fises
      (effect_after o (account o before) (Accept fis payload)).bytes talk arrival
      → GivesNothing place error talk arrival

-- Each command that the drive fails does so.
abbrev pub HostFailureLaw : Type 0
HostFailureLaw =
    (o : Opened) (before : List Operation) (tag : ℕ) (fis payload : List ℕ) (error : ℕ)
    → (effect_after o (account o before) (Accept fis payload)).event.failed ≡ Some error
    → FailsSo o before tag fis payload error

-- And so each command that reaches data and comes to the policy, of sectors on the drive, where a range denies it.
abbrev pub HostDenialLaw : Type 0
HostDenialLaw =
    (o : Opened) (before : List Operation) (tag : ℕ) (fis payload : List ℕ) (command : Command)
    (slot : Option ℕ) (op : Op) (lba count : ℕ)
    → let f = facts_of o (acts_of o before) in
    IsLookedAt f (Accept fis payload) command slot → Reaches command slot op lba count
    → IsFree f slot → on_drive f lba count ≡ true
    → (IsPermitted (ranges_in_force f) op lba count → ⊥)
    → FailsSo o before tag fis payload aborted

-- PxSACT after a completion: as before, or the tag's bit is cleared, and the Set Device Bits FIS of
-- the tag told it (Serial ATA, Set Device Bits FIS; AHCI 1.3.1, 3.3.13).
abbrev pub ToldByDeviceBits : ℕ → List Fis → ℕ → ℕ → Type 0
ToldByDeviceBits tag fises before after =
    (after ≡ before)
    ⊎ ((setup : Fis) × (fises ≡ setup ∷ moved_fis tag ∷ []) × (after ≡ without before (2 ^ tag)))

-- PxSACT after an operation of the engine.
abbrev pub ActiveAfter : Opened → List Operation → Operation → Type 0
ActiveAfter o before (Wrote offset value) = Unit {0}
ActiveAfter o before Powered = Unit {0}
ActiveAfter o before (Completed tag payload arrival) =
    ToldByDeviceBits tag (effect_after o (account o before) (Complete tag payload)).fises
    (regs_of o before).port.active
    (regs_of o (Completed tag payload arrival ∷ before)).port.active
ActiveAfter o before operation =
    (regs_of o (operation ∷ before)).port.active ≡ (regs_of o before).port.active

-- A bit of PxSACT falls by the Set Device Bits FIS of its own tag alone, but for what the host writes
-- and a power cycle.
abbrev pub ActiveLaw : Type 0
ActiveLaw =
    (o : Opened) (before : List Operation) (operation : Operation) → ActiveAfter o before operation

-- The host clears ST (3.3.7), or resets the HBA (3.1.2).
abbrev pub clears_start : Register → ℕ → Bool
clears_start at.Command value = not (has_bits value start_bit)
clears_start register value = false

abbrev pub clears_start_at : Option Register → ℕ → Bool
clears_start_at None value = false
clears_start_at (Some register) value = clears_start register value

abbrev pub clears_slot : ℕ → ℕ → Bool
clears_slot offset value =
    if nat_le port_at offset then clears_start_at (register_at (offset - port_at)) value
    else offset == 0x04 && has_bits value reset_bit

-- The slot whose command was fetched last, with or without its memory, since ST was cleared or a reset
-- came; else 0.
abbrev pub current_slot : List Operation → ℕ
current_slot [] = 0
current_slot (Wrote offset value ∷ before) =
    if clears_slot offset value then 0 else current_slot before
current_slot (Powered ∷ before) = 0
current_slot (Signed ∷ before) = current_slot before
current_slot (Missed None miss ∷ before) = current_slot before
current_slot (Missed (Some tag) miss ∷ before) = tag
current_slot (Controlled tag ∷ before) = tag
current_slot (Asserted tag ∷ before) = tag
current_slot (Restarted tag ∷ before) = tag
current_slot (Unheard tag ∷ before) = tag
current_slot (Fetched tag fis payload arrival ∷ before) = tag
current_slot (Completed tag payload arrival ∷ before) = current_slot before

-- PxCMD.CCS is that slot (3.3.7; 6.2.2.1 has a driver find the failed command by it).
abbrev pub CurrentLaw : Type 0
CurrentLaw = (o : Opened) (list : List Operation) → (regs_of o list).current ≡ current_slot list

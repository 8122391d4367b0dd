-- Lists of operations of an HBA, the newest first: what the host wrote, and what the engine did with
-- what it read of the host's memory. What they make of the registers and of the drive follows from
-- them and from what the HBA was opened over, alone.
use Rattle.std.specs.Prelude.{◌≡◌, ◌%◌, ◌^◌, ℕ, List, [], ◌∷◌, ◌++◌, length, Option, None, Some, if◌then◌else◌}
use Rattle.sp_cells.specs.Resets.{power_cycle, hardware}
use Rattle.history.specs.Facts.{Facts, facts}
use Rattle.history.specs.History.{Act, Accept, Complete, Reset, SoftwareReset, log}
use Rattle.history.specs.Opening.{Origin}
use Rattle.drive.specs.State.{DriveState, Agrees}
use Rattle.audit.specs.declared.reason.Why.{Why}
use Rattle.fis.specs.H2d.{h2d_at}
use Rattle.history.specs.Events.{Event}
use Rattle.hba.specs.declared.work.Heard.{Heard}
use Rattle.port_history.specs.Steps.{Effect, effect_by}
use Rattle.hba.specs.Blocks.{by_blocks}
use Rattle.hba.specs.declared.registers.Registers.{Registers}
use Rattle.host_memory.specs.declared.width.AddressWidth.{AddressWidth}
use Rattle.host_memory.specs.declared.width.AddressWidth.TheVariants as widths
use Rattle.host_memory.specs.declared.hba_memory.miss.Miss.{Miss}
use Rattle.host_memory.specs.declared.hba_memory.delivery.Arrival.{Arrival}
use Rattle.hba.specs.Registers.{reset_registers, written_at, write_resets}
use Rattle.hba.specs.Showing.{signed, faulted, beginning, controlled, fetching, arrived}
use Rattle.hba.specs.SoftwareReset.{asserted, reset_ended, unheard}

-- The host's write of a register; a power cycle; the device's signature; memory that failed before
-- the drive's act, of the fetch under a tag or of a completion; a FIS that carries no command; one
-- that sets SRST, and one that clears it; a command's FIS that a device in reset does not take; a
-- command's FIS, with the data that came with it, and how what the act gave arrived; the completion of
-- a held command, with the same.
pub data Operation : Type 0 where
  Wrote : (offset value : ℕ) → Operation
  Powered : Operation
  Signed : Operation
  Missed : (fetched : Option ℕ) (miss : Miss) → Operation
  Controlled : (tag : ℕ) → Operation
  Asserted : (tag : ℕ) → Operation
  Restarted : (tag : ℕ) → Operation
  Unheard : (tag : ℕ) → Operation
  Fetched : (tag : ℕ) (fis payload : List ℕ) (arrival : Arrival) → Operation
  Completed : (tag : ℕ) (payload : List ℕ) (arrival : Arrival) → Operation

-- What an HBA was opened over: what its drive started from, and the acts that it had done before, the newest first; and how
-- many bits its addresses have.
pub record Opened : Type 0 where
  pub origin : Origin
  pub earlier : List Act
  pub width : AddressWidth

-- a drive that had done none, by an HBA with such addresses
abbrev pub over_new_by : AddressWidth → Origin → Opened
over_new_by width origin = record { origin = origin; earlier = []; width = width }

-- whose addresses are below 4 GiB
abbrev pub over_new : Origin → Opened
over_new origin = over_new_by widths.Bits32 origin

-- All acts of the drive, where it has done these since the HBA was opened; the events of all of them, and the facts that
-- these leave.
abbrev pub all_acts : Opened → List Act → List Act
all_acts o acts = acts ++ o.earlier

abbrev pub whole_log : Opened → List Act → List Event
whole_log o acts = log o.origin (all_acts o acts)

abbrev pub facts_of : Opened → List Act → Facts
facts_of o acts = facts o.origin (whole_log o acts)

-- What operations have done: the acts of the drive since the HBA was opened, the newest first, and the registers.
pub record Account : Type 0 where
  pub acts : List Act
  pub registers : Registers

-- What an act gives: of the drive, and what of its FISes the host is told.
abbrev pub drive_effect : Opened → Account → Act → Effect
drive_effect o a act = effect_by (facts_of o a.acts) act

abbrev pub effect_after : Opened → Account → Act → Effect
effect_after o a act = by_blocks act (drive_effect o a act)

-- An act of the drive for the command of a tag.
abbrev pub acting : ℕ → Act → Arrival → Effect → Account → Account
acting tag act arrival effect a = record {
  acts = act ∷ a.acts;
  registers = arrived tag effect.fises arrival a.registers;
}

abbrev pub account_after : Opened → Account → Operation → Account
account_after o a (Wrote offset value) = record {
  acts = (if write_resets a.registers offset value then Reset hardware ∷ a.acts else a.acts);
  registers = written_at a.registers offset value;
}
account_after o a Powered = record {
  acts = Reset power_cycle
      ∷ a.acts;
  registers = reset_registers a.registers.width;
}
account_after o a Signed = record a { registers = signed a.registers }
account_after o a (Missed fetched miss) = record a {
  registers = faulted miss (beginning fetched a.registers);
}
account_after o a (Controlled tag) = record a { registers = controlled tag a.registers }
account_after o a (Asserted tag) = record a { registers = asserted tag a.registers }
account_after o a (Restarted tag) = record {
  acts = SoftwareReset ∷ a.acts;
  registers = reset_ended tag a.registers;
}
account_after o a (Unheard tag) = record a { registers = unheard tag a.registers }
account_after o a (Fetched tag fis payload arrival) =
    acting tag (Accept fis payload) arrival (effect_after o a (Accept fis payload))
    (record a { registers = fetching tag a.registers })
account_after o a (Completed tag payload arrival) =
    acting tag (Complete tag payload) arrival (effect_after o a (Complete tag payload)) a

abbrev pub account : Opened → List Operation → Account
account o [] = record { acts = []; registers = reset_registers o.width }
account o (operation ∷ before) = account_after o (account o before) operation

abbrev pub acts_of : Opened → List Operation → List Act
acts_of o list = (account o list).acts

abbrev pub regs_of : Opened → List Operation → Registers
regs_of o list = (account o list).registers

-- What contracts see of an HBA.
pub record State : Type 0 where
  pub drive : DriveState
  pub acts : ℕ
  pub registers : Registers

-- How many acts there are, as 64 bits count them.
abbrev pub act_count : List Act → ℕ
act_count acts = length acts % 2 ^ 64

-- The drive is that of a list of acts behind the earlier ones, and these acts are counted.
pub record HasActed (hba : State) (o : Opened) (acts : List Act) : Type 0 where
  pub drive : Agrees hba.drive o.origin (all_acts o acts)
  pub count : hba.acts ≡ act_count acts

-- Drive and registers are those of a list of operations.
pub record AgreesHba (hba : State) (o : Opened) (list : List Operation) : Type 0 where
  pub acted : HasActed hba o (acts_of o list)
  pub registers : hba.registers ≡ regs_of o list

-- What denied the command that an operation fetched, if one did.
abbrev pub operation_denied : Opened → Account → Operation → Option Why
operation_denied o a (Fetched tag fis payload arrival) =
    (effect_after o a (Accept fis payload)).event.denied
operation_denied o a _ = None

-- That denial is told.
abbrev pub TellsDenial : Option Why → Opened → Account → Operation → Type 0
TellsDenial denied o a operation = denied ≡ operation_denied o a operation

-- The command that the drive was given is told: its FIS as it is read, what came with it, and by what its event was
-- refused, if it was.
pub record HeardSo (heard : Heard) (fis bytes : List ℕ) (event : Event) : Type 0 where
  pub header : heard.header ≡ h2d_at fis
  pub payload : heard.payload.items ≡ bytes
  pub denied : heard.denied ≡ event.denied
  pub rule : heard.rule ≡ event.rule

abbrev pub IsHeardOf : Option Heard → List ℕ → List ℕ → Event → Type 0
IsHeardOf None fis payload event = ⊥
IsHeardOf (Some heard) fis payload event = HeardSo heard fis payload event

-- A fetch of a command tells it, and no other operation tells one.
abbrev pub IsHeard : Option Heard → Opened → Account → Operation → Type 0
IsHeard heard o a (Fetched tag fis payload arrival) =
    IsHeardOf heard fis payload (effect_after o a (Accept fis payload)).event
IsHeard heard o a _ = heard ≡ None

-- What denied the command that is told.
abbrev pub denial_heard : Option Heard → Option Why
denial_heard None = None
denial_heard (Some heard) = heard.denied

-- Whatever list the HBA agreed with, it agrees with that list and the operation in front.
abbrev pub Adds : Operation → State → State → Type 0
Adds operation old new =
    (o : Opened) (list : List Operation) → AgreesHba old o list → AgreesHba new o (operation ∷ list)

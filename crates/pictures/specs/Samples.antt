-- What a look at a drive or a port shows.
use Rattle.std.specs.Prelude.{ℕ, ◌+◌, ◌==◌, Bool, ◌&&◌, List, is_some, unwrap_or, Option, None, Some}
use Rattle.sp_cells.specs.declared.names.Sp.{Sp}
use Rattle.sp_cells.specs.declared.names.Sp.TheVariants.{Admin, Locking}
use Rattle.sp_cells.specs.declared.names.TheConstants.{RANGES}
use Rattle.sp_cells.specs.Flat.{LookUp}
use Rattle.sp_cells.specs.Ranges.{read_lock_enabled, write_lock_enabled, read_locked, write_locked}
use Rattle.locking.specs.Ranges.{is_shadow_up}
use Rattle.fis.specs.Tags.{slot_count}
use Rattle.hba_regs.specs.Registers.{Regs, word_at}
use Rattle.history.specs.Facts.{Facts, facts}
use Rattle.history.specs.History.{Act, log}
use Rattle.history.specs.Opening.{Origin}
use Rattle.port_history.specs.Registers.{registers}
use Rattle.port_history.specs.Steps.{trace, acts, stage}
use Rattle.port_history.specs.declared.stages.Stage.{Stage}
use Rattle.port_history.specs.declared.stages.Stage.TheVariants.{Free}
use Rattle.port_history.specs.declared.step.Step.{Step}
use Rattle.pictures.specs.Lists.{values_below}
use Rattle.pictures.specs.declared.samples.calls.Calls.{Calls}
use Rattle.pictures.specs.declared.samples.locks.Locks.{Locks}
use Rattle.pictures.specs.declared.samples.registers.Registers.{Registers}

-- what is open on an SP: a session that lives (Core 2.01, section 3.3.7), a transaction (section 3.3.9)
abbrev pub calls_on : Facts → Sp → Calls
calls_on f sp = record {
  session = is_some (f.session_on sp);
  transaction = is_some (f.open_on sp);
}

-- which locks of a range are in force: they are enabled and set (Opal SSC 2.01, section 4.3.5.2)
abbrev pub locks_by : LookUp → ℕ → Locks
locks_by look range = record {
  read = (read_lock_enabled look range == 1) && (read_locked look range == 1);
  write = (write_lock_enabled look range == 1) && (write_locked look range == 1);
}

-- the registers of a port by their offsets (AHCI 1.3.1, section 3.3)
abbrev pub register_word : Regs → ℕ → ℕ
register_word regs offset = unwrap_or (word_at regs offset) 0

abbrev pub registers_of : Regs → Registers
registers_of regs = record {
  interrupts = register_word regs 0x10;
  enabled = register_word regs 0x14;
  command = register_word regs 0x18;
  task = register_word regs 0x20;
  active = register_word regs 0x34;
  issued = register_word regs 0x38;
}

-- What one look shows: the stage of each slot; which tags the drive holds; whether the queue has failed; what is open on
-- each SP; the locks of each range, the global range first; whether the shadow MBR is up; and the registers, of a port.
pub record Sample : Type 0 where
  pub slots : List Stage
  pub held : List Bool
  pub failed : Bool
  pub admin : Calls
  pub locking : Calls
  pub locks : List Locks
  pub shadow : Bool
  pub registers : Option Registers

-- these stages and registers, and what the facts say of the drive
abbrev pub stages_with : List Stage → Option Registers → Facts → Sample
stages_with slots registers f = record {
  slots = slots;
  held = values_below (λ tag. is_some (f.held tag)) slot_count;
  failed = is_some f.failure;
  admin = calls_on f Admin;
  locking = calls_on f Locking;
  locks = values_below (locks_by f.rows) (RANGES + 1);
  shadow = is_shadow_up f.rows;
  registers = registers;
}

-- what is open on one of the two SPs
abbrev pub calls_in : Sample → Sp → Calls
calls_in sample Admin = sample.admin
calls_in sample Locking = sample.locking

-- a drive after these acts
abbrev pub drive_sample : Origin → List Act → Sample
drive_sample o list = stages_with (values_below (λ _. Free) slot_count) None (facts o (log o list))

-- a port after these steps
abbrev pub port_sample : Origin → List Step → Sample
port_sample o list =
    stages_with (values_below (stage (trace o list)) slot_count)
    (Some (registers_of (registers (trace o list))))
    (facts o (log o (acts o list)))

-- What a look at a controller shows.
use Rattle.std.specs.Prelude.{ℕ, List}
use Rattle.hba.specs.History.{all_acts, Opened, Operation, acts_of, regs_of}
use Rattle.hba.specs.Registers.{word_at, line}
use Rattle.hba.specs.declared.registers.Registers.{Registers}
use Rattle.pictures.specs.Samples.{drive_sample}
use Rattle.hba_waves.specs.declared.words.Words.{Words}
use Rattle.hba_waves.specs.declared.look.Look.{Look}

-- the registers by their offsets (AHCI 1.3.1, sections 3.1 and 3.3); those of the port stand from 100h on
abbrev pub words_shown : Registers → Words
words_shown regs = record {
  control = word_at regs 0x4;
  pending = word_at regs 0x8;
  interrupts = word_at regs 0x110;
  enabled = word_at regs 0x114;
  command = word_at regs 0x118;
  task = word_at regs 0x120;
  signature = word_at regs 0x124;
  link = word_at regs 0x128;
  errors = word_at regs 0x130;
  active = word_at regs 0x134;
  issued = word_at regs 0x138;
}

-- a controller after these operations: its drive after their acts, its registers, and the interrupt line
abbrev pub look_after : Opened → List Operation → Look
look_after o list = record {
  drive = drive_sample o.origin (all_acts o (acts_of o list));
  words = words_shown (regs_of o list);
  line = line (regs_of o list);
}

-- what a line of a host left behind: its number, and what a look shows then; that of the start has the number 0
pub record Shown : Type 0 where
  pub number : ℕ
  pub look : Look

-- behind a line of this number, by the operations up to it
abbrev pub moment_after : Opened → ℕ → List Operation → Shown
moment_after o number list = record { number = number; look = look_after o list }

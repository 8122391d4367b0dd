-- The signals of a dump: their names, how many bits each has, and its value in a sample.
use Rattle.std.specs.Prelude.{ℕ, ◌+◌, ◌*◌, ◌-◌, ◌==◌, nat_le, Bool, true, false, not, List, [], ◌++◌, Option, Some, None, slice_get, bit_and, codes, decimal, if◌then◌else◌}
use Rattle.sp_cells.specs.declared.names.Sp.{Sp}
use Rattle.sp_cells.specs.declared.names.Sp.TheVariants.{Admin, Locking}
use Rattle.port_history.specs.declared.stages.Stage.{Stage}
use Rattle.port_history.specs.declared.stages.Stage.TheVariants as stages
use Rattle.pictures.specs.Names.{numbered_name}
use Rattle.pictures.specs.Samples.{Sample, calls_in}
use Rattle.pictures.specs.declared.samples.locks.Locks.{Locks}
use Rattle.pictures.specs.declared.samples.registers.Registers.{Registers}
use Rattle.pictures.specs.declared.waved.wave.Wave.{Wave}
use Rattle.pictures.specs.declared.waved.wave.Wave.TheVariants.{Issued, Active, Interrupts, Enabled, Task, Command, Interrupt, Failure, Session, Transaction, Shadow, Held, Slot, Range}

-- the signals from the first: registers (AHCI 1.3.1, section 3.3), the interrupt, the queue, both SPs, the shadow, what is
-- held under each tag, the stage of each slot, and the locks of each range
abbrev pub wave_at : ℕ → Wave
wave_at place =
    if place == 0 then Issued
    else if place == 1 then Active
    else if place == 2 then Interrupts
    else if place == 3 then Enabled
    else if place == 4 then Task
    else if place == 5 then Command
    else if place == 6 then Interrupt
    else if place == 7 then Failure
    else if place == 8 then Session Admin
    else if place == 9 then Session Locking
    else if place == 10 then Transaction Admin
    else if place == 11 then Transaction Locking
    else if place == 12 then Shadow
    else if nat_le place 44 then Held (place - 13)
    else if nat_le place 76 then Slot (place - 45)
    else Range (place - 77)

abbrev pub wave_count : ℕ
wave_count = 94

unfoldable pub wave_word : Wave → List ℕ
wave_word Issued = codes "PxCI"
wave_word Active = codes "PxSACT"
wave_word Interrupts = codes "PxIS"
wave_word Enabled = codes "PxIE"
wave_word Task = codes "PxTFD"
wave_word Command = codes "PxCMD"
wave_word Interrupt = codes "interrupt"
wave_word Failure = codes "queue_failed"
wave_word (Session Admin) = codes "admin_session"
wave_word (Session Locking) = codes "locking_session"
wave_word (Transaction Admin) = codes "admin_transaction"
wave_word (Transaction Locking) = codes "locking_transaction"
wave_word Shadow = codes "shadow"
wave_word (Held tag) = codes "held"
wave_word (Slot tag) = codes "slot"
wave_word (Range range) = codes "range"

abbrev pub wave_number : Wave → Option ℕ
wave_number (Held tag) = Some tag
wave_number (Slot tag) = Some tag
wave_number (Range range) = Some range
wave_number _ = None

abbrev pub wave_name : Wave → List ℕ
wave_name wave = numbered_name (wave_word wave) (wave_number wave)

-- a register has 32 bits, a stage 3, the locks of a range 2, and a flag 1
abbrev pub wave_bits : Wave → ℕ
wave_bits Issued = 32
wave_bits Active = 32
wave_bits Interrupts = 32
wave_bits Enabled = 32
wave_bits Task = 32
wave_bits Command = 32
wave_bits (Slot tag) = 3
wave_bits (Range range) = 2
wave_bits _ = 1

abbrev pub flag_value : Bool → ℕ
flag_value holds = if holds then 1 else 0

-- the stage of a slot: 0 free, 1 prepared, 2 issued, 3 accepted, 4 answered
abbrev pub stage_value : Option Stage → ℕ
stage_value None = 0
stage_value (Some stages.Free) = 0
stage_value (Some (stages.Prepared put)) = 1
stage_value (Some (stages.Issued put)) = 2
stage_value (Some (stages.Accepted put)) = 3
stage_value (Some (stages.Answered put)) = 4

-- the locks of a range in force: bit 0 tells that reads are locked, bit 1 that writes are
abbrev pub locks_value : Option Locks → ℕ
locks_value None = 0
locks_value (Some locks) = flag_value locks.read + 2 * flag_value locks.write

abbrev pub held_value : Option Bool → ℕ
held_value None = 0
held_value (Some holds) = flag_value holds

-- The registers of a port. The port interrupts where an enabled bit of PxIS is set (AHCI 1.3.1, section 10.7). A drive
-- alone has none.
abbrev pub register_value : Wave → Registers → ℕ
register_value Issued r = r.issued
register_value Active r = r.active
register_value Interrupts r = r.interrupts
register_value Enabled r = r.enabled
register_value Task r = r.task
register_value Command r = r.command
register_value Interrupt r = flag_value (not (bit_and r.interrupts r.enabled == 0))
register_value _ r = 0

abbrev pub port_value : Wave → Option Registers → ℕ
port_value wave None = 0
port_value wave (Some r) = register_value wave r

-- the value of a signal in a sample
abbrev pub wave_value : Wave → Sample → ℕ
wave_value Failure s = flag_value s.failed
wave_value (Session sp) s = flag_value (calls_in s sp).session
wave_value (Transaction sp) s = flag_value (calls_in s sp).transaction
wave_value Shadow s = flag_value s.shadow
wave_value (Held tag) s = held_value (slice_get s.held tag)
wave_value (Slot tag) s = stage_value (slice_get s.slots tag)
wave_value (Range range) s = locks_value (slice_get s.locks range)
wave_value wave s = port_value wave s.registers

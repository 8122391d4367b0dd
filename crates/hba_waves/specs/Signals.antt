-- The signals of a controller's dump: their names, how many bits each has, and its value in a look.
use Rattle.std.specs.Prelude.{ℕ, ◌+◌, ◌-◌, ◌==◌, nat_le, List, [], codes, if◌then◌else◌}
use Rattle.pictures.specs.Waves.{wave_at, wave_name, wave_bits, wave_value, flag_value}
use Rattle.hba_waves.specs.declared.look.Look.{Look}
use Rattle.hba_waves.specs.declared.words.Words.{Words}
use Rattle.hba_waves.specs.declared.signal.Signal.{Signal}
use Rattle.hba_waves.specs.declared.signal.Signal.TheVariants.{Issued, Active, Interrupts, Enabled, Task, Command, Link, Errors, Signature, Control, Pending, Line, Drive}

-- The signals from the first: registers of the controller and of its port by their offsets (AHCI 1.3.1, sections 3.1 and
-- 3.3), the interrupt line, and of the drive what the dump of a script shows, but for the stages of slots: a driver has none.
abbrev pub signal_at : ℕ → Signal
signal_at place =
    if place == 0 then Control
    else if place == 1 then Pending
    else if place == 2 then Interrupts
    else if place == 3 then Enabled
    else if place == 4 then Command
    else if place == 5 then Task
    else if place == 6 then Signature
    else if place == 7 then Link
    else if place == 8 then Errors
    else if place == 9 then Active
    else if place == 10 then Issued
    else if place == 11 then Line
    else if nat_le place 49 then Drive (wave_at (place - 5))
    else Drive (wave_at (place + 27))

abbrev pub signal_count : ℕ
signal_count = 67

unfoldable pub register_name : Signal → List ℕ
register_name Issued = codes "PxCI"
register_name Active = codes "PxSACT"
register_name Interrupts = codes "PxIS"
register_name Enabled = codes "PxIE"
register_name Task = codes "PxTFD"
register_name Command = codes "PxCMD"
register_name Link = codes "PxSSTS"
register_name Errors = codes "PxSERR"
register_name Signature = codes "PxSIG"
register_name Control = codes "GHC"
register_name Pending = codes "IS"
register_name Line = codes "interrupt"
register_name (Drive wave) = []

abbrev pub signal_name : Signal → List ℕ
signal_name (Drive wave) = wave_name wave
signal_name signal = register_name signal

-- a register has 32 bits, the interrupt line 1
abbrev pub signal_bits : Signal → ℕ
signal_bits (Drive wave) = wave_bits wave
signal_bits Line = 1
signal_bits signal = 32

abbrev pub word_value : Signal → Words → ℕ
word_value Issued words = words.issued
word_value Active words = words.active
word_value Interrupts words = words.interrupts
word_value Enabled words = words.enabled
word_value Task words = words.task
word_value Command words = words.command
word_value Link words = words.link
word_value Errors words = words.errors
word_value Signature words = words.signature
word_value Control words = words.control
word_value Pending words = words.pending
word_value Line words = 0
word_value (Drive wave) words = 0

-- the value of a signal in a look
abbrev pub signal_value : Signal → Look → ℕ
signal_value (Drive wave) look = wave_value wave look.drive
signal_value Line look = flag_value look.line
signal_value signal look = word_value signal look.words

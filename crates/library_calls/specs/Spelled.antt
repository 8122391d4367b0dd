-- The FISes of commands that a caller from outside asks for.
use Rattle.std.specs.Prelude.{◌≡◌, ℕ, Bool, true, false, ◌==◌, ◌&&◌, nat_lt, nat_le, List, if◌then◌else◌, Option, Some, None}
use Rattle.basics.specs.Addresses.{address_limit}
use Rattle.fis.specs.Tags.{slot_count}
use Rattle.fis.specs.H2d.{IsH2dSpelling}
use Rattle.trusted_cmds.specs.Commands.{fis_of, most_sectors}
use Rattle.trusted_cmds.specs.declared.command.Command.{Command}
use Rattle.trusted_cmds.specs.declared.command.Command.TheVariants.{ReadQueued, WriteQueued, ReadDma, WriteDma, Send, Receive, Identify, ReadLog10, Flush}
use Rattle.library_calls.specs.declared.byte_calls.count.Count.{Count}
use Rattle.library_calls.specs.declared.byte_calls.error.CallError.TheVariants.{Tag, Number}
use Rattle.library_calls.specs.Counts.{refused_count}
use Rattle.library_calls.specs.Copies.{IsCopied}

-- a command can name these sectors
abbrev pub names_sectors : ℕ → ℕ → Bool
names_sectors lba count = nat_lt lba address_limit && nat_le 1 count && nat_le count most_sectors

-- the transfer of a number
abbrev pub transfer_asked : ℕ → ℕ → ℕ → Option Command
transfer_asked kind lba count =
    if kind == 0 then Some (ReadQueued lba count)
    else (if kind == 1 then Some (WriteQueued lba count)
    else (if kind == 2 then Some (ReadDma lba count)
    else (if kind == 3 then Some (WriteDma lba count) else None)))

-- the command of a number
abbrev pub command_asked : ℕ → ℕ → ℕ → Option Command
command_asked kind lba count =
    if kind == 4 then Some Identify
    else (if kind == 5 then Some (ReadLog10 true)
    else (if kind == 6 then Some Flush
    else (if names_sectors lba count then transfer_asked kind lba count else None)))

abbrev pub trusted_asked : Bool → ℕ → ℕ → ℕ → Command
trusted_asked true protocol sp_specific blocks = Send protocol sp_specific blocks true
trusted_asked false protocol sp_specific blocks = Receive protocol sp_specific blocks true

-- The FIS of a command was copied.
abbrev pub SpelledAs : Command → ℕ → List ℕ → List ℕ → Count → Type 0
SpelledAs command tag old new count = (bytes : List ℕ) × IsH2dSpelling bytes (fis_of command tag)
    × IsCopied bytes old new count

-- It was, where there is such a command and such a tag.
abbrev pub AskedUnder : Bool → Option Command → ℕ → List ℕ → List ℕ → Count → Type 0
AskedUnder false command tag old new count = (count ≡ refused_count Tag) × (new ≡ old)
AskedUnder true None tag old new count = (count ≡ refused_count Number) × (new ≡ old)
AskedUnder true (Some command) tag old new count = SpelledAs command tag old new count

abbrev pub AskedAs : Option Command → ℕ → List ℕ → List ℕ → Count → Type 0
AskedAs command tag old new count = AskedUnder (nat_lt tag slot_count) command tag old new count

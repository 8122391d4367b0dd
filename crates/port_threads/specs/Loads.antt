-- How many clients make how many rounds, as the command line writes it.
use Rattle.std.specs.Prelude.{◌≡◌, ℕ, ◌==◌, List, Option, None, Some, is_some, true, if◌then◌else◌}
use Rattle.script_lines.specs.Numbers.{number_up_to}
use Rattle.port_threads.specs.declared.load.LoadFault.{LoadFault}
use Rattle.port_threads.specs.declared.load.LoadFault.TheVariants.{Clients, Rounds}

-- a client for each command slot of a port (AHCI 1.3.1, 3.1.1)
abbrev pub most_clients : ℕ
most_clients = 32

abbrev pub most_rounds : ℕ
most_rounds = 1000

-- the load that stands where none is given
abbrev pub default_clients : ℕ
default_clients = 2

abbrev pub default_rounds : ℕ
default_rounds = 100

-- a number that is not 0
abbrev pub but_zero : Option ℕ → Option ℕ
but_zero None = None
but_zero (Some n) = if n == 0 then None else Some n

-- the number from 1 up to so much that the text writes
abbrev pub from_1_to : ℕ → List ℕ → Option ℕ
from_1_to most text = but_zero (number_up_to most text)

-- the texts write both numbers
abbrev pub WritesLoad : List ℕ → List ℕ → ℕ → ℕ → Type 0
WritesLoad clients_text rounds_text clients rounds =
    (from_1_to most_clients clients_text ≡ Some clients)
    × (from_1_to most_rounds rounds_text ≡ Some rounds)

-- the fault is the first one of the texts
abbrev pub IsFirstLoadFault : List ℕ → List ℕ → LoadFault → Type 0
IsFirstLoadFault clients_text rounds_text Clients = from_1_to most_clients clients_text ≡ None
IsFirstLoadFault clients_text rounds_text Rounds =
    (is_some (from_1_to most_clients clients_text) ≡ true)
    × (from_1_to most_rounds rounds_text ≡ None)

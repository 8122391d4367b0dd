-- The host's memory, as commands and the drive's FISes leave it (AHCI 1.3.1, 4.2).
use Rattle.std.specs.Prelude.{◌≡◌, ℕ, ◌==◌, Bool, List, [], ◌∷◌, length, Option, Some, None, if◌then◌else◌}
use Rattle.fis.specs.Fis.{IsSpelling}
use Rattle.fis.specs.declared.any.Fis.{Fis}
use Rattle.slots.specs.Fetch.{HoldsCommand, IsApartFromParts}
use Rattle.slots.specs.Layout.{memory_part, header_place, header_size, table_place, command_table_size, buffer_place, buffer_size, received_at, received_size, received_place, fis_length}
use Rattle.slots.specs.declared.fetched.Fetched.{Fetched}
use Rattle.trusted_cmds.specs.declared.command.Command.{Command}
use Rattle.port_history.specs.Requests.{command_fis, to_device, bytes_moved}
use Rattle.port_history.specs.declared.stages.Put.{Put}
use Rattle.port.specs.Answers.{buffer_front}

-- Nothing but received FISes changed.
abbrev pub AreSameButReceived : List ℕ → List ℕ → Type 0
AreSameButReceived old new =
    (place n : ℕ) → IsApartFromParts place n received_at received_size
    → memory_part new place n ≡ memory_part old place n

-- Nothing but the buffer of a slot changed.
abbrev pub AreSameButBuffer : List ℕ → List ℕ → ℕ → Type 0
AreSameButBuffer old new tag =
    (place n : ℕ) → IsApartFromParts place n (buffer_place tag) buffer_size
    → memory_part new place n ≡ memory_part old place n

-- Nothing but the buffer of a slot and received FISes changed.
abbrev pub AreSameButDone : List ℕ → List ℕ → ℕ → Type 0
AreSameButDone old new tag =
    (place n : ℕ) → IsApartFromParts place n received_at received_size
    → IsApartFromParts place n (buffer_place tag) buffer_size
    → memory_part new place n ≡ memory_part old place n

-- Nothing but the command of a slot, and its buffer, changed.
abbrev pub AreSameButSlot : List ℕ → List ℕ → ℕ → Type 0
AreSameButSlot old new tag =
    (place n : ℕ) → IsApartFromParts place n (header_place tag) header_size
    → IsApartFromParts place n (table_place tag) command_table_size
    → IsApartFromParts place n (buffer_place tag) buffer_size
    → memory_part new place n ≡ memory_part old place n

-- While a command waits in its slot, the memory holds its FIS, its direction and length, and its data.
pub record IsLaid (memory : List ℕ) (tag : ℕ) (command : Command) (bytes : List ℕ) : Type 0 where
  pub slot : HoldsCommand memory tag (command_fis command tag) (to_device command)
      (bytes_moved command)
  pub buffer : buffer_front memory tag (length bytes) ≡ bytes

-- What the device fetches of it.
abbrev pub fetched_of : Put → ℕ → Fetched
fetched_of put tag = record {
  fis = command_fis put.command tag;
  write = to_device put.command;
  len = bytes_moved put.command;
}

-- The first of a list that stands at a place among the received FISes.
abbrev pub first_at : ℕ → List Fis → Option Fis
first_at place [] = None
first_at place (fis ∷ later) = if received_place fis == place then Some fis
    else first_at place later

-- Among the received FISes each place has the latest that belongs there, where the newest comes first.
abbrev pub IsReceived : List ℕ → List Fis → Type 0
IsReceived memory sent =
    (fis : Fis) → first_at (received_place fis) sent ≡ Some fis
    → IsSpelling (memory_part memory (received_place fis) (fis_length fis)) fis

-- What a request asks of the device, and the bytes of the FISes by which the port asks it.
use Rattle.std.specs.Prelude.{ℕ, zero, suc, ◌+◌, ◌*◌, ◌/◌, ◌%◌, ◌==◌, ◌&&◌, nat_le, nat_lt, Bool, true, false, List, [], ◌∷◌, length}
use Rattle.basics.specs.Addresses.{address_limit}
use Rattle.fis.specs.Bytes.{bit}
use Rattle.fis.specs.Types.{h2d_type}
use Rattle.fis.specs.declared.h2d.RegH2d.{RegH2d}
use Rattle.trusted_cmds.specs.declared.command.Command.{Command}
use Rattle.trusted_cmds.specs.declared.command.Command.TheVariants as commands
use Rattle.trusted_cmds.specs.Commands.{sector_size, fis_of, pages_asked}
use Rattle.port_history.specs.declared.request.Request.{Request}
use Rattle.port_history.specs.declared.request.Request.TheVariants.{Read, ReadDma, Write, WriteDma, Send, Receive, Identify, Flush}
use Rattle.port_history.specs.declared.request.Answer.{Answer}
use Rattle.port_history.specs.declared.request.Answer.TheVariants.{Done}

-- How many blocks a transfer of a port has at most.
abbrev pub most_blocks : ℕ
most_blocks = 256

-- How many blocks bytes are.
abbrev pub blocks_in : List ℕ → ℕ
blocks_in bytes = length bytes / sector_size

-- The command of a request: trusted commands in their forms by DMA.
abbrev pub request_command : Request → Command
request_command (Read lba count) = commands.ReadQueued lba count
request_command (ReadDma lba count) = commands.ReadDma lba count
request_command (Write lba bytes) = commands.WriteQueued lba (blocks_in bytes)
request_command (WriteDma lba bytes) = commands.WriteDma lba (blocks_in bytes)
request_command (Send protocol com_id bytes) = commands.Send protocol com_id (blocks_in bytes) true
request_command (Receive protocol com_id blocks) = commands.Receive protocol com_id blocks true
request_command Identify = commands.Identify
request_command Flush = commands.Flush

-- The data that go to the device.
abbrev pub request_payload : Request → List ℕ
request_payload (Read lba count) = []
request_payload (ReadDma lba count) = []
request_payload (Write lba bytes) = bytes
request_payload (WriteDma lba bytes) = bytes
request_payload (Send protocol com_id bytes) = bytes
request_payload (Receive protocol com_id blocks) = []
request_payload Identify = []
request_payload Flush = []

-- 1 to 256 whole blocks, from an address of 48 bits on.
abbrev pub is_address : ℕ → Bool
is_address lba = nat_lt lba address_limit

abbrev pub are_blocks : ℕ → Bool
are_blocks count = nat_le 1 count && nat_le count most_blocks

abbrev pub are_whole : List ℕ → Bool
are_whole bytes = length bytes % sector_size == 0 && are_blocks (blocks_in bytes)

abbrev pub is_sized : Request → Bool
is_sized (Read lba count) = are_blocks count && is_address lba
is_sized (ReadDma lba count) = are_blocks count && is_address lba
is_sized (Write lba bytes) = are_whole bytes && is_address lba
is_sized (WriteDma lba bytes) = are_whole bytes && is_address lba
is_sized (Send protocol com_id bytes) = are_whole bytes
is_sized (Receive protocol com_id blocks) = are_blocks blocks
is_sized Identify = true
is_sized Flush = true

-- Whether the data of a command go to the device, and how many bytes move (ACS-3, the commands'
-- tables of inputs; IDENTIFY DEVICE gives one block).
abbrev pub to_device : Command → Bool
to_device (commands.WriteQueued lba count) = true
to_device (commands.WriteDma lba count) = true
to_device (commands.WritePio lba count) = true
to_device (commands.Trim blocks) = true
to_device (commands.Send protocol com_id blocks dma) = true
to_device _ = false

abbrev pub blocks_moved : Command → ℕ
blocks_moved (commands.ReadQueued lba count) = count
blocks_moved (commands.WriteQueued lba count) = count
blocks_moved (commands.ReadDma lba count) = count
blocks_moved (commands.WriteDma lba count) = count
blocks_moved (commands.ReadPio lba count) = count
blocks_moved (commands.WritePio lba count) = count
blocks_moved (commands.Trim blocks) = blocks
blocks_moved (commands.Send protocol com_id blocks dma) = blocks
blocks_moved (commands.Receive protocol com_id blocks dma) = blocks
blocks_moved commands.Identify = 1
blocks_moved (commands.ReadLog10 dma) = 1
blocks_moved (commands.ReadLog pages dma) = pages_asked pages
blocks_moved _ = 0

abbrev pub bytes_moved : Command → ℕ
bytes_moved command = sector_size * blocks_moved command

-- What is left of a number behind so many of its lowest bytes.
abbrev pub behind : ℕ → ℕ → ℕ
behind zero n = n
behind (suc k) n = behind k (n / 256)

-- The bytes of a Register FIS to the device (Serial ATA, "Register - Host to Device"): its numbers
-- from the lowest byte on, and zeros in what no field names.
abbrev pub fis_bytes : RegH2d → List ℕ
fis_bytes h =
    h2d_type ∷ (128 * bit h.is_command + h.port) ∷ h.command ∷ h.feature % 256
    ∷ h.lba % 256 ∷ behind 1 h.lba % 256 ∷ behind 2 h.lba % 256 ∷ h.device
    ∷ behind 3 h.lba % 256 ∷ behind 4 h.lba % 256 ∷ behind 5 h.lba ∷ behind 1 h.feature
    ∷ h.count % 256 ∷ behind 1 h.count ∷ h.icc ∷ h.control
    ∷ 0 ∷ 0 ∷ 0 ∷ 0 ∷ []

-- The FIS that carries a command under a tag, and the one that reads log page 10h in its form by
-- DMA.
abbrev pub command_fis : Command → ℕ → List ℕ
command_fis command tag = fis_bytes (fis_of command tag)

abbrev pub log_fis : List ℕ
log_fis = command_fis (commands.ReadLog10 true) 0

-- The reply of every step but a Take.
abbrev pub no_bytes : Answer
no_bytes = Done []

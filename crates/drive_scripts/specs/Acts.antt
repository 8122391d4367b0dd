-- The acts of a drive's history that the lines of a script ask for.
use Rattle.std.specs.Prelude.{ℕ, ◌+◌, ◌*◌, ◌/◌, ◌%◌, ◌-◌, ◌^◌, true, List, length, replicate}
use Rattle.trusted_cmds.specs.Commands.{sectors, sector_size, reset_protocol, reset_com_id}
use Rattle.trusted_cmds.specs.declared.command.Command.{Command}
use Rattle.trusted_cmds.specs.declared.command.Command.TheVariants.{ReadQueued, WriteQueued, ReadDma, WriteDma, Send, Receive}
use Rattle.device_data.specs.ErrorLog.{sized}
use Rattle.history.specs.Answers.{expected}
use Rattle.history.specs.Events.{Event}
use Rattle.history.specs.History.{Act, Accept, Complete, Reset as reset_act}
use Rattle.history.specs.Readers.{held}
use Rattle.history.specs.Resets.{reset_kind_number}
use Rattle.history.specs.declared.reset.ResetKind.{ResetKind}
use Rattle.history.specs.declared.reset.ResetKind.TheVariants.{Power, Hardware}
use Rattle.port_history.specs.Requests.{command_fis}
use Rattle.script_lines.specs.declared.line.Transfer.{Transfer}
use Rattle.script_lines.specs.declared.line.DmaTransfer.{DmaTransfer}
use Rattle.script_lines.specs.declared.line.Reset.{Reset}
use Rattle.script_lines.specs.declared.line.Reset.TheVariants as resets

-- the acceptance of a command, under the tag where it is queued
abbrev pub accept_of : Command → ℕ → List ℕ → Act
accept_of command tag payload = Accept (command_fis command tag) payload

-- the completion of what is held under a tag, with the same byte in each place of its payload
abbrev pub completion : List Event → ℕ → ℕ → Act
completion past tag byte = Complete tag (replicate (expected (held past tag)) byte)

-- acts are counted from 1, as far as 64 bits count
abbrev pub step_of : List Act → ℕ
step_of acts = length acts % 2 ^ 64

-- the transfers that a line asks for; a count field of 0 stands for 65,536
abbrev pub read_of : Transfer → Command
read_of transfer = ReadQueued transfer.lba (sectors transfer.count)

abbrev pub write_of : Transfer → Command
write_of transfer = WriteQueued transfer.lba (sectors transfer.count)

abbrev pub read_dma_of : DmaTransfer → Command
read_dma_of transfer = ReadDma transfer.lba (sectors transfer.count)

abbrev pub write_dma_of : DmaTransfer → Command
write_dma_of transfer = WriteDma transfer.lba (sectors transfer.count)

-- the bytes of a write, all the same
abbrev pub write_bytes : DmaTransfer → ℕ → List ℕ
write_bytes transfer byte = replicate (sector_size * sectors transfer.count) byte

-- the security protocol whose SP Specific field is a ComID
abbrev pub com_id_protocol : ℕ
com_id_protocol = 1

-- how many blocks so many bytes take, and bytes with zeros behind them to the end of a block
abbrev pub block_count : ℕ → ℕ
block_count size = (size + (sector_size - 1)) / sector_size

abbrev pub in_blocks : List ℕ → List ℕ
in_blocks bytes = sized (sector_size * block_count (length bytes)) bytes

-- the trusted commands, whose data go by DMA
abbrev pub sent_by : ℕ → ℕ → ℕ → Command
sent_by protocol sp_specific blocks = Send protocol sp_specific blocks true

abbrev pub received_by : ℕ → ℕ → ℕ → Command
received_by protocol sp_specific blocks = Receive protocol sp_specific blocks true

-- the command that resets the drive, with one block of zeros
abbrev pub tper_reset : Command
tper_reset = Send reset_protocol reset_com_id 1 true

abbrev pub zero_block : List ℕ
zero_block = replicate sector_size 0

-- the kind of a reset
abbrev pub kind_named : Reset → ResetKind
kind_named resets.Power = Power
kind_named resets.Hardware = Hardware

abbrev pub act_of_reset : Reset → Act
act_of_reset kind = reset_act (reset_kind_number (kind_named kind))

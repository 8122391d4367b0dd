-- What the opal profile reads beside: the commands that every ATA device has (ACS-3, General feature set), those of the
-- Power Management feature set, WRITE DMA FUA EXT and WRITE MULTIPLE FUA EXT.
use Rattle.std.specs.Prelude.{◌≡◌, ℕ, ◌%◌, ◌==◌, Bool, true, false, not, ◌&&◌, ◌||◌, Option, Some, None, option_map, if◌then◌else◌}
use Rattle.fis.specs.declared.h2d.RegH2d.{RegH2d}
use Rattle.trusted_cmds.specs.declared.command.Command.{Command}
use Rattle.trusted_cmds.specs.declared.command.Command.TheVariants.{WriteDma, ReadPio, WritePio, Verify, Trim, Control}
use Rattle.trusted_cmds.specs.declared.control.Control as controls
use Rattle.trusted_cmds.specs.declared.control.Control.TheVariants.{SetMultiple, Idle, Standby, CheckPowerMode, Diagnose}
use Rattle.trusted_cmds.specs.Trims.{are_trim_blocks}
use Rattle.trusted_cmds.specs.Commands.{sectors, has_lba_bit, short_lba, short_sectors, read_sectors_ext, write_sectors_ext, verify_sectors_ext, data_set_management, trim_bit, set_multiple, idle_immediate, standby_immediate, check_power_mode, execute_diagnostic, sectors_in_block}

-- The codes (ACS-3, "Command codes") beside those by which the commands are written: of 28 bits, of READ and WRITE MULTIPLE,
-- IDLE, STANDBY and SLEEP, WRITE DMA FUA EXT and WRITE MULTIPLE FUA EXT.
abbrev pub read_sectors : ℕ
read_sectors = 0x20

abbrev pub read_multiple : ℕ
read_multiple = 0xc4

abbrev pub read_multiple_ext : ℕ
read_multiple_ext = 0x29

abbrev pub write_sectors : ℕ
write_sectors = 0x30

abbrev pub write_multiple : ℕ
write_multiple = 0xc5

abbrev pub write_multiple_ext : ℕ
write_multiple_ext = 0x39

abbrev pub write_multiple_fua : ℕ
write_multiple_fua = 0xce

abbrev pub verify_sectors : ℕ
verify_sectors = 0x40

abbrev pub write_dma_fua : ℕ
write_dma_fua = 0x3d

abbrev pub idle_by_timer : ℕ
idle_by_timer = 0xe3

abbrev pub standby_by_timer : ℕ
standby_by_timer = 0xe2

abbrev pub sleep : ℕ
sleep = 0xe6

-- Which transfer a code asks for.
abbrev pub reads_pio : ℕ → Bool
reads_pio code =
    code == read_sectors || code == read_sectors_ext || code == read_multiple
    || code == read_multiple_ext

abbrev pub writes_pio : ℕ → Bool
writes_pio code =
    code == write_sectors || code == write_sectors_ext || code == write_multiple
    || code == write_multiple_ext || code == write_multiple_fua

abbrev pub verifies : ℕ → Bool
verifies code = code == verify_sectors || code == verify_sectors_ext

abbrev pub writes_through : ℕ → Bool
writes_through code = code == write_dma_fua

abbrev pub moves_more : ℕ → Bool
moves_more code = reads_pio code || writes_pio code || verifies code || writes_through code

-- Those that bring data.
abbrev pub writes_more : ℕ → Bool
writes_more code = writes_pio code || writes_through code

-- DATA SET MANAGEMENT brings its entries.
abbrev pub brings_more : ℕ → Bool
brings_more code = writes_more code || code == data_set_management

-- Those of 28 bits; the others have addresses of 48 bits.
abbrev pub is_short_code : ℕ → Bool
is_short_code code =
    code == read_sectors || code == read_multiple || code == write_sectors
    || code == write_multiple || code == verify_sectors

abbrev pub first_moved : RegH2d → ℕ
first_moved h = if is_short_code h.command then short_lba h else h.lba

abbrev pub sectors_moved : RegH2d → ℕ
sectors_moved h = if is_short_code h.command then short_sectors h else sectors h.count

-- How many blocks come with one that brings some.
abbrev pub blocks_brought : RegH2d → ℕ
blocks_brought h = if writes_more h.command then sectors_moved h else h.count

-- What such a transfer has in its fields, whose code is as it says.
pub record IsMoving (h : RegH2d) (is_code : Bool) (first sectors_asked : ℕ) : Type 0 where
  pub is_command : h.is_command ≡ true
  pub code_is : is_code ≡ true
  pub lba : first_moved h ≡ first
  pub count : sectors_moved h ≡ sectors_asked
  pub device : has_lba_bit h.device ≡ true

-- SET MULTIPLE MODE has the sectors of a block in Count 7:0. SLEEP asks for standby: the interface of this drive never
-- sleeps (ACS-3, SLEEP; after a reset such a drive would be in standby).
abbrev pub names_control : controls.Control → RegH2d → Bool
names_control SetMultiple h = h.command == set_multiple && h.count % 256 == sectors_in_block
names_control Idle h = h.command == idle_immediate || h.command == idle_by_timer
names_control Standby h =
    h.command == standby_immediate || h.command == standby_by_timer || h.command == sleep
names_control CheckPowerMode h = h.command == check_power_mode
names_control Diagnose h = h.command == execute_diagnostic

-- DATA SET MANAGEMENT with TRIM: bit 0 of Feature is set, and Count has as many blocks as this drive takes.
abbrev pub asks_trim : RegH2d → Bool
asks_trim h =
    h.command == data_set_management && h.feature % 2 == trim_bit && are_trim_blocks h.count

pub record IsTrim (h : RegH2d) (blocks : ℕ) : Type 0 where
  pub is_command : h.is_command ≡ true
  pub trims : asks_trim h ≡ true
  pub count : h.count ≡ blocks

pub record IsControl (h : RegH2d) (control : controls.Control) : Type 0 where
  pub is_command : h.is_command ≡ true
  pub control_is : names_control control h ≡ true

-- The FIS carries the command.
abbrev pub CarriesMore : RegH2d → Command → Option ℕ → Type 0
CarriesMore h (ReadPio lba count) None = IsMoving h (reads_pio h.command) lba count
CarriesMore h (WritePio lba count) None = IsMoving h (writes_pio h.command) lba count
CarriesMore h (Verify lba count) None = IsMoving h (verifies h.command) lba count
CarriesMore h (WriteDma lba count) None = IsMoving h (writes_through h.command) lba count
CarriesMore h (Trim blocks) None = IsTrim h blocks
CarriesMore h (Control control) None = IsControl h control
CarriesMore h _ _ = ⊥

-- What a reader gives, as a function of the FIS.
abbrev pub control_named : RegH2d → Option controls.Control
control_named h =
    if h.command == set_multiple && h.count % 256 == sectors_in_block then Some SetMultiple
    else (if h.command == idle_immediate || h.command == idle_by_timer then Some Idle
    else (if h.command == standby_immediate || h.command == standby_by_timer || h.command == sleep
    then Some Standby
    else (if h.command == check_power_mode then Some CheckPowerMode
    else (if h.command == execute_diagnostic then Some Diagnose else None))))

abbrev pub moving : RegH2d → Command
moving h =
    if reads_pio h.command then ReadPio (first_moved h) (sectors_moved h)
    else (if writes_pio h.command then WritePio (first_moved h) (sectors_moved h)
    else (if verifies h.command then Verify (first_moved h) (sectors_moved h)
    else WriteDma (first_moved h) (sectors_moved h)))

abbrev pub more : RegH2d → Option Command
more h =
    if not h.is_command then None
    else (if moves_more h.command
    then (if has_lba_bit h.device then Some (moving h) else None)
    else (if asks_trim h then Some (Trim h.count) else option_map Control (control_named h)))

-- The commands that the opal profile alone has.
abbrev pub is_general : Command → Bool
is_general (ReadPio lba count) = true
is_general (WritePio lba count) = true
is_general (Verify lba count) = true
is_general (Trim blocks) = true
is_general (Control control) = true
is_general _ = false

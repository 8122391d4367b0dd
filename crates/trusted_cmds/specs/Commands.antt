-- Commands, and the FISes that carry them (ACS-3, the commands' tables of inputs).
use Rattle.std.specs.Prelude.{◌≡◌, ℕ, ◌+◌, ◌*◌, ◌/◌, ◌%◌, ◌<◌, ◌≤◌, ◌==◌, Bool, true, false, not, ◌&&◌, ◌||◌, nat_lt, Option, Some, None, IfSome, Result, Ok, Err, if◌then◌else◌}
use Rattle.fis.specs.declared.h2d.RegH2d.{RegH2d}
use Rattle.trusted_cmds.specs.declared.command.Command.{Command}
use Rattle.trusted_cmds.specs.declared.command.Command.TheVariants.{ReadQueued, WriteQueued, ReadDma, WriteDma, Send, Receive, Identify, ReadLog10, Flush, SetFeatures, ReadLog, ReadPio, WritePio, Verify, Trim, Control}
use Rattle.trusted_cmds.specs.declared.control.Control as controls
use Rattle.trusted_cmds.specs.declared.control.Control.TheVariants.{SetMultiple, Idle, Standby, CheckPowerMode, Diagnose}
use Rattle.trusted_cmds.specs.declared.feature.Feature.{Feature}
use Rattle.trusted_cmds.specs.declared.feature.Feature.TheVariants.{WriteCache, ReadLookAhead, TransferMode}
use Rattle.trusted_cmds.specs.declared.log_pages.LogPages.{LogPages}
use Rattle.trusted_cmds.specs.declared.log_pages.LogPages.TheVariants.{Directory, IdentifyData}
use Rattle.trusted_cmds.specs.declared.command.CommandError.{CommandError}
use Rattle.trusted_cmds.specs.declared.command.CommandError.TheVariants.{Unknown, NotCommand, LogPage, Device}

-- The codes of the commands (ACS-3, "Command codes").
abbrev pub read_queued : ℕ
read_queued = 0x60

abbrev pub write_queued : ℕ
write_queued = 0x61

abbrev pub read_dma : ℕ
read_dma = 0x25

abbrev pub write_dma : ℕ
write_dma = 0x35

abbrev pub trusted_receive : ℕ
trusted_receive = 0x5c

abbrev pub trusted_receive_dma : ℕ
trusted_receive_dma = 0x5d

abbrev pub trusted_send : ℕ
trusted_send = 0x5e

abbrev pub trusted_send_dma : ℕ
trusted_send_dma = 0x5f

abbrev pub read_log : ℕ
read_log = 0x2f

abbrev pub read_log_dma : ℕ
read_log_dma = 0x47

abbrev pub identify_device : ℕ
identify_device = 0xec

abbrev pub flush_cache : ℕ
flush_cache = 0xea

abbrev pub set_features : ℕ
set_features = 0xef

-- how many bytes a sector has, and a block of a trusted command
abbrev pub sector_size : ℕ
sector_size = 512

-- how many sectors a command moves at most
abbrev pub most_sectors : ℕ
most_sectors = 65536

-- A count field of 0 stands for the most sectors.
abbrev pub sectors : ℕ → ℕ
sectors field = if field == 0 then most_sectors else field

-- A transfer of 28 bits has LBA 23:0 in its field and LBA 27:24 in Device 3:0, and its sectors in Count 7:0, of which 0
-- stands for 256.
abbrev pub short_lba : RegH2d → ℕ
short_lba h = h.lba % 0x1000000 + 0x1000000 * (h.device % 16)

abbrev pub short_sectors : RegH2d → ℕ
short_sectors h = if h.count % 256 == 0 then 256 else h.count % 256

-- The field Device of a command that wants bit 6 set, and whether it is.
abbrev pub lba_device : ℕ
lba_device = 0x40

abbrev pub has_lba_bit : ℕ → Bool
has_lba_bit device = device / lba_device % 2 == 1

-- The codes of the queued commands, of those that move sectors, and of the trusted ones.
abbrev pub is_queued : ℕ → Bool
is_queued code = code == read_queued || code == write_queued

abbrev pub is_transfer : ℕ → Bool
is_transfer code = is_queued code || code == read_dma || code == write_dma

abbrev pub is_send : ℕ → Bool
is_send code = code == trusted_send || code == trusted_send_dma

abbrev pub is_receive : ℕ → Bool
is_receive code = code == trusted_receive || code == trusted_receive_dma

abbrev pub is_log_read : ℕ → Bool
is_log_read code = code == read_log || code == read_log_dma

abbrev pub is_known_code : ℕ → Bool
is_known_code code =
    is_transfer code || is_send code || is_receive code || is_log_read code
    || code == identify_device || code == flush_cache

-- The one log page that the drive has, the NCQ Command Error log: its address in LBA 7:0, page number 0 in LBA 15:8
-- and 39:32, and one page (ACS-3, READ LOG EXT).
abbrev pub error_log_address : ℕ
error_log_address = 0x10

abbrev pub names_error_log : RegH2d → Bool
names_error_log h =
    h.lba % 256 == error_log_address && h.lba / 256 % 256 == 0
    && h.lba / 0x100000000 % 256 == 0 && h.count == 1

-- A trusted command: its protocol in Feature 7:0, its SP Specific field (a ComID) in LBA 23:8, and the number of its
-- blocks with the low byte in Count 7:0, the high byte in LBA 7:0.
abbrev pub protocol_of : RegH2d → ℕ
protocol_of h = h.feature % 256

abbrev pub sp_specific_of : RegH2d → ℕ
sp_specific_of h = h.lba / 256 % 65536

abbrev pub blocks : RegH2d → ℕ
blocks h = h.count % 256 + 256 * (h.lba % 256)

-- The reset that a command makes, TPER_RESET: a send of one block at least, of security protocol 02h to the ComID 0004h
-- (Opal SSC 2.01, section 3.3.3).
abbrev pub reset_protocol : ℕ
reset_protocol = 2

abbrev pub reset_com_id : ℕ
reset_com_id = 4

abbrev pub is_programmatic_reset : Command → Bool
is_programmatic_reset (Send protocol sp_specific count dma) =
    protocol == reset_protocol && sp_specific == reset_com_id && nat_lt 0 count
is_programmatic_reset _ = false

-- A receive that asks for the list of security protocols: protocol 00h, SP Specific 0000h, one block at least (SPC-4,
-- SECURITY PROTOCOL IN, "Security protocol information").
abbrev pub is_protocol_list : Command → Bool
is_protocol_list (Receive protocol sp_specific count dma) =
    protocol == 0 && sp_specific == 0 && nat_lt 0 count
is_protocol_list _ = false

-- A receive that asks for the certificates: protocol 00h, SP Specific 0001h, one block at least (SPC-4, SECURITY PROTOCOL
-- IN, "Certificate data").
abbrev pub is_certificate_data : Command → Bool
is_certificate_data (Receive protocol sp_specific count dma) =
    protocol == 0 && sp_specific == 1 && nat_lt 0 count
is_certificate_data _ = false

-- The tag of a queued command: bits 7 to 3 of Count.
abbrev pub tag_of : RegH2d → ℕ
tag_of h = h.count / 8 % 32

-- What a queued transfer has in its fields.
pub record IsQueued (h : RegH2d) (code first sectors_asked slot : ℕ) : Type 0 where
  pub is_command : h.is_command ≡ true
  pub command : h.command ≡ code
  pub lba : h.lba ≡ first
  pub count : sectors h.feature ≡ sectors_asked
  pub tag : tag_of h ≡ slot
  pub device : has_lba_bit h.device ≡ true

-- What a transfer has that is not queued.
pub record IsUnqueued (h : RegH2d) (code first sectors_asked : ℕ) : Type 0 where
  pub is_command : h.is_command ≡ true
  pub command : h.command ≡ code
  pub lba : h.lba ≡ first
  pub count : sectors h.count ≡ sectors_asked
  pub device : has_lba_bit h.device ≡ true

-- What a trusted command has.
pub record IsTrusted (h : RegH2d) (code protocol sp_specific blocks_asked : ℕ) : Type 0 where
  pub is_command : h.is_command ≡ true
  pub command : h.command ≡ code
  pub protocol_field : protocol_of h ≡ protocol
  pub sp_specific_field : sp_specific_of h ≡ sp_specific
  pub count : blocks h ≡ blocks_asked

-- What a read of the log page has.
pub record IsLogRead (h : RegH2d) (code : ℕ) : Type 0 where
  pub is_command : h.is_command ≡ true
  pub command : h.command ≡ code
  pub page : names_error_log h ≡ true

-- What a command without fields has.
pub record IsPlain (h : RegH2d) (code : ℕ) : Type 0 where
  pub is_command : h.is_command ≡ true
  pub command : h.command ≡ code

-- The first code, or the second, which is that of the form by DMA.
abbrev pub by_dma : Bool → ℕ → ℕ → ℕ
by_dma dma pio_code dma_code = if dma then dma_code else pio_code

-- The FIS carries the command, with this tag where it is queued.
abbrev pub Carries : RegH2d → Command → Option ℕ → Type 0
Carries h (ReadQueued lba count) (Some tag) = IsQueued h read_queued lba count tag
Carries h (WriteQueued lba count) (Some tag) = IsQueued h write_queued lba count tag
Carries h (ReadDma lba count) None = IsUnqueued h read_dma lba count
Carries h (WriteDma lba count) None = IsUnqueued h write_dma lba count
Carries h (Send protocol sp_specific count dma) None =
    IsTrusted h (by_dma dma trusted_send trusted_send_dma) protocol sp_specific count
Carries h (Receive protocol sp_specific count dma) None =
    IsTrusted h (by_dma dma trusted_receive trusted_receive_dma) protocol sp_specific count
Carries h Identify None = IsPlain h identify_device
Carries h (ReadLog10 dma) None = IsLogRead h (by_dma dma read_log read_log_dma)
Carries h Flush None = IsPlain h flush_cache
Carries h _ _ = ⊥

-- The first thing that is wrong with a FIS, if something is.
abbrev pub fault_of : RegH2d → Option CommandError
fault_of h =
    if not h.is_command then Some NotCommand
    else (if not (is_known_code h.command) then Some Unknown
    else (if is_transfer h.command && not (has_lba_bit h.device) then Some Device
    else (if is_log_read h.command && not (names_error_log h) then Some LogPage else None)))

-- The command of a FIS that has no fault, and its tag.
abbrev pub command_without_sectors : RegH2d → Command
command_without_sectors h =
    if is_send h.command
    then Send (protocol_of h) (sp_specific_of h) (blocks h) (h.command == trusted_send_dma)
    else (if is_receive h.command
    then Receive (protocol_of h) (sp_specific_of h) (blocks h) (h.command == trusted_receive_dma)
    else (if is_log_read h.command then ReadLog10 (h.command == read_log_dma)
    else (if h.command == identify_device then Identify else Flush)))

abbrev pub command_of : RegH2d → Command
command_of h =
    if h.command == read_queued then ReadQueued h.lba (sectors h.feature)
    else (if h.command == write_queued then WriteQueued h.lba (sectors h.feature)
    else (if h.command == read_dma then ReadDma h.lba (sectors h.count)
    else (if h.command == write_dma then WriteDma h.lba (sectors h.count)
    else command_without_sectors h)))

abbrev pub tag_in : RegH2d → Option ℕ
tag_in h = if is_queued h.command then Some (tag_of h) else None

abbrev pub read_unless : Option CommandError → RegH2d → Result (Command × Option ℕ) CommandError
read_unless (Some e) h = Err e
read_unless None h = Ok (command_of h, tag_in h)

-- What a reader gives, as a function of the FIS.
abbrev pub reading : RegH2d → Result (Command × Option ℕ) CommandError
reading h = read_unless (fault_of h) h

-- How many sectors the command moves, and the first of them; None where it moves none.
abbrev pub count_of : Command → Option ℕ
count_of (ReadQueued lba count) = Some count
count_of (WriteQueued lba count) = Some count
count_of (ReadDma lba count) = Some count
count_of (WriteDma lba count) = Some count
count_of (ReadPio lba count) = Some count
count_of (WritePio lba count) = Some count
count_of (Verify lba count) = Some count
count_of _ = None

abbrev pub lba_of : Command → Option ℕ
lba_of (ReadQueued lba count) = Some lba
lba_of (WriteQueued lba count) = Some lba
lba_of (ReadDma lba count) = Some lba
lba_of (WriteDma lba count) = Some lba
lba_of (ReadPio lba count) = Some lba
lba_of (WritePio lba count) = Some lba
lba_of (Verify lba count) = Some lba
lba_of _ = None

-- One sector at least, and not more than a count field can ask for.
abbrev pub IsCount : ℕ → Type 0
IsCount count = (0 < count) × (count ≤ most_sectors)

abbrev pub IsCounted : Command → Type 0
IsCounted command = IfSome (count_of command) IsCount

-- The count field that stands for so many sectors.
abbrev pub sectors_field : ℕ → ℕ
sectors_field count = if count == most_sectors then 0 else count

-- A FIS with these fields, and zeros in those that no command has.
abbrev pub fis_with : ℕ → ℕ → ℕ → ℕ → ℕ → RegH2d
fis_with code feature_field lba_field device_field count_field = record {
  is_command = true;
  port = 0;
  command = code;
  feature = feature_field;
  lba = lba_field;
  device = device_field;
  count = count_field;
  icc = 0;
  control = 0;
}

-- A queued transfer has its sectors in Feature and its tag in bits 7 to 3 of Count; another one has them in Count.
abbrev pub queued_fis : ℕ → ℕ → ℕ → ℕ → RegH2d
queued_fis code lba count tag = fis_with code (sectors_field count) lba lba_device (8 * tag)

abbrev pub unqueued_fis : ℕ → ℕ → ℕ → RegH2d
unqueued_fis code lba count = fis_with code 0 lba lba_device (sectors_field count)

abbrev pub trusted_fis : ℕ → ℕ → ℕ → ℕ → RegH2d
trusted_fis code protocol sp_specific count =
    fis_with code protocol (count / 256 + 256 * sp_specific) 0 (count % 256)

-- A read of pages of a log has the place of the first in LBA, and their number in Count.
abbrev pub log_read_fis : ℕ → ℕ → Bool → RegH2d
log_read_fis place pages dma = fis_with (by_dma dma read_log read_log_dma) 0 place 0 pages

-- The address of the log IDENTIFY DEVICE data (ACS-3, annex on logs).
abbrev pub identify_data_address : ℕ
identify_data_address = 0x30

-- Where pages of the device's logs stand: the log's address below the number of the first page. And how many they are.
abbrev pub log_place : LogPages → ℕ
log_place Directory = 0
log_place (IdentifyData first count) = identify_data_address + 256 * first

abbrev pub pages_asked : LogPages → ℕ
pages_asked Directory = 1
pages_asked (IdentifyData first count) = count

-- The subcommands of SET FEATURES by which a feature is chosen (ACS-3, SET FEATURES, table of subcommands).
abbrev pub enable_write_cache : ℕ
enable_write_cache = 0x02

abbrev pub set_transfer_mode : ℕ
set_transfer_mode = 0x03

abbrev pub disable_look_ahead : ℕ
disable_look_ahead = 0x55

abbrev pub disable_write_cache : ℕ
disable_write_cache = 0x82

abbrev pub enable_look_ahead : ℕ
enable_look_ahead = 0xaa

abbrev pub subcommand : Feature → ℕ
subcommand (WriteCache enabled) = if enabled then enable_write_cache else disable_write_cache
subcommand (ReadLookAhead enabled) = if enabled then enable_look_ahead else disable_look_ahead
subcommand (TransferMode mode) = set_transfer_mode

abbrev pub mode_asked : Feature → ℕ
mode_asked (TransferMode mode) = mode
mode_asked _ = 0

-- The subcommand stands in Feature, the transfer mode in Count.
abbrev pub feature_fis : Feature → RegH2d
feature_fis feature = fis_with set_features (subcommand feature) 0 0 (mode_asked feature)

-- The codes of the commands that the opal profile has beside, as they are written: transfers at addresses of 48 bits
-- (ACS-3, READ SECTOR(S) EXT, WRITE SECTOR(S) EXT, READ VERIFY SECTOR(S) EXT).
abbrev pub read_sectors_ext : ℕ
read_sectors_ext = 0x24

abbrev pub write_sectors_ext : ℕ
write_sectors_ext = 0x34

abbrev pub verify_sectors_ext : ℕ
verify_sectors_ext = 0x42

-- DATA SET MANAGEMENT has the bit TRIM in Feature, and how many blocks of entries come in Count.
abbrev pub data_set_management : ℕ
data_set_management = 0x06

abbrev pub trim_bit : ℕ
trim_bit = 1

-- SET MULTIPLE MODE, IDLE IMMEDIATE, STANDBY IMMEDIATE, CHECK POWER MODE, EXECUTE DEVICE DIAGNOSTIC.
abbrev pub set_multiple : ℕ
set_multiple = 0xc6

abbrev pub idle_immediate : ℕ
idle_immediate = 0xe1

abbrev pub standby_immediate : ℕ
standby_immediate = 0xe0

abbrev pub check_power_mode : ℕ
check_power_mode = 0xe5

abbrev pub execute_diagnostic : ℕ
execute_diagnostic = 0x90

-- How many sectors a block has whose data go by PIO (this drive: IDENTIFY DEVICE word 47).
abbrev pub sectors_in_block : ℕ
sectors_in_block = 1

abbrev pub control_code : controls.Control → ℕ
control_code SetMultiple = set_multiple
control_code Idle = idle_immediate
control_code Standby = standby_immediate
control_code CheckPowerMode = check_power_mode
control_code Diagnose = execute_diagnostic

-- SET MULTIPLE MODE has its sectors in Count.
abbrev pub control_count : controls.Control → ℕ
control_count SetMultiple = sectors_in_block
control_count _ = 0

-- The writer's spelling of a command under a tag.
abbrev pub fis_of : Command → ℕ → RegH2d
fis_of (ReadQueued lba count) tag = queued_fis read_queued lba count tag
fis_of (WriteQueued lba count) tag = queued_fis write_queued lba count tag
fis_of (ReadDma lba count) tag = unqueued_fis read_dma lba count
fis_of (WriteDma lba count) tag = unqueued_fis write_dma lba count
fis_of (Send protocol sp_specific count dma) tag =
    trusted_fis (by_dma dma trusted_send trusted_send_dma) protocol sp_specific count
fis_of (Receive protocol sp_specific count dma) tag =
    trusted_fis (by_dma dma trusted_receive trusted_receive_dma) protocol sp_specific count
fis_of Identify tag = fis_with identify_device 0 0 0 0
fis_of (ReadLog10 dma) tag = log_read_fis error_log_address 1 dma
fis_of Flush tag = fis_with flush_cache 0 0 0 0
fis_of (SetFeatures feature) tag = feature_fis feature
fis_of (ReadLog pages dma) tag = log_read_fis (log_place pages) (pages_asked pages) dma
fis_of (ReadPio lba count) tag = unqueued_fis read_sectors_ext lba count
fis_of (WritePio lba count) tag = unqueued_fis write_sectors_ext lba count
fis_of (Verify lba count) tag = unqueued_fis verify_sectors_ext lba count
fis_of (Trim blocks) tag = fis_with data_set_management trim_bit 0 0 blocks
fis_of (Control control) tag = fis_with (control_code control) 0 0 0 (control_count control)

-- The tag that a command is read back with: only a queued one has it.
abbrev pub tag_with : Command → ℕ → Option ℕ
tag_with (ReadQueued lba count) tag = Some tag
tag_with (WriteQueued lba count) tag = Some tag
tag_with _ tag = None

-- How many bytes come with a command that is not queued: WRITE DMA EXT, TRUSTED SEND, TRUSTED SEND DMA.
abbrev pub payload_length : RegH2d → ℕ
payload_length h =
    if h.command == write_dma then sector_size * sectors h.count
    else (if is_send h.command then sector_size * blocks h else 0)

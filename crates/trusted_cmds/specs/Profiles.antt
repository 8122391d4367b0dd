-- What a profile reads beside the commands of a drive: spellings and commands that drivers send (ACS-3, the commands'
-- tables of inputs).
use Rattle.std.specs.Prelude.{◌≡◌, ℕ, ◌+◌, ◌*◌, ◌/◌, ◌%◌, ◌==◌, Bool, true, false, not, ◌&&◌, ◌||◌, nat_le, nat_lt, ◌⊎◌, Option, Some, None, option_map, Result, Ok, Err, if◌then◌else◌}
use Rattle.basics.specs.declared.profile.Profile.{Profile}
use Rattle.basics.specs.declared.profile.Profile.TheVariants.{Base, Field, Opal}
use Rattle.fis.specs.declared.h2d.RegH2d.{RegH2d}
use Rattle.trusted_cmds.specs.declared.command.Command.{Command}
use Rattle.trusted_cmds.specs.declared.command.Command.TheVariants.{ReadDma, WriteDma, Flush, SetFeatures, ReadLog, Trim}
use Rattle.trusted_cmds.specs.declared.command.CommandError.{CommandError}
use Rattle.trusted_cmds.specs.declared.feature.Feature.{Feature}
use Rattle.trusted_cmds.specs.declared.feature.Feature.TheVariants.{WriteCache, ReadLookAhead, TransferMode}
use Rattle.trusted_cmds.specs.declared.log_pages.LogPages.{LogPages}
use Rattle.trusted_cmds.specs.declared.log_pages.LogPages.TheVariants.{Directory, IdentifyData}
use Rattle.trusted_cmds.specs.Commands.{sector_size, has_lba_bit, is_log_read, read_log, read_log_dma, set_features, identify_data_address, enable_write_cache, disable_write_cache, enable_look_ahead, disable_look_ahead, set_transfer_mode, by_dma, short_lba, short_sectors, Carries, IsPlain, payload_length, reading}
use Rattle.trusted_cmds.specs.Trims.{are_trim_blocks}
use Rattle.trusted_cmds.specs.General.{CarriesMore, more, is_general, brings_more, blocks_brought}

-- The codes of the spellings (ACS-3, "Command codes").
abbrev pub short_read_dma : ℕ
short_read_dma = 0xc8

abbrev pub short_write_dma : ℕ
short_write_dma = 0xca

abbrev pub short_flush_cache : ℕ
short_flush_cache = 0xe7

abbrev pub is_short_transfer : ℕ → Bool
is_short_transfer code = code == short_read_dma || code == short_write_dma

-- What a transfer of 28 bits has in its fields.
pub record IsShort (h : RegH2d) (code first sectors_asked : ℕ) : Type 0 where
  pub is_command : h.is_command ≡ true
  pub command : h.command ≡ code
  pub lba : short_lba h ≡ first
  pub count : short_sectors h ≡ sectors_asked
  pub device : has_lba_bit h.device ≡ true

-- A read of a log has the log's address in LBA 7:0, the number of the first page in LBA 15:8 and 39:32, and how many pages
-- are read in Count (ACS-3, READ LOG EXT).
abbrev pub log_address : RegH2d → ℕ
log_address h = h.lba % 256

abbrev pub first_page : RegH2d → ℕ
first_page h = h.lba / 256 % 256 + 256 * (h.lba / 0x100000000 % 256)

-- IDENTIFY DEVICE data are the pages 00h to 08h (ACS-3, annex on logs). One at least is read, and none beyond the last.
abbrev pub identify_data_pages : ℕ
identify_data_pages = 9

abbrev pub are_pages : ℕ → ℕ → Bool
are_pages first count = nat_lt 0 count && nat_le (first + count) identify_data_pages

abbrev pub names_pages : LogPages → RegH2d → Bool
names_pages Directory h = log_address h == 0 && first_page h == 0 && h.count == 1
names_pages (IdentifyData first count) h =
    log_address h == identify_data_address && first_page h == first && h.count == count
    && are_pages first count

pub record IsPageRead (h : RegH2d) (code : ℕ) (pages : LogPages) : Type 0 where
  pub is_command : h.is_command ≡ true
  pub command : h.command ≡ code
  pub page_field : names_pages pages h ≡ true

-- The transfer modes that IDENTIFY DEVICE data tell of (ACS-3, SET FEATURES, "Set transfer mode"): the default of PIO, with
-- IORDY or without; PIO modes 0 to 4; multiword DMA modes 0 to 2; Ultra DMA modes 0 to 6.
abbrev pub is_from : ℕ → ℕ → ℕ → Bool
is_from first last mode = nat_le first mode && nat_le mode last

abbrev pub is_multiword : ℕ → Bool
is_multiword mode = is_from 0x20 0x22 mode

abbrev pub is_ultra : ℕ → Bool
is_ultra mode = is_from 0x40 0x46 mode

abbrev pub is_transfer_mode : ℕ → Bool
is_transfer_mode mode =
    is_from 0 1 mode || is_from 8 12 mode || is_multiword mode || is_ultra mode

-- SET FEATURES has its subcommand in Feature 7:0, a transfer mode in Count 7:0.
abbrev pub names_feature : Feature → RegH2d → Bool
names_feature (WriteCache true) h = h.feature % 256 == enable_write_cache
names_feature (WriteCache false) h = h.feature % 256 == disable_write_cache
names_feature (ReadLookAhead true) h = h.feature % 256 == enable_look_ahead
names_feature (ReadLookAhead false) h = h.feature % 256 == disable_look_ahead
names_feature (TransferMode mode) h =
    h.feature % 256 == set_transfer_mode && h.count % 256 == mode && is_transfer_mode mode

pub record IsFeature (h : RegH2d) (feature : Feature) : Type 0 where
  pub is_command : h.is_command ≡ true
  pub command : h.command ≡ set_features
  pub feature_field : names_feature feature h ≡ true

-- The FIS carries a command in a spelling that the drive's own table does not have.
abbrev pub CarriesBeside : RegH2d → Command → Option ℕ → Type 0
CarriesBeside h (ReadDma lba count) None = IsShort h short_read_dma lba count
CarriesBeside h (WriteDma lba count) None = IsShort h short_write_dma lba count
CarriesBeside h Flush None = IsPlain h short_flush_cache
CarriesBeside h (SetFeatures feature) None = IsFeature h feature
CarriesBeside h (ReadLog pages dma) None = IsPageRead h (by_dma dma read_log read_log_dma) pages
CarriesBeside h _ _ = ⊥

-- The FIS carries the command under a profile.
abbrev pub CarriesIn : Profile → RegH2d → Command → Option ℕ → Type 0
CarriesIn Base h command tag = Carries h command tag
CarriesIn Field h command tag = Carries h command tag ⊎ CarriesBeside h command tag
CarriesIn Opal h command tag =
    (Carries h command tag ⊎ CarriesBeside h command tag) ⊎ CarriesMore h command tag

-- The pages that a read of a log names.
abbrev pub pages_named : RegH2d → Option LogPages
pages_named h =
    if names_pages Directory h then Some Directory
    else (if log_address h == identify_data_address && are_pages (first_page h) h.count
    then Some (IdentifyData (first_page h) h.count) else None)

-- The feature that a SET FEATURES names.
abbrev pub feature_named : RegH2d → Option Feature
feature_named h =
    if h.feature % 256 == enable_write_cache then Some (WriteCache true)
    else (if h.feature % 256 == disable_write_cache then Some (WriteCache false)
    else (if h.feature % 256 == enable_look_ahead then Some (ReadLookAhead true)
    else (if h.feature % 256 == disable_look_ahead then Some (ReadLookAhead false)
    else (if h.feature % 256 == set_transfer_mode && is_transfer_mode (h.count % 256)
    then Some (TransferMode (h.count % 256)) else None))))

-- The command of a transfer of 28 bits.
abbrev pub short_transfer : RegH2d → Command
short_transfer h =
    if h.command == short_read_dma then ReadDma (short_lba h) (short_sectors h)
    else WriteDma (short_lba h) (short_sectors h)

-- A command that moves no sectors.
abbrev pub beside_without_sectors : RegH2d → Option Command
beside_without_sectors h =
    if h.command == short_flush_cache then Some Flush
    else (if h.command == set_features then option_map SetFeatures (feature_named h)
    else (if is_log_read h.command
    then option_map (λ pages. ReadLog pages (h.command == read_log_dma)) (pages_named h)
    else None))

-- What the field profile reads in a FIS, beside what each drive reads.
abbrev pub beside : RegH2d → Option Command
beside h =
    if not h.is_command then None
    else (if is_short_transfer h.command
    then (if has_lba_bit h.device then Some (short_transfer h) else None)
    else beside_without_sectors h)

abbrev pub read_or : Result (Command × Option ℕ) CommandError → Option Command
    → Result (Command × Option ℕ) CommandError
read_or (Ok read) more = Ok read
read_or (Err error) None = Err error
read_or (Err error) (Some command) = Ok (command, None)

-- What a reader gives under a profile: what each drive reads, every profile reads the same.
abbrev pub reading_in : Profile → RegH2d → Result (Command × Option ℕ) CommandError
reading_in Base h = reading h
reading_in Field h = read_or (reading h) (beside h)
reading_in Opal h = read_or (read_or (reading h) (beside h)) (more h)

-- What the field profile has: the features and the pages that there are.
abbrev pub field_offers : Command → Bool
field_offers (SetFeatures (TransferMode mode)) = is_transfer_mode mode
field_offers (ReadLog (IdentifyData first count) dma) = are_pages first count
field_offers (Trim blocks) = are_trim_blocks blocks
field_offers _ = true

-- The commands that a profile has: SET FEATURES and the pages of the device's logs belong to the field profile, and so to
-- the opal profile, which has the commands of every ATA device too.
abbrev pub is_offered : Profile → Command → Bool
is_offered Field command = not (is_general command) && field_offers command
is_offered Opal command = field_offers command
is_offered Base (SetFeatures feature) = false
is_offered Base (ReadLog pages dma) = false
is_offered Base command = not (is_general command)

-- How many bytes come with a command that is not queued: under the field profile WRITE DMA of 28 bits brings its
-- sectors too, and under the opal profile each of its writes.
abbrev pub field_payload_length : RegH2d → ℕ
field_payload_length h =
    if h.command == short_write_dma then sector_size * short_sectors h else payload_length h

abbrev pub payload_length_in : Profile → RegH2d → ℕ
payload_length_in Base h = payload_length h
payload_length_in Field h = field_payload_length h
payload_length_in Opal h =
    if brings_more h.command
    then sector_size * blocks_brought h else field_payload_length h

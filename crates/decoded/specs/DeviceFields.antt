-- What an ATA device says of itself: IDENTIFY DEVICE (ACS-3, section 7.12), the log directory, the NCQ Command Error log
-- and the IDENTIFY DEVICE data log (ACS-3, annex A). Each has 512 bytes; bytes behind them are not looked at.
use Rattle.std.specs.Prelude.{ℕ, zero, suc, ◌+◌, ◌*◌, ◌%◌, ◌==◌, Bool, List, [], ◌∷◌, ◌++◌, take, slice_index, Option, codes, if◌then◌else◌}
use Rattle.decoded.specs.declared.field.Form.TheVariants.{Decimal, Hex, Flag, Low, Text}
use Rattle.decoded.specs.declared.listing.Listing.TheVariants.{Words, Logs, Pages, Qwords}
use Rattle.decoded.specs.Fields.{FieldRow, field, little_endian, field_line, row_lines}
use Rattle.decoded.specs.Faults.{BytesFault, earlier, fields_fault, size_fault}
use Rattle.decoded.specs.Listings.{listing_lines}
use Rattle.basics.specs.Sums.{byte_sum}

-- how many bytes each has
abbrev pub page_size : ℕ
page_size = 512

-- so many words from one on, as a number and as characters, of which the upper byte of a word is the first
abbrev pub words_from : ℕ → ℕ → List ℕ
words_from word count = little_endian (2 * word) (2 * count)

abbrev pub characters_from : ℕ → ℕ → List ℕ
characters_from word zero = []
characters_from word (suc n) = (2 * word + 1) ∷ (2 * word) ∷ characters_from (word + 1) n

unfoldable pub identify_fields : List FieldRow
identify_fields =
    field (codes "SerialNumber") (characters_from 10 10) Text
    ∷ field (codes "FirmwareRevision") (characters_from 23 4) Text
    ∷ field (codes "ModelNumber") (characters_from 27 20) Text
    ∷ field (codes "TrustedComputingSupported") (words_from 48 1) (Flag 0x0001)
    ∷ field (codes "Sectors28") (words_from 60 2) Decimal
    ∷ field (codes "QueueDepthMinusOne") (words_from 75 1) (Low 0x001f)
    ∷ field (codes "NCQSupported") (words_from 76 1) (Flag 0x0100)
    ∷ field (codes "Address48Supported") (words_from 83 1) (Flag 0x0400)
    ∷ field (codes "SecurityEraseTime") (words_from 89 1) Hex
    ∷ field (codes "EnhancedSecurityEraseTime") (words_from 90 1) Hex
    ∷ field (codes "MasterPasswordIdentifier") (words_from 92 1) Hex
    ∷ field (codes "Sectors48") (words_from 100 4) Decimal
    ∷ field (codes "SecuritySupported") (words_from 128 1) (Flag 0x0001)
    ∷ field (codes "SecurityEnabled") (words_from 128 1) (Flag 0x0002)
    ∷ field (codes "SecurityLocked") (words_from 128 1) (Flag 0x0004)
    ∷ field (codes "SecurityFrozen") (words_from 128 1) (Flag 0x0008)
    ∷ field (codes "IntegrityWord") (words_from 255 1) Hex
    ∷ []

-- the sum of all bytes is a multiple of 256
abbrev pub has_sum : List ℕ → Bool
has_sum bytes = byte_sum (take page_size bytes) % 256 == 0

abbrev pub sum_text : Bool → List ℕ
sum_text is_right = if is_right then codes "right" else codes "wrong"

-- IDENTIFY DEVICE has a checksum where the lower byte of its last word is A5h.
abbrev pub integrity_text : List ℕ → List ℕ
integrity_text bytes =
    if slice_index bytes 510 == 0xa5 then sum_text (has_sum bytes) else codes "none"

abbrev pub identify_fault : List ℕ → Option BytesFault
identify_fault bytes = fields_fault identify_fields bytes

abbrev pub identify_lines : List ℕ → List ℕ
identify_lines bytes =
    row_lines identify_fields bytes ++ field_line (codes "Checksum") (integrity_text bytes)
    ++ listing_lines Words bytes 256

-- The NCQ Command Error log, page 10h (ACS-3, annex A, section 14).
unfoldable pub queued_error_fields : List FieldRow
queued_error_fields =
    field (codes "NQ") (little_endian 0 1) (Flag 0x80)
    ∷ field (codes "UNL") (little_endian 0 1) (Flag 0x40)
    ∷ field (codes "NCQTag") (little_endian 0 1) (Low 0x1f)
    ∷ field (codes "Status") (little_endian 2 1) Hex
    ∷ field (codes "Error") (little_endian 3 1) Hex
    ∷ field (codes "LBA") (10 ∷ 9 ∷ 8 ∷ 6 ∷ 5 ∷ 4 ∷ []) Decimal
    ∷ field (codes "Device") (little_endian 7 1) Hex
    ∷ field (codes "Count") (little_endian 12 2) Decimal
    ∷ field (codes "ChecksumByte") (little_endian 511 1) Hex
    ∷ []

abbrev pub queued_error_fault : List ℕ → Option BytesFault
queued_error_fault bytes = fields_fault queued_error_fields bytes

abbrev pub queued_error_lines : List ℕ → List ℕ
queued_error_lines bytes =
    row_lines queued_error_fields bytes
    ++ field_line (codes "Checksum") (sum_text (has_sum bytes))

-- The General Purpose Log Directory, log 00h: a word for each log.
unfoldable pub directory_fields : List FieldRow
directory_fields = field (codes "GeneralPurposeLoggingVersion") (words_from 0 1) Hex ∷ []

abbrev pub directory_fault : List ℕ → Option BytesFault
directory_fault bytes =
    earlier (fields_fault directory_fields bytes) (size_fault page_size (codes "Log") bytes)

abbrev pub directory_lines : List ℕ → List ℕ
directory_lines bytes = row_lines directory_fields bytes ++ listing_lines Logs bytes 256

-- The IDENTIFY DEVICE data log, log 30h. Each page has a header; page 00h is the list of pages, page 06h is on security.
unfoldable pub data_page_fields : List FieldRow
data_page_fields =
    field (codes "RevisionNumber") (little_endian 0 2) Hex
    ∷ field (codes "PageNumber") (little_endian 2 1) Hex
    ∷ field (codes "PageDataValid") (little_endian 7 1) (Flag 0x80)
    ∷ []

unfoldable pub page_list_fields : List FieldRow
page_list_fields = field (codes "NumberOfEntries") (little_endian 8 1) Decimal ∷ []

unfoldable pub security_page_fields : List FieldRow
security_page_fields =
    field (codes "TrustedComputingValid") (little_endian 47 1) (Flag 0x80)
    ∷ field (codes "TrustedComputingSupported") (little_endian 40 1) (Flag 0x01)
    ∷ []

abbrev pub data_page_fault : List ℕ → Option BytesFault
data_page_fault bytes =
    earlier (fields_fault data_page_fields bytes) (size_fault page_size (codes "Qword") bytes)

-- what stands behind the header, by the number of the page
abbrev pub page_content_lines : ℕ → List ℕ → List ℕ
page_content_lines page bytes =
    if page == 0x00
    then row_lines page_list_fields bytes ++ listing_lines Pages bytes (slice_index bytes 8) else
    if page == 0x06
    then row_lines security_page_fields bytes ++ listing_lines Qwords bytes 64 else
    listing_lines Qwords bytes 64

abbrev pub data_page_lines : List ℕ → List ℕ
data_page_lines bytes =
    row_lines data_page_fields bytes ++ page_content_lines (slice_index bytes 2) bytes

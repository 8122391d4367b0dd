-- IDENTIFY DEVICE: what a drive says that it is (ACS-3, IDENTIFY DEVICE data).
use Rattle.std.specs.Prelude.{ℕ, zero, suc, ◌+◌, ◌-◌, ◌*◌, ◌/◌, ◌%◌, ◌^◌, ◌==◌, Bool, ◌&&◌, ◌||◌, nat_le, List, [], ◌∷◌, ◌++◌, slice_index_or, codes, if◌then◌else◌}
use Rattle.std.specs.List.{flat_map}
use Rattle.basics.specs.declared.profile.Profile.{Profile}
use Rattle.basics.specs.declared.profile.Profile.TheVariants.{Base, Field, Opal}
use Rattle.sp_cells.specs.Config.{Config}
use Rattle.trusted_cmds.specs.Commands.{sectors_in_block}
use Rattle.trusted_cmds.specs.Trims.{most_trim_blocks}
use Rattle.trusted_cmds.specs.Profiles.{is_multiword, is_ultra}
use Rattle.device_data.specs.Checksums.{with_sum}
use Rattle.device_data.specs.declared.settings.Settings.{Settings}

-- Words 100 to 103: how many sectors there are, the low word first.
abbrev pub sectors_word : ℕ → ℕ → ℕ
sectors_word sectors word = sectors / 2 ^ (16 * (word - 100)) % 65536

-- Word 48: trusted computing. 75: a queue of 32. 76: native queuing. 83: addresses of 48 bits, and
-- the flush of a cache by them.
abbrev pub identify_word : ℕ → ℕ → ℕ
identify_word sectors word =
    if word == 48 then 0x4001
    else (if word == 75 then 0x001f
    else (if word == 76 then 0x0100
    else (if word == 83 then 0x6400
    else (if nat_le 100 word && nat_le word 103 then sectors_word sectors word else 0))))

abbrev pub low_first : ℕ → List ℕ
low_first word = word % 256 ∷ word / 256 ∷ []

abbrev pub run_from : ℕ → ℕ → List ℕ
run_from first zero = []
run_from first (suc n) = first ∷ run_from (suc first) n

-- 256 words, of which the low byte comes first.
abbrev pub identity : ℕ → List ℕ
identity sectors = flat_map (λ word. low_first (identify_word sectors word)) (run_from 0 256)

-- What the field profile tells beside that: the names of the drive, and how a driver may talk to it.

-- Two characters of a text, the first in the upper byte, with blanks behind the text.
abbrev pub text_word : List ℕ → ℕ → ℕ
text_word text at =
    256 * slice_index_or text (2 * at) 32 + slice_index_or text (2 * at + 1) 32

abbrev pub is_between : ℕ → ℕ → ℕ → Bool
is_between first last word = nat_le first word && nat_le word last

-- the version of the drive's firmware (this drive)
abbrev pub firmware : List ℕ
firmware = codes "1.0"

-- Words 10 to 19 have the serial number, 23 to 26 the firmware's version, 27 to 46 the model number.
abbrev pub has_text : ℕ → Bool
has_text word = is_between 10 19 word || is_between 23 26 word || is_between 27 46 word

abbrev pub name_word : List ℕ → List ℕ → ℕ → ℕ
name_word serial model word =
    if is_between 10 19 word then text_word serial (word - 10)
    else (if is_between 23 26 word then text_word firmware (word - 23)
    else text_word model (word - 27))

-- Words 60 and 61: how many sectors an address of 28 bits can reach.
abbrev pub short_capacity : ℕ → ℕ
short_capacity sectors = if nat_le sectors 0xfffffff then sectors else 0xfffffff

-- Word 0: an ATA device. 49: addresses by LBA, transfers by DMA, IORDY. 53: words 64 to 70 and 88 are there. 64: PIO modes
-- 3 and 4. 65 to 68: 120 ns a cycle. 76: native queuing, and three speeds. 80: ATA/ATAPI-4 to ACS-3. 82: a write cache
-- (bit 5) and read look-ahead (bit 6). 83 and 86: both flushes of a cache (bits 12 and 13) and addresses of 48 bits (bit 10)
-- are supported, and so they are enabled. 84 and 87: so are the general purpose logs (bit 5). Bit 14 of 83, 84 and 87 says
-- that they are valid.
abbrev pub driver_word : ℕ → ℕ → ℕ
driver_word sectors word =
    if word == 0 then 0x0040
    else (if word == 49 then 0x0f00
    else (if word == 53 then 0x0006
    else (if word == 60 then short_capacity sectors % 65536
    else (if word == 61 then short_capacity sectors / 65536
    else (if word == 64 then 0x0003
    else (if is_between 65 68 word then 120
    else (if word == 76 then 0x010e
    else (if word == 80 then 0x07f0
    else (if word == 82 then 0x0060
    else (if word == 83 then 0x7400
    else (if word == 84 then 0x4020
    else (if word == 86 then 0x3400
    else (if word == 87 then 0x4020 else identify_word sectors word)))))))))))))

-- The bit of a mode in the upper byte of a word, where a mode of its kind is chosen.
abbrev pub mode_bit : Bool → ℕ → ℕ
mode_bit is mode = if is then 2 ^ (8 + mode % 16) else 0

abbrev pub bit_if : Bool → ℕ → ℕ
bit_if is bit = if is then bit else 0

-- The write cache (bit 5) and read look-ahead (bit 6) are enabled.
abbrev pub chosen_bits : Settings → ℕ
chosen_bits settings = bit_if settings.write_cache 0x20 + bit_if settings.read_look_ahead 0x40

-- Word 63: multiword DMA modes 0 to 2, and which of them is chosen; 88: Ultra DMA modes 0 to 6, and which of them is. 85: what is
-- enabled.
abbrev pub settings_word : Settings → ℕ → ℕ
settings_word settings word =
    if word == 63
    then 0x0007 + mode_bit (is_multiword settings.transfer_mode) settings.transfer_mode
    else (if word == 85 then chosen_bits settings
    else 0x007f + mode_bit (is_ultra settings.transfer_mode) settings.transfer_mode)

abbrev pub is_of_settings : ℕ → Bool
is_of_settings word = word == 63 || word == 85 || word == 88

abbrev pub field_word : Config → Settings → ℕ → ℕ
field_word config settings word =
    if has_text word then name_word config.serial config.model word
    else (if is_of_settings word then settings_word settings word
    else driver_word config.sectors word)

abbrev pub field_identity : Config → Settings → List ℕ
field_identity config settings =
    flat_map (λ word. low_first (field_word config settings word)) (run_from 0 256)

-- What the opal profile tells in place of that. Word 47: 80h in its upper byte, and how many sectors a block of READ MULTIPLE
-- and WRITE MULTIPLE has at most. 59: how many it has now, and bit 8 says that this is set; there is no SANITIZE (bit 12). 86:
-- bit 15 says that words 119 and 120 are told, and so does bit 14 of each; they have no further bit. 217: a medium that does
-- not rotate. 222: a serial transport (bits 15:12 are 1h), by SATA 1.0a to SATA 3.0 (bits 1 to 5), since word 76 has the speed
-- that came with SATA 3.0. 69: trimmed sectors read the same each time (bit 14), zeros (bit 5). 105: how many blocks of entries a
-- DATA SET MANAGEMENT brings at most, and 169: it has TRIM. 82 and 85 have the Power Management feature set (bit 3) beside what
-- the field profile tells there, and 84 and 87 WRITE DMA FUA EXT with WRITE MULTIPLE FUA EXT (bit 6). All other words are the field
-- profile's.
abbrev pub own_word : Config → Settings → ℕ → ℕ
own_word config settings word =
    if word == 47 then 0x8000 + sectors_in_block
    else (if word == 59 then 0x0100 + sectors_in_block
    else (if word == 69 then 0x4020
    else (if word == 86 then 0xb400
    else (if word == 105 then most_trim_blocks
    else (if is_between 119 120 word then 0x4000
    else (if word == 169 then 0x0001
    else (if word == 217 then 0x0001
    else (if word == 222 then 0x103e else field_word config settings word))))))))

abbrev pub is_of_features : ℕ → Bool
is_of_features word = word == 82 || word == 84 || word == 85 || word == 87

abbrev pub features_word : Settings → ℕ → ℕ
features_word settings word =
    if word == 82 then 0x0068
    else (if word == 85 then chosen_bits settings + 0x0008 else 0x4060)

abbrev pub opal_word : Config → Settings → ℕ → ℕ
opal_word config settings word =
    if is_of_features word then features_word settings word else own_word config settings word

-- Words 0 to 254.
abbrev pub opal_words : Config → Settings → List ℕ
opal_words config settings =
    flat_map (λ word. low_first (opal_word config settings word)) (run_from 0 255)

-- Word 255: its low byte says that it has a checksum, and its high byte makes the sum of all bytes a multiple of 256.
abbrev pub has_checksum : ℕ
has_checksum = 0xa5

abbrev pub opal_identity : Config → Settings → List ℕ
opal_identity config settings = with_sum (opal_words config settings ++ has_checksum ∷ [])

abbrev pub identity_in : Profile → Config → Settings → List ℕ
identity_in Base config settings = identity config.sectors
identity_in Field config settings = field_identity config settings
identity_in Opal config settings = opal_identity config settings

-- What a drive answers, by its configuration and what a host has chosen.
abbrev pub identity_of : Config → Settings → List ℕ
identity_of config settings = identity_in config.profile config settings

-- The limits of a drive, and the states of an SP.
use Rattle.std.specs.Prelude.{ℕ}

-- the sectors of a shadow MBR (this drive)
abbrev pub most_mbr_sectors : ℕ
most_mbr_sectors = 262144

-- the bytes of DataStore, and those that it has where none is told (this drive)
abbrev pub most_datastore_bytes : ℕ
most_datastore_bytes = 16777216

abbrev pub new_datastore_bytes : ℕ
new_datastore_bytes = 4096

-- the sectors of the shadow MBR of an Opal drive, which has 08000000h bytes at least, and the least bytes of its DataStore,
-- 00A00000h (Opal SSC 2.01, sections 4.3.5.4 and 4.3.8.1)
abbrev pub opal_mbr_sectors : ℕ
opal_mbr_sectors = 262144

abbrev pub least_opal_datastore_bytes : ℕ
least_opal_datastore_bytes = 10485760

-- the seed of the random bytes where none is told (this drive)
abbrev pub new_seed : ℕ
new_seed = 0

-- the bytes of a PIN (Core 2.01, section 5.3, table C_PIN)
abbrev pub most_pin_bytes : ℕ
most_pin_bytes = 32

-- the bytes of a serial number, and of a model number (ACS-3, IDENTIFY DEVICE data, words 10 to 19 and 27 to 46)
abbrev pub most_serial_bytes : ℕ
most_serial_bytes = 20

abbrev pub most_model_bytes : ℕ
most_model_bytes = 40

-- the bytes of the name that a host gives to a row (Core 2.01, section 5.3, column CommonName)
abbrev pub most_common_name_bytes : ℕ
most_common_name_bytes = 32

-- the elements of an expression under the profiles `Base` and `Field` (this drive), and of any: under `Opal` it can join each of
-- the 16 Users with the Admins, by 16 operators (Opal SSC 2.01, section 4.3.1.6)
abbrev pub most_short_elements : ℕ
most_short_elements = 31

abbrev pub most_elements : ℕ
most_elements = 33

-- the wrong attempts that a new C_PIN row allows; 0 is no limit (this drive)
abbrev pub new_try_limit : ℕ
new_try_limit = 5

abbrev pub no_try_limit : ℕ
no_try_limit = 0

-- the one way in which this drive removes data: cryptographic erase (Opal SSC 2.02, data removal mechanisms)
abbrev pub cryptographic_erase : ℕ
cryptographic_erase = 2

-- the life cycle states of an SP: Manufactured-Inactive and Manufactured (Opal SSC 2.01)
abbrev pub manufactured_inactive : ℕ
manufactured_inactive = 8

abbrev pub manufactured : ℕ
manufactured = 9

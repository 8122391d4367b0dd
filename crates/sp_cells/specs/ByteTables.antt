-- The byte tables of the Locking SP (Opal SSC 2.01, section 4.3, tables MBR and DataStore). Their bytes stand behind
-- one another in one space of places, in whole sectors: those of the shadow MBR first (this drive).
use Rattle.std.specs.Prelude.{◌+◌, ◌*◌, ◌/◌, ℕ, Bool, nat_le, List, length}
use Rattle.shadow_mbr.specs.Stored.{sector_size}
use Rattle.sp_cells.specs.declared.byte_tables.ByteTable.{ByteTable}
use Rattle.sp_cells.specs.declared.byte_tables.ByteTable.TheVariants.{ShadowMbr, DataStore}
use Rattle.sp_cells.specs.declared.byte_tables.TableSizes.{TableSizes}

-- how many bytes a table has: its rows
abbrev pub bytes_of_table : TableSizes → ByteTable → ℕ
bytes_of_table sizes ShadowMbr = sector_size * sizes.mbr_sectors
bytes_of_table sizes DataStore = sizes.datastore

-- the place of its first byte
abbrev pub table_begin : TableSizes → ByteTable → ℕ
table_begin sizes ShadowMbr = 0
table_begin sizes DataStore = sector_size * sizes.mbr_sectors

-- the sectors that hold so many bytes
abbrev pub sectors_for : ℕ → ℕ
sectors_for count = (count + 511) / sector_size

-- the sectors in which all tables stand
abbrev pub sectors_of : TableSizes → ℕ
sectors_of sizes = sizes.mbr_sectors + sectors_for sizes.datastore

-- bytes from this row on stand within the table
abbrev pub fits_table : TableSizes → ByteTable → ℕ → List ℕ → Bool
fits_table sizes table row bytes = nat_le (row + length bytes) (bytes_of_table sizes table)

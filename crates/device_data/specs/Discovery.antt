-- Level 0 discovery: what a drive says of itself before any session (Core 2.01, section 3.3.6; Opal SSC 2.01, section 3.1.1).
use Rattle.std.specs.Prelude.{ℕ, zero, suc, ◌+◌, ◌*◌, ◌==◌, Bool, false, not, ◌&&◌, ◌||◌, List, ◌∷◌, ◌++◌, length, replicate, Option, Some}
use Rattle.std.specs.Str.{bytes_eq}
use Rattle.basics.specs.declared.profile.Profile.{Profile}
use Rattle.basics.specs.declared.profile.Profile.TheVariants.{Base, Field, Opal}
use Rattle.std.specs.Int.{w16, w32, w64, to_be_bytes}
use Rattle.fis.specs.Bytes.{bit}
use Rattle.sp_cells.specs.declared.names.TheConstants.{RANGES, ADMINS, USERS}
use Rattle.sp_cells.specs.declared.names.Sp.TheVariants.{Admin, Locking}
use Rattle.sp_cells.specs.declared.names.Column.{Column}
use Rattle.sp_cells.specs.declared.cells.Cell.{Cell}
use Rattle.sp_cells.specs.declared.cells.Cell.TheVariants.{Bytes}
use Rattle.sp_cells.specs.Names.{locking_sp, mbr_control, c_pin_sid, c_pin_msid}
use Rattle.sp_cells.specs.ColumnNames.{life_cycle_state_column, read_lock_enabled_column, read_locked_column, write_lock_enabled_column, write_locked_column, mbr_enable_column, mbr_done_column, pin_column}
use Rattle.sp_cells.specs.Limits.{manufactured}
use Rattle.sp_cells.specs.Ranges.{number, of_range}
use Rattle.sp_cells.specs.Flat.{LookUp}
use Rattle.trusted_cmds.specs.declared.block.SidBlock.{SidBlock}
use Rattle.trusted_cmds.specs.BlockSid.{is_blocked, ends_at_hardware_reset}

-- A lock of the range is set, and enabled.
abbrev pub is_set : LookUp → ℕ → Column → Bool
is_set look range column = of_range look range column == 1

abbrev pub has_lock : LookUp → ℕ → Bool
has_lock look range =
    (is_set look range read_lock_enabled_column && is_set look range read_locked_column)
    || (is_set look range write_lock_enabled_column && is_set look range write_locked_column)

-- Some number below n passes.
unfoldable pub any_range_below : (ℕ → Bool) → ℕ → Bool
any_range_below p zero = false
any_range_below p (suc n) = any_range_below p n || p n

-- Some range is locked: the global one, or a numbered one.
abbrev pub is_locked : LookUp → Bool
is_locked look = any_range_below (has_lock look) (RANGES + 1)

abbrev pub is_manufactured : LookUp → Bool
is_manufactured look = number look Admin locking_sp life_cycle_state_column == manufactured

abbrev pub is_shadow_flag : LookUp → Column → Bool
is_shadow_flag look column = number look Locking mbr_control column == 1

-- Bit 0: the drive can lock. Bit 1: the Locking SP is Manufactured. Bit 2: some range is locked. Bit 3: nothing is
-- encrypted. Bit 4: MBREnable. Bit 5: MBRDone.
abbrev pub locking_flags : LookUp → ℕ
locking_flags look =
    1 + 2 * bit (is_manufactured look) + 4 * bit (is_locked look)
    + 16 * bit (is_shadow_flag look mbr_enable_column)
    + 32 * bit (is_shadow_flag look mbr_done_column)

-- A feature: its code, its version 1 in the upper half of a byte, the length of what follows.
abbrev pub feature : ℕ → List ℕ → List ℕ
feature code content = to_be_bytes w16 code ++ 0x10 ∷ length content ∷ content

-- TPer: synchronous protocol, and streams are read.
abbrev pub tper_feature : List ℕ
tper_feature = feature 0x0001 (0x11 ∷ replicate 11 0)

abbrev pub locking_feature : ℕ → List ℕ
locking_feature flags = feature 0x0002 (flags ∷ replicate 11 0)

-- Geometry: sectors of 512 bytes, aligned to one.
abbrev pub geometry_feature : List ℕ
geometry_feature =
    feature 0x0003 (replicate 8 0 ++ to_be_bytes w32 512 ++ to_be_bytes w64 1 ++ to_be_bytes w64 0)

-- The ComIDs of sessions: so many, from the first one on (Opal SSC 2.01, section 3.1.1.5).
abbrev pub first_com_id : ℕ
first_com_id = 0x1000

abbrev pub com_ids : ℕ
com_ids = 4

-- Opal SSC 2: its ComIDs, the Locking SP's Admins and Users; SID's first PIN is the MSID.
abbrev pub opal_feature : List ℕ
opal_feature =
    feature 0x0203 (to_be_bytes w16 first_com_id ++ to_be_bytes w16 com_ids
    ++ 0 ∷ to_be_bytes w16 ADMINS
    ++ to_be_bytes w16 USERS ++ 0 ∷ 0 ∷ replicate 5 0)

abbrev pub features : ℕ → List ℕ
features flags = tper_feature ++ locking_feature flags ++ geometry_feature ++ opal_feature

-- The header has the length of all that follows its first four bytes, and version 1.
abbrev pub level0 : List ℕ → List ℕ
level0 told = to_be_bytes w32 (44 + length told) ++ to_be_bytes w32 1 ++ replicate 40 0 ++ told

abbrev pub discovery : LookUp → List ℕ
discovery look = level0 (features (locking_flags look))

-- What the field profile tells beside that.

-- SID has a PIN of its own: that of C_PIN_SID is not the MSID.
abbrev pub are_same_bytes : Option Cell → Option Cell → Bool
are_same_bytes (Some (Bytes a)) (Some (Bytes b)) = bytes_eq a b
are_same_bytes _ _ = false

abbrev pub has_owner : LookUp → Bool
has_owner look =
    not (are_same_bytes (look Admin c_pin_sid pin_column) (look Admin c_pin_msid pin_column))

-- Block SID Authentication. Bit 0: SID has a PIN of its own. Bit 1: SID is blocked. Bit 0 of the next byte: a hardware
-- reset frees it (Block SID Authentication feature set 1.00, Level 0 discovery).
abbrev pub sid_flags : LookUp → SidBlock → ℕ
sid_flags look block = bit (has_owner look) + 2 * bit (is_blocked block)

abbrev pub block_feature : LookUp → SidBlock → List ℕ
block_feature look block =
    feature 0x0402 (sid_flags look block ∷ bit (ends_at_hardware_reset block) ∷ replicate 10 0)

-- Data removal: a mechanism by keys alone (bit 2), and its time, 1 of two seconds, behind those of two other ones (Opal
-- SSC 2.02, Level 0 discovery, Supported Data Removal Mechanism).
abbrev pub removal_feature : List ℕ
removal_feature =
    feature 0x0404 (0 ∷ 0 ∷ 4 ∷ 0 ∷ replicate 4 0 ++ to_be_bytes w16 1 ++ replicate 22 0)

-- Bit 3 of the Locking feature: media are encrypted.
abbrev pub field_discovery : LookUp → SidBlock → List ℕ
field_discovery look block =
    level0 (features (8 + locking_flags look) ++ block_feature look block ++ removal_feature)

abbrev pub discovery_of : Profile → LookUp → SidBlock → List ℕ
discovery_of Base look block = discovery look
discovery_of Field look block = field_discovery look block
discovery_of Opal look block = field_discovery look block

-- Level 0 discovery (Core 2.01, section 3.3.6): a header of 48 bytes, and one feature behind the other. A feature has its
-- code, its version in the upper half of a byte, the length of what follows, and that. Numbers have the highest byte first.
use Rattle.std.specs.Prelude.{ℕ, zero, suc, ◌+◌, ◌-◌, ◌*◌, ◌==◌, List, [], ◌∷◌, ◌++◌, take, drop, slice_index, Option, None, Some, codes, if◌then◌else◌}
use Rattle.byteorder.specs.Endian.{big_number}
use Rattle.decoded.specs.declared.field.Form.TheVariants.{Decimal, Hex, Flag, High}
use Rattle.decoded.specs.declared.level0.Feature.{Feature}
use Rattle.decoded.specs.Fields.{FieldRow, field, rows_of, big_endian, octets_at, prefixed_hex, field_line, row_lines}
use Rattle.decoded.specs.Faults.{BytesFault, earlier, fields_fault, size_fault}

unfoldable pub level0_fields : List FieldRow
level0_fields =
    field (codes "LengthOfParameterData") (big_endian 0 4) Decimal
    ∷ field (codes "DataStructureRevision") (big_endian 4 4) Hex
    ∷ field (codes "VendorSpecific") (big_endian 16 32) Hex
    ∷ []

unfoldable pub feature_fields : List FieldRow
feature_fields =
    field (codes "FeatureCode") (big_endian 0 2) Hex
    ∷ field (codes "Version") (big_endian 2 1) High
    ∷ field (codes "Length") (big_endian 3 1) Decimal
    ∷ []

-- TPer (Opal SSC 2.01, section 3.1.1.2)
unfoldable pub tper_fields : List FieldRow
tper_fields =
    field (codes "SyncSupported") (big_endian 4 1) (Flag 0x01)
    ∷ field (codes "AsyncSupported") (big_endian 4 1) (Flag 0x02)
    ∷ field (codes "ACK/NAKSupported") (big_endian 4 1) (Flag 0x04)
    ∷ field (codes "BufferManagementSupported") (big_endian 4 1) (Flag 0x08)
    ∷ field (codes "StreamingSupported") (big_endian 4 1) (Flag 0x10)
    ∷ field (codes "ComIDManagementSupported") (big_endian 4 1) (Flag 0x40)
    ∷ []

-- Locking (Opal SSC 2.01, section 3.1.1.3)
unfoldable pub locking_fields : List FieldRow
locking_fields =
    field (codes "LockingSupported") (big_endian 4 1) (Flag 0x01)
    ∷ field (codes "LockingEnabled") (big_endian 4 1) (Flag 0x02)
    ∷ field (codes "Locked") (big_endian 4 1) (Flag 0x04)
    ∷ field (codes "MediaEncryption") (big_endian 4 1) (Flag 0x08)
    ∷ field (codes "MBREnabled") (big_endian 4 1) (Flag 0x10)
    ∷ field (codes "MBRDone") (big_endian 4 1) (Flag 0x20)
    ∷ []

-- Geometry Reporting (Opal SSC 2.01, section 3.1.1.4)
unfoldable pub geometry_fields : List FieldRow
geometry_fields =
    field (codes "ALIGN") (big_endian 4 1) (Flag 0x01)
    ∷ field (codes "LogicalBlockSize") (big_endian 12 4) Decimal
    ∷ field (codes "AlignmentGranularity") (big_endian 16 8) Decimal
    ∷ field (codes "LowestAlignedLBA") (big_endian 24 8) Decimal
    ∷ []

-- Opal SSC 2 (Opal SSC 2.01, section 3.1.1.5)
unfoldable pub opal_fields : List FieldRow
opal_fields =
    field (codes "BaseComID") (big_endian 4 2) Hex
    ∷ field (codes "NumberOfComIDs") (big_endian 6 2) Decimal
    ∷ field (codes "RangeCrossingBehavior") (big_endian 8 1) (Flag 0x01)
    ∷ field (codes "NumberOfLockingSPAdmins") (big_endian 9 2) Decimal
    ∷ field (codes "NumberOfLockingSPUsers") (big_endian 11 2) Decimal
    ∷ field (codes "InitialC_PIN_SIDIndicator") (big_endian 13 1) Hex
    ∷ field (codes "C_PIN_SIDUponRevert") (big_endian 14 1) Hex
    ∷ []

-- Block SID Authentication (its feature set 1.00, Level 0 discovery)
unfoldable pub block_sid_fields : List FieldRow
block_sid_fields =
    field (codes "SIDValueState") (big_endian 4 1) (Flag 0x01)
    ∷ field (codes "SIDBlockedState") (big_endian 4 1) (Flag 0x02)
    ∷ field (codes "HardwareReset") (big_endian 5 1) (Flag 0x01)
    ∷ []

-- Supported Data Removal Mechanism (Opal SSC 2.02, Level 0 discovery); times are of the mechanisms of bits 0 to 5
unfoldable pub data_removal_fields : List FieldRow
data_removal_fields =
    field (codes "DataRemovalOperationProcessing") (big_endian 5 1) (Flag 0x01)
    ∷ field (codes "SupportedDataRemovalMechanism") (big_endian 6 1) Hex
    ∷ field (codes "DataRemovalTimeFormat") (big_endian 7 1) Hex
    ∷ field (codes "DataRemovalTimeBit0") (big_endian 8 2) Decimal
    ∷ field (codes "DataRemovalTimeBit1") (big_endian 10 2) Decimal
    ∷ field (codes "DataRemovalTimeBit2") (big_endian 12 2) Decimal
    ∷ field (codes "DataRemovalTimeBit3") (big_endian 14 2) Decimal
    ∷ field (codes "DataRemovalTimeBit4") (big_endian 16 2) Decimal
    ∷ field (codes "DataRemovalTimeBit5") (big_endian 18 2) Decimal
    ∷ []

-- a feature that is known: its name, and its fields
pub record FeatureRow : Type 0 where
  pub name : List ℕ
  pub fields : List FieldRow

abbrev pub named_feature : List ℕ → List FieldRow → FeatureRow
named_feature name fields = record { name = name; fields = fields }

-- a feature of the code
abbrev pub feature_row : Feature → FeatureRow
feature_row known = named_feature known.name.now (rows_of known.fields.now)

-- the feature of a code
abbrev pub feature_of : ℕ → Option FeatureRow
feature_of code =
    if code == 0x0001 then Some (named_feature (codes "TPer") tper_fields) else
    if code == 0x0002 then Some (named_feature (codes "Locking") locking_fields) else
    if code == 0x0003 then Some (named_feature (codes "Geometry") geometry_fields) else
    if code == 0x0203 then Some (named_feature (codes "OpalSSC2") opal_fields) else
    if code == 0x0402 then Some (named_feature (codes "BlockSID") block_sid_fields) else
    if code == 0x0404 then Some (named_feature (codes "DataRemoval") data_removal_fields) else
    None

abbrev pub feature_code : List ℕ → ℕ
feature_code feature = 256 * slice_index feature 0 + slice_index feature 1

-- how many bytes a feature has by its length
abbrev pub feature_size : List ℕ → ℕ
feature_size feature = 4 + slice_index feature 3

-- The features that stand one behind the other, as far as the bytes go. The first so many bytes belong to the one before.
unfoldable pub features_in : ℕ → List ℕ → List (List ℕ)
features_in skipped [] = []
features_in zero (b ∷ bs) =
    take (feature_size (b ∷ bs)) (b ∷ bs) ∷ features_in (feature_size (b ∷ bs) - 1) bs
features_in (suc skipped) (b ∷ bs) = features_in skipped bs

-- the lines of a feature: of one that is not known, all that follows its length in hex
abbrev pub lines_of_feature : Option FeatureRow → List ℕ → List ℕ
lines_of_feature (Some known) feature =
    field_line (codes "Feature") known.name ++ row_lines feature_fields feature
    ++ row_lines known.fields feature
lines_of_feature None feature =
    field_line (codes "Feature") (codes "unknown") ++ row_lines feature_fields feature
    ++ field_line (codes "Data") (prefixed_hex (drop 4 feature))

abbrev pub feature_lines : List ℕ → List ℕ
feature_lines feature = lines_of_feature (feature_of (feature_code feature)) feature

-- the lines of features that stand one behind the other
abbrev pub features_lines : List (List ℕ) → List ℕ
features_lines [] = []
features_lines (feature ∷ features) = feature_lines feature ++ features_lines features

abbrev pub fault_of_known : Option FeatureRow → List ℕ → Option BytesFault
fault_of_known (Some known) feature = fields_fault known.fields feature
fault_of_known None feature = None

-- a feature ends within a field that it has, or before what its length says
abbrev pub feature_fault : List ℕ → Option BytesFault
feature_fault feature =
    earlier (fields_fault feature_fields feature)
    (earlier (fault_of_known (feature_of (feature_code feature)) feature)
    (size_fault (feature_size feature) (codes "Data") feature))

abbrev pub features_fault : List (List ℕ) → Option BytesFault
features_fault [] = None
features_fault (feature ∷ features) = earlier (feature_fault feature) (features_fault features)

-- how many bytes the discovery has by its length, which counts what follows it
abbrev pub level0_size : List ℕ → ℕ
level0_size bytes = 4 + big_number 4 (octets_at (big_endian 0 4) bytes)

-- what stands behind the header; bytes behind the discovery are not looked at
abbrev pub level0_features : List ℕ → List ℕ
level0_features bytes = drop 48 (take (level0_size bytes) bytes)

abbrev pub level0_fault : List ℕ → Option BytesFault
level0_fault bytes =
    earlier (fields_fault level0_fields bytes)
    (earlier (features_fault (features_in 0 (level0_features bytes)))
    (size_fault (level0_size bytes) (codes "FeatureCode") bytes))

abbrev pub level0_lines : List ℕ → List ℕ
level0_lines bytes =
    row_lines level0_fields bytes
    ++ features_lines (features_in 0 (level0_features bytes))

-- When a store keeps what the past says. Part by part, and by points.
use Rattle.std.specs.Prelude.{◌≡◌, ◌==◌, ◌||◌, ℕ, zero, suc, ◌+◌, ◌*◌, Bool, true, false, List, [], ◌∷◌, ◌++◌, length, slice_index, None, Some, is_some, option_map, Ok, if◌then◌else◌}
use Rattle.sp_cells.specs.declared.names.Uid.{Uid}
use Rattle.sp_cells.specs.declared.names.Sp.{Sp}
use Rattle.sp_cells.specs.declared.names.Sp.TheVariants.{Admin, Locking}
use Rattle.sp_cells.specs.declared.names.Column.{Column}
use Rattle.sp_cells.specs.declared.cells.Cell.TheVariants.{Number}
use Rattle.sp_cells.specs.declared.names.TheConstants.{USERS, ADMINS, RANGES}
use Rattle.sp_cells.specs.Config.{Config, table_sectors}
use Rattle.sp_cells.specs.Names.{c_pin_sid, c_pin_msid, c_pin_psid, c_pin_admin_sp_admin, admin_pin_uid, user_pin_uid, mbr_control}
use Rattle.sp_tables.specs.Items.{item_at}
use Rattle.sp_tables.specs.Contents.{Contents, factory_contents, cells_look_up as cells_of}
use Rattle.sp_tables.specs.Looks.{RowLook}
use Rattle.sp_tables.specs.Tries.{is_tries}
use Rattle.shadow_mbr.specs.Stored.{StoredSectors as Bytes, sector_size, byte_at}
use Rattle.transactions.specs.Stored.{Transaction, Part, Stored, part, bytes_seen, new_store, after_reset}
use Rattle.transactions.specs.Resets.{is_range}
use Rattle.transactions.specs.Sights.{look_up, committed_sight, side_at, side_for}
use Rattle.sessions.specs.Made.{StoresAs}
use Rattle.locking.specs.declared.range.RangeRow.{RangeRow}
use Rattle.history.specs.Opening.{Origin, origin_on, factory_origin, origin_with}
use Rattle.history.specs.Changes.{byte_in}
use Rattle.history.specs.Events.{Deed, Nothing, InSession, OfQueue, Wrote, Trimmed, Took, WasReset, BlockedSid, Chose, PowerSet, Event}
use Rattle.history.specs.Readers.{changes, open_changes, open_on, rows_after, rows_within, tries, in_force, view, byte_in_force, byte_in_view}
use Rattle.history.specs.Agreement.{HasNoTries}

-- The rows of an SP but for Tries, and the Tries alone.
abbrev pub but_tries : RowLook → RowLook
but_tries rows object column = if is_tries object column then None else rows object column

abbrev pub tries_alone : (Uid → ℕ) → RowLook → RowLook
tries_alone counted rows object column =
    if is_tries object column
    then option_map (λ _. Number (counted object)) (rows object column) else None

-- What is kept of an SP: its rows in force, its Tries, and the rows that an open transaction sees,
-- which has the places that the rows in force have.
pub record KeepsPart (p : Part) (o : Origin) (past : List Event) (sp : Sp) : Type 0 where
  pub rows : (object : Uid) (column : Column)
      → item_at p.rows object column ≡ but_tries (rows_after o past sp) object column
  pub tries : (object : Uid) (column : Column)
      → item_at p.tries object column
      ≡ tries_alone (tries past sp) (rows_after o past sp) object column
  pub transaction : option_map (λ t. t.tsn) p.pending ≡ open_on past sp
  pub within : (t : Transaction) → p.pending ≡ Some t → (object : Uid) (column : Column)
      → item_at t.rows object column ≡ but_tries (rows_within o past sp) object column
  pub places : (object : Uid) (column : Column)
      → is_some (rows_within o past sp object column) ≡ is_some (rows_after o past sp object column)

-- The bytes of the byte tables: all of their sectors, in force and within an open transaction.
pub record KeepsBytes (p : Part) (o : Origin) (past : List Event) : Type 0 where
  pub size : length p.bytes ≡ sector_size * table_sectors o.tables.config
  pub bytes : (place : ℕ) → slice_index p.bytes place ≡ byte_in_force past place
  pub size_within : (t : Transaction) → p.pending ≡ Some t
      → length t.bytes ≡ sector_size * table_sectors o.tables.config
  pub within : (t : Transaction) → p.pending ≡ Some t → (place : ℕ)
      → slice_index t.bytes place
      ≡ byte_in (open_changes past Locking ++ changes past Locking) place

-- The C_PIN rows whose Tries a power cycle clears.
unfoldable pub in_family : (ℕ → Uid) → ℕ → Uid → Bool
in_family name zero object = false
in_family name (suc n) object = in_family name n object || ((name (suc n)).0 == object.0)

abbrev pub is_cleared : Sp → Uid → Bool
is_cleared Admin object =
    (c_pin_sid.0 == object.0) || (c_pin_msid.0 == object.0) || (c_pin_psid.0 == object.0)
    || (c_pin_admin_sp_admin.0 == object.0)
is_cleared Locking object =
    in_family admin_pin_uid ADMINS object || in_family user_pin_uid USERS object

-- The rows that a reset may lock or release.
abbrev pub has_locks : Uid → Bool
has_locks object = is_range (RANGES + 1) object || (mbr_control.0 == object.0)

-- A Revert brings back the tables of the factory. A reset finds all that it changes in what a drive
-- starts from: no other row counts attempts, and the Admin SP has no ranges and no shadow.
pub record HasKnownRows (o : Origin) : Type 0 where
  pub factory : o.factory ≡ factory_contents o.tables.config
  pub tries : (sp : Sp) (object : Uid) (column : Column) → is_tries object column ≡ true
      → is_cleared sp object ≡ false → cells_of o.tables sp object column ≡ None
  pub locks : (object : Uid) (column : Column) → has_locks object ≡ true
      → cells_of o.tables Admin object column ≡ None

pub record KeepsStore (s : Stored) (o : Origin) (past : List Event) : Type 0 where
  pub config : s.config ≡ o.tables.config
  pub known : HasKnownRows o
  pub parts : (sp : Sp) → KeepsPart (part s sp) o past sp
  pub bytes : KeepsBytes s.locking o past

-- What a deed makes of a store.

abbrev pub StoresBy : Deed → Stored → Stored → Type 0
StoresBy Nothing s t = t ≡ s
StoresBy (InSession deed response) s t = StoresAs deed s t
StoresBy (OfQueue deed) s t = t ≡ s
StoresBy (Wrote lba bytes) s t = t ≡ s
StoresBy (Trimmed extents) s t = t ≡ s
StoresBy (Took com_id) s t = t ≡ s
StoresBy (WasReset kind) s t = t ≡ after_reset kind s
StoresBy (BlockedSid block) s t = t ≡ s
StoresBy (Chose feature) s t = t ≡ s
StoresBy (PowerSet in_standby) s t = t ≡ s

-- Laws.

-- A store over the tables and the zeros that a drive starts from keeps what no acts say.
abbrev pub StoreOpeningLaw : Type 0
StoreOpeningLaw =
    (tables : Contents) (mbr : Bytes) → HasNoTries (origin_on tables)
    → HasKnownRows (origin_on tables)
    → mbr.sectors ≡ table_sectors tables.config → ((place : ℕ) → byte_at mbr place ≡ 0)
    → KeepsStore (new_store tables mbr) (origin_on tables) []

-- The tables of a new drive are so, and those of each opening.
abbrev pub KnownRowsLaw : Type 0
KnownRowsLaw =
    (config : Config) → HasKnownRows (factory_origin config)
    × ((rows : List RangeRow) (o : Origin) → origin_with config rows ≡ Ok o → HasKnownRows o)

-- What a deed makes of a store keeps what one more event says.
abbrev pub StoreLaw : Type 0
StoreLaw =
    (o : Origin) (past : List Event) (e : Event) (s t : Stored) → KeepsStore s o past
    → StoresBy e.deed s t → KeepsStore t o (e ∷ past)

-- What is read of a store is what the past says.
pub record ReadsStore (s : Stored) (o : Origin) (past : List Event) : Type 0 where
  pub rows : look_up (committed_sight s) ≡ in_force o past
  pub bytes : slice_index s.locking.bytes ≡ byte_in_force past
  pub views : (number : ℕ) (sp : Sp) → side_at (side_for (part s sp) number) ≡ view o past number sp
  pub view_bytes : (number place : ℕ)
      → slice_index (bytes_seen s.locking number) place
      ≡ byte_in_view past number place

abbrev pub StoreReadLaw : Type 0
StoreReadLaw =
    (s : Stored) (o : Origin) (past : List Event) → KeepsStore s o past → ReadsStore s o past

-- What a store keeps over what a drive starts from; and which rows count attempts there.
use Rattle.basics.specs.declared.profile.Profile.{Profile}
use Rattle.basics.specs.declared.profile.Profile.TheVariants.{Base, Field, Opal}
use Rattle.std.proofs.Common.{◌≡◌, ℕ, ◌==◌, ◌*◌, Bool, true, false, ◌&&◌, not, List, [], ◌∷◌, Option, Some, None, refl, sym, ◌∙◌, ap, cond, eqb-true}
use Rattle.std.specs.Prelude.{option_map, Result, Ok, Err}
use Rattle.std.specs.List.{list_all}
use Rattle.sp_cells.specs.declared.names.Uid.{Uid}
use Rattle.sp_cells.specs.declared.names.Sp.{Sp}
use Rattle.sp_cells.specs.declared.names.Sp.TheVariants.{Admin, Locking}
use Rattle.sp_cells.specs.declared.names.Column.{Column}
use Rattle.sp_cells.specs.declared.cells.Cell.{Cell}
use Rattle.sp_cells.specs.declared.cells.Cell.TheVariants.{Number}
use Rattle.sp_cells.specs.declared.error.SetError.{SetError}
use Rattle.sp_cells.specs.Config.{Config, sizes_in}
use Rattle.sp_cells.specs.declared.byte_tables.TableSizes.{TableSizes}
use Rattle.sp_cells.specs.Names.{admin_pin_uid, locking_sp, range_uid}
use Rattle.sp_tables.specs.Items.{Item, item_at, with_items}
use Rattle.sp_tables.specs.Factory.{admin_factory, locking_factory, admin_sps, admin_authorities, label_authorities, opal_authorities, opal_pins, opal_admin_aces, admin_constants, admin_pins, label_pins, admin_aces, label_aces, removal_aces, data_removals, locking_authorities, locking_pins, locking_ranges, locking_mbr_controls, authority_aces, pin_aces, range_get_aces, range_aces, mbr_aces, gen_key_aces, opal_locking_aces, locking_constants, range_keys, locking_infos, byte_tables, datastore_aces}
use Rattle.sp_tables.specs.Contents.{new_admin, new_locking, Contents, items_of, cells_look_up}
use Rattle.sp_tables.specs.Looks.{RowLook}
use Rattle.sp_tables.specs.Tries.{is_tries}
use Rattle.sp_tables.proofs.LookLemmas.{look_up-sp, item_at-puts}
use Rattle.locking.specs.declared.range.RangeRow.{RangeRow}
use Rattle.shadow_mbr.specs.Stored.{sector_size}
use Rattle.transactions.specs.Resets.{is_range}
use Rattle.transactions.specs.Bytes.{mbr_table_bytes}
use Rattle.transactions.specs.Stored.{part_from, part, new_store}
use Rattle.history.specs.Opening.{Origin, origin_on, factory_origin, life_cycle, pin, activated_origin, changes_of, row_fault, with_range, unless, origin_after}
use Rattle.history.specs.Readers.{open_on, tries, rows_after}
use Rattle.history.specs.Events.{Event}
use Rattle.history.specs.Agreement.{HasNoTries}
use Rattle.history.specs.KeptStore.{in_family, is_cleared, has_locks, HasKnownRows, KeepsPart, StoreOpeningLaw, KnownRowsLaw}
use Rattle.history.proofs.CellLaws.{IsOfFactory, puts-none, rows-new}
use Rattle.history.proofs.KeptStoreRows.{without-shows, among-shows}
use Rattle.history.proofs.KeptStoreParts.{closed-part}
use Rattle.history.proofs.KeptStoreBytes.{closed-bytes, in-length, in-zeros}

-- the parts of tables
pub restored-part : (items : List Item) (bytes : List ℕ) (o : Origin) (past : List Event) (sp : Sp) → open_on past sp ≡ None → rows_after o past sp ≡ item_at items → ((object : Uid) → tries past sp object ≡ 0)
    → ((object : Uid) (column : Column) → is_tries object column ≡ true → item_at items object column ≡ option_map (λ _. Number 0) (item_at items object column)) → KeepsPart (part_from items bytes) o past sp
restored-part items bytes o past sp closed same none clean =
    closed-part (part_from items bytes) o past sp refl closed (item_at items) same (without-shows items)
    (λ object column. among-shows items 0 clean object column ∙ ap (λ n. cond (is_tries object column) (option_map (λ _. Number n) (item_at items object column)) None) (sym (none object)))

pub no-tries-in : (o : Origin) → HasNoTries o → (sp : Sp) (object : Uid) (column : Column) → is_tries object column ≡ true → item_at (items_of o.tables sp) object column ≡ option_map (λ _. Number 0) (item_at (items_of o.tables sp) object column)
no-tries-in o h sp object column is =
    let same : cells_look_up o.tables sp object column ≡ item_at (items_of o.tables sp) object column = ap (λ r. r object column) (look_up-sp o.tables sp) in
    sym same ∙ h sp object column is ∙ ap (option_map (λ _. Number 0)) same

pub store_opening_law : StoreOpeningLaw
store_opening_law tables mbr clean known size zeros = record {
  config = refl;
  known = known;
  parts = parts;
  bytes = closed-bytes (part_from tables.locking (mbr_table_bytes mbr)) o [] [] refl refl (in-length mbr ∙ ap (λ n. sector_size * n) size) (in-zeros mbr zeros);
}
  where
    o : Origin
    o = origin_on tables

    parts : (sp : Sp) → KeepsPart (part (new_store tables mbr) sp) o [] sp
    parts Admin = restored-part tables.admin [] o [] Admin refl (look_up-sp tables Admin) (λ object. refl) (no-tries-in o clean Admin)
    parts Locking = restored-part tables.locking (mbr_table_bytes mbr) o [] Locking refl (look_up-sp tables Locking) (λ object. refl) (no-tries-in o clean Locking)

-- rows that a test finds nowhere
abbrev lack : (Uid → Column → Bool) → List Item → Bool
lack test items = list_all (λ i. not (test i.object i.column)) items

both-true : (a b : Bool) → (a && b) ≡ true → (a ≡ true) × (b ≡ true)
both-true true b h = (refl, h)
both-true false b h = cc

found-clash : (a : Bool) → a ≡ true → not a ≡ true → ⊥
found-clash true h g = cc
found-clash false h g = cc

alike : (test : Uid → Column → Bool) (i : Item) (object : Uid) (column : Column) → (i.object.0 == object.0) ≡ true → (i.column.0 == column.0) ≡ true → not (test i.object i.column) ≡ not (test object column)
alike test i object column o c =
    ap (λ (n : ℕ). not (test (record { 0 = n }) i.column)) (eqb-true i.object.0 object.0 o) ∙ ap (λ (n : ℕ). not (test object (record { 0 = n }))) (eqb-true i.column.0 column.0 c)

lacks : (test : Uid → Column → Bool) (items : List Item) (object : Uid) (column : Column) → test object column ≡ true → lack test items ≡ true → item_at items object column ≡ None
lacks test [] object column is h = refl
lacks test (i ∷ items) object column is h =
    let parts = both-true (not (test i.object i.column)) (lack test items) h in
    by_place (i.object.0 == object.0) (i.column.0 == column.0) refl refl parts.0 (lacks test items object column is parts.1)
  where
    by_place : (a b : Bool) → (i.object.0 == object.0) ≡ a → (i.column.0 == column.0) ≡ b → not (test i.object i.column) ≡ true → item_at items object column ≡ None
        → cond (a && b) (Some i.value) (item_at items object column) ≡ None
    by_place true true at_o at_c here rest = absurd (found-clash (test object column) is (sym (alike test i object column at_o at_c) ∙ here))
    by_place true false at_o at_c here rest = rest
    by_place false b at_o at_c here rest = rest

-- what a new drive has nowhere
abbrev counts_else : Sp → Uid → Column → Bool
counts_else sp object column = is_tries object column && not (is_cleared sp object)

abbrev locks_here : Uid → Column → Bool
locks_here object column = has_locks object

admin-counts : (p : Profile) (msid psid : List ℕ) → lack (counts_else Admin) (admin_factory p msid psid) ≡ true
unfolding admin_sps admin_authorities label_authorities opal_authorities opal_pins opal_admin_aces admin_constants admin_pins label_pins admin_aces label_aces removal_aces data_removals in_family
admin-counts Base msid psid = refl
admin-counts Field msid psid = refl
admin-counts Opal msid psid = refl

locking-counts : (p : Profile) (sizes : TableSizes) → lack (counts_else Locking) (locking_factory p sizes) ≡ true
unfolding locking_authorities locking_pins locking_ranges locking_mbr_controls authority_aces pin_aces range_get_aces range_aces mbr_aces gen_key_aces opal_locking_aces locking_constants range_keys locking_infos byte_tables datastore_aces in_family
locking-counts Base sizes = refl
locking-counts Field sizes = refl
locking-counts Opal sizes = refl

admin-locks : (p : Profile) (msid psid : List ℕ) → lack locks_here (admin_factory p msid psid) ≡ true
unfolding admin_sps admin_authorities label_authorities opal_authorities opal_pins opal_admin_aces admin_constants admin_pins label_pins admin_aces label_aces removal_aces data_removals is_range
admin-locks Base msid psid = refl
admin-locks Field msid psid = refl
admin-locks Opal msid psid = refl

else-where : (a b : Bool) → a ≡ true → b ≡ false → (a && not b) ≡ true
else-where true false h g = refl
else-where true true h g = cc
else-where false b h g = cc

-- where tables have no cell, with cells set they have none
items-none : (items : List Item) (object : Uid) (cells : List (Column × Cell)) (o : Uid) (c : Column) → item_at items o c ≡ None → item_at (with_items items object cells) o c ≡ None
items-none items object cells o c h = ap (λ (r : RowLook). r o c) (item_at-puts items object cells) ∙ puts-none object cells (item_at items) o c h

record Known (tables : Contents) : Type 0 where
  admin : (object : Uid) (column : Column) → is_tries object column ≡ true → is_cleared Admin object ≡ false → item_at tables.admin object column ≡ None
  locking : (object : Uid) (column : Column) → is_tries object column ≡ true → is_cleared Locking object ≡ false → item_at tables.locking object column ≡ None
  locks : (object : Uid) (column : Column) → has_locks object ≡ true → item_at tables.admin object column ≡ None

known-rows : (o : Origin) → IsOfFactory o → Known o.tables → HasKnownRows o
known-rows o new h = record {
  factory = new;
  tries = by_sp;
  locks = λ object column is. ap (λ (r : RowLook). r object column) (look_up-sp o.tables Admin) ∙ h.locks object column is;
}
  where
    by_sp : (sp : Sp) (object : Uid) (column : Column) → is_tries object column ≡ true → is_cleared sp object ≡ false → cells_look_up o.tables sp object column ≡ None
    by_sp Admin object column is apart = ap (λ (r : RowLook). r object column) (look_up-sp o.tables Admin) ∙ h.admin object column is apart
    by_sp Locking object column is apart = ap (λ (r : RowLook). r object column) (look_up-sp o.tables Locking) ∙ h.locking object column is apart

factory-known : (config : Config) → Known (factory_origin config).tables
factory-known config = record {
  admin = λ object column is apart. lacks (counts_else Admin) (new_admin config) object column (else-where (is_tries object column) (is_cleared Admin object) is apart) (admin-counts config.profile config.msid config.psid);
  locking = λ object column is apart. lacks (counts_else Locking) (new_locking config) object column (else-where (is_tries object column) (is_cleared Locking object) is apart) (locking-counts config.profile (sizes_in config));
  locks = λ object column is. lacks locks_here (new_admin config) object column is (admin-locks config.profile config.msid config.psid);
}

activated-known : (config : Config) → Known (activated_origin config).tables
activated-known config =
    let h = factory-known config in
    record {
      admin = λ object column is apart. items-none (new_admin config) locking_sp life_cycle object column (h.admin object column is apart);
      locking = λ object column is apart. items-none (new_locking config) (admin_pin_uid 1) (pin config.msid) object column (h.locking object column is apart);
      locks = λ object column is. items-none (new_admin config) locking_sp life_cycle object column (h.locks object column is);
    }

range-known : (row : RangeRow) (o : Origin) → Known o.tables → Known (with_range row o).tables
range-known row o h = record {
  admin = h.admin;
  locking = λ object column is apart. items-none o.tables.locking (range_uid row.range) (changes_of row) object column (h.locking object column is apart);
  locks = h.locks;
}

abbrev opens : Origin → Result Origin SetError
opens o = Ok o

ok-same : {x y : Origin} → opens x ≡ opens y → x ≡ y
ok-same h = cc

rows-known : (rows : List RangeRow) (o made : Origin) → Known o.tables → origin_after rows o ≡ Ok made → Known made.tables
rows-known [] o made known h = let same : o ≡ made = ok-same h in rw (← same) known
rows-known (row ∷ rows) o made known h = by_fault (row_fault o row) h (rows-known rows (with_range row o) made (range-known row o known))
  where
    by_fault : (x : Option SetError) → unless x (origin_after rows (with_range row o)) ≡ Ok made → (origin_after rows (with_range row o) ≡ Ok made → Known made.tables) → Known made.tables
    by_fault None g rest = rest g
    by_fault (Some fault) g rest = absurd (refused g)
      where
        refused : {e : SetError} {x : Origin} → Err e ≡ Ok x → ⊥
        refused k = cc

pub factory-has-known : (config : Config) → HasKnownRows (factory_origin config)
factory-has-known config = known-rows (factory_origin config) refl (factory-known config)

pub known_rows_law : KnownRowsLaw
known_rows_law config = (
  factory-has-known config,
  λ rows o h. known-rows o (rows-new rows (activated_origin config) o refl h) (rows-known rows (activated_origin config) o (activated-known config) h),
)

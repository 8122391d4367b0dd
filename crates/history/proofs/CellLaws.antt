-- No change makes a cell, and no opening has one behind the last column.
use Rattle.basics.specs.declared.profile.Profile.{Profile}
use Rattle.basics.specs.declared.profile.Profile.TheVariants.{Base, Field, Opal}
use Rattle.std.proofs.Common.{◌≡◌, ℕ, ◌+◌, ◌<◌, ◌==◌, Bool, true, false, ◌&&◌, List, [], ◌∷◌, Option, Some, None, refl, ◌∙◌, ap, cond, arith}
use Rattle.std.specs.Prelude.{nat_le, option_map, Result, Ok, Err}
use Rattle.std.specs.List.{list_all}
use Rattle.std.proofs.lemmas.List.Folds.{list_all-append}
use Rattle.std.proofs.lemmas.Bool.Decides.{nat_tests}
use Rattle.sp_cells.specs.declared.names.TheConstants.{RANGES}
use Rattle.sp_cells.specs.declared.names.Uid.{Uid}
use Rattle.sp_cells.specs.declared.names.Sp.{Sp}
use Rattle.sp_cells.specs.declared.names.Sp.TheVariants.{Admin, Locking}
use Rattle.sp_cells.specs.declared.names.Column.{Column}
use Rattle.sp_cells.specs.declared.cells.Cell.{Cell}
use Rattle.sp_cells.specs.declared.cells.Cell.TheVariants.{Number}
use Rattle.sp_cells.specs.declared.error.SetError.{SetError}
use Rattle.sp_cells.specs.Config.{Config, sizes_in}
use Rattle.sp_cells.specs.declared.byte_tables.TableSizes.{TableSizes}
use Rattle.sp_cells.specs.Names.{locking_sp, range_uid, admin_pin_uid, mbr_control}
use Rattle.sp_cells.specs.ColumnNames.{credential_column, lock_on_reset_column, mbr_done_column, mbr_done_on_reset_column}
use Rattle.sp_cells.specs.Flat.{PlacedCell, sp_eq, cell_at}
use Rattle.sp_tables.specs.Items.{Item, on, with_item, with_items}
use Rattle.sp_tables.specs.Factory.{admin_factory, locking_factory, admin_sps, admin_authorities, label_authorities, opal_authorities, opal_pins, opal_admin_aces, admin_constants, admin_pins, label_pins, admin_aces, label_aces, removal_aces, data_removals, locking_authorities, locking_pins, locking_ranges, locking_mbr_controls, authority_aces, pin_aces, range_get_aces, range_aces, mbr_aces, gen_key_aces, opal_locking_aces, locking_constants, range_keys, locking_infos, byte_tables, datastore_aces}
use Rattle.sp_tables.specs.AtReset.{has_kind}
use Rattle.sp_tables.specs.Contents.{new_admin, new_locking, Contents, factory_contents, cells_look_up, flat}
use Rattle.sp_tables.specs.Looks.{RowLook, put_in, puts_in}
use Rattle.sp_tables.specs.Tries.{is_tries}
use Rattle.locking.specs.declared.range.RangeRow.{RangeRow}
use Rattle.transactions.specs.Resets.{is_range, is_lock, locks_seen}
use Rattle.sessions.specs.Deeds.{cells_set, bytes_set, Change, Sets, Restores, Resets}
use Rattle.history.specs.Changes.{reset_rows, apply, apply_all, with_tries}
use Rattle.history.specs.Opening.{Origin, factory_origin, life_cycle, pin, activated_origin, changes_of, row_fault, with_range, unless, origin_after}
use Rattle.history.specs.Readers.{open_on, open_changes, changes, tries, factory_rows, rows_after, rows_within, is_of}
use Rattle.history.specs.Bounds.{CellLaw, HasNoColumn, last_column, ColumnLaw}

-- another value in a cell that is none
none-if : (b : Bool) (x y : Option Cell) → x ≡ None → y ≡ None → cond b x y ≡ None
none-if true x y h g = h
none-if false x y h g = g

mapped-none : (f : Cell → Cell) (x : Option Cell) → x ≡ None → option_map f x ≡ None
mapped-none f x h = ap (option_map f) h

put-none : (object : Uid) (column : Column) (v : Cell) (rows : RowLook) (o : Uid) (c : Column) → rows o c ≡ None → put_in object column v rows o c ≡ None
put-none object column v rows o c h = none-if ((object.0 == o.0) && (column.0 == c.0)) _ (rows o c) (mapped-none (λ _. v) (rows o c) h) h

pub puts-none : (object : Uid) (cells : List (Column × Cell)) (rows : RowLook) (o : Uid) (c : Column) → rows o c ≡ None → puts_in object cells rows o c ≡ None
puts-none object [] rows o c h = h
puts-none object (p ∷ ps) rows o c h = puts-none object ps (put_in object p.0 p.1 rows) o c (put-none object p.0 p.1 rows o c h)

reset-none : (kind : ℕ) (rows : RowLook) (o : Uid) (c : Column) → rows o c ≡ None → reset_rows kind rows o c ≡ None
reset-none kind rows o c h =
    let locked : locks_seen (RANGES + 1) kind rows o c ≡ None = none-if (is_range (RANGES + 1) o && is_lock c && has_kind kind (rows o lock_on_reset_column)) _ (rows o c) (mapped-none (λ _. Number 1) (rows o c) h) h in
    none-if (has_kind kind (locks_seen (RANGES + 1) kind rows mbr_control mbr_done_on_reset_column) && ((mbr_control.0 == o.0) && (mbr_done_column.0 == c.0))) _ (locks_seen (RANGES + 1) kind rows o c)
    (mapped-none (λ _. Number 0) (locks_seen (RANGES + 1) kind rows o c) locked) locked

change-none : (factory rows : RowLook) (change : Change) (o : Uid) (c : Column) → factory o c ≡ None → rows o c ≡ None → apply factory change rows o c ≡ None
change-none factory rows (Sets (cells_set object cells)) o c f h = puts-none object cells rows o c h
change-none factory rows (Sets (bytes_set place content)) o c f h = h
change-none factory rows Restores o c f h = f
change-none factory rows (Resets kind) o c f h = reset-none kind rows o c h

pub changes-none : (factory rows : RowLook) (cs : List Change) (o : Uid) (c : Column) → factory o c ≡ None → rows o c ≡ None → apply_all factory cs rows o c ≡ None
changes-none factory rows [] o c f h = h
changes-none factory rows (x ∷ xs) o c f h = change-none factory (apply_all factory xs rows) x o c f (changes-none factory rows xs o c f h)

tries-none : (count : Uid → ℕ) (rows : RowLook) (o : Uid) (c : Column) → rows o c ≡ None → with_tries count rows o c ≡ None
tries-none count rows o c h = none-if (is_tries o c) _ (rows o c) (mapped-none (λ _. Number (count o)) (rows o c) h) h

pub cell_law : CellLaw
cell_law o past sp object column h =
    let after : rows_after o past sp object column ≡ None = changes-none (factory_rows o sp) (cells_look_up o.tables sp) (changes past sp) object column h.factory h.opened in
    let within : rows_within o past sp object column ≡ None = changes-none (factory_rows o sp) (rows_after o past sp) (open_changes past sp) object column h.factory after in
    record {
      rows = tries-none (tries past sp) (rows_after o past sp) object column after;
      views = λ number. by_owner number within after (is_of number (open_on past sp));
    }
  where
    by_owner : (number : ℕ) → rows_within o past sp object column ≡ None → rows_after o past sp object column ≡ None → (b : Bool)
        → with_tries (tries past sp) (cond b (rows_within o past sp) (rows_after o past sp)) object column ≡ None
    by_owner number w a true = tries-none (tries past sp) (rows_within o past sp) object column w
    by_owner number w a false = tries-none (tries past sp) (rows_after o past sp) object column a

-- columns of what drives start from
abbrev are_few : ℕ → List Item → Bool
are_few most items = list_all (λ i. nat_le i.column.0 most) items

clash : true ≡ false → ⊥
clash h = cc

and-parts : (a b : Bool) → (a && b) ≡ true → (a ≡ true) × (b ≡ true)
and-parts true b h = (refl, h)
and-parts false b h = cc

above : (k most n : ℕ) → nat_le k most ≡ true → most < n → (k == n) ≡ false
above k most n h lt = grind (arith, nat_tests)

lacks : (most : ℕ) (es : List PlacedCell) (sp : Sp) (object : Uid) (column : Column) → most < column.0 → list_all (λ e. nat_le e.column.0 most) es ≡ true → cell_at es sp object column ≡ None
lacks most [] sp object column lt h = refl
lacks most (e ∷ es) sp object column lt h =
    let parts = and-parts (nat_le e.column.0 most) (list_all (λ e. nat_le e.column.0 most) es) h in
    by_place (sp_eq e.sp sp) (e.object.0 == object.0) (above e.column.0 most column.0 parts.0 lt) (lacks most es sp object column lt parts.1)
  where
    by_place : (a b : Bool) → (e.column.0 == column.0) ≡ false → cell_at es sp object column ≡ None → cond (a && b && (e.column.0 == column.0)) (Some e.value) (cell_at es sp object column) ≡ None
    by_place true true is rest = ap (λ t. cond t (Some e.value) (cell_at es sp object column)) is ∙ rest
    by_place true false is rest = rest
    by_place false b is rest = rest

on-few : (most : ℕ) (sp : Sp) (items : List Item) → are_few most items ≡ true → list_all (λ e. nat_le e.column.0 most) (on sp items) ≡ true
on-few most sp [] h = refl
on-few most sp (i ∷ is) h =
    let parts = and-parts (nat_le i.column.0 most) (are_few most is) h in
    ap (λ b. b && list_all (λ e. nat_le e.column.0 most) (on sp is)) parts.0 ∙ on-few most sp is parts.1

record AreFew (most : ℕ) (t : Contents) : Type 0 where
  admin : are_few most t.admin ≡ true
  locking : are_few most t.locking ≡ true

tables-lack : (most : ℕ) (t : Contents) → AreFew most t → (sp : Sp) (object : Uid) (column : Column) → most < column.0 → cells_look_up t sp object column ≡ None
tables-lack most t h sp object column lt =
    lacks most (flat t) sp object column lt
    (list_all-append (λ e. nat_le e.column.0 most) (on Admin t.admin) (on Locking t.locking)
    ∙ ap (λ b. b && list_all (λ e. nat_le e.column.0 most) (on Locking t.locking)) (on-few most Admin t.admin h.admin)
    ∙ on-few most Locking t.locking h.locking)

item-few : (most : ℕ) (items : List Item) (object : Uid) (column : Column) (v : Cell) → are_few most items ≡ true → are_few most (with_item items object column v) ≡ true
item-few most [] object column v h = refl
item-few most (i ∷ is) object column v h =
    let parts = and-parts (nat_le i.column.0 most) (are_few most is) h in
    by_place ((i.object.0 == object.0) && (i.column.0 == column.0)) parts.0 parts.1 (item-few most is object column v parts.1)
  where
    by_place : (b : Bool) → nat_le i.column.0 most ≡ true → are_few most is ≡ true → are_few most (with_item is object column v) ≡ true → are_few most (cond b (record i { value = v } ∷ is) (i ∷ with_item is object column v)) ≡ true
    by_place true here rest new = ap (λ t. t && are_few most is) here ∙ rest
    by_place false here rest new = ap (λ t. t && are_few most (with_item is object column v)) here ∙ new

items-few : (most : ℕ) (items : List Item) (object : Uid) (changes : List (Column × Cell)) → are_few most items ≡ true → are_few most (with_items items object changes) ≡ true
items-few most items object [] h = h
items-few most items object (p ∷ ps) h = items-few most (with_item items object p.0 p.1) object ps (item-few most items object p.0 p.1 h)

admin-few : (p : Profile) (msid psid : List ℕ) → are_few (last_column p).0 (admin_factory p msid psid) ≡ true
unfolding admin_sps admin_authorities label_authorities opal_authorities opal_pins opal_admin_aces admin_constants admin_pins label_pins admin_aces label_aces removal_aces data_removals
admin-few Base msid psid = refl
admin-few Field msid psid = refl
admin-few Opal msid psid = refl

locking-few : (p : Profile) (sizes : TableSizes) → are_few (last_column p).0 (locking_factory p sizes) ≡ true
unfolding locking_authorities locking_pins locking_ranges locking_mbr_controls authority_aces pin_aces range_get_aces range_aces mbr_aces gen_key_aces opal_locking_aces locking_constants range_keys locking_infos byte_tables datastore_aces
locking-few Base sizes = refl
locking-few Field sizes = refl
locking-few Opal sizes = refl

factory-few : (config : Config) → AreFew (last_column config.profile).0 (factory_origin config).tables
factory-few config = record { admin = admin-few config.profile config.msid config.psid; locking = locking-few config.profile (sizes_in config) }

activated-few : (config : Config) → AreFew (last_column config.profile).0 (activated_origin config).tables
activated-few config = record {
  admin = items-few (last_column config.profile).0 (new_admin config) locking_sp life_cycle (admin-few config.profile config.msid config.psid);
  locking = items-few (last_column config.profile).0 (new_locking config) (admin_pin_uid 1) (pin config.msid) (locking-few config.profile (sizes_in config));
}

range-few : (most : ℕ) (row : RangeRow) (o : Origin) → AreFew most o.tables → AreFew most (with_range row o).tables
range-few most row o h = record { admin = h.admin; locking = items-few most o.tables.locking (range_uid row.range) (changes_of row) h.locking }

abbrev opens : Origin → Result Origin SetError
opens o = Ok o

ok-same : {x y : Origin} → opens x ≡ opens y → x ≡ y
ok-same h = cc

rows-few : (most : ℕ) (rows : List RangeRow) (o made : Origin) → AreFew most o.tables → origin_after rows o ≡ Ok made → AreFew most made.tables
rows-few most [] o made few h = let same : o ≡ made = ok-same h in rw (← same) few
rows-few most (row ∷ rows) o made few h = by_fault (row_fault o row) h (rows-few most rows (with_range row o) made (range-few most row o few))
  where
    by_fault : (x : Option SetError) → unless x (origin_after rows (with_range row o)) ≡ Ok made → (origin_after rows (with_range row o) ≡ Ok made → AreFew most made.tables) → AreFew most made.tables
    by_fault None g rest = rest g
    by_fault (Some fault) g rest = absurd (refused g)
      where
        refused : {e : SetError} {x : Origin} → Err e ≡ Ok x → ⊥
        refused k = cc

-- the tables that a Revert brings back are the same after ranges are set
abbrev pub IsOfFactory : Origin → Type 0
IsOfFactory o = o.factory ≡ factory_contents o.tables.config

pub rows-new : (rows : List RangeRow) (o made : Origin) → IsOfFactory o → origin_after rows o ≡ Ok made → IsOfFactory made
rows-new [] o made new h = let same : o ≡ made = ok-same h in rw (← same) new
rows-new (row ∷ rows) o made new h = by_fault (row_fault o row) h (rows-new rows (with_range row o) made new)
  where
    by_fault : (x : Option SetError) → unless x (origin_after rows (with_range row o)) ≡ Ok made → (origin_after rows (with_range row o) ≡ Ok made → IsOfFactory made) → IsOfFactory made
    by_fault None g rest = rest g
    by_fault (Some fault) g rest = absurd (refused g)
      where
        refused : {e : SetError} {x : Origin} → Err e ≡ Ok x → ⊥
        refused k = cc

-- nor does their configuration change
rows-config : (rows : List RangeRow) (o made : Origin) (config : Config) → o.tables.config ≡ config → origin_after rows o ≡ Ok made → made.tables.config ≡ config
rows-config [] o made config new h = let same : o ≡ made = ok-same h in rw (← same) new
rows-config (row ∷ rows) o made config new h = by_fault (row_fault o row) h (rows-config rows (with_range row o) made config new)
  where
    by_fault : (x : Option SetError) → unless x (origin_after rows (with_range row o)) ≡ Ok made → (origin_after rows (with_range row o) ≡ Ok made → made.tables.config ≡ config) → made.tables.config ≡ config
    by_fault None g rest = rest g
    by_fault (Some fault) g rest = absurd (refused g)
      where
        refused : {e : SetError} {x : Origin} → Err e ≡ Ok x → ⊥
        refused k = cc

nowhere : (config : Config) (o : Origin) → o.tables.config ≡ config → IsOfFactory o → AreFew (last_column config.profile).0 o.tables → (column : Column) → (last_column config.profile).0 < column.0 → HasNoColumn o column
nowhere config o same new h column lt sp object = record {
  opened = tables-lack (last_column config.profile).0 o.tables h sp object column lt;
  factory = ap (λ (t : Contents). cells_look_up t sp object column) (new ∙ ap factory_contents same) ∙ tables-lack (last_column config.profile).0 (factory_contents config) (factory-few config) sp object column lt;
}

pub column_law : ColumnLaw
column_law config column lt = (
  nowhere config (factory_origin config) refl refl (factory-few config) column lt,
  λ rows o h. nowhere config o (rows-config rows (activated_origin config) o config refl h) (rows-new rows (activated_origin config) o refl h) (rows-few (last_column config.profile).0 rows (activated_origin config) o (activated-few config) h) column lt,
)

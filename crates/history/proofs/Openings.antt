-- A drive that has done no act agrees with none.
use Rattle.basics.specs.declared.profile.Profile.{Profile}
use Rattle.basics.specs.declared.profile.Profile.TheVariants.{Base, Field, Opal}
use Rattle.std.proofs.Common.{◌≡◌, ℕ, ◌==◌, ◌+◌, ◌/◌, suc, zero, Bool, true, false, ◌&&◌, ◌||◌, not, List, [], ◌∷◌, Option, Some, None, refl, ◌∙◌, ap, cond, eqb-true, arith}
use Rattle.std.specs.Prelude.{option_map, Result, Ok, Err}
use Rattle.std.specs.List.{list_all}
use Rattle.std.proofs.lemmas.List.Folds.{list_all-append}
use Rattle.std.proofs.lemmas.Bool.Decides.{nat_tests}
use Rattle.sp_cells.specs.declared.names.Uid.{Uid}
use Rattle.sp_cells.specs.declared.names.Sp.{Sp}
use Rattle.sp_cells.specs.declared.names.Sp.TheVariants.{Admin, Locking}
use Rattle.sp_cells.specs.declared.names.Column.{Column}
use Rattle.sp_cells.specs.declared.cells.Cell.{Cell}
use Rattle.sp_cells.specs.declared.cells.Cell.TheVariants.{Number, Bytes, Uid as Object, Numbers, Expr, Columns, OneName}
use Rattle.sp_cells.specs.declared.error.SetError.{SetError}
use Rattle.sp_cells.specs.Config.{Config, sizes_in}
use Rattle.sp_cells.specs.declared.byte_tables.TableSizes.{TableSizes}
use Rattle.sp_cells.specs.Flat.{PlacedCell, sp_eq, cell_at}
use Rattle.sp_cells.specs.Names.{c_pin_table, range_base, locking_sp, range_uid, admin_pin_uid}
use Rattle.sp_tables.specs.Items.{Item, on, with_item, with_items}
use Rattle.sp_tables.specs.Factory.{admin_factory, locking_factory, admin_sps, admin_authorities, label_authorities, opal_authorities, opal_pins, opal_admin_aces, admin_constants, admin_pins, label_pins, admin_aces, label_aces, removal_aces, data_removals, locking_authorities, locking_pins, locking_ranges, locking_mbr_controls, authority_aces, pin_aces, range_get_aces, range_aces, mbr_aces, gen_key_aces, opal_locking_aces, locking_constants, range_keys, locking_infos, byte_tables, datastore_aces}
use Rattle.sp_tables.specs.Contents.{new_admin, new_locking, Contents, cells_look_up, flat}
use Rattle.sp_tables.specs.Tries.{is_pin_row, is_tries, names_tries}
use Rattle.locking.specs.declared.range.RangeRow.{RangeRow}
use Rattle.history.specs.Opening.{Origin, factory_origin, life_cycle, pin, activated_origin, changes_of, row_fault, with_range, unless, origin_after}
use Rattle.history.specs.Changes.{with_tries}
use Rattle.history.specs.Agreement.{HasNoTries, FreshLaw, FactoryLaw, OpeningLaw}

true-false : true ≡ false → ⊥
true-false h = cc

-- a cell that counts attempts has none
abbrev is_zero : Cell → Bool
is_zero (Number n) = n == 0
is_zero _ = false

abbrev is_clean : Uid → Column → Cell → Bool
is_clean object column value = not (is_tries object column) || is_zero value

abbrev are_clean : List Item → Bool
are_clean items = list_all (λ i. is_clean i.object i.column i.value) items

zero-is : (value : Cell) → is_zero value ≡ true → value ≡ Number 0
zero-is (Number n) h = ap (λ m. Number m) (eqb-true n 0 h)
zero-is (Bytes b) h = cc
zero-is (Object u) h = cc
zero-is (Numbers r) h = cc
zero-is (Expr es) h = cc
zero-is (Columns cs) h = cc
zero-is (OneName b) h = cc

clean-value : (b : Bool) (value : Cell) → b ≡ true → (not b || is_zero value) ≡ true → value ≡ Number 0
clean-value true value h g = zero-is value g
clean-value false value h g = cc

and-parts : (a b : Bool) → (a && b) ≡ true → (a ≡ true) × (b ≡ true)
and-parts true b h = (refl, h)
and-parts false b h = cc

same-tries : (e : PlacedCell) (object : Uid) (column : Column) → (e.object.0 == object.0) ≡ true → (e.column.0 == column.0) ≡ true → is_tries object column ≡ true → is_tries e.object e.column ≡ true
same-tries e object column o c h =
    ap (λ (n : ℕ). is_tries (record { 0 = n }) e.column) (eqb-true e.object.0 object.0 o) ∙ ap (λ (n : ℕ). is_tries object (record { 0 = n })) (eqb-true e.column.0 column.0 c) ∙ h

-- what is found in clean cells
found-step : (es : List PlacedCell) (e : PlacedCell) (sp : Sp) (object : Uid) (column : Column) → is_tries object column ≡ true → is_clean e.object e.column e.value ≡ true
    → cell_at es sp object column ≡ option_map (λ _. Number 0) (cell_at es sp object column)
    → (a b c : Bool) → (e.object.0 == object.0) ≡ b → (e.column.0 == column.0) ≡ c
    → cond (a && b && c) (Some e.value) (cell_at es sp object column) ≡ option_map (λ _. Number 0) (cond (a && b && c) (Some e.value) (cell_at es sp object column))
found-step es e sp object column h clean rest true true true o c = ap (λ v. Some v) (clean-value (is_tries e.object e.column) e.value (same-tries e object column o c h) clean)
found-step es e sp object column h clean rest true true false o c = rest
found-step es e sp object column h clean rest true false c' o c = rest
found-step es e sp object column h clean rest false b c' o c = rest

found-clean : (es : List PlacedCell) (sp : Sp) (object : Uid) (column : Column) → is_tries object column ≡ true → list_all (λ e. is_clean e.object e.column e.value) es ≡ true → cell_at es sp object column ≡ option_map (λ _. Number 0) (cell_at es sp object column)
found-clean [] sp object column h clean = refl
found-clean (e ∷ es) sp object column h clean =
    let parts = and-parts (is_clean e.object e.column e.value) (list_all (λ e. is_clean e.object e.column e.value) es) clean in
    found-step es e sp object column h parts.0 (found-clean es sp object column h parts.1) (sp_eq e.sp sp) (e.object.0 == object.0) (e.column.0 == column.0) refl refl

on-clean : (sp : Sp) (items : List Item) → are_clean items ≡ true → list_all (λ e. is_clean e.object e.column e.value) (on sp items) ≡ true
on-clean sp [] h = refl
on-clean sp (i ∷ is) h =
    let parts = and-parts (is_clean i.object i.column i.value) (are_clean is) h in
    ap (λ b. b && list_all (λ e. is_clean e.object e.column e.value) (on sp is)) parts.0 ∙ on-clean sp is parts.1

record AreClean (t : Contents) : Type 0 where
  admin : are_clean t.admin ≡ true
  locking : are_clean t.locking ≡ true

clean-tables : (o : Origin) → AreClean o.tables → HasNoTries o
clean-tables o h sp object column is =
    found-clean (flat o.tables) sp object column is
    (list_all-append (λ e. is_clean e.object e.column e.value) (on Admin o.tables.admin) (on Locking o.tables.locking)
    ∙ ap (λ b. b && list_all (λ e. is_clean e.object e.column e.value) (on Locking o.tables.locking)) (on-clean Admin o.tables.admin h.admin)
    ∙ on-clean Locking o.tables.locking h.locking)

-- cells that are no Tries leave clean ones so
set-step : (i : Item) (object : Uid) (column : Column) (v : Cell) (a b : Bool) → (i.object.0 == object.0) ≡ a → (i.column.0 == column.0) ≡ b → is_tries object column ≡ false → is_clean i.object i.column i.value ≡ true → (rest new : List Item)
    → are_clean rest ≡ true → are_clean new ≡ true → are_clean (cond (a && b) (record i { value = v } ∷ rest) (i ∷ new)) ≡ true
set-step i object column v true true o c h clean rest new hr hn =
    let none : is_tries i.object i.column ≡ false =
    ap (λ (n : ℕ). is_tries (record { 0 = n }) i.column) (eqb-true i.object.0 object.0 o) ∙ ap (λ (n : ℕ). is_tries object (record { 0 = n })) (eqb-true i.column.0 column.0 c) ∙ h in
    ap (λ t. (not t || is_zero v) && are_clean rest) none ∙ hr
set-step i object column v true false o c h clean rest new hr hn = ap (λ b. b && are_clean new) clean ∙ hn
set-step i object column v false b o c h clean rest new hr hn = ap (λ b. b && are_clean new) clean ∙ hn

item-clean : (items : List Item) (object : Uid) (column : Column) (v : Cell) → is_tries object column ≡ false → are_clean items ≡ true → are_clean (with_item items object column v) ≡ true
item-clean [] object column v h clean = refl
item-clean (i ∷ is) object column v h clean =
    let parts = and-parts (is_clean i.object i.column i.value) (are_clean is) clean in
    set-step i object column v (i.object.0 == object.0) (i.column.0 == column.0) refl refl h parts.0 is (with_item is object column v) parts.1 (item-clean is object column v h parts.1)

or-parts : (a b : Bool) → (a || b) ≡ false → (a ≡ false) × (b ≡ false)
or-parts true b h = cc
or-parts false b h = (refl, h)

items-clean : (items : List Item) (object : Uid) (changes : List (Column × Cell)) → names_tries object changes ≡ false → are_clean items ≡ true → are_clean (with_items items object changes) ≡ true
items-clean items object [] h clean = clean
items-clean items object (p ∷ ps) h clean =
    let parts = or-parts (is_tries object p.0) (names_tries object ps) h in
    items-clean (with_item items object p.0 p.1) object ps parts.1 (item-clean items object p.0 p.1 parts.0 clean)

-- a range is no C_PIN row
no-pin-above : (n : ℕ) → ((range_base + n) / 0x100000000 == c_pin_table) ≡ false
no-pin-above n = grind (arith, nat_tests)

range-no-pin : (n : ℕ) → is_pin_row (range_uid n) ≡ false
range-no-pin zero = refl
range-no-pin (suc n) = no-pin-above (suc n)

no-tries : (object : Uid) (changes : List (Column × Cell)) → is_pin_row object ≡ false → names_tries object changes ≡ false
no-tries object [] h = refl
no-tries object (p ∷ ps) h = ap (λ b. (b && (p.0.0 == 6)) || names_tries object ps) h ∙ no-tries object ps h

-- the factory's rows, and those of openings
admin-clean : (p : Profile) (msid psid : List ℕ) → are_clean (admin_factory p msid psid) ≡ true
unfolding admin_sps admin_authorities label_authorities opal_authorities opal_pins opal_admin_aces admin_constants admin_pins label_pins admin_aces label_aces removal_aces data_removals
admin-clean Base msid psid = refl
admin-clean Field msid psid = refl
admin-clean Opal msid psid = refl

locking-clean : (p : Profile) (sizes : TableSizes) → are_clean (locking_factory p sizes) ≡ true
unfolding locking_authorities locking_pins locking_ranges locking_mbr_controls authority_aces pin_aces range_get_aces range_aces mbr_aces gen_key_aces opal_locking_aces locking_constants range_keys locking_infos byte_tables datastore_aces
locking-clean Base sizes = refl
locking-clean Field sizes = refl
locking-clean Opal sizes = refl

factory-clean : (config : Config) → AreClean (factory_origin config).tables
factory-clean config = record { admin = admin-clean config.profile config.msid config.psid; locking = locking-clean config.profile (sizes_in config) }

activated-clean : (config : Config) → AreClean (activated_origin config).tables
activated-clean config = record {
  admin = items-clean (new_admin config) locking_sp life_cycle refl (admin-clean config.profile config.msid config.psid);
  locking = items-clean (new_locking config) (admin_pin_uid 1) (pin config.msid) refl (locking-clean config.profile (sizes_in config));
}

range-clean : (row : RangeRow) (o : Origin) → AreClean o.tables → AreClean (with_range row o).tables
range-clean row o h = record {
  admin = h.admin;
  locking = items-clean o.tables.locking (range_uid row.range) (changes_of row) (no-tries (range_uid row.range) (changes_of row) (range-no-pin row.range)) h.locking;
}

abbrev opens : Origin → Result Origin SetError
opens o = Ok o

ok-same : {x y : Origin} → opens x ≡ opens y → x ≡ y
ok-same h = cc

rows-clean : (rows : List RangeRow) (o made : Origin) → AreClean o.tables → origin_after rows o ≡ Ok made → AreClean made.tables
rows-clean [] o made clean h = let same : o ≡ made = ok-same h in rw (← same) clean
rows-clean (row ∷ rows) o made clean h = by_fault (row_fault o row) h (rows-clean rows (with_range row o) made (range-clean row o clean))
  where
    by_fault : (x : Option SetError) → unless x (origin_after rows (with_range row o)) ≡ Ok made → (origin_after rows (with_range row o) ≡ Ok made → AreClean made.tables) → AreClean made.tables
    by_fault None g rest = rest g
    by_fault (Some fault) g rest = absurd (refused g)
      where
        refused : {e : SetError} {x : Origin} → Err e ≡ Ok x → ⊥
        refused k = cc

pub factory_law : FactoryLaw
factory_law config = clean-tables (factory_origin config) (factory-clean config)

pub opening_law : OpeningLaw
opening_law config rows o h = clean-tables o (rows-clean rows (activated_origin config) o (activated-clean config) h)

-- without acts, what is in force is what it started from
rows-same : (o : Origin) → HasNoTries o → (sp : Sp) (object : Uid) (column : Column) → cells_look_up o.tables sp object column ≡ with_tries (λ row. 0) (cells_look_up o.tables sp) object column
rows-same o h sp object column = by_tries (is_tries object column) refl
  where
    by_tries : (b : Bool) → is_tries object column ≡ b → cells_look_up o.tables sp object column ≡ cond b (option_map (λ _. Number 0) (cells_look_up o.tables sp object column)) (cells_look_up o.tables sp object column)
    by_tries true is = h sp object column is
    by_tries false is = refl

pub fresh_law : FreshLaw
fresh_law o h = record {
  store = record {
    config = refl;
    rows = rows-same o h;
    bytes = λ place. refl;
    views = λ number sp object column. rows-same o h sp object column;
    view_bytes = λ number place. refl;
    transactions = λ sp. refl;
  };
  sessions = record { sessions = λ sp. refl; authorities = λ sp session is a. absurd (nobody is); next = refl; beside = refl };
  queue = record { held = λ tag. refl; failure = refl; waiting = λ com_id. refl; sectors = λ place. refl; settings = refl };
}
  where
    nobody : {A : Type 0} {x : A} → None ≡ Some x → ⊥
    nobody g = cc

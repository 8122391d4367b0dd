-- The Tries that are kept, after an attempt and after a reset.
use Rattle.std.proofs.Common.{◌≡◌, ◌≤◌, ℕ, zero, suc, ◌==◌, ◌+◌, Bool, true, false, ◌&&◌, ◌||◌, List, Option, Some, None, refl, sym, ◌∙◌, ap, cond, eqb-true, arith}
use Rattle.std.specs.Prelude.{is_some, option_map}
use Rattle.std.proofs.Math.Path.{fun_ext}
use Rattle.std.proofs.lemmas.Bool.Decides.{nat_tests}
use Rattle.sp_cells.specs.declared.names.TheConstants.{USERS, ADMINS, RANGES}
use Rattle.sp_cells.specs.declared.names.Uid.{Uid}
use Rattle.sp_cells.specs.declared.names.Sp.{Sp}
use Rattle.sp_cells.specs.declared.names.Sp.TheVariants.{Admin, Locking}
use Rattle.sp_cells.specs.declared.names.Column.{Column}
use Rattle.sp_cells.specs.declared.cells.Cell.{Cell}
use Rattle.sp_cells.specs.declared.cells.Cell.TheVariants.{Number}
use Rattle.sp_cells.specs.Flat.{LookUp}
use Rattle.sp_cells.specs.Names.{uid, c_pin_sid, c_pin_msid, c_pin_psid, c_pin_admin_sp_admin, admin_pin_uid, user_pin_uid, mbr_control}
use Rattle.sp_cells.specs.ColumnNames.{tries_column, lock_on_reset_column, mbr_done_column, mbr_done_on_reset_column}
use Rattle.sp_cells.specs.Ranges.{number, cell_number}
use Rattle.sp_tables.specs.Items.{Item, item_at, with_item}
use Rattle.sp_tables.specs.Contents.{Contents, factory_contents, cells_look_up}
use Rattle.sp_tables.specs.AtReset.{has_kind, admin_tries_after, locking_tries_after}
use Rattle.sp_tables.specs.Looks.{RowLook}
use Rattle.sp_tables.specs.Tries.{is_tries, family_cleared, admin_cleared, locking_cleared}
use Rattle.sp_tables.proofs.ChangeLemmas.{item_at-with_item}
use Rattle.transactions.specs.Resets.{is_range, is_lock, locks_seen, done_seen}
use Rattle.transactions.specs.Stored.{Stored}
use Rattle.sessions.specs.Answers.{up, rows_in_force}
use Rattle.history.specs.Opening.{Origin}
use Rattle.history.specs.Changes.{reset_rows}
use Rattle.history.specs.Events.{Event, since, count}
use Rattle.history.specs.Readers.{changes, factory_rows, rows_after, tries, most_tries, one_more, in_force}
use Rattle.history.specs.TriesLaw.{fails_pin, clears_tries, capped}
use Rattle.history.specs.KeptStore.{tries_alone, in_family, is_cleared, has_locks, HasKnownRows, KeepsStore}
use Rattle.history.proofs.CellLaws.{changes-none}
use Rattle.history.proofs.TriesLaws.{tries_law}
use Rattle.history.proofs.KeptStoreRows.{ShowTries, column-is, twice, counts-same}
use Rattle.history.proofs.KeptStoreReads.{in_force-read}
use Rattle.history.proofs.KeptStoreOpenings.{factory-has-known}

-- the rows that a Revert brings back
new-rows : (o : Origin) → HasKnownRows o → (sp : Sp) (object : Uid) (column : Column) → factory_rows o sp object column ≡ cells_look_up (factory_contents o.tables.config) sp object column
new-rows o known sp object column = ap (λ (t : Contents). cells_look_up t sp object column) known.factory

-- no row but those that a power cycle clears counts, after any acts
pub unknown-none : (o : Origin) (past : List Event) (sp : Sp) (object : Uid) (column : Column) → HasKnownRows o → is_tries object column ≡ true → is_cleared sp object ≡ false → rows_after o past sp object column ≡ None
unknown-none o past sp object column known is apart =
    changes-none (factory_rows o sp) _ (changes past sp) object column (new-rows o known sp object column ∙ (factory-has-known o.tables.config).tries sp object column is apart)
    (known.tries sp object column is apart)

-- one more as a store counts it
up-same : (n : ℕ) (b : Bool) → n ≤ most_tries → (n == most_tries) ≡ b → cond b n (n + 1) ≡ up n
up-same n true few is = omega (arith, eqb-true n most_tries is)
up-same n false few is = grind (arith, nat_tests)

few-capped : (n : ℕ) → capped n ≤ most_tries
few-capped n = omega arith

few-tries : (past : List Event) (sp : Sp) (row : Uid) → tries past sp row ≤ most_tries
few-tries past sp row = rw (tries_law past sp row) (few-capped (count (fails_pin sp row) (since (clears_tries sp row) past)))

pub one_more-up : (past : List Event) (sp : Sp) (row : Uid) → one_more (tries past sp row) ≡ up (tries past sp row)
one_more-up past sp row = up-same (tries past sp row) (tries past sp row == most_tries) (few-tries past sp row) refl

-- what a store reads of a row that counts
number-by : (b : Bool) (n : ℕ) (x : Option Cell) → b ≡ true → is_some x ≡ true → cell_number (cond b (option_map (λ _. Number n) x) x) ≡ n
number-by true n (Some v) is some = refl
number-by true n None is some = cc
number-by false n x is some = cc

column-same : (u : Uid) (k : Column) → is_tries u k ≡ true → k ≡ tries_column
column-same u k is = let e : (tries_column.0 == k.0) ≡ true = column-is u k (tries_column.0 == k.0) refl is in ap (λ (n : ℕ). column n) (sym (eqb-true tries_column.0 k.0 e))
  where
    column : ℕ → Column
    column n = record { 0 = n }

pub counted-number : (s : Stored) (o : Origin) (past : List Event) (sp : Sp) (row u : Uid) (k : Column) → KeepsStore s o past → (row.0 == u.0) ≡ true → is_tries u k ≡ true → is_some (rows_after o past sp u k) ≡ true → number (rows_in_force s) sp row tries_column ≡ tries past sp u
counted-number s o past sp row u k h same is some =
    ap (λ (look : LookUp). cell_number (look sp row tries_column)) (in_force-read s o past h)
    ∙ ap (λ (r : Uid). cell_number (in_force o past sp r tries_column)) (ap uid (eqb-true row.0 u.0 same))
    ∙ ap (λ c. cell_number (in_force o past sp u c)) (sym (column-same u k is))
    ∙ number-by (is_tries u k) (tries past sp u) (rows_after o past sp u k) is some

-- rows that are cleared one after another
cleared-more : (b a : Bool) (x : Option Cell) → cond a (option_map (λ _. Number 0) (cond b (option_map (λ _. Number 0) x) x)) (cond b (option_map (λ _. Number 0) x) x) ≡ cond (b || a) (option_map (λ _. Number 0) x) x
cleared-more true true x = twice 0 0 x
cleared-more true false x = refl
cleared-more false true x = refl
cleared-more false false x = refl

cleared-row : (is : List Item) (row o : Uid) (c : Column) → (tries_column.0 == c.0) ≡ true → item_at (with_item is row tries_column (Number 0)) o c ≡ cond (row.0 == o.0) (option_map (λ _. Number 0) (item_at is o c)) (item_at is o c)
cleared-row is row o c here = item_at-with_item is row o tries_column c (Number 0) ∙ by_row (row.0 == o.0) (tries_column.0 == c.0) here
  where
    by_row : (a b : Bool) → b ≡ true → cond (a && b) (option_map (λ _. Number 0) (item_at is o c)) (item_at is o c) ≡ cond a (option_map (λ _. Number 0) (item_at is o c)) (item_at is o c)
    by_row true true h = refl
    by_row true false h = cc
    by_row false b h = refl

cleared-next : (is rows : List Item) (row o : Uid) (c : Column) (b : Bool) → (tries_column.0 == c.0) ≡ true → item_at rows o c ≡ cond b (option_map (λ _. Number 0) (item_at is o c)) (item_at is o c)
    → item_at (with_item rows row tries_column (Number 0)) o c ≡ cond (b || (row.0 == o.0)) (option_map (λ _. Number 0) (item_at is o c)) (item_at is o c)
cleared-next is rows row o c b here h =
    cleared-row rows row o c here ∙ ap (λ x. cond (row.0 == o.0) (option_map (λ _. Number 0) x) x) h ∙ cleared-more b (row.0 == o.0) (item_at is o c)

cleared-family : (name : ℕ → Uid) (n : ℕ) (is : List Item) (o : Uid) (c : Column) → (tries_column.0 == c.0) ≡ true → item_at (family_cleared name n is) o c ≡ cond (in_family name n o) (option_map (λ _. Number 0) (item_at is o c)) (item_at is o c)
unfolding family_cleared in_family
cleared-family name zero is o c here = refl
cleared-family name (suc n) is o c here = cleared-next is (family_cleared name n is) (name (suc n)) o c (in_family name n o) here (cleared-family name n is o c here)

abbrev cleared-on : Sp → List Item → List Item
cleared-on Admin is = admin_cleared is
cleared-on Locking is = locking_cleared is

or-apart : (a b c d : Bool) → (((a || b) || c) || d) ≡ (a || b || c || d)
or-apart true b c d = refl
or-apart false true c d = refl
or-apart false false c d = refl

abbrev sid_cleared : List Item → List Item
sid_cleared is = with_item is c_pin_sid tries_column (Number 0)

abbrev msid_cleared : List Item → List Item
msid_cleared is = with_item (sid_cleared is) c_pin_msid tries_column (Number 0)

abbrev psid_cleared : List Item → List Item
psid_cleared is = with_item (msid_cleared is) c_pin_psid tries_column (Number 0)

cleared-at : (sp : Sp) (is : List Item) (o : Uid) (c : Column) → (tries_column.0 == c.0) ≡ true → item_at (cleared-on sp is) o c ≡ cond (is_cleared sp o) (option_map (λ _. Number 0) (item_at is o c)) (item_at is o c)
cleared-at Admin is o c here =
    let first = cleared-row is c_pin_sid o c here in
    let second = cleared-next is (sid_cleared is) c_pin_msid o c (c_pin_sid.0 == o.0) here first in
    let third = cleared-next is (msid_cleared is) c_pin_psid o c ((c_pin_sid.0 == o.0) || (c_pin_msid.0 == o.0)) here second in
    cleared-next is (psid_cleared is) c_pin_admin_sp_admin o c (((c_pin_sid.0 == o.0) || (c_pin_msid.0 == o.0)) || (c_pin_psid.0 == o.0)) here third
    ∙ ap (λ b. cond b (option_map (λ _. Number 0) (item_at is o c)) (item_at is o c)) (or-apart (c_pin_sid.0 == o.0) (c_pin_msid.0 == o.0) (c_pin_psid.0 == o.0) (c_pin_admin_sp_admin.0 == o.0))
cleared-at Locking is o c here =
    cleared-family user_pin_uid USERS (family_cleared admin_pin_uid ADMINS is) o c here
    ∙ ap (λ x. cond (in_family user_pin_uid USERS o) (option_map (λ _. Number 0) x) x) (cleared-family admin_pin_uid ADMINS is o c here)
    ∙ cleared-more (in_family admin_pin_uid ADMINS o) (in_family user_pin_uid USERS o) (item_at is o c)

-- elsewhere nothing is cleared
row-none : (is : List Item) (row o : Uid) (c : Column) → item_at is o c ≡ None → item_at (with_item is row tries_column (Number 0)) o c ≡ None
row-none is row o c h = item_at-with_item is row o tries_column c (Number 0) ∙ ap (λ x. cond ((row.0 == o.0) && (tries_column.0 == c.0)) (option_map (λ _. Number 0) x) x) h ∙ by_place ((row.0 == o.0) && (tries_column.0 == c.0))
  where
    nowhere : Option Cell
    nowhere = None

    by_place : (b : Bool) → cond b (option_map (λ _. Number 0) nowhere) nowhere ≡ None
    by_place true = refl
    by_place false = refl

family-none : (name : ℕ → Uid) (n : ℕ) (is : List Item) (o : Uid) (c : Column) → item_at is o c ≡ None → item_at (family_cleared name n is) o c ≡ None
unfolding family_cleared
family-none name zero is o c h = h
family-none name (suc n) is o c h = row-none (family_cleared name n is) (name (suc n)) o c (family-none name n is o c h)

cleared-none : (sp : Sp) (is : List Item) (o : Uid) (c : Column) → item_at is o c ≡ None → item_at (cleared-on sp is) o c ≡ None
cleared-none Admin is o c h =
    row-none (psid_cleared is) c_pin_admin_sp_admin o c (row-none (msid_cleared is) c_pin_psid o c (row-none (sid_cleared is) c_pin_msid o c (row-none is c_pin_sid o c h)))
cleared-none Locking is o c h = family-none user_pin_uid USERS (family_cleared admin_pin_uid ADMINS is) o c (family-none admin_pin_uid ADMINS is o c h)

pub clear-shows : (sp : Sp) (is : List Item) (counted new : Uid → ℕ) (rows : RowLook) → ShowTries is counted rows
    → ((o : Uid) (c : Column) → is_tries o c ≡ true → is_cleared sp o ≡ false → rows o c ≡ None) → ((u : Uid) → new u ≡ 0) → ShowTries (cleared-on sp is) new rows
clear-shows sp is counted new rows h unknown zeros o c = by_tries (is_tries o c) refl (h o c)
  where
    by_row : (b : Bool) → is_tries o c ≡ true → is_cleared sp o ≡ b → cond b (option_map (λ _. Number 0) (option_map (λ _. Number (counted o)) (rows o c))) (option_map (λ _. Number (counted o)) (rows o c)) ≡ option_map (λ _. Number (new o)) (rows o c)
    by_row true here is_b = twice 0 (counted o) (rows o c) ∙ ap (λ n. option_map (λ _. Number n) (rows o c)) (sym (zeros o))
    by_row false here is_b =
        let none : rows o c ≡ None = unknown o c here is_b in
        ap (option_map (λ _. Number (counted o))) none ∙ ap (option_map (λ _. Number (new o))) (sym none)

    by_tries : (b : Bool) → is_tries o c ≡ b → item_at is o c ≡ cond b (option_map (λ _. Number (counted o)) (rows o c)) None → item_at (cleared-on sp is) o c ≡ cond b (option_map (λ _. Number (new o)) (rows o c)) None
    by_tries true here g =
        cleared-at sp is o c (column-is o c (tries_column.0 == c.0) refl here)
        ∙ ap (λ x. cond (is_cleared sp o) (option_map (λ _. Number 0) x) x) g
        ∙ by_row (is_cleared sp o) here refl
    by_tries false here g = cleared-none sp is o c g

-- a reset
abbrev pub tries-after : Sp → ℕ → List Item → List Item
tries-after Admin kind is = admin_tries_after kind is
tries-after Locking kind is = locking_tries_after kind is

after-by : (sp : Sp) (kind : ℕ) (is : List Item) → tries-after sp kind is ≡ cond (kind == 0) (cleared-on sp is) is
after-by Admin kind is = refl
after-by Locking kind is = refl

pub reset-tries : (sp : Sp) (kind : ℕ) (is : List Item) (counted new : Uid → ℕ) (rows : RowLook) → ShowTries is counted rows
    → ((o : Uid) (c : Column) → is_tries o c ≡ true → is_cleared sp o ≡ false → rows o c ≡ None) → ((u : Uid) → new u ≡ cond (kind == 0) 0 (counted u)) → ShowTries (tries-after sp kind is) new rows
reset-tries sp kind is counted new rows h unknown same o c = ap (λ items. item_at items o c) (after-by sp kind is) ∙ by_kind (kind == 0) same
  where
    by_kind : (b : Bool) → ((u : Uid) → new u ≡ cond b 0 (counted u)) → item_at (cond b (cleared-on sp is) is) o c ≡ tries_alone new rows o c
    by_kind true g = clear-shows sp is counted new rows h unknown g o c
    by_kind false g = counts-same is counted new rows h g o c

-- no lock of the Admin SP is there
pub no-locks : (o : Origin) (past : List Event) (object : Uid) (column : Column) → HasKnownRows o → has_locks object ≡ true → rows_after o past Admin object column ≡ None
no-locks o past object column known is =
    changes-none (factory_rows o Admin) _ (changes past Admin) object column (new-rows o known Admin object column ∙ (factory-has-known o.tables.config).locks object column is) (known.locks object column is)

-- so a reset changes none of its rows
unlocked : (kind : ℕ) (b l : Bool) (x y : Option Cell) → (b ≡ true → x ≡ None) → cond (b && l && has_kind kind x) (option_map (λ _. Number 1) y) y ≡ y
unlocked kind true true x y h = ap (λ z. cond (has_kind kind z) (option_map (λ _. Number 1) y) y) (h refl)
unlocked kind true false x y h = refl
unlocked kind false l x y h = refl

range-locks : (a b : Bool) → a ≡ true → (a || b) ≡ true
range-locks true b h = refl
range-locks false b h = cc

pub admin-reset : (o : Origin) (past : List Event) (kind : ℕ) → HasKnownRows o → reset_rows kind (rows_after o past Admin) ≡ rows_after o past Admin
admin-reset o past kind known =
    ap (done_seen kind) locks ∙ fun_ext (λ u. fun_ext (λ c. ap (λ x. cond (has_kind kind x && ((mbr_control.0 == u.0) && (mbr_done_column.0 == c.0))) (option_map (λ _. Number 0) (rows u c)) (rows u c)) (no-locks o past mbr_control mbr_done_on_reset_column known (shadow-locks (is_range (RANGES + 1) mbr_control)))))
  where
    rows : RowLook
    rows = rows_after o past Admin

    locks : locks_seen (RANGES + 1) kind rows ≡ rows
    locks = fun_ext (λ u. fun_ext (λ c. unlocked kind (is_range (RANGES + 1) u) (is_lock c) (rows u lock_on_reset_column) (rows u c) (λ is. no-locks o past u lock_on_reset_column known (range-locks (is_range (RANGES + 1) u) (mbr_control.0 == u.0) is))))

    shadow-locks : (a : Bool) → (a || true) ≡ true
    shadow-locks true = refl
    shadow-locks false = refl

-- What is kept of one SP, before and after a call.
use Rattle.std.proofs.Common.{◌≡◌, ◌≤◌, ◌==◌, ◌+◌, ◌*◌, ◌&&◌, ◌||◌, ℕ, zero, suc, Bool, true, false, List, [], ◌∷◌, length, cond, Option, None, Some, option_map, refl, sym, ◌∙◌, ap, arith}
use Rattle.std.specs.Prelude.{unwrap_or}
use Rattle.std.proofs.lemmas.Bool.Decides.{nat_tests}
use Rattle.sp_cells.specs.declared.names.TheConstants.{RANGES, USERS, ADMINS}
use Rattle.sp_cells.specs.declared.names.Uid.{Uid}
use Rattle.sp_cells.specs.declared.names.Column.{Column}
use Rattle.sp_cells.specs.declared.cells.Cell.{Cell}
use Rattle.sp_cells.specs.declared.cells.Cell.TheVariants.{Number}
use Rattle.sp_cells.specs.Names.{range_uid, mbr_control, c_pin_sid, c_pin_msid, c_pin_psid, c_pin_admin_sp_admin, admin_pin_uid, user_pin_uid}
use Rattle.sp_cells.specs.ColumnNames.{lock_on_reset_column, mbr_done_column, mbr_done_on_reset_column, read_locked_column, tries_column, write_locked_column}
use Rattle.sp_tables.specs.Items.{Item, item_at, with_item, with_items}
use Rattle.sp_tables.proofs.sp_rows.ItemLemmas.{with_item-absent}
use Rattle.sp_tables.specs.Tries.{is_pin_row, is_tries, names_tries, without_tries, tries_among, tries_put, family_cleared, admin_cleared, locking_cleared}
use Rattle.sp_tables.specs.AtReset.{has_kind, range_after, locks_after_reset, shadow_after, locking_after, is_power_cycle, admin_tries_after, locking_tries_after}
use Rattle.sp_tables.specs.Undo.{put_back, exchanged}
use Rattle.shadow_mbr.specs.Stored.{StoredSectors as Mbr, sector_size, byte_at}
use Rattle.transactions.specs.Bytes.{bytes_from, mbr_table_bytes, laid, written, blank}
use Rattle.transactions.specs.Logs.{Piece, Log, undone, bytes_undone, AreNoTries, with_old_row, with_old_bytes}
use Rattle.transactions.specs.Kept.{transaction, row_log, byte_log, part_kept}
use Rattle.transactions.specs.Stored.{Transaction, Part, is_open, part_begin, part_change, part_commit, part_close, part_tries, part_put}
use Rattle.transactions.proofs.TriesLemmas.{without-all, among-none, without-with, among-with, without-same, among-same, without-items, among-items, without-undone, among-undone}
use Rattle.transactions.proofs.LogLemmas.{undone-append, put_back-exchanged}
use Rattle.transactions.proofs.ByteLemmas.{written-back, bytes_undone-append, length-from, index-from}

or_false : (a b : Bool) → (a || b) ≡ false → (a ≡ false) × (b ≡ false)
or_false false b h = (refl, h)
or_false true b h = cc

-- parts are equal field by field
abbrev pub part-as : List Item → List Item → List ℕ → Option Transaction → Part
part-as r t b p = record { rows = r; tries = t; bytes = b; pending = p }

same-part : (r q t u : List Item) (b c : List ℕ) (p o : Option Transaction) → r ≡ q → t ≡ u → b ≡ c → p ≡ o → part-as r t b p ≡ part-as q u c o
same-part r q t u b c p o hr ht hb hp = ap (λ x. part-as x t b p) hr ∙ ap (λ x. part-as q x b p) ht ∙ ap (λ x. part-as q u x p) hb ∙ ap (part-as q u c) hp

-- what a change of no Tries finds in its places
exchanged-without : (is : List Item) (o : Uid) (ps : List (Column × Cell)) → names_tries o ps ≡ false → exchanged (without_tries is) o ps ≡ exchanged is o ps
exchanged-without is o [] h = refl
exchanged-without is o (p ∷ ps) h =
    let both : (is_tries o p.0 ≡ false) × (names_tries o ps ≡ false) = or_false _ _ h in
    ap (λ x. (p.0, unwrap_or x p.1) ∷ exchanged (with_item (without_tries is) o p.0 p.1) o ps) (without-all is o p.0 both.0)
    ∙ ap (λ r. (p.0, unwrap_or (item_at is o p.0) p.1) ∷ exchanged r o ps) (sym (without-with is o p.0 p.1))
    ∙ ap (λ r. (p.0, unwrap_or (item_at is o p.0) p.1) ∷ r) (exchanged-without (with_item is o p.0 p.1) o ps both.1)

-- cells that are set
back-again : (is : List Item) (o : Uid) (ps : List (Column × Cell)) → names_tries o ps ≡ false → put_back (without_tries (with_items is o ps)) o (exchanged is o ps) ≡ without_tries is
back-again is o ps h = ap (λ r. put_back r o (exchanged is o ps)) (without-items is o ps) ∙ ap (put_back (with_items (without_tries is) o ps) o) (sym (exchanged-without is o ps h)) ∙ put_back-exchanged (without_tries is) o ps

pub part-changed : (is : List Item) (bytes : List ℕ) (a : Option Log) (o : Uid) (ps : List (Column × Cell)) → names_tries o ps ≡ false → part_kept (with_items is o ps) bytes (option_map (with_old_row o (exchanged is o ps)) a) ≡ part_change (λ r. with_items r o ps) (λ b. b) (part_kept is bytes a)
part-changed is bytes None o ps h = same-part _ _ _ _ bytes bytes None None (without-items is o ps) (among-items is o ps h) refl refl
part-changed is bytes (Some p) o ps h =
    same-part _ _ _ _ _ _ _ _
    (undone-append (without_tries (with_items is o ps)) p.rows _ ∙ ap (λ r. undone r p.rows) (back-again is o ps h))
    (among-items is o ps h)
    refl
    (ap (λ r. Some (record { tsn = p.tsn; rows = r; bytes = bytes })) (without-items is o ps))

-- bytes that are written
pub part-written : (is : List Item) (m new : Mbr) (a : Option Log) (at : ℕ) (bs : List ℕ) → mbr_table_bytes new ≡ written at bs (mbr_table_bytes m) → part_kept is (mbr_table_bytes new) (option_map (with_old_bytes at (bytes_from (byte_at m) at (length bs))) a) ≡ part_change (λ r. r) (written at bs) (part_kept is (mbr_table_bytes m) a)
part-written is m new None at bs h = same-part _ _ _ _ _ _ None None refl refl h refl
part-written is m new (Some p) at bs h =
    same-part _ _ _ _ _ _ _ _
    refl
    refl
    (bytes_undone-append (mbr_table_bytes new) p.bytes _ ∙ ap (λ b. bytes_undone (written at (bytes_from (byte_at m) at (length bs)) b) p.bytes) h ∙ ap (λ b. bytes_undone b p.bytes) (written-back m at (bytes_from (byte_at m) at (length bs)) bs (length-from (byte_at m) at (length bs)) (λ k lt. index-from (byte_at m) at (length bs) k lt)))
    (ap (λ b. Some (record { tsn = p.tsn; rows = without_tries is; bytes = b })) h)

-- a transaction that begins
pub part-begun : (is : List Item) (bytes : List ℕ) (tsn : ℕ) → part_kept is bytes (Some (record { tsn = tsn; rows = []; bytes = [] })) ≡ part_begin tsn (part_kept is bytes None)
part-begun is bytes tsn = refl

-- and one that ends
committed-by : (b : Bool) (x y : List Item) → b ≡ true → x ≡ cond b x y
committed-by true x y h = refl
committed-by false x y h = cc

committed-bytes : (b : Bool) (x y : List ℕ) → b ≡ true → x ≡ cond b x y
committed-bytes true x y h = refl
committed-bytes false x y h = cc

pub part-committed : (is : List Item) (bytes : List ℕ) (a : Option Log) (tsn : ℕ) → is_open (transaction a is bytes) tsn ≡ true → part_kept is bytes None ≡ part_commit tsn (part_kept is bytes a)
part-committed is bytes None tsn h = cc
part-committed is bytes (Some p) tsn h = same-part _ _ _ _ _ _ None None (committed-by (p.tsn == tsn) _ _ h) refl (committed-bytes (p.tsn == tsn) _ _ h) refl

pub part-closed : (is : List Item) (bytes : List ℕ) (a : Option Log) → AreNoTries (row_log a) → part_kept (undone is (row_log a)) (bytes_undone bytes (byte_log a)) None ≡ part_close (part_kept is bytes a)
part-closed is bytes a h = same-part _ _ _ _ _ _ None None (without-undone is (row_log a)) (among-undone is (row_log a) h) refl refl

-- Tries
tries-here : (pin : Uid) → is_pin_row pin ≡ true → is_tries pin tries_column ≡ true
tries-here pin h = ap (λ b. b && (tries_column.0 == tries_column.0)) h

without-put : (pin : Uid) (n : ℕ) (is : List Item) → without_tries (tries_put pin n is) ≡ without_tries is
without-put pin n is = by (is_pin_row pin) refl where
  by : (b : Bool) → is_pin_row pin ≡ b → without_tries (cond b (with_item is pin tries_column (Number n)) is) ≡ without_tries is
  by true h = without-same is pin tries_column (Number n) (tries-here pin h)
  by false h = refl

among-put : (pin : Uid) (n : ℕ) (is : List Item) → tries_among (tries_put pin n is) ≡ with_item (tries_among is) pin tries_column (Number n)
among-put pin n is = by (is_pin_row pin) refl where
  by : (b : Bool) → is_pin_row pin ≡ b → tries_among (cond b (with_item is pin tries_column (Number n)) is) ≡ with_item (tries_among is) pin tries_column (Number n)
  by true h = among-with is pin tries_column (Number n)
  by false h = sym (with_item-absent (tries_among is) pin tries_column (Number n) (among-none is pin tries_column (ap (λ b. b && (tries_column.0 == tries_column.0)) h)))

pub part-tries : (is : List Item) (bytes : List ℕ) (a : Option Log) (pin : Uid) (n : ℕ) → part_kept (tries_put pin n is) bytes a ≡ part_tries pin n (part_kept is bytes a)
part-tries is bytes a pin n = same-part _ _ _ _ _ _ _ _ (ap (λ r. undone r (row_log a)) (without-put pin n is)) (among-put pin n is) refl (pending a)
  where
    pending : (x : Option Log) → transaction x (tries_put pin n is) bytes ≡ transaction x is bytes
    pending None = refl
    pending (Some p) = ap (λ r. Some (record { tsn = p.tsn; rows = r; bytes = bytes })) (without-put pin n is)

-- one cell in force
pub part-put : (is : List Item) (bytes : List ℕ) (o : Uid) (c : Column) (v : Cell) → is_tries o c ≡ false → part_kept (with_item is o c v) bytes None ≡ part_put o c v (part_kept is bytes None)
part-put is bytes o c v h = same-part _ _ _ _ _ _ None None (without-with is o c v) (among-same is o c v h) refl refl

-- resets

family-without : (name : ℕ → Uid) (n : ℕ) (is : List Item) → ((k : ℕ) → k ≤ n → is_tries (name k) tries_column ≡ true) → without_tries (family_cleared name n is) ≡ without_tries is
unfolding family_cleared
family-without name zero is h = refl
family-without name (suc n) is h = without-same (family_cleared name n is) (name (suc n)) tries_column (Number 0) (h (suc n) (omega arith)) ∙ family-without name n is (λ k low. h k (omega arith))

family-among : (name : ℕ → Uid) (n : ℕ) (is : List Item) → tries_among (family_cleared name n is) ≡ family_cleared name n (tries_among is)
unfolding family_cleared
family-among name zero is = refl
family-among name (suc n) is = among-with (family_cleared name n is) (name (suc n)) tries_column (Number 0) ∙ ap (λ r. with_item r (name (suc n)) tries_column (Number 0)) (family-among name n is)

abbrev sid_cleared : List Item → List Item
sid_cleared is = with_item is c_pin_sid tries_column (Number 0)

abbrev msid_cleared : List Item → List Item
msid_cleared is = with_item (sid_cleared is) c_pin_msid tries_column (Number 0)

abbrev psid_cleared : List Item → List Item
psid_cleared is = with_item (msid_cleared is) c_pin_psid tries_column (Number 0)

admin-cleared_without : (is : List Item) → without_tries (admin_cleared is) ≡ without_tries is
admin-cleared_without is =
    without-same (psid_cleared is) c_pin_admin_sp_admin tries_column (Number 0) refl ∙ without-same (msid_cleared is) c_pin_psid tries_column (Number 0) refl
    ∙ without-same (sid_cleared is) c_pin_msid tries_column (Number 0) refl ∙ without-same is c_pin_sid tries_column (Number 0) refl

admin-cleared_among : (is : List Item) → tries_among (admin_cleared is) ≡ admin_cleared (tries_among is)
admin-cleared_among is =
    among-with (psid_cleared is) c_pin_admin_sp_admin tries_column (Number 0)
    ∙ ap (λ r. with_item r c_pin_admin_sp_admin tries_column (Number 0)) (among-with (msid_cleared is) c_pin_psid tries_column (Number 0)
    ∙ ap (λ r. with_item r c_pin_psid tries_column (Number 0)) (among-with (sid_cleared is) c_pin_msid tries_column (Number 0)
    ∙ ap (λ r. with_item r c_pin_msid tries_column (Number 0)) (among-with is c_pin_sid tries_column (Number 0))))

admin_pins : (k : ℕ) → k ≤ ADMINS → is_tries (admin_pin_uid k) tries_column ≡ true
admin_pins k low = tries-here (admin_pin_uid k) (grind (arith, nat_tests))

user_pins : (k : ℕ) → k ≤ USERS → is_tries (user_pin_uid k) tries_column ≡ true
user_pins k low = tries-here (user_pin_uid k) (grind (arith, nat_tests))

locking-cleared_without : (is : List Item) → without_tries (locking_cleared is) ≡ without_tries is
locking-cleared_without is = family-without user_pin_uid USERS (family_cleared admin_pin_uid ADMINS is) user_pins ∙ family-without admin_pin_uid ADMINS is admin_pins

locking-cleared_among : (is : List Item) → tries_among (locking_cleared is) ≡ locking_cleared (tries_among is)
locking-cleared_among is = family-among user_pin_uid USERS (family_cleared admin_pin_uid ADMINS is) ∙ ap (family_cleared user_pin_uid USERS) (family-among admin_pin_uid ADMINS is)

range-without : (kind n : ℕ) (is : List Item) → without_tries (range_after kind n is) ≡ range_after kind n (without_tries is)
range-without kind n is = by (has_kind kind (item_at is (range_uid n) lock_on_reset_column)) ∙ ap (λ x. cond (has_kind kind x) (with_items (without_tries is) (range_uid n) ((read_locked_column, Number 1) ∷ (write_locked_column, Number 1) ∷ [])) (without_tries is)) (sym (without-all is (range_uid n) lock_on_reset_column (off (is_pin_row (range_uid n)))))
  where
    by : (b : Bool) → without_tries (cond b (with_items is (range_uid n) ((read_locked_column, Number 1) ∷ (write_locked_column, Number 1) ∷ [])) is) ≡ cond b (with_items (without_tries is) (range_uid n) ((read_locked_column, Number 1) ∷ (write_locked_column, Number 1) ∷ [])) (without_tries is)
    by true = without-items is (range_uid n) ((read_locked_column, Number 1) ∷ (write_locked_column, Number 1) ∷ [])
    by false = refl

    off : (b : Bool) → (b && false) ≡ false
    off true = refl
    off false = refl

range-among : (kind n : ℕ) (is : List Item) → tries_among (range_after kind n is) ≡ tries_among is
range-among kind n is = by (has_kind kind (item_at is (range_uid n) lock_on_reset_column)) where
  off : (b : Bool) → (b && false) ≡ false
  off true = refl
  off false = refl

  both : (b : Bool) → ((b && false) || ((b && false) || false)) ≡ false
  both true = refl
  both false = refl

  by : (b : Bool) → tries_among (cond b (with_items is (range_uid n) ((read_locked_column, Number 1) ∷ (write_locked_column, Number 1) ∷ [])) is) ≡ tries_among is
  by true = among-items is (range_uid n) ((read_locked_column, Number 1) ∷ (write_locked_column, Number 1) ∷ []) (both (is_pin_row (range_uid n)))
  by false = refl

ranges-without : (kind n : ℕ) (is : List Item) → without_tries (locks_after_reset kind n is) ≡ locks_after_reset kind n (without_tries is)
unfolding locks_after_reset
ranges-without kind zero is = refl
ranges-without kind (suc n) is = range-without kind n (locks_after_reset kind n is) ∙ ap (range_after kind n) (ranges-without kind n is)

ranges-among : (kind n : ℕ) (is : List Item) → tries_among (locks_after_reset kind n is) ≡ tries_among is
unfolding locks_after_reset
ranges-among kind zero is = refl
ranges-among kind (suc n) is = range-among kind n (locks_after_reset kind n is) ∙ ranges-among kind n is

shadow-without : (kind : ℕ) (is : List Item) → without_tries (shadow_after kind is) ≡ shadow_after kind (without_tries is)
shadow-without kind is = by (has_kind kind (item_at is mbr_control mbr_done_on_reset_column)) ∙ ap (λ x. cond (has_kind kind x) (with_item (without_tries is) mbr_control mbr_done_column (Number 0)) (without_tries is)) (sym (without-all is mbr_control mbr_done_on_reset_column refl))
  where
    by : (b : Bool) → without_tries (cond b (with_item is mbr_control mbr_done_column (Number 0)) is) ≡ cond b (with_item (without_tries is) mbr_control mbr_done_column (Number 0)) (without_tries is)
    by true = without-with is mbr_control mbr_done_column (Number 0)
    by false = refl

shadow-among : (kind : ℕ) (is : List Item) → tries_among (shadow_after kind is) ≡ tries_among is
shadow-among kind is = by (has_kind kind (item_at is mbr_control mbr_done_on_reset_column)) where
  by : (b : Bool) → tries_among (cond b (with_item is mbr_control mbr_done_column (Number 0)) is) ≡ tries_among is
  by true = among-same is mbr_control mbr_done_column (Number 0) refl
  by false = refl

cleared-by : (b : Bool) (f : List Item → List Item) (is : List Item) → without_tries (f is) ≡ without_tries is → without_tries (cond b (f is) is) ≡ without_tries is
cleared-by true f is h = h
cleared-by false f is h = refl

among-by : (b : Bool) (f : List Item → List Item) (is : List Item) → tries_among (f is) ≡ f (tries_among is) → tries_among (cond b (f is) is) ≡ cond b (f (tries_among is)) (tries_among is)
among-by true f is h = h
among-by false f is h = refl

pub admin-reset : (kind : ℕ) (is : List Item) (bytes : List ℕ) → part_kept (admin_tries_after kind is) bytes None ≡ part-as (without_tries is) (admin_tries_after kind (tries_among is)) bytes None
admin-reset kind is bytes = same-part _ _ _ _ _ _ None None (cleared-by (is_power_cycle kind) admin_cleared is (admin-cleared_without is)) (among-by (is_power_cycle kind) admin_cleared is (admin-cleared_among is)) refl refl

pub locking-reset : (kind : ℕ) (is : List Item) (bytes : List ℕ) → part_kept (locking_tries_after kind (locking_after kind is)) bytes None ≡ part-as (locking_after kind (without_tries is)) (locking_tries_after kind (tries_among is)) bytes None
locking-reset kind is bytes =
    let locked : List Item = locks_after_reset kind (RANGES + 1) is in
    let after : List Item = locking_after kind is in
    let rows : without_tries after ≡ locking_after kind (without_tries is) = shadow-without kind locked ∙ ap (shadow_after kind) (ranges-without kind (RANGES + 1) is) in
    let same : tries_among after ≡ tries_among is = shadow-among kind locked ∙ ranges-among kind (RANGES + 1) is in
    same-part _ _ _ _ _ _ None None
    (cleared-by (is_power_cycle kind) locking_cleared after (locking-cleared_without after) ∙ rows)
    (among-by (is_power_cycle kind) locking_cleared after (locking-cleared_among after) ∙ ap (locking_tries_after kind) same)
    refl refl

-- zeros

blank-laid : (at : ℕ) (bs : List ℕ) (place : ℕ) (old : List ℕ) → blank (laid at bs place old) ≡ blank old
blank-laid at bs place [] = refl
blank-laid at bs place (b ∷ old) = ap (λ r. 0 ∷ r) (blank-laid at bs (suc place) old)

pub blank-undone : (bytes : List ℕ) (log : List Piece) → blank (bytes_undone bytes log) ≡ blank bytes
blank-undone bytes [] = refl
blank-undone bytes (e ∷ log) = blank-laid e.at e.bytes 0 (bytes_undone bytes log) ∙ blank-undone bytes log

blank-from : (f g : ℕ → ℕ) (place n : ℕ) → ((p : ℕ) → g p ≡ 0) → bytes_from g place n ≡ blank (bytes_from f place n)
blank-from f g place zero h = refl
blank-from f g place (suc n) h = ap (λ b. b ∷ bytes_from g (suc place) n) (h place) ∙ ap (λ r. 0 ∷ r) (blank-from f g (suc place) n h)

pub bytes_in-wiped : (m new : Mbr) → new.sectors ≡ m.sectors → ((p : ℕ) → byte_at new p ≡ 0) → mbr_table_bytes new ≡ blank (mbr_table_bytes m)
unfolding mbr_table_bytes
bytes_in-wiped m new size zeros = ap (λ n. bytes_from (byte_at new) 0 (sector_size * n)) size ∙ blank-from (byte_at m) (byte_at new) 0 (sector_size * m.sectors) zeros

-- Changes that leave the bounds of the ranges as they are.
use Rattle.std.proofs.Common.{◌≡◌, ◌==◌, ◌&&◌, ◌||◌, option_map, ◌≤◌, ◌+◌, ℕ, zero, suc, Bool, true, false, List, ◌∷◌, [], cond, refl, sym, ◌∙◌, ap, arith, add-one, subst}
use Rattle.sp_cells.specs.declared.names.TheConstants.{RANGES, USERS, ADMINS}
use Rattle.sp_cells.specs.declared.names.Uid.{Uid}
use Rattle.sp_cells.specs.declared.names.Sp.{Sp}
use Rattle.sp_cells.specs.declared.names.Sp.TheVariants.{Locking}
use Rattle.sp_cells.specs.declared.names.Column.{Column}
use Rattle.sp_cells.specs.declared.cells.Cell.{Cell}
use Rattle.sp_cells.specs.declared.cells.Cell.TheVariants.{Number}
use Rattle.sp_cells.specs.Names.{range_uid, mbr_control, admin_pin_uid, user_pin_uid}
use Rattle.sp_cells.specs.ColumnNames.{lock_on_reset_column, mbr_done_column, mbr_done_on_reset_column, range_length_column, range_start_column, read_locked_column, tries_column, write_locked_column}
use Rattle.sp_cells.specs.Flat.{LookUp}
use Rattle.sp_cells.specs.Ranges.{range_start, range_length, AreApart, cell_number, ranges_meet}
use Rattle.sp_tables.specs.Items.{Item, item_at, with_item, with_items}
use Rattle.sp_cells.specs.Config.{Config}
use Rattle.sp_tables.specs.Contents.{Contents, cells_look_up, new_locking, factory_contents}
use Rattle.sp_tables.specs.Undo.{RangesApart, KeepsApart, IsNoBound, put_back, with_row_back}
use Rattle.sp_tables.specs.Tries.{is_pin_row, tries_put, family_cleared, locking_cleared}
use Rattle.sp_tables.specs.AtReset.{has_kind, range_after, locks_after_reset, shadow_after, locking_after, is_power_cycle, locking_tries_after}
use Rattle.sp_tables.proofs.ContentLemmas.{look_up-half, apart-factory}
use Rattle.sp_tables.proofs.ChangeLemmas.{item_at-with_item}

-- each range starts where it did, and is as long
pub record SameRanges (is new : List Item) : Type 0 where
  pub starts : (n : ℕ) → n ≤ RANGES → item_at new (range_uid n) range_start_column ≡ item_at is (range_uid n) range_start_column
  pub lengths : (n : ℕ) → n ≤ RANGES → item_at new (range_uid n) range_length_column ≡ item_at is (range_uid n) range_length_column

pub same-refl : (is : List Item) → SameRanges is is
same-refl is = record { starts = λ n h. refl; lengths = λ n h. refl }

pub same-after : (is mid new : List Item) → SameRanges is mid → SameRanges mid new → SameRanges is new
same-after is mid new a b = record { starts = λ n h. b.starts n h ∙ a.starts n h; lengths = λ n h. b.lengths n h ∙ a.lengths n h }

off_second : {A : Type 0} (a b : Bool) (x y : A) → b ≡ false → cond (a && b) x y ≡ y
off_second true b x y h = ap (λ t. cond t x y) h
off_second false b x y h = refl

off_first : {A : Type 0} (a b : Bool) (x y : A) → a ≡ false → cond (a && b) x y ≡ y
off_first a b x y h = ap (λ t. cond (t && b) x y) h

-- a change of another column
pub same-column : (is : List Item) (o : Uid) (k : Column) (v : Cell) → (k.0 == 3) ≡ false → (k.0 == 4) ≡ false → SameRanges is (with_item is o k v)
same-column is o k v three four = record {
  starts = λ n h. item_at-with_item is o (range_uid n) k range_start_column v ∙ off_second (o.0 == (range_uid n).0) (k.0 == 3) _ _ three;
  lengths = λ n h. item_at-with_item is o (range_uid n) k range_length_column v ∙ off_second (o.0 == (range_uid n).0) (k.0 == 4) _ _ four;
}

-- a change of an object that is no range
pub same-object : (is : List Item) (o : Uid) (k : Column) (v : Cell) → ((n : ℕ) → n ≤ RANGES → (o.0 == (range_uid n).0) ≡ false) → SameRanges is (with_item is o k v)
same-object is o k v other = record {
  starts = λ n h. item_at-with_item is o (range_uid n) k range_start_column v ∙ off_first (o.0 == (range_uid n).0) (k.0 == 3) _ _ (other n h);
  lengths = λ n h. item_at-with_item is o (range_uid n) k range_length_column v ∙ off_first (o.0 == (range_uid n).0) (k.0 == 4) _ _ (other n h);
}

-- ranges of the same bounds are apart alike
pub bounds-apart : (l m : LookUp) → ((n : ℕ) → n ≤ RANGES → range_start m n ≡ range_start l n) → ((n : ℕ) → n ≤ RANGES → range_length m n ≡ range_length l n) → AreApart l → AreApart m
bounds-apart l m start len before = record {
  separate = λ i j low lt high. same_meets i j (omega arith) high ∙ before.separate i j low lt high;
} where
  same_meets : (i j : ℕ) → i ≤ RANGES → j ≤ RANGES → ranges_meet m i j ≡ ranges_meet l i j
  same_meets i j hi hj = rw (start i hi, len i hi, start j hj, len j hj) refl

pub apart-rows : (is new : List Item) → SameRanges is new → RangesApart is → RangesApart new
apart-rows is new same before = bounds-apart (λ sp o c. item_at is o c) (λ sp o c. item_at new o c) (λ n h. ap cell_number (same.starts n h)) (λ n h. ap cell_number (same.lengths n h)) before

-- the ranges of contents are those of the rows of the Locking SP
pub apart-contents : (t : Contents) → RangesApart t.locking → AreApart (cells_look_up t)
apart-contents t before = bounds-apart (λ sp o c. item_at t.locking o c) (cells_look_up t) (λ n h. ap cell_number (look_up-half t Locking (range_uid n) range_start_column)) (λ n h. ap cell_number (look_up-half t Locking (range_uid n) range_length_column)) before

pub apart-locking_rows : (t : Contents) → AreApart (cells_look_up t) → RangesApart t.locking
apart-locking_rows t before = bounds-apart (cells_look_up t) (λ sp o c. item_at t.locking o c) (λ n h. ap cell_number (sym (look_up-half t Locking (range_uid n) range_start_column))) (λ n h. ap cell_number (sym (look_up-half t Locking (range_uid n) range_length_column))) before

-- ranges that are apart stay so
pub apart-same : (t new : Contents) → SameRanges t.locking new.locking → AreApart (cells_look_up t) → AreApart (cells_look_up new)
apart-same t new same before = apart-contents new (apart-rows t.locking new.locking same (apart-locking_rows t before))

-- the wrong attempts
pub same-tries_put : (pin : Uid) (n : ℕ) (is : List Item) → SameRanges is (tries_put pin n is)
same-tries_put pin n is = by (is_pin_row pin) where
  by : (b : Bool) → SameRanges is (cond b (with_item is pin tries_column (Number n)) is)
  by true = same-column is pin tries_column (Number n) refl refl
  by false = same-refl is

same-family : (name : ℕ → Uid) (n : ℕ) (is : List Item) → SameRanges is (family_cleared name n is)
unfolding family_cleared
same-family name zero is = same-refl is
same-family name (suc n) is = same-after is (family_cleared name n is) _ (same-family name n is) (same-column (family_cleared name n is) (name (suc n)) tries_column (Number 0) refl refl)

same-locking_cleared : (is : List Item) → SameRanges is (locking_cleared is)
same-locking_cleared is = same-after is (family_cleared admin_pin_uid ADMINS is) _ (same-family admin_pin_uid ADMINS is) (same-family user_pin_uid USERS (family_cleared admin_pin_uid ADMINS is))

-- a reset
same-range_after : (kind n : ℕ) (is : List Item) → SameRanges is (range_after kind n is)
same-range_after kind n is = by (has_kind kind (item_at is (range_uid n) lock_on_reset_column)) where
  by : (b : Bool) → SameRanges is (cond b (with_items is (range_uid n) ((read_locked_column, Number 1) ∷ (write_locked_column, Number 1) ∷ [])) is)
  by true = same-after is (with_item is (range_uid n) read_locked_column (Number 1)) _ (same-column is (range_uid n) read_locked_column (Number 1) refl refl) (same-column (with_item is (range_uid n) read_locked_column (Number 1)) (range_uid n) write_locked_column (Number 1) refl refl)
  by false = same-refl is

same-ranges_after : (kind n : ℕ) (is : List Item) → SameRanges is (locks_after_reset kind n is)
unfolding locks_after_reset
same-ranges_after kind zero is = same-refl is
same-ranges_after kind (suc n) is = same-after is (locks_after_reset kind n is) _ (same-ranges_after kind n is) (same-range_after kind n (locks_after_reset kind n is))

same-shadow_after : (kind : ℕ) (is : List Item) → SameRanges is (shadow_after kind is)
same-shadow_after kind is = by (has_kind kind (item_at is mbr_control mbr_done_on_reset_column)) where
  by : (b : Bool) → SameRanges is (cond b (with_item is mbr_control mbr_done_column (Number 0)) is)
  by true = same-column is mbr_control mbr_done_column (Number 0) refl refl
  by false = same-refl is

same-locking_tries : (kind : ℕ) (is : List Item) → SameRanges is (locking_tries_after kind is)
same-locking_tries kind is = by (is_power_cycle kind) where
  by : (b : Bool) → SameRanges is (cond b (locking_cleared is) is)
  by true = same-locking_cleared is
  by false = same-refl is

pub same-at_reset : (kind : ℕ) (is : List Item) → SameRanges is (locking_tries_after kind (locking_after kind is))
same-at_reset kind is =
    let locked : List Item = locks_after_reset kind (RANGES + 1) is in
    let shown : List Item = shadow_after kind locked in
    same-after is shown _ (same-after is locked shown (same-ranges_after kind (RANGES + 1) is) (same-shadow_after kind locked)) (same-locking_tries kind shown)

-- one more row of a family, one more range
pub family-none : (name : ℕ → Uid) (is : List Item) → family_cleared name 0 is ≡ is
unfolding family_cleared
family-none name is = refl

pub family-next : (name : ℕ → Uid) (n : ℕ) (is : List Item) → family_cleared name (n + 1) is ≡ with_item (family_cleared name n is) (name (n + 1)) tries_column (Number 0)
unfolding family_cleared
family-next name n is = rw add-one refl

pub ranges-none : (kind : ℕ) (is : List Item) → locks_after_reset kind 0 is ≡ is
unfolding locks_after_reset
ranges-none kind is = refl

pub ranges-next : (kind n : ℕ) (is : List Item) → locks_after_reset kind (n + 1) is ≡ range_after kind n (locks_after_reset kind n is)
unfolding locks_after_reset
ranges-next kind n is = rw add-one refl

pub ruleset in_turn = (family-none, family-next, ranges-none, ranges-next)

-- the contents of these cells
abbrev with_cells_of : List Item → List Item → Config → Contents
with_cells_of admin locking config = record { admin = admin; locking = locking; config = config }

-- changes in one half
pub apart-other : (admin new locking : List Item) (config : Config) → AreApart (cells_look_up (record { admin = admin; locking = locking; config = config })) → AreApart (cells_look_up (record { admin = new; locking = locking; config = config }))
apart-other admin new locking config before = apart-same (with_cells_of admin locking config) (with_cells_of new locking config) (same-refl locking) before

pub apart-tries : (admin locking new : List Item) (config : Config) (pin : Uid) (n : ℕ) → AreApart (cells_look_up (record { admin = admin; locking = locking; config = config })) → new ≡ tries_put pin n locking → AreApart (cells_look_up (record { admin = admin; locking = new; config = config }))
apart-tries admin locking new config pin n before is = apart-same (with_cells_of admin locking config) (with_cells_of admin new config) (subst (SameRanges locking) (sym is) (same-tries_put pin n locking)) before

pub apart-at_reset : (admin locking other new : List Item) (config : Config) (kind : ℕ) → AreApart (cells_look_up (record { admin = admin; locking = locking; config = config })) → new ≡ locking_tries_after kind (locking_after kind locking) → AreApart (cells_look_up (record { admin = other; locking = new; config = config }))
apart-at_reset admin locking other new config kind before is = apart-same (with_cells_of admin locking config) (with_cells_of other new config) (subst (SameRanges locking) (sym is) (same-at_reset kind locking)) before

pub apart-restored : (admin new : List Item) (config : Config) → new ≡ new_locking config → AreApart (cells_look_up (record { admin = admin; locking = new; config = config }))
apart-restored admin new config is = apart-same (factory_contents config) (with_cells_of admin new config) (subst (SameRanges (new_locking config)) (sym is) (same-refl (new_locking config))) (apart-factory config)

-- rows put back into the Locking SP
pub apart-put_back : (s t : Contents) (sp : Sp) (o : Uid) (ps : List (Column × Cell)) (new : List Item) → s ≡ t → sp ≡ Locking → KeepsApart sp (with_row_back sp o ps t) → new ≡ put_back s.locking o ps → AreApart (cells_look_up (record { admin = s.admin; locking = new; config = s.config }))
apart-put_back s t sp o ps new is at kept h =
    let there : RangesApart (put_back t.locking o ps) = subst (λ (z : Sp). KeepsApart z (with_row_back z o ps t)) at kept in
    let same : new ≡ put_back t.locking o ps = h ∙ ap (λ (x : Contents). put_back x.locking o ps) is in
    apart-contents (with_cells_of s.admin new s.config) (subst RangesApart (sym same) there)

-- a value put into a cell that is no bound
both_false : (a b c : Bool) → (a && (b || c)) ≡ false → ((a && b) ≡ false) × ((a && c) ≡ false)
both_false true true c h = cc
both_false true false c h = (refl, h)
both_false false b c h = (refl, refl)

same-no_bound : (is : List Item) (o : Uid) (k : Column) (v : Cell) → IsNoBound o k → SameRanges is (with_item is o k v)
same-no_bound is o k v h = record {
  starts = λ n low. item_at-with_item is o (range_uid n) k range_start_column v ∙ ap (λ t. cond t (option_map (λ _. v) (item_at is (range_uid n) range_start_column)) (item_at is (range_uid n) range_start_column)) (both_false (o.0 == (range_uid n).0) (k.0 == 3) (k.0 == 4) (h n low)).0;
  lengths = λ n low. item_at-with_item is o (range_uid n) k range_length_column v ∙ ap (λ t. cond t (option_map (λ _. v) (item_at is (range_uid n) range_length_column)) (item_at is (range_uid n) range_length_column)) (both_false (o.0 == (range_uid n).0) (k.0 == 3) (k.0 == 4) (h n low)).1;
}

pub apart-put : (admin locking new : List Item) (config : Config) (o : Uid) (c : Column) (v : Cell) → AreApart (cells_look_up (record { admin = admin; locking = locking; config = config })) → IsNoBound o c → new ≡ with_item locking o c v → AreApart (cells_look_up (record { admin = admin; locking = new; config = config }))
apart-put admin locking new config o c v before none h = apart-same (with_cells_of admin locking config) (with_cells_of admin new config) (subst (SameRanges locking) (sym h) (same-no_bound locking o c v none)) before

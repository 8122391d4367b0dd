-- Rows without Tries, and Tries alone, place by place, before and after a change.
use Rattle.std.proofs.Common.{◌≡◌, ℕ, ◌==◌, ◌+◌, Bool, true, false, ◌&&◌, List, [], ◌∷◌, Option, Some, None, refl, sym, ◌∙◌, ap, cond, eqb-true}
use Rattle.std.specs.Prelude.{is_some, option_map}
use Rattle.std.proofs.Math.Path.{fun_ext}
use Rattle.sp_cells.specs.declared.names.TheConstants.{RANGES}
use Rattle.sp_cells.specs.declared.names.Uid.{Uid}
use Rattle.sp_cells.specs.declared.names.Column.{Column}
use Rattle.sp_cells.specs.declared.cells.Cell.{Cell}
use Rattle.sp_cells.specs.declared.cells.Cell.TheVariants.{Number}
use Rattle.sp_cells.specs.Names.{mbr_control}
use Rattle.sp_cells.specs.ColumnNames.{lock_on_reset_column, mbr_done_column, mbr_done_on_reset_column, tries_column}
use Rattle.sp_tables.specs.Items.{Item, item_at, with_item, with_items}
use Rattle.sp_tables.specs.AtReset.{has_kind, locking_after}
use Rattle.sp_tables.specs.Looks.{RowLook, put_in, puts_in}
use Rattle.sp_tables.specs.Tries.{is_pin_row, is_tries, without_tries, tries_among}
use Rattle.sp_tables.proofs.ChangeLemmas.{item_at-with_item}
use Rattle.sp_tables.proofs.LookLemmas.{item_at-put, item_at-puts}
use Rattle.transactions.specs.Resets.{is_range, is_lock, locks_seen, done_seen}
use Rattle.transactions.proofs.ResetLemmas.{reset-places}
use Rattle.transactions.proofs.TriesLemmas.{without-none, without-all, among-none, among-all}
use Rattle.sessions.specs.Deeds.{Setting, cells_set, bytes_set, Sets}
use Rattle.sessions.specs.Made.{rows_with}
use Rattle.history.specs.Changes.{apply, reset_rows}
use Rattle.history.specs.KeptStore.{but_tries, tries_alone}

-- items by their places
abbrev pub ShowRows : List Item → RowLook → Type 0
ShowRows items rows = (object : Uid) (column : Column) → item_at items object column ≡ but_tries rows object column

abbrev pub ShowTries : List Item → (Uid → ℕ) → RowLook → Type 0
ShowTries items counted rows = (object : Uid) (column : Column) → item_at items object column ≡ tries_alone counted rows object column

abbrev pub SamePlaces : RowLook → RowLook → Type 0
SamePlaces rows new = (object : Uid) (column : Column) → is_some (rows object column) ≡ is_some (new object column)

-- all cells in two
without-by : (is : List Item) (o : Uid) (c : Column) (b : Bool) → is_tries o c ≡ b → item_at (without_tries is) o c ≡ cond b None (item_at is o c)
without-by is o c true h = without-none is o c h
without-by is o c false h = without-all is o c h

pub without-shows : (is : List Item) → ShowRows (without_tries is) (item_at is)
without-shows is o c = without-by is o c (is_tries o c) refl

among-by : (is : List Item) (n : ℕ) (o : Uid) (c : Column) (b : Bool) → is_tries o c ≡ b → (is_tries o c ≡ true → item_at is o c ≡ option_map (λ _. Number n) (item_at is o c)) → item_at (tries_among is) o c ≡ cond b (option_map (λ _. Number n) (item_at is o c)) None
among-by is n o c true h clean = among-all is o c h ∙ clean h
among-by is n o c false h clean = among-none is o c h

pub among-shows : (is : List Item) (n : ℕ) → ((o : Uid) (c : Column) → is_tries o c ≡ true → item_at is o c ≡ option_map (λ _. Number n) (item_at is o c)) → ShowTries (tries_among is) (λ row. n) (item_at is)
among-shows is n clean o c = among-by is n o c (is_tries o c) refl (clean o c)

-- a cell of Tries shows only whether it is there
pub alone-if : (k : ℕ) (x y : Option Cell) → is_some x ≡ is_some y → option_map (λ _. Number k) x ≡ option_map (λ _. Number k) y
alone-if k None None h = refl
alone-if k None (Some v) h = cc
alone-if k (Some u) None h = cc
alone-if k (Some u) (Some v) h = refl

pub alone-places : (counted : Uid → ℕ) (rows new : RowLook) → SamePlaces rows new → (o : Uid) (c : Column) → tries_alone counted rows o c ≡ tries_alone counted new o c
alone-places counted rows new h o c = ap (λ x. cond (is_tries o c) x None) (alone-if (counted o) (rows o c) (new o c) (h o c))

pub shows-places : (items : List Item) (counted : Uid → ℕ) (rows new : RowLook) → ShowTries items counted rows → SamePlaces rows new → ShowTries items counted new
shows-places items counted rows new h same o c = h o c ∙ alone-places counted rows new same o c

-- cells that are set
put-but : (b a : Bool) (v : Cell) (x : Option Cell) → cond a (option_map (λ _. v) (cond b None x)) (cond b None x) ≡ cond b None (cond a (option_map (λ _. v) x) x)
put-but true true v x = refl
put-but true false v x = refl
put-but false a v x = refl

but-put : (object : Uid) (column : Column) (v : Cell) (rows : RowLook) → put_in object column v (but_tries rows) ≡ but_tries (put_in object column v rows)
but-put object column v rows = fun_ext (λ o. fun_ext (λ c. put-but (is_tries o c) ((object.0 == o.0) && (column.0 == c.0)) v (rows o c)))

but-puts : (object : Uid) (cells : List (Column × Cell)) (rows : RowLook) → puts_in object cells (but_tries rows) ≡ but_tries (puts_in object cells rows)
but-puts object [] rows = refl
but-puts object (p ∷ ps) rows = ap (puts_in object ps) (but-put object p.0 p.1 rows) ∙ but-puts object ps (put_in object p.0 p.1 rows)

as-look : (items : List Item) (rows : RowLook) → ShowRows items rows → item_at items ≡ but_tries rows
as-look items rows h = fun_ext (λ o. fun_ext (λ c. h o c))

at-place : {x y : RowLook} → x ≡ y → (o : Uid) (c : Column) → x o c ≡ y o c
at-place h o c = ap (λ r. r o c) h

pub item-shows : (items : List Item) (rows : RowLook) (object : Uid) (column : Column) (v : Cell) → ShowRows items rows → ShowRows (with_item items object column v) (put_in object column v rows)
item-shows items rows object column v h o c =
    at-place (item_at-put items object column v ∙ ap (put_in object column v) (as-look items rows h) ∙ but-put object column v rows) o c

pub items-show : (items : List Item) (rows : RowLook) (object : Uid) (cells : List (Column × Cell)) → ShowRows items rows → ShowRows (with_items items object cells) (puts_in object cells rows)
items-show items rows object cells h o c =
    at-place (item_at-puts items object cells ∙ ap (puts_in object cells) (as-look items rows h) ∙ but-puts object cells rows) o c

pub setting-shows : (factory : RowLook) (st : Setting) (items : List Item) (rows : RowLook) → ShowRows items rows → ShowRows (rows_with st items) (apply factory (Sets st) rows)
setting-shows factory (cells_set object cells) items rows h = items-show items rows object cells h
setting-shows factory (bytes_set place bytes) items rows h = h

-- no place comes or goes
stays : (b : Bool) (v : Cell) (x : Option Cell) → is_some x ≡ is_some (cond b (option_map (λ _. v) x) x)
stays true v None = refl
stays true v (Some y) = refl
stays false v x = refl

pub put-places : (object : Uid) (column : Column) (v : Cell) (rows : RowLook) → SamePlaces rows (put_in object column v rows)
put-places object column v rows o c = stays ((object.0 == o.0) && (column.0 == c.0)) v (rows o c)

pub puts-places : (object : Uid) (cells : List (Column × Cell)) (rows : RowLook) → SamePlaces rows (puts_in object cells rows)
puts-places object [] rows o c = refl
puts-places object (p ∷ ps) rows o c = put-places object p.0 p.1 rows o c ∙ puts-places object ps (put_in object p.0 p.1 rows) o c

pub setting-places : (factory : RowLook) (st : Setting) (rows : RowLook) → SamePlaces rows (apply factory (Sets st) rows)
setting-places factory (cells_set object cells) rows o c = puts-places object cells rows o c
setting-places factory (bytes_set place bytes) rows o c = refl

pub reset-same : (kind : ℕ) (rows : RowLook) → SamePlaces rows (reset_rows kind rows)
reset-same kind rows o c =
    stays (is_range (RANGES + 1) o && is_lock c && has_kind kind (rows o lock_on_reset_column)) (Number 1) (rows o c)
    ∙ stays (has_kind kind (locks_seen (RANGES + 1) kind rows mbr_control mbr_done_on_reset_column) && ((mbr_control.0 == o.0) && (mbr_done_column.0 == c.0))) (Number 0) (locks_seen (RANGES + 1) kind rows o c)

-- a reset
no-tries : (b : Bool) → (b && (9 == 6)) ≡ false
no-tries true = refl
no-tries false = refl

but-lock : (rows : RowLook) (o : Uid) → but_tries rows o lock_on_reset_column ≡ rows o lock_on_reset_column
but-lock rows o = ap (λ b. cond b None (rows o lock_on_reset_column)) (no-tries (is_pin_row o))

but-locks : (kind : ℕ) (rows : RowLook) → locks_seen (RANGES + 1) kind (but_tries rows) ≡ but_tries (locks_seen (RANGES + 1) kind rows)
but-locks kind rows = fun_ext (λ o. fun_ext (λ c.
    ap (λ x. cond (is_range (RANGES + 1) o && is_lock c && has_kind kind x) (option_map (λ _. Number 1) (but_tries rows o c)) (but_tries rows o c)) (but-lock rows o)
    ∙ put-but (is_tries o c) (is_range (RANGES + 1) o && is_lock c && has_kind kind (rows o lock_on_reset_column)) (Number 1) (rows o c)))

but-done : (kind : ℕ) (rows : RowLook) → done_seen kind (but_tries rows) ≡ but_tries (done_seen kind rows)
but-done kind rows = fun_ext (λ o. fun_ext (λ c. put-but (is_tries o c) (has_kind kind (rows mbr_control mbr_done_on_reset_column) && ((mbr_control.0 == o.0) && (mbr_done_column.0 == c.0))) (Number 0) (rows o c)))

pub reset-shows : (kind : ℕ) (items : List Item) (rows : RowLook) → ShowRows items rows → ShowRows (locking_after kind items) (reset_rows kind rows)
reset-shows kind items rows h o c =
    reset-places kind items o c
    ∙ at-place (ap (λ r. done_seen kind (locks_seen (RANGES + 1) kind r)) (as-look items rows h) ∙ ap (done_seen kind) (but-locks kind rows) ∙ but-done kind (locks_seen (RANGES + 1) kind rows)) o c

-- Tries that are counted in one row
pub column-is : (o : Uid) (c : Column) (b : Bool) → (tries_column.0 == c.0) ≡ b → is_tries o c ≡ true → b ≡ true
column-is o c true same h = refl
column-is o c false same h = by_pin (is_pin_row o) (c.0 == tries_column.0) refl h
  where
    by_pin : (p q : Bool) → (c.0 == tries_column.0) ≡ q → (p && q) ≡ true → false ≡ true
    by_pin true true is g = sym same ∙ ap (λ n. tries_column.0 == n) (eqb-true c.0 tries_column.0 is)
    by_pin true false is g = cc
    by_pin false q is g = cc

pub twice : (n k : ℕ) (x : Option Cell) → option_map (λ _. Number n) (option_map (λ _. Number k) x) ≡ option_map (λ _. Number n) x
twice n k None = refl
twice n k (Some v) = refl

here-if : (n m : ℕ) (x : Option Cell) → (is_some x ≡ true → m ≡ n) → option_map (λ _. Number n) x ≡ option_map (λ _. Number m) x
here-if n m None h = refl
here-if n m (Some v) h = ap (λ k. Some (Number k)) (sym (h refl))

pub count-shows : (items : List Item) (row : Uid) (n : ℕ) (counted new : Uid → ℕ) (rows : RowLook) → ShowTries items counted rows
    → ((u : Uid) (k : Column) → (row.0 == u.0) ≡ true → is_tries u k ≡ true → is_some (rows u k) ≡ true → new u ≡ n)
    → ((u : Uid) → (row.0 == u.0) ≡ false → new u ≡ counted u)
    → ShowTries (with_item items row tries_column (Number n)) new rows
count-shows items row n counted new rows h here apart o c =
    item_at-with_item items row o tries_column c (Number n)
    ∙ ap (λ x. cond ((row.0 == o.0) && (tries_column.0 == c.0)) (option_map (λ _. Number n) x) x) (h o c)
    ∙ by_place (is_tries o c) (row.0 == o.0) (tries_column.0 == c.0) refl refl refl
  where
    by_place : (b a d : Bool) → is_tries o c ≡ b → (row.0 == o.0) ≡ a → (tries_column.0 == c.0) ≡ d
        → cond (a && d) (option_map (λ _. Number n) (cond b (option_map (λ _. Number (counted o)) (rows o c)) None)) (cond b (option_map (λ _. Number (counted o)) (rows o c)) None) ≡ cond b (option_map (λ _. Number (new o)) (rows o c)) None
    by_place true true true is_b is_a is_d = twice n (counted o) (rows o c) ∙ here-if n (new o) (rows o c) (here o c is_a is_b)
    by_place true true false is_b is_a is_d = absurd (let e : false ≡ true = column-is o c false is_d is_b in cc)
    by_place true false d is_b is_a is_d = ap (λ k. option_map (λ _. Number k) (rows o c)) (sym (apart o is_a))
    by_place false true true is_b is_a is_d = refl
    by_place false true false is_b is_a is_d = refl
    by_place false false d is_b is_a is_d = refl

-- and as many in each
pub counts-same : (items : List Item) (counted new : Uid → ℕ) (rows : RowLook) → ShowTries items counted rows → ((u : Uid) → new u ≡ counted u) → ShowTries items new rows
counts-same items counted new rows h same o c = h o c ∙ ap (λ n. cond (is_tries o c) (option_map (λ _. Number n) (rows o c)) None) (sym (same o))

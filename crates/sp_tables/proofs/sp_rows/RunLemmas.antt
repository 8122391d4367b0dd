-- Rows by their places.
use Rattle.std.proofs.Common.{◌≡◌, ◌==◌, ◌+◌, ◌≤◌, ℕ, true, false, List, [], ◌∷◌, ◌++◌, cond, Option, None, Some, refl, sym, ◌∙◌, ap, arith, take, suc, zero, ◌<◌, length, get_or, drop, drop-cons, add-one, append-nil, set}
use Rattle.std.proofs.lemmas.List.{take_more}
use Rattle.std.proofs.lemmas.List.Concat.{flat_map-append}
use Rattle.std.proofs.lemmas.Bool.Decides.{nat_tests}
use Rattle.std.proofs.Math.Nat.{not-suc-le-zero}
use Rattle.std.specs.Option.{option_or}
use Rattle.std.specs.List.{flat_map}
use Rattle.sp_cells.specs.declared.names.Uid.{Uid}
use Rattle.sp_cells.specs.declared.names.Column.{Column}
use Rattle.sp_cells.specs.declared.cells.Cell.{Cell}
use Rattle.sp_cells.specs.Names.{uid}
use Rattle.sp_tables.specs.Items.{Item, item_at, with_item, column_at, with_column, row_items, rows_from}
use Rattle.sp_tables.specs.Runs.{FindsRun}
use Rattle.sp_tables.proofs.sp_rows.ItemLemmas.{both_none, item_at-append, with_item-append_found, with_item-append_absent, with_item-append_left, with_item-absent, item_at-row, with_item-row}

-- no row before the first
pub item_at-below : {R : Type 0} (f : R → List (Column × Cell)) (rows : List R) (first : ℕ) (o : Uid) (c : Column) → o.0 < first → item_at (rows_from f first rows) o c ≡ None
item_at-below f [] first o c h = refl
item_at-below f (r ∷ rs) first o c h =
    let rest : item_at (rows_from f (suc first) rs) o c ≡ None = item_at-below f rs (suc first) o c (omega arith) in
    let here : (first == o.0) ≡ false = grind (arith, nat_tests) in
    rw (item_at-append, item_at-row, here) rest

-- nor behind the last
pub item_at-beyond : {R : Type 0} (f : R → List (Column × Cell)) (rows : List R) (first : ℕ) (o : Uid) (c : Column) → first + length rows ≤ o.0 → item_at (rows_from f first rows) o c ≡ None
item_at-beyond f [] first o c h = refl
item_at-beyond f (r ∷ rs) first o c h =
    let rest : item_at (rows_from f (suc first) rs) o c ≡ None = item_at-beyond f rs (suc first) o c (omega arith) in
    let here : (first == o.0) ≡ false = grind (arith, nat_tests) in
    rw (item_at-append, item_at-row, here) rest

or_none : (a : Option Cell) → option_or a None ≡ a
or_none None = refl
or_none (Some x) = refl

-- the row at its place
pub item_at-place : {R : Type 0} (f : R → List (Column × Cell)) (rows : List R) (first i : ℕ) (r : R) (o : Uid) (c : Column) → o.0 ≡ first + i → i < length rows → r ≡ get_or rows i r → item_at (rows_from f first rows) o c ≡ column_at (f r) c
item_at-place f [] first i r o c at lt is = absurd (not-suc-le-zero lt)
item_at-place f (x ∷ rs) first zero r o c at lt is =
    let here : (first == o.0) ≡ true = grind (arith, nat_tests) in
    let rest : item_at (rows_from f (suc first) rs) o c ≡ None = item_at-below f rs (suc first) o c (omega arith) in
    rw (item_at-append, item_at-row, here, rest) (or_none (column_at (f x) c) ∙ ap (λ y. column_at (f y) c) (sym is))
item_at-place f (x ∷ rs) first (suc i) r o c at lt is =
    let here : (first == o.0) ≡ false = grind (arith, nat_tests) in
    rw (item_at-append, item_at-row, here) (item_at-place f rs (suc first) i r o c (omega arith) (omega arith) is)

-- a change of the row at its place
pub with_item-place : {R : Type 0} (f : R → List (Column × Cell)) (rows : List R) (first i : ℕ) (r new : R) (o : Uid) (c : Column) (v : Cell) → o.0 ≡ first + i → i < length rows → r ≡ get_or rows i r → f new ≡ with_column (f r) c v → rows_from f first (set rows i new) ≡ with_item (rows_from f first rows) o c v
with_item-place f [] first i r new o c v at lt is h = absurd (not-suc-le-zero lt)
with_item-place f (x ∷ rs) first zero r new o c v at lt is h =
    let here : (first == o.0) ≡ true = grind (arith, nat_tests) in
    let rest : item_at (rows_from f (suc first) rs) o c ≡ None = item_at-below f rs (suc first) o c (omega arith) in
    ap (λ ps. row_items (uid first) ps ++ rows_from f (suc first) rs) (h ∙ ap (λ y. with_column (f y) c v) is) ∙ ap (λ q. q ++ rows_from f (suc first) rs) (sym (with_item-row (f x) (uid first) o c v here)) ∙ sym (with_item-append_left (row_items (uid first) (f x)) (rows_from f (suc first) rs) o c v rest)
with_item-place f (x ∷ rs) first (suc i) r new o c v at lt is h =
    let here : (first == o.0) ≡ false = grind (arith, nat_tests) in
    let none : item_at (row_items (uid first) (f x)) o c ≡ None = item_at-row (f x) (uid first) o c ∙ ap (λ b. cond b (column_at (f x) c) None) here in
    ap (λ q. row_items (uid first) (f x) ++ q) (with_item-place f rs (suc first) i r new o c v (omega arith) (omega arith) is h) ∙ sym (with_item-append_absent (row_items (uid first) (f x)) (rows_from f (suc first) rs) o c v none)

-- the first list that has the cell is the one that is read
pub item_at-found : {R : Type 0} (f : R → List Item) (rows : List R) (o : Uid) (c : Column) (i : ℕ) (r : R) → r ≡ get_or rows i r → FindsRun f rows o c i → item_at (flat_map f rows) o c ≡ item_at (f r) o c
item_at-found f [] o c i r at found = absurd (not-suc-le-zero found.within)
item_at-found f (x ∷ rows) o c zero r at found = let has = found.has r in grind (arith, item_at-append (f x) (flat_map f rows) o c)
item_at-found f (x ∷ rows) o c (suc i) r at found =
    let none : (item_at (f x) o c ≡ None) × (item_at (flat_map f (take i rows)) o c ≡ None) = both_none _ _ (sym (item_at-append (f x) (flat_map f (take i rows)) o c) ∙ found.before) in
    let rest : FindsRun f rows o c i = record { within = omega (arith, found.within); has = found.has; before = none.1 } in
    item_at-append (f x) (flat_map f rows) o c ∙ ap (λ q. option_or q (item_at (flat_map f rows) o c)) none.0 ∙ item_at-found f rows o c i r at rest

-- and it is the one that changes
pub with_item-found : {R : Type 0} (f : R → List Item) (rows : List R) (o : Uid) (c : Column) (i : ℕ) (v : Cell) (r new : R) → r ≡ get_or rows i r → FindsRun f rows o c i → f new ≡ with_item (f r) o c v → flat_map f (set rows i new) ≡ with_item (flat_map f rows) o c v
with_item-found f [] o c i v r new at found h = absurd (not-suc-le-zero found.within)
with_item-found f (x ∷ rows) o c zero v r new at found h = let has = found.has r in grind (arith, with_item-append_found (f x) (flat_map f rows) o c v)
with_item-found f (x ∷ rows) o c (suc i) v r new at found h =
    let none : (item_at (f x) o c ≡ None) × (item_at (flat_map f (take i rows)) o c ≡ None) = both_none _ _ (sym (item_at-append (f x) (flat_map f (take i rows)) o c) ∙ found.before) in
    let rest : FindsRun f rows o c i = record { within = omega (arith, found.within); has = found.has; before = none.1 } in
    ap (λ q. f x ++ q) (with_item-found f rows o c i v r new at rest h) ∙ sym (with_item-append_absent (f x) (flat_map f rows) o c v none.0)

-- one more list that does not have the cell
pub item_at-more : {R : Type 0} (f : R → List Item) (rows : List R) (i : ℕ) (r : R) (o : Uid) (c : Column) → i < length rows → item_at (flat_map f (take i rows)) o c ≡ None → item_at (f (get_or rows i r)) o c ≡ None → item_at (flat_map f (take (i + 1) rows)) o c ≡ None
item_at-more f rows i r o c lt h g =
    let q = item_at-append (flat_map f (take i rows)) (f (get_or rows i r) ++ []) o c in
    rw (take_more rows i r lt, flat_map-append f (take i rows) (get_or rows i r ∷ [])) (grind (arith, q, append-nil (f (get_or rows i r))))

-- one more list of the rest
pub item_at-next : {R : Type 0} (f : R → List Item) (rows : List R) (i : ℕ) (r : R) (o : Uid) (c : Column) → i < length rows → item_at (flat_map f (drop i rows)) o c ≡ option_or (item_at (f (get_or rows i r)) o c) (item_at (flat_map f (drop (i + 1) rows)) o c)
item_at-next f rows i r o c lt = rw (drop-cons rows i r lt, add-one) (item_at-append (f (get_or rows i r)) (flat_map f (drop (suc i) rows)) o c)

-- the search has found the cell
pub item_at-seen : {R : Type 0} (f : R → List Item) (rows : List R) (i : ℕ) (r : R) (o : Uid) (c : Column) (v : Cell) → i < length rows → r ≡ get_or rows i r → item_at (flat_map f (drop i rows)) o c ≡ item_at (flat_map f rows) o c → Some v ≡ item_at (f r) o c → Some v ≡ item_at (flat_map f rows) o c
item_at-seen f rows i r o c v lt at inv h =
    ap (λ q. option_or q (item_at (flat_map f (drop (i + 1) rows)) o c)) (h ∙ ap (λ x. item_at (f x) o c) at) ∙ sym (item_at-next f rows i r o c lt) ∙ inv

-- the search goes on
pub item_at-passed : {R : Type 0} (f : R → List Item) (rows : List R) (i : ℕ) (r : R) (o : Uid) (c : Column) → i < length rows → r ≡ get_or rows i r → item_at (flat_map f (drop i rows)) o c ≡ item_at (flat_map f rows) o c → None ≡ item_at (f r) o c → item_at (flat_map f (drop (i + 1) rows)) o c ≡ item_at (flat_map f rows) o c
item_at-passed f rows i r o c lt at inv h =
    ap (λ q. option_or q (item_at (flat_map f (drop (i + 1) rows)) o c)) (h ∙ ap (λ x. item_at (f x) o c) at) ∙ sym (item_at-next f rows i r o c lt) ∙ inv

pub ruleset placed = (item_at-below, item_at-beyond, item_at-place, with_item-place, with_item-absent)

pub ruleset searching = (item_at-append, with_item-absent, item_at-more, item_at-found, with_item-found, item_at-next)

-- What is told of a Set's values is so.
use Rattle.std.proofs.Common.{◌≡◌, ◌∙◌, ℕ, Bool, true, false, List, [], ◌∷◌, ◌++◌, refl, sym, ap, Option, Some, None}
use Rattle.std.specs.Prelude.{if◌then◌else◌, is_some, ◌&&◌}
use Rattle.std.specs.List.{list_all, filter_map}
use Rattle.sp_cells.specs.declared.cells.Cell.{Cell}
use Rattle.sp_cells.specs.declared.names.Column.{Column}
use Rattle.sp_cells.specs.declared.values.ColumnType.{ColumnType}
use Rattle.tcg_tokens.specs.Tree.{Tree}
use Rattle.methods.specs.Settings.{cell_for, cells_for}
use Rattle.reasons.specs.Untaken.{first_untaken, UntakenLaw, IsUntaken, UntakenColumnLaw}

-- each column takes its value exactly where none is told
one-taken : (taken rest : Bool) (column : ℕ) (later : Option ℕ) → (later ≡ None → rest ≡ true)
    → (if taken then later else Some column) ≡ None → (taken && rest) ≡ true
one-taken true rest column later behind e = behind e
one-taken false rest column later behind e = absurd cc

one-untaken : (taken rest : Bool) (column : ℕ) (later : Option ℕ) → (rest ≡ true → later ≡ None)
    → (taken && rest) ≡ true → (if taken then later else Some column) ≡ None
one-untaken true rest column later behind e = behind e
one-untaken false rest column later behind e = absurd cc

all-taken : (types : List (Column × ColumnType)) (values : List (ℕ × Tree)) → first_untaken types values ≡ None
    → list_all (λ p. is_some (cell_for types p)) values ≡ true
all-taken types [] e = refl
all-taken types (p ∷ ps) e =
    one-taken (is_some (cell_for types p)) (list_all (λ p. is_some (cell_for types p)) ps) p.0 (first_untaken types ps)
    (all-taken types ps) e

none-untaken : (types : List (Column × ColumnType)) (values : List (ℕ × Tree))
    → list_all (λ p. is_some (cell_for types p)) values ≡ true → first_untaken types values ≡ None
none-untaken types [] e = refl
none-untaken types (p ∷ ps) e =
    one-untaken (is_some (cell_for types p)) (list_all (λ p. is_some (cell_for types p)) ps) p.0 (first_untaken types ps)
    (none-untaken types ps) e

some-set : (all : Bool) (cells : List (Column × Cell)) → all ≡ true → is_some (if all then Some cells else None) ≡ true
some-set true cells e = refl
some-set false cells e = absurd cc

all-set : (all : Bool) (cells : List (Column × Cell)) → is_some (if all then Some cells else None) ≡ true → all ≡ true
all-set true cells e = refl
all-set false cells e = absurd cc

pub untaken : UntakenLaw
unfolding cells_for
untaken types values =
    let all = list_all (λ p. is_some (cell_for types p)) values in
    let cells = filter_map (cell_for types) values in
    (λ e. some-set all cells (all-taken types values e), λ e. none-untaken types values (all-set all cells e))

-- the column that is told takes no such value
no-cell : (cell : Option (Column × Cell)) → is_some cell ≡ false → cell ≡ None
no-cell None e = refl
no-cell (Some cell) e = absurd cc

told-here : (types : List (Column × ColumnType)) (p : ℕ × Tree) (ps : List (ℕ × Tree)) (column : ℕ) (taken : Bool)
    → is_some (cell_for types p) ≡ taken
    → (first_untaken types ps ≡ Some column → IsUntaken types ps column)
    → (if taken then first_untaken types ps else Some p.0) ≡ Some column → IsUntaken types (p ∷ ps) column
told-here types p ps column true is behind e =
    let it = behind e in
    record {
      before = p ∷ it.before;
      value = it.value;
      after = it.after;
      place = ap (λ (xs : List (ℕ × Tree)). p ∷ xs) it.place;
      taken = ap (λ (b : Bool). if b then first_untaken types it.before else Some p.0) is ∙ it.taken;
      fault = it.fault;
    }
told-here types (column', value) ps column false is behind e =
    let same : column' ≡ column = cc in
    record {
      before = [];
      value = value;
      after = ps;
      place = ap (λ (c : ℕ). (c, value) ∷ ps) same;
      taken = refl;
      fault = ap (λ (c : ℕ). cell_for types (c, value)) (sym same) ∙ no-cell (cell_for types (column', value)) is;
    }

pub column : UntakenColumnLaw
column types [] c e = absurd cc
column types (p ∷ ps) c e = told-here types p ps c (is_some (cell_for types p)) refl (column types ps c) e

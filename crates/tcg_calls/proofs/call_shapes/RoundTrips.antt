-- What Get writes of a cell, Set reads back.
use Rattle.std.proofs.Common.{◌≡◌, ℕ, Bool, true, false, ◌&&◌, ◌<◌, ◌^◌, List, [], ◌∷◌, map, length, Option, None, Some, is_some, if◌then◌else◌, refl, ap, ◌∙◌, arith, option_map, nat_le, nat_lt}
use Rattle.std.proofs.lemmas.Bool.Decides.{nat_tests}
use Rattle.std.proofs.lemmas.Nat.{from_be_bytes-to_be_bytes_8}
use Rattle.std.specs.List.{list_all, filter_map}
use Rattle.tcg_tokens.specs.Tree.{Tree, number, trees_of}
use Rattle.sp_cells.specs.declared.names.Uid.{Uid as UidType}
use Rattle.sp_cells.specs.declared.names.Column.{Column}
use Rattle.sp_cells.specs.declared.cells.Cell.{Cell}
use Rattle.sp_cells.specs.declared.cells.Cell.TheVariants.{Number, Bytes, Uid, Numbers, Expr, Columns, OneName}
use Rattle.sp_cells.specs.declared.cells.ResetTypes.{ResetTypes}
use Rattle.sp_cells.specs.declared.cells.Element.{Element}
use Rattle.sp_cells.specs.declared.cells.Element.TheVariants.{Authority, And, Or}
use Rattle.sp_cells.specs.declared.values.ColumnType.TheVariants as types
use Rattle.sp_cells.specs.Names.{uid, col}
use Rattle.sp_cells.specs.Limits.{most_short_elements, most_elements}
use Rattle.sp_cells.specs.Resets.{reset_numbers}
use Rattle.tcg_calls.specs.Named.{values_of}
use Rattle.tcg_calls.specs.Asks.{uid_in}
use Rattle.tcg_calls.specs.CellValues.{uid_tree, element_tree, element_in, number_in, each_of, resets_of, with_power_cycle, expression_of, columns_written}
use Rattle.tcg_calls.specs.CallShapesLaws.{is_short, is_short_element, RoundTrip}

clash : false ≡ true → ⊥
clash h = cc

below : (n : ℕ) → nat_lt n (2 ^ 64) ≡ true → n < 2 ^ 64
below n h = grind (arith, nat_tests)

-- names
uid_back : (u : UidType) → is_short u.0 ≡ true → uid_in (uid_tree u) ≡ Some u
uid_back u h = ap (λ n. Some (uid n)) (from_be_bytes-to_be_bytes_8 u.0 (below u.0 h))

element_back : (e : Element) → is_short_element e ≡ true → element_in (element_tree e) ≡ Some e
element_back (Authority a) h = ap (option_map Authority) (uid_back a h)
element_back And h = refl
element_back Or h = refl

-- lists
values_back : (ts : List Tree) → values_of (trees_of ts) ≡ ts
values_back [] = refl
values_back (t ∷ ts) = ap (λ l. t ∷ l) (values_back ts)

each_step : {A : Type 0} (f : Tree → Option A) (t : Tree) (ts : List Tree) (x : A) (xs : List A) → f t ≡ Some x → each_of f ts ≡ Some xs → each_of f (t ∷ ts) ≡ Some (x ∷ xs)
each_step f t ts x xs e h = rw e (by (list_all (λ t. is_some (f t)) ts) h) where
  by : (b : Bool) → (if b then Some (filter_map f ts) else None) ≡ Some xs → (if b then Some (x ∷ filter_map f ts) else None) ≡ Some (x ∷ xs)
  by true g = ap (option_map (λ l. x ∷ l)) g
  by false g = cc

elements_back : (es : List Element) → list_all is_short_element es ≡ true → each_of element_in (map element_tree es) ≡ Some es
elements_back [] h = refl
elements_back (e ∷ es) h = by (is_short_element e) (list_all is_short_element es) refl refl h (elements_back es) where
  by : (a b : Bool) → is_short_element e ≡ a → list_all is_short_element es ≡ b → (a && b) ≡ true → (list_all is_short_element es ≡ true → each_of element_in (map element_tree es) ≡ Some es) → each_of element_in (map element_tree (e ∷ es)) ≡ Some (e ∷ es)
  by true true p q g rest = each_step element_in (element_tree e) (map element_tree es) e es (element_back e p) (rest q)
  by true false p q g rest = absurd (clash g)
  by false b p q g rest = absurd (clash g)

numbers_back : (ns : List ℕ) → each_of number_in (map number ns) ≡ Some ns
numbers_back [] = refl
numbers_back (n ∷ ns) = each_step number_in (number n) (map number ns) n ns refl (numbers_back ns)

columns_back : (cs : List Column) → map col (map (λ (c : Column). c.0) cs) ≡ cs
columns_back [] = refl
columns_back (c ∷ cs) = ap (λ l. c ∷ l) (columns_back cs)

resets_back : (r : ResetTypes) → resets_of (Some (reset_numbers r)) ≡ Some (Numbers r)
resets_back r = by r.power_cycle r.hardware r.programmatic where
  by : (p h c : Bool) → resets_of (Some (reset_numbers (record { power_cycle = p; hardware = h; programmatic = c }))) ≡ Some (Numbers (record { power_cycle = p; hardware = h; programmatic = c }))
  by true true true = refl
  by true true false = refl
  by true false true = refl
  by true false false = refl
  by false true true = refl
  by false true false = refl
  by false false true = refl
  by false false false = refl

two : (a b : Bool) → (a && b) ≡ true → (a ≡ true) × (b ≡ true)
two true true h = (refl, refl)
two true false h = absurd (clash h)
two false b h = absurd (clash h)

expression_back : (most : ℕ) (es : List Element) → (list_all is_short_element es && nat_le (length es) most) ≡ true → expression_of most (each_of element_in (values_of (trees_of (map element_tree es)))) ≡ Some (Expr es)
expression_back most es h =
    let t = two (list_all is_short_element es) (nat_le (length es) most) h in
    ap (λ ts. expression_of most (each_of element_in ts)) (values_back (map element_tree es))
    ∙ ap (expression_of most) (elements_back es t.0)
    ∙ ap (λ b. if b then Some (Expr es) else None) t.1

-- the resets of a set are those that are written
written_back : (r : ResetTypes) → resets_of (each_of number_in (values_of (trees_of (map number (reset_numbers r))))) ≡ Some (Numbers r)
written_back r = ap (λ ts. resets_of (each_of number_in ts)) (values_back (map number (reset_numbers r))) ∙ ap resets_of (numbers_back (reset_numbers r)) ∙ resets_back r

pub round_trip : RoundTrip
round_trip types.Name (Bytes b) h s = refl
round_trip types.Secret (Bytes b) h s = ap (λ t. if t then Some (Bytes b) else None) h
round_trip types.Object (Uid u) h s = ap (λ o. object_from o) (uid_back u s) where
  object_from : Option UidType → Option Cell
  object_from None = None
  object_from (Some v) = Some (Uid v)
round_trip types.Number (Number n) h s = refl
round_trip types.Flag (Number n) h s = ap (λ t. if t then Some (Number n) else None) h
round_trip types.Mechanism (Number n) h s = ap (λ t. if t then Some (Number n) else None) h
round_trip types.CommonName (Bytes b) h s = ap (λ t. if t then Some (Bytes b) else None) h
round_trip types.OneName (OneName b) h s = refl
round_trip types.Resets (Numbers r) h s = written_back r
round_trip types.PowerCycleResets (Numbers r) h s = ap with_power_cycle (written_back r) ∙ ap (λ t. if t then Some (Numbers r) else None) h
round_trip types.Expression (Expr es) h s = expression_back most_short_elements es s
round_trip types.LongExpression (Expr es) h s = expression_back most_elements es s
round_trip types.Columns (Columns cs) h s = ap (λ ts. columns_written (each_of number_in ts)) (values_back (map number (map (λ (c : Column). c.0) cs))) ∙ ap columns_written (numbers_back (map (λ (c : Column). c.0) cs)) ∙ ap (λ l. Some (Columns l)) (columns_back cs)
round_trip types.Name (Number n) h s = absurd (clash h)
round_trip types.Name (Uid u) h s = absurd (clash h)
round_trip types.Name (Numbers r) h s = absurd (clash h)
round_trip types.Name (Expr es) h s = absurd (clash h)
round_trip types.Name (Columns cs) h s = absurd (clash h)
round_trip types.Name (OneName b) h s = absurd (clash h)
round_trip types.CommonName (Number n) h s = absurd (clash h)
round_trip types.CommonName (Uid u) h s = absurd (clash h)
round_trip types.CommonName (Numbers r) h s = absurd (clash h)
round_trip types.CommonName (Expr es) h s = absurd (clash h)
round_trip types.CommonName (Columns cs) h s = absurd (clash h)
round_trip types.CommonName (OneName b) h s = absurd (clash h)
round_trip types.Secret (Number n) h s = absurd (clash h)
round_trip types.Secret (Uid u) h s = absurd (clash h)
round_trip types.Secret (Numbers r) h s = absurd (clash h)
round_trip types.Secret (Expr es) h s = absurd (clash h)
round_trip types.Secret (Columns cs) h s = absurd (clash h)
round_trip types.Secret (OneName b) h s = absurd (clash h)
round_trip types.Object (Number n) h s = absurd (clash h)
round_trip types.Object (Bytes b) h s = absurd (clash h)
round_trip types.Object (Numbers r) h s = absurd (clash h)
round_trip types.Object (Expr es) h s = absurd (clash h)
round_trip types.Object (Columns cs) h s = absurd (clash h)
round_trip types.Object (OneName b) h s = absurd (clash h)
round_trip types.Number (Bytes b) h s = absurd (clash h)
round_trip types.Number (Uid u) h s = absurd (clash h)
round_trip types.Number (Numbers r) h s = absurd (clash h)
round_trip types.Number (Expr es) h s = absurd (clash h)
round_trip types.Number (Columns cs) h s = absurd (clash h)
round_trip types.Number (OneName b) h s = absurd (clash h)
round_trip types.Flag (Bytes b) h s = absurd (clash h)
round_trip types.Flag (Uid u) h s = absurd (clash h)
round_trip types.Flag (Numbers r) h s = absurd (clash h)
round_trip types.Flag (Expr es) h s = absurd (clash h)
round_trip types.Flag (Columns cs) h s = absurd (clash h)
round_trip types.Flag (OneName b) h s = absurd (clash h)
round_trip types.Mechanism (Bytes b) h s = absurd (clash h)
round_trip types.Mechanism (Uid u) h s = absurd (clash h)
round_trip types.Mechanism (Numbers r) h s = absurd (clash h)
round_trip types.Mechanism (Expr es) h s = absurd (clash h)
round_trip types.Mechanism (Columns cs) h s = absurd (clash h)
round_trip types.Mechanism (OneName b) h s = absurd (clash h)
round_trip types.Resets (Number n) h s = absurd (clash h)
round_trip types.Resets (Bytes b) h s = absurd (clash h)
round_trip types.Resets (Uid u) h s = absurd (clash h)
round_trip types.Resets (Expr es) h s = absurd (clash h)
round_trip types.Resets (Columns cs) h s = absurd (clash h)
round_trip types.Resets (OneName b) h s = absurd (clash h)
round_trip types.PowerCycleResets (Number n) h s = absurd (clash h)
round_trip types.PowerCycleResets (Bytes b) h s = absurd (clash h)
round_trip types.PowerCycleResets (Uid u) h s = absurd (clash h)
round_trip types.PowerCycleResets (Expr es) h s = absurd (clash h)
round_trip types.PowerCycleResets (Columns cs) h s = absurd (clash h)
round_trip types.PowerCycleResets (OneName b) h s = absurd (clash h)
round_trip types.Expression (Number n) h s = absurd (clash h)
round_trip types.Expression (Bytes b) h s = absurd (clash h)
round_trip types.Expression (Uid u) h s = absurd (clash h)
round_trip types.Expression (Numbers r) h s = absurd (clash h)
round_trip types.Expression (Columns cs) h s = absurd (clash h)
round_trip types.Expression (OneName b) h s = absurd (clash h)
round_trip types.LongExpression (Number n) h s = absurd (clash h)
round_trip types.LongExpression (Bytes b) h s = absurd (clash h)
round_trip types.LongExpression (Uid u) h s = absurd (clash h)
round_trip types.LongExpression (Numbers r) h s = absurd (clash h)
round_trip types.LongExpression (Columns cs) h s = absurd (clash h)
round_trip types.LongExpression (OneName b) h s = absurd (clash h)
round_trip types.Columns (Number n) h s = absurd (clash h)
round_trip types.Columns (Bytes b) h s = absurd (clash h)
round_trip types.Columns (Uid u) h s = absurd (clash h)
round_trip types.Columns (Numbers r) h s = absurd (clash h)
round_trip types.Columns (Expr es) h s = absurd (clash h)
round_trip types.Columns (OneName b) h s = absurd (clash h)
round_trip types.OneName (Number n) h s = absurd (clash h)
round_trip types.OneName (Bytes b) h s = absurd (clash h)
round_trip types.OneName (Uid u) h s = absurd (clash h)
round_trip types.OneName (Numbers r) h s = absurd (clash h)
round_trip types.OneName (Expr es) h s = absurd (clash h)
round_trip types.OneName (Columns cs) h s = absurd (clash h)

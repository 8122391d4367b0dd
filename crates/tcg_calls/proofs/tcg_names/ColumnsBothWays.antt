-- No two columns of a table have one name: each pair of its list is found both ways.
use Rattle.std.proofs.Common.{◌≡◌, ℕ, ◌==◌, ◌&&◌, Bool, true, false, List, [], ◌∷◌, refl, ap, ◌∙◌, arith, Option, Some, None, inl, inr, if◌then◌else◌}
use Rattle.std.specs.List.{list_all}
use Rattle.std.specs.Str.{bytes_eq}
use Rattle.std.proofs.lemmas.Bool.{cases_Bool}
use Rattle.std.proofs.lemmas.Bool.Decides.{nat_tests}
use Rattle.std.proofs.lemmas.Slice.Eq.{bytes_eq-Decides}
use Rattle.sp_cells.specs.declared.names.Column.{Column}
use Rattle.sp_cells.specs.Names.{col, sp_info_table, sp_templates_table, method_id_table, template_table, secret_protect_table, sp_table, tper_info_table, c_pin_table, authority_table, ace_table, locking_table, mbr_control_table, locking_info_table, table_table, key_table, data_removal_table}
use Rattle.tcg_calls.specs.Columns.{NamedColumn, column_name_in, column_in, names_of_table, sp_info_names, sp_templates_names, method_id_names, template_names, secret_protect_names, sp_names, tper_info_names, c_pin_names, authority_names, ace_names, locking_names, mbr_control_names, locking_info_names, table_names, key_names, data_removal_names}
use Rattle.tcg_calls.specs.Laws.{ColumnNameLaw}

abbrev is_name : List ℕ → Option (List ℕ) → Bool
is_name name None = false
is_name name (Some its) = bytes_eq its name

abbrev is_column : Column → Option Column → Bool
is_column column None = false
is_column column (Some its) = its.0 == column.0

abbrev is_found : List NamedColumn → NamedColumn → Bool
is_found all e = is_name e.1 (column_name_in all e.0) && is_column e.0 (column_in all e.1)

abbrev AllFound : List NamedColumn → Type 0
AllFound all = list_all (is_found all) all ≡ true

pick : (b : Bool) (xs ys : List NamedColumn) → AllFound xs → AllFound ys → AllFound (if b then xs else ys)
pick true xs ys here there = here
pick false xs ys here there = there

all_found : (table : ℕ) → AllFound (names_of_table table)
unfolding sp_info_names sp_templates_names method_id_names template_names secret_protect_names sp_names tper_info_names c_pin_names authority_names ace_names locking_names mbr_control_names locking_info_names table_names key_names data_removal_names
all_found table =
    pick (table == sp_table) _ _ refl (
    pick (table == tper_info_table) _ _ refl (
    pick (table == c_pin_table) _ _ refl (
    pick (table == authority_table) _ _ refl (
    pick (table == ace_table) _ _ refl (
    pick (table == locking_table) _ _ refl (
    pick (table == mbr_control_table) _ _ refl (
    pick (table == locking_info_table) _ _ refl (
    pick (table == table_table) _ _ refl (
    pick (table == key_table) _ _ refl (
    pick (table == data_removal_table) _ _ refl (
    pick (table == sp_info_table) _ _ refl (
    pick (table == sp_templates_table) _ _ refl (
    pick (table == method_id_table) _ _ refl (
    pick (table == template_table) _ _ refl (
    pick (table == secret_protect_table) _ _ refl (
    refl))))))))))))))))

same_column : (u v : Column) → (u.0 == v.0) ≡ true → u ≡ v
same_column u v is = let e : u.0 ≡ v.0 = grind (arith, nat_tests, is) in ap col e

head : (p : NamedColumn → Bool) (e : NamedColumn) (es : List NamedColumn) → list_all p (e ∷ es) ≡ true → p e ≡ true
head p e es all = grind (arith, all)

rest : (p : NamedColumn → Bool) (e : NamedColumn) (es : List NamedColumn) → list_all p (e ∷ es) ≡ true → list_all p es ≡ true
rest p e es all = grind (arith, all)

name-passes : (p : NamedColumn → Bool) (es : List NamedColumn) (u : Column) (name : List ℕ) → list_all p es ≡ true → column_name_in es u ≡ Some name → p (u, name) ≡ true
name-passes p [] u name all there = cc there
name-passes p (e ∷ es) u name all there = elim (cases_Bool (e.0.0 == u.0)) [
  | inl same ↦ let its : e.1 ≡ name = here (rw same at there) in let who : e.0 ≡ u = same_column e.0 u same in
      ap p (pair who its) ∙ head p e es all
  | inr other ↦ name-passes p es u name (rest p e es all) (rw other at there)
] where
  here : {a b : List ℕ} → Some a ≡ Some b → a ≡ b
  here h = cc

  pair : {a u : Column} {b name : List ℕ} → a ≡ u → b ≡ name → ◌≡◌ {A = NamedColumn} (u, name) (a, b)
  pair h g = cc

column-passes : (p : NamedColumn → Bool) (es : List NamedColumn) (u : Column) (name : List ℕ) → list_all p es ≡ true → column_in es name ≡ Some u → p (u, name) ≡ true
column-passes p [] u name all there = cc there
column-passes p (e ∷ es) u name all there = elim (cases_Bool (bytes_eq e.1 name)) [
  | inl same ↦ let who : e.0 ≡ u = here (rw same at there) in let its : e.1 ≡ name = (bytes_eq-Decides e.1 name).0 same in
      ap p (pair who its) ∙ head p e es all
  | inr other ↦ column-passes p es u name (rest p e es all) (rw other at there)
] where
  here : {a b : Column} → Some a ≡ Some b → a ≡ b
  here h = cc

  pair : {a u : Column} {b name : List ℕ} → a ≡ u → b ≡ name → ◌≡◌ {A = NamedColumn} (u, name) (a, b)
  pair h g = cc

named_so : (name : List ℕ) (o : Option (List ℕ)) → is_name name o ≡ true → o ≡ Some name
named_so name None is = cc is
named_so name (Some its) is = ap Some ((bytes_eq-Decides its name).0 is)

column_so : (u : Column) (o : Option Column) → is_column u o ≡ true → o ≡ Some u
column_so u None is = cc is
column_so u (Some its) is = ap Some (same_column its u is)

left : (a b : Bool) → (a && b) ≡ true → a ≡ true
left true b h = refl
left false b h = cc h

right : (a b : Bool) → (a && b) ≡ true → b ≡ true
right true b h = h
right false b h = cc h

pub columns_both_ways : ColumnNameLaw
columns_both_ways table c name =
    let all = names_of_table table in (
      (λ named. column_so c (column_in all name) (right _ _ (name-passes (is_found all) all c name (all_found table) named))),
      (λ named. named_so name (column_name_in all c) (left _ _ (column-passes (is_found all) all c name (all_found table) named))),
    )

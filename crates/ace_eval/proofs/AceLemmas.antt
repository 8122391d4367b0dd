-- Which ACE is found.
use Rattle.basics.specs.declared.profile.Profile.{Profile}
use Rattle.std.proofs.Common.{◌≡◌, ◌||◌, Bool, true, false, cond, ◌⊎◌, inl, inr, List, [], ◌∷◌, Option, None, Some, refl, sym, ◌∙◌, ap, ◌↔◌, arith}
use Rattle.std.specs.Prelude.{filter, unwrap_or, is_some, Result, Ok, Err, IsOk, MatchResult, if◌then◌else◌}
use Rattle.std.proofs.lemmas.Bool.Decides.{nat_tests, eqb_tells}
use Rattle.sp_cells.specs.declared.names.Uid.{Uid}
use Rattle.sp_cells.specs.declared.names.Sp.{Sp}
use Rattle.sp_cells.specs.declared.names.Column.{Column}
use Rattle.sp_cells.specs.declared.cells.Cell.{Cell}
use Rattle.sp_cells.specs.declared.cells.Cell.TheVariants.{Number, Bytes, Uid as Object, Numbers, Expr, Columns, OneName}
use Rattle.sp_cells.specs.Names.{uid}
use Rattle.sp_cells.specs.ColumnNames.{boolean_expr_column}
use Rattle.sp_cells.specs.Flat.{LookUp}
use Rattle.ace_eval.specs.declared.aces.Missing.{Missing}
use Rattle.ace_eval.specs.Truth.{has}
use Rattle.ace_eval.specs.Aces.{HasAce, HoldsIn, holds_in, holds_at, names, naming, first_holding, acl_at, ace_of}
use Rattle.ace_eval.proofs.Evaluations.{satisfied-holds, holds-satisfied}

clash : false ≡ true → ⊥
clash h = cc

-- what is found is in the row, names the column and holds
pub found_in : (look : LookUp) (sp : Sp) (k : Option Column) (held row : List Uid) (u : Uid) → first_holding look sp held (filter (names look sp k) row) ≡ Some u → has row u ≡ true
found_in look sp k held [] u h = cc
found_in look sp k held (x ∷ xs) u h = grind (arith, nat_tests, found_in look sp k held xs u)

same_uid : {x u : Uid} → Some x ≡ Some u → x ≡ u
same_uid h = cc

-- the first ACE is found, or the search goes on
found_step : (look : LookUp) (sp : Sp) (k : Option Column) (held xs : List Uid) (x u : Uid) (b d : Bool) → names look sp k x ≡ b → holds_at look sp held x ≡ d → first_holding look sp held (cond b (x ∷ filter (names look sp k) xs) (filter (names look sp k) xs)) ≡ Some u → ((x ≡ u) × (b ≡ true) × (d ≡ true)) ⊎ (first_holding look sp held (filter (names look sp k) xs) ≡ Some u)
found_step look sp k held xs x u false d n t h = inr h
found_step look sp k held xs x u true true n t h = inl (same_uid (ap (λ e. if e then Some x else first_holding look sp held (filter (names look sp k) xs)) (sym t) ∙ h), refl, refl)
found_step look sp k held xs x u true false n t h = inr (ap (λ e. if e then Some x else first_holding look sp held (filter (names look sp k) xs)) (sym t) ∙ h)

pub found_names : (look : LookUp) (sp : Sp) (k : Option Column) (held row : List Uid) (u : Uid) → first_holding look sp held (filter (names look sp k) row) ≡ Some u → names look sp k u ≡ true
found_names look sp k held [] u h = cc
found_names look sp k held (x ∷ xs) u h = elim (found_step look sp k held xs x u (names look sp k x) (holds_at look sp held x) refl refl h) [ inl w ↦ ap (names look sp k) (sym w.0) ∙ w.1 | inr rest ↦ found_names look sp k held xs u rest ]

pub found_holds : (look : LookUp) (sp : Sp) (k : Option Column) (held row : List Uid) (u : Uid) → first_holding look sp held (filter (names look sp k) row) ≡ Some u → holds_at look sp held u ≡ true
found_holds look sp k held [] u h = cc
found_holds look sp k held (x ∷ xs) u h = elim (found_step look sp k held xs x u (names look sp k x) (holds_at look sp held x) refl refl h) [ inl w ↦ ap (holds_at look sp held) (sym w.0) ∙ w.2 | inr rest ↦ found_holds look sp k held xs u rest ]

-- an ACE that names the column and holds is not passed over
here_step : (look : LookUp) (sp : Sp) (k : Option Column) (held xs : List Uid) (x : Uid) → names look sp k x ≡ true → holds_at look sp held x ≡ true → is_some (first_holding look sp held (filter (names look sp k) (x ∷ xs))) ≡ true
here_step look sp k held xs x n t = ap (λ b. is_some (first_holding look sp held (cond b (x ∷ filter (names look sp k) xs) (filter (names look sp k) xs)))) n ∙ ap (λ e. is_some (if e then Some x else first_holding look sp held (filter (names look sp k) xs))) t

passed_step : (look : LookUp) (sp : Sp) (k : Option Column) (held xs : List Uid) (x : Uid) (b d : Bool) → names look sp k x ≡ b → holds_at look sp held x ≡ d → is_some (first_holding look sp held (filter (names look sp k) xs)) ≡ true → is_some (first_holding look sp held (cond b (x ∷ filter (names look sp k) xs) (filter (names look sp k) xs))) ≡ true
passed_step look sp k held xs x false d n t h = h
passed_step look sp k held xs x true true n t h = ap (λ e. is_some (if e then Some x else first_holding look sp held (filter (names look sp k) xs))) t
passed_step look sp k held xs x true false n t h = ap (λ e. is_some (if e then Some x else first_holding look sp held (filter (names look sp k) xs))) t ∙ h

pub not_passed : (look : LookUp) (sp : Sp) (k : Option Column) (held row : List Uid) (u : Uid) → has row u ≡ true → names look sp k u ≡ true → holds_at look sp held u ≡ true → is_some (first_holding look sp held (filter (names look sp k) row)) ≡ true
not_passed look sp k held [] u h n t = cc
not_passed look sp k held (x ∷ xs) u h n t = elim (eqb_tells x.0 u.0) [
  | inl same ↦ (let e : x ≡ u = ap uid same.1 in here_step look sp k held xs x (ap (names look sp k) e ∙ n) (ap (holds_at look sp held) e ∙ t))
  | inr apart ↦ passed_step look sp k held xs x (names look sp k x) (holds_at look sp held x) refl refl (not_passed look sp k held xs u (ap (λ b. b || has xs u) (sym apart.0) ∙ h) n t)
]

holds_cell : (held : List Uid) (c : Option Cell) → holds_in held c ≡ true → HoldsIn held c
holds_cell held None h = absurd (clash h)
holds_cell held (Some (Expr es)) h = satisfied-holds held es h
holds_cell held (Some (Number n)) h = absurd (clash h)
holds_cell held (Some (Bytes n)) h = absurd (clash h)
holds_cell held (Some (Object n)) h = absurd (clash h)
holds_cell held (Some (Numbers n)) h = absurd (clash h)
holds_cell held (Some (Columns n)) h = absurd (clash h)
holds_cell held (Some (OneName n)) h = absurd (clash h)

cell_holds : (held : List Uid) (c : Option Cell) → HoldsIn held c → holds_in held c ≡ true
cell_holds held None h = absurd h
cell_holds held (Some (Expr es)) h = holds-satisfied held es h
cell_holds held (Some (Number n)) h = absurd h
cell_holds held (Some (Bytes n)) h = absurd h
cell_holds held (Some (Object n)) h = absurd h
cell_holds held (Some (Numbers n)) h = absurd h
cell_holds held (Some (Columns n)) h = absurd h
cell_holds held (Some (OneName n)) h = absurd h

-- an ACE is found exactly where the column has one
pub some_ace : (profile : Profile) (look : LookUp) (sp : Sp) (o m : Uid) (k : Option Column) (held : List Uid) (u : Uid) → ace_of profile look sp o m k held ≡ Some u → HasAce profile look sp o m k held
some_ace profile look sp o m k held u h =
    let row : List Uid = unwrap_or (acl_at profile sp o m) [] in
    record { ace = u; in_row = found_in look sp k held row u h; named = found_names look sp k held row u h; holds = holds_cell held (look sp u boolean_expr_column) (found_holds look sp k held row u h) }

none_some : (o : Option Uid) → o ≡ None → is_some o ≡ true → ⊥
none_some None h g = clash g
none_some (Some u) h g = cc

pub no_ace : (profile : Profile) (look : LookUp) (sp : Sp) (o m : Uid) (k : Option Column) (held : List Uid) → ace_of profile look sp o m k held ≡ None → HasAce profile look sp o m k held → ⊥
no_ace profile look sp o m k held h e = none_some (ace_of profile look sp o m k held) h (not_passed look sp k held (unwrap_or (acl_at profile sp o m) []) e.ace e.in_row e.named (cell_holds held (look sp e.ace boolean_expr_column) e.holds))

-- what the call answers
pub allowed_by : (profile : Profile) (look : LookUp) (sp : Sp) (o m : Uid) (k : Option Column) (held : List Uid) (r : Result Uid Missing) → MatchResult r (λ u. ace_of profile look sp o m k held ≡ Some u) (λ missing. (ace_of profile look sp o m k held ≡ None) × (missing.row ≡ is_some (acl_at profile sp o m)) × (missing.need.items ≡ naming look sp k (acl_at profile sp o m))) → IsOk r ↔ HasAce profile look sp o m k held
allowed_by profile look sp o m k held (Ok u) h = ((λ i. some_ace profile look sp o m k held u h), (λ e. refl))
allowed_by profile look sp o m k held (Err missing) h = ((λ i. absurd (clash i)), (λ e. absurd (no_ace profile look sp o m k held h.0 e)))

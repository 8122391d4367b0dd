-- Who holds no authority fulfils no ACE.
use Rattle.std.proofs.Common.{◌≡◌, true, false, ◌&&◌, ◌||◌, [], Option, None, Some, refl, sym, ◌∙◌, ap}
use Rattle.basics.specs.declared.profile.Profile.{Profile}
use Rattle.sp_cells.specs.declared.names.Uid.{Uid}
use Rattle.sp_cells.specs.declared.names.Sp.{Sp}
use Rattle.sp_cells.specs.declared.names.Column.{Column}
use Rattle.sp_cells.specs.declared.cells.Cell.{Cell}
use Rattle.sp_cells.specs.declared.cells.Cell.TheVariants.{Number, Bytes, Uid as Object, Numbers, Expr, Columns, OneName}
use Rattle.sp_cells.specs.ColumnNames.{boolean_expr_column}
use Rattle.sp_cells.specs.Expressions.{ExpressionTree, leaf, both, either}
use Rattle.sp_cells.specs.Flat.{LookUp}
use Rattle.ace_eval.specs.Truth.{truth}
use Rattle.ace_eval.specs.Aces.{HasAce, HoldsIn}

untrue : (t : ExpressionTree) → truth [] t ≡ false
untrue (leaf a) = refl
untrue (both l r) = ap (λ b. b && truth [] r) (untrue l)
untrue (either l r) = ap (λ b. b || truth [] r) (untrue l) ∙ untrue r

clash : false ≡ true → ⊥
clash h = cc

no_cell : (c : Option Cell) → HoldsIn [] c → ⊥
no_cell None h = h
no_cell (Some (Expr es)) (t, w, e) = clash (sym (untrue t) ∙ e)
no_cell (Some (Number n)) h = h
no_cell (Some (Bytes n)) h = h
no_cell (Some (Object n)) h = h
no_cell (Some (Numbers n)) h = h
no_cell (Some (Columns n)) h = h
no_cell (Some (OneName n)) h = h

pub nobody_has_ace : (profile : Profile) (look : LookUp) (sp : Sp) (o m : Uid) (k : Option Column) → HasAce profile look sp o m k [] → ⊥
nobody_has_ace profile look sp o m k h = no_cell (look sp h.ace boolean_expr_column) h.holds

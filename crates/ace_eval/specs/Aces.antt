-- Which ACE allows a method (Core 2.01, section 5.3, tables AccessControl and ACE).
use Rattle.basics.specs.declared.profile.Profile.{Profile}
use Rattle.std.specs.Prelude.{◌≡◌, ◌==◌, Bool, true, false, List, [], ◌∷◌, Option, None, Some, unwrap_or, is_some, filter, Result, MatchResult, if◌then◌else◌}
use Rattle.std.specs.List.{list_any}
use Rattle.sp_cells.specs.declared.names.Uid.{Uid}
use Rattle.sp_cells.specs.declared.names.Sp.{Sp}
use Rattle.sp_cells.specs.declared.names.Column.{Column}
use Rattle.sp_cells.specs.declared.cells.Cell.{Cell}
use Rattle.sp_cells.specs.declared.cells.Cell.TheVariants.{Expr, Columns}
use Rattle.sp_cells.specs.ColumnNames.{boolean_expr_column, columns_column}
use Rattle.sp_cells.specs.Flat.{LookUp}
use Rattle.ace_eval.specs.declared.aces.Missing.{Missing}
use Rattle.ace_eval.specs.Access.{access_list, acl_in}
use Rattle.ace_eval.specs.Truth.{has, Holds}
use Rattle.ace_eval.specs.Evaluation.{is_satisfied}

-- these columns have this one; the empty list stands for all
abbrev pub has_column : List Column → Column → Bool
has_column [] k = true
has_column (c ∷ cs) k = list_any (λ x. x.0 == k.0) (c ∷ cs)

-- an ACE's Columns cell names a column
abbrev pub names_in : Option Cell → Column → Bool
names_in (Some (Columns cs)) k = has_column cs k
names_in _ k = false

-- an ACE names the column; any does where no column is asked for
abbrev pub names : LookUp → Sp → Option Column → Uid → Bool
names look sp None ace = true
names look sp (Some k) ace = names_in (look sp ace columns_column) k

-- an ACE's BooleanExpr cell holds
abbrev pub HoldsIn : List Uid → Option Cell → Type 0
HoldsIn held (Some (Expr elements)) = Holds held elements
HoldsIn held _ = ⊥

abbrev pub holds_in : List Uid → Option Cell → Bool
holds_in held (Some (Expr elements)) = is_satisfied held elements
holds_in held _ = false

abbrev pub holds_at : LookUp → Sp → List Uid → Uid → Bool
holds_at look sp held ace = holds_in held (look sp ace boolean_expr_column)

-- the ACEs of an ACL that name the column, in its order
abbrev pub naming : LookUp → Sp → Option Column → Option (List Uid) → List Uid
naming look sp k row = filter (names look sp k) (unwrap_or row [])

-- the first of these ACEs that holds
abbrev pub first_holding : LookUp → Sp → List Uid → List Uid → Option Uid
first_holding look sp held [] = None
first_holding look sp held (e ∷ es) =
    if holds_at look sp held e then Some e else first_holding look sp held es

-- the ACL of a method of an object, in a drive of this profile
abbrev pub acl_at : Profile → Sp → Uid → Uid → Option (List Uid)
acl_at profile sp object method = acl_in (access_list profile) sp object method

-- the ACE that allows the column: the first of the ACL that names it and holds
abbrev pub ace_of : Profile → LookUp → Sp → Uid → Uid → Option Column → List Uid
    → Option Uid
ace_of profile look sp object method k held =
    first_holding look sp held (naming look sp k (acl_at profile sp object method))

-- what is answered: the ACE that allows the column, or else whether the method is offered and the ACEs that name it
abbrev pub Answers : Profile → LookUp → Sp → Uid → Uid → Option Column → List Uid
    → Result Uid Missing → Type 0
Answers profile look sp object method k held result = MatchResult result
    (λ ace. ace_of profile look sp object method k held ≡ Some ace)
    (λ missing. (ace_of profile look sp object method k held ≡ None)
    × (missing.row ≡ is_some (acl_at profile sp object method))
    × (missing.need.items ≡ naming look sp k (acl_at profile sp object method)))

-- the column has an ACE: some ACE of the ACL names it, and its expression holds
pub record HasAce (profile : Profile) (look : LookUp) (sp : Sp) (object method : Uid)
    (k : Option Column) (held : List Uid) : Type 0 where
  pub ace : Uid
  pub in_row : has (unwrap_or (acl_at profile sp object method) []) ace ≡ true
  pub named : names look sp k ace ≡ true
  pub holds : HoldsIn held (look sp ace boolean_expr_column)

-- Authorities are asked by `has` alone: a set and a list of them give the same entries.
use Rattle.basics.specs.declared.profile.Profile.{Profile}
use Rattle.std.proofs.Common.{◌≡◌, ℕ, ◌&&◌, Bool, List, [], ◌∷◌, Option, Some, None, refl, ◌∙◌, ap, cond, option_and_then}
use Rattle.sp_cells.specs.declared.names.Uid.{Uid}
use Rattle.sp_cells.specs.declared.names.Sp.{Sp}
use Rattle.sp_cells.specs.declared.names.Column.{Column}
use Rattle.sp_cells.specs.declared.cells.Cell.{Cell}
use Rattle.sp_cells.specs.declared.cells.Cell.TheVariants.{Number, Bytes, Uid as Object, Numbers, Expr, Columns, OneName}
use Rattle.sp_cells.specs.declared.cells.Element.{Element}
use Rattle.sp_cells.specs.declared.cells.Element.TheVariants.{Authority, And, Or}
use Rattle.std.proofs.Math.Path.{fun_ext}
use Rattle.std.specs.Prelude.{is_some, map, filter}
use Rattle.std.specs.List.{flat_map}
use Rattle.tcg_tokens.specs.Tree.{list, trees_of}
use Rattle.tcg_calls.specs.declared.call_shapes.ask.Ask.{Ask}
use Rattle.tcg_calls.specs.declared.call_shapes.ask.Ask.TheVariants.{GetCells, GetBytes, SetCells, SetBytes, Authenticate, Activate, Revert, GenKey, RevertSp, Next, GetAcl, Other, Random}
use Rattle.std.specs.Option.{option_or}
use Rattle.methods.specs.Kinds.{kind_of}
use Rattle.methods.specs.Columns.{columns_of}
use Rattle.methods.specs.Effects.{ask_at}
use Rattle.methods.specs.Grants.{why_denied, unless_allowed, denial as denial_of, wanted, first_some}
use Rattle.methods.specs.Listed.{is_asked, shown_column, listed_among, listed, cell_value}
use Rattle.methods.specs.Judgement.{Standing, denial, gives, does_ask, does, unless_denied, judged}
use Rattle.sp_cells.specs.Names.{get}
use Rattle.sp_cells.specs.Flat.{LookUp}
use Rattle.sp_cells.specs.ColumnNames.{boolean_expr_column}
use Rattle.ace_eval.specs.Truth.{has}
use Rattle.ace_eval.specs.Evaluation.{step, run, is_true}
use Rattle.ace_eval.specs.Aces.{holds_in, holds_at, naming, first_holding, acl_at, ace_of}

abbrev pub SameHeld : List Uid → List Uid → Type 0
SameHeld held other = (a : Uid) → has other a ≡ has held a

step-alike : (held other : List Uid) → SameHeld held other → (e : Element) (s : List Bool) → step other e s ≡ step held e s
step-alike held other h (Authority a) s = ap (λ b. Some (b ∷ s)) (h a)
step-alike held other h And [] = refl
step-alike held other h And (r ∷ []) = refl
step-alike held other h And (r ∷ l ∷ s) = refl
step-alike held other h Or [] = refl
step-alike held other h Or (r ∷ []) = refl
step-alike held other h Or (r ∷ l ∷ s) = refl

run-alike : (held other : List Uid) → SameHeld held other → (es : List Element) (s : List Bool) → run other es s ≡ run held es s
run-alike held other h [] s = refl
run-alike held other h (e ∷ es) s = ap (option_and_then (run other es)) (step-alike held other h e s) ∙ by_step (step held e s) (run-alike held other h es)
  where
    by_step : (x : Option (List Bool)) → ((t : List Bool) → run other es t ≡ run held es t) → option_and_then (run other es) x ≡ option_and_then (run held es) x
    by_step None same = refl
    by_step (Some t) same = same t

holds_in-alike : (held other : List Uid) → SameHeld held other → (c : Option Cell) → holds_in other c ≡ holds_in held c
holds_in-alike held other h None = refl
holds_in-alike held other h (Some (Expr es)) = ap is_true (run-alike held other h es [])
holds_in-alike held other h (Some (Number n)) = refl
holds_in-alike held other h (Some (Bytes n)) = refl
holds_in-alike held other h (Some (Object n)) = refl
holds_in-alike held other h (Some (Numbers n)) = refl
holds_in-alike held other h (Some (Columns n)) = refl
holds_in-alike held other h (Some (OneName n)) = refl

first-alike : (look : LookUp) (sp : Sp) (held other : List Uid) → SameHeld held other → (es : List Uid) → first_holding look sp other es ≡ first_holding look sp held es
first-alike look sp held other h [] = refl
first-alike look sp held other h (e ∷ es) =
    ap (λ b. cond b (Some e) (first_holding look sp other es)) (holds_in-alike held other h (look sp e boolean_expr_column)) ∙ ap (cond (holds_at look sp held e) (Some e)) (first-alike look sp held other h es)

pub entry-alike : (profile : Profile) (look : LookUp) (sp : Sp) (object method : Uid) (k : Option Column) (held other : List Uid) → SameHeld held other → ace_of profile look sp object method k other ≡ ace_of profile look sp object method k held
entry-alike profile look sp object method k held other h = first-alike look sp held other h (naming look sp k (acl_at profile sp object method))

-- and so the same judgement
abbrev pub with_held : Standing → List Uid → Standing
with_held s other = record s { held = other }

denial-alike : (profile : Profile) (look : LookUp) (sp : Sp) (object method : Uid) (held other : List Uid) → SameHeld held other → (ks : List (Option Column))
    → first_some (map (denial_of profile look sp object method other) ks) ≡ first_some (map (denial_of profile look sp object method held) ks)
denial-alike profile look sp object method held other h [] = refl
denial-alike profile look sp object method held other h (k ∷ ks) =
    ap (λ x. option_or (unless_allowed x (why_denied look sp object method k (acl_at profile sp object method))) (first_some (map (denial_of profile look sp object method other) ks))) (entry-alike profile look sp object method k held other h)
    ∙ ap (option_or (denial_of profile look sp object method held k)) (denial-alike profile look sp object method held other h ks)

listed-alike : (profile : Profile) (look : LookUp) (sp : Sp) (object : Uid) (first last : ℕ) (held other : List Uid) → SameHeld held other → listed profile look sp object first last other ≡ listed profile look sp object first last held
unfolding listed_among
listed-alike profile look sp object first last held other h =
    ap (λ p. flat_map (λ k. shown_column k (look sp object k)) (filter p (columns_of (kind_of sp object)))) (fun_ext (λ k. ap (λ x. is_asked first last k && is_some x) (entry-alike profile look sp object get (Some k) held other h)))

done-alike : (s : Standing) (other : List Uid) → SameHeld s.held other → (object : Uid) (ask : Ask) → does_ask (with_held s other) object ask ≡ does_ask s object ask
done-alike s other h object (GetCells a b) = ap (λ values. gives s.room (list (trees_of (map cell_value values)) ∷ [])) (listed-alike s.profile s.rows s.sp object a b s.held other h)
done-alike s other h object (GetBytes a b) = refl
done-alike s other h object (SetCells values) = refl
done-alike s other h object (SetBytes a b) = refl
done-alike s other h object (Authenticate a b) = refl
done-alike s other h object Activate = refl
done-alike s other h object Revert = refl
done-alike s other h object GenKey = refl
done-alike s other h object (RevertSp keep) = refl
done-alike s other h object (Next after count) = refl
done-alike s other h object (GetAcl about what) = refl
done-alike s other h object (Random count) = refl
done-alike s other h object Other = refl

pub judged-alike : (s : Standing) (other : List Uid) → SameHeld s.held other → (object method : Uid) (ask : Option Ask) → judged (with_held s other) object method ask ≡ judged s object method ask
judged-alike s other h object method None = refl
judged-alike s other h object method (Some ask) =
    ap (λ d. unless_denied d (does (with_held s other) object ask)) (denial-alike s.profile s.rows s.sp object method s.held other h (wanted ask)) ∙ ap (unless_denied (denial s object method ask)) (done-alike s other h object (ask_at s.sp object ask))

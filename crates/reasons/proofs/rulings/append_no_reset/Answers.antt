use Rattle.std.proofs.Common.{◌≡◌, ◌∙◌, ◌++◌, ◌∷◌, [], ℕ, List, ap, codes, append_assoc}
use Rattle.sp_cells.specs.declared.names.Sp.TheVariants.{Admin}
use Rattle.sp_cells.specs.Names.{tper_info}
use Rattle.sp_cells.specs.ColumnNames.{programmatic_reset_enable_column}
use Rattle.reasons.specs.Remedies.{set_text}
use Rattle.reasons.specs.Rulings.{because_text, no_reset_words}
use Rattle.reasons.proofs.rulings.append_no_reset.Goals as goal

regrouped : (a b l s n : List ℕ) → a ++ b ++ l ++ s ++ n ≡ a ++ (b ++ l ++ s ++ n)
regrouped a b l s n = simp append_assoc

pub returns : goal.returns
returns g c =
    let before = c.args.text.now.items in
    let set = set_text (g.R.Rows.profile_of c.args.rows.now) (g.R.Rows.look_up c.args.rows.now) Admin tper_info programmatic_reset_enable_column 1 in
    c.in_ok-extend_from_slice-2.ensures.items
    ∙ ap (λ l. l ++ 10 ∷ [])
    (c.in_ok-append_set.ensures
    ∙ ap (λ l. l ++ set)
    (c.in_ok-extend_from_slice.ensures.items
    ∙ ap (λ l. l ++ codes "lifted by: ")
    (c.in_ok-append_because.ensures ∙ ap (λ w. before ++ because_text w) (c.deref.ensures.value ∙ c.in_ok-words.ensures))))
    ∙ regrouped before (because_text no_reset_words) (codes "lifted by: ") set (10 ∷ [])

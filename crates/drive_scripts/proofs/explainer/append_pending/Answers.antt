use Rattle.std.proofs.Common.{◌≡◌, ◌∙◌, ◌++◌, ◌∷◌, [], ℕ, List, Bool, sym, ap, codes, append_assoc}
use Rattle.sp_cells.specs.declared.names.Uid.{Uid}
use Rattle.reasons.specs.Called.{called_object}
use Rattle.reasons.specs.Remedies.{sp_object}
use Rattle.drive_scripts.specs.Explanations.{pending_text}
use Rattle.drive_scripts.proofs.explainer.append_pending.Goals as goal

regrouped : (a b l s n : List ℕ) → a ++ b ++ l ++ s ++ n ≡ a ++ (b ++ l ++ s ++ n)
regrouped a b l s n = simp append_assoc

pub returns-in_ok-extend_from_slice-3 : goal.returns-in_ok-extend_from_slice-3
returns-in_ok-extend_from_slice-3 c =
    let before = c.args.text.now.items in
    let first = codes "because a transaction is open on " in
    let later = codes ": its session sees what it set, and all do behind its commit" in
    let name = called_object (sp_object c.args.sp) in
    c.in_ok-extend_from_slice-3.ensures.items
    ∙ ap (λ (l : List ℕ). l ++ 10 ∷ [])
    (c.in_ok-extend_from_slice-2.ensures.items
    ∙ ap (λ (l : List ℕ). l ++ later)
    (c.in_ok-append_object_name.ensures
    ∙ ap (λ (u : Uid). c.extend_from_slice.new.self.items ++ called_object u) c.sp_object.ensures
    ∙ ap (λ (l : List ℕ). l ++ name) c.in_ok-extend_from_slice.ensures.items))
    ∙ regrouped before first name later (10 ∷ [])
    ∙ ap (λ (b : Bool). before ++ pending_text b c.args.sp) (sym c.if-is_open.true)

use Rattle.std.proofs.Common.{◌∙◌, ◌++◌, ℕ, List, Bool, ap}
use Rattle.drive_scripts.specs.Explanations.{pending_text}
use Rattle.drive_scripts.proofs.explainer.Explainer.pending_line.Goals as goal

pub returns : goal.returns
returns c = λ o acts agrees.
    c.in_ok-append_pending.ensures
    ∙ ap (λ (l : List ℕ). l ++ pending_text c.has_transaction.result c.args.sp) c.new-text.ensures.items
    ∙ ap (λ (b : Bool). pending_text b c.args.sp) (c.has_transaction.ensures.told o acts agrees)

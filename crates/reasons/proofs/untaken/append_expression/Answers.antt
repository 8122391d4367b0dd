use Rattle.std.proofs.Common.{List, ℕ, ◌++◌, ◌∙◌, ap, append_assoc}
use Rattle.std.specs.Prelude.{codes}
use Rattle.reasons.specs.Reasons.{worded_number}
use Rattle.reasons.proofs.untaken.append_expression.Goals as goal

pub returns : goal.returns
returns c =
    c.in_ok-extend_from_slice.ensures.items
    ∙ ap (λ (xs : List ℕ). xs ++ codes " elements") c.in_ok-append_number.ensures
    ∙ append_assoc c.args.words.now.items (worded_number (codes " is no expression of at most ") c.args.most) (codes " elements")

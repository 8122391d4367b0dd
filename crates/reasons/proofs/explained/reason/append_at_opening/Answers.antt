use Rattle.std.proofs.Common.{◌++◌, ◌∙◌, ap, codes, append_assoc}
use Rattle.reasons.specs.Reasons.{condition_text, onset_text}
use Rattle.reasons.proofs.explained.reason.append_at_opening.Goals as goal

pub returns : goal.returns
unfolding onset_text
returns c =
    c.in_ok-append_condition.ensures
    ∙ ap (λ l. l ++ condition_text c.args.condition) c.in_ok-extend_from_slice.ensures.items
    ∙ append_assoc c.args.text.now.items (codes "the opening: ") (condition_text c.args.condition)

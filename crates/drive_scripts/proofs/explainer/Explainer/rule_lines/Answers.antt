use Rattle.std.proofs.Common.{◌∙◌, ◌++◌, List, ℕ, ap}
use Rattle.history.specs.History.{log}
use Rattle.history.specs.Readers.{in_force}
use Rattle.reasons.specs.Lives.{life_of}
use Rattle.reasons.specs.Details.{details_text}
use Rattle.drive_scripts.specs.Explanations.{seen_after}
use Rattle.drive_scripts.proofs.explainer.Explainer.rule_lines.Goals as goal

pub returns : goal.returns
returns c = λ o past acts agrees kept.
    c.in_ok-extend_from_slice.ensures.items
    ∙ ap (λ (l : List ℕ). c.in_ok-text.text.items ++ l) (c.deref.ensures.value ∙ c.in_ok-details.ensures o past acts agrees kept)
    ∙ ap (λ (l : List ℕ). l ++ details_text c.args.counted (seen_after o acts c.args.payload.now) (life_of o past) c.args.payload.now c.args.rule)
    (c.in_ok-text.ensures o acts agrees)

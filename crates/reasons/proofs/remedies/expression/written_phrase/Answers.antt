use Rattle.std.proofs.Common.{◌≡◌, None, Some, [], option_map, sym, ap, ◌∙◌}
use Rattle.reasons.specs.Trees.{lone}
use Rattle.reasons.specs.Phrases.{wording_text, wordings_behind}
use Rattle.reasons.proofs.remedies.Wordings.{text_written, stops, ends}
use Rattle.reasons.proofs.remedies.expression.written_phrase.Goals as goal

pub returns-then-not-branch : goal.returns-then-not-branch
returns-then-not-branch c =
    let gone : wordings_behind c.args.elements.now [] ≡ None = stops _ _ _ _ c.loop-element-test.true c.loop-element.invariant (rw c.if-not-branch.true at c.in_ok-apply.ensures) in
    sym (ap (λ o. option_map wording_text (lone o)) gone) ∙ text_written c.args.elements.now

pub returns : goal.returns
returns c =
    let done : wordings_behind c.args.elements.now [] ≡ Some c.loop-element.waiting = ends _ _ _ c.loop-element-test.false c.loop-element.invariant in
    ap (option_map wording_text) (c.take_lone.ensures ∙ sym (ap lone done)) ∙ text_written c.args.elements.now

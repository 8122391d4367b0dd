use Rattle.std.proofs.Common.{◌≡◌, drop, []}
use Rattle.reasons.specs.Phrases.{wordings_behind}
use Rattle.reasons.proofs.remedies.expression.written_phrase.Given as goal

-- the rest runs as the whole does
abbrev pub invariant-loop-element : goal.invariant-loop-element
invariant-loop-element l = wordings_behind (drop l.element-index l.elements) l.waiting ≡ wordings_behind l.elements []

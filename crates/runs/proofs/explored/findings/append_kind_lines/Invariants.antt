use Rattle.std.proofs.Common.{◌≡◌, ◌++◌, ◌∷◌, [], drop}
use Rattle.std.specs.List.{flat_map}
use Rattle.runs.specs.Findings.{kind_text, answer_kinds}
use Rattle.runs.proofs.explored.findings.append_kind_lines.Given as goal

abbrev pub invariant-loop-line : goal.invariant-loop-line
invariant-loop-line l =
    l.text.items ++ flat_map (λ line. kind_text line ++ 10 ∷ []) (drop l.line-index l.line-items) ≡ l.fn.text.items ++ answer_kinds l.answer

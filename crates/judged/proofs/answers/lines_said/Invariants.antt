use Rattle.std.proofs.Common.{◌≡◌, ◌++◌, not, ◌||◌, drop}
use Rattle.std.specs.List.{filter}
use Rattle.judged.specs.Answers.{is_audit}
use Rattle.judged.proofs.answers.lines_said.Given as goal

abbrev pub invariant-loop-line : goal.invariant-loop-line
invariant-loop-line l =
    l.lines ++ filter (λ line. l.whole || not (is_audit line)) (drop l.line-index l.said) ≡ filter (λ line. l.whole || not (is_audit line)) l.said

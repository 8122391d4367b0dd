use Rattle.std.proofs.Common.{◌≡◌, ◌++◌, drop}
use Rattle.judged.specs.Judgements.{behind_commas}
use Rattle.judged.proofs.judging.append_joined.Given as goal

abbrev pub invariant-loop-line : goal.invariant-loop-line
invariant-loop-line l = l.text ++ behind_commas (drop l.line-index l.lines) ≡ l.fn.text ++ behind_commas l.lines

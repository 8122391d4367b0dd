use Rattle.std.proofs.Common.{◌≡◌, drop}
use Rattle.std.specs.List.{list_any}
use Rattle.judged.specs.Answers.{is_audit}
use Rattle.judged.proofs.answers.have_audit.Given as goal

abbrev pub invariant-loop-line : goal.invariant-loop-line
invariant-loop-line l = list_any is_audit (drop l.line-index l.lines) ≡ list_any is_audit l.lines

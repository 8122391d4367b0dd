use Rattle.std.proofs.Common.{◌≡◌, drop}
use Rattle.std.specs.List.{list_any}
use Rattle.std.specs.Str.{bytes_eq}
use Rattle.runs.proofs.explored.lines.Lines.has.Given as goal

abbrev pub invariant-loop-other : goal.invariant-loop-other
invariant-loop-other l =
    list_any (λ other. bytes_eq other l.line) (drop l.other-index l.other-items) ≡ list_any (λ other. bytes_eq other l.line) l.self

use Rattle.std.proofs.Common.{◌≡◌, ◌++◌, drop}
use Rattle.judged.specs.Shown.{shown_lines}
use Rattle.judged.proofs.shown.ShownSectors.lines.Given as goal

abbrev pub invariant-loop-line : goal.invariant-loop-line
invariant-loop-line l = l.made ++ drop l.line-index l.rest ≡ shown_lines l.self l.fn.first l.other l.lines

use Rattle.std.proofs.Common.{◌≡◌, drop}
use Rattle.std.specs.List.{list_any}
use Rattle.script_lines.specs.PortLines.{is_port_line}
use Rattle.runs.proofs.explored.script.has_port_line.Given as goal

abbrev pub invariant-loop-line : goal.invariant-loop-line
invariant-loop-line l = list_any is_port_line (drop l.line-index l.lines) ≡ list_any is_port_line l.lines

use Rattle.std.proofs.Common.{◌≡◌, drop}
use Rattle.std.specs.List.{fold}
use Rattle.runs.specs.Merges.{with_part_at}
use Rattle.runs.proofs.explored.findings.Findings.add_parts_at.Given as goal

abbrev pub invariant-loop-part : goal.invariant-loop-part
invariant-loop-part l = fold (with_part_at l.size) l.self (drop l.part-index l.parts) ≡ fold (with_part_at l.size) l.fn.self l.parts

use Rattle.std.proofs.Common.{◌≡◌, ◌+◌, ◌≤◌, length}
use Rattle.std.specs.List.{fold}
use Rattle.tool.specs.Scripts.{script_lines, with_numbers}
use Rattle.judged.specs.Transcripts.{line_added, nothing_read}
use Rattle.judged.proofs.reading.entries_of.Given as goal

abbrev pub invariant-loop-rest : goal.invariant-loop-rest
invariant-loop-rest l = (l.number + length l.rest ≤ length l.text)
    × (fold (line_added l.remarks) l.reading (with_numbers l.number (script_lines l.rest)) ≡ fold (line_added l.remarks) nothing_read (with_numbers 0 (script_lines l.text)))

abbrev pub decreases-loop-rest : goal.decreases-loop-rest
decreases-loop-rest l = length l.rest

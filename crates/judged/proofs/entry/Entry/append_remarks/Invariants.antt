use Rattle.std.proofs.Common.{◌≡◌, ◌++◌, drop}
use Rattle.std.specs.List.{flat_map}
use Rattle.judged.specs.Transcripts.{with_line_end, remarks_text}
use Rattle.judged.proofs.entry.Entry.append_remarks.Given as goal

abbrev pub invariant-loop-line : goal.invariant-loop-line
invariant-loop-line l =
    l.text ++ flat_map with_line_end (drop l.line-index l.self.behind) ≡ l.fn.text ++ remarks_text l.self

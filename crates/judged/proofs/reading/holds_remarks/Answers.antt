use Rattle.std.proofs.Common.{◌∙◌, ap, sym}
use Rattle.runs.proofs.WholeTexts.{no_lines}
use Rattle.judged.specs.Transcripts.{holds_remarks}
use Rattle.judged.proofs.reading.holds_remarks.Goals as goal

pub returns-then-is_empty : goal.returns-then-is_empty
returns-then-is_empty c =
    sym (ap holds_remarks (no_lines c.args.text.now (sym c.is_empty.ensures ∙ c.if-is_empty.true)))

use Rattle.std.proofs.lemmas.Result.{IfOk-weaker}
use Rattle.std.specs.Io.Buffered.{reader_remaining}
use Rattle.tool.proofs.Texts.{weaker}
use Rattle.runs.proofs.recorded.Whole.{opened-so}
use Rattle.runs.proofs.recorded.script.opened_lines.Goals as goal

pub returns : goal.returns
returns g c =
    IfOk-weaker c.running_lines.result _ _
    (λ end ends. λ o course runs.
    weaker (reader_remaining g.R.Read.remaining c.args.reader.now) _ _
    (λ text leads. opened-so o course _ _ _ _ _ c.args.report.now.last.items _ _ _ _ c.requires.last
    (c.in_ok-record_opening.ensures o course runs) leads)
    (ends o course runs))
    c.running_lines.ensures

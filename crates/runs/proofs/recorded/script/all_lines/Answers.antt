use Rattle.std.proofs.Common.{◌≡◌, ◌∙◌, IfSome, ap, subst}
use Rattle.std.proofs.lemmas.Result.{IfOk-weaker}
use Rattle.std.specs.Io.Buffered.{reader_remaining}
use Rattle.tool.specs.Scripts.{bare, lines_from, TakesLine}
use Rattle.runs.specs.Progress.{FrontStands}
use Rattle.runs.proofs.recorded.Whole.{no-line, first-leads, script-ends, script-runs}
use Rattle.runs.proofs.recorded.script.all_lines.Goals as goal

pub remaining_lines-requires-clause-stands : goal.remaining_lines-requires-clause-stands
remaining_lines-requires-clause-stands g c = subst FrontStands c.in-Runs.is c.in_ok-end.ensures.stands

pub returns-then-not-branch : goal.returns-then-not-branch
returns-then-not-branch g c =
    let old = reader_remaining g.R.Read.remaining c.args.reader.now in
    let now = reader_remaining g.R.Read.remaining c.read_line.new.reader in
    no-line c.args.explains c.args.options.now c.read_line.new.line.items old now _ _ _
    (subst (λ b. IfSome old (λ text. TakesLine b c.read_line.new.line.items text now)) c.if-not-branch.true c.in_ok-read_line.ensures.line)

pub returns-in-Ended : goal.returns-in-Ended
returns-in-Ended g c =
    let old = reader_remaining g.R.Read.remaining c.args.reader.now in
    let now = reader_remaining g.R.Read.remaining c.read_line.new.reader in
    let line = c.read_line.new.line.items in
    let left = reader_remaining g.R.Read.remaining c.front_lines.new.reader in
    let takes = subst (λ b. IfSome old (λ text. TakesLine b line text now)) c.if-not-branch.false c.in_ok-read_line.ensures.line in
    let shown : c.without_end.result.now ≡ bare line = c.without_end.ensures ∙ ap bare c.deref.ensures.value in
    script-ends c.args.explains c.may_hold_remarks-remarks.result c.args.options.now c.in_ok-end.field-0
    c.in-Ended.end c.front_lines.new.line.items old left (g.W.Write.contents c.args.output.now)
    c.args.report.now.pending.items (λ base came. g.K.Recorder.holds base c.args.recorder.now came) c.in-Ended.is
    (first-leads c.args.explains c.args.options.now c.in_ok-end.field-0 c.may_hold_remarks-remarks.result line
    c.without_end.result.now c.front_lines.new.line.items old now left takes shown
    c.may_hold_remarks-remarks.ensures c.in_ok-end.ensures.leads)

pub returns-in-Runs : goal.returns-in-Runs
returns-in-Runs g c =
    let old = reader_remaining g.R.Read.remaining c.args.reader.now in
    let now = reader_remaining g.R.Read.remaining c.read_line.new.reader in
    let line = c.read_line.new.line.items in
    let left = reader_remaining g.R.Read.remaining c.front_lines.new.reader in
    let takes = subst (λ b. IfSome old (λ text. TakesLine b line text now)) c.if-not-branch.false c.in_ok-read_line.ensures.line in
    let shown : c.without_end.result.now ≡ bare line = c.without_end.ensures ∙ ap bare c.deref.ensures.value in
    IfOk-weaker c.remaining_lines.result _ _
    (λ end ends.
    script-runs c.args.explains c.may_hold_remarks-remarks.result c.args.options.now c.in-Runs.lines
    c.in_ok-end.field-0 c.in-Runs.run' end c.front_lines.new.line.items old left
    (g.W.Write.contents c.args.output.now) (g.W.Write.contents c.remaining_lines.new.output)
    c.args.report.now c.remaining_lines.new.report
    (λ base came. g.K.Recorder.holds base c.args.recorder.now came)
    (λ base came. g.K.Recorder.holds base c.remaining_lines.new.recorder came) c.in-Runs.is
    (first-leads c.args.explains c.args.options.now c.in_ok-end.field-0 c.may_hold_remarks-remarks.result line
    c.without_end.result.now c.front_lines.new.line.items old now left takes shown
    c.may_hold_remarks-remarks.ensures c.in_ok-end.ensures.leads) ends)
    c.remaining_lines.ensures

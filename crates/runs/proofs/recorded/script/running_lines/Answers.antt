use Rattle.std.proofs.Common.{◌≡◌, ◌+◌, IfSome, subst, ap, ◌∙◌}
use Rattle.std.specs.Io.Buffered.{reader_remaining}
use Rattle.tool.specs.Scripts.{bare, lines_from, TakesLine}
use Rattle.tool.proofs.Outcomes.{stands-so}
use Rattle.tool.proofs.Texts.{weaker}
use Rattle.runs.specs.Recordings.{recording_on}
use Rattle.runs.specs.Progress.{line_at}
use Rattle.runs.proofs.recorded.Running.{TurnLeads, at-first, turned, handed-on, next-at-hand, none-at-hand}
use Rattle.runs.proofs.recorded.script.running_lines.Goals as goal

pub returns-in-ExpectationFailed : goal.returns-in-ExpectationFailed
returns-in-ExpectationFailed g c = λ o course runs.
    let left = reader_remaining g.R.Read.remaining c.loop-before.reader in
    let shown : c.without_end-text.result.now ≡ bare c.loop-before.line.items = c.without_end-text.ensures ∙ ap bare c.deref.ensures.value in
    weaker (reader_remaining g.R.Read.remaining c.args.reader.now) _ _
    (λ text at.
    subst
    (λ turn. TurnLeads c.args.remarks c.loop-before.before turn
    (recording_on o course c.args.report.now.last.items (lines_from c.args.remarks c.args.lines c.args.line.now.items text)) o
    c.turn.new.run c.turn.new.report left (g.W.Write.contents c.args.output.now)
    (g.W.Write.contents c.loop-before.output) c.args.report.now.pending.items
    (λ base came. g.K.Recorder.holds base c.args.recorder.now came)
    (λ base came. g.K.Recorder.holds base c.turn.new.recorder came))
    c.in-ExpectationFailed.is
    (turned c.args.remarks c.loop-before.before _ _ o c.loop-before.run c.turn.new.run c.loop-before.report
    c.turn.new.report c.loop-before.line.items c.without_end-text.result.now left _ _ _ _ _ _ shown
    c.in_ok-aborted.ensures.steps c.in_ok-aborted.ensures.keeps at))
    (c.loop-before.invariant.1 o course runs)

pub returns-in-Bad : goal.returns-in-Bad
returns-in-Bad g c = λ o course runs.
    let left = reader_remaining g.R.Read.remaining c.loop-before.reader in
    let shown : c.without_end-text.result.now ≡ bare c.loop-before.line.items = c.without_end-text.ensures ∙ ap bare c.deref.ensures.value in
    weaker (reader_remaining g.R.Read.remaining c.args.reader.now) _ _
    (λ text at.
    subst
    (λ turn. TurnLeads c.args.remarks c.loop-before.before turn
    (recording_on o course c.args.report.now.last.items (lines_from c.args.remarks c.args.lines c.args.line.now.items text)) o
    c.turn.new.run c.turn.new.report left (g.W.Write.contents c.args.output.now)
    (g.W.Write.contents c.loop-before.output) c.args.report.now.pending.items
    (λ base came. g.K.Recorder.holds base c.args.recorder.now came)
    (λ base came. g.K.Recorder.holds base c.turn.new.recorder came))
    c.in-Bad.is
    (turned c.args.remarks c.loop-before.before _ _ o c.loop-before.run c.turn.new.run c.loop-before.report
    c.turn.new.report c.loop-before.line.items c.without_end-text.result.now left _ _ _ _ _ _ shown
    c.in_ok-aborted.ensures.steps c.in_ok-aborted.ensures.keeps at))
    (c.loop-before.invariant.1 o course runs)

pub returns-then-not-branch : goal.returns-then-not-branch
returns-then-not-branch g c = λ o course runs.
    let now = reader_remaining g.R.Read.remaining c.loop-before.reader in
    let after = reader_remaining g.R.Read.remaining c.read_line.new.reader in
    let takes = subst (λ b. IfSome now (λ text. TakesLine b c.read_line.new.line.items text after)) c.if-not-branch.true c.in_ok-read_line.ensures.line in
    let shown : c.without_end-text.result.now ≡ bare c.loop-before.line.items = c.without_end-text.ensures ∙ ap bare c.deref.ensures.value in
    weaker (reader_remaining g.R.Read.remaining c.args.reader.now) _ _
    (λ text at.
    let whole = recording_on o course c.args.report.now.last.items (lines_from c.args.remarks c.args.lines c.args.line.now.items text) in
    let goes =
    subst
    (λ turn. TurnLeads c.args.remarks c.loop-before.before turn whole o
    c.turn.new.run c.turn.new.report now (g.W.Write.contents c.args.output.now)
    (g.W.Write.contents c.loop-before.output) c.args.report.now.pending.items
    (λ base came. g.K.Recorder.holds base c.args.recorder.now came)
    (λ base came. g.K.Recorder.holds base c.turn.new.recorder came))
    c.in-Goes.is
    (turned c.args.remarks c.loop-before.before _ whole o c.loop-before.run c.turn.new.run c.loop-before.report
    c.turn.new.report c.loop-before.line.items c.without_end-text.result.now now _ _ _ _ _ _ shown
    c.in_ok-aborted.ensures.steps c.in_ok-aborted.ensures.keeps at) in
    none-at-hand c.args.remarks c.loop-before.before whole o c.turn.new.run c.hand_on.new.report.last.items c.read_line.new.line.items now after (g.W.Write.contents c.args.output.now) (g.W.Write.contents c.hand_on.new.output) _ _ _ _
    (handed-on c.args.remarks c.loop-before.before whole o c.turn.new.run _ _ now _ _ _ _ _ _ _ _ _ goes (ap (λ last. last.items) c.hand_on.ensures.last) c.in_ok-at_hand.ensures.written c.in_ok-at_hand.ensures.keeps) takes)
    (c.loop-before.invariant.1 o course runs)

pub loop-before-preserved : goal.loop-before-preserved
loop-before-preserved g c = (
  stands-so c.args.remarks _ _ c.loop-before.run c.turn.new.run
      c.loop-before.report.last.items (line_at (c.loop-before.before + 1) c.without_end-text.result.now) c.loop-before.report c.turn.new.report c.in-Goes.is
      c.loop-before.invariant.0 c.in_ok-aborted.ensures.steps,
  λ o course runs.
      let now = reader_remaining g.R.Read.remaining c.loop-before.reader in
      let after = reader_remaining g.R.Read.remaining c.read_line.new.reader in
      let takes = subst (λ b. IfSome now (λ text. TakesLine b c.read_line.new.line.items text after)) c.if-not-branch.false c.in_ok-read_line.ensures.line in
      let shown : c.without_end-text.result.now ≡ bare c.loop-before.line.items = c.without_end-text.ensures ∙ ap bare c.deref.ensures.value in
      weaker (reader_remaining g.R.Read.remaining c.args.reader.now) _ _
      (λ text at.
      let whole = recording_on o course c.args.report.now.last.items (lines_from c.args.remarks c.args.lines c.args.line.now.items text) in
      let goes =
      subst
      (λ turn. TurnLeads c.args.remarks c.loop-before.before turn whole o
      c.turn.new.run c.turn.new.report now (g.W.Write.contents c.args.output.now)
      (g.W.Write.contents c.loop-before.output) c.args.report.now.pending.items
      (λ base came. g.K.Recorder.holds base c.args.recorder.now came)
      (λ base came. g.K.Recorder.holds base c.turn.new.recorder came))
      c.in-Goes.is
      (turned c.args.remarks c.loop-before.before _ whole o c.loop-before.run c.turn.new.run c.loop-before.report
      c.turn.new.report c.loop-before.line.items c.without_end-text.result.now now _ _ _ _ _ _ shown
      c.in_ok-aborted.ensures.steps c.in_ok-aborted.ensures.keeps at) in
      next-at-hand c.args.remarks c.loop-before.before whole o c.turn.new.run c.hand_on.new.report.last.items c.read_line.new.line.items now after (g.W.Write.contents c.args.output.now) (g.W.Write.contents c.hand_on.new.output) _ _ _ _
      (handed-on c.args.remarks c.loop-before.before whole o c.turn.new.run _ _ now _ _ _ _ _ _ _ _ _ goes (ap (λ last. last.items) c.hand_on.ensures.last) c.in_ok-at_hand.ensures.written c.in_ok-at_hand.ensures.keeps) takes)
      (c.loop-before.invariant.1 o course runs),
)

pub loop-before-init : goal.loop-before-init
loop-before-init g c = (
  c.requires,
  λ o course runs. at-first c.args.remarks c.args.lines (reader_remaining g.R.Read.remaining c.args.reader.now) o course c.args.run.now c.args.report.now.last.items c.args.line.now.items (g.W.Write.contents c.args.output.now) c.args.report.now.pending.items (λ base came. g.K.Recorder.holds base c.args.recorder.now came) runs,
)

use Rattle.std.proofs.Common.{◌≡◌, ◌+◌, IfSome, subst, ap, ◌∙◌}
use Rattle.std.specs.Io.Buffered.{reader_remaining}
use Rattle.tool.specs.Scripts.{bare, lines_from, TakesLine}
use Rattle.tool.specs.Outcomes.{outcome_on}
use Rattle.tool.proofs.Texts.{weaker}
use Rattle.tool.proofs.Outcomes.{TurnLeads, at-first, stands-so, turned, handed-on, next-at-hand, none-at-hand}
use Rattle.tool.proofs.script.running_lines.Goals as goal

pub returns-in-ExpectationFailed : goal.returns-in-ExpectationFailed
returns-in-ExpectationFailed g c = λ o course runs.
    let left = reader_remaining g.R.Read.remaining c.loop-number.reader in
    let shown : c.without_end.result.now ≡ bare c.loop-number.line.items = c.without_end.ensures ∙ ap bare c.deref.ensures.value in
    weaker (reader_remaining g.R.Read.remaining c.args.reader.now) _ _
    (λ text at.
    subst
    (λ turn. TurnLeads c.args.head.remarks (c.loop-number.number + 1) turn
    (outcome_on o course c.args.report.now.last.items (lines_from c.args.head.remarks c.args.head.lines c.args.line.now.items text)) o
    c.turn_or_skip.new.self c.turn_or_skip.new.report left (g.W.Write.contents c.args.output.now)
    (g.W.Write.contents c.loop-number.output) c.args.report.now.pending.items)
    c.in-ExpectationFailed.is
    (turned c.args.head.remarks c.loop-number.number _ _ o c.loop-number.run c.turn_or_skip.new.self c.loop-number.report
    c.turn_or_skip.new.report c.loop-number.line.items c.without_end.result.now left _ _ _ shown
    c.in_ok-aborted.ensures.steps at))
    (c.loop-number.invariant.1 o course runs)

pub returns-in-Bad : goal.returns-in-Bad
returns-in-Bad g c = λ o course runs.
    let left = reader_remaining g.R.Read.remaining c.loop-number.reader in
    let shown : c.without_end.result.now ≡ bare c.loop-number.line.items = c.without_end.ensures ∙ ap bare c.deref.ensures.value in
    weaker (reader_remaining g.R.Read.remaining c.args.reader.now) _ _
    (λ text at.
    subst
    (λ turn. TurnLeads c.args.head.remarks (c.loop-number.number + 1) turn
    (outcome_on o course c.args.report.now.last.items (lines_from c.args.head.remarks c.args.head.lines c.args.line.now.items text)) o
    c.turn_or_skip.new.self c.turn_or_skip.new.report left (g.W.Write.contents c.args.output.now)
    (g.W.Write.contents c.loop-number.output) c.args.report.now.pending.items)
    c.in-Bad.is
    (turned c.args.head.remarks c.loop-number.number _ _ o c.loop-number.run c.turn_or_skip.new.self c.loop-number.report
    c.turn_or_skip.new.report c.loop-number.line.items c.without_end.result.now left _ _ _ shown
    c.in_ok-aborted.ensures.steps at))
    (c.loop-number.invariant.1 o course runs)

pub returns-then-not-branch : goal.returns-then-not-branch
returns-then-not-branch g c = λ o course runs.
    let now = reader_remaining g.R.Read.remaining c.loop-number.reader in
    let after = reader_remaining g.R.Read.remaining c.read_line.new.reader in
    let takes = subst (λ b. IfSome now (λ text. TakesLine b c.read_line.new.line.items text after)) c.if-not-branch.true c.in_ok-read_line.ensures.line in
    let shown : c.without_end.result.now ≡ bare c.loop-number.line.items = c.without_end.ensures ∙ ap bare c.deref.ensures.value in
    weaker (reader_remaining g.R.Read.remaining c.args.reader.now) _ _
    (λ text at.
    let whole = outcome_on o course c.args.report.now.last.items (lines_from c.args.head.remarks c.args.head.lines c.args.line.now.items text) in
    let goes =
    subst
    (λ turn. TurnLeads c.args.head.remarks (c.loop-number.number + 1) turn whole o
    c.turn_or_skip.new.self c.turn_or_skip.new.report now (g.W.Write.contents c.args.output.now)
    (g.W.Write.contents c.loop-number.output) c.args.report.now.pending.items)
    c.in-Goes.is
    (turned c.args.head.remarks c.loop-number.number _ whole o c.loop-number.run c.turn_or_skip.new.self c.loop-number.report
    c.turn_or_skip.new.report c.loop-number.line.items c.without_end.result.now now _ _ _ shown
    c.in_ok-aborted.ensures.steps at) in
    none-at-hand c.args.head.remarks (c.loop-number.number + 1) whole o c.turn_or_skip.new.self c.answer.new.report.last.items c.read_line.new.line.items now after (g.W.Write.contents c.args.output.now) (g.W.Write.contents c.answer.new.output) _ _
    (handed-on c.args.head.remarks (c.loop-number.number + 1) whole o c.turn_or_skip.new.self _ _ now _ _ _ _ _ _ goes (ap (λ last. last.items) c.answer.ensures.last) c.in_ok-at_hand.ensures.written) takes)
    (c.loop-number.invariant.1 o course runs)

pub loop-number-preserved : goal.loop-number-preserved
loop-number-preserved g c = (
  stands-so c.args.head.remarks _ _ c.loop-number.run c.turn_or_skip.new.self
      c.loop-number.report.last.items
      (record { number = c.loop-number.number + 1; text = c.without_end.result.now })
      c.loop-number.report c.turn_or_skip.new.report c.in-Goes.is
      c.loop-number.invariant.0 c.in_ok-aborted.ensures.steps,
  λ o course runs.
      let now = reader_remaining g.R.Read.remaining c.loop-number.reader in
      let after = reader_remaining g.R.Read.remaining c.read_line.new.reader in
      let takes = subst (λ b. IfSome now (λ text. TakesLine b c.read_line.new.line.items text after)) c.if-not-branch.false c.in_ok-read_line.ensures.line in
      let shown : c.without_end.result.now ≡ bare c.loop-number.line.items = c.without_end.ensures ∙ ap bare c.deref.ensures.value in
      weaker (reader_remaining g.R.Read.remaining c.args.reader.now) _ _
      (λ text at.
      let whole = outcome_on o course c.args.report.now.last.items (lines_from c.args.head.remarks c.args.head.lines c.args.line.now.items text) in
      let goes =
      subst
      (λ turn. TurnLeads c.args.head.remarks (c.loop-number.number + 1) turn whole o
      c.turn_or_skip.new.self c.turn_or_skip.new.report now (g.W.Write.contents c.args.output.now)
      (g.W.Write.contents c.loop-number.output) c.args.report.now.pending.items)
      c.in-Goes.is
      (turned c.args.head.remarks c.loop-number.number _ whole o c.loop-number.run c.turn_or_skip.new.self c.loop-number.report
      c.turn_or_skip.new.report c.loop-number.line.items c.without_end.result.now now _ _ _ shown
      c.in_ok-aborted.ensures.steps at) in
      next-at-hand c.args.head.remarks (c.loop-number.number + 1) whole o c.turn_or_skip.new.self c.answer.new.report.last.items c.read_line.new.line.items now after (g.W.Write.contents c.args.output.now) (g.W.Write.contents c.answer.new.output) _ _
      (handed-on c.args.head.remarks (c.loop-number.number + 1) whole o c.turn_or_skip.new.self _ _ now _ _ _ _ _ _ goes (ap (λ last. last.items) c.answer.ensures.last) c.in_ok-at_hand.ensures.written) takes)
      (c.loop-number.invariant.1 o course runs),
)

pub loop-number-init : goal.loop-number-init
loop-number-init g c = (
  c.requires,
  λ o course runs. at-first c.args.head.remarks c.args.head.lines (reader_remaining g.R.Read.remaining c.args.reader.now) o course c.args.run.now c.args.report.now.last.items c.args.line.now.items (g.W.Write.contents c.args.output.now) c.args.report.now.pending.items runs,
)

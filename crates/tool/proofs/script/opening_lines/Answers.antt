use Rattle.std.proofs.Common.{◌≡◌, ◌+◌, IfSome, subst, sym, ap, ◌∙◌}
use Rattle.std.specs.Io.Buffered.{reader_remaining}
use Rattle.tool.specs.Scripts.{bare, lines_from, TakesLine}
use Rattle.tool.specs.Openings.{opens_with}
use Rattle.tool.specs.Outcomes.{outcome_from}
use Rattle.tool.proofs.Texts.{weaker}
use Rattle.tool.proofs.Outcomes.{OpeningLeads, StillOpens, opens-all, opening-turned, next-opens, nothing-opens}
use Rattle.tool.proofs.script.opening_lines.Goals as goal

pub returns-in-Runs-clause-leads : goal.returns-in-Runs-clause-leads
returns-in-Runs-clause-leads g c =
    let left = reader_remaining g.R.Read.remaining c.loop-number.reader in
    let line = c.loop-number.line.items in
    let shown : c.without_end.result.now ≡ bare line = c.without_end.ensures ∙ ap bare c.deref.ensures.value in
    weaker (reader_remaining g.R.Read.remaining c.args.reader.now) _ _
    (λ text opens.
    subst
    (λ turn. OpeningLeads c.args.head c.loop-number.number turn
    (outcome_from c.args.head.explains c.args.head.kind (opens_with c.args.options.now)
    (lines_from c.args.head.remarks c.args.head.lines c.args.line.now.items text)) line left)
    c.in-Runs.is
    (opening-turned c.args.head c.loop-number.number c.in_ok-next.field-0 _ c.loop-number.phase line c.without_end.result.now left shown opens
    c.in_ok-next.ensures.skips c.in_ok-next.ensures.does c.in_ok-next.ensures.bad_line))
    c.loop-number.invariant

pub returns-in-Bad-clause-leads : goal.returns-in-Bad-clause-leads
returns-in-Bad-clause-leads g c =
    let left = reader_remaining g.R.Read.remaining c.loop-number.reader in
    let line = c.loop-number.line.items in
    let shown : c.without_end.result.now ≡ bare line = c.without_end.ensures ∙ ap bare c.deref.ensures.value in
    weaker (reader_remaining g.R.Read.remaining c.args.reader.now) _ _
    (λ text opens.
    subst
    (λ turn. OpeningLeads c.args.head c.loop-number.number turn
    (outcome_from c.args.head.explains c.args.head.kind (opens_with c.args.options.now)
    (lines_from c.args.head.remarks c.args.head.lines c.args.line.now.items text)) line left)
    c.in-Bad.is
    (opening-turned c.args.head c.loop-number.number c.in_ok-next.field-0 _ c.loop-number.phase line c.without_end.result.now left shown opens
    c.in_ok-next.ensures.skips c.in_ok-next.ensures.does c.in_ok-next.ensures.bad_line))
    c.loop-number.invariant

pub returns-then-not-branch-clause-leads : goal.returns-then-not-branch-clause-leads
returns-then-not-branch-clause-leads g c =
    let left = reader_remaining g.R.Read.remaining c.loop-number.reader in
    let line = c.loop-number.line.items in
    let shown : c.without_end.result.now ≡ bare line = c.without_end.ensures ∙ ap bare c.deref.ensures.value in
    let later = reader_remaining g.R.Read.remaining c.read_line.new.reader in
    let takes = subst (λ b. IfSome left (λ text. TakesLine b c.read_line.new.line.items text later)) c.if-not-branch.true c.in_ok-read_line.ensures.line in
    weaker (reader_remaining g.R.Read.remaining c.args.reader.now) _ _
    (λ text opens. nothing-opens c.args.head (c.loop-number.number + 1) _ c.in-Goes.next c.read_line.new.line.items left later
    (subst
    (λ turn. OpeningLeads c.args.head c.loop-number.number turn
    (outcome_from c.args.head.explains c.args.head.kind (opens_with c.args.options.now)
    (lines_from c.args.head.remarks c.args.head.lines c.args.line.now.items text)) line left)
    c.in-Goes.is
    (opening-turned c.args.head c.loop-number.number c.in_ok-next.field-0 _ c.loop-number.phase line c.without_end.result.now left shown opens
    c.in_ok-next.ensures.skips c.in_ok-next.ensures.does c.in_ok-next.ensures.bad_line)) takes)
    c.loop-number.invariant

pub loop-number-preserved : goal.loop-number-preserved
loop-number-preserved g c =
    let left = reader_remaining g.R.Read.remaining c.loop-number.reader in
    let line = c.loop-number.line.items in
    let shown : c.without_end.result.now ≡ bare line = c.without_end.ensures ∙ ap bare c.deref.ensures.value in
    let later = reader_remaining g.R.Read.remaining c.read_line.new.reader in
    let takes = subst (λ b. IfSome left (λ text. TakesLine b c.read_line.new.line.items text later)) c.if-not-branch.false c.in_ok-read_line.ensures.line in
    weaker (reader_remaining g.R.Read.remaining c.args.reader.now) _ _
    (λ text opens. next-opens c.args.head (c.loop-number.number + 1) _ c.in-Goes.next c.read_line.new.line.items left later
    (subst
    (λ turn. OpeningLeads c.args.head c.loop-number.number turn
    (outcome_from c.args.head.explains c.args.head.kind (opens_with c.args.options.now)
    (lines_from c.args.head.remarks c.args.head.lines c.args.line.now.items text)) line left)
    c.in-Goes.is
    (opening-turned c.args.head c.loop-number.number c.in_ok-next.field-0 _ c.loop-number.phase line c.without_end.result.now left shown opens
    c.in_ok-next.ensures.skips c.in_ok-next.ensures.does c.in_ok-next.ensures.bad_line)) takes)
    c.loop-number.invariant

pub loop-number-init : goal.loop-number-init
loop-number-init g c =
    let start = reader_remaining g.R.Read.remaining c.args.reader.now in
    let line = c.args.line.now.items in
    subst
    (λ config. IfSome start
    (λ text. StillOpens c.args.head c.args.head.lines
    (outcome_from c.args.head.explains c.args.head.kind (opens_with c.args.options.now)
    (lines_from c.args.head.remarks c.args.head.lines line text))
    (opens_with config) line start))
    (sym c.config.ensures) (opens-all start c.args.head c.args.head.lines (opens_with c.args.options.now) line)

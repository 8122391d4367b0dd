use Rattle.std.proofs.Common.{◌≡◌, IfSome, subst, sym, ap, ◌∙◌}
use Rattle.std.specs.Io.Buffered.{reader_remaining}
use Rattle.tool.specs.Scripts.{bare, TakesLine}
use Rattle.tool.proofs.Texts.{weaker}
use Rattle.tool.proofs.Outcomes.{skips-none, skipped-to, skips-on, skips-all}
use Rattle.tool.proofs.script.skip_remarks.Goals as goal

pub returns-then-not-is_skipped-clause-skips : goal.returns-then-not-is_skipped-clause-skips
returns-then-not-is_skipped-clause-skips g c =
    let line = c.loop-number.line.items in
    let shown : c.without_end.result.now ≡ bare line = c.without_end.ensures ∙ ap bare c.deref.ensures.value in
    weaker (reader_remaining g.R.Read.remaining c.args.reader.now) _ _
    (λ text still. skipped-to c.args.remarks c.loop-number.number _ line c.without_end.result.now
    (reader_remaining g.R.Read.remaining c.loop-number.reader) shown
    (sym c.is_skipped.ensures ∙ c.if-not-is_skipped.true) still)
    c.loop-number.invariant

pub returns-then-not-branch-clause-skips : goal.returns-then-not-branch-clause-skips
returns-then-not-branch-clause-skips g c =
    let line = c.loop-number.line.items in
    let next = c.read_line.new.line.items in
    let left = reader_remaining g.R.Read.remaining c.loop-number.reader in
    let later = reader_remaining g.R.Read.remaining c.read_line.new.reader in
    let takes = subst (λ b. IfSome left (λ text. TakesLine b next text later)) c.if-not-branch.true c.in_ok-read_line.ensures.line in
    let shown : c.without_end.result.now ≡ bare line = c.without_end.ensures ∙ ap bare c.deref.ensures.value in
    weaker (reader_remaining g.R.Read.remaining c.args.reader.now) _ _
    (λ text still. skips-all c.args.remarks c.loop-number.number _ line c.without_end.result.now next left later shown
    (sym c.is_skipped.ensures ∙ c.if-not-is_skipped.false) still takes)
    c.loop-number.invariant

pub loop-number-preserved : goal.loop-number-preserved
loop-number-preserved g c =
    let line = c.loop-number.line.items in
    let next = c.read_line.new.line.items in
    let left = reader_remaining g.R.Read.remaining c.loop-number.reader in
    let later = reader_remaining g.R.Read.remaining c.read_line.new.reader in
    let takes = subst (λ b. IfSome left (λ text. TakesLine b next text later)) c.if-not-branch.false c.in_ok-read_line.ensures.line in
    let shown : c.without_end.result.now ≡ bare line = c.without_end.ensures ∙ ap bare c.deref.ensures.value in
    weaker (reader_remaining g.R.Read.remaining c.args.reader.now) _ _
    (λ text still. skips-on c.args.remarks c.loop-number.number _ line c.without_end.result.now next left later shown
    (sym c.is_skipped.ensures ∙ c.if-not-is_skipped.false) still takes)
    c.loop-number.invariant

pub loop-number-init : goal.loop-number-init
loop-number-init g c =
    skips-none (reader_remaining g.R.Read.remaining c.args.reader.now) c.args.remarks c.args.line.now.items

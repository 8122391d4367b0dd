use Rattle.std.proofs.Common.{◌≡◌, false, IfSome, refl, subst, ap, ◌∙◌}
use Rattle.std.specs.Io.Buffered.{reader_remaining}
use Rattle.tool.specs.Scripts.{bare, TakesLine}
use Rattle.tool.proofs.Outcomes.{no-first, begins-none, begins-some}
use Rattle.tool.proofs.script.begin.Goals as goal

pub returns-then-not-branch-clause-begins : goal.returns-then-not-branch-clause-begins
returns-then-not-branch-clause-begins g c =
    let old = reader_remaining g.R.Read.remaining c.args.reader.now in
    let now = reader_remaining g.R.Read.remaining c.read_line.new.reader in
    let line = c.read_line.new.line.items in
    no-first c.args.explains line old now
    (subst (λ b. IfSome old (λ text. TakesLine b line text now)) c.if-not-branch.true c.in_ok-read_line.ensures.line)

pub returns-in_default-clause-begins : goal.returns-in_default-clause-begins
returns-in_default-clause-begins g c =
    let old = reader_remaining g.R.Read.remaining c.args.reader.now in
    let now = reader_remaining g.R.Read.remaining c.read_line.new.reader in
    let new = reader_remaining g.R.Read.remaining c.skip_remarks.new.reader in
    let line = c.read_line.new.line.items in
    let takes = subst (λ b. IfSome old (λ text. TakesLine b line text now)) c.if-not-branch.false c.in_ok-read_line.ensures.line in
    let shown : c.without_end.result.now ≡ bare line = c.without_end.ensures ∙ ap bare c.deref.ensures.value in
    begins-none c.args.explains c.may_hold_remarks-remarks.result _ line c.skip_remarks.new.line.items c.without_end.result.now
    old now new c.in_default.is takes shown c.may_hold_remarks-remarks.ensures c.in_ok-lines.ensures.skips

pub returns-clause-begins : goal.returns-clause-begins
returns-clause-begins g c =
    let old = reader_remaining g.R.Read.remaining c.args.reader.now in
    let now = reader_remaining g.R.Read.remaining c.read_line.new.reader in
    let new = reader_remaining g.R.Read.remaining c.skip_remarks.new.reader in
    let line = c.read_line.new.line.items in
    let takes = subst (λ b. IfSome old (λ text. TakesLine b line text now)) c.if-not-branch.false c.in_ok-read_line.ensures.line in
    let shown : c.without_end.result.now ≡ bare line = c.without_end.ensures ∙ ap bare c.deref.ensures.value in
    begins-some c.args.explains
    (record {
      remarks = c.may_hold_remarks-remarks.result;
      explains = c.args.explains;
      kind = c.of_drive.result;
      lines = c.in-Some.lines;
    })
    _ line c.skip_remarks.new.line.items c.without_end.result.now
    old now new c.in-Some.is takes shown c.may_hold_remarks-remarks.ensures c.of_drive.ensures refl c.in_ok-lines.ensures.skips

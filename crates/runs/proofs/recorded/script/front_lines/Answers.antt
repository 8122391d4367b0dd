use Rattle.std.proofs.Common.{◌≡◌, IfSome, subst, sym, ap, ◌∙◌}
use Rattle.std.specs.Io.Buffered.{reader_remaining}
use Rattle.tool.specs.Scripts.{bare, lines_from, TakesLine, drive_kind}
use Rattle.tool.specs.Openings.{opens_with}
use Rattle.tool.proofs.Texts.{weaker}
use Rattle.runs.specs.Recordings.{recording_of_lines}
use Rattle.runs.specs.declared.recorded.front.Front.{Front}
use Rattle.runs.proofs.recorded.Fronts.{FrontTurned, StillFront, front-first, front-turned, next-front, nothing-front, stands-so}
use Rattle.runs.proofs.recorded.script.front_lines.Goals as goal

pub returns-in-Runs-clause-stands : goal.returns-in-Runs-clause-stands
returns-in-Runs-clause-stands g c =
    stands-so c.args.explains c.args.remarks c.loop-number.front c.without_end.result.now c.in_ok-next.field-0 c.in-Runs.run' c.in-Runs.is c.in_ok-next.ensures

pub returns-in-Runs-clause-leads : goal.returns-in-Runs-clause-leads
returns-in-Runs-clause-leads g c =
    let left = reader_remaining g.R.Read.remaining c.loop-number.reader in
    let line = c.loop-number.line.items in
    let shown : c.without_end.result.now ≡ bare line = c.without_end.ensures ∙ ap bare c.deref.ensures.value in
    weaker (reader_remaining g.R.Read.remaining c.args.reader.now) _ _
    (λ text still.
    subst
    (λ turn. FrontTurned c.args.explains c.args.remarks c.loop-number.number turn
    (recording_of_lines c.args.explains (drive_kind c.args.remarks) (opens_with c.args.options.now) (lines_from c.args.remarks 0 c.args.line.now.items text)) line left)
    c.in-Runs.is
    (front-turned c.args.explains c.args.remarks c.loop-number.number c.in_ok-next.field-0 _ c.loop-number.front line c.without_end.result.now left shown still c.in_ok-next.ensures))
    c.loop-number.invariant

pub returns-in-Bad-clause-leads : goal.returns-in-Bad-clause-leads
returns-in-Bad-clause-leads g c =
    let left = reader_remaining g.R.Read.remaining c.loop-number.reader in
    let line = c.loop-number.line.items in
    let shown : c.without_end.result.now ≡ bare line = c.without_end.ensures ∙ ap bare c.deref.ensures.value in
    weaker (reader_remaining g.R.Read.remaining c.args.reader.now) _ _
    (λ text still.
    subst
    (λ turn. FrontTurned c.args.explains c.args.remarks c.loop-number.number turn
    (recording_of_lines c.args.explains (drive_kind c.args.remarks) (opens_with c.args.options.now) (lines_from c.args.remarks 0 c.args.line.now.items text)) line left)
    c.in-Bad.is
    (front-turned c.args.explains c.args.remarks c.loop-number.number c.in_ok-next.field-0 _ c.loop-number.front line c.without_end.result.now left shown still c.in_ok-next.ensures))
    c.loop-number.invariant

pub returns-then-not-branch-clause-leads : goal.returns-then-not-branch-clause-leads
returns-then-not-branch-clause-leads g c =
    let left = reader_remaining g.R.Read.remaining c.loop-number.reader in
    let line = c.loop-number.line.items in
    let shown : c.without_end.result.now ≡ bare line = c.without_end.ensures ∙ ap bare c.deref.ensures.value in
    let later = reader_remaining g.R.Read.remaining c.read_line.new.reader in
    let takes = subst (λ b. IfSome left (λ text. TakesLine b c.read_line.new.line.items text later)) c.if-not-branch.true c.in_ok-read_line.ensures.line in
    weaker (reader_remaining g.R.Read.remaining c.args.reader.now) _ _
    (λ text still. nothing-front c.args.explains c.args.remarks c.loop-number.number _ c.in-Goes.next c.read_line.new.line.items left later
    (subst
    (λ turn. FrontTurned c.args.explains c.args.remarks c.loop-number.number turn
    (recording_of_lines c.args.explains (drive_kind c.args.remarks) (opens_with c.args.options.now) (lines_from c.args.remarks 0 c.args.line.now.items text)) line left)
    c.in-Goes.is
    (front-turned c.args.explains c.args.remarks c.loop-number.number c.in_ok-next.field-0 _ c.loop-number.front line c.without_end.result.now left shown still c.in_ok-next.ensures)) takes)
    c.loop-number.invariant

pub loop-number-preserved : goal.loop-number-preserved
loop-number-preserved g c =
    let left = reader_remaining g.R.Read.remaining c.loop-number.reader in
    let line = c.loop-number.line.items in
    let shown : c.without_end.result.now ≡ bare line = c.without_end.ensures ∙ ap bare c.deref.ensures.value in
    let later = reader_remaining g.R.Read.remaining c.read_line.new.reader in
    let takes = subst (λ b. IfSome left (λ text. TakesLine b c.read_line.new.line.items text later)) c.if-not-branch.false c.in_ok-read_line.ensures.line in
    weaker (reader_remaining g.R.Read.remaining c.args.reader.now) _ _
    (λ text still. next-front c.args.explains c.args.remarks c.loop-number.number _ c.in-Goes.next c.read_line.new.line.items left later
    (subst
    (λ turn. FrontTurned c.args.explains c.args.remarks c.loop-number.number turn
    (recording_of_lines c.args.explains (drive_kind c.args.remarks) (opens_with c.args.options.now) (lines_from c.args.remarks 0 c.args.line.now.items text)) line left)
    c.in-Goes.is
    (front-turned c.args.explains c.args.remarks c.loop-number.number c.in_ok-next.field-0 _ c.loop-number.front line c.without_end.result.now left shown still c.in_ok-next.ensures)) takes)
    c.loop-number.invariant

pub loop-number-init : goal.loop-number-init
loop-number-init g c =
    let start = reader_remaining g.R.Read.remaining c.args.reader.now in
    let line = c.args.line.now.items in
    subst
    (λ (front : Front). IfSome start
    (λ text. StillFront c.args.explains c.args.remarks 0
    (recording_of_lines c.args.explains (drive_kind c.args.remarks) (opens_with c.args.options.now) (lines_from c.args.remarks 0 line text))
    front line start))
    (sym c.new-front.ensures) (front-first start c.args.explains c.args.remarks (opens_with c.args.options.now) line)

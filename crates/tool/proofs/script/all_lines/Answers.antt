use Rattle.std.proofs.Common.{subst}
use Rattle.std.proofs.lemmas.Result.{IfOk-weaker}
use Rattle.std.specs.Io.Buffered.{reader_remaining}
use Rattle.tool.specs.Ends.{OpenedStands, exit_status}
use Rattle.tool.specs.Outcomes.{outcome_by}
use Rattle.tool.specs.Progress.{FirstLine, OpensTo}
use Rattle.tool.proofs.Texts.{weaker}
use Rattle.tool.proofs.Outcomes.{first-opens, opened-ends, opened-runs}
use Rattle.tool.proofs.script.all_lines.Goals as goal

pub remaining_lines-requires : goal.remaining_lines-requires
remaining_lines-requires g c = subst OpenedStands c.in-Runs.is c.in_ok-opened.ensures.stands

pub returns-in-Ended : goal.returns-in-Ended
returns-in-Ended g c =
    let start = reader_remaining g.R.Read.remaining c.args.reader.now in
    let first = reader_remaining g.R.Read.remaining c.first_line.new.reader in
    let left = reader_remaining g.R.Read.remaining c.opening_lines.new.reader in
    let head = c.in-Some.head in
    let config = c.args.options.now in
    weaker start _ _
    (λ text said.
    opened-ends (outcome_by c.args.explains config text) (exit_status c.in-Ended.end)
    (g.W.Write.contents c.args.output.now) c.args.report.now.pending.items
    (subst
    (λ opened. OpensTo head opened (outcome_by c.args.explains config text) c.opening_lines.new.line.items left)
    c.in-Ended.is
    (first-opens c.args.explains head config c.in_ok-opened.opened text c.first_line.new.line.items
    c.opening_lines.new.line.items first left
    (subst (λ told. FirstLine c.args.explains told text c.first_line.new.line.items first) c.in-Some.is said)
    c.in_ok-opened.ensures.leads)))
    c.in_ok-head.ensures

pub returns-in-Runs : goal.returns-in-Runs
returns-in-Runs g c =
    let start = reader_remaining g.R.Read.remaining c.args.reader.now in
    let first = reader_remaining g.R.Read.remaining c.first_line.new.reader in
    let left = reader_remaining g.R.Read.remaining c.opening_lines.new.reader in
    let head = c.in-Some.head in
    let config = c.args.options.now in
    IfOk-weaker c.remaining_lines.result _ _
    (λ end leads. weaker start _ _
    (λ text said.
    let opens =
    first-opens c.args.explains head config c.in_ok-opened.opened text c.first_line.new.line.items
    c.opening_lines.new.line.items first left
    (subst (λ told. FirstLine c.args.explains told text c.first_line.new.line.items first) c.in-Some.is said)
    c.in_ok-opened.ensures.leads in
    opened-runs head c.in-Runs.lines (outcome_by c.args.explains config text) _ c.in-Runs.run' c.args.report.now.last.items
    c.opening_lines.new.line.items left _ _ _ _
    (subst
    (λ opened. OpensTo head opened (outcome_by c.args.explains config text) c.opening_lines.new.line.items left)
    c.in-Runs.is opens)
    c.requires.last leads)
    c.in_ok-head.ensures)
    c.remaining_lines.ensures

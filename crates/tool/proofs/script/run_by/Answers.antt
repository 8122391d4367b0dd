use Rattle.std.proofs.Common.{IfOk, subst}
use Rattle.std.specs.Io.Buffered.{reader_remaining}
use Rattle.tool.specs.Ends.{exit_status}
use Rattle.tool.specs.Outcomes.{outcome_by, YieldsBy}
use Rattle.tool.proofs.Outcomes.{told-so}
use Rattle.tool.proofs.script.run_by.Goals as goal

pub returns-clause-whole : goal.returns-clause-whole
returns-clause-whole g c =
    let old = g.W.Write.contents c.args.output.now in
    let new = g.W.Write.contents c.all_answers.new.output in
    subst
    (λ start. IfOk c.tell.result (λ status. YieldsBy c.args.explains c.args.options.now start status old new))
    c.in_ok-reader.ensures.reader
    (told-so c.tell.result (exit_status c.in_ok-end.end)
    (reader_remaining g.R.Read.remaining c.in_ok-reader.reader) (outcome_by c.args.explains c.args.options.now) old new
    c.tell.ensures.status c.in_ok-end.ensures.yields)

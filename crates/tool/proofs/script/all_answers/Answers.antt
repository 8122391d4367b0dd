use Rattle.std.specs.Io.Buffered.{reader_remaining}
use Rattle.tool.specs.Outcomes.{outcome_by}
use Rattle.tool.specs.declared.ending.RunError.TheVariants.{Write}
use Rattle.tool.proofs.Outcomes.{answered-so}
use Rattle.tool.proofs.script.all_answers.Goals as goal

pub returns-clause-yields : goal.returns-clause-yields
returns-clause-yields g c =
    answered-so c.hand_on_behind.result c.all_lines-end.result Write
    (reader_remaining g.R.Read.remaining c.args.reader.now) (outcome_by c.args.explains c.args.options.now)
    (g.W.Write.contents c.args.output.now) (g.W.Write.contents c.all_lines-end.new.output)
    (g.W.Write.contents c.hand_on_behind.new.output) c.args.report.now.pending.items
    c.all_lines-end.new.report.pending.items c.hand_on_behind.ensures.written c.requires.pending
    c.all_lines-end.ensures

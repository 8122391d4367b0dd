use Rattle.std.proofs.Common.{◌∙◌, sym}
use Rattle.runs.proofs.explored.FirstLines.{one_more, none_left}
use Rattle.runs.proofs.explored.lines.Lines.of_script.Goals as goal

pub loop-rest-preserved : goal.loop-rest-preserved
loop-rest-preserved c =
    one_more c.loop-rest.lines c.push.new.self c.loop-rest.rest.now c.first_line.result.0.now c.first_line.result.1.now c.args.text.now
    c.first_line.ensures.lines c.in_ok-push.ensures c.loop-rest.invariant

pub returns : goal.returns
returns c = none_left c.loop-rest.lines c.loop-rest.rest.now c.args.text.now (sym c.is_empty.ensures ∙ c.loop-rest-test.false) c.loop-rest.invariant

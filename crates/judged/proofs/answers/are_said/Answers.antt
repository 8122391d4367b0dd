use Rattle.std.proofs.Common.{◌∙◌, sym}
use Rattle.tool.specs.Scripts.{script_lines}
use Rattle.runs.proofs.WholeTexts.{no_lines}
use Rattle.judged.proofs.KeptLines.{no_more}
use Rattle.judged.proofs.answers.are_said.Goals as goal

pub returns : goal.returns
returns c =
    c.is_empty-2.ensures
    ∙ no_more c.args.whole c.loop-rest.left.now (script_lines c.loop-rest.rest.now) _
    (no_lines c.loop-rest.rest.now (sym c.is_empty.ensures ∙ c.loop-rest-test.false)) c.loop-rest.invariant

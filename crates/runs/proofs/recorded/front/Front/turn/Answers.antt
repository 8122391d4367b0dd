use Rattle.std.proofs.Common.{sym, ◌∙◌}
use Rattle.runs.proofs.recorded.Fronts.{skipped-so}
use Rattle.runs.proofs.recorded.front.Front.turn.Goals as goal

pub returns-then-is_skipped : goal.returns-then-is_skipped
returns-then-is_skipped c =
    skipped-so c.args.explains c.args.remarks c.args.self c.args.text.now (sym c.is_skipped.ensures ∙ c.if-is_skipped.true)

use Rattle.std.proofs.Common.{sym, ◌∙◌}
use Rattle.tool.proofs.Turns.{skip-steps, line-steps}
use Rattle.tool.proofs.phase.Phase.turn_or_skip.Goals as goal

pub returns-then-is_skipped : goal.returns-then-is_skipped
returns-then-is_skipped c = record {
  steps = λ o course runs.
      skip-steps c.args.remarks c.args.self.now o course
      (record { number = c.args.number; text = c.args.text.now }) c.args.report.now
      (sym c.is_skipped.ensures ∙ c.if-is_skipped.true) runs;
}

pub returns : goal.returns
returns c = record {
  steps =
      line-steps c.turn.result c.args.remarks c.args.self.now c.turn.new.self
      (record { number = c.args.number; text = c.args.text.now }) c.args.report.now c.turn.new.report
      (sym c.is_skipped.ensures ∙ c.if-is_skipped.false) c.turn.ensures.steps;
}

use Rattle.std.proofs.Common.{◌∙◌, refl, sym}
use Rattle.tool.specs.Scripts.{script_lines}
use Rattle.runs.proofs.WholeTexts.{no_lines}
use Rattle.runs.proofs.recorded.LineByLine.{none-came, next-came, all-came}
use Rattle.runs.proofs.recorded.stepped.SteppedRun.go_on.Goals as goal

pub loop-rest-init : goal.loop-rest-init
loop-rest-init c = (c.requires.stands, refl, none-came c.args.self.now c.args.options.now (script_lines c.args.text.now))

pub loop-rest-preserved : goal.loop-rest-preserved
loop-rest-preserved c = (
  c.in_ok-add_line.ensures.stands,
  c.in_ok-add_line.ensures.explains ∙ c.loop-rest.invariant.1,
  next-came c.args.self.now c.loop-rest.self c.add_line.new.self c.args.options.now (script_lines c.loop-rest.rest.now)
      (script_lines c.first_line.result.1.now) (script_lines c.args.text.now) c.first_line.result.0.now c.first_line.ensures.lines
      c.in_ok-add_line.ensures.came c.loop-rest.invariant.2,
)

pub returns-clause-ran : goal.returns-clause-ran
returns-clause-ran c =
    all-came c.args.self.now c.loop-rest.self c.args.options.now c.args.text.now _ c.requires.whole
    (no_lines c.loop-rest.rest.now (sym c.is_empty.ensures ∙ c.loop-rest-test.false))
    c.loop-rest.invariant.1 c.loop-rest.invariant.0 c.loop-rest.invariant.2

use Rattle.std.proofs.Common.{◌≡◌, None, Some, [], sym, ap, refl}
use Rattle.ace_eval.specs.Evaluation.{run, is_true}
use Rattle.ace_eval.proofs.Evaluations.{stops, ends}
use Rattle.ace_eval.proofs.expressions.evaluate.Goals as goal

pub returns-then-not-apply : goal.returns-then-not-apply
returns-then-not-apply c =
    let gone : run c.args.held.now c.args.elements.now [] ≡ None = stops _ _ _ _ _ c.loop-element-test.true c.loop-element.invariant.runs c.if-not-apply.ensures in
    sym (ap is_true gone)

pub returns : goal.returns
returns c =
    let done : run c.args.held.now c.args.elements.now [] ≡ Some c.loop-element.stack = ends _ _ _ _ c.loop-element-test.false c.loop-element.invariant.runs in
    rw (c.is_true.ensures, done) refl

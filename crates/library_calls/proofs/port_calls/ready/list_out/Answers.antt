use Rattle.std.proofs.Common.{ℕ, ◌++◌, map, take, drop, slice_set, add-one, sym, ap, ◌∙◌}
use Rattle.library_calls.specs.Listed.{ready_numbers}
use Rattle.library_calls.proofs.port_calls.Laid.{laid_on}
use Rattle.library_calls.proofs.port_calls.ready.list_out.Goals as goal

pub loop-i-preserved : goal.loop-i-preserved
loop-i-preserved c =
    let steps = c.args.steps.now in let old = c.args.into.now in let i = c.loop-i.i in let x = c.index-steps-i.result in
    ap (λ r. slice_set c.loop-i.into i r) c.of.ensures
    ∙ ap (λ l. slice_set l i (ready_numbers x)) c.loop-i.invariant
    ∙ laid_on ready_numbers steps old i x c.loop-i-test.true c.if-number-into.false c.index-steps-i.is
    ∙ ap (λ (n : ℕ). map ready_numbers (take n steps) ++ drop n old) (sym (add-one i))

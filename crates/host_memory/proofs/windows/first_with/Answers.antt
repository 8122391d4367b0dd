use Rattle.std.proofs.Common.{sym, ◌∙◌, add-one}
use Rattle.host_memory.proofs.SeveralWindows.{first_so, more_so}
use Rattle.host_memory.proofs.windows.first_with.Goals as goal

pub returns-then-has-clause-first : goal.returns-then-has-clause-first
returns-then-has-clause-first c =
    first_so c.args.windows.now c.args.at c.args.len c.loop-place.place c.index-windows-place.result c.loop-place.invariant
    c.loop-place-test.true c.index-windows-place.is (sym c.has.ensures ∙ c.if-has.true)

pub loop-place-preserved : goal.loop-place-preserved
loop-place-preserved c = rw add-one
    (more_so c.args.windows.now c.args.at c.args.len c.loop-place.place c.index-windows-place.result c.loop-place.invariant
    c.loop-place-test.true c.index-windows-place.is (sym c.has.ensures ∙ c.if-has.false))

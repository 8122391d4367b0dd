-- Each entry comes behind those before it.
use Rattle.std.proofs.Common.{rules, ◌∙◌, arith}
use Rattle.std.proofs.lemmas.List.{take_all}
use Rattle.sessions.proofs.CopyLemmas.{next_entry}
use Rattle.sessions.proofs.live.copy_live.Goals as goal

pub loop-at-preserved : goal.loop-at-preserved
loop-at-preserved c =
    let into = next_entry c.args.live.now.entries c.loop-at.at (c.in-Some.number.now, c.in-Some.session.now) c.len-at-end.ensures.unique (search rules) in
    search rules

pub returns : goal.returns
returns c = c.loop-at.invariant ∙ take_all c.loop-at.at c.args.live.now.entries (omega (arith, c.len-at-end.ensures.len, c.loop-at-test.false))

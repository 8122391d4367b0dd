use Rattle.shadow_mbr.proofs.Blocks.{taken_back}
use Rattle.shadow_mbr.proofs.kept.place_all.Goals as goal

pub returns-in-Err-clause-err : goal.returns-in-Err-clause-err
returns-in-Err-clause-err c =
    taken_back c.args.places.now c.loop-i.places c.remove_all.new.places c.args.sectors.now c.args.from c.loop-i.i
    c.requires.sorted (c.remove_all.ensures.sorted (rw c.in-Err.ensures.err c.loop-i.invariant.sorted)) c.requires.fresh c.loop-i.invariant.adds
    (rw c.in-Err.ensures.err at c.remove_all.ensures.removed)

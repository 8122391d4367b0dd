use Rattle.tper.proofs.Keeping.{block-kept}
use Rattle.tper.proofs.trusted.Tper.block_sid.Goals as goal

pub returns-clause-kept : goal.returns-clause-kept
returns-clause-kept c = λ o past k.
    block-kept c.args.self.now c.put_block.new.self o past c.args.block
    c.put_block.ensures.store c.put_block.ensures.live c.put_block.ensures.waiting k

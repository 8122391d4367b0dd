use Rattle.tper.proofs.Keeping.{stack-kept}
use Rattle.tper.proofs.trusted.Tper.reset_stack.Goals as goal

pub returns-clause-kept : goal.returns-clause-kept
returns-clause-kept c = λ o past k.
    stack-kept c.args.self.now c.clear_stack.new.self o past c.args.com_id c.clear_stack.ensures.numbered
    c.clear_stack.ensures.store c.clear_stack.ensures.points c.clear_stack.ensures.next c.clear_stack.ensures.beside c.clear_stack.ensures.waiting k

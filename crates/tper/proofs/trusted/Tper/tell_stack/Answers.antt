use Rattle.tper.proofs.Keeping.{told-kept}
use Rattle.tper.proofs.trusted.Tper.tell_stack.Goals as goal

pub returns-clause-kept : goal.returns-clause-kept
returns-clause-kept c = λ o past rule k.
    told-kept c.args.self.now c.forget_stack.new.self o past c.args.com_id rule
    c.forget_stack.ensures.store c.forget_stack.ensures.live c.forget_stack.ensures.waiting k

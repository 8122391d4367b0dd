use Rattle.tper.proofs.Keeping.{reset-kept}
use Rattle.tper.proofs.trusted.Tper.reset.Goals as goal

pub returns-clause-kept : goal.returns-clause-kept
returns-clause-kept c = λ o past k.
    reset-kept c.args.self.now c.start_anew.new.self o past c.args.kind
    c.start_anew.ensures.store c.start_anew.ensures.none c.start_anew.ensures.next c.start_anew.ensures.beside c.start_anew.ensures.waiting k

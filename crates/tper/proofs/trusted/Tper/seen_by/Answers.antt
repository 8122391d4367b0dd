use Rattle.tper.proofs.Seen.{seen_alike}
use Rattle.tper.proofs.trusted.Tper.seen_by.Goals as goal

pub returns-clause-told : goal.returns-clause-told
returns-clause-told c = λ o acts keeps. seen_alike o acts c.args.self.now c.args.session c.sight.result keeps c.sight.ensures

use Rattle.history.specs.Facts.{facts}
use Rattle.history.specs.History.{log}
use Rattle.pictures.proofs.samples.Looks.{calls_so}
use Rattle.pictures.proofs.samples.calls.Calls.on.Goals as goal

pub returns : goal.returns
returns c = λ o acts k.
    calls_so _ _ (facts o (log o acts)) c.args.sp (c.has_session.ensures.told o acts k)
    (c.has_transaction.ensures.told o acts k)

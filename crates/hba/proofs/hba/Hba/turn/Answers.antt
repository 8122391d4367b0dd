-- What is picked may be done, and nothing is picked of nothing alone.
use Rattle.std.proofs.Common.{sym}
use Rattle.hba.specs.Ready.{is_ready_on}
use Rattle.hba.proofs.Works.{none_picked, picked_ready}
use Rattle.hba.proofs.hba.Hba.turn.Goals as goal

pub returns-in_default-clause-idle : goal.returns-in_default-clause-idle
returns-in_default-clause-idle g c = λ none. none_picked _ _ (sym c.in_default.ensures)

pub advance-requires : goal.advance-requires
advance-requires g c =
    picked_ready (is_ready_on c.args.self.now) c.args.choice c.in-Some.work (sym c.in-Some.ensures)

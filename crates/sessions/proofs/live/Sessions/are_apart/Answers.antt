use Rattle.std.proofs.Common.{subst}
use Rattle.sessions.specs.Live.{Live, AreOnOwnSps}
use Rattle.sessions.proofs.live.Sessions.are_apart.Goals as goal

pub returns : goal.returns
returns c = subst (λ (l : Live). AreOnOwnSps l.sessions) c.self.view_is c.self.invariant.1

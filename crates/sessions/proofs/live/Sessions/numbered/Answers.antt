use Rattle.std.proofs.Common.{subst}
use Rattle.sessions.specs.Live.{AreNumbered}
use Rattle.sessions.proofs.LiveLemmas.{are_numbered}
use Rattle.sessions.proofs.live.Sessions.numbered.Goals as goal

pub returns : goal.returns
returns c = subst AreNumbered c.self.view_is (are_numbered (record { sessions = c.self.inside.live.entries; next = c.self.inside.next; beside = c.self.inside.beside }) c.len.ensures.unique)

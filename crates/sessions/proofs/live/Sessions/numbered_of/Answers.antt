use Rattle.std.proofs.Common.{subst}
use Rattle.sessions.specs.Live.{AreNumberedOf}
use Rattle.sessions.proofs.LiveLemmas.{are_numbered_of}
use Rattle.sessions.proofs.live.Sessions.numbered_of.Goals as goal

pub returns : goal.returns
returns c = subst AreNumberedOf c.self.view_is (are_numbered_of (record { sessions = c.self.inside.live.entries; next = c.self.inside.next; beside = c.self.inside.beside }) c.len.ensures.unique)

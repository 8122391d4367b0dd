use Rattle.history.proofs.KeptSessionsLaws.{sessions_opening_law, sessions_law}
use Rattle.history.proofs.KeptSessionsNamed.{named_law}
use Rattle.history.proofs.KeptSessionsStart.{start_law}
use Rattle.history.proofs.laws_of_sessions.Goals as goal

pub returns-clause-opened : goal.returns-clause-opened
returns-clause-opened c = sessions_opening_law

pub returns-clause-kept : goal.returns-clause-kept
returns-clause-kept c = sessions_law

pub returns-clause-named : goal.returns-clause-named
returns-clause-named c = named_law

pub returns-clause-started : goal.returns-clause-started
returns-clause-started c = start_law

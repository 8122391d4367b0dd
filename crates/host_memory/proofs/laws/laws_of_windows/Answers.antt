-- Access by access.
use Rattle.host_memory.proofs.OneWindow.{written_law, read_law}
use Rattle.host_memory.proofs.SeveralWindows.{windows_read_law, one_window_law, others_law}
use Rattle.host_memory.proofs.laws.laws_of_windows.Goals as goal

pub returns-clause-written : goal.returns-clause-written
returns-clause-written c = written_law

pub returns-clause-read : goal.returns-clause-read
returns-clause-read c = read_law

pub returns-clause-all_read : goal.returns-clause-all_read
returns-clause-all_read c = windows_read_law

pub returns-clause-one : goal.returns-clause-one
returns-clause-one c = one_window_law

pub returns-clause-others : goal.returns-clause-others
returns-clause-others c = others_law

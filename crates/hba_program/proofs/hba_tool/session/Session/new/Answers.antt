-- A drive that has done no act is one that was opened so.
use Rattle.std.proofs.Common.{refl}
use Rattle.hba.specs.History.{over_new_by}
use Rattle.hba_program.proofs.hba_tool.session.Session.new.Goals as goal

pub returns-clause-hba : goal.returns-clause-hba
returns-clause-hba c = λ o agrees. c.with_addresses.ensures (over_new_by c.args.way.width o) refl agrees

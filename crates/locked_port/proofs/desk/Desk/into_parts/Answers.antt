use Rattle.locked_port.proofs.Counts.{total_is}
use Rattle.locked_port.proofs.desk.Desk.into_parts.Goals as goal

pub returns-clause-counted : goal.returns-clause-counted
returns-clause-counted g c = total_is c.args.self.book.total c.args.self.port c.args.self.stands

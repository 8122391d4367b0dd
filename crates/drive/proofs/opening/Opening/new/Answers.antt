use Rattle.std.proofs.Common.{rules}
use Rattle.drive.proofs.Starts.{activated-opens}
use Rattle.drive.proofs.opening.Opening.new.Goals as goal

pub invariant_of-result : goal.invariant_of-result
invariant_of-result c = activated-opens c.args.config c.set-2.new.tables (search rules)

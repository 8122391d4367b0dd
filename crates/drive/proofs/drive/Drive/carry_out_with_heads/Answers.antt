use Rattle.std.proofs.Common.{rules}
use Rattle.drive.specs.State.{kept_facts}
use Rattle.drive.proofs.Completions.{heads-of-write}
use Rattle.drive.proofs.drive.Drive.carry_out_with_heads.Goals as goal

pub returns-in_ok-fill-in-Write-clause-data : goal.returns-in_ok-fill-in-Write-clause-data
returns-in_ok-fill-in-Write-clause-data c = λ f.
    heads-of-write _ (kept_facts c.args.self.now f) c.args.held.now c.in-Write.is (search rules)

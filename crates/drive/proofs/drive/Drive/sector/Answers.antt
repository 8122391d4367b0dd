use Rattle.std.proofs.Common.{rules}
use Rattle.drive.proofs.drive.Drive.sector.Goals as goal

pub returns-then-lba-sectors-clause-told : goal.returns-then-lba-sectors-clause-told
returns-then-lba-sectors-clause-told c = λ o acts agrees. let kept = agrees.sectors c.args.lba in search (rules, kept)

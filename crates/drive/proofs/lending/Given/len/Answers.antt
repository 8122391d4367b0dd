-- So many sectors have so many bytes.
use Rattle.drive.proofs.Lent.{run-size}
use Rattle.drive.proofs.lending.Given.len.Goals as goal

pub returns-in-Some-clause-value : goal.returns-in-Some-clause-value
returns-in-Some-clause-value c =
    run-size c.self.inside.media.now c.self.inside.lent c.self.inside.bytes.now c.args.self.now c.in-Some.run' c.self.invariant.1 c.in-Some.is c.self.view_is

use Rattle.std.proofs.Common.{[], subst}
use Rattle.sp_tables.specs.Contents.{Contents}
use Rattle.history.specs.Opening.{origin_on}
use Rattle.history.specs.Agreement.{HasNoTries}
use Rattle.history.specs.KeptStore.{HasKnownRows}
use Rattle.history.proofs.Openings.{factory_law}
use Rattle.history.proofs.KeptStoreOpenings.{factory-has-known}
use Rattle.drive.specs.State.{KeepsDrive}
use Rattle.drive.proofs.drive.Drive.new.Goals as goal

pub returns : goal.returns
returns c = record {
  agrees =
      subst (λ (t : Contents). HasNoTries (origin_on t) → HasKnownRows (origin_on t) → KeepsDrive c.in_ok-drive.drive (origin_on t) [])
      c.in_ok-tables.ensures c.in_ok-drive.ensures (factory_law c.args.config) (factory-has-known c.args.config);
}

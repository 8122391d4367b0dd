-- What a TRIM comes to, by whether its extents are on the drive, and by the first that is denied.
use Rattle.std.proofs.Common.{Bool, true, false, List, Option, Some, None, cond}
use Rattle.audit.specs.declared.reason.Why.{Why}
use Rattle.audit.specs.declared.rules.rule.Rule.TheVariants.{BeyondDrive}
use Rattle.trusted_cmds.specs.declared.trim.Extent.{Extent}
use Rattle.history.specs.Events.{Trimmed, Event, did}
use Rattle.history.specs.Facts.{Facts}
use Rattle.history.specs.Decisions.{aborted, not_found, fails, are_on_drive, first_denial, trimmed_by, trimmed, ranges_in_force}

-- What holds of each event that it may come to holds of its own.
pub trimmed-has : (P : Event → Type 0) (f : Facts) (extents : List Extent) → P (did (Trimmed extents))
    → ((why : Why) → P (fails aborted (Some why) None)) → P (fails not_found None (Some BeyondDrive)) → P (trimmed f extents)
trimmed-has P f extents done denied beyond =
    by (are_on_drive f.config.sectors extents) (first_denial (ranges_in_force f) extents)
  where
    by : (on : Bool) (x : Option Why) → P (cond on (trimmed_by extents x) (fails not_found None (Some BeyondDrive)))
    by true None = done
    by true (Some why) = denied why
    by false x = beyond

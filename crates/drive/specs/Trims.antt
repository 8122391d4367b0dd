-- A TRIM is judged whole, extent by extent, before any of it is done (ACS-3, DATA SET MANAGEMENT).
use Rattle.std.specs.Prelude.{ℕ, Bool, nat_lt, List, [], ◌∷◌, Option, Some, None, Result, Ok, Err, if◌then◌else◌}
use Rattle.locking.specs.declared.range.Op.TheVariants.{Write}
use Rattle.audit.specs.declared.rules.rule.Rule.TheVariants.{BeyondDrive}
use Rattle.shadow_mbr.specs.Erasure.{is_erased}
use Rattle.shadow_mbr.specs.Stored.{zeros}
use Rattle.shadow_mbr.specs.declared.erasure.Erasure.{Erasure}
use Rattle.shadow_mbr.specs.declared.erasure.Erasure.TheVariants.{Within}
use Rattle.trusted_cmds.specs.declared.trim.Extent.{Extent}
use Rattle.history.specs.Decisions.{not_found, are_on_drive}
use Rattle.drive.specs.Transfer.{transfer_by}
use Rattle.drive.specs.Decision.{Refused, reason, ruling, policy_on}
use Rattle.drive.specs.State.{DriveState}
use Rattle.drive.specs.declared.decision.Refusal.{Refusal}
use Rattle.drive.specs.declared.transfer.Transfer.{Transfer}

abbrev pub has_some : Extent → Bool
has_some extent = nat_lt 0 extent.count

-- An extent is judged as a write of its sectors is.
abbrev pub as_write : Extent → Transfer
as_write extent = transfer_by Write extent.lba extent.count

abbrev pub refused_or : Result Bool Refused → Option Refused → Option Refused
refused_or (Ok is_shadowed) later = later
refused_or (Err refused) later = Some refused

-- The first of the extents that is refused says why.
unfoldable pub first_refused : DriveState → List Extent → Option Refused
first_refused d [] = None
first_refused d (extent ∷ extents) =
    refused_or (policy_on d (as_write extent)) (first_refused d extents)

-- The addresses of all come before the policy.
abbrev pub trim_refusal : DriveState → List Extent → Option Refused
trim_refusal d extents =
    if are_on_drive d.tper.store.config.sectors extents then first_refused d extents
    else Some (record { error = not_found; denied = None; rule = Some BeyondDrive })

abbrev pub refusal_told : Option Refusal → Option Refused
refusal_told None = None
refusal_told (Some refusal) = Some (record {
  error = refusal.error;
  denied = reason refusal.cause;
  rule = ruling refusal.cause;
})

-- What makes zeros of its sectors.
abbrev pub erasure_of : Extent → Erasure
erasure_of extent =
    Within (record { items = record { start = extent.lba; len = extent.count } ∷ [] })

-- What a sector holds once each of these was done, where it held `before`.
unfoldable pub erased_by_each : List Erasure → ℕ → List ℕ → List ℕ
erased_by_each [] sector before = before
erased_by_each (erasure ∷ erasures) sector before =
    erased_by_each erasures sector (if is_erased erasure sector then zeros else before)

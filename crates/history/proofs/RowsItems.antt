-- Items on both sides of what the laws ask of them, beside those of this drive.
use Rattle.trusted_cmds.specs.Commands.{reading}
use Rattle.std.proofs.Common.{◌≡◌, ℕ, ◌==◌, Bool, true, false, [], if◌then◌else◌, refl, ap}
use Rattle.history.specs.Decisions.{refuses}
use Rattle.history.specs.Events.{Event, did, Nothing, OfQueue, QueueMended}
use Rattle.history.specs.Facts.{Facts, facts}
use Rattle.history.specs.Items.{Items}
use Rattle.history.specs.NoTrace.{IsByOwnView}
use Rattle.history.specs.Quiet.{is_quiet, IsQuiet}
use Rattle.history.proofs.Scripts.{new_drive}
use Rattle.audit.specs.declared.rules.rule.Rule.TheVariants.{Protocol}

false_true : false ≡ true → ⊥
false_true h = cc

-- Items that refuse each send: quiet, and they see no view.
abbrev refusing : Items
refusing = record { reads = λ config h. reading h; sends = λ f protocol com_id blocks payload. refuses Protocol; gives = λ f command. [] }

refusing_quiet : IsQuiet refusing
refusing_quiet f protocol com_id blocks payload = refl

refusing_views : IsByOwnView refusing
refusing_views f rows bytes number same protocol com_id blocks payload apart = refl

-- What a new drive shows.
abbrev shown : Facts
shown = facts new_drive []

-- Items that end the failure of the queue are not quiet, but see no view.
abbrev mending : Items
mending = record { reads = λ config h. reading h; sends = λ f protocol com_id blocks payload. did (OfQueue QueueMended); gives = λ f command. [] }

mending_is_not : IsQuiet mending → ⊥
mending_is_not h = false_true (h shown 1 0 1 [])

mending_views : IsByOwnView mending
mending_views f rows bytes number same protocol com_id blocks payload apart = refl

-- Items that tell each client of a byte in the view of session 5 are quiet, but see another's view.
abbrev telling : Items
telling = record { reads = λ config h. reading h; sends = λ f protocol com_id blocks payload. (if f.byte_of 5 0 == 0 then refuses Protocol else did Nothing); gives = λ f command. [] }

telling_quiet : IsQuiet telling
telling_quiet f protocol com_id blocks payload = by_byte (f.byte_of 5 0 == 0)
  where
    by_byte : (b : Bool) → is_quiet (if b then refuses Protocol else did Nothing).deed ≡ true
    by_byte true = refl
    by_byte false = refl

telling_sees : IsByOwnView telling → ⊥
telling_sees h = told (h shown shown.rows_of (λ viewer place. if 5 == viewer then 1 else 0) 5 (λ viewer apart. record {
  rows_same = refl;
  bytes_same = ap (λ (b : Bool). λ (place : ℕ). if b then 1 else 0) apart;
}) 1 0 1 [] refl)
  where
    told : did Nothing ≡ refuses Protocol → ⊥
    told e = differ (ap (λ (x : Event). x.failed) e)
      where
        differ : ◌≡◌ {A = Rattle.std.specs.Prelude.Option ℕ} Rattle.std.specs.Prelude.None (Rattle.std.specs.Prelude.Some 4) → ⊥
        differ g = cc

-- A software reset ends the queue, and leaves all else that the rules ask of the past: it is no reset
-- of TCG Storage (ACS-3, software reset, and the Device Control field; Core 2.01, reset_type).
use Rattle.std.specs.Prelude.{◌≡◌, List, ◌∷◌, None}
use Rattle.history.specs.Facts.{facts}
use Rattle.history.specs.History.{Act, SoftwareReset, log}
use Rattle.history.specs.Opening.{Origin}

abbrev pub SoftwareResetLaw : Type 0
SoftwareResetLaw =
    (o : Origin) (acts : List Act)
    → facts o (log o (SoftwareReset ∷ acts))
    ≡ record (facts o (log o acts)) { held = λ tag. None; failure = None }

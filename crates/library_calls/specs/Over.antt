-- A turn of a controller over bytes, by what an access makes of them.
use Rattle.std.specs.Prelude.{◌≡◌, ℕ, List, [], Option, Some, None, Result, Ok, Err}
use Rattle.host_memory.specs.Access.{Access}
use Rattle.hba.specs.Engine.{TurnsTo}
use Rattle.hba.specs.History.{State}
use Rattle.hba.specs.Ready.{picked, ready_on}
use Rattle.hba.specs.declared.work.Turned.{Turned}

-- The work of a number was done, and each byte is as it makes it; or none was ready, or there was no memory, and all is as
-- before.
abbrev pub TurnsOver : {E : Type 0} → ℕ → (List ℕ → Access → List ℕ → Type 0) → State → List ℕ
    → State → List ℕ → Result (Option Turned) E → Type 0
TurnsOver choice stands old before new after (Ok (Some turned)) =
    (picked choice (ready_on old) ≡ Some turned.work) × TurnsTo stands old before new after turned
TurnsOver choice stands old before new after (Ok None) =
    (ready_on old ≡ []) × (new ≡ old) × (after ≡ before)
TurnsOver choice stands old before new after (Err error) = (new ≡ old) × (after ≡ before)

-- A dump as it is written.
use Rattle.std.specs.Prelude.{◌≡◌, ℕ, List, Option, None, Some}
use Rattle.std.specs.Io.KnownBytes.{Appends}
use Rattle.hba_waves.specs.declared.writer.Dump.{Dump}
use Rattle.hba_waves.specs.Looks.{Shown}
use Rattle.hba_waves.specs.Dumps.{moments_from, last_look}

-- what these moments add is written behind what was written before
pub record GoesOn {D : Type 0} (contents : D → Option (List ℕ)) (moments : List Shown)
    (old new : Dump D) : Type 0 where
  pub written : Appends (contents old.out) (contents new.out) (moments_from old.shown moments)
  pub shown : new.shown ≡ last_look old.shown moments

-- the same, where a dump is wanted
abbrev pub GoesOnIf : {D : Type 0} → (D → Option (List ℕ)) → List Shown → Option (Dump D)
    → Option (Dump D) → Type 0
GoesOnIf contents moments None new = new ≡ None
GoesOnIf contents moments (Some old) None = ⊥
GoesOnIf contents moments (Some old) (Some new) = GoesOn contents moments old new

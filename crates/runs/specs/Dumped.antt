-- A dump as it is written.
use Rattle.std.specs.Prelude.{◌≡◌, ℕ, List, [], ◌∷◌, ◌++◌, Option, None, Some}
use Rattle.std.specs.Io.KnownBytes.{Appends}
use Rattle.pictures.specs.Samples.{Sample}
use Rattle.pictures.specs.declared.samples.frame.Frame.{Frame}
use Rattle.pictures.specs.Dumps.{dump_text}

-- what was shown last behind these frames, where this was shown before
unfoldable pub last_shown : Option Sample → List Frame → Option Sample
last_shown shown [] = shown
last_shown shown (frame ∷ frames) = last_shown (Some frame.sample) frames

-- the dump of these frames is written behind what was written before, as far as it is not pending
abbrev pub IsDumped : Option (List ℕ) → Option (List ℕ) → Option Sample → List ℕ → List Frame
    → Type 0
IsDumped before after shown pending frames =
    (bytes : List ℕ) × Appends before after bytes × (dump_text frames ≡ bytes ++ pending)
    × (shown ≡ last_shown None frames)

-- What the dump of a controller shows while it serves a host.
use Rattle.std.specs.Prelude.{◌≡◌, ℕ, List, [], ◌∷◌, ◌++◌, Option}
use Rattle.history.specs.Opening.{Origin}
use Rattle.drive.specs.State.{DriveState, Agrees}
use Rattle.hba.specs.History.{over_new_by, Opened, Operation, AgreesHba}
use Rattle.hba_waves.specs.Looks.{Shown, moment_after}
use Rattle.hba_waves.specs.Written.{GoesOnIf}
use Rattle.hba_waves.specs.declared.writer.Dump.{Dump}
use Rattle.hba_program.specs.declared.hba_tool.way.Way.{Way}
use Rattle.hba_program.specs.Steps.{Stand, DoneLine, DoesAll, ServesHost}

-- the moments of lines that were done, the last first: of each by its number, and by a list of operations that the controller
-- agrees with behind it
unfoldable pub ShownBy : Opened → List DoneLine → List Shown → Type 0
ShownBy o [] moments = moments ≡ []
ShownBy o (line ∷ lines) moments =
    (earlier : List Shown) × (list : List Operation) × ShownBy o lines earlier
    × AgreesHba line.hba o list × (moments ≡ earlier ++ moment_after o line.number list ∷ [])

-- the dump shows the start, and what these lines left
abbrev pub ShowsLines : {D : Type 0} → (D → Option (List ℕ)) → Opened → List Operation
    → List DoneLine → Option (Dump D) → Option (Dump D) → Type 0
ShowsLines contents o list lines old new =
    (moments : List Shown) × ShownBy o lines moments
    × GoesOnIf contents (moment_after o 0 list ∷ moments) old new

-- the lines of a host are done, to a status, and shown
pub record DoesAllWaved {R W D : Type 0} (remaining : R → Option (List ℕ))
    (contents : W → Option (List ℕ)) (dumped : D → Option (List ℕ)) (status : ℕ)
    (before after : Stand R W) (old new : Option (Dump D)) : Type 0 where
  pub does : DoesAll remaining contents status before after
  pub shows : (o : Opened) (list : List Operation) → AgreesHba before.hba o list
      → ShowsLines dumped o list does.left old new

-- A host is served to the end of its lines, and the dump, where one is wanted, is exactly that of the moments which its lines
-- left behind.
pub record ServesWaved {R W D : Type 0} (remaining : R → Option (List ℕ))
    (contents : W → Option (List ℕ)) (dumped : D → Option (List ℕ)) (way : Way)
    (drive : DriveState) (input : Option (List ℕ)) (status : ℕ) (old new : Option (List ℕ))
    (dump_old dump_new : Option (Dump D)) : Type 0 where
  pub serves : ServesHost remaining contents way drive input status old new
  pub shows : (o : Origin) → Agrees drive o []
      → ShowsLines dumped (over_new_by way.width o) [] serves.does.left dump_old dump_new

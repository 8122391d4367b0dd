-- What a call of a controller by its handle does: nothing where the handle has none; else what the call does with it.
use Rattle.std.specs.Prelude.{◌≡◌, ◌≢◌, ℕ, List, [], map, Option, Some, None, Ok}
use Rattle.library_calls.specs.declared.byte_calls.count.Count.{Count}
use Rattle.library_calls.specs.declared.byte_calls.error.CallError.{CallError}
use Rattle.library_calls.specs.declared.byte_calls.error.CallError.TheVariants.{NotOpen, OtherKind, InUse}
use Rattle.library_calls.specs.Copies.{IsWrittenOut}
use Rattle.library_calls.specs.Counts.{refused_count, given_count}
use Rattle.library_calls.specs.Refusals.{done_code, code_of_call}
use Rattle.fis.specs.Bytes.{bit}
use Rattle.locking.specs.declared.range.RangeRow.{RangeRow}
use Rattle.sp_cells.specs.Config.{Config}
use Rattle.history.specs.Opening.{Origin, opened_with}
use Rattle.hba.specs.History.{Opened, over_new_by, State, AgreesHba}
use Rattle.drive.specs.State.{DriveState, Agrees}
use Rattle.hba.specs.Registers.{word_at, line}
use Rattle.host_memory.specs.declared.width.AddressWidth.{AddressWidth}
use Rattle.host_memory.specs.Access.{Access, width_by}
use Rattle.host_memory.specs.Window.{StandsSo}
use Rattle.library_calls.specs.Regions.{StandsWithin}
use Rattle.library_calls.specs.declared.hba_calls.regions.Region.{Region}
use Rattle.library_calls.specs.HbaCallsDesk.{WritesHba, CyclesHba, TurnsDesk, denied_text}
use Rattle.library_calls.specs.Worked.{refused_worked}
use Rattle.library_calls.specs.declared.hba_calls.desk.HbaDesk.{HbaDesk}
use Rattle.library_calls.specs.declared.hba_calls.worked.Worked.{Worked}
use Rattle.opalport_c.specs.declared.asked.RangeCells.{RangeCells}
use Rattle.opalport_c.specs.declared.asked.Size.{Size}
use Rattle.opalport_c.specs.declared.object.Object.{Object}
use Rattle.opalport_c.specs.declared.object.Object.TheVariants.{Hba}
use Rattle.opalport_c.specs.Asked.{CanBe, ConfigAsked, IsMakingFault, row_asked}
use Rattle.opalport_c.specs.Calls.{ByHandle, WritesNone}

-- a controller that was there, and the controller that is there; what is none is refused, and stays
abbrev pub OfHba : Object → Object → (CallError → Type 0) → (HbaDesk → HbaDesk → Type 0)
    → Type 0
OfHba (Hba old) (Hba new) refused does = does old new
OfHba (Hba old) _ refused does = ⊥
OfHba old new refused does = refused OtherKind × (new ≡ old)

-- a call of a controller by its handle
abbrev pub ByHba : Option Object → Option Object → (CallError → Type 0)
    → (HbaDesk → HbaDesk → Type 0) → Type 0
ByHba had has refused does =
    ByHandle had has (refused NotOpen) (λ old new. OfHba old new refused does)

-- The host read a word, or the interrupt line.
abbrev pub ReadsWord : Option Object → Option Object → ℕ → Count → Type 0
ReadsWord had has offset count = ByHba had has (λ e. count ≡ refused_count e)
    (λ old new. (count ≡ given_count (word_at old.hba.registers offset)) × (new ≡ old))

abbrev pub TellsInterrupt : Option Object → Option Object → Count → Type 0
TellsInterrupt had has count = ByHba had has (λ e. count ≡ refused_count e)
    (λ old new. (count ≡ given_count (bit (line old.hba.registers))) × (new ≡ old))

-- The host wrote a word.
abbrev pub WritesByHandle : Option Object → Option Object → ℕ → ℕ → ℕ → Type 0
WritesByHandle had has offset value code = ByHba had has (λ e. code ≡ code_of_call e)
    (λ old new. WritesHba old new offset value code)

-- Power was lost, and is there again.
abbrev pub CyclesByHandle : Option Object → Option Object → ℕ → Type 0
CyclesByHandle had has code = ByHba had has (λ e. code ≡ code_of_call e)
    (λ old new. CyclesHba old new code)

-- The controller did a turn over bytes, by what an access makes of them; where it was refused they are as before.
abbrev pub TurnsByHandle : Option Object → Option Object → ℕ → (List ℕ → Access → List ℕ → Type 0)
    → List ℕ → List ℕ → Worked → Type 0
TurnsByHandle had has choice stands before after worked =
    ByHba had has (λ e. (worked ≡ refused_worked e) × (after ≡ before))
    (λ old new. TurnsDesk old new choice stands before after worked)

-- Over the bytes at a base address, and over those of them that lie in regions.
abbrev pub WorksByHandle : Option Object → Option Object → ℕ → ℕ → List ℕ → List ℕ → Worked
    → Type 0
WorksByHandle had has choice base before after worked =
    TurnsByHandle had has choice (StandsSo base) before after worked

abbrev pub WorksWithin : Option Object → Option Object → ℕ → ℕ → List Region → List ℕ → List ℕ
    → Worked → Type 0
WorksWithin had has choice base regions before after worked =
    TurnsByHandle had has choice (StandsWithin regions base) before after worked

-- What denied the command of the last turn.
abbrev pub CopiesDenied : Option Object → Option Object → List ℕ → List ℕ → Count → Type 0
CopiesDenied had has into out count = ByHba had has (WritesNone into out count)
    (λ old new. IsWrittenOut (denied_text old.denied) into out count × (new ≡ old))

-- What the drive of a controller with these rows starts from: with none it is as it leaves the factory. Its addresses have so
-- many bits.
abbrev pub HbaStartsAs : AddressWidth → Config → List RangeRow → State → Type 0
HbaStartsAs width config rows hba =
    (o : Origin) × (opened_with config rows ≡ Ok o) × AgreesHba hba (over_new_by width o) []

-- A controller after its reset, over a drive that is new, or that has done acts before.
abbrev pub HbaOver : AddressWidth → DriveState → State → Type 0
HbaOver width drive hba =
    (o : Opened) → o.width ≡ width → Agrees drive o.origin o.earlier → AgreesHba hba o []

-- A handle with nothing is given a controller that did no turn, or nothing was done.
pub record MakesHba (had has : Option Object) (size : Size) (msid serial model psid : List ℕ)
    (cells : List RangeCells) (code : ℕ) : Type 0 where
  pub in_use : had ≢ None → (code ≡ code_of_call InUse) × (has ≡ had)
  pub opened : code ≡ done_code → (desk : HbaDesk) × (has ≡ Some (Hba desk))
      × (desk.denied ≡ None) × ((config : Config)
      × ConfigAsked size msid serial model psid config
      × HbaStartsAs (width_by size.wide) config (map row_asked cells) desk.hba)
  pub refused : code ≢ done_code → has ≡ had
  pub can : code ≡ done_code → CanBe size msid serial model psid cells
  pub why : had ≡ None → code ≢ done_code → (error : CallError) × (code ≡ code_of_call error)
      × IsMakingFault size msid serial model psid cells error

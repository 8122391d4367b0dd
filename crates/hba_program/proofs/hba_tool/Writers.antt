-- The writer of a pipe stays the caller's, whatever a host is served.
use Rattle.std.proofs.Common.{◌≡◌, ℕ, zero, suc, Bool, true, false, List, [], ◌∷◌, Option, Some, None, Result, Ok, Err, inl, inr, ap, ◌∙◌}
use Rattle.host_memory.specs.declared.width.AddressWidth.{AddressWidth}
use Rattle.host_memory.specs.Access.{Access, Asked, Laid, IsAccess, Accessed, IsAccessIf}
use Rattle.hba_program.specs.declared.hba_tool.session.Told.{Told}
use Rattle.hba_program.specs.declared.hba_lines.request.Request.{Request}
use Rattle.hba_program.specs.declared.hba_lines.request.Request.TheVariants as asks
use Rattle.hba_program.specs.declared.hba_lines.request.RequestFault.{RequestFault}
use Rattle.hba_program.specs.Wires.{Accesses, SameWriter}
use Rattle.hba_program.specs.declared.hba_wire.wire.Wire.{Wire}
use Rattle.hba_program.specs.Steps.{Stand, WorksIf, TellsUnless, TurnsOn, Turns, RunsOut, AnswersHost, DoesLine, DoneLine, DoesLines, HasNoMore, DoesAll}

abbrev Same : {R W : Type 0} → Stand R W → Stand R W → Type 0
Same before after = SameWriter before.wire after.wire

nothing : {R W : Type 0} (before after : Stand R W) → after ≡ before → Same before after
nothing before after same = ap (λ s. s.wire.output.ghost_name) same

allowed : {R W : Type 0} (remaining : R → Option (List ℕ)) (contents : W → Option (List ℕ))
    (access : Access) (old new : Wire R W) → Accesses remaining contents old access new
    → SameWriter old new
allowed remaining contents (Asked at n answer) old new does = does.0
allowed remaining contents (Laid at bytes is_done) old new does = does.0

allowed_if : {R W : Type 0} (remaining : R → Option (List ℕ)) (contents : W → Option (List ℕ))
    (b : Bool) (access : Access) (old new : Wire R W)
    → IsAccessIf b (Accesses remaining contents) old access new → SameWriter old new
allowed_if remaining contents true access old new does =
    allowed remaining contents access old new does
allowed_if remaining contents false access old new does = ap (λ w. w.output.ghost_name) does.1

accessed : {R W : Type 0} (remaining : R → Option (List ℕ)) (contents : W → Option (List ℕ))
    (width : AddressWidth) (talk : List Access) (old new : Wire R W)
    → Accessed (IsAccess width (Accesses remaining contents)) old talk new
    → SameWriter old new
accessed remaining contents width [] old new same = ap (λ w. w.output.ghost_name) same
accessed remaining contents width (access ∷ later) old new does =
    accessed remaining contents width later does.0 new does.2
    ∙ allowed_if remaining contents _ access old does.0 does.1

worked : {R W : Type 0} (remaining : R → Option (List ℕ)) (contents : W → Option (List ℕ))
    (number choice : ℕ) (told : Option Told) (before after : Stand R W)
    → WorksIf remaining contents number choice told before after → Same before after
worked remaining contents number choice None before after works = nothing before after works.same
worked remaining contents number choice (Some told) before after works =
    accessed remaining contents before.hba.registers.width works.does.0 before.wire after.wire works.does.2

told : {R W : Type 0} (remaining : R → Option (List ℕ)) (contents : W → Option (List ℕ))
    (b : Bool) (text : List ℕ) (before after : Stand R W)
    → TellsUnless remaining contents b text before after → Same before after
told remaining contents true text before after same = nothing before after same
told remaining contents false text before after tells = tells.says.same

turned : {R W : Type 0} (remaining : R → Option (List ℕ)) (contents : W → Option (List ℕ))
    (number choice : ℕ) (before after : Stand R W)
    → Turns remaining contents number choice before after
    → Same before after
turned remaining contents number choice before after t =
    told remaining contents _ _ t.middle after t.tells
    ∙ worked remaining contents number choice t.told before t.middle t.works

turned_on : {R W : Type 0} (remaining : R → Option (List ℕ)) (contents : W → Option (List ℕ))
    (number n : ℕ) (before after : Stand R W) → TurnsOn remaining contents number n before after
    → Same before after
unfolding TurnsOn
turned_on remaining contents number zero before after same = nothing before after same
turned_on remaining contents number (suc n) before after t =
    turned remaining contents number 0 t.0 after t.2 ∙ turned_on remaining contents number n before t.0 t.1

ran_out : {R W : Type 0} (remaining : R → Option (List ℕ)) (contents : W → Option (List ℕ))
    (number : ℕ) (before after : Stand R W) → RunsOut remaining contents number before after → Same before after
ran_out remaining contents number before after t =
    told remaining contents _ _ t.middle after t.tells
    ∙ turned_on remaining contents number t.count before t.middle t.turns

answered : {R W : Type 0} (remaining : R → Option (List ℕ)) (contents : W → Option (List ℕ))
    (number : ℕ) (request : Request) (before after : Stand R W)
    → AnswersHost remaining contents number request before after → Same before after
answered remaining contents number (asks.Read offset) before after a = a.says.same
answered remaining contents number (asks.Write offset value) before after a = a.says.same
answered remaining contents number (asks.Turn choice) before after a =
    turned remaining contents number choice before after a
answered remaining contents number asks.Run before after a = ran_out remaining contents number before after a
answered remaining contents number asks.Interrupt before after a = a.says.same
answered remaining contents number asks.Why before after a = a.says.same
answered remaining contents number asks.PowerCycle before after a = a.says.same
answered remaining contents number (asks.Sector lba) before after a = a.says.same

did_line : {R W : Type 0} (remaining : R → Option (List ℕ)) (contents : W → Option (List ℕ))
    (number : ℕ) (line : Result Request RequestFault) (before after : Stand R W)
    → DoesLine remaining contents number line before after → Same before after
did_line remaining contents number (Ok request) before after d =
    answered remaining contents number request before after d
did_line remaining contents number (Err fault) before after d = d.same

did_lines : {R W : Type 0} (remaining : R → Option (List ℕ)) (contents : W → Option (List ℕ))
    (n : ℕ) (left : List DoneLine) (before after : Stand R W)
    → DoesLines remaining contents n left before after
    → Same before after
unfolding DoesLines
did_lines remaining contents zero left before after d = nothing before after d.0
did_lines remaining contents (suc n) left before after d =
    did_line remaining contents _ _ d.1 after d.5
    ∙ (d.4.same ∙ did_lines remaining contents n d.2 before d.0 d.3)

ended : {R W : Type 0} (remaining : R → Option (List ℕ)) (count : ℕ) (last after : Stand R W)
    → HasNoMore remaining count last after → Same last after
ended remaining count last after (inl reads) = reads.same
ended remaining count last after (inr other) = nothing last after other.0

pub did_all : {R W : Type 0} (remaining : R → Option (List ℕ)) (contents : W → Option (List ℕ))
    (status : ℕ) (before after : Stand R W) → DoesAll remaining contents status before after
    → Same before after
did_all remaining contents status before after d =
    ended remaining d.count d.last after d.no_more
    ∙ did_lines remaining contents d.count d.left before d.last d.lines

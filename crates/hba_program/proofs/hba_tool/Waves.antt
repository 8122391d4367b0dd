-- What the lines of a host leave, and what a dump shows of it.
use Rattle.std.proofs.Common.{◌≡◌, ◌∙◌, ℕ, zero, suc, Bool, true, false, List, [], ◌∷◌, ◌++◌, Option, Some, None, Result, Ok, Err, refl, sym, subst}
use Rattle.hba.specs.History.{Opened, State, Operation, AgreesHba}
use Rattle.hba_waves.specs.Looks.{Shown, moment_after}
use Rattle.hba_waves.specs.Written.{GoesOnIf}
use Rattle.hba_waves.specs.declared.writer.Dump.{Dump}
use Rattle.hba_waves.proofs.Going.{then_on_if}
use Rattle.hba_program.specs.declared.hba_tool.session.Told.{Told}
use Rattle.hba_program.specs.declared.hba_lines.request.Request.{Request}
use Rattle.hba_program.specs.declared.hba_lines.request.Request.TheVariants as asks
use Rattle.hba_program.specs.declared.hba_lines.request.RequestFault.{RequestFault}
use Rattle.hba_program.specs.Steps.{Stand, DoneLine, WorksIf, TellsUnless, TurnsOn, Turns, RunsOut, AnswersHost, DoesLine, DoesLines, DoesHere, ReadsLine, HasNoMore, lines_status}
use Rattle.hba_program.specs.Waves.{ShownBy, ShowsLines, DoesAllWaved}

-- a controller agrees with a list of operations
abbrev pub Agreed : Opened → State → Type 0
Agreed o hba = (list : List Operation) × AgreesHba hba o list

same_hba : (o : Opened) (old new : State) → new ≡ old → Agreed o old → Agreed o new
same_hba o old new same agreed = subst (Agreed o) (sym same) agreed

worked : {R W : Type 0} (remaining : R → Option (List ℕ)) (contents : W → Option (List ℕ))
    (number choice : ℕ) (told : Option Told) (o : Opened) (before after : Stand R W)
    → WorksIf remaining contents number choice told before after → Agreed o before.hba → Agreed o after.hba
worked remaining contents number choice None o before after works agreed =
    subst (λ (s : Stand _ _). Agreed o s.hba) (sym works.same) agreed
worked remaining contents number choice (Some told) o before after works agreed =
    (works.does.1 ∷ agreed.0, (works.does.4 o agreed.0 agreed.1).agrees)

told : {R W : Type 0} (remaining : R → Option (List ℕ)) (contents : W → Option (List ℕ))
    (b : Bool) (text : List ℕ) (o : Opened) (before after : Stand R W)
    → TellsUnless remaining contents b text before after → Agreed o before.hba → Agreed o after.hba
told remaining contents true text o before after same agreed =
    subst (λ (s : Stand _ _). Agreed o s.hba) (sym same) agreed
told remaining contents false text o before after tells agreed =
    same_hba o before.hba after.hba tells.hba agreed

turned : {R W : Type 0} (remaining : R → Option (List ℕ)) (contents : W → Option (List ℕ))
    (number choice : ℕ) (o : Opened) (before after : Stand R W)
    → Turns remaining contents number choice before after → Agreed o before.hba → Agreed o after.hba
turned remaining contents number choice o before after t agreed =
    told remaining contents _ _ o t.middle after t.tells
    (worked remaining contents number choice t.told o before t.middle t.works agreed)

turned_on : {R W : Type 0} (remaining : R → Option (List ℕ)) (contents : W → Option (List ℕ))
    (number n : ℕ) (o : Opened) (before after : Stand R W)
    → TurnsOn remaining contents number n before after → Agreed o before.hba → Agreed o after.hba
unfolding TurnsOn
turned_on remaining contents number zero o before after same agreed =
    subst (λ (s : Stand _ _). Agreed o s.hba) (sym same) agreed
turned_on remaining contents number (suc n) o before after t agreed =
    turned remaining contents number 0 o t.0 after t.2
    (turned_on remaining contents number n o before t.0 t.1 agreed)

ran_out : {R W : Type 0} (remaining : R → Option (List ℕ)) (contents : W → Option (List ℕ))
    (number : ℕ) (o : Opened) (before after : Stand R W)
    → RunsOut remaining contents number before after → Agreed o before.hba → Agreed o after.hba
ran_out remaining contents number o before after t agreed =
    told remaining contents _ _ o t.middle after t.tells
    (turned_on remaining contents number t.count o before t.middle t.turns agreed)

answered : {R W : Type 0} (remaining : R → Option (List ℕ)) (contents : W → Option (List ℕ))
    (number : ℕ) (request : Request) (o : Opened) (before after : Stand R W)
    → AnswersHost remaining contents number request before after → Agreed o before.hba → Agreed o after.hba
answered remaining contents number (asks.Read offset) o before after a agreed = same_hba o _ _ a.hba agreed
answered remaining contents number (asks.Write offset value) o before after a agreed =
    (_, a.adds o agreed.0 agreed.1)
answered remaining contents number (asks.Turn choice) o before after a agreed =
    turned remaining contents number choice o before after a agreed
answered remaining contents number asks.Run o before after a agreed =
    ran_out remaining contents number o before after a agreed
answered remaining contents number asks.Interrupt o before after a agreed = same_hba o _ _ a.hba agreed
answered remaining contents number asks.Why o before after a agreed = same_hba o _ _ a.hba agreed
answered remaining contents number asks.PowerCycle o before after a agreed =
    (_, a.adds o agreed.0 agreed.1)
answered remaining contents number (asks.Sector lba) o before after a agreed = same_hba o _ _ a.hba agreed

did_line : {R W : Type 0} (remaining : R → Option (List ℕ)) (contents : W → Option (List ℕ))
    (number : ℕ) (line : Result Request RequestFault) (o : Opened) (before after : Stand R W)
    → DoesLine remaining contents number line before after → Agreed o before.hba → Agreed o after.hba
did_line remaining contents number (Ok request) o before after d agreed =
    answered remaining contents number request o before after d agreed
did_line remaining contents number (Err fault) o before after d agreed = same_hba o _ _ d.hba agreed

-- the dump goes on by the start and these lines, and the controller agrees with a list of operations behind them
abbrev pub GoneOn : {D : Type 0} → (D → Option (List ℕ)) → Opened → List Operation → List DoneLine → State
    → Option (Dump D) → Option (Dump D) → Type 0
GoneOn contents o list lines hba old new =
    Agreed o hba × ((moments : List Shown) × ShownBy o lines moments
    × GoesOnIf contents (moment_after o 0 list ∷ moments) old new)

-- the start is shown
pub begins : {D : Type 0} (contents : D → Option (List ℕ)) (o : Opened) (list : List Operation) (hba : State)
    (old new : Option (Dump D)) → AgreesHba hba o list
    → GoesOnIf contents (moment_after o 0 list ∷ []) old new → GoneOn contents o list [] hba old new
unfolding ShownBy
begins contents o list hba old new agrees goes = ((list, agrees), ([], refl, goes))

-- a line is read and done, and what it left is shown
pub goes_on : {R W D : Type 0} (remaining : R → Option (List ℕ)) (contents : W → Option (List ℕ))
    (dumped : D → Option (List ℕ)) (o : Opened) (list : List Operation) (lines : List DoneLine) (number : ℕ)
    (middle reading after : Stand R W) (old before new : Option (Dump D))
    → ReadsLine remaining true middle reading → DoesHere remaining contents number reading after
    → ((now : List Operation) → AgreesHba after.hba o now → GoesOnIf dumped (moment_after o number now ∷ []) before new)
    → GoneOn dumped o list lines middle.hba old before
    → GoneOn dumped o list (record { number = number; hba = after.hba } ∷ lines) after.hba old new
unfolding ShownBy
goes_on remaining contents dumped o list lines number middle reading after old before new reads does shows gone =
    let agreed = did_line remaining contents number _ o reading after does
    (same_hba o middle.hba reading.hba reads.hba gone.0) in
    let (moments, shown, goes) = gone.1 in (
      agreed,
      (
        moments ++ moment_after o number agreed.0 ∷ [],
        (moments, agreed.0, shown, agreed.1, refl),
        then_on_if dumped (moment_after o 0 list ∷ moments) (moment_after o number agreed.0 ∷ []) old before new goes
            (shows agreed.0 agreed.1),
      ),
    )

-- lines are done, and shown
pub all_waved : {R W D : Type 0} (remaining : R → Option (List ℕ)) (contents : W → Option (List ℕ))
    (dumped : D → Option (List ℕ)) (count status : ℕ) (left : List DoneLine) (before last after : Stand R W)
    (old new : Option (Dump D)) → DoesLines remaining contents count left before last
    → HasNoMore remaining count last after → status ≡ lines_status after.wire
    → ((o : Opened) (list : List Operation) → AgreesHba before.hba o list → ShowsLines dumped o list left old new)
    → DoesAllWaved remaining contents dumped status before after old new
all_waved remaining contents dumped count status left before last after old new lines no_more is_status shows = record {
  does = record {
    count = count;
    left = left;
    last = last;
    lines = lines;
    no_more = no_more;
    is_status = is_status;
  };
  shows = shows;
}

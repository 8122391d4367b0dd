-- Turns and lines, one behind the other.
use Rattle.std.proofs.Common.{◌≡◌, ℕ, ◌+◌, ◌-◌, ◌^◌, ◌<◌, [], ◌∷◌, Bool, true, false, List, ◌++◌, Option, Some, None, refl, sym, ap, ◌∙◌, subst, add-one, true≢false}
use Rattle.drive_scripts.specs.Kept.{KeptReasons}
use Rattle.hba.specs.History.{State, Operation, denial_heard}
use Rattle.hba.specs.Engine.{HearsTo, done_of}
use Rattle.hba.specs.declared.work.TurnedHeard.{TurnedHeard}
use Rattle.hba_program.specs.declared.hba_tool.session.Told.{Told}
use Rattle.hba_program.specs.Sayings.{DeniedCommand, work_tag, work_reply, kept_denial, work_text}
use Rattle.hba_program.specs.Explained.{source_at, ExplainsOperation, HearsOperation}
use Rattle.hba_program.specs.declared.hba_wire.wire.Wire.{Wire}
use Rattle.std.specs.Prelude.{IfSome, is_some}
use Rattle.hba.specs.Ready.{ready_on, picked}
use Rattle.hba_program.specs.Wires.{Accesses, left_of, SameWriter, SameMarks, TakesOne}
use Rattle.hba_program.specs.declared.hba_tool.session.Session.{Session}
use Rattle.hba_program.specs.Replies.{reply_line}
use Rattle.hba_program.specs.declared.hba_lines.reply.Reply.TheVariants as says
use Rattle.hba_program.specs.Steps.{Stand, stand, Works, WorksIf, Rests, TellsUnless, TurnsOn, Turns, RunsOut, DoneLine, DoesLines, ReadsLine, DoesHere}

-- the parts of a stand are all of it
abbrev pub standing : {R W : Type 0} → State → Option KeptReasons → List DeniedCommand → Wire R W
    → Stand R W
standing hba kept denials wire = record {
  hba = hba;
  kept = kept;
  denials = denials;
  wire = wire;
}

pub same_stand : {R W : Type 0} (hba hba2 : State) (kept kept2 : Option KeptReasons)
    (denials denials2 : List DeniedCommand) (wire wire2 : Wire R W) → hba2 ≡ hba → kept2 ≡ kept
    → denials2 ≡ denials → wire2 ≡ wire
    → standing hba2 kept2 denials2 wire2 ≡ standing hba kept denials wire
same_stand hba hba2 kept kept2 denials denials2 wire wire2 h k d w =
    ap (λ x. standing x kept2 denials2 wire2) h ∙ ap (λ x. standing hba x denials2 wire2) k
    ∙ ap (λ x. standing hba kept x wire2) d ∙ ap (λ x. standing hba kept denials x) w

pub turns_none : {R W : Type 0} (remaining : R → Option (List ℕ)) (contents : W → Option (List ℕ))
    (number : ℕ) (before : Stand R W) → TurnsOn remaining contents number 0 before before
unfolding TurnsOn
turns_none remaining contents number before = refl

pub turns_more : {R W : Type 0} (remaining : R → Option (List ℕ)) (contents : W → Option (List ℕ))
    (number n : ℕ) (before middle after : Stand R W)
    → TurnsOn remaining contents number n before middle
    → Turns remaining contents number 0 middle after
    → TurnsOn remaining contents number (n + 1) before after
unfolding TurnsOn
turns_more remaining contents number n before middle after so_far turn = rw add-one (middle, so_far, turn)

pub turns_still : {R W : Type 0} (remaining : R → Option (List ℕ)) (contents : W → Option (List ℕ))
    (number n : ℕ) (before middle after : Stand R W)
    → TurnsOn remaining contents number n before middle
    → after ≡ middle → TurnsOn remaining contents number n before after
turns_still remaining contents number n before middle after so_far same =
    subst (λ s. TurnsOn remaining contents number n before s) (sym same) so_far

pub lines_none : {R W : Type 0} (remaining : R → Option (List ℕ)) (contents : W → Option (List ℕ))
    (before : Stand R W) → DoesLines remaining contents 0 [] before before
unfolding DoesLines
lines_none remaining contents before = (refl, refl)

pub lines_more : {R W : Type 0} (remaining : R → Option (List ℕ)) (contents : W → Option (List ℕ))
    (n : ℕ) (earlier : List DoneLine) (before middle reading after : Stand R W)
    → DoesLines remaining contents n earlier before middle
    → ReadsLine remaining true middle reading → DoesHere remaining contents (n + 1) reading after
    → DoesLines remaining contents (n + 1) (record { number = n + 1; hba = after.hba } ∷ earlier) before after
unfolding DoesLines
lines_more remaining contents n earlier before middle reading after so_far reads does =
    subst (λ k. DoesLines remaining contents k (record { number = n + 1; hba = after.hba } ∷ earlier) before after)
    (sym (add-one n)) (middle, reading, earlier, so_far, reads, does, refl)

-- a work with what is told of it, by the controller as the work left it
pub works_of : {R W : Type 0} (remaining : R → Option (List ℕ)) (contents : W → Option (List ℕ))
    (number choice : ℕ) (told : Told) (turned : TurnedHeard) (before after : Stand R W) (hba : State)
    → picked choice (ready_on before.hba) ≡ Some turned.work
    → HearsTo (Accesses remaining contents) before.hba before.wire hba after.wire turned
    → after.hba ≡ hba → told.reply ≡ work_reply turned.work turned.done
    → after.denials ≡ before.denials ++ kept_denial hba.acts (work_tag turned.work) (denial_heard turned.heard) told.reasons.items
    → ((old : State) (operation : Operation) → before.hba.acts ≡ old.acts → is_some (done_of operation) ≡ true
    → HearsOperation old hba turned.heard operation
    → ExplainsOperation (source_at number (work_tag turned.work)) before.kept after.kept old operation told.reasons.items)
    → after.wire.failure ≡ None → Works remaining contents number choice told before after
works_of remaining contents number choice told turned before after hba is_picked does same reply keeps explains stands =
    let all = subst (λ (s : State). HearsTo (Accesses remaining contents) before.hba before.wire s after.wire turned
    × (after.denials ≡ before.denials ++ kept_denial s.acts (work_tag turned.work) (denial_heard turned.heard) told.reasons.items)
    × ((old : State) (operation : Operation) → before.hba.acts ≡ old.acts → is_some (done_of operation) ≡ true
    → HearsOperation old s turned.heard operation
    → ExplainsOperation (source_at number (work_tag turned.work)) before.kept after.kept old operation told.reasons.items))
    (sym same) (does, keeps, explains) in
    record {
      turned = turned;
      is_picked = is_picked;
      does = all.0;
      is_reply = reply;
      explains = all.2 before.hba all.0.1 refl (ap is_some all.0.3)
          (λ o list a. let t = all.0.4 o list a in (t.agrees, t.told));
      keeps = all.1;
      stands = stands;
    }

-- a work, and its last line unless the input ended
pub turn_of : {R W : Type 0} (remaining : R → Option (List ℕ)) (contents : W → Option (List ℕ))
    (number choice : ℕ) (is_cut_off : Bool) (told : Option Told) (before middle after : Stand R W)
    → WorksIf remaining contents number choice told before middle
    → middle.wire.is_cut_off ≡ is_cut_off
    → TellsUnless remaining contents is_cut_off (work_text told) middle after
    → Turns remaining contents number choice before after
turn_of remaining contents number choice is_cut_off told before middle after works ends tells = record {
  told = told;
  middle = middle;
  works = works;
  tells = subst (λ b. TellsUnless remaining contents b (work_text told) middle after) (sym ends) tells;
}

-- turns, and what is told of them unless the input ended
pub run_of : {R W : Type 0} (remaining : R → Option (List ℕ)) (contents : W → Option (List ℕ))
    (number count : ℕ) (is_cut_off : Bool) (before middle after : Stand R W)
    → TurnsOn remaining contents number count before middle → middle.wire.is_cut_off ≡ is_cut_off
    → TellsUnless remaining contents is_cut_off (reply_line (says.Ran count)) middle after
    → (middle.wire.is_cut_off ≡ false → count < 2 ^ 32 - 1 → ready_on middle.hba ≡ [])
    → RunsOut remaining contents number before after
run_of remaining contents number count is_cut_off before middle after turns ends tells idle = record {
  count = count;
  middle = middle;
  turns = turns;
  tells = subst (λ b. TellsUnless remaining contents b (reply_line (says.Ran count)) middle after) (sym ends) tells;
  idle = idle;
}

pub none_is_same : {R W : Type 0} (remaining : R → Option (List ℕ)) (contents : W → Option (List ℕ))
    (number choice : ℕ) (told : Option Told) (before after : Stand R W) → told ≡ None
    → WorksIf remaining contents number choice told before after → Rests before after
none_is_same remaining contents number choice told before after is works =
    subst (λ t. WorksIf remaining contents number choice t before after) is works

pub not_both : {A : Type 0} (b : Bool) → b ≡ true → b ≡ false → A
not_both b is other = absurd (true≢false (sym is ∙ other))

pub reads_line : {R W : Type 0} (remaining : R → Option (List ℕ)) (is_line b : Bool)
    (session : Session) (old new : Wire R W) → is_line ≡ b
    → IfSome (left_of remaining old) (λ text. TakesOne is_line new.line.items text (left_of remaining new))
    → SameWriter old new → new.output.now ≡ old.output.now → SameMarks old new
    → ReadsLine remaining b (stand session old) (stand session new)
reads_line remaining is_line b session old new is taken same unwritten marks = record {
  hba = refl;
  kept = refl;
  denials = refl;
  taken = subst (λ x. IfSome (left_of remaining old) (λ text. TakesOne x new.line.items text (left_of remaining new))) is taken;
  same = same;
  unwritten = unwritten;
  marks = marks;
}

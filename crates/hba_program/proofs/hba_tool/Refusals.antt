-- What is told of operations: by the acts that they add, one or none.
use Rattle.std.proofs.Common.{◌≡◌, ◌∙◌, ℕ, ◌-◌, ◌%◌, ◌^◌, Bool, true, false, List, [], ◌∷◌, take, length, append-nil, refl, sym, ap, subst, arith, Option, Some, None, true≢false}
use Rattle.std.specs.Prelude.{suc, is_some, if◌then◌else◌}
use Rattle.trusted_cmds.specs.declared.command.Command.{Command}
use Rattle.trusted_cmds.specs.declared.command.Command.TheVariants.{WriteQueued}
use Rattle.sp_cells.specs.Resets.{power_cycle, hardware}
use Rattle.history.specs.Opening.{Origin}
use Rattle.history.specs.Events.{HeldCommand}
use Rattle.history.specs.Decisions.{completed, completed_by}
use Rattle.history.specs.History.{Act, Accept, Complete, Reset, SoftwareReset, log, event}
use Rattle.history.specs.Readers.{held}
use Rattle.drive.specs.State.{Agrees}
use Rattle.reasons.specs.declared.explained.onset.Source.{Source}
use Rattle.reasons.specs.declared.explained.onset.Cause.{Cause}
use Rattle.reasons.specs.declared.explained.onset.Cause.TheVariants.{NoCause, ResetBy}
use Rattle.reasons.specs.Onsets.{Sourced, from_source, bare_acts, with_act, cause_at}
use Rattle.drive_scripts.specs.Kept.{KeptReasons, RecountsAll}
use Rattle.drive_scripts.specs.Explanations.{no_objection, objection_in, objection_text, told_reasons}
use Rattle.drive_scripts.proofs.Added.{attributed_none, attributed_one, bare_none, bare_one, reasons_of_none, reasons_of_reset}
use Rattle.hba.specs.declared.work.Heard.{Heard}
use Rattle.host_memory.specs.declared.width.AddressWidth.{AddressWidth}
use Rattle.hba.specs.Registers.{write_resets}
use Rattle.hba.specs.History.{over_new_by, State, Operation, Wrote, Powered, Signed, Missed, Controlled, Asserted, Restarted, Unheard, Fetched, Completed, HasActed, AgreesHba, Adds, HeardSo, account, acts_of, act_count}
use Rattle.hba.specs.Engine.{done_of}
use Rattle.hba_program.specs.Explained.{ExplainsActs, ExplainsSo, HearsOperation, IsOwn}

-- where nothing was done before, all acts are these
drive_of_new : (width : AddressWidth) (hba : State) (o : Origin) (acts : List Act) → HasActed hba (over_new_by width o) acts → Agrees hba.drive o acts
drive_of_new width hba o acts acted = subst (λ (all : List Act). Agrees hba.drive o all) (append-nil acts) acted.drive

-- an act more is counted
count_grows : (n : ℕ) → suc n % 2 ^ 64 ≡ n % 2 ^ 64 → ⊥
count_grows n e = omega (arith, e)

-- an act that is noted, and none
noted_act : (source : Source) (o : Origin) (past : List Sourced) (act : Act) (kept : KeptReasons)
    → RecountsAll kept o (from_source source act ∷ past) → told_reasons o past (act ∷ bare_acts past) ≡ []
    → ExplainsActs source o past (act ∷ bare_acts past) kept []
noted_act source o past act kept recounts silent = record {
  bare = bare_one source act past;
  recounts = subst (λ (p : List Sourced). RecountsAll kept o p) (sym (attributed_one source act past)) recounts;
  reasons = sym silent;
}

noted_none : (source : Source) (o : Origin) (past : List Sourced) (kept : KeptReasons) → RecountsAll kept o past
    → ExplainsActs source o past (bare_acts past) kept []
noted_none source o past kept recounts = record {
  bare = bare_none source past;
  recounts = subst (λ (p : List Sourced). RecountsAll kept o p) (sym (attributed_none source past)) recounts;
  reasons = sym (reasons_of_none o past);
}

pub noted : (width : AddressWidth) (source : Source) (o : Origin) (past : List Sourced) (act : Option Act) (kept : KeptReasons) (hba : State)
    (count : ℕ) → (hba.acts ≡ count → ⊥) → told_reasons o past (with_act act (bare_acts past)) ≡ []
    → HasActed hba (over_new_by width o) (with_act act (bare_acts past)) → count ≡ act_count (bare_acts past)
    → ((a : Act) → act ≡ Some a → Agrees hba.drive o (a ∷ bare_acts past) → RecountsAll kept o (from_source source a ∷ past))
    → ExplainsActs source o past (with_act act (bare_acts past)) kept []
noted width source o past None kept hba count differs silent acted is recounts = absurd (differs (acted.count ∙ sym is))
noted width source o past (Some act) kept hba count differs silent acted is recounts =
    noted_act source o past act kept (recounts act refl (drive_of_new width hba o (act ∷ bare_acts past) acted)) silent

pub unnoted : (width : AddressWidth) (source : Source) (o : Origin) (past : List Sourced) (act : Option Act) (kept : KeptReasons) (hba : State)
    (count : ℕ) → hba.acts ≡ count → HasActed hba (over_new_by width o) (with_act act (bare_acts past)) → count ≡ act_count (bare_acts past)
    → RecountsAll kept o past → ExplainsActs source o past (with_act act (bare_acts past)) kept []
unnoted width source o past None kept hba count same acted is recounts = noted_none source o past kept recounts
unnoted width source o past (Some act) kept hba count same acted is recounts =
    absurd (count_grows (length (bare_acts past)) (sym acted.count ∙ same ∙ is))

-- a completion and a software reset deny nothing

take_one : {A : Type 0} (n m : ℕ) (x : A) (xs : List A) → n ≡ m → take (suc n - m) (x ∷ xs) ≡ x ∷ []
take_one n m x xs e = let one : suc n - m ≡ 1 = omega arith in ap (λ k. take k (x ∷ xs)) one

reasons_of_one : (o : Origin) (past : List Sourced) (act : Act)
    → objection_in (event o (log o (bare_acts past)) act ∷ []) ≡ no_objection
    → objection_text o past (act ∷ bare_acts past) no_objection ≡ [] → told_reasons o past (act ∷ bare_acts past) ≡ []
reasons_of_one o past act silent none =
    ap (λ events. objection_text o past (act ∷ bare_acts past) (objection_in events))
    (take_one (length (bare_acts past)) (length (bare_acts past)) (event o (log o (bare_acts past)) act) (log o (bare_acts past)) refl)
    ∙ ap (objection_text o past (act ∷ bare_acts past)) silent ∙ none

silent_command : (tag : ℕ) (bytes : List ℕ) (command : Command)
    → objection_in (completed_by tag bytes command ∷ []) ≡ no_objection
silent_command tag bytes (WriteQueued lba count) = refl
silent_command tag bytes _ = refl

silent_held : (tag : ℕ) (bytes : List ℕ) (h : Option HeldCommand) → objection_in (completed tag bytes h ∷ []) ≡ no_objection
silent_held tag bytes None = refl
silent_held tag bytes (Some h) = silent_command tag bytes h.command

reasons_of_completion : (o : Origin) (past : List Sourced) (tag : ℕ) (bytes : List ℕ)
    → told_reasons o past (Complete tag bytes ∷ bare_acts past) ≡ []
reasons_of_completion o past tag bytes =
    reasons_of_one o past (Complete tag bytes) (silent_held tag bytes (held (log o (bare_acts past)) tag)) refl

reasons_of_restart : (o : Origin) (past : List Sourced) → told_reasons o past (SoftwareReset ∷ bare_acts past) ≡ []
reasons_of_restart o past = reasons_of_one o past SoftwareReset refl refl

-- what `explain_command` and `note_act` promise
abbrev pub TellsCommand : Source → KeptReasons → KeptReasons → State → Heard → List ℕ → Type 0
TellsCommand source old new hba heard text =
    (o : Origin) (past : List Sourced) (fis payload : List ℕ)
    → HeardSo heard fis payload (event o (log o (bare_acts past)) (Accept fis payload))
    → Agrees hba.drive o (Accept fis payload ∷ bare_acts past) → RecountsAll old o past
    → ExplainsActs source o past (Accept fis payload ∷ bare_acts past) new text

abbrev pub NotesAct : Source → Cause → KeptReasons → KeptReasons → State → ℕ → Type 0
NotesAct source cause old new hba count =
    (width : AddressWidth) (o : Origin) (past : List Sourced) (act : Option Act) → (is_some act ≡ true → cause_at act ≡ cause)
    → told_reasons o past (with_act act (bare_acts past)) ≡ []
    → HasActed hba (over_new_by width o) (with_act act (bare_acts past)) → count ≡ act_count (bare_acts past) → RecountsAll old o past
    → ExplainsActs source o past (with_act act (bare_acts past)) new []

by_act : (source : Source) (cause : Cause) (old new : KeptReasons) (before after : State) (count : ℕ) (width : AddressWidth) (o : Origin)
    (list : List Operation) (past : List Sourced) (act : Option Act) → NotesAct source cause old new after count
    → count ≡ before.acts → AgreesHba before (over_new_by width o) list → bare_acts past ≡ acts_of (over_new_by width o) list → RecountsAll old o past
    → (is_some act ≡ true → cause_at act ≡ cause) → told_reasons o past (with_act act (bare_acts past)) ≡ []
    → HasActed after (over_new_by width o) (with_act act (acts_of (over_new_by width o) list)) → ExplainsActs source o past (with_act act (acts_of (over_new_by width o) list)) new []
by_act source cause old new before after count width o list past act notes is agrees bare kept by silent acted =
    subst (λ (acts : List Act). ExplainsActs source o past (with_act act acts) new []) bare
    (notes width o past act by silent (subst (λ (acts : List Act). HasActed after (over_new_by width o) (with_act act acts)) (sym bare) acted)
    (is ∙ agrees.acted.count ∙ ap act_count (sym bare)) kept)

no_some : {A B : Type 0} (x : A) → Some x ≡ None → B
no_some x e = absurd (true≢false (ap is_some e))

abbrev no_act : Option Act
no_act = None

none_by : (cause : Cause) → is_some no_act ≡ true → cause_at no_act ≡ cause
none_by cause e = absurd (true≢false (sym e))

pub explained_command : (source : Source) (old new : KeptReasons) (before after : State) (operation : Operation)
    (heard : Heard) (text : List ℕ) → TellsCommand source old new after heard text
    → HearsOperation before after (Some heard) operation → ExplainsSo source old new before operation text
explained_command source old new before after (Fetched tag fis payload arrival) heard text tells hears =
    λ width o list past agrees bare kept.
    let h = hears (over_new_by width o) list agrees in
    subst (λ (acts : List Act). ExplainsActs source o past (Accept fis payload ∷ acts) new text) bare
    (tells o past fis payload
    (subst (λ (acts : List Act). HeardSo heard fis payload (event o (log o acts) (Accept fis payload)))
    (append-nil (acts_of (over_new_by width o) list) ∙ sym bare) h.1)
    (subst (λ (acts : List Act). Agrees after.drive o (Accept fis payload ∷ acts)) (sym bare)
    (drive_of_new width after o (Accept fis payload ∷ acts_of (over_new_by width o) list) h.0.acted)) kept)
explained_command source old new before after (Wrote offset value) heard text tells hears =
    λ width o list past agrees bare kept. no_some heard (hears (over_new_by width o) list agrees).1
explained_command source old new before after Powered heard text tells hears =
    λ width o list past agrees bare kept. no_some heard (hears (over_new_by width o) list agrees).1
explained_command source old new before after Signed heard text tells hears =
    λ width o list past agrees bare kept. no_some heard (hears (over_new_by width o) list agrees).1
explained_command source old new before after (Missed fetched miss) heard text tells hears =
    λ width o list past agrees bare kept. no_some heard (hears (over_new_by width o) list agrees).1
explained_command source old new before after (Controlled tag) heard text tells hears =
    λ width o list past agrees bare kept. no_some heard (hears (over_new_by width o) list agrees).1
explained_command source old new before after (Asserted tag) heard text tells hears =
    λ width o list past agrees bare kept. no_some heard (hears (over_new_by width o) list agrees).1
explained_command source old new before after (Restarted tag) heard text tells hears =
    λ width o list past agrees bare kept. no_some heard (hears (over_new_by width o) list agrees).1
explained_command source old new before after (Unheard tag) heard text tells hears =
    λ width o list past agrees bare kept. no_some heard (hears (over_new_by width o) list agrees).1
explained_command source old new before after (Completed tag payload arrival) heard text tells hears =
    λ width o list past agrees bare kept. no_some heard (hears (over_new_by width o) list agrees).1

by_none : (source : Source) (old new : KeptReasons) (before after : State) (count : ℕ) (width : AddressWidth) (o : Origin)
    (list : List Operation) (past : List Sourced) → NotesAct source NoCause old new after count
    → count ≡ before.acts → AgreesHba before (over_new_by width o) list → bare_acts past ≡ acts_of (over_new_by width o) list → RecountsAll old o past
    → HasActed after (over_new_by width o) (acts_of (over_new_by width o) list) → ExplainsActs source o past (acts_of (over_new_by width o) list) new []
by_none source old new before after count width o list past notes is agrees bare kept acted =
    by_act source NoCause old new before after count width o list past None notes is agrees bare kept (none_by NoCause)
    (reasons_of_none o past) acted

pub explained_other : (source : Source) (old new : KeptReasons) (before after : State) (operation : Operation) (count : ℕ)
    → NotesAct source NoCause old new after count → count ≡ before.acts → is_some (done_of operation) ≡ true
    → HearsOperation before after None operation → ExplainsSo source old new before operation []
explained_other source old new before after (Wrote offset value) count notes is works hears =
    absurd (true≢false (sym works))
explained_other source old new before after Powered count notes is works hears = absurd (true≢false (sym works))
explained_other source old new before after Signed count notes is works hears = λ width o list past agrees bare kept.
    by_none source old new before after count width o list past notes is agrees bare kept (hears (over_new_by width o) list agrees).0.acted
explained_other source old new before after (Missed fetched miss) count notes is works hears = λ width o list past agrees bare kept.
    by_none source old new before after count width o list past notes is agrees bare kept (hears (over_new_by width o) list agrees).0.acted
explained_other source old new before after (Controlled tag) count notes is works hears = λ width o list past agrees bare kept.
    by_none source old new before after count width o list past notes is agrees bare kept (hears (over_new_by width o) list agrees).0.acted
explained_other source old new before after (Asserted tag) count notes is works hears = λ width o list past agrees bare kept.
    by_none source old new before after count width o list past notes is agrees bare kept (hears (over_new_by width o) list agrees).0.acted
explained_other source old new before after (Unheard tag) count notes is works hears = λ width o list past agrees bare kept.
    by_none source old new before after count width o list past notes is agrees bare kept (hears (over_new_by width o) list agrees).0.acted
explained_other source old new before after (Restarted tag) count notes is works hears = λ width o list past agrees bare kept.
    by_act source NoCause old new before after count width o list past (Some SoftwareReset) notes is agrees bare kept (λ e. refl)
    (reasons_of_restart o past) (hears (over_new_by width o) list agrees).0.acted
explained_other source old new before after (Completed tag payload arrival) count notes is works hears = λ width o list past agrees bare kept.
    by_act source NoCause old new before after count width o list past (Some (Complete tag payload)) notes is agrees bare kept (λ e. refl)
    (reasons_of_completion o past tag payload) (hears (over_new_by width o) list agrees).0.acted
explained_other source old new before after (Fetched tag fis payload arrival) count notes is works hears = λ width o list past agrees bare kept.
    absurd (hears (over_new_by width o) list agrees).1

by_reset : (b : Bool) (source : Source) (old new : KeptReasons) (before after : State) (count : ℕ) (width : AddressWidth) (o : Origin)
    (list : List Operation) (past : List Sourced) → NotesAct source (ResetBy hardware) old new after count
    → count ≡ before.acts → AgreesHba before (over_new_by width o) list → bare_acts past ≡ acts_of (over_new_by width o) list → RecountsAll old o past
    → HasActed after (over_new_by width o) (if b then Reset hardware ∷ acts_of (over_new_by width o) list else acts_of (over_new_by width o) list)
    → ExplainsActs source o past (if b then Reset hardware ∷ acts_of (over_new_by width o) list else acts_of (over_new_by width o) list) new []
by_reset true source old new before after count width o list past notes is agrees bare kept acted =
    by_act source (ResetBy hardware) old new before after count width o list past (Some (Reset hardware)) notes is agrees bare kept (λ e. refl)
    (reasons_of_reset o past hardware) acted
by_reset false source old new before after count width o list past notes is agrees bare kept acted =
    by_act source (ResetBy hardware) old new before after count width o list past None notes is agrees bare kept (none_by (ResetBy hardware))
    (reasons_of_none o past) acted

pub explained_own : (source : Source) (cause : Cause) (old new : KeptReasons) (before after : State) (count : ℕ)
    (operation : Operation) → NotesAct source cause old new after count → count ≡ before.acts → IsOwn operation cause
    → Adds operation before after → ExplainsSo source old new before operation []
explained_own source cause old new before after count (Wrote offset value) notes is by adds = λ width o list past agrees bare kept.
    by_reset (write_resets (account (over_new_by width o) list).registers offset value) source old new before after count width o list past
    (subst (λ (c : Cause). NotesAct source c old new after count) by notes) is agrees bare kept (adds (over_new_by width o) list agrees).acted
explained_own source cause old new before after count Powered notes is by adds = λ width o list past agrees bare kept.
    by_act source (ResetBy power_cycle) old new before after count width o list past (Some (Reset power_cycle))
    (subst (λ (c : Cause). NotesAct source c old new after count) by notes) is agrees bare kept (λ e. refl)
    (reasons_of_reset o past power_cycle) (adds (over_new_by width o) list agrees).acted
explained_own source cause old new before after count Signed notes is by adds = absurd by
explained_own source cause old new before after count (Missed fetched miss) notes is by adds = absurd by
explained_own source cause old new before after count (Controlled tag) notes is by adds = absurd by
explained_own source cause old new before after count (Asserted tag) notes is by adds = absurd by
explained_own source cause old new before after count (Restarted tag) notes is by adds = absurd by
explained_own source cause old new before after count (Unheard tag) notes is by adds = absurd by
explained_own source cause old new before after count (Fetched tag fis payload arrival) notes is by adds = absurd by
explained_own source cause old new before after count (Completed tag payload arrival) notes is by adds = absurd by

-- What a call of the drive leaves is what the call from outside says: the FIS and the tag are those that were given, and
-- the drive before it is the one that forgot its last answer.
use mathlib.Core.Bool.{true≢false}
use Rattle.std.specs.Prelude.{is_some}
use Rattle.std.proofs.Common.{◌≡◌, ◌==◌, ℕ, ◌+◌, ◌%◌, ◌^◌, true, false, List, ◌∷◌, Option, None, Some, refl, sym, ap, subst, ◌∙◌}
use Rattle.library_calls.specs.Refusals.{code_of_call}
use Rattle.library_calls.specs.declared.byte_calls.error.CallError.{CallError}
use Rattle.library_calls.specs.declared.byte_calls.error.CallError.TheVariants.{OutOfMemory, NotOpen, OtherKind, Null, Length, Tag, Number, NotHeld, Room, InUse, NoRange, Overlap, Beyond, Malformed, Sectors, Shadow, Msid, Profile, Serial, Model, Psid, Datastore, RangeTwice, VersionDiffers, Shared, Misaligned, Busy, Seed}
use Rattle.fis.specs.H2d.{h2d_at}
use Rattle.history.specs.Opening.{Origin}
use Rattle.history.specs.Facts.{facts}
use Rattle.history.specs.History.{Act, Accept, Complete, log, event}
use Rattle.history.specs.Readers.{held}
use Rattle.drive.specs.State.{DriveState, Agrees}
use Rattle.drive.specs.Answers.{IsAnswer, IsCompletion}
use Rattle.drive.specs.declared.answer.Completed.{Completed}
use Rattle.opalport_c.specs.Answers.{refused_answer}
use Rattle.opalport_c.specs.Calls.{IsCopyFault}
use Rattle.opalport_c.specs.Desks.{TakesCommand, CompletesHeld, IsFirstFault, IsRefusedAs, IsCalled}
use Rattle.opalport_c.specs.declared.answer.Answer.{Answer}
use Rattle.opalport_c.specs.declared.object.Object.{Object}
use Rattle.opalport_c.specs.declared.drive_desk.DriveDesk.{DriveDesk}

pub took : (old new : DriveDesk) (mid : DriveState) (given fis payload : List ℕ) → given ≡ fis → mid ≡ old.drive
    → ((o : Origin) (acts : List Act) → Agrees mid o acts → Agrees new.drive o (Accept given payload ∷ acts))
    → ((o : Origin) (acts : List Act) → Agrees mid o acts
    → IsAnswer (facts o (log o acts)) (h2d_at given) (event o (log o acts) (Accept given payload)) new.answer)
    → new.done ≡ None → new.acts ≡ (old.acts + 1) % 2 ^ 64 → new.answered ≡ (old.acts + 1) % 2 ^ 64
    → TakesCommand old new fis payload
took old new mid given fis payload e d agrees answer last acts answered = record {
  agrees = λ o list a. subst (λ (f : List ℕ). Agrees new.drive o (Accept f payload ∷ list)) e
      (agrees o list (subst (λ (x : DriveState). Agrees x o list) (sym d) a));
  answer = λ o list a. subst (λ (f : List ℕ). IsAnswer (facts o (log o list)) (h2d_at f) (event o (log o list) (Accept f payload)) new.answer) e
      (answer o list (subst (λ (x : DriveState). Agrees x o list) (sym d) a));
  last = last;
  acts = acts;
  answered = answered;
}

pub completed : (old new : DriveDesk) (mid : DriveState) (given tag : ℕ) (payload : List ℕ) (done : Completed) → given ≡ tag → mid ≡ old.drive
    → ((o : Origin) (acts : List Act) → Agrees mid o acts → Agrees new.drive o (Complete given payload ∷ acts))
    → ((o : Origin) (acts : List Act) → Agrees mid o acts → IsCompletion (facts o (log o acts)) given (held (log o acts) given) done)
    → new.done ≡ Some done → new.acts ≡ (old.acts + 1) % 2 ^ 64 → CompletesHeld old new tag payload
completed old new mid given tag payload done e d agrees answer last acts = record {
  agrees = λ o list a. subst (λ (t : ℕ). Agrees new.drive o (Complete t payload ∷ list)) e
      (agrees o list (subst (λ (x : DriveState). Agrees x o list) (sym d) a));
  gives = (
    done,
    last,
    λ o list a. subst (λ (t : ℕ). IsCompletion (facts o (log o list)) t (held (log o list) t) done) e
        (answer o list (subst (λ (x : DriveState). Agrees x o list) (sym d) a)),
  );
  acts = acts;
}

-- No refusal has the number of a call that was done.
is_refusal : (error : CallError) → (code_of_call error == 0) ≡ false
is_refusal OutOfMemory = refl
is_refusal NotOpen = refl
is_refusal OtherKind = refl
is_refusal Null = refl
is_refusal Length = refl
is_refusal Tag = refl
is_refusal Number = refl
is_refusal NotHeld = refl
is_refusal Room = refl
is_refusal InUse = refl
is_refusal NoRange = refl
is_refusal Overlap = refl
is_refusal Beyond = refl
is_refusal Malformed = refl
is_refusal Sectors = refl
is_refusal Shadow = refl
is_refusal Msid = refl
is_refusal Profile = refl
is_refusal Serial = refl
is_refusal Model = refl
is_refusal Psid = refl
is_refusal Datastore = refl
is_refusal RangeTwice = refl
is_refusal VersionDiffers = refl
is_refusal Shared = refl
is_refusal Misaligned = refl
is_refusal Busy = refl
is_refusal Seed = refl

pub not_done : (error : CallError) → code_of_call error ≡ 0 → ⊥
not_done error e = true≢false (sym (ap (λ (n : ℕ). n == 0) e) ∙ is_refusal error)

some_is : {A : Type 0} (x : A) → Some x ≡ None → ⊥
some_is {A} x e = true≢false (ap (λ (o : Option A). is_some o) e)

-- A call that was refused.
refused_as : (fault : Option CallError) (old new : DriveDesk) (error : CallError) (does : Type 0) → IsRefusedAs fault old new
    → IsFirstFault fault error → IsCalled fault old new (refused_answer error) does
refused_as None old new error does same first = record {
  done = λ e. absurd (not_done error e);
  told = λ e. absurd (not_done error e);
  refused = λ _. same.drive;
  undone = λ _. same;
  first = tt;
  memory = λ _ _. ap refused_answer first;
}
refused_as (Some fault) old new error does same first = record {
  done = λ e. absurd (not_done error e);
  told = λ e. absurd (not_done error e);
  refused = λ _. ap (λ (desk : DriveDesk). desk.drive) same;
  undone = λ _. same;
  first = ap refused_answer first;
  memory = λ none _. absurd (some_is fault none);
}

pub refused_call : (fault : Option CallError) (old new : DriveDesk) (answer : Answer) (error : CallError) (does : Type 0) → answer ≡ refused_answer error
    → IsRefusedAs fault old new → IsFirstFault fault error → IsCalled fault old new answer does
refused_call fault old new answer error does is same first =
    subst (λ (a : Answer). IsCalled fault old new a does) (sym is) (refused_as fault old new error does same first)

-- What is not something is nothing.
pub none_of : {A : Type 0} (o : Option A) → is_some o ≡ false → o ≡ None
none_of None e = refl
none_of (Some x) e = absurd (true≢false e)

-- a handle that has something is in use
pub in_use : (had from : Option Object) → is_some had ≡ true → IsCopyFault had from InUse
in_use None from there = absurd (true≢false (sym there))
in_use (Some object) from there = refl

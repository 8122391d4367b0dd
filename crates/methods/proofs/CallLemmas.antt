-- What is answered, and made of the store and of the sessions, is what was judged: of a refusal, of results, of a Set, an
-- attempt, an Activate and a Revert.
use Rattle.std.proofs.Common.{◌≡◌, ℕ, ◌+◌, ◌==◌, true, false, ◌||◌, List, Option, None, refl, sym, subst, ◌∙◌, ap, if◌then◌else◌}
use Rattle.std.specs.Prelude.{Result, Ok, Err, IfOk, ◌-◌, nat_le, nat_lt}
use Rattle.sp_cells.specs.declared.names.Uid.{Uid}
use Rattle.audit.specs.declared.reason.AttemptFailure.{AttemptFailure}
use Rattle.audit.specs.declared.rules.rule.Rule.{Rule}
use Rattle.audit.specs.declared.rules.rule.Rule.TheVariants.{OutsideTable, TooLong}
use Rattle.tcg_calls.specs.Limits.{most_response}
use Rattle.tcg_calls.specs.Statuses.{invalid_parameter, response_overflow}
use Rattle.tcg_calls.specs.declared.call_shapes.ask.Ask.{Ask}
use Rattle.tcg_calls.specs.declared.call_shapes.ask.Ask.TheVariants.{GetCells, GetBytes, SetCells, SetBytes, Authenticate, Activate, Revert, GenKey, RevertSp, Next, GetAcl, Random, Other}
use Rattle.tcg_tokens.specs.Tree.{Tree}
use Rattle.tcg_tokens.specs.Message.{message}
use Rattle.transactions.specs.declared.change.SessionId.{SessionId}
use Rattle.transactions.specs.Stored.{Stored}
use Rattle.shadow_mbr.specs.Erasure.{no_sectors}
use Rattle.sessions.specs.Answers.{rows_in_force, attempt, after_attempt, gaining_if}
use Rattle.sessions.specs.Deeds.{Setting}
use Rattle.sessions.specs.Live.{Live, session_at, AreOnOwnSps}
use Rattle.sp_cells.specs.Config.{table_sectors}
use Rattle.sessions.specs.Made.{CanSet, set_stored, StoresAs}
use Rattle.methods.specs.declared.kinds.Handler.TheVariants as handlers
use Rattle.methods.specs.declared.outcome.Outcome.{Outcome}
use Rattle.methods.specs.declared.outcome.MethodFault.{MethodFault}
use Rattle.methods.specs.Kinds.{kind_of}
use Rattle.methods.specs.Said.{done, attempt_reply, attempt_denied}
use Rattle.methods.specs.Effects.{has_ask, handles, live_holder, last_row}
use Rattle.methods.specs.Judgement.{Standing, Judgement, Refuses, Attempts, gives, bytes_between, rows_given, bytes_given, to_set, makes, does_ask, does}
use Rattle.methods.specs.Calls.{outcome_in, Fulfils, Tells}
use Rattle.methods.proofs.AttemptLemmas.{attempt-stores, gained-at, alone-at}

-- a judgement that is the same
pub tells-as : (x y : Judgement) (out : Outcome) → x ≡ y → Tells x out → Tells y out
tells-as x y out is h = subst (λ j. Tells j out) is h

pub fulfils-as : (x y : Judgement) (session : SessionId) (out : Outcome) (s t : Stored) (l m : Live) → x ≡ y → Fulfils (outcome_in s session x) out s t l m → Fulfils (outcome_in s session y) out s t l m
fulfils-as x y session out s t l m is h = subst (λ j. Fulfils (outcome_in s session j) out s t l m) is h

pub told-in : (j : Judgement) (session : SessionId) (r : Result Outcome MethodFault) (s : Stored) (l : Live) → IfOk r (Tells j) → IfOk r (λ out. Fulfils (outcome_in s session j) out s s l l)
told-in j session (Ok out) s l h = h (rows_in_force s) session.sp s l
told-in j session (Err e) s l h = tt

pub judged-as : (x y : Judgement) (session : SessionId) (r : Result Outcome MethodFault) (s t : Stored) (l m : Live) → x ≡ y
    → IfOk r (λ out. Fulfils (outcome_in s session x) out s t l m) → IfOk r (λ out. Fulfils (outcome_in s session y) out s t l m)
judged-as x y session r s t l m is h = subst (λ j. IfOk r (λ out. Fulfils (outcome_in s session j) out s t l m)) is h

-- a Get of bytes within the table, and of no more than a response carries
pub bytes-told : (room : ℕ) (byte : ℕ → ℕ) (size first last : ℕ) (to : Option ℕ) (values : List Tree) → last_row size to ≡ last → (size == 0) ≡ false → nat_le size last ≡ false → nat_lt last first ≡ false → nat_lt room (last + 1 - first) ≡ false
    → values ≡ bytes_between byte first last → gives room values ≡ bytes_given room byte size first to
bytes-told room byte size first last to values is some below above few same =
    ap (gives room) same
    ∙ sym (ap (rows_given room byte size first) is
    ∙ ap (λ b. if b || (nat_le size last || nat_lt last first) then Refuses invalid_parameter OutsideTable else (if nat_lt room (last + 1 - first) then Refuses response_overflow TooLong else gives room (bytes_between byte first last))) some
    ∙ ap (λ b. if b || nat_lt last first then Refuses invalid_parameter OutsideTable else (if nat_lt room (last + 1 - first) then Refuses response_overflow TooLong else gives room (bytes_between byte first last))) below
    ∙ ap (λ b. if b then Refuses invalid_parameter OutsideTable else (if nat_lt room (last + 1 - first) then Refuses response_overflow TooLong else gives room (bytes_between byte first last))) above
    ∙ ap (λ b. if b then Refuses response_overflow TooLong else gives room (bytes_between byte first last)) few)

-- what may have changed something does not tell that nothing changed
pub changed : {A : Type 0} (out : Outcome) → out.changes ≡ true → out.changes ≡ false → A
changed out h k = absurd (let differ : true ≡ false = sym h ∙ k in cc)

-- a Set
pub set-made : (x : Result Setting Rule) (set : Setting) (session : SessionId) (out : Outcome) (s t : Stored) (l : Live) → x ≡ Ok set → CanSet (table_sectors s.config) session.sp set
    → message out.reply ≡ done → out.denied ≡ None → out.rule ≡ None → out.erases ≡ no_sectors → out.changes ≡ true → t ≡ set_stored s session.sp set → Fulfils (outcome_in s session (makes x)) out s t l l
set-made x set session out s t l is can answer denied rule erases changes store =
    subst (λ y. Fulfils (outcome_in s session (makes y)) out s t l l) (sym is)
    (record {
      met = record { answer = answer; denied = denied; rule = rule; erases = erases; store = (can, store); sessions = record { next = refl; at = λ n. refl }; beside = refl };
      unchanged = λ h. changed out changes h;
    })

-- an attempt
pub attempts : (authority : Uid) (pin : List ℕ) (session : SessionId) (out : Outcome) (s t : Stored) (l m : Live) → AreOnOwnSps l.sessions → (live_holder l session ≡ None → ⊥)
    → message out.reply ≡ attempt_reply (attempt l.beside.block s session.sp authority pin) → out.denied ≡ attempt_denied session.sp authority (attempt l.beside.block s session.sp authority pin) → out.rule ≡ None → out.erases ≡ no_sectors
    → (out.changes ≡ false → t ≡ s) → t ≡ after_attempt session.sp authority (attempt l.beside.block s session.sp authority pin) s
    → m.next ≡ l.next → ((n : ℕ) → session_at m n ≡ (if session.tsn == n then gaining_if (rows_in_force s) authority (attempt l.beside.block s session.sp authority pin) (session_at l n) else session_at l n))
    → m.beside ≡ l.beside → Fulfils (outcome_in s session (Attempts l.beside.block authority pin)) out s t l m
attempts authority pin session out s t l m apart lives answer denied rule erases unchanged store next points beside =
    let x : Option AttemptFailure = attempt l.beside.block s session.sp authority pin in
    record {
      met = record {
        answer = answer;
        denied = denied;
        rule = rule;
        erases = erases;
        store = subst (λ (u : Stored). StoresAs (outcome_in s session (Attempts l.beside.block authority pin)).deed s u) (sym store) (attempt-stores s session.sp authority x);
        sessions = record {
          next = next;
          at = λ n. points n ∙ gained-at (rows_in_force s) session authority x n (session_at l n) (alone-at l session apart lives n);
        };
        beside = beside;
      };
      unchanged = unchanged;
    }

-- what is asked, where the object's kind has it
pub asked-is : (its : Standing) (object : Uid) (ask a : Ask) → has_ask (kind_of its.sp object) ask ≡ true → ask ≡ a → does_ask its object a ≡ does its object ask
asked-is its object ask a has is = ap (does_ask its object) (sym is) ∙ sym (ap (λ b. does_ask its object (if b then ask else Other)) has)

pub set-is : (its : Standing) (object : Uid) (ask : Ask) → (handles handlers.WriteCells ask || handles handlers.WriteBytes ask) ≡ true → makes (to_set its object ask) ≡ does_ask its object ask
set-is its object (SetCells ps) h = refl
set-is its object (SetBytes a b) h = refl
set-is its object (GetCells a b) h = cc
set-is its object (GetBytes a b) h = cc
set-is its object (Authenticate a b) h = cc
set-is its object Activate h = cc
set-is its object Revert h = cc
set-is its object GenKey h = cc
set-is its object (RevertSp keep) h = cc
set-is its object (Next after count) h = cc
set-is its object (GetAcl about what) h = cc
set-is its object (Random count) h = cc
set-is its object Other h = cc

pub activate-is : (ask : Ask) → handles handlers.Activate ask ≡ true → ask ≡ Activate
activate-is Activate h = refl
activate-is (GetCells a b) h = cc
activate-is (GetBytes a b) h = cc
activate-is (SetCells ps) h = cc
activate-is (SetBytes a b) h = cc
activate-is (Authenticate a b) h = cc
activate-is Revert h = cc
activate-is GenKey h = cc
activate-is (RevertSp keep) h = cc
activate-is (Next after count) h = cc
activate-is (GetAcl about what) h = cc
activate-is (Random count) h = cc
activate-is Other h = cc

pub gen-key-is : (ask : Ask) → handles handlers.GenKey ask ≡ true → ask ≡ GenKey
gen-key-is GenKey h = refl
gen-key-is (GetCells a b) h = cc
gen-key-is (GetBytes a b) h = cc
gen-key-is (SetCells ps) h = cc
gen-key-is (SetBytes a b) h = cc
gen-key-is (Authenticate a b) h = cc
gen-key-is Activate h = cc
gen-key-is Revert h = cc
gen-key-is (RevertSp keep) h = cc
gen-key-is (Next after count) h = cc
gen-key-is (GetAcl about what) h = cc
gen-key-is (Random count) h = cc
gen-key-is Other h = cc

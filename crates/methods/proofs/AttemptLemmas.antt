-- What an attempt in a session makes of the store and of the sessions is what its deed makes of them.
use Rattle.std.proofs.Common.{◌≡◌, ℕ, ◌==◌, Bool, true, false, ◌||◌, List, [], ◌∷◌, ◌++◌, Option, Some, None, refl, sym, ◌∙◌, ap, cond, eqb-true, eq-eqb, if◌then◌else◌}
use Rattle.sp_cells.specs.declared.names.Uid.{Uid}
use Rattle.sp_cells.specs.declared.names.Sp.{Sp}
use Rattle.sp_cells.specs.declared.names.Sp.TheVariants.{Admin, Locking}
use Rattle.sp_cells.specs.ColumnNames.{class_column}
use Rattle.sp_cells.specs.Flat.{LookUp, sp_eq}
use Rattle.ace_eval.specs.Truth.{has}
use Rattle.audit.specs.declared.reason.AttemptFailure.{AttemptFailure}
use Rattle.audit.specs.declared.reason.AttemptFailure.TheVariants.{WrongPin, LockedOut, Disabled, Blocked, Unknown}
use Rattle.transactions.specs.declared.change.SessionId.{SessionId}
use Rattle.transactions.specs.Stored.{Stored}
use Rattle.sessions.specs.Answers.{rows_in_force, after_attempt, gaining_if}
use Rattle.sessions.specs.Attempts.{object_named, credential}
use Rattle.sessions.specs.Deeds.{gains_of}
use Rattle.sessions.specs.Gains.{with_authority, gained}
use Rattle.sessions.specs.Known.{is_known}
use Rattle.sessions.specs.Live.{Holder, Live, session_at, holder_on, AreOnOwnSps}
use Rattle.sessions.specs.Made.{StoresAttempt, with_each, gains_on}
use Rattle.methods.specs.Effects.{live_holder}

-- the store
pub attempt-stores : (s : Stored) (sp : Sp) (authority : Uid) (x : Option AttemptFailure) → StoresAttempt sp (credential (rows_in_force s) sp authority) x s (after_attempt sp authority x s)
attempt-stores s sp authority None = refl
attempt-stores s sp authority (Some LockedOut) = refl
attempt-stores s sp authority (Some WrongPin) = refl
attempt-stores s sp authority (Some Disabled) = refl
attempt-stores s sp authority (Some Blocked) = refl
attempt-stores s sp authority (Some Unknown) = refl

-- what is gained, behind what is held
or-true : (x y : Bool) → y ≡ true → (x || y) ≡ true
or-true true y h = refl
or-true false y h = h

one-behind : (held : List Uid) (a b : Uid) → (a.0 == b.0) ≡ true → has (held ++ a ∷ []) b ≡ true
one-behind [] a b same = ap (λ x. x || false) same
one-behind (u ∷ us) a b same = or-true (u.0 == b.0) (has (us ++ a ∷ []) b) (one-behind us a b same)

-- one that is held already is not held again
held-too : (held : List Uid) (a b : Uid) → (a.0 == b.0) ≡ true → (y : Bool) → has held a ≡ y → has (cond y held (held ++ a ∷ [])) b ≡ true
held-too held a b same true is = sym (ap (λ n. has held (record { 0 = n })) (eqb-true a.0 b.0 same)) ∙ is
held-too held a b same false is = one-behind held a b same

gained-each : (sp : Sp) (a class : Uid) (held : List Uid) → with_authority sp class (with_authority sp a held) ≡ with_each (with_authority sp class (with_authority sp a [])) held
gained-each sp a class held = by_known (is_known sp a) (is_known sp class)
  where
    more : List Uid
    more = cond (has held a) held (held ++ a ∷ [])

    by_same : (x : Bool) → (a.0 == class.0) ≡ x → cond (has more class) more (more ++ class ∷ []) ≡ with_each (cond (x || false) (a ∷ []) (a ∷ class ∷ [])) held
    by_same true same = ap (λ b. cond b more (more ++ class ∷ [])) (held-too held a class same (has held a) refl)
    by_same false apart = refl

    by_known : (k c : Bool) → cond c (cond (has (cond k more held) class) (cond k more held) (cond k more held ++ class ∷ [])) (cond k more held)
        ≡ with_each (cond c (cond (has (cond k (a ∷ []) []) class) (cond k (a ∷ []) []) (cond k (a ∷ []) [] ++ class ∷ [])) (cond k (a ∷ []) [])) held
    by_known true true = by_same (a.0 == class.0) refl
    by_known true false = refl
    by_known false true = refl
    by_known false false = refl

-- the session of this number alone is on the SP
abbrev pub IsAlone : SessionId → ℕ → Option Holder → Type 0
IsAlone session n o = (h : Holder) → o ≡ Some h → sp_eq h.sp session.sp ≡ (session.tsn == n)

sp-is : (a b : Sp) → sp_eq a b ≡ true → a ≡ b
sp-is Admin Admin is = refl
sp-is Locking Locking is = refl
sp-is Admin Locking is = cc
sp-is Locking Admin is = cc

-- so its holder alone gains
pub gained-at : (rows : LookUp) (session : SessionId) (authority : Uid) (x : Option AttemptFailure) (n : ℕ) (o : Option Holder) → IsAlone session n o
    → (if session.tsn == n then gaining_if rows authority x o else o) ≡ gains_on session.sp (gains_of rows session.sp authority x) o
gained-at rows session authority x n None alone = by_none x (session.tsn == n)
  where
    by_none : (x : Option AttemptFailure) (b : Bool) → cond b (gaining_if rows authority x None) None ≡ None
    by_none None true = refl
    by_none None false = refl
    by_none (Some e) true = refl
    by_none (Some e) false = refl
gained-at rows session authority x n (Some h) alone = by_number x (session.tsn == n) (alone h refl)
  where
    by_number : (x : Option AttemptFailure) (b : Bool) → sp_eq h.sp session.sp ≡ b → cond b (gaining_if rows authority x (Some h)) (Some h) ≡ gains_on session.sp (gains_of rows session.sp authority x) (Some h)
    by_number x false is = sym (ap (λ b. cond b (Some (record h { held = with_each (gains_of rows session.sp authority x) h.held })) (Some h)) is)
    by_number None true is =
        ap (λ held. Some (record h { held = held })) (gained-each h.sp authority (object_named (rows h.sp authority class_column)) h.held)
        ∙ ap (λ sp. Some (record h { held = with_each (gained rows sp authority []) h.held })) (sp-is h.sp session.sp is)
        ∙ sym (ap (λ b. cond b (Some (record h { held = with_each (gained rows session.sp authority []) h.held })) (Some h)) is)
    by_number (Some e) true is = sym (ap (λ b. cond b (Some h) (Some h)) is)

-- a session that lives is alone on its SP
some-none : {A : Type 0} {x : A} → Some x ≡ None → ⊥
some-none h = cc

some-same : {A : Type 0} {x y : A} → Some x ≡ Some y → x ≡ y
some-same h = cc

sp-same : (sp : Sp) → sp_eq sp sp ≡ true
sp-same Admin = refl
sp-same Locking = refl

its-holder : (sp : Sp) (o : Option Holder) → (holder_on sp o ≡ None → ⊥) → (g : Holder) × (o ≡ Some g) × (g.sp ≡ sp)
its-holder sp None lives = absurd (lives refl)
its-holder sp (Some g) lives = by_sp (sp_eq g.sp sp) refl
  where
    by_sp : (b : Bool) → sp_eq g.sp sp ≡ b → (h : Holder) × (Some g ≡ Some h) × (h.sp ≡ sp)
    by_sp true is = (g, refl, sp-is g.sp sp is)
    by_sp false is = absurd (lives (ap (λ b. cond b (Some g) None) is))

pub alone-at : (l : Live) (session : SessionId) → AreOnOwnSps l.sessions → (live_holder l session ≡ None → ⊥) → (n : ℕ) → IsAlone session n (session_at l n)
alone-at l session apart lives n h is =
    let its = its-holder session.sp (session_at l session.tsn) lives in by_number its.0 its.1 its.2 (session.tsn == n) refl
  where
    by_sp : (g : Holder) → session_at l session.tsn ≡ Some g → g.sp ≡ session.sp → (session.tsn == n) ≡ false → (b : Bool) → sp_eq h.sp session.sp ≡ b → b ≡ false
    by_sp g there on differ false at = refl
    by_sp g there on differ true at = sym (eq-eqb session.tsn n (apart session.tsn n g h there is (on ∙ sym (sp-is h.sp session.sp at)))) ∙ differ

    by_number : (g : Holder) → session_at l session.tsn ≡ Some g → g.sp ≡ session.sp → (b : Bool) → (session.tsn == n) ≡ b → sp_eq h.sp session.sp ≡ b
    by_number g there on true same =
        let at : session_at l n ≡ Some g = ap (session_at l) (sym (eqb-true session.tsn n same)) ∙ there in
        let its : h ≡ g = some-same (sym is ∙ at) in
        ap (λ (x : Holder). sp_eq x.sp session.sp) its ∙ ap (λ sp. sp_eq sp session.sp) on ∙ sp-same session.sp
    by_number g there on false differ = by_sp g there on differ (sp_eq h.sp session.sp) refl

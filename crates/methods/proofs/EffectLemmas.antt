-- Changes of the store, and what they set.
use Rattle.std.proofs.Common.{◌≡◌, ◌<◌, ◌+◌, ℕ, zero, suc, Bool, true, false, List, length, Option, None, Some, refl, ap, ◌∙◌, sym, arith, is_some, [], ◌∷◌, option_map, if◌then◌else◌}
use Rattle.std.specs.Prelude.{slice_index, Ok, Err}
use Rattle.audit.specs.declared.rules.rule.Rule.TheVariants.{NotSet, WrongValue}
use Rattle.sp_cells.specs.declared.names.Uid.{Uid}
use Rattle.sp_cells.specs.declared.names.Sp.{Sp}
use Rattle.sp_cells.specs.declared.names.Sp.TheVariants.{Admin, Locking}
use Rattle.sp_cells.specs.Config.{Config, sizes_in}
use Rattle.sp_cells.specs.declared.error.SetError.{SetError}
use Rattle.transactions.specs.declared.change.Change.{Change}
use Rattle.transactions.specs.declared.change.Change.TheVariants.{Cells, Mbr}
use Rattle.transactions.specs.Stored.{Stored, Part, Transaction, part_set, at_part}
use Rattle.transactions.specs.Changes.{fault_of_change}
use Rattle.methods.specs.Settings.{setting}
use Rattle.methods.specs.Changes.{setting_seen, changed_object}
use Rattle.transactions.specs.Bytes.{bytes_from}
use Rattle.methods.specs.Effects.{fault_of_set, has_set, is_told, stored_after, unless_fault, held_of}
use Rattle.sessions.specs.Made.{part_with, set_stored}
use Rattle.methods.specs.Judgement.{fault_by, valid, to_set}
use Rattle.sessions.specs.Beside.{new_beside}
use Rattle.methods.specs.Calls.{standing_on}
use Rattle.methods.proofs.FaultLemmas.{fault-alike}
use Rattle.tcg_calls.specs.Statuses.{success}
use Rattle.methods.specs.Said.{reply_of, attempt_reply, attempt_denied}
use Rattle.tcg_tokens.specs.Tree.{number}
use Rattle.audit.specs.declared.reason.Why.{Why}
use Rattle.audit.specs.declared.reason.AttemptFailure.{AttemptFailure}
use Rattle.audit.specs.declared.reason.AttemptFailure.TheVariants.{WrongPin, Disabled, Blocked, Unknown}
use Rattle.audit.specs.declared.reason.AttemptFailure.TheVariants as failures
use Rattle.audit.specs.declared.reason.Why.TheVariants.{AttemptFailed}
use Rattle.sessions.specs.declared.answers.AuthAnswer.TheVariants.{Right, Wrong, LockedOut}
use Rattle.sessions.specs.Answers.{answer_to}
use Rattle.transactions.specs.Sights.{Sight, sight_on, sight_of, latest_look}
use Rattle.methods.specs.Kinds.{kind_of}
use Rattle.tcg_calls.specs.declared.call_shapes.ask.Ask.{Ask}
use Rattle.sessions.specs.Live.{Holder}
use Rattle.transactions.specs.declared.change.SessionId.{SessionId}
use Rattle.sp_cells.specs.declared.error.SetError.TheVariants as faults
use Rattle.sp_cells.specs.declared.names.Column.{Column}
use Rattle.sp_cells.specs.declared.cells.Cell.{Cell}
use Rattle.sp_tables.specs.Faults.{IsFault, first_of}
use Rattle.sp_tables.specs.Looks.{fault_seen}
use Rattle.sp_tables.specs.Tries.{names_tries}
use Rattle.methods.proofs.ObjectLemmas.{set_there}

-- a change does what its setting says
part_made : (change : Change) (p : Part) (o : Option Transaction) → p.pending ≡ o → part_set change p ≡ part_with (setting_seen change) p p.pending
part_made (Cells object cells) p None e = rw e refl
part_made (Cells object cells) p (Some t) e = rw e refl
part_made (Mbr at bytes) p None e = rw e refl
part_made (Mbr at bytes) p (Some t) e = rw e refl

set_made : (change : Change) (sp : Sp) (s : Stored) → at_part sp (part_set change) s ≡ at_part sp (λ p. part_with (setting_seen change) p p.pending) s
set_made change Admin s = ap (λ (p : Part). record s { admin = p }) (part_made change s.admin s.admin.pending refl)
set_made change Locking s = ap (λ (p : Part). record s { locking = p }) (part_made change s.locking s.locking.pending refl)

fault_made : (change : Change) (sp : Sp) (s : Stored) → fault_of_change s sp change ≡ fault_by s.config.sectors (latest_look s sp) sp (setting_seen change)
fault_made (Cells object cells) sp s =
    ap (λ o. if names_tries object cells.items then Some faults.NoCell else o) (fault-alike s.config.sectors (latest_look s) (λ _. latest_look s sp) sp object cells.items refl)
fault_made (Mbr at bytes) sp s = refl

-- where the object's kind has Set, it is the change that may have a fault
fault_here : (s : Stored) (session : SessionId) (change : Change) → has_set (kind_of session.sp (changed_object change)) ≡ true → fault_of_set s session change ≡ fault_of_change s session.sp change
fault_here s session change e = rw e refl

fault_as : (s : Stored) (session : SessionId) (object : Uid) (ask : Ask) (change : Change) → has_set (kind_of session.sp object) ≡ true → Some (setting_seen change) ≡ setting s.config.profile session.sp (sizes_in s.config) object (kind_of session.sp object) ask → fault_of_set s session change ≡ fault_by s.config.sectors (latest_look s session.sp) session.sp (setting_seen change)
fault_as s session object ask change h e = fault_here s session change (set_there s.config.profile session.sp (sizes_in s.config) object ask change e h) ∙ fault_made change session.sp s

-- what a session holds
pub held_is : (o : Option Holder) (h : List Uid) → Some h ≡ option_map (λ s. s.held) o → h ≡ held_of o
held_is None h e = cc
held_is (Some s) h e = cc

pub held_none : (o : Option Holder) → None ≡ option_map (λ s. s.held) o → [] ≡ held_of o
held_none None e = refl
held_none (Some s) e = cc

-- every view has the store's configuration
pub config_seen : (sp : Sp) (n : ℕ) (s : Stored) → (sight_on sp n s).config ≡ s.config
config_seen Admin n s = refl
config_seen Locking n s = refl

-- what is set by what a session sees is set by the store
pub read_setting : (s : Stored) (session : SessionId) (object : Uid) (ask : Ask) (v : Sight) (change : Change) → Some (setting_seen change) ≡ setting v.config.profile session.sp (sizes_in v.config) object (kind_of session.sp object) ask → v ≡ sight_of s session → Some (setting_seen change) ≡ setting s.config.profile session.sp (sizes_in s.config) object (kind_of session.sp object) ask
read_setting s session object ask v change read seen =
    read
    ∙ ap (λ (w : Sight). setting w.config.profile session.sp (sizes_in w.config) object (kind_of session.sp object) ask) seen
    ∙ ap (λ (config : Config). setting config.profile session.sp (sizes_in config) object (kind_of session.sp object) ask) (config_seen session.sp session.tsn s)

-- and what is none by what it sees is none by the store
pub none_setting : (s : Stored) (session : SessionId) (object : Uid) (ask : Ask) (v : Sight) (o : Option Change) → o ≡ None → option_map setting_seen o ≡ setting v.config.profile session.sp (sizes_in v.config) object (kind_of session.sp object) ask → v ≡ sight_of s session → to_set (standing_on new_beside 0 s session []) object ask ≡ Err WrongValue
none_setting s session object ask v o none read seen =
    ap (valid (standing_on new_beside 0 s session []))
    (sym (sym (ap (option_map setting_seen) none)
    ∙ read
    ∙ ap (λ (w : Sight). setting w.config.profile session.sp (sizes_in w.config) object (kind_of session.sp object) ask) seen
    ∙ ap (λ (config : Config). setting config.profile session.sp (sizes_in config) object (kind_of session.sp object) ask) (config_seen session.sp session.tsn s)))

-- an attempt, by its answer: right, wrong, or locked out
pub right-said : (sp : Sp) (a : Uid) (f : Option AttemptFailure) → Right ≡ answer_to sp a f → (reply_of (number 1 ∷ []) success ≡ attempt_reply f) × (None ≡ attempt_denied sp a f)
right-said sp a None e = (refl, refl)
right-said sp a (Some failures.LockedOut) e = cc
right-said sp a (Some WrongPin) e = cc
right-said sp a (Some Disabled) e = cc
right-said sp a (Some Blocked) e = cc
right-said sp a (Some Unknown) e = cc

same-why : (why other : Why) → Wrong why ≡ Wrong other → Some why ≡ Some other
same-why why other e = cc

pub wrong-said : (sp : Sp) (a : Uid) (f : Option AttemptFailure) (why : Why) → Wrong why ≡ answer_to sp a f → (reply_of (number 0 ∷ []) success ≡ attempt_reply f) × (Some why ≡ attempt_denied sp a f)
wrong-said sp a None why e = cc
wrong-said sp a (Some failures.LockedOut) why e = cc
wrong-said sp a (Some WrongPin) why e = (refl, same-why why (AttemptFailed sp a WrongPin) e)
wrong-said sp a (Some Disabled) why e = (refl, same-why why (AttemptFailed sp a Disabled) e)
wrong-said sp a (Some Blocked) why e = (refl, same-why why (AttemptFailed sp a Blocked) e)
wrong-said sp a (Some Unknown) why e = (refl, same-why why (AttemptFailed sp a Unknown) e)

pub locked-said : (sp : Sp) (a : Uid) (f : Option AttemptFailure) → LockedOut ≡ answer_to sp a f → f ≡ Some failures.LockedOut
locked-said sp a None e = cc
locked-said sp a (Some failures.LockedOut) e = refl
locked-said sp a (Some WrongPin) e = cc
locked-said sp a (Some Disabled) e = cc
locked-said sp a (Some Blocked) e = cc
locked-said sp a (Some Unknown) e = cc

clash : false ≡ true → ⊥
clash h = cc

-- a fault that is told is that of the change
pub told : (o : Option SetError) (e : SetError) → IsFault o e → is_told e ≡ true → is_some o ≡ true
told None e f t = absurd (clash (sym (ap is_told f) ∙ t))
told (Some x) e f t = refl

pub told_same : (o : Option SetError) (e : SetError) → IsFault o e → is_told e ≡ true → Some e ≡ o
told_same None e f t = absurd (clash (sym (ap is_told f) ∙ t))
told_same (Some x) e f t = ap Some f

-- a fault of a change is one that is told, and so is none where want of memory is told
abbrev chain : (a b c d e : Bool) → Option SetError
chain a b c d e = first_of ((a, faults.NoCell) ∷ (b, faults.WrongType) ∷ (c, faults.Overlap) ∷ (d, faults.Beyond) ∷ (e, faults.Expr) ∷ [])

told_as : (f g : SetError) → Some f ≡ Some g → is_told f ≡ true → is_told g ≡ true
told_as f g h t = let same : f ≡ g = cc in sym (ap is_told same) ∙ t

chain_told : (a b c d e : Bool) (f : SetError) → chain a b c d e ≡ Some f → is_told f ≡ true
chain_told true b c d e f h = told_as faults.NoCell f h refl
chain_told false true c d e f h = told_as faults.WrongType f h refl
chain_told false false true d e f h = told_as faults.Overlap f h refl
chain_told false false false true e f h = told_as faults.Beyond f h refl
chain_told false false false false true f h = told_as faults.Expr f h refl
chain_told false false false false false f h = absurd (let k : None ≡ Some f = h in cc)

cells_told : (s : Stored) (sp : Sp) (object : Uid) (cells : List (Column × Cell)) (b : Bool) (f : SetError) → (if b then Some faults.NoCell else fault_seen s.config.sectors (latest_look s) sp object cells) ≡ Some f → is_told f ≡ true
cells_told s sp object cells true f h = told_as faults.NoCell f h refl
cells_told s sp object cells false f h = chain_told _ _ _ _ _ f h

change_told : (s : Stored) (sp : Sp) (change : Change) (f : SetError) → fault_of_change s sp change ≡ Some f → is_told f ≡ true
change_told s sp (Cells object cells) f h = cells_told s sp object cells.items (names_tries object cells.items) f h
change_told s sp (Mbr at bytes) f h = absurd (let k : None ≡ Some f = h in cc)

none_of : (o : Option SetError) (e : SetError) → ((f : SetError) → o ≡ Some f → is_told f ≡ true) → IsFault o e → is_told e ≡ false → o ≡ None
none_of None e h f t = refl
none_of (Some fault) e h f t = absurd (clash (sym t ∙ ap is_told f ∙ h fault refl))

pub no_fault : (s : Stored) (sp : Sp) (change : Change) (e : SetError) → IsFault (fault_of_change s sp change) e → is_told e ≡ false → fault_of_change s sp change ≡ None
no_fault s sp change e f t = none_of (fault_of_change s sp change) e (change_told s sp change) f t

pub stored_told : (o : Option SetError) (sp : Sp) (change : Change) (s : Stored) → is_some o ≡ true → stored_after o sp change s ≡ s
stored_told None sp change s e = cc
stored_told (Some x) sp change s e = refl

-- a change that is refused leaves the store
pub stored_refused : (f : SetError) (o : Option SetError) (sp : Sp) (change : Change) (s : Stored) → Some f ≡ o → stored_after o sp change s ≡ s
stored_refused f o sp change s e = ap (λ x. stored_after x sp change s) (sym e)

-- what is set by a Set whose values are read: its setting, unless the change has a fault
to_set-read : (s : Stored) (session : SessionId) (object : Uid) (ask : Ask) (change : Change) → has_set (kind_of session.sp object) ≡ true → Some (setting_seen change) ≡ setting s.config.profile session.sp (sizes_in s.config) object (kind_of session.sp object) ask → to_set (standing_on new_beside 0 s session []) object ask ≡ unless_fault (fault_of_set s session change) (setting_seen change)
to_set-read s session object ask change h e =
    sym (ap (valid (standing_on new_beside 0 s session [])) e)
    ∙ ap (λ o. unless_fault o (setting_seen change)) (sym (fault_as s session object ask change h e))

pub to_set-none : (s : Stored) (session : SessionId) (object : Uid) (ask : Ask) (change : Change) (f : SetError) → has_set (kind_of session.sp object) ≡ true → Some (setting_seen change) ≡ setting s.config.profile session.sp (sizes_in s.config) object (kind_of session.sp object) ask → Some f ≡ fault_of_set s session change → to_set (standing_on new_beside 0 s session []) object ask ≡ Err (NotSet f)
to_set-none s session object ask change f h e made = to_set-read s session object ask change h e ∙ ap (λ o. unless_fault o (setting_seen change)) (sym made)

pub to_set-some : (s : Stored) (session : SessionId) (object : Uid) (ask : Ask) (change : Change) → has_set (kind_of session.sp object) ≡ true → Some (setting_seen change) ≡ setting s.config.profile session.sp (sizes_in s.config) object (kind_of session.sp object) ask → None ≡ fault_of_set s session change → to_set (standing_on new_beside 0 s session []) object ask ≡ Ok (setting_seen change)
to_set-some s session object ask change h e made = to_set-read s session object ask change h e ∙ ap (λ o. unless_fault o (setting_seen change)) (sym made)

-- the store that it leaves
pub stored-made : (o : Option SetError) (sp : Sp) (change : Change) (s : Stored) → None ≡ o → stored_after o sp change s ≡ set_stored s sp (setting_seen change)
stored-made o sp change s e = ap (λ x. stored_after x sp change s) (sym e) ∙ set_made change sp s

pub ruleset telling = (told, told_same, stored_told, no_fault)

-- bytes that are told one by one
pub bytes_told : (byte : ℕ → ℕ) (xs : List ℕ) (first n : ℕ) → length xs ≡ n → ((k : ℕ) → k < length xs → slice_index xs k ≡ byte (first + k)) → xs ≡ bytes_from byte first n
bytes_told byte [] first zero e h = refl
bytes_told byte [] first (suc n) e h = absurd (omega (arith, e))
bytes_told byte (x ∷ xs) first zero e h = absurd (omega (arith, e))
bytes_told byte (x ∷ xs) first (suc n) e h =
    let front : x ≡ byte first = h 0 (omega arith) ∙ ap byte (omega arith) in
    let rest : xs ≡ bytes_from byte (suc first) n = bytes_told byte xs (suc first) n (omega (arith, e)) (λ k lt. h (suc k) (omega (arith, lt)) ∙ ap byte (omega arith)) in
    ap (λ y. y ∷ xs) front ∙ ap (λ ys. byte first ∷ ys) rest

-- bytes behind a place, by their distance from it
pub bytes-behind : (byte : ℕ → ℕ) (begin first n : ℕ) → bytes_from byte (begin + first) n ≡ bytes_from (λ row. byte (begin + row)) first n
bytes-behind byte begin first zero = refl
bytes-behind byte begin first (suc n) =
    ap (λ place. byte (begin + first) ∷ bytes_from byte place n) (omega arith) ∙ ap (λ bs. byte (begin + first) ∷ bs) (bytes-behind byte begin (suc first) n)

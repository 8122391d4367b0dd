-- What a session sees and holds by what is kept is what the past says.
use Rattle.std.proofs.Common.{◌≡◌, ℕ, ◌==◌, Bool, true, false, List, [], Option, Some, None, refl, sym, subst, ◌∙◌, ap, cond, eqb-true, eq-eqb}
use Rattle.std.specs.Prelude.{is_some, option_map}
use Rattle.basics.specs.declared.profile.Profile.{Profile}
use Rattle.sp_cells.specs.declared.names.Uid.{Uid}
use Rattle.sp_cells.specs.declared.names.Sp.{Sp}
use Rattle.sp_cells.specs.declared.names.Sp.TheVariants.{Admin, Locking}
use Rattle.sp_cells.specs.Config.{Config}
use Rattle.sp_cells.specs.Flat.{LookUp, sp_eq}
use Rattle.transactions.specs.declared.change.SessionId.{SessionId}
use Rattle.transactions.specs.Sights.{Sight, look_up, sight_of, committed_sight}
use Rattle.sessions.specs.declared.beside.Beside.{Beside}
use Rattle.sessions.specs.Beside.{channel_of, room_of}
use Rattle.sessions.specs.Deeds.{Begun}
use Rattle.sessions.specs.Live.{Holder, Live, session_at, holder_on, com_id_of, session_room}
use Rattle.methods.specs.Effects.{live_holder}
use Rattle.methods.specs.Judgement.{Standing}
use Rattle.history.specs.Opening.{Origin}
use Rattle.history.specs.Events.{Event, or_else}
use Rattle.history.specs.Readers.{session_on, authorities, in_force, view, beside}
use Rattle.history.specs.History.{Act, log}
use Rattle.history.specs.KeptStore.{ReadsStore}
use Rattle.history.specs.KeptSessions.{IsKeptAs, if_number, session_numbered, KeepsSessions, id_of}
use Rattle.history.proofs.Words.{sp-same}
use Rattle.history.proofs.KeptStoreReads.{store_read_law}
use Rattle.history.proofs.KeptCallsStanding.{standing-same}
use Rattle.tper.specs.Tper.{Tper, Keeps}
use Rattle.tper.specs.Seen.{living_session, rows_of_session, held_of_session, com_id_of_session, room_of_session, sight_kept, HoldsAlike}

-- a session is kept, where it is on the SP

on-own : (past : List Event) (sp : Sp) (x : Option Holder) (s : Begun) → IsKeptAs past x (Some s) → s.sp ≡ sp → IsKeptAs past (holder_on sp x) (Some s)
on-own past sp None s kept is = absurd kept
on-own past sp (Some h) s kept is =
    subst (λ (b : Bool). IsKeptAs past (cond b (Some h) None) (Some s)) (sym (ap (λ t. sp_eq t sp) (kept.sp ∙ is) ∙ sp-same sp)) kept

off-own : (past : List Event) (sp : Sp) (x : Option Holder) (s : Begun) → IsKeptAs past x (Some s) → sp_eq s.sp sp ≡ false → IsKeptAs past (holder_on sp x) None
off-own past sp None s kept is = absurd kept
off-own past sp (Some h) s kept is =
    subst (λ (b : Bool). IsKeptAs past (cond b (Some h) None) None) (sym (ap (λ t. sp_eq t sp) kept.sp ∙ is)) record {}

no-own : (past : List Event) (sp : Sp) (x : Option Holder) → IsKeptAs past x None → IsKeptAs past (holder_on sp x) None
no-own past sp None kept = kept
no-own past sp (Some h) kept = absurd kept

-- by its number

each : (n : ℕ) (y : Option Begun) (P : Option Begun → Type 0) → P None → ((s : Begun) → y ≡ Some s → (s.number == n) ≡ true → P (Some s)) → P (if_number n y)
each n None P none some = none
each n (Some s) P none some = by_test (s.number == n) refl
  where
    by_test : (b : Bool) → (s.number == n) ≡ b → P (cond b (Some s) None)
    by_test true is = some s refl is
    by_test false is = none

true-false : {A : Type 0} → true ≡ false → A
true-false h = absurd cc

on-admin : (past : List Event) (l : Live) (n : ℕ) → KeepsSessions l past → IsKeptAs past (holder_on Admin (session_at l n)) (if_number n (session_on past Admin))
on-admin past l n keeps =
    each n (session_on past Admin) (λ y. IsKeptAs past x (or_else y (if_number n (session_on past Locking))) → IsKeptAs past (holder_on Admin x) y)
    (each n (session_on past Locking) (λ z. IsKeptAs past x z → IsKeptAs past (holder_on Admin x) None)
    (no-own past Admin x)
    (λ s is same kept. off-own past Admin x s kept (ap (λ t. sp_eq t Admin) (keeps.on Locking s is))))
    (λ s is same kept. on-own past Admin x s kept (keeps.on Admin s is))
    (keeps.at n)
  where
    x : Option Holder
    x = session_at l n

on-locking : (past : List Event) (l : Live) (n : ℕ) → KeepsSessions l past → IsKeptAs past (holder_on Locking (session_at l n)) (if_number n (session_on past Locking))
on-locking past l n keeps =
    each n (session_on past Admin) (λ y. IsKeptAs past x (or_else y (if_number n (session_on past Locking))) → IsKeptAs past (holder_on Locking x) (if_number n (session_on past Locking)))
    (each n (session_on past Locking) (λ z. IsKeptAs past x z → IsKeptAs past (holder_on Locking x) z)
    (no-own past Locking x)
    (λ s is same kept. on-own past Locking x s kept (keeps.on Locking s is)))
    (λ a is same kept. each n (session_on past Locking) (λ z. IsKeptAs past (holder_on Locking x) z)
    (off-own past Locking x a kept (ap (λ t. sp_eq t Locking) (keeps.on Admin a is)))
    (λ s its other. true-false (sym (eq-eqb a.number s.number (eqb-true a.number n same ∙ sym (eqb-true s.number n other))) ∙ keeps.apart a s is its)))
    (keeps.at n)
  where
    x : Option Holder
    x = session_at l n

pub kept-alike : (past : List Event) (l : Live) (id : SessionId) → KeepsSessions l past → IsKeptAs past (live_holder l id) (living_session past id)
kept-alike past l id keeps = by_sp id.sp
  where
    by_sp : (sp : Sp) → IsKeptAs past (holder_on sp (session_at l id.tsn)) (if_number id.tsn (session_on past sp))
    by_sp Admin = on-admin past l id.tsn keeps
    by_sp Locking = on-locking past l id.tsn keeps

-- what it holds

held-kept : (past : List Event) (x : Option Holder) (y : Option Begun) → IsKeptAs past x y → HoldsAlike (option_map (λ (h : Holder). h.held) x) (held_of_session past y)
held-kept past None None kept = kept
held-kept past (Some h) (Some s) kept = kept.held
held-kept past None (Some s) kept = absurd kept
held-kept past (Some h) None kept = absurd kept

pub held_alike : (o : Origin) (past : List Event) (t : Tper) (id : SessionId) (x : Option (List Uid)) → Keeps t o past
    → x ≡ option_map (λ (h : Holder). h.held) (live_holder t.live id) → HoldsAlike x (held_of_session past (living_session past id))
held_alike o past t id x keeps is =
    subst (λ (held : Option (List Uid)). HoldsAlike held (held_of_session past (living_session past id))) (sym is)
    (held-kept past (live_holder t.live id) (living_session past id) (kept-alike past t.live id keeps.sessions))

-- what it sees

found : (n : ℕ) (y : Option Begun) (s : Begun) → if_number n y ≡ Some s → (y ≡ Some s) × (s.number ≡ n)
found n y s = each n y (λ z. z ≡ Some s → (y ≡ Some s) × (s.number ≡ n)) (λ h. absurd cc)
    (λ t is same h. (is ∙ h, ap (λ (o : Option Begun). number_or o) (sym h) ∙ eqb-true t.number n same))
  where
    number_or : Option Begun → ℕ
    number_or None = 0
    number_or (Some b) = b.number

by-standing : (o : Origin) (acts : List Act) (t : Tper) (s : Begun) → Keeps t o (log o acts) → session_on (log o acts) s.sp ≡ Some s
    → look_up (sight_of t.store (id_of s)) ≡ view o (log o acts) s.number
by-standing o acts t s keeps on =
    ap (λ (x : Standing). x.rows) (standing-same o acts t.store t.live s [] keeps.store keeps.sessions on keeps.beside)

pub seen_alike : (o : Origin) (acts : List Act) (t : Tper) (id : SessionId) (v : Sight) → Keeps t o (log o acts) → v ≡ sight_kept t id
    → look_up v ≡ rows_of_session o (log o acts) (living_session (log o acts) id)
seen_alike o acts t id v keeps is = ap look_up is ∙ by_cases (live_holder t.live id) (living_session past id) refl (kept-alike past t.live id keeps.sessions)
  where
    past : List Event
    past = log o acts

    reads : ReadsStore t.store o past
    reads = store_read_law t.store o past keeps.store

    of_session : (s : Begun) → living_session past id ≡ Some s → look_up (sight_of t.store id) ≡ view o past s.number
    of_session s is =
        let its = found id.tsn (session_on past id.sp) s is in
        let on = keeps.sessions.on id.sp s its.0 in
        ap (λ (sp : Sp). look_up (sight_of t.store (record { tsn = id.tsn; sp = sp }))) (sym on)
        ∙ ap (λ (n : ℕ). look_up (sight_of t.store (record { tsn = n; sp = s.sp }))) (sym its.1)
        ∙ by-standing o acts t s keeps (ap (session_on past) on ∙ its.0)

    by_cases : (x : Option Holder) (y : Option Begun) → living_session past id ≡ y → IsKeptAs past x y
        → look_up (cond (is_some x) (sight_of t.store id) (committed_sight t.store)) ≡ rows_of_session o past y
    by_cases None None is kept = reads.rows
    by_cases (Some h) (Some s) is kept = of_session s is
    by_cases None (Some s) is kept = absurd kept
    by_cases (Some h) None is kept = absurd kept

-- the configuration stays, whoever looks
pub config_kept : (t : Tper) (id : SessionId) (v : Sight) → v ≡ sight_kept t id → v.config ≡ t.store.config
config_kept t id v is = ap (λ (s : Sight). s.config) is ∙ by_test (is_some (live_holder t.live id))
  where
    by_sp : (sp : Sp) → (sight_of t.store (record { tsn = id.tsn; sp = sp })).config ≡ t.store.config
    by_sp Admin = refl
    by_sp Locking = refl

    by_test : (b : Bool) → (cond b (sight_of t.store id) (committed_sight t.store)).config ≡ t.store.config
    by_test true = by_sp id.sp
    by_test false = refl

-- and how many bytes a response to it has room for

pub room_alike : (o : Origin) (past : List Event) (t : Tper) (id : SessionId) (n : ℕ) → Keeps t o past
    → n ≡ session_room t.store.config.profile t.live id → n ≡ room_of_session o.tables.config.profile past (living_session past id)
room_alike o past t id n keeps is =
    is
    ∙ ap (λ (c : Config). session_room c.profile t.live id) keeps.store.config
    ∙ ap (λ (k : ℕ). room_of o.tables.config.profile (channel_of t.live.beside k).limits) (by_cases (live_holder t.live id) (living_session past id) (kept-alike past t.live id keeps.sessions))
    ∙ ap (λ (b : Beside). room_of o.tables.config.profile (channel_of b (com_id_of_session (living_session past id))).limits) keeps.beside
  where
    by_cases : (x : Option Holder) (y : Option Begun) → IsKeptAs past x y → com_id_of x ≡ com_id_of_session y
    by_cases None None kept = refl
    by_cases (Some h) (Some s) kept = kept.com_id
    by_cases None (Some s) kept = absurd kept
    by_cases (Some h) None kept = absurd kept

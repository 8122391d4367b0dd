-- What the rules ask of a live session, of what is kept, is what the past says.
use Rattle.std.proofs.Common.{◌≡◌, ℕ, ◌==◌, Bool, true, false, List, Option, Some, None, refl, sym, subst, ◌∙◌, ap, cond, eqb-true, eq-eqb}
use Rattle.std.proofs.Math.Path.{fun_ext}
use Rattle.std.specs.Prelude.{option_map, slice_index}
use Rattle.sp_cells.specs.declared.names.Uid.{Uid}
use Rattle.sp_cells.specs.declared.names.Sp.{Sp}
use Rattle.sp_cells.specs.declared.names.Sp.TheVariants.{Admin, Locking}
use Rattle.sp_cells.specs.Config.{Config, sizes_in}
use Rattle.sp_cells.specs.Flat.{sp_eq}
use Rattle.ace_eval.specs.Truth.{has}
use Rattle.transactions.specs.Stored.{Transaction, Part, Stored, part, is_open}
use Rattle.transactions.specs.Sights.{side_at, side_for, latest_side, look_up, sight_of, latest_look}
use Rattle.basics.specs.declared.profile.Profile.{Profile}
use Rattle.sessions.specs.declared.beside.Beside.{Beside}
use Rattle.sessions.specs.Beside.{channel_of, room_of}
use Rattle.sessions.specs.Live.{Holder, Live, session_at, holder_on, com_id_of, session_room}
use Rattle.methods.specs.Random.{random_bytes}
use Rattle.methods.specs.Effects.{held_of, held_in, seen_by, has_transaction}
use Rattle.history.specs.Opening.{Origin}
use Rattle.history.specs.Changes.{with_tries}
use Rattle.methods.specs.Judgement.{Standing}
use Rattle.methods.specs.Calls.{standing_on}
use Rattle.sessions.specs.Deeds.{Begun}
use Rattle.history.specs.Events.{Event, or_else}
use Rattle.history.specs.Readers.{session_on, authorities, open_on, rows_after, rows_within, is_of, tries, in_force, view, byte_in_force, byte_in_view, beside}
use Rattle.history.specs.Facts.{facts, standing}
use Rattle.history.specs.History.{Act, log}
use Rattle.history.specs.KeptStore.{KeepsStore, ReadsStore}
use Rattle.history.specs.KeptSessions.{IsKeptAs, if_number, session_numbered, KeepsSessions, id_of}
use Rattle.history.proofs.Words.{sp-same}
use Rattle.history.proofs.OwnerLaws.{owner_law}
use Rattle.history.proofs.KeptStoreReads.{store_read_law}
use Rattle.history.proofs.Authorities.{SameHeld, with_held}

some-same : {A : Type 0} {x y : A} → Some x ≡ Some y → x ≡ y
some-same h = cc

some-none : {A : Type 0} {x : A} → Some x ≡ None → ⊥
some-none h = cc

same-number : (n : ℕ) → (n == n) ≡ true
same-number n = eq-eqb n n refl

-- The session of a number.

numbered-here : (past : List Event) (session : Begun) → session_on past Admin ≡ Some session → session_numbered past session.number ≡ Some session
numbered-here past session h =
    ap (λ x. or_else (if_number session.number x) (if_number session.number (session_on past Locking))) h
    ∙ ap (λ b. or_else (cond b (Some session) None) (if_number session.number (session_on past Locking))) (same-number session.number)

numbered-there : (past : List Event) (l : Live) (session : Begun) → KeepsSessions l past → session_on past Locking ≡ Some session → session_numbered past session.number ≡ Some session
numbered-there past l session keeps h =
    ap (λ x. or_else x (if_number session.number (session_on past Locking))) (by_other (session_on past Admin) refl)
    ∙ ap (λ x. if_number session.number x) h
    ∙ ap (λ b. cond b (Some session) None) (same-number session.number)
  where
    by_other : (x : Option Begun) → session_on past Admin ≡ x → if_number session.number x ≡ None
    by_other None is = refl
    by_other (Some a) is = ap (λ b. cond b (Some a) None) (keeps.apart a session is h)

pub numbered-is : (past : List Event) (l : Live) (session : Begun) → KeepsSessions l past → session_on past session.sp ≡ Some session → session_numbered past session.number ≡ Some session
numbered-is past l session keeps h = by_sp session.sp h
  where
    by_sp : (sp : Sp) → session_on past sp ≡ Some session → session_numbered past session.number ≡ Some session
    by_sp Admin g = numbered-here past session g
    by_sp Locking g = numbered-there past l session keeps g

-- It is kept, and holds what the past says.
kept-held : (past : List Event) (session : Begun) (x : Option Holder) → IsKeptAs past x (Some session) → (a : Uid) → has (held_of (holder_on session.sp x)) a ≡ has (authorities past session) a
kept-held past session None kept a = absurd kept
kept-held past session (Some h) kept a =
    let on : sp_eq h.sp session.sp ≡ true = ap (λ sp. sp_eq sp session.sp) kept.sp ∙ sp-same session.sp in
    ap (λ b. has (held_of (cond b (Some h) None)) a) on ∙ kept.held a

pub held-same : (past : List Event) (l : Live) (session : Begun) → KeepsSessions l past → session_on past session.sp ≡ Some session → SameHeld (held_in l (id_of session)) (authorities past session)
held-same past l session keeps h a =
    let kept : IsKeptAs past (session_at l session.number) (Some session) = subst (IsKeptAs past (session_at l session.number)) (numbered-is past l session keeps h) (keeps.at session.number) in
    sym (kept-held past session (session_at l session.number) kept a)

-- An open transaction is that of the session of its SP.
own-open : (o : Origin) (acts : List Act) (session : Begun) (n : ℕ) → session_on (log o acts) session.sp ≡ Some session → open_on (log o acts) session.sp ≡ Some n → session.number ≡ n
own-open o acts session n h is =
    let owner = owner_law o acts session.sp n is in
    ap (λ (b : Begun). b.number) (some-same (sym h ∙ owner.1)) ∙ owner.2

-- So none on the other SP is this session's.
swapped : (a b : ℕ) → (a == b) ≡ false → (b == a) ≡ false
swapped a b h = by_test (b == a) refl
  where
    by_test : (x : Bool) → (b == a) ≡ x → x ≡ false
    by_test false is = refl
    by_test true is = sym (eq-eqb a b (sym (eqb-true b a is))) ∙ h

other-here : (o : Origin) (acts : List Act) (l : Live) (session : Begun) → KeepsSessions l (log o acts) → session_on (log o acts) Admin ≡ Some session → is_of session.number (open_on (log o acts) Locking) ≡ false
other-here o acts l session keeps h = by_open (open_on (log o acts) Locking) refl
  where
    by_open : (x : Option ℕ) → open_on (log o acts) Locking ≡ x → is_of session.number x ≡ false
    by_open None is = refl
    by_open (Some n) is =
        let owner = owner_law o acts Locking n is in
        swapped session.number n (ap (λ m. session.number == m) (sym owner.2) ∙ keeps.apart session owner.0 h owner.1)

other-there : (o : Origin) (acts : List Act) (l : Live) (session : Begun) → KeepsSessions l (log o acts) → session_on (log o acts) Locking ≡ Some session → is_of session.number (open_on (log o acts) Admin) ≡ false
other-there o acts l session keeps h = by_open (open_on (log o acts) Admin) refl
  where
    by_open : (x : Option ℕ) → open_on (log o acts) Admin ≡ x → is_of session.number x ≡ false
    by_open None is = refl
    by_open (Some n) is =
        let owner = owner_law o acts Admin n is in
        ap (λ m. m == session.number) (sym owner.2) ∙ keeps.apart owner.0 session owner.1 h

-- Rows: its own SP's as its transaction has them, the other's in force.
in-view : (o : Origin) (past : List Event) (n : ℕ) (sp : Sp) → is_of n (open_on past sp) ≡ false → in_force o past sp ≡ view o past n sp
in-view o past n sp h = sym (ap (λ b. with_tries (tries past sp) (cond b (rows_within o past sp) (rows_after o past sp))) h)

rows-same : (o : Origin) (acts : List Act) (s : Stored) (l : Live) (session : Begun) → KeepsStore s o (log o acts) → KeepsSessions l (log o acts) → session_on (log o acts) session.sp ≡ Some session → seen_by s (id_of session) ≡ view o (log o acts) session.number
rows-same o acts s l session store keeps h = fun_ext (by_sp session.sp h)
  where
    reads : ReadsStore s o (log o acts)
    reads = store_read_law s o (log o acts) store

    by_sp : (sp : Sp) → session_on (log o acts) sp ≡ Some session → (t : Sp) → look_up (sight_of s (record { tsn = session.number; sp = sp })) t ≡ view o (log o acts) session.number t
    by_sp Admin g Admin = reads.views session.number Admin
    by_sp Admin g Locking = ap (λ look. look Locking) reads.rows ∙ in-view o (log o acts) session.number Locking (other-here o acts l session keeps g)
    by_sp Locking g Admin = ap (λ look. look Admin) reads.rows ∙ in-view o (log o acts) session.number Admin (other-there o acts l session keeps g)
    by_sp Locking g Locking = reads.views session.number Locking

bytes-same : (o : Origin) (acts : List Act) (s : Stored) (l : Live) (session : Begun) → KeepsStore s o (log o acts) → KeepsSessions l (log o acts) → session_on (log o acts) session.sp ≡ Some session → slice_index (sight_of s (id_of session)).bytes ≡ byte_in_view (log o acts) session.number
bytes-same o acts s l session store keeps h = fun_ext (by_sp session.sp h)
  where
    reads : ReadsStore s o (log o acts)
    reads = store_read_law s o (log o acts) store

    not_own : (b : Bool) (x y : ℕ) → b ≡ false → y ≡ cond b x y
    not_own b x y is = sym (ap (λ t. cond t x y) is)

    by_sp : (sp : Sp) → session_on (log o acts) sp ≡ Some session → (place : ℕ) → slice_index (sight_of s (record { tsn = session.number; sp = sp })).bytes place ≡ byte_in_view (log o acts) session.number place
    by_sp Admin g place = ap (λ bytes. bytes place) reads.bytes ∙ not_own (is_of session.number (open_on (log o acts) Locking)) _ (byte_in_force (log o acts) place) (other-here o acts l session keeps g)
    by_sp Locking g place = reads.view_bytes session.number place

-- A transaction of its own.
open-same : (p : Option Transaction) (n : ℕ) → is_open p n ≡ is_of n (option_map (λ t. t.tsn) p)
open-same None n = refl
open-same (Some t) n = refl

inside-same : (o : Origin) (past : List Event) (s : Stored) (session : Begun) → KeepsStore s o past → has_transaction s (id_of session) ≡ is_of session.number (open_on past session.sp)
inside-same o past s session store = open-same (part s session.sp).pending session.number ∙ ap (is_of session.number) (store.parts session.sp).transaction

-- What a change is judged by is what the session sees.
latest-own : (p : Part) (n : ℕ) → ((t : Transaction) → p.pending ≡ Some t → (t.tsn == n) ≡ true) → side_at (latest_side p) ≡ side_at (side_for p n)
latest-own p n own = by_pending p.pending own
  where
    by_pending : (x : Option Transaction) → ((t : Transaction) → x ≡ Some t → (t.tsn == n) ≡ true) → side_at (latest_side (record p { pending = x })) ≡ side_at (side_for (record p { pending = x }) n)
    by_pending None h = refl
    by_pending (Some t) h = ap (λ b. side_at (record { rows = cond b t.rows p.rows; tries = p.tries })) (sym (h t refl))

own-pending : (o : Origin) (acts : List Act) (s : Stored) (session : Begun) → KeepsStore s o (log o acts) → session_on (log o acts) session.sp ≡ Some session → (t : Transaction) → (part s session.sp).pending ≡ Some t → (t.tsn == session.number) ≡ true
own-pending o acts s session store h t is =
    let opened : open_on (log o acts) session.sp ≡ Some t.tsn = sym (store.parts session.sp).transaction ∙ ap (option_map (λ (x : Transaction). x.tsn)) is in
    eq-eqb t.tsn session.number (sym (own-open o acts session t.tsn h opened))

latest-seen : (o : Origin) (acts : List Act) (s : Stored) (session : Begun) → KeepsStore s o (log o acts) → session_on (log o acts) session.sp ≡ Some session → latest_look s session.sp ≡ seen_by s (id_of session) session.sp
latest-seen o acts s session store h = by_sp session.sp (own-pending o acts s session store h)
  where
    by_sp : (sp : Sp) → ((t : Transaction) → (part s sp).pending ≡ Some t → (t.tsn == session.number) ≡ true) → latest_look s sp ≡ look_up (sight_of s (record { tsn = session.number; sp = sp })) sp
    by_sp Admin own = latest-own s.admin session.number own
    by_sp Locking own = latest-own s.locking session.number own

-- The room of its responses.
kept-room : (past : List Event) (session : Begun) (b : Beside) (profile : Profile) (x : Option Holder) → IsKeptAs past x (Some session) → room_of profile (channel_of b (com_id_of (holder_on session.sp x))).limits ≡ room_of profile (channel_of b session.com_id).limits
kept-room past session b profile None kept = absurd kept
kept-room past session b profile (Some h) kept =
    ap (λ c. room_of profile (channel_of b (com_id_of (cond c (Some h) None))).limits) (ap (λ sp. sp_eq sp session.sp) kept.sp ∙ sp-same session.sp)
    ∙ ap (λ (n : ℕ). room_of profile (channel_of b n).limits) kept.com_id

room-same : (past : List Event) (l : Live) (session : Begun) (profile : Profile) → KeepsSessions l past → session_on past session.sp ≡ Some session → session_room profile l (id_of session) ≡ room_of profile (channel_of l.beside session.com_id).limits
room-same past l session profile keeps h =
    kept-room past session l.beside profile (session_at l session.number) (subst (IsKeptAs past (session_at l session.number)) (numbered-is past l session keeps h) (keeps.at session.number))

-- All of it, with the authorities that the past gives.
pub standing-same : (o : Origin) (acts : List Act) (s : Stored) (l : Live) (session : Begun) (held : List Uid) → KeepsStore s o (log o acts) → KeepsSessions l (log o acts) → session_on (log o acts) session.sp ≡ Some session → l.beside ≡ beside (log o acts)
    → with_held (standing_on l.beside (session_room s.config.profile l (id_of session)) s (id_of session) held) (authorities (log o acts) session) ≡ standing (facts o (log o acts)) session
standing-same o acts s l session held store keeps h same =
    ap (λ (c : Config). record base { profile = c.profile; sectors = c.sectors; sizes = sizes_in c; room = session_room c.profile l (id_of session); random = random_bytes c.seed l.beside.drawn }) store.config
    ∙ ap (λ rows. record kept { rows = rows; byte = base.byte; newest = base.newest; is_open = base.is_open }) (rows-same o acts s l session store keeps h)
    ∙ ap (λ byte. record kept { byte = byte; newest = base.newest; is_open = base.is_open }) (bytes-same o acts s l session store keeps h)
    ∙ ap (λ newest. record kept { newest = newest; is_open = base.is_open }) (latest-seen o acts s session store h ∙ ap (λ look. look session.sp) (rows-same o acts s l session store keeps h))
    ∙ ap (λ is_open. record kept { is_open = is_open }) (inside-same o (log o acts) s session store)
    ∙ ap (λ room. record kept { room = room }) (room-same (log o acts) l session config.profile keeps h)
    ∙ ap (λ (b : Beside). record after { block = b.block; room = room_of config.profile (channel_of b session.com_id).limits; random = random_bytes config.seed b.drawn }) same
  where
    config : Config
    config = o.tables.config

    base : Standing
    base = with_held (standing_on l.beside (session_room s.config.profile l (id_of session)) s (id_of session) held) (authorities (log o acts) session)

    after : Standing
    after = standing (facts o (log o acts)) session

    kept : Standing
    kept = record after { block = l.beside.block; room = session_room config.profile l (id_of session); random = random_bytes config.seed l.beside.drawn }

-- What is sent: which event it is, and that what became of it keeps what the past says.
use Rattle.std.proofs.Common.{◌≡◌, ℕ, ◌==◌, Bool, true, false, ◌&&◌, List, ◌∷◌, Option, Some, None, refl, sym, subst, ap, ◌∙◌, cond, eqb-true, eq-eqb, ◌⊎◌, inl, inr}
use Rattle.std.specs.Prelude.{Result, Ok, Err, IfOk, OnOk, option_map}
use Rattle.sp_cells.specs.declared.names.Sp.{Sp}
use Rattle.compacket.specs.declared.session.Session.{Session}
use Rattle.compacket.specs.declared.error.FrameError.{FrameError}
use Rattle.compacket.specs.declared.session.Named.{Named as Broken}
use Rattle.compacket.specs.Frames.{Frame, reading as frame_in}
use Rattle.tcg_tokens.specs.Reading.{reading as message_in}
use Rattle.transactions.specs.declared.change.SessionId.{SessionId}
use Rattle.shadow_mbr.specs.Erasure.{no_sectors}
use Rattle.sessions.specs.Live.{Holder, Live, session_at, is_of_host, found, holder_on}
use Rattle.methods.specs.Effects.{live_holder}
use Rattle.history.specs.Opening.{Origin}
use Rattle.sessions.specs.Deeds.{Begun}
use Rattle.history.specs.Events.{Event, Nothing, did, ignores}
use Rattle.history.specs.Readers.{session_on}
use Rattle.history.specs.Facts.{Facts, facts, session_named}
use Rattle.history.specs.Tcg.{is_manager, answers, breaks_off, broken_off, is_discarded, manager_event, to_manager, in_session, to_session, framed, unframed_in, unframed, broken_of, sent_by, sent, item_in}
use Rattle.history.specs.History.{Act, log}
use Rattle.history.specs.KeptSessions.{KeepsSessions, id_of}
use Rattle.history.proofs.Items.{named-lives}
use Rattle.history.proofs.Words.{sp-same}
use Rattle.history.proofs.KeptSessionsNamed.{named_law}
use Rattle.tper.specs.declared.trusted.Sent.{Sent}
use Rattle.sp_cells.specs.Config.{Config}
use Rattle.tper.specs.Tper.{Tper, Keeps, IsToldOfSend, IsIgnored, Manages, ServesSession, EndsFound, found_in, named_for, IsUnframed}
use Rattle.tper.proofs.KeptBeside.{spares, kept_beside}
use Rattle.tper.proofs.Keeping.{answer-kept, answer-sent, broken-kept}
use Rattle.audit.specs.declared.rules.rule.Rule.TheVariants.{NoFrame, NoSession, Discarded, BrokenOff, NoSubpacket}
use Rattle.audit.specs.declared.rules.rule.Rule.{Rule}

pub on-ok : {A E : Type 0} (r : Result A E) (P : A → Type 0) (Q : Type 0) → IfOk r P → ((x : A) → P x → Q) → OnOk r Q
on-ok (Ok x) P Q h f = f x h
on-ok (Err e) P Q h f = tt

pub if-ok : {A E : Type 0} (r : Result A E) (P Q : A → Type 0) → IfOk r P → ((x : A) → P x → Q x) → IfOk r Q
if-ok (Ok x) P Q h f = f x h
if-ok (Err e) P Q h f = tt

-- ---- nothing

pub nothing-kept : (t : Tper) (o : Origin) (past : List Event) (e : Event) (rule : Rule) → e ≡ ignores rule → Keeps t o past → Keeps t o (e ∷ past)
nothing-kept t o past e rule h k = kept_beside t o past e (ap (λ (x : Event). spares x.deed) h) k

pub nothing-sent : (e : Event) (rule : Rule) (s : Sent) → s.denied ≡ None → s.rule ≡ Some rule → s.erases ≡ no_sectors → e ≡ ignores rule → IsToldOfSend e s
nothing-sent e rule s d r w h = subst (λ (x : Event). IsToldOfSend x s) (sym h) (record { failed = refl; denied = d; rule = r; erases = w })

-- ---- which event it is

-- the bytes are a frame for the ComID
pub record IsFor (read : Result Frame FrameError) (com_id : ℕ) (frame : Frame) : Type 0 where
  pub reads : read ≡ Ok frame
  pub own : frame.com_id ≡ com_id

differs : (n k : ℕ) → (n ≡ k → ⊥) → (n == k) ≡ false
differs n k h = by (n == k) refl
  where
    by : (b : Bool) → (n == k) ≡ b → (n == k) ≡ false
    by true e = absurd (h (eqb-true n k e))
    by false e = e

pub other-frame : (f : Facts) (com_id : ℕ) (broken : Option Broken) (read : Result Frame FrameError) (frame : Frame) → read ≡ Ok frame → (frame.com_id ≡ com_id → ⊥) → sent_by f com_id broken read ≡ ignores NoFrame
other-frame f com_id broken read frame h g =
    ap (λ (r : Result Frame FrameError). sent_by f com_id broken r) h ∙ ap (λ (b : Bool). cond b (framed f com_id frame) (ignores NoFrame)) (differs frame.com_id com_id g)

own-frame : (f : Facts) (com_id : ℕ) (broken : Option Broken) (read : Result Frame FrameError) (frame : Frame) → IsFor read com_id frame → sent_by f com_id broken read ≡ framed f com_id frame
own-frame f com_id broken read frame h =
    ap (λ (r : Result Frame FrameError). sent_by f com_id broken r) h.reads ∙ ap (λ (b : Bool). cond b (framed f com_id frame) (ignores NoFrame)) (eq-eqb frame.com_id com_id h.own)

by-manager : (f : Facts) (com_id : ℕ) (broken : Option Broken) (read : Result Frame FrameError) (frame : Frame) → IsFor read com_id frame → is_manager frame.session ≡ true
    → sent_by f com_id broken read ≡ manager_event f com_id frame.session (message_in frame.payload)
by-manager f com_id broken read frame h m =
    own-frame f com_id broken read frame h
    ∙ ap (λ (b : Bool). cond b (manager_event f com_id frame.session (message_in frame.payload)) (to_session f com_id frame.session frame.payload (session_named f com_id frame.session))) m

by-session : (f : Facts) (com_id : ℕ) (broken : Option Broken) (read : Result Frame FrameError) (frame : Frame) (x : Option Begun) → IsFor read com_id frame → is_manager frame.session ≡ false → session_named f com_id frame.session ≡ x
    → sent_by f com_id broken read ≡ to_session f com_id frame.session frame.payload x
by-session f com_id broken read frame x h m named =
    own-frame f com_id broken read frame h
    ∙ ap (λ (b : Bool). cond b (manager_event f com_id frame.session (message_in frame.payload)) (to_session f com_id frame.session frame.payload (session_named f com_id frame.session))) m
    ∙ ap (λ (s : Option Begun). to_session f com_id frame.session frame.payload s) named

-- ---- which session it is

is-none : (x : Option Begun) → None ≡ option_map id_of x → x ≡ None
is-none None h = refl
is-none (Some s) h = cc

pub record Named (o : Origin) (past : List Event) (com_id : ℕ) (named : Session) (id : SessionId) : Type 0 where
  pub its : Begun
  pub by_past : session_named (facts o past) com_id named ≡ Some its
  pub lives : session_on past its.sp ≡ Some its
  pub is : id ≡ id_of its

-- the session of a number, on this ComID and by its host
abbrev pub id_on : ℕ → Option Sp → Option SessionId
id_on tsn sp = option_map (λ x. record { tsn = tsn; sp = x }) sp

abbrev pub found_at : Live → ℕ → Session → Option SessionId
found_at live com_id named = id_on named.tsn (found com_id named.hsn (session_at live named.tsn))

pub nobody : (o : Origin) (past : List Event) (live : Live) (com_id : ℕ) (named : Session) → KeepsSessions live past
    → found_at live com_id named ≡ None
    → session_named (facts o past) com_id named ≡ None
nobody o past live com_id named k h = is-none (session_named (facts o past) com_id named) (sym h ∙ named_law o live past com_id named k)

is-some : (x : Option Begun) (id : SessionId) → Some id ≡ option_map id_of x → (s : Begun) × (x ≡ Some s) × (id ≡ id_of s)
is-some None id h = cc
is-some (Some s) id h = (s, refl, some-same h)
  where
    some-same : Some id ≡ Some (id_of s) → id ≡ id_of s
    some-same g = cc

pub somebody : (o : Origin) (past : List Event) (live : Live) (com_id : ℕ) (named : Session) (id : SessionId) → KeepsSessions live past
    → found_at live com_id named ≡ Some id
    → Named o past com_id named id
somebody o past live com_id named id k h =
    let x = is-some (session_named (facts o past) com_id named) id (sym h ∙ named_law o live past com_id named k) in
    let y = named-lives (facts o past) com_id named x.0 x.1 in
    record {
      its = x.0;
      by_past = x.1;
      lives = ap (λ (sp : Sp). session_on past sp) (k.on y.0 x.0 y.1) ∙ y.1;
      is = x.2;
    }

-- what is found lives
found-on : (live : Live) (tsn : ℕ) (s : Holder) (b : Bool) (id : SessionId) → session_at live tsn ≡ Some s → id_on tsn (cond b (Some s.sp) None) ≡ Some id → live_holder live id ≡ Some s
found-on live tsn s false id h g = cc
found-on live tsn s true id h g =
    sym (ap (λ (x : SessionId). live_holder live x) (same g))
    ∙ ap (λ (x : Option Holder). holder_on s.sp x) h
    ∙ ap (λ (b : Bool). cond b (Some s) None) (sp-same s.sp)
  where
    same : id_on tsn (Some s.sp) ≡ Some id → record { tsn = tsn; sp = s.sp } ≡ id
    same k = cc

found-one : (live : Live) (com_id host tsn : ℕ) (x : Option Holder) (id : SessionId) → session_at live tsn ≡ x → id_on tsn (found com_id host x) ≡ Some id → live_holder live id ≡ None → ⊥
found-one live com_id host tsn None id h g n = cc
found-one live com_id host tsn (Some s) id h g n = let e = found-on live tsn s (is_of_host com_id host s) id h g in cc

pub found-lives : (live : Live) (com_id : ℕ) (named : Session) (id : SessionId) → found_at live com_id named ≡ Some id → live_holder live id ≡ None → ⊥
found-lives live com_id named id g = found-one live com_id named.hsn named.tsn (session_at live named.tsn) id refl g

-- the session of the manager has no numbers
pub manager-is : (session : Session) → session.tsn ≡ 0 → session.hsn ≡ 0 → is_manager session ≡ true
manager-is session t h = rw (t, h) refl

pub no-manager : (session : Session) → (session.tsn ≡ 0 → session.hsn ≡ 0 → ⊥) → is_manager session ≡ false
no-manager session n = by (session.tsn == 0) (session.hsn == 0) refl refl
  where
    by : (a b : Bool) → (session.tsn == 0) ≡ a → (session.hsn == 0) ≡ b → (a && b) ≡ false
    by false b h g = refl
    by true false h g = refl
    by true true h g = absurd (n (eqb-true _ _ h) (eqb-true _ _ g))

-- ---- what became of it

abbrev pub ByManager : Tper → Tper → ℕ → Frame → Sent → Type 0
ByManager t u com_id frame s = Manages com_id frame.session frame.payload s t u

abbrev pub BySession : Tper → Tper → ℕ → Frame → SessionId → Sent → Type 0
BySession t u com_id frame id s = ServesSession com_id frame.session id frame.payload s t u

-- what is discarded, and what is not, by what is kept and by the past
manager-is-event : (t : Tper) (o : Origin) (past : List Event) (com_id : ℕ) (broken : Option Broken) (read : Result Frame FrameError) (frame : Frame) (b : Bool) → IsFor read com_id frame → is_manager frame.session ≡ true → Keeps t o past → is_discarded t.store.config.profile (message_in frame.payload) ≡ b
    → sent_by (facts o past) com_id broken read ≡ cond b (ignores Discarded) (answers com_id frame.session (to_manager (facts o past) com_id (message_in frame.payload)))
manager-is-event t o past com_id broken read frame b h m k is =
    by-manager (facts o past) com_id broken read frame h m
    ∙ ap (λ (x : Bool). cond x (ignores Discarded) (answers com_id frame.session (to_manager (facts o past) com_id (message_in frame.payload))))
    (sym (ap (λ (config : Config). is_discarded config.profile (message_in frame.payload)) k.store.config) ∙ is)

session-is-event : (t : Tper) (o : Origin) (past : List Event) (com_id : ℕ) (broken : Option Broken) (read : Result Frame FrameError) (frame : Frame) (its : Begun) (b : Bool) → IsFor read com_id frame → is_manager frame.session ≡ false → session_named (facts o past) com_id frame.session ≡ Some its → Keeps t o past
    → breaks_off t.store.config.profile (item_in t.store.config.profile frame.payload) ≡ b
    → sent_by (facts o past) com_id broken read ≡ cond b (broken_off BrokenOff its.sp) (answers com_id frame.session (in_session (facts o past) its (item_in (facts o past).config.profile frame.payload)))
session-is-event t o past com_id broken read frame its b h m named k is =
    by-session (facts o past) com_id broken read frame (Some its) h m named
    ∙ ap (λ (x : Bool). cond x (broken_off BrokenOff its.sp) (answers com_id frame.session (in_session (facts o past) its (item_in (facts o past).config.profile frame.payload))))
    (sym (ap (λ (config : Config). breaks_off config.profile (item_in config.profile frame.payload)) k.store.config) ∙ is)

pub manager-kept : (t u : Tper) (o : Origin) (acts : List Act) (com_id : ℕ) (broken : Option Broken) (read : Result Frame FrameError) (frame : Frame) (s : Sent) → IsFor read com_id frame → is_manager frame.session ≡ true
    → ByManager t u com_id frame s → Keeps t o (log o acts) → Keeps u o (sent_by (facts o (log o acts)) com_id broken read ∷ log o acts)
manager-kept t u o acts com_id broken read frame s h m (inl its) k =
    subst (λ (x : Tper). Keeps x o (sent_by (facts o (log o acts)) com_id broken read ∷ log o acts)) (sym its.1.unchanged)
    (nothing-kept t o (log o acts) _ Discarded (manager-is-event t o (log o acts) com_id broken read frame true h m k its.0) k)
manager-kept t u o acts com_id broken read frame s h m (inr its) k =
    subst (λ (e : Event). Keeps u o (e ∷ log o acts)) (sym (manager-is-event t o (log o acts) com_id broken read frame false h m k its.0))
    (answer-kept t u o (log o acts) com_id frame.session _ its.1.said (its.1.met o (log o acts) k.store k.sessions k.beside) its.1.responds k)

pub manager-sent : (t u : Tper) (o : Origin) (acts : List Act) (com_id : ℕ) (broken : Option Broken) (read : Result Frame FrameError) (frame : Frame) (s : Sent) → IsFor read com_id frame → is_manager frame.session ≡ true
    → ByManager t u com_id frame s → Keeps t o (log o acts) → IsToldOfSend (sent_by (facts o (log o acts)) com_id broken read) s
manager-sent t u o acts com_id broken read frame s h m (inl its) k =
    nothing-sent _ Discarded s its.1.denied its.1.by its.1.erases (manager-is-event t o (log o acts) com_id broken read frame true h m k its.0)
manager-sent t u o acts com_id broken read frame s h m (inr its) k =
    subst (λ (e : Event). IsToldOfSend e s) (sym (manager-is-event t o (log o acts) com_id broken read frame false h m k its.0))
    (answer-sent t u com_id frame.session _ its.1.said s (its.1.met o (log o acts) k.store k.sessions k.beside) its.1.denied its.1.rule its.1.erases)

pub session-kept : (t u : Tper) (o : Origin) (acts : List Act) (com_id : ℕ) (broken : Option Broken) (read : Result Frame FrameError) (frame : Frame) (id : SessionId) (s : Sent) → IsFor read com_id frame → is_manager frame.session ≡ false
    → found_at t.live com_id frame.session ≡ Some id
    → BySession t u com_id frame id s → Keeps t o (log o acts) → Keeps u o (sent_by (facts o (log o acts)) com_id broken read ∷ log o acts)
session-kept t u o acts com_id broken read frame id s h m named (inl its) k =
    let n = somebody o (log o acts) t.live com_id frame.session id k.sessions named in
    subst (λ (e : Event). Keeps u o (e ∷ log o acts)) (sym (session-is-event t o (log o acts) com_id broken read frame n.its true h m n.by_past k its.0))
    (broken-kept t u o (log o acts) BrokenOff n.its.sp its.1.said (its.1.met o acts n.its k.store k.sessions k.beside n.lives n.is) its.1.waiting k)
session-kept t u o acts com_id broken read frame id s h m named (inr its) k =
    let n = somebody o (log o acts) t.live com_id frame.session id k.sessions named in
    subst (λ (e : Event). Keeps u o (e ∷ log o acts)) (sym (session-is-event t o (log o acts) com_id broken read frame n.its false h m n.by_past k its.0))
    (answer-kept t u o (log o acts) com_id frame.session _ its.1.said (its.1.met o acts n.its k.store k.sessions k.beside n.lives n.is) its.1.responds k)

pub session-sent : (t u : Tper) (o : Origin) (acts : List Act) (com_id : ℕ) (broken : Option Broken) (read : Result Frame FrameError) (frame : Frame) (id : SessionId) (s : Sent) → IsFor read com_id frame → is_manager frame.session ≡ false
    → found_at t.live com_id frame.session ≡ Some id
    → BySession t u com_id frame id s → Keeps t o (log o acts) → IsToldOfSend (sent_by (facts o (log o acts)) com_id broken read) s
session-sent t u o acts com_id broken read frame id s h m named (inl its) k =
    let n = somebody o (log o acts) t.live com_id frame.session id k.sessions named in
    subst (λ (e : Event). IsToldOfSend e s) (sym (session-is-event t o (log o acts) com_id broken read frame n.its true h m n.by_past k its.0))
    (record { failed = refl; denied = its.1.denied; rule = its.1.rule; erases = its.1.erases })
session-sent t u o acts com_id broken read frame id s h m named (inr its) k =
    let n = somebody o (log o acts) t.live com_id frame.session id k.sessions named in
    subst (λ (e : Event). IsToldOfSend e s) (sym (session-is-event t o (log o acts) com_id broken read frame n.its false h m n.by_past k its.0))
    (answer-sent t u com_id frame.session _ its.1.said s (its.1.met o acts n.its k.store k.sessions k.beside n.lives n.is) its.1.denied its.1.rule its.1.erases)

pub nobody-named : (t : Tper) (o : Origin) (past : List Event) (com_id : ℕ) (broken : Option Broken) (read : Result Frame FrameError) (frame : Frame) → IsFor read com_id frame → is_manager frame.session ≡ false
    → found_at t.live com_id frame.session ≡ None
    → Keeps t o past → sent_by (facts o past) com_id broken read ≡ ignores NoSession
nobody-named t o past com_id broken read frame h m none k =
    by-session (facts o past) com_id broken read frame None h m (nobody o past t.live com_id frame.session k.sessions none)

-- ---- what carries no whole subpacket

ignored-kept : (t u : Tper) (o : Origin) (past : List Event) (rule : Rule) (s : Sent) → IsIgnored rule s t u → Keeps t o past → Keeps u o (ignores rule ∷ past)
ignored-kept t u o past rule s its k = subst (λ (x : Tper). Keeps x o (ignores rule ∷ past)) (sym its.unchanged) (nothing-kept t o past (ignores rule) rule refl k)

ignored-sent : (t u : Tper) (rule : Rule) (s : Sent) → IsIgnored rule s t u → IsToldOfSend (ignores rule) s
ignored-sent t u rule s its = nothing-sent (ignores rule) rule s its.denied its.by its.erases refl

unframed-at : (t u : Tper) (o : Origin) (acts : List Act) (com_id : ℕ) (broken : Option Broken) (s : Sent) → EndsFound (named_for com_id broken t.live) s t u → Keeps t o (log o acts) → Keeps u o (unframed (facts o (log o acts)) com_id broken ∷ log o acts)
unframed-at t u o acts com_id None s its k = ignored-kept t u o (log o acts) NoFrame s its k
unframed-at t u o acts com_id (Some named) s its k = by_id (named.com_id == com_id) its
  where
    by_found : (x : Option SessionId) → found_in t.live com_id named.session ≡ x → EndsFound x s t u → Keeps u o (unframed_in (session_named (facts o (log o acts)) com_id named.session) ∷ log o acts)
    by_found None is got =
        subst (λ (y : Option Begun). Keeps u o (unframed_in y ∷ log o acts)) (sym (nobody o (log o acts) t.live com_id named.session k.sessions is)) (ignored-kept t u o (log o acts) NoFrame s got k)
    by_found (Some id) is got =
        let n = somebody o (log o acts) t.live com_id named.session id k.sessions is in
        subst (λ (y : Option Begun). Keeps u o (unframed_in y ∷ log o acts)) (sym n.by_past)
        (broken-kept t u o (log o acts) NoSubpacket n.its.sp got.said (got.met o acts n.its k.store k.sessions k.beside n.lives n.is) got.waiting k)

    by_id : (b : Bool) → EndsFound (cond b (found_in t.live com_id named.session) None) s t u → Keeps u o (cond b (unframed_in (session_named (facts o (log o acts)) com_id named.session)) (ignores NoFrame) ∷ log o acts)
    by_id false got = ignored-kept t u o (log o acts) NoFrame s got k
    by_id true got = by_found (found_in t.live com_id named.session) refl got

unframed-told : (t u : Tper) (o : Origin) (acts : List Act) (com_id : ℕ) (broken : Option Broken) (s : Sent) → EndsFound (named_for com_id broken t.live) s t u → Keeps t o (log o acts) → IsToldOfSend (unframed (facts o (log o acts)) com_id broken) s
unframed-told t u o acts com_id None s its k = ignored-sent t u NoFrame s its
unframed-told t u o acts com_id (Some named) s its k = by_id (named.com_id == com_id) its
  where
    by_found : (x : Option SessionId) → found_in t.live com_id named.session ≡ x → EndsFound x s t u → IsToldOfSend (unframed_in (session_named (facts o (log o acts)) com_id named.session)) s
    by_found None is got =
        subst (λ (y : Option Begun). IsToldOfSend (unframed_in y) s) (sym (nobody o (log o acts) t.live com_id named.session k.sessions is)) (ignored-sent t u NoFrame s got)
    by_found (Some id) is got =
        let n = somebody o (log o acts) t.live com_id named.session id k.sessions is in
        subst (λ (y : Option Begun). IsToldOfSend (unframed_in y) s) (sym n.by_past)
        (record { failed = refl; denied = got.denied; rule = got.rule; erases = got.erases })

    by_id : (b : Bool) → EndsFound (cond b (found_in t.live com_id named.session) None) s t u → IsToldOfSend (cond b (unframed_in (session_named (facts o (log o acts)) com_id named.session)) (ignores NoFrame)) s
    by_id false got = ignored-sent t u NoFrame s got
    by_id true got = by_found (found_in t.live com_id named.session) refl got

unframed-is : (t : Tper) (o : Origin) (past : List Event) (com_id : ℕ) (payload : List ℕ) (e : FrameError) → frame_in payload ≡ Err e → Keeps t o past → sent (facts o past) com_id payload ≡ unframed (facts o past) com_id (broken_of t.store.config.profile payload)
unframed-is t o past com_id payload e h k =
    ap (λ (r : Result Frame FrameError). sent_by (facts o past) com_id (broken_of o.tables.config.profile payload) r) h
    ∙ ap (λ (config : Config). unframed (facts o past) com_id (broken_of config.profile payload)) (sym k.store.config)

pub unframed-kept : (t u : Tper) (o : Origin) (acts : List Act) (com_id : ℕ) (payload : List ℕ) (e : FrameError) (s : Sent) → frame_in payload ≡ Err e → IsUnframed com_id payload s t u → Keeps t o (log o acts)
    → Keeps u o (sent (facts o (log o acts)) com_id payload ∷ log o acts)
unframed-kept t u o acts com_id payload e s h its k =
    subst (λ (x : Event). Keeps u o (x ∷ log o acts)) (sym (unframed-is t o (log o acts) com_id payload e h k)) (unframed-at t u o acts com_id (broken_of t.store.config.profile payload) s its k)

pub unframed-sent : (t u : Tper) (o : Origin) (acts : List Act) (com_id : ℕ) (payload : List ℕ) (e : FrameError) (s : Sent) → frame_in payload ≡ Err e → IsUnframed com_id payload s t u → Keeps t o (log o acts)
    → IsToldOfSend (sent (facts o (log o acts)) com_id payload) s
unframed-sent t u o acts com_id payload e s h its k =
    subst (λ (x : Event). IsToldOfSend x s) (sym (unframed-is t o (log o acts) com_id payload e h k)) (unframed-told t u o acts com_id (broken_of t.store.config.profile payload) s its k)

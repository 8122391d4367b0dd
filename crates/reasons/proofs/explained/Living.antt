-- What is kept of sessions, over one more act.
use Rattle.std.proofs.Common.{◌≡◌, ◌∙◌, ℕ, ◌+◌, ◌%◌, ◌^◌, ◌&&◌, ◌||◌, not, Bool, true, false, List, [], ◌∷◌, refl, sym, ap, subst, if◌then◌else◌, arith, Option, None, Some}
use Rattle.std.specs.Prelude.{is_some, option_map, unwrap_or}
use Rattle.sp_cells.specs.declared.names.Sp.{Sp}
use Rattle.sp_cells.specs.declared.names.Sp.TheVariants.{Admin, Locking}
use Rattle.sp_cells.specs.Flat.{sp_eq}
use Rattle.sessions.specs.Deeds.{Begun, SessionDeed, Unchanged, Started, Tried, Changed, Began, Committed, Aborted, Ended, Activated, Reverted, Erased, Drew, HostTold, StackReset, StackTold}
use Rattle.history.specs.Opening.{Origin}
use Rattle.history.specs.Events.{Response, Deed, InSession, WasReset, Event, or_else, latest, count}
use Rattle.history.specs.Readers.{restores, is_start, first_number, next_number, living, session_on}
use Rattle.history.specs.History.{Act, event, log}
use Rattle.history.specs.Deeds.{CanDo, IsNew, DeedLaw}
use Rattle.history.proofs.DeedLaws.{deed_law}
use Rattle.reasons.specs.declared.explained.onset.Source.{Source}
use Rattle.reasons.specs.declared.explained.onset.Cause.{Cause}
use Rattle.reasons.specs.declared.explained.onset.Onset.{Onset}
use Rattle.reasons.specs.declared.explained.onset.Onset.TheVariants.{AtOpening, AtAct}
use Rattle.reasons.specs.declared.explained.lives.SpLife.{SpLife}
use Rattle.reasons.specs.Onsets.{Sourced, with_act, bare_acts, act_number, cause_at, onset_at, onset_after, held_since}
use Rattle.reasons.specs.Lives.{lives_after, is_free_after, counted_number, number_begun, last_number, KeptLives, life_on, begins_now, number_after, life_after, next_after, life_of, RecountsLives}
use Rattle.reasons.proofs.explained.Keeping.{one_more}

-- The number of a session that begins.

never : (x : Bool) (n : ℕ) → ◌≡◌ {A = Option ℕ} None (if not x && false then Some n else None)
never true n = refl
never false n = refl

same : (x : Bool) (n : ℕ) → ◌≡◌ {A = Option ℕ} None (if not x && x then Some n else None)
same true n = refl
same false n = refl

-- an end, of this SP's session or of another's
ended : (b : Bool) (x : Option (Option Begun)) (n : ℕ)
    → None ≡ (if not (is_some (unwrap_or x None)) && is_some (unwrap_or (or_else (if b then Some None else None) x) None) then Some n else None)
ended true x n = never (is_some (unwrap_or x None)) n
ended false x n = same (is_some (unwrap_or x None)) n

one-sp : (a b : Sp) → sp_eq a b ≡ true → a ≡ b
one-sp Admin Admin h = refl
one-sp Locking Locking h = refl
one-sp Admin Locking h = absurd cc
one-sp Locking Admin h = absurd cc

-- a start, on this SP or on another
on-this : (x : Option (Option Begun)) (session : Begun) (n : ℕ) → unwrap_or x None ≡ None → session.number ≡ n
    → Some session.number ≡ (if not (is_some (unwrap_or x None)) && true then Some n else None)
on-this x session n free is =
    ap (λ (k : ℕ). Some k) is ∙ sym (ap (λ (y : Option Begun). if not (is_some y) && true then Some n else None) free)

started : (b : Bool) (x : Option (Option Begun)) (session : Begun) (n : ℕ) → (b ≡ true → unwrap_or x None ≡ None) → session.number ≡ n
    → (if b then Some session.number else None)
    ≡ (if not (is_some (unwrap_or x None)) && is_some (unwrap_or (or_else (if b then Some (Some session) else None) x) None) then Some n else None)
started true x session n free is = on-this x session n (free refl) is
started false x session n free is = same (is_some (unwrap_or x None)) n

abbrev begun_by : List Event → Sp → Deed → Option ℕ
begun_by past sp d =
    if not (is_some (session_on past sp)) && is_some (unwrap_or (or_else (living sp d) (latest (living sp) past)) None)
    then Some (next_number past) else None

by-item : (o : Origin) (past : List Event) (sp : Sp) (deed : SessionDeed) (response : Response) → CanDo o past deed
    → number_begun sp (InSession deed response) ≡ begun_by past sp (InSession deed response)
by-item o past sp Unchanged response can = same (is_some (session_on past sp)) (next_number past)
by-item o past sp (Started session row) response can =
    started (sp_eq session.sp sp) (latest (living sp) past) session (next_number past)
    (λ on. ap (session_on past) (sym (one-sp session.sp sp on)) ∙ can.free) can.number
by-item o past sp (Tried attempt) response can = same (is_some (session_on past sp)) (next_number past)
by-item o past sp (Changed its change) response can = same (is_some (session_on past sp)) (next_number past)
by-item o past sp (Began its number) response can = same (is_some (session_on past sp)) (next_number past)
by-item o past sp (Committed its) response can = same (is_some (session_on past sp)) (next_number past)
by-item o past sp (Aborted its) response can = same (is_some (session_on past sp)) (next_number past)
by-item o past sp (Ended its) response can = ended (sp_eq its sp) (latest (living sp) past) (next_number past)
by-item o past sp (Activated pin) response can = same (is_some (session_on past sp)) (next_number past)
by-item o past sp (Reverted its erasure) response can = ended (restores its sp) (latest (living sp) past) (next_number past)
by-item o past sp (Erased erasure) response can = same (is_some (session_on past sp)) (next_number past)
by-item o past sp (Drew count) response can = same (is_some (session_on past sp)) (next_number past)
by-item o past sp (HostTold com_id limits) response can = same (is_some (session_on past sp)) (next_number past)
by-item o past sp (StackReset com_id ends) response can = ended (ends sp) (latest (living sp) past) (next_number past)
by-item o past sp (StackTold com_id) response can = same (is_some (session_on past sp)) (next_number past)

by-deed : (o : Origin) (past : List Event) (sp : Sp) (d : Deed) → ((deed : SessionDeed) (response : Response) → d ≡ InSession deed response → CanDo o past deed)
    → number_begun sp d ≡ begun_by past sp d
by-deed o past sp (InSession deed response) can = by-item o past sp deed response (can deed response refl)
by-deed o past sp (WasReset kind) can = never (is_some (session_on past sp)) (next_number past)
by-deed o past sp _ can = same (is_some (session_on past sp)) (next_number past)

-- of an act
begun : (o : Origin) (past : List Event) (act : Act) (sp : Sp) → number_begun sp (event o past act).deed ≡ begun_by past sp (event o past act).deed
begun o past act sp = by-deed o past sp (event o past act).deed (λ deed response is. deed_law o past act deed response is)

-- A start is one on one of the SPs.

on-one : (sp : Sp) (n : ℕ) → true ≡ (is_some (if sp_eq sp Admin then Some n else None) || is_some (if sp_eq sp Locking then Some n else None))
on-one Admin n = refl
on-one Locking n = refl

start-by : (deed : SessionDeed) (response : Response)
    → is_start (InSession deed response) ≡ (is_some (number_begun Admin (InSession deed response)) || is_some (number_begun Locking (InSession deed response)))
start-by (Started session row) response = on-one session.sp session.number
start-by _ response = refl

start-is : (d : Deed) → is_start d ≡ (is_some (number_begun Admin d) || is_some (number_begun Locking d))
start-is (InSession deed response) = start-by deed response
start-is _ = refl

some-if : (b : Bool) (n : ℕ) → is_some (if b then Some n else None) ≡ b
some-if true n = refl
some-if false n = refl

-- What is kept.

some-after : (before : Option Onset) (b : Bool) (now : Onset) → is_some (onset_after before b now) ≡ b
some-after before true now = refl
some-after before false now = refl

holds-now : (p : List Sourced → Bool) (past : List Sourced) → is_some (held_since p past) ≡ p past
holds-now p [] = some-after None (p []) AtOpening
holds-now p (s ∷ before) = some-after (held_since p before) (p (s ∷ before)) (onset_at s before)

wraps : (a n : ℕ) → (counted_number (a + n) + 1) % 2 ^ 64 ≡ counted_number (a + (n + 1))
wraps a n = grind arith

counted : (b : Bool) (a n : ℕ) → next_after b (counted_number (a + n)) ≡ counted_number (a + (if b then n + 1 else n))
counted true a n = wraps a n
counted false a n = refl

later : (b : Bool) (n : ℕ) (x : Option ℕ) → (if b then Some (counted_number n) else option_map counted_number x) ≡ option_map counted_number (or_else (if b then Some n else None) x)
later true n x = refl
later false n x = refl

pub opens : (o : Origin) (k : KeptLives) → k.acts ≡ 0 → k.next ≡ first_number
    → k.admin ≡ record { busy = None; free = Some AtOpening; last = None }
    → k.locking ≡ record { busy = None; free = Some AtOpening; last = None } → RecountsLives k o []
opens o k acts next admin locking = record { acts = acts; next = next; on = by_sp }
  where
    by_sp : (sp : Sp) → life_on k sp ≡ life_of o [] sp
    by_sp Admin = admin
    by_sp Locking = locking

-- the number of the last session, with one act more or none
no-more : (x : Bool) (n : ℕ) (last : Option ℕ) → (if not x && x then Some n else last) ≡ last
no-more true n last = refl
no-more false n last = refl

last-at : (o : Origin) (acts : List Act) (sp : Sp) (a : Option Act) (free lives : Bool) (next : ℕ) (last : Option ℕ)
    → free ≡ not (is_some (session_on (log o acts) sp)) → lives ≡ is_some (session_on (log o (with_act a acts)) sp)
    → next ≡ counted_number (next_number (log o acts)) → last ≡ option_map counted_number (latest (number_begun sp) (log o acts))
    → (if free && lives then Some next else last) ≡ option_map counted_number (latest (number_begun sp) (log o (with_act a acts)))
last-at o acts sp None free lives next last is-free is-living is-next is-last =
    ap (λ (b : Bool). if b && lives then Some next else last) is-free
    ∙ ap (λ (b : Bool). if not (is_some (session_on (log o acts) sp)) && b then Some next else last) is-living
    ∙ no-more (is_some (session_on (log o acts) sp)) next last ∙ is-last
last-at o acts sp (Some act) free lives next last is-free is-living is-next is-last =
    let past = log o acts in
    let made = event o past act in
    let now = is_some (unwrap_or (or_else (living sp made.deed) (latest (living sp) past)) None) in
    let starts = not (is_some (session_on past sp)) && now in
    ap (λ (b : Bool). if b && lives then Some next else last) is-free
    ∙ ap (λ (b : Bool). if not (is_some (session_on past sp)) && b then Some next else last) is-living
    ∙ ap (λ (n : ℕ). if starts then Some n else last) is-next
    ∙ ap (λ (x : Option ℕ). if starts then Some (counted_number (next_number past)) else x) is-last
    ∙ later starts (next_number past) (latest (number_begun sp) past)
    ∙ ap (λ (x : Option ℕ). option_map counted_number (or_else x (latest (number_begun sp) past))) (sym (begun o past act sp))

-- the number of the next one
next-at : (o : Origin) (acts : List Act) (a : Option Act) (begins : Bool) (next : ℕ)
    → begins
    ≡ ((not (is_some (session_on (log o acts) Admin)) && is_some (session_on (log o (with_act a acts)) Admin))
    || (not (is_some (session_on (log o acts) Locking)) && is_some (session_on (log o (with_act a acts)) Locking)))
    → next ≡ counted_number (next_number (log o acts))
    → next_after begins next ≡ counted_number (next_number (log o (with_act a acts)))
next-at o acts None begins next is-so is-next =
    ap (λ (b : Bool). next_after b next) (is-so ∙ neither (is_some (session_on (log o acts) Admin)) (is_some (session_on (log o acts) Locking))) ∙ is-next
  where
    neither : (x y : Bool) → ((not x && x) || (not y && y)) ≡ false
    neither true true = refl
    neither true false = refl
    neither false true = refl
    neither false false = refl
next-at o acts (Some act) begins next is-so is-next =
    let past = log o acts in
    let d = (event o past act).deed in
    let on_admin = not (is_some (session_on past Admin)) && is_some (unwrap_or (or_else (living Admin d) (latest (living Admin) past)) None) in
    let on_locking = not (is_some (session_on past Locking)) && is_some (unwrap_or (or_else (living Locking d) (latest (living Locking) past)) None) in
    let starts : (on_admin || on_locking) ≡ is_start d =
    ap (λ (b : Bool). b || on_locking) (sym (ap is_some (begun o past act Admin) ∙ some-if on_admin (next_number past)))
    ∙ ap (λ (b : Bool). is_some (number_begun Admin d) || b) (sym (ap is_some (begun o past act Locking) ∙ some-if on_locking (next_number past)))
    ∙ sym (start-is d) in
    ap (λ (b : Bool). next_after b next) (is-so ∙ starts)
    ∙ ap (λ (n : ℕ). next_after (is_start d) n) is-next
    ∙ counted (is_start d) first_number (count is_start past)

abbrev living-as : Option Onset → Option Onset → Option ℕ → SpLife
living-as busy free last = record { busy = busy; free = free; last = last }

-- with one act more, or a step that does none
pub goes_on : (o : Origin) (s : Sourced) (past : List Sourced) (k new : KeptLives) (admin locking : Bool) (now : Onset)
    → new.acts ≡ (k.acts + 1) % 2 ^ 64 → now ≡ AtAct new.acts s.source (cause_at s.act)
    → new.next ≡ next_after (begins_now admin k.admin || begins_now locking k.locking) k.next
    → new.admin ≡ life_after admin k.next now k.admin → new.locking ≡ life_after locking k.next now k.locking
    → admin ≡ lives_after o Admin (s ∷ past) → locking ≡ lives_after o Locking (s ∷ past)
    → RecountsLives k o past → RecountsLives new o (s ∷ past)
goes_on o s past k new admin locking now acts is-now next on-admin on-locking lives-admin lives-locking kept = record {
  acts = counts;
  next = next
      ∙ next-at o (bare_acts past) s.act (begins_now admin k.admin || begins_now locking k.locking) k.next
      (ap (λ (b : Bool). (b && admin) || (is_some k.locking.free && locking)) (was-free Admin)
      ∙ ap (λ (b : Bool). (not (lives_after o Admin past) && b) || (is_some k.locking.free && locking)) lives-admin
      ∙ ap (λ (b : Bool). (not (lives_after o Admin past) && lives_after o Admin (s ∷ past)) || (b && locking)) (was-free Locking)
      ∙ ap (λ (b : Bool). (not (lives_after o Admin past) && lives_after o Admin (s ∷ past)) || (not (lives_after o Locking past) && b)) lives-locking)
      kept.next;
  on = by_sp;
}
  where
    counts : new.acts ≡ act_number (s ∷ past)
    counts = acts ∙ one_more k.acts s past kept.acts

    at : now ≡ onset_at s past
    at = is-now ∙ ap (λ (n : ℕ). AtAct n s.source (cause_at s.act)) counts

    was-free : (sp : Sp) → is_some (life_on k sp).free ≡ not (lives_after o sp past)
    was-free sp = ap (λ (l : SpLife). is_some l.free) (kept.on sp) ∙ holds-now (is_free_after o sp) past

    busy-so : (sp : Sp) (lives : Bool) → lives ≡ lives_after o sp (s ∷ past)
        → onset_after (life_on k sp).busy lives now ≡ held_since (lives_after o sp) (s ∷ past)
    busy-so sp lives is =
        ap (λ (l : SpLife). onset_after l.busy lives now) (kept.on sp)
        ∙ ap (λ (b : Bool). onset_after (held_since (lives_after o sp) past) b now) is
        ∙ ap (λ (x : Onset). onset_after (held_since (lives_after o sp) past) (lives_after o sp (s ∷ past)) x) at

    free-so : (sp : Sp) (lives : Bool) → lives ≡ lives_after o sp (s ∷ past)
        → onset_after (life_on k sp).free (not lives) now ≡ held_since (is_free_after o sp) (s ∷ past)
    free-so sp lives is =
        ap (λ (l : SpLife). onset_after l.free (not lives) now) (kept.on sp)
        ∙ ap (λ (b : Bool). onset_after (held_since (is_free_after o sp) past) (not b) now) is
        ∙ ap (λ (x : Onset). onset_after (held_since (is_free_after o sp) past) (is_free_after o sp (s ∷ past)) x) at

    last-so : (sp : Sp) (lives : Bool) → lives ≡ lives_after o sp (s ∷ past)
        → number_after lives k.next (life_on k sp) ≡ last_number o (s ∷ past) sp
    last-so sp lives is =
        last-at o (bare_acts past) sp s.act (is_some (life_on k sp).free) lives k.next (life_on k sp).last (was-free sp) is kept.next (ap (λ (l : SpLife). l.last) (kept.on sp))

    so : (sp : Sp) (lives : Bool) → lives ≡ lives_after o sp (s ∷ past)
        → life_after lives k.next now (life_on k sp) ≡ life_of o (s ∷ past) sp
    so sp lives is =
        ap (λ (x : Option Onset). living-as x (onset_after (life_on k sp).free (not lives) now) (number_after lives k.next (life_on k sp))) (busy-so sp lives is)
        ∙ ap (λ (x : Option Onset). living-as (held_since (lives_after o sp) (s ∷ past)) x (number_after lives k.next (life_on k sp))) (free-so sp lives is)
        ∙ ap (λ (x : Option ℕ). living-as (held_since (lives_after o sp) (s ∷ past)) (held_since (is_free_after o sp) (s ∷ past)) x) (last-so sp lives is)

    by_sp : (sp : Sp) → life_on new sp ≡ life_of o (s ∷ past) sp
    by_sp Admin = on-admin ∙ so Admin admin lives-admin
    by_sp Locking = on-locking ∙ so Locking locking lives-locking

-- The sessions that are kept after one more event that begins none.
use Rattle.std.proofs.Common.{◌≡◌, ◌<◌, ℕ, ◌+◌, ◌==◌, Bool, true, false, ◌&&◌, ◌||◌, List, [], ◌∷◌, ◌++◌, Option, Some, None, refl, sym, ◌∙◌, ap, cond, subst, append_assoc, eqb-true, ◌⊎◌, inl, inr}
use Rattle.std.specs.Prelude.{option_to_list}
use Rattle.std.specs.List.{flat_map}
use Rattle.std.proofs.lemmas.List.Folds.{list_any-append}
use Rattle.sp_cells.specs.declared.names.Uid.{Uid}
use Rattle.sp_cells.specs.declared.names.Sp.{Sp}
use Rattle.sp_cells.specs.declared.names.Sp.TheVariants.{Admin, Locking}
use Rattle.sp_cells.specs.Flat.{sp_eq}
use Rattle.ace_eval.specs.Truth.{has}
use Rattle.sessions.specs.Live.{Holder, Live, session_at}
use Rattle.sessions.specs.Deeds.{Begun, Attempt, Tried}
use Rattle.history.specs.Events.{Response, InSession, Event, or_else, since, every, count}
use Rattle.history.specs.Readers.{is_start, living, session_on, next_number, starts, gains, authorities}
use Rattle.history.specs.KeptSessions.{KeepsSession, IsKeptAs, if_number, session_numbered, KeepsSessions}
use Rattle.sessions.specs.Made.{with_each, gains_on, Leaves}
use Rattle.history.proofs.Words.{sp-is}
use Rattle.history.proofs.Emptied.{every-since-more}
use Rattle.history.proofs.Steps.{tried-gains, gone, lives-on}
use Rattle.history.proofs.KeptSessionsNumbers.{Hits, Misses, split, numbered-miss, numbered-hit, true-apart, none-apart, kept-none, Kept, kept-some, none-kept, some-kept}

pub sp-flip : (s t : Sp) → sp_eq s t ≡ sp_eq t s
sp-flip Admin Admin = refl
sp-flip Admin Locking = refl
sp-flip Locking Admin = refl
sp-flip Locking Locking = refl

-- an event that begins no session of the SP and brings it no authority
pub authorities-same : (e : Event) (es : List Event) (b : Begun) → starts b.sp e.deed ≡ false → gains b.sp e.deed ≡ None → authorities (e ∷ es) b ≡ authorities es b
authorities-same e es b start none =
    ap (λ l. flat_map (λ us. us) l ++ b.authorities)
    (every-since-more (gains b.sp) (starts b.sp) e es false start ∙ ap (λ x. option_to_list x ++ every (gains b.sp) (since (starts b.sp) es)) none)

pub kept-more : (e : Event) (es : List Event) (h : Holder) (b : Begun) → KeepsSession es h b → authorities (e ∷ es) b ≡ authorities es b → KeepsSession (e ∷ es) h b
kept-more e es h b k same = record { sp = k.sp; com_id = k.com_id; host = k.host; held = λ a. k.held a ∙ ap (λ us. has us a) (sym same) }

next-same : (e : Event) (es : List Event) → is_start e.deed ≡ false → next_number (e ∷ es) ≡ next_number es
next-same e es h = ap (λ t. 0x1000 + cond t (count is_start es + 1) (count is_start es)) h

-- an event that ends the sessions of some SPs and leaves the others
pub record Ends (e : Event) (ends : Sp → Bool) (f : Option Holder → Option Holder) : Type 0 where
  pub none : f None ≡ None
  pub some : (h : Holder) → f (Some h) ≡ cond (ends h.sp) None (Some h)
  pub turns : (s : Sp) → living s e.deed ≡ cond (ends s) (Some None) None
  pub starts_none : (s : Sp) → starts s e.deed ≡ false
  pub gains_none : (s : Sp) → gains s e.deed ≡ None
  pub is_no_start : is_start e.deed ≡ false

ended-on : (e : Event) (es : List Event) (s : Sp) (b : Bool) → living s e.deed ≡ cond b (Some None) None → session_on (e ∷ es) s ≡ cond b None (session_on es s)
ended-on e es s true h = gone e es s h
ended-on e es s false h = lives-on e es s h

record Still (e : Event) (es : List Event) (ends : Sp → Bool) (sp : Sp) (s : Begun) : Type 0 where
  was : session_on es sp ≡ Some s
  stays : ends sp ≡ false

still-lives : (e : Event) (es : List Event) (ends : Sp → Bool) (f : Option Holder → Option Holder) → Ends e ends f → (sp : Sp) (s : Begun) → session_on (e ∷ es) sp ≡ Some s → Still e es ends sp s
still-lives e es ends f d sp s is = by_end (ends sp) refl (sym (ended-on e es sp (ends sp) (d.turns sp)) ∙ is)
  where
    by_end : (b : Bool) → ends sp ≡ b → cond b None (session_on es sp) ≡ Some s → Still e es ends sp s
    by_end true at h = absurd (none-apart h)
    by_end false at h = record { was = h; stays = at }

-- a session that stays is kept
stays-at : (e : Event) (es : List Event) (ends : Sp → Bool) (f : Option Holder → Option Holder) (l m : Live) → Ends e ends f → KeepsSessions l es → Leaves f l m
    → (n : ℕ) (h : Hits (session_on (e ∷ es)) n) → Kept (e ∷ es) (session_at m n) h.session
stays-at e es ends f l m d k left n h =
    let still = still-lives e es ends f d h.sp h.session h.lives in
    let was : Hits (session_on es) n = record { sp = h.sp; session = h.session; lives = still.was; number = h.number } in
    let kept = kept-some es (session_at l n) (session_numbered es n) h.session (k.at n) (numbered-hit (session_on es) n k.apart was) in
    let on : kept.holder.sp ≡ h.sp = kept.keeps.sp ∙ k.on h.sp h.session still.was in
    record {
      holder = kept.holder;
      is = left.at n ∙ ap f kept.is ∙ d.some kept.holder ∙ ap (λ b. cond b None (Some kept.holder)) (ap ends on ∙ still.stays);
      keeps = kept-more e es kept.holder h.session kept.keeps (authorities-same e es h.session (d.starts_none h.session.sp) (d.gains_none h.session.sp));
    }

-- and where none stays, none is
none-stays : (e : Event) (es : List Event) (ends : Sp → Bool) (f : Option Holder → Option Holder) (l m : Live) → Ends e ends f → KeepsSessions l es → Leaves f l m
    → (n : ℕ) → Misses (session_on (e ∷ es)) n → session_at m n ≡ None
none-stays e es ends f l m d k left n misses = elim (split (session_on es) n) [
  | inl h ↦ by_end h (kept-some es (session_at l n) (session_numbered es n) h.session (k.at n) (numbered-hit (session_on es) n k.apart h)) (ends h.sp) refl
  | inr missed ↦ left.at n ∙ ap f (kept-none es (session_at l n) (session_numbered es n) (k.at n) (numbered-miss (session_on es) n missed)) ∙ d.none
]
  where
    by_end : (h : Hits (session_on es) n) → Kept es (session_at l n) h.session → (b : Bool) → ends h.sp ≡ b → session_at m n ≡ None
    by_end h kept true at = left.at n ∙ ap f kept.is ∙ d.some kept.holder ∙ ap (λ b. cond b None (Some kept.holder)) (ap ends (kept.keeps.sp ∙ k.on h.sp h.session h.lives) ∙ at)
    by_end h kept false at =
        absurd (true-apart (sym h.number ∙ misses h.sp h.session (ended-on e es h.sp (ends h.sp) (d.turns h.sp) ∙ ap (λ b. cond b None (session_on es h.sp)) at ∙ h.lives)))

pub left-kept : (e : Event) (es : List Event) (ends : Sp → Bool) (f : Option Holder → Option Holder) (l m : Live) → Ends e ends f → KeepsSessions l es → Leaves f l m → KeepsSessions m (e ∷ es)
left-kept e es ends f l m d k left = record {
  next = left.next ∙ k.next ∙ sym (next-same e es d.is_no_start);
  at = λ n. by_split n (split (session_on (e ∷ es)) n);
  on = λ sp s is. k.on sp s (was sp s is);
  below = λ sp s is. let lt : s.number < l.next = k.below sp s (was sp s is) in subst (λ x. s.number < x) (sym left.next) lt;
  apart = apart;
}
  where
    was : (sp : Sp) (s : Begun) → session_on (e ∷ es) sp ≡ Some s → session_on es sp ≡ Some s
    was sp s is = (still-lives e es ends f d sp s is).was

    apart : (a b : Begun) → session_on (e ∷ es) Admin ≡ Some a → session_on (e ∷ es) Locking ≡ Some b → (a.number == b.number) ≡ false
    apart a b is its = k.apart a b (was Admin a is) (was Locking b its)

    by_split : (n : ℕ) → Hits (session_on (e ∷ es)) n ⊎ Misses (session_on (e ∷ es)) n → IsKeptAs (e ∷ es) (session_at m n) (session_numbered (e ∷ es) n)
    by_split n (inl h) =
        let kept = stays-at e es ends f l m d k left n h in
        some-kept (e ∷ es) (session_at m n) (session_numbered (e ∷ es) n) kept.holder h.session kept.is (numbered-hit (session_on (e ∷ es)) n apart h) kept.keeps
    by_split n (inr misses) =
        none-kept (e ∷ es) (session_at m n) (session_numbered (e ∷ es) n) (none-stays e es ends f l m d k left n misses) (numbered-miss (session_on (e ∷ es)) n misses)

-- An attempt.

or-false : (b : Bool) → (b || false) ≡ b
or-false true = refl
or-false false = refl

or-flip : (a b : Bool) → (a || b) ≡ (b || a)
or-flip true true = refl
or-flip true false = refl
or-flip false true = refl
or-flip false false = refl

or-assoc : (a b c : Bool) → ((a || b) || c) ≡ (a || (b || c))
or-assoc true b c = refl
or-assoc false b c = refl

-- what is held behind what was held
has-behind : (held : List Uid) (a x : Uid) → has (held ++ a ∷ []) x ≡ (has held x || (a.0 == x.0))
has-behind [] a x = or-false (a.0 == x.0)
has-behind (u ∷ us) a x = ap (λ b. (u.0 == x.0) || b) (has-behind us a x) ∙ sym (or-assoc (u.0 == x.0) (has us x) (a.0 == x.0))

held-already : (held : List Uid) (a x : Uid) (b : Bool) → (a.0 == x.0) ≡ b → has held a ≡ true → has held x ≡ (has held x || b)
held-already held a x false is h = sym (or-false (has held x))
held-already held a x true is h =
    let held_x : has held x ≡ true = sym (ap (λ n. has held (record { 0 = n })) (eqb-true a.0 x.0 is)) ∙ h in
    held_x ∙ sym (ap (λ b. b || true) held_x)

has-one : (held : List Uid) (a x : Uid) (b : Bool) → has held a ≡ b → has (cond b held (held ++ a ∷ [])) x ≡ (has held x || (a.0 == x.0))
has-one held a x true is = held-already held a x (a.0 == x.0) refl is
has-one held a x false is = has-behind held a x

has-each : (gains held : List Uid) (x : Uid) → has (with_each gains held) x ≡ (has held x || has gains x)
has-each [] held x = sym (or-false (has held x))
has-each (a ∷ more) held x =
    has-each more (cond (has held a) held (held ++ a ∷ [])) x
    ∙ ap (λ b. b || has more x) (has-one held a x (has held a) refl)
    ∙ or-assoc (has held x) (a.0 == x.0) (has more x)

-- what a session of an SP has after it
has-tried : (e : Event) (es : List Event) (t : Attempt) (s : Begun) (r : Response) (a : Uid) (b : Bool) → e.deed ≡ InSession (Tried t) r → sp_eq s.sp t.sp ≡ b
    → has (authorities (e ∷ es) s) a ≡ (has (authorities es s) a || (b && has t.gained a))
has-tried e es t s r a true is on =
    let gained : List Uid = flat_map (λ us. us) (every (gains s.sp) (since (starts s.sp) es)) in
    ap (λ us. has us a) (tried-gains e es t s r is (sp-is s.sp t.sp on) ∙ append_assoc t.gained gained s.authorities)
    ∙ list_any-append (λ u. u.0 == a.0) t.gained (gained ++ s.authorities)
    ∙ or-flip (has t.gained a) (has (authorities es s) a)
has-tried e es t s r a false is on =
    ap (λ us. has us a) (authorities-same e es s (ap (starts s.sp) is) (ap (gains s.sp) is ∙ ap (λ b. cond b (Some t.gained) None) (sp-flip t.sp s.sp ∙ on)))
    ∙ sym (or-false (has (authorities es s) a))

tried-at : (e : Event) (es : List Event) (t : Attempt) (r : Response) → e.deed ≡ InSession (Tried t) r → (h : Option Holder) (x : Option Begun) → IsKeptAs es h x → IsKeptAs (e ∷ es) (gains_on t.sp t.gained h) x
tried-at e es t r is None None k = tt
tried-at e es t r is (Some h) (Some s) k = by_sp (sp_eq h.sp t.sp) refl
  where
    has-after : (b : Bool) → sp_eq h.sp t.sp ≡ b → (a : Uid) → (has h.held a || (b && has t.gained a)) ≡ has (authorities (e ∷ es) s) a
    has-after b on a = ap (λ c. c || (b && has t.gained a)) (k.held a) ∙ sym (has-tried e es t s r a b is (ap (λ sp. sp_eq sp t.sp) (sym k.sp) ∙ on))

    by_sp : (b : Bool) → sp_eq h.sp t.sp ≡ b → IsKeptAs (e ∷ es) (cond b (Some (record h { held = with_each t.gained h.held })) (Some h)) (Some s)
    by_sp true on = record { sp = k.sp; com_id = k.com_id; host = k.host; held = λ a. has-each t.gained h.held a ∙ has-after true on a }
    by_sp false on = record { sp = k.sp; com_id = k.com_id; host = k.host; held = λ a. sym (or-false (has h.held a)) ∙ has-after false on a }
tried-at e es t r is None (Some s) k = absurd k
tried-at e es t r is (Some h) None k = absurd k

pub tried-kept : (e : Event) (es : List Event) (t : Attempt) (r : Response) (l m : Live) → e.deed ≡ InSession (Tried t) r → KeepsSessions l es → Leaves (gains_on t.sp t.gained) l m → KeepsSessions m (e ∷ es)
tried-kept e es t r l m is k left = record {
  next = left.next ∙ k.next ∙ sym (next-same e es (ap is_start is));
  at = λ n. subst (IsKeptAs (e ∷ es) (session_at m n)) (sym (numbered n)) (subst (λ x. IsKeptAs (e ∷ es) x (session_numbered es n)) (sym (left.at n)) (tried-at e es t r is (session_at l n) (session_numbered es n) (k.at n)));
  on = λ sp s lives. k.on sp s (was sp s lives);
  below = λ sp s lives. let lt : s.number < l.next = k.below sp s (was sp s lives) in subst (λ x. s.number < x) (sym left.next) lt;
  apart = λ a b lives its. k.apart a b (was Admin a lives) (was Locking b its);
}
  where
    same : (sp : Sp) → session_on (e ∷ es) sp ≡ session_on es sp
    same sp = lives-on e es sp (ap (living sp) is)

    was : (sp : Sp) (s : Begun) → session_on (e ∷ es) sp ≡ Some s → session_on es sp ≡ Some s
    was sp s lives = sym (same sp) ∙ lives

    numbered : (n : ℕ) → session_numbered (e ∷ es) n ≡ session_numbered es n
    numbered n = ap (λ x. or_else (if_number n x) (if_number n (session_on (e ∷ es) Locking))) (same Admin) ∙ ap (λ x. or_else (if_number n (session_on es Admin)) (if_number n x)) (same Locking)

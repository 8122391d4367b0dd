-- The sessions that are kept after one that begins.
use Rattle.std.proofs.Common.{◌≡◌, ◌<◌, ℕ, ◌+◌, ◌==◌, Bool, true, false, List, ◌∷◌, Some, None, refl, sym, ◌∙◌, ap, cond, subst, arith, ◌⊎◌, inl, inr, eqb-true}
use Rattle.sp_cells.specs.declared.names.Uid.{Uid}
use Rattle.sp_cells.specs.declared.names.Sp.{Sp}
use Rattle.sp_cells.specs.declared.names.Sp.TheVariants.{Admin, Locking}
use Rattle.sp_cells.specs.Flat.{sp_eq}
use Rattle.ace_eval.specs.Truth.{has}
use Rattle.sessions.specs.Live.{Live, session_at}
use Rattle.sessions.specs.Deeds.{Begun, holder_of, Started}
use Rattle.history.specs.Events.{Response, InSession, Event, count}
use Rattle.history.specs.Readers.{is_start, living, session_on, starts, gains}
use Rattle.history.specs.KeptSessions.{IsKeptAs, session_numbered, KeepsSessions}
use Rattle.sessions.specs.Made.{Starts}
use Rattle.history.proofs.Words.{sp-is, sp-same}
use Rattle.history.proofs.Steps.{started, lives-on}
use Rattle.history.proofs.KeptSessionsNumbers.{AreApart, Hits, Misses, split, numbered-miss, numbered-hit, true-apart, kept-none, Kept, kept-some, none-kept, some-kept}
use Rattle.history.proofs.KeptSessionsSteps.{authorities-same, kept-more}

-- two numbers
less-apart : (a b : ℕ) → a < b → (a == b) ≡ false
less-apart a b h = by_test (a == b) refl
  where
    by_test : (t : Bool) → (a == b) ≡ t → t ≡ false
    by_test false e = refl
    by_test true e = let same : a ≡ b = eqb-true a b e in absurd (omega arith)

more-apart : (a b : ℕ) → b < a → (a == b) ≡ false
more-apart a b h = by_test (a == b) refl
  where
    by_test : (t : Bool) → (a == b) ≡ t → t ≡ false
    by_test false e = refl
    by_test true e = let same : a ≡ b = eqb-true a b e in absurd (omega arith)

-- the session of an SP is the new one, or it was there
data After (es : List Event) (new : Begun) (sp : Sp) (s : Begun) : Type 0 where
  is_new : sp_eq new.sp sp ≡ true → s ≡ new → After es new sp s
  was_there : sp_eq new.sp sp ≡ false → session_on es sp ≡ Some s → After es new sp s

other-on : (e : Event) (es : List Event) (new : Begun) (row : Uid) (r : Response) → e.deed ≡ InSession (Started new row) r → (sp : Sp) → sp_eq new.sp sp ≡ false → session_on (e ∷ es) sp ≡ session_on es sp
other-on e es new row r is sp differ = lives-on e es sp (ap (living sp) is ∙ ap (λ b. cond b (Some (Some new)) None) differ)

new-on : (e : Event) (es : List Event) (new : Begun) (row : Uid) (r : Response) → e.deed ≡ InSession (Started new row) r → (sp : Sp) → sp_eq new.sp sp ≡ true → session_on (e ∷ es) sp ≡ Some new
new-on e es new row r is sp same = subst (λ x. session_on (e ∷ es) x ≡ Some new) (sp-is new.sp sp same) (started e es new row r is).0

after : (e : Event) (es : List Event) (new : Begun) (row : Uid) (r : Response) → e.deed ≡ InSession (Started new row) r → (sp : Sp) (s : Begun) → session_on (e ∷ es) sp ≡ Some s → After es new sp s
after e es new row r is sp s lives = by_sp (sp_eq new.sp sp) refl
  where
    by_sp : (b : Bool) → sp_eq new.sp sp ≡ b → After es new sp s
    by_sp true at = let its : session_on (e ∷ es) sp ≡ Some new = new-on e es new row r is sp at in is_new at cc
    by_sp false at = was_there at (sym (other-on e es new row r is sp at) ∙ lives)

-- the premises, under one name
record Begins (e : Event) (es : List Event) (new : Begun) (row : Uid) (r : Response) (l m : Live) : Type 0 where
  deed : e.deed ≡ InSession (Started new row) r
  before : KeepsSessions l es
  by : Starts new l m

new-kept : (e : Event) (es : List Event) (new : Begun) (row : Uid) (r : Response) (l m : Live) → Begins e es new row r l m → (n : ℕ) → (new.number == n) ≡ true → Kept (e ∷ es) (session_at m n) new
new-kept e es new row r l m g n same = record {
  holder = holder_of new;
  is = g.by.at n ∙ ap (λ x. cond (x == n) (Some (holder_of new)) (session_at l n)) (sym g.by.number) ∙ ap (λ b. cond b (Some (holder_of new)) (session_at l n)) same;
  keeps = record { sp = refl; com_id = refl; host = refl; held = λ a. ap (λ us. has us a) (sym (started e es new row r g.deed).1) };
}

older : (es : List Event) (new : Begun) (l m : Live) → Starts new l m → (n : ℕ) → (new.number == n) ≡ false → session_at m n ≡ session_at l n
older es new l m by n differ = by.at n ∙ ap (λ x. cond (x == n) (Some (holder_of new)) (session_at l n)) (sym by.number) ∙ ap (λ b. cond b (Some (holder_of new)) (session_at l n)) differ

-- a session that was there is kept as before
old-kept : (e : Event) (es : List Event) (new : Begun) (row : Uid) (r : Response) (l m : Live) → Begins e es new row r l m
    → (n : ℕ) (sp : Sp) (s : Begun) → sp_eq new.sp sp ≡ false → session_on es sp ≡ Some s → (s.number == n) ≡ true → Kept (e ∷ es) (session_at m n) s
old-kept e es new row r l m g n sp s differ lives number =
    let on : s.sp ≡ sp = g.before.on sp s lives in
    let not_its : sp_eq new.sp s.sp ≡ false = ap (sp_eq new.sp) on ∙ differ in
    let below : s.number < l.next = g.before.below sp s lives in
    let same : s.number ≡ n = eqb-true s.number n number in
    let is_new : new.number ≡ l.next = g.by.number in
    let apart : (new.number == n) ≡ false = more-apart new.number n (omega arith) in
    let kept = kept-some es (session_at l n) (session_numbered es n) s (g.before.at n) (numbered-hit (session_on es) n g.before.apart (record { sp = sp; session = s; lives = lives; number = number })) in
    record {
      holder = kept.holder;
      is = older es new l m g.by n apart ∙ kept.is;
      keeps = kept-more e es kept.holder s kept.keeps (authorities-same e es s (ap (starts s.sp) g.deed ∙ not_its) (ap (gains s.sp) g.deed));
    }

hit-kept : (e : Event) (es : List Event) (new : Begun) (row : Uid) (r : Response) (l m : Live) → Begins e es new row r l m → (n : ℕ) (h : Hits (session_on (e ∷ es)) n) → Kept (e ∷ es) (session_at m n) h.session
hit-kept e es new row r l m g n h = by_after (after e es new row r g.deed h.sp h.session h.lives)
  where
    by_after : After es new h.sp h.session → Kept (e ∷ es) (session_at m n) h.session
    by_after (is_new at same) = subst (λ s. Kept (e ∷ es) (session_at m n) s) (sym same) (new-kept e es new row r l m g n (ap (λ (s : Begun). s.number == n) (sym same) ∙ h.number))
    by_after (was_there at lives) = old-kept e es new row r l m g n h.sp h.session at lives h.number

-- where none has the number, none is kept
missed-none : (e : Event) (es : List Event) (new : Begun) (row : Uid) (r : Response) (l m : Live) → Begins e es new row r l m → (n : ℕ) → Misses (session_on (e ∷ es)) n → session_at m n ≡ None
missed-none e es new row r l m g n misses =
    older es new l m g.by n (misses new.sp new (started e es new row r g.deed).0) ∙ by_split (split (session_on es) n)
  where
    by_hit : (h : Hits (session_on es) n) → Kept es (session_at l n) h.session → (b : Bool) → sp_eq new.sp h.sp ≡ b → session_at l n ≡ None
    by_hit h kept false at = absurd (true-apart (sym h.number ∙ misses h.sp h.session (other-on e es new row r g.deed h.sp at ∙ h.lives)))
    by_hit h kept true at =
        let on : kept.holder.sp ≡ new.sp = kept.keeps.sp ∙ g.before.on h.sp h.session h.lives ∙ sym (sp-is new.sp h.sp at) in
        absurd (true-apart (sym (ap (λ sp. sp_eq sp new.sp) on ∙ sp-same new.sp) ∙ g.by.free n kept.holder kept.is))

    by_split : Hits (session_on es) n ⊎ Misses (session_on es) n → session_at l n ≡ None
    by_split (inl h) = by_hit h (kept-some es (session_at l n) (session_numbered es n) h.session (g.before.at n) (numbered-hit (session_on es) n g.before.apart h)) (sp_eq new.sp h.sp) refl
    by_split (inr missed) = kept-none es (session_at l n) (session_numbered es n) (g.before.at n) (numbered-miss (session_on es) n missed)

apart-after : (es : List Event) (new : Begun) (l m : Live) → KeepsSessions l es → Starts new l m → (a b : Begun) → After es new Admin a → After es new Locking b → (a.number == b.number) ≡ false
apart-after es new l m k by a b (is_new at same) (is_new at2 same2) = absurd (true-apart (by_sp new.sp at at2))
  where
    by_sp : (sp : Sp) → sp_eq sp Admin ≡ true → sp_eq sp Locking ≡ true → true ≡ false
    by_sp Admin x y = sym y
    by_sp Locking x y = sym x
apart-after es new l m k by a b (is_new at same) (was_there at2 lives) =
    let below : b.number < l.next = k.below Locking b lives in
    let number : a.number ≡ l.next = ap (λ (s : Begun). s.number) same ∙ by.number in
    more-apart a.number b.number (omega arith)
apart-after es new l m k by a b (was_there at lives) (is_new at2 same) =
    let below : a.number < l.next = k.below Admin a lives in
    let number : b.number ≡ l.next = ap (λ (s : Begun). s.number) same ∙ by.number in
    less-apart a.number b.number (omega arith)
apart-after es new l m k by a b (was_there at lives) (was_there at2 lives2) = k.apart a b lives lives2

on-after : (es : List Event) (new : Begun) (l : Live) → KeepsSessions l es → (sp : Sp) (s : Begun) → After es new sp s → s.sp ≡ sp
on-after es new l k sp s (is_new at same) = ap (λ (s : Begun). s.sp) same ∙ sp-is new.sp sp at
on-after es new l k sp s (was_there at lives) = k.on sp s lives

below-after : (es : List Event) (new : Begun) (l m : Live) → KeepsSessions l es → Starts new l m → (sp : Sp) (s : Begun) → After es new sp s → s.number < m.next
below-after es new l m k by sp s (is_new at same) =
    let number : s.number ≡ l.next = ap (λ (s : Begun). s.number) same ∙ by.number in
    let next : m.next ≡ l.next + 1 = by.next in
    omega arith
below-after es new l m k by sp s (was_there at lives) =
    let below : s.number < l.next = k.below sp s lives in
    let next : m.next ≡ l.next + 1 = by.next in
    omega arith

pub started-kept : (e : Event) (es : List Event) (new : Begun) (row : Uid) (r : Response) (l m : Live) → e.deed ≡ InSession (Started new row) r → KeepsSessions l es → Starts new l m → KeepsSessions m (e ∷ es)
started-kept e es new row r l m is k by = record {
  next = let counted = (started e es new row r is).2 in let was : l.next ≡ 0x1000 + count is_start es = k.next in let next : m.next ≡ l.next + 1 = by.next in next ∙ omega (arith, was) ∙ sym counted;
  at = λ n. by_split n (split (session_on (e ∷ es)) n);
  on = λ sp s lives. on-after es new l k sp s (after e es new row r is sp s lives);
  below = λ sp s lives. below-after es new l m k by sp s (after e es new row r is sp s lives);
  apart = apart;
}
  where
    g : Begins e es new row r l m
    g = record { deed = is; before = k; by = by }

    apart : AreApart (session_on (e ∷ es))
    apart a b lives its = apart-after es new l m k by a b (after e es new row r is Admin a lives) (after e es new row r is Locking b its)

    by_split : (n : ℕ) → Hits (session_on (e ∷ es)) n ⊎ Misses (session_on (e ∷ es)) n → IsKeptAs (e ∷ es) (session_at m n) (session_numbered (e ∷ es) n)
    by_split n (inl h) =
        let kept = hit-kept e es new row r l m g n h in
        some-kept (e ∷ es) (session_at m n) (session_numbered (e ∷ es) n) kept.holder h.session kept.is (numbered-hit (session_on (e ∷ es)) n apart h) kept.keeps
    by_split n (inr misses) =
        none-kept (e ∷ es) (session_at m n) (session_numbered (e ∷ es) n) (missed-none e es new row r l m g n misses) (numbered-miss (session_on (e ∷ es)) n misses)

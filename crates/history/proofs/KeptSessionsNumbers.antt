-- The live sessions of both SPs by their numbers.
use Rattle.std.proofs.Common.{◌≡◌, ℕ, ◌==◌, Bool, true, false, List, Option, Some, None, refl, sym, ◌∙◌, ap, cond, ◌⊎◌, inl, inr, eqb-true, eq-eqb, subst}
use Rattle.sp_cells.specs.declared.names.Sp.{Sp}
use Rattle.sp_cells.specs.declared.names.Sp.TheVariants.{Admin, Locking}
use Rattle.sp_cells.specs.Flat.{sp_eq}
use Rattle.sessions.specs.Live.{Holder}
use Rattle.sessions.specs.Deeds.{Begun}
use Rattle.history.specs.Events.{Event, or_else}
use Rattle.history.specs.KeptSessions.{KeepsSession, IsKeptAs, if_number}

-- over the live session of each SP
abbrev pub numbered_by : (Sp → Option Begun) → ℕ → Option Begun
numbered_by on n = or_else (if_number n (on Admin)) (if_number n (on Locking))

abbrev pub AreApart : (Sp → Option Begun) → Type 0
AreApart on = (a l : Begun) → on Admin ≡ Some a → on Locking ≡ Some l → (a.number == l.number) ≡ false

-- none of these has the number
abbrev pub MissesOn : (Sp → Option Begun) → ℕ → Sp → Type 0
MissesOn on n sp = (s : Begun) → on sp ≡ Some s → (s.number == n) ≡ false

abbrev pub Misses : (Sp → Option Begun) → ℕ → Type 0
Misses on n = (sp : Sp) → MissesOn on n sp

-- one has it
pub record Hits (on : Sp → Option Begun) (n : ℕ) : Type 0 where
  pub sp : Sp
  pub session : Begun
  pub lives : on sp ≡ Some session
  pub number : (session.number == n) ≡ true

pub true-apart : true ≡ false → ⊥
true-apart h = cc

pub none-apart : {A : Type 0} {x : A} → None ≡ Some x → ⊥
none-apart h = cc

split-on : (on : Sp → Option Begun) (n : ℕ) (sp : Sp) (x : Option Begun) → on sp ≡ x → Hits on n ⊎ MissesOn on n sp
split-on on n sp None is = inr (λ s lives. cc)
split-on on n sp (Some s) is = by_number (s.number == n) refl
  where
    by_number : (b : Bool) → (s.number == n) ≡ b → Hits on n ⊎ MissesOn on n sp
    by_number true e = inl (record { sp = sp; session = s; lives = is; number = e })
    by_number false e = inr (λ t lives. let same : s ≡ t = cc in ap (λ (u : Begun). u.number == n) (sym same) ∙ e)

misses-both : (on : Sp → Option Begun) (n : ℕ) → MissesOn on n Admin → MissesOn on n Locking → Misses on n
misses-both on n a l Admin = a
misses-both on n a l Locking = l

pub split : (on : Sp → Option Begun) (n : ℕ) → Hits on n ⊎ Misses on n
split on n = elim (split-on on n Admin (on Admin) refl) [
  | inl h ↦ inl h
  | inr a ↦ elim (split-on on n Locking (on Locking) refl) [
    | inl h ↦ inl h
    | inr l ↦ inr (misses-both on n a l)
  ]
]

-- the other SP's has another number
pub other-misses : (on : Sp → Option Begun) (n : ℕ) → AreApart on → (h : Hits on n) (sp : Sp) → sp_eq h.sp sp ≡ false → MissesOn on n sp
other-misses on n apart h sp differ t lives = by_sp h.sp sp differ h.lives lives
  where
    s : Begun
    s = h.session

    same : s.number ≡ n
    same = eqb-true s.number n h.number

    by_sp : (x y : Sp) → sp_eq x y ≡ false → on x ≡ Some s → on y ≡ Some t → (t.number == n) ≡ false
    by_sp Admin Admin d is its = cc
    by_sp Locking Locking d is its = cc
    by_sp Locking Admin d is its = ap (λ k. t.number == k) (sym same) ∙ apart t s its is
    by_sp Admin Locking d is its = by_number (t.number == n) refl
      where
        by_number : (b : Bool) → (t.number == n) ≡ b → b ≡ false
        by_number false e = refl
        by_number true e = absurd (true-apart (sym (eq-eqb s.number t.number (same ∙ sym (eqb-true t.number n e))) ∙ apart s t is its))

if-missed : (on : Sp → Option Begun) (n : ℕ) (sp : Sp) (x : Option Begun) → MissesOn on n sp → on sp ≡ x → if_number n x ≡ None
if-missed on n sp None misses is = refl
if-missed on n sp (Some s) misses is = ap (λ b. cond b (Some s) None) (misses s is)

pub numbered-miss : (on : Sp → Option Begun) (n : ℕ) → Misses on n → numbered_by on n ≡ None
numbered-miss on n misses =
    ap (λ x. or_else x (if_number n (on Locking))) (if-missed on n Admin (on Admin) (misses Admin) refl) ∙ if-missed on n Locking (on Locking) (misses Locking) refl

pub numbered-hit : (on : Sp → Option Begun) (n : ℕ) → AreApart on → (h : Hits on n) → numbered_by on n ≡ Some h.session
numbered-hit on n apart h = by_sp h.sp h.lives (other-misses on n apart h)
  where
    s : Begun
    s = h.session

    here : (x : Sp) → on x ≡ Some s → if_number n (on x) ≡ Some s
    here x is = ap (if_number n) is ∙ ap (λ b. cond b (Some s) None) h.number

    by_sp : (x : Sp) → on x ≡ Some s → ((y : Sp) → sp_eq x y ≡ false → MissesOn on n y) → numbered_by on n ≡ Some s
    by_sp Admin is misses = ap (λ x. or_else x (if_number n (on Locking))) (here Admin is)
    by_sp Locking is misses = ap (λ x. or_else x (if_number n (on Locking))) (if-missed on n Admin (on Admin) (misses Admin refl) refl) ∙ here Locking is

-- what is kept of the session of a number
pub kept-none : (past : List Event) (h : Option Holder) (x : Option Begun) → IsKeptAs past h x → x ≡ None → h ≡ None
kept-none past None x k is = refl
kept-none past (Some h) None k is = absurd k
kept-none past (Some h) (Some s) k is = cc

pub record Kept (past : List Event) (h : Option Holder) (s : Begun) : Type 0 where
  pub holder : Holder
  pub is : h ≡ Some holder
  pub keeps : KeepsSession past holder s

pub kept-some : (past : List Event) (h : Option Holder) (x : Option Begun) (s : Begun) → IsKeptAs past h x → x ≡ Some s → Kept past h s
kept-some past None None s k is = absurd (none-apart is)
kept-some past (Some h) None s k is = absurd k
kept-some past None (Some t) s k is = absurd k
kept-some past (Some h) (Some t) s k is = let same : t ≡ s = cc in record { holder = h; is = refl; keeps = subst (λ u. KeepsSession past h u) same k }

pub none-kept : (past : List Event) (h : Option Holder) (x : Option Begun) → h ≡ None → x ≡ None → IsKeptAs past h x
none-kept past None None is its = tt
none-kept past None (Some s) is its = absurd (none-apart (sym its))
none-kept past (Some h) x is its = absurd (none-apart (sym is))

pub some-kept : (past : List Event) (h : Option Holder) (x : Option Begun) (holder : Holder) (s : Begun) → h ≡ Some holder → x ≡ Some s → KeepsSession past holder s → IsKeptAs past h x
some-kept past None x holder s is its k = absurd (none-apart is)
some-kept past (Some h) None holder s is its k = absurd (none-apart its)
some-kept past (Some h) (Some t) holder s is its k =
    let same : s ≡ t = cc in
    let its : holder ≡ h = cc in
    subst (λ u. KeepsSession past h u) same (subst (λ g. KeepsSession past g s) its k)

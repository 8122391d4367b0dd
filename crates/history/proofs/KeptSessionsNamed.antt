-- The session that a packet names is found among those that are kept.
use Rattle.std.proofs.Common.{◌≡◌, ℕ, ◌==◌, Bool, true, false, List, ◌&&◌, Option, Some, None, refl, sym, ◌∙◌, ap, cond, inl, inr, eqb-true}
use Rattle.std.specs.Prelude.{option_map}
use Rattle.sp_cells.specs.declared.names.Sp.{Sp}
use Rattle.sp_cells.specs.declared.names.Sp.TheVariants.{Admin, Locking}
use Rattle.sp_cells.specs.Flat.{sp_eq}
use Rattle.compacket.specs.declared.session.Session.{Session}
use Rattle.sessions.specs.Live.{Holder, session_at, found}
use Rattle.sessions.specs.Deeds.{Begun}
use Rattle.history.specs.Events.{Event, or_else}
use Rattle.history.specs.Readers.{session_on}
use Rattle.history.specs.Facts.{facts, if_named, session_named}
use Rattle.history.specs.KeptSessions.{KeepsSession, id_of, NamedLaw}
use Rattle.history.proofs.KeptSessionsNumbers.{AreApart, MissesOn, Misses, Hits, split, other-misses, numbered-miss, numbered-hit, kept-none, Kept, kept-some}

if-missed : (com_id : ℕ) (named : Session) (on : Sp → Option Begun) (sp : Sp) (x : Option Begun) → MissesOn on named.tsn sp → on sp ≡ x → if_named com_id named x ≡ None
if-missed com_id named on sp None misses is = refl
if-missed com_id named on sp (Some s) misses is = ap (λ b. cond (b && s.host == named.hsn && s.com_id == com_id) (Some s) None) (misses s is)

either-none : (x : Option Begun) → or_else x None ≡ x
either-none None = refl
either-none (Some s) = refl

-- where one has the number, it is the one that can be named
named-hit : (com_id : ℕ) (named : Session) (on : Sp → Option Begun) → AreApart on → (h : Hits on named.tsn) → or_else (if_named com_id named (on Admin)) (if_named com_id named (on Locking)) ≡ if_named com_id named (Some h.session)
named-hit com_id named on apart h = by_sp h.sp h.lives (other-misses on named.tsn apart h)
  where
    by_sp : (x : Sp) → on x ≡ Some h.session → ((y : Sp) → sp_eq x y ≡ false → MissesOn on named.tsn y)
        → or_else (if_named com_id named (on Admin)) (if_named com_id named (on Locking)) ≡ if_named com_id named (Some h.session)
    by_sp Admin is misses =
        ap (λ x. or_else (if_named com_id named (on Admin)) x) (if-missed com_id named on Locking (on Locking) (misses Locking refl) refl)
        ∙ either-none (if_named com_id named (on Admin))
        ∙ ap (if_named com_id named) is
    by_sp Locking is misses =
        ap (λ x. or_else x (if_named com_id named (on Locking))) (if-missed com_id named on Admin (on Admin) (misses Admin refl) refl) ∙ ap (if_named com_id named) is

named-miss : (com_id : ℕ) (named : Session) (on : Sp → Option Begun) → Misses on named.tsn → or_else (if_named com_id named (on Admin)) (if_named com_id named (on Locking)) ≡ None
named-miss com_id named on misses =
    ap (λ x. or_else x (if_named com_id named (on Locking))) (if-missed com_id named on Admin (on Admin) (misses Admin) refl) ∙ if-missed com_id named on Locking (on Locking) (misses Locking) refl

by-tests : (tsn : ℕ) (sp : Sp) (s : Begun) (u v : Bool) → s.number ≡ tsn → sp ≡ s.sp
    → option_map (λ x. record { tsn = tsn; sp = x }) (cond (u && v) (Some sp) None) ≡ option_map id_of (cond (v && u) (Some s) None)
by-tests tsn sp s true true number is = cc
by-tests tsn sp s true false number is = refl
by-tests tsn sp s false true number is = refl
by-tests tsn sp s false false number is = refl

found-kept : (past : List Event) (com_id : ℕ) (named : Session) (h : Holder) (s : Begun) → KeepsSession past h s → (s.number == named.tsn) ≡ true
    → option_map (λ sp. record { tsn = named.tsn; sp = sp }) (found com_id named.hsn (Some h)) ≡ option_map id_of (if_named com_id named (Some s))
found-kept past com_id named h s k number =
    ap (λ n. option_map (λ sp. record { tsn = named.tsn; sp = sp }) (cond ((n == com_id) && (h.host == named.hsn)) (Some h.sp) None)) k.com_id
    ∙ ap (λ n. option_map (λ sp. record { tsn = named.tsn; sp = sp }) (cond ((s.com_id == com_id) && (n == named.hsn)) (Some h.sp) None)) k.host
    ∙ by-tests named.tsn h.sp s (s.com_id == com_id) (s.host == named.hsn) (eqb-true s.number named.tsn number) k.sp
    ∙ sym (ap (λ b. option_map id_of (cond (b && s.host == named.hsn && s.com_id == com_id) (Some s) None)) number)

pub named_law : NamedLaw
named_law o live past com_id named k = elim (split (session_on past) named.tsn) [
  | inl h ↦ by_hit h (kept-some past (session_at live named.tsn) _ h.session (k.at named.tsn) (numbered-hit (session_on past) named.tsn k.apart h))
  | inr misses ↦ ap (λ x. option_map (λ sp. record { tsn = named.tsn; sp = sp }) (found com_id named.hsn x)) (kept-none past (session_at live named.tsn) _ (k.at named.tsn) (numbered-miss (session_on past) named.tsn misses))
      ∙ sym (ap (option_map id_of) (named-miss com_id named (session_on past) misses))
]
  where
    by_hit : (h : Hits (session_on past) named.tsn) → Kept past (session_at live named.tsn) h.session
        → option_map (λ sp. record { tsn = named.tsn; sp = sp }) (found com_id named.hsn (session_at live named.tsn)) ≡ option_map id_of (session_named (facts o past) com_id named)
    by_hit h kept =
        ap (λ x. option_map (λ sp. record { tsn = named.tsn; sp = sp }) (found com_id named.hsn x)) kept.is
        ∙ found-kept past com_id named kept.holder h.session kept.keeps h.number
        ∙ sym (ap (option_map id_of) (named-hit com_id named (session_on past) k.apart h))

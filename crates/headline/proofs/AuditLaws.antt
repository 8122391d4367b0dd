-- The audit lines are those of the denied steps, one each.
use Rattle.std.proofs.Common.{◌≡◌, ◌∙◌, ◌⊎◌, ℕ, suc, ◌+◌, ◌<◌, ◌==◌, Bool, false, List, [], ◌∷◌, ◌++◌, length, if◌then◌else◌, Option, Some, None, refl, sym, ap, subst, inl, inr, arith, eq-eqb}
use Rattle.std.proofs.lemmas.Bool.{ne_eqb}
use Rattle.audit.specs.declared.reason.AuditLine.{AuditLine}
use Rattle.audit.specs.declared.reason.Why.{Why}
use Rattle.tcg_calls.specs.Asks.{uid_of}
use Rattle.trusted_cmds.specs.declared.command.Command.{Command}
use Rattle.trusted_cmds.specs.declared.command.Command.TheVariants as commands
use Rattle.methods.specs.Laws.{IsAmong}
use Rattle.methods.proofs.GrantLaws.{deny_law}
use Rattle.history.specs.Decisions.{ranges_in_force, completed, completed_by}
use Rattle.history.specs.DenialLaws.{IsDenied}
use Rattle.history.specs.Events.{HeldCommand, Event}
use Rattle.history.specs.Tcg.{tcg}
use Rattle.history.specs.Facts.{Facts, standing}
use Rattle.history.specs.History.{Act, Accept as AcceptFis, event_by}
use Rattle.history.specs.Opening.{Origin}
use Rattle.history.proofs.DenialProofs.{denial_law}
use Rattle.history.proofs.TransferProofs.{verdict_law}
use Rattle.history.proofs.TrimLaws.{names_extent}
use Rattle.trusted_cmds.specs.Trims.{extents_in}
use Rattle.port_history.specs.declared.stages.Put.{Put}
use Rattle.port_history.specs.declared.stages.Stage.TheVariants.{Issued}
use Rattle.port_history.specs.declared.step.Step.{Step}
use Rattle.port_history.specs.declared.step.Step.TheVariants as steps
use Rattle.port_history.specs.Refusals.{IsLawful}
use Rattle.port_history.specs.Requests.{command_fis}
use Rattle.port_history.specs.Stages.{put_at}
use Rattle.history.specs.Audit.{line_for}
use Rattle.port_history.specs.Steps.{Effect, Moment, moment, trace, stage, failed, payload, acceptance, accept_payload, act_of, audit, line_of}
use Rattle.port_history.proofs.KeptLaw.{kept, accept_is, found, recover_is}
use Rattle.port_history.proofs.Tests.{some_is, was_true, none_holds, tests_of, issued_is}
use Rattle.port_history.proofs.Acted.{tcg_for_ports}
use Rattle.headline.specs.Steps.{facts_after}
use Rattle.headline.specs.Denials.{IsDeniedAs, IsDeniedStep, lines_at, IsLineOf, AuditLaw}

-- what denied an act, with its words
pub denied_as : (f : Facts) (act : Act) (why : Why) → IsDenied f act why → IsDeniedAs f act why
denied_as f act why (inl t) =
    inl (record { by = t; names = (verdict_law (ranges_in_force f) t.op t.lba t.count).reason why t.verdict })
denied_as f act why (inr (inl m)) =
    inr (inl (record {
      by = m;
      names = deny_law (standing f m.session) (uid_of m.object) (uid_of m.method) m.ask why m.denial;
    }))
denied_as f act why (inr (inr (inl a))) = inr (inr (inl a))
denied_as f act why (inr (inr (inr (inl s)))) = inr (inr (inr (inl s)))
denied_as f act why (inr (inr (inr (inr t)))) =
    inr (inr (inr (inr (record { by = t; names = names_extent (ranges_in_force f) (extents_in t.looked.payload) why t.denial }))))

pub as_denied : (f : Facts) (act : Act) (why : Why) → IsDeniedAs f act why → IsDenied f act why
as_denied f act why (inl t) = inl t.by
as_denied f act why (inr (inl m)) = inr (inl m.by)
as_denied f act why (inr (inr (inl a))) = inr (inr (inl a))
as_denied f act why (inr (inr (inr (inl s)))) = inr (inr (inr (inl s)))
as_denied f act why (inr (inr (inr (inr t)))) = inr (inr (inr (inr t.by)))

-- lines by their numbers
line_at : (number client : ℕ) (why : Why)
    → lines_at number (record { step = number; client = client; why = why } ∷ [])
    ≡ record { step = number; client = client; why = why } ∷ []
line_at number client why =
    ap
    (λ (b : Bool). if b then record { step = number; client = client; why = why } ∷ [] else [])
    (eq-eqb number number refl)

lines_beside : (number at client : ℕ) (why : Option Why) (rest : List AuditLine) → (at == number) ≡ false
    → lines_at number (line_for at client why ++ rest) ≡ lines_at number rest
lines_beside number at client None rest other = refl
lines_beside number at client (Some why) rest other =
    ap
    (λ (b : Bool). if b then record { step = at; client = client; why = why } ∷ lines_at number rest
    else lines_at number rest)
    other

lines_here : (number client : ℕ) (why : Option Why) (rest : List AuditLine) → lines_at number rest ≡ []
    → lines_at number (line_for number client why ++ rest) ≡ line_for number client why
lines_here number client None rest none = none
lines_here number client (Some why) rest none =
    ap
    (λ (b : Bool). if b then record { step = number; client = client; why = why } ∷ lines_at number rest
    else lines_at number rest)
    (eq-eqb number number refl)
    ∙ ap (λ (xs : List AuditLine). record { step = number; client = client; why = why } ∷ xs) none

of_effect_beside : (number at : ℕ) (served : Option Put) (e : Option Effect) (rest : List AuditLine)
    → (at == number) ≡ false → lines_at number (line_of at served e ++ rest) ≡ lines_at number rest
of_effect_beside number at served None rest other = refl
of_effect_beside number at served (Some e) rest other =
    lines_beside number at _ e.event.denied rest other

of_effect_here : (number : ℕ) (served : Option Put) (e : Option Effect) (rest : List AuditLine)
    → lines_at number rest ≡ []
    → lines_at number (line_of number served e ++ rest) ≡ line_of number served e
of_effect_here number served None rest none = none
of_effect_here number served (Some e) rest none = lines_here number _ e.event.denied rest none

pub as_many : (o : Origin) (list : List Step) → length (trace o list) ≡ length list
as_many o [] = refl
as_many o (step ∷ before) = ap suc (as_many o before)

-- what a step adds to the log
abbrev line_by : Origin → List Step → Step → ℕ → List AuditLine
line_by o before step number =
    line_of number (moment o (trace o before) step).served (moment o (trace o before) step).effect

-- none has a number beyond the steps
none_beyond : (o : Origin) (list : List Step) (number : ℕ) → length list < number
    → lines_at number (audit (trace o list)) ≡ []
none_beyond o [] number beyond = refl
none_beyond o (step ∷ before) number beyond =
    of_effect_beside number (1 + length (trace o before)) (moment o (trace o before) step).served
    (moment o (trace o before) step).effect (audit (trace o before))
    (ne_eqb (1 + length (trace o before)) number (apart (as_many o before)))
    ∙ none_beyond o before number (omega (arith, beyond))
  where
    apart : length (trace o before) ≡ length before → 1 + length (trace o before) ≡ number → ⊥
    apart same e = omega (arith, same, e, beyond)

longer : (later : List Step) (step : Step) (before : List Step)
    → length before < length (later ++ step ∷ before)
longer [] step before = omega arith
longer (x ∷ later) step before = let h = longer later step before in omega (arith, h)

lines_are : (o : Origin) (later : List Step) (step : Step) (before : List Step)
    → lines_at (1 + length before) (audit (trace o (later ++ step ∷ before)))
    ≡ line_by o before step (1 + length before)
lines_are o [] step before =
    ap (λ (n : ℕ). lines_at (1 + length before) (line_by o before step (1 + n) ++ audit (trace o before)))
    (as_many o before)
    ∙ of_effect_here (1 + length before) (moment o (trace o before) step).served (moment o (trace o before) step).effect
    (audit (trace o before)) (none_beyond o before (1 + length before) (omega arith))
lines_are o (x ∷ later) step before =
    of_effect_beside (1 + length before) (1 + length (trace o rest)) (moment o (trace o rest) x).served
    (moment o (trace o rest) x).effect
    (audit (trace o rest))
    (ne_eqb (1 + length (trace o rest)) (1 + length before)
    (apart (as_many o rest) (longer later step before)))
    ∙ lines_are o later step before
  where
    rest : List Step
    rest = later ++ step ∷ before

    apart : length (trace o rest) ≡ length rest → length before < length rest
        → 1 + length (trace o rest) ≡ 1 + length before → ⊥
    apart same more e = omega (arith, same, more, e)

-- the act of an acceptance
accepted_act : (o : Origin) (before : List Step) (u : ℕ) (put : Put)
    → stage (trace o before) u ≡ Issued put
    → act_of (trace o before) (steps.Accept u)
    ≡ Some (AcceptFis (command_fis put.command u) (accept_payload put (payload (trace o before) u)))
accepted_act o before u put was =
    ap (λ (p : Option Put). acceptance u p (payload (trace o before) u)) (ap put_at was)

abbrev event_then : Origin → List Step → ℕ → Put → Event
event_then o before u put =
    event_by (facts_after tcg o before)
    (AcceptFis (command_fis put.command u) (accept_payload put (payload (trace o before) u)))

line_then : (o : Origin) (before : List Step) (u : ℕ) (put : Put) (number : ℕ)
    → stage (trace o before) u ≡ Issued put
    → line_by o before (steps.Accept u) number
    ≡ line_for number put.client (event_then o before u put).denied
line_then o before u put number was =
    ap (λ (m : Moment). line_of number m.served m.effect) (accept_is tcg o (trace o before) u put was)

same_act : {x y : Act} → Some x ≡ Some y → x ≡ y
same_act e = cc

-- the line of a denied step
one_line : (o : Origin) (before : List Step) (step : Step) (client : ℕ) (why : Why) (number : ℕ)
    → IsDeniedStep o before step client why
    → line_by o before step number ≡ record { step = number; client = client; why = why } ∷ []
one_line o before step client why number d =
    let is : AcceptFis (command_fis d.put.command d.tag) (accept_payload d.put (payload (trace o before) d.tag))
    ≡ d.act =
    same_act (sym (accepted_act o before d.tag d.put d.stands)
    ∙ ap (act_of (trace o before)) (sym d.accepts) ∙ d.does) in
    let so : (event_then o before d.tag d.put).denied ≡ Some why =
    ap (λ (a : Act). (event_by (facts_after tcg o before) a).denied) is
    ∙ (denial_law (facts_after tcg o before) d.act why).1
    (as_denied (facts_after tcg o before) d.act why d.denied) in
    ap (λ (s : Step). line_by o before s number) d.accepts
    ∙ line_then o before d.tag d.put number d.stands
    ∙ ap (line_for number d.put.client) so
    ∙ ap (λ (c : ℕ). record { step = number; client = c; why = why } ∷ []) d.its_client

-- What each lawful step adds: nothing, or its line.
data Adds (o : Origin) (before : List Step) (step : Step) : Type 0 where
  AddsNothing : ((number : ℕ) → line_by o before step number ≡ []) → Adds o before step
  AddsLine : (client : ℕ) (why : Why) → IsDeniedStep o before step client why → Adds o before step

completion_denies : (u : ℕ) (bytes : List ℕ) (c : Command) → (completed_by u bytes c).denied ≡ None
completion_denies u bytes (commands.ReadQueued lba count) = refl
completion_denies u bytes (commands.WriteQueued lba count) = refl
completion_denies u bytes (commands.ReadDma lba count) = refl
completion_denies u bytes (commands.WriteDma lba count) = refl
completion_denies u bytes (commands.Send protocol com_id blocks dma) = refl
completion_denies u bytes (commands.Receive protocol com_id blocks dma) = refl
completion_denies u bytes commands.Identify = refl
completion_denies u bytes (commands.ReadLog10 dma) = refl
completion_denies u bytes commands.Flush = refl
completion_denies u bytes (commands.SetFeatures feature) = refl
completion_denies u bytes (commands.ReadLog page dma) = refl
completion_denies u bytes (commands.ReadPio lba count) = refl
completion_denies u bytes (commands.WritePio lba count) = refl
completion_denies u bytes (commands.Verify lba count) = refl
completion_denies u bytes (commands.Trim blocks) = refl
completion_denies u bytes (commands.Control control) = refl

none_completed : (u : ℕ) (bytes : List ℕ) (h : Option HeldCommand) → (completed u bytes h).denied ≡ None
none_completed u bytes None = refl
none_completed u bytes (Some h) = completion_denies u bytes h.command

accept_adds : (o : Origin) (before : List Step) (u : ℕ) (put : Put)
    → stage (trace o before) u ≡ Issued put → Adds o before (steps.Accept u)
accept_adds o before u put was = by_denied (event_then o before u put).denied refl
  where
    by_denied : (d : Option Why) → (event_then o before u put).denied ≡ d → Adds o before (steps.Accept u)
    by_denied None is =
        AddsNothing (λ number. line_then o before u put number was ∙ ap (line_for number put.client) is)
    by_denied (Some why) is =
        AddsLine put.client why
        (record {
          tag = u;
          put = put;
          accepts = refl;
          stands = was;
          its_client = refl;
          act = AcceptFis (command_fis put.command u) (accept_payload put (payload (trace o before) u));
          does = accepted_act o before u put was;
          denied = denied_as (facts_after tcg o before) _ why ((denial_law (facts_after tcg o before) _ why).0 is);
        })

adds : (o : Origin) (step : Step) (before : List Step) → IsLawful o (step ∷ before) → Adds o before step
adds o (steps.Put client u request) before h = AddsNothing (λ number. refl)
adds o (steps.Issue u) before h = AddsNothing (λ number. refl)
adds o (steps.Accept u) before h =
    let x = none_holds (tests_of (trace o before) (steps.Accept u)) h.1 in
    let p = issued_is (stage (trace o before) u) x.1.1.0 in
    accept_adds o before u p.0 p.1
adds o (steps.Complete u) before h =
    AddsNothing
    (λ number. ap (line_for number _)
    (none_completed u (payload (trace o before) u) ((facts_after tcg o before).held u)))
adds o steps.Recover before h =
    let ms = trace o before in
    let x = none_holds (tests_of ms steps.Recover) h.1 in
    let f = some_is (failed ms) (was_true _ x.1.0) in
    let y = found ms f.0 (kept tcg tcg_for_ports o before h.2) f.1 in
    AddsNothing
    (λ number. ap (λ (m : Moment). line_of number m.served m.effect) (recover_is tcg tcg_for_ports o ms y.found y.failing))
adds o (steps.Reset client kind) before h = AddsNothing (λ number. refl)
adds o (steps.Take client u) before h = AddsNothing (λ number. refl)

-- the steps before are lawful
pub lawful_before : (o : Origin) (later rest : List Step) → IsLawful o (later ++ rest) → IsLawful o rest
lawful_before o [] rest h = h
lawful_before o (step ∷ later) rest h = lawful_before o later rest h.2

no_line : (o : Origin) (before : List Step) (step : Step) (number : ℕ) → Adds o before step
    → ((client : ℕ) (why : Why) → IsDeniedStep o before step client why → ⊥)
    → line_by o before step number ≡ []
no_line o before step number (AddsNothing none) d = none number
no_line o before step number (AddsLine client why it) d = absurd (d client why it)

-- an element of two lists
among_cases : {A : Type 0} (xs ys : List A) (y : A) → IsAmong (xs ++ ys) y → IsAmong xs y ⊎ IsAmong ys y
among_cases [] ys y h = inr h
among_cases (x ∷ xs) ys y (inl h) = inl (inl h)
among_cases (x ∷ xs) ys y (inr h) = elim (among_cases xs ys y h) [
  | inl g ↦ inl (inr g)
  | inr g ↦ inr g
]

newest_is : (o : Origin) (step : Step) (before : List Step) (line : AuditLine) → Adds o before step
    → IsAmong (line_by o before step (1 + length (trace o before))) line
    → IsLineOf o (step ∷ before) line
newest_is o step before line (AddsNothing none) h =
    absurd (subst (λ (xs : List AuditLine). IsAmong xs line) (none (1 + length (trace o before))) h)
newest_is o step before line (AddsLine client why it) h =
    by_line (subst (λ (xs : List AuditLine). IsAmong xs line)
    (one_line o before step client why (1 + length (trace o before)) it) h)
  where
    by_line : IsAmong (record { step = 1 + length (trace o before); client = client; why = why } ∷ []) line
        → IsLineOf o (step ∷ before) line
    by_line (inl same) = record {
      later = [];
      step = step;
      before = before;
      place = refl;
      number = ap (λ (l : AuditLine). l.step) (sym same) ∙ ap (λ (n : ℕ). 1 + n) (as_many o before);
      denied = subst (λ (l : AuditLine). IsDeniedStep o before step l.client l.why) same it;
    }
    by_line (inr none) = absurd none

line_is : (o : Origin) (list : List Step) (line : AuditLine) → IsLawful o list
    → IsAmong (audit (trace o list)) line → IsLineOf o list line
line_is o [] line h g = absurd g
line_is o (step ∷ before) line h g =
    elim (among_cases (line_by o before step (1 + length (trace o before))) (audit (trace o before)) line g) [
      | inl here ↦ newest_is o step before line (adds o step before h) here
      | inr rest ↦ older (line_is o before line h.2 rest)
    ]
  where
    older : IsLineOf o before line → IsLineOf o (step ∷ before) line
    older w = record {
      later = step ∷ w.later;
      step = w.step;
      before = w.before;
      place = ap (λ (xs : List Step). step ∷ xs) w.place;
      number = w.number;
      denied = w.denied;
    }

-- Lines fall by their numbers, the newest first.
not_beyond : (o : Origin) (list : List Step) (line : AuditLine) → IsLawful o list
    → IsAmong (audit (trace o list)) line → line.step < 1 + length list
not_beyond o list line h g =
    let w = line_is o list line h g in
    let it : length w.before < length (w.later ++ w.step ∷ w.before) = longer w.later w.step w.before in
    let low : length w.before < length list = subst (λ (xs : List Step). length w.before < length xs) (sym w.place) it in
    let e : line.step ≡ 1 + length w.before = w.number in
    omega (arith, low, e)

-- behind the lines of another list
behind : (xs ys newer older : List AuditLine) (line : AuditLine) → xs ≡ [] → xs ++ ys ≡ newer ++ line ∷ older
    → ys ≡ newer ++ line ∷ older
behind [] ys newer older line e is = is
behind (x ∷ xs) ys newer older line e is = absurd cc

heads : {A : Type 0} {x y : A} {xs ys : List A} → x ∷ xs ≡ y ∷ ys → (x ≡ y) × (xs ≡ ys)
heads e = (cc, cc)

falls_here : (first : AuditLine) (rest newer older : List AuditLine) (line other : AuditLine)
    → ((l : AuditLine) → IsAmong rest l → l.step < first.step)
    → ((newer older : List AuditLine) (line other : AuditLine) → rest ≡ newer ++ line ∷ older
    → IsAmong older other → other.step < line.step)
    → first ∷ rest ≡ newer ++ line ∷ older → IsAmong older other → other.step < line.step
falls_here first rest [] older line other low k is g =
    let e = heads is in
    subst (λ (l : AuditLine). other.step < l.step) e.0
    (low other (subst (λ (xs : List AuditLine). IsAmong xs other) (sym e.1) g))
falls_here first rest (x ∷ newer) older line other low k is g = k newer older line other (heads is).1 g

falls_after : (o : Origin) (step : Step) (before : List Step) (newer older : List AuditLine) (line other : AuditLine)
    → IsLawful o (step ∷ before) → Adds o before step
    → ((newer older : List AuditLine) (line other : AuditLine) → audit (trace o before) ≡ newer ++ line ∷ older
    → IsAmong older other → other.step < line.step)
    → line_by o before step (1 + length (trace o before)) ++ audit (trace o before) ≡ newer ++ line ∷ older
    → IsAmong older other → other.step < line.step
falls_after o step before newer older line other h (AddsNothing none) k is g =
    k newer older line other
    (behind (line_by o before step (1 + length (trace o before))) (audit (trace o before)) newer older line
    (none (1 + length (trace o before))) is) g
falls_after o step before newer older line other h (AddsLine client why it) k is g =
    falls_here (record { step = 1 + length (trace o before); client = client; why = why })
    (audit (trace o before)) newer older line other
    (λ l among. let low : l.step < 1 + length before = not_beyond o before l h.2 among in
    let same : length (trace o before) ≡ length before = as_many o before in omega (arith, low, same))
    k
    (ap (λ (xs : List AuditLine). xs ++ audit (trace o before))
    (sym (one_line o before step client why (1 + length (trace o before)) it)) ∙ is) g

falls : (o : Origin) (list : List Step) → IsLawful o list → (newer older : List AuditLine) (line other : AuditLine)
    → audit (trace o list) ≡ newer ++ line ∷ older → IsAmong older other → other.step < line.step
falls o [] h [] older line other is g = absurd cc
falls o [] h (x ∷ newer) older line other is g = absurd cc
falls o (step ∷ before) h newer older line other is g =
    falls_after o step before newer older line other h (adds o step before h) (falls o before h.2) is g

pub audit_law : AuditLaw
audit_law o list h = record {
  denied = λ later before step client why place it.
      ap (λ (xs : List Step). lines_at (1 + length before) (audit (trace o xs))) place
      ∙ lines_are o later step before ∙ one_line o before step client why (1 + length before) it;
  others = λ later before step place no.
      ap (λ (xs : List Step). lines_at (1 + length before) (audit (trace o xs))) place
      ∙ lines_are o later step before
      ∙ no_line o before step (1 + length before)
      (adds o step before (lawful_before o later (step ∷ before) (subst (IsLawful o) place h))) no;
  lines = λ line g. line_is o list line h g;
  rises = falls o list h;
}

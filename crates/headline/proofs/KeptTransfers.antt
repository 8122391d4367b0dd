-- Every lawful list keeps what its transfers come to.
use Rattle.port_history.specs.Laws.{IsForPorts, read_as}
use Rattle.std.proofs.Common.{◌≡◌, ◌∙◌, ◌⊎◌, ℕ, ◌==◌, ◌<◌, not, ◌&&◌, Bool, true, false, List, [], ◌∷◌, if◌then◌else◌, Option, Some, None, refl, sym, ap, subst, inl, inr, eq-eqb}
use Rattle.std.specs.Prelude.{is_some, unwrap_or, IfSome, Ok}
use Rattle.std.proofs.lemmas.Bool.{cases_eq, ne_eqb, ltb-true}
use Rattle.fis.specs.H2d.{h2d_at}
use Rattle.trusted_cmds.specs.declared.command.Command.{Command}
use Rattle.trusted_cmds.specs.declared.command.Command.TheVariants as commands
use Rattle.trusted_cmds.specs.Commands.{fis_of, tag_with}
use Rattle.device_data.specs.declared.log_page.Failure.{Failure}
use Rattle.history.specs.Answers.{completed_data, data_read_of}
use Rattle.history.specs.Decisions.{fails_queue, holds, is_busy, unqueued_of, known_of}
use Rattle.history.specs.Events.{HeldCommand, Event, or_else, latest}
use Rattle.history.specs.Items.{Items}
use Rattle.history.specs.Facts.{Facts, facts}
use Rattle.history.specs.Opening.{Origin}
use Rattle.history.specs.Readers.{holding, held, failure}
use Rattle.port_history.specs.declared.request.Answer.{Answer}
use Rattle.port_history.specs.declared.request.Answer.TheVariants as answers
use Rattle.port_history.specs.declared.stages.Put.{Put}
use Rattle.port_history.specs.declared.stages.Stage.{Stage}
use Rattle.port_history.specs.declared.stages.Stage.TheVariants.{Issued, Accepted, Answered}
use Rattle.port_history.specs.declared.step.Step.{Step}
use Rattle.port_history.specs.declared.step.Step.TheVariants as steps
use Rattle.port_history.specs.Refusals.{AreLawful}
use Rattle.port_history.specs.Requests.{command_fis}
use Rattle.port_history.specs.Stages.{is_queued_command, to, accepted_stage}
use Rattle.port_history.specs.Steps.{Effect, Moment, events, stage, failed, is_tag, payload, put_of, answer, accept_payload, executed_answer, trace_of}
use Rattle.port_history.proofs.Acted.{IsExecuted, event_is, reads_bytes}
use Rattle.port_history.proofs.Kept.{Kept, accept_moment, complete_moment, recover_moment, failed_held, failed_failed, failed_executed, freed}
use Rattle.port_history.proofs.KeptLaw.{kept, accept_is, accepted_effect, complete_is, completed_effect, mended_queue, free_tag, idle, fit_issued, unqueued_comes, accepted_moves}
use Rattle.port_history.proofs.Tests.{none_is, some_is, was_true, none_holds, tests_of, issued_is, accepted_is}
use Rattle.headline.specs.Steps.{facts_after, before_acceptance, before_move}
use Rattle.headline.specs.Transfers.{Transfer, transfer_of}
use Rattle.headline.proofs.Came.{answer_to, executed, executed_is, IsTaken, TakenHeld, TakenFailed, IsTakenTransfer, queued_taken}
use Rattle.headline.proofs.Waits.{IsHeldAs, IsFailedAs, Comes, comes_put, comes_take, comes_issue, comes_beside, comes_failed, comes_recover, comes_reset}

-- of a list of steps
abbrev pub ComesAt : (items : Items) → Origin → List Step → ℕ → Type 0
ComesAt items o list tag =
    Comes tag (failed (trace_of items o list)) (failure (events (trace_of items o list))) (held (events (trace_of items o list)) tag)
    (facts_after items o (before_acceptance list tag)) (facts_after items o (before_move list tag))
    (answer (trace_of items o list) tag) (stage (trace_of items o list) tag)

-- by equations of the values
pub comes_by : {tag : ℕ} {u u' : Option ℕ} {failing failing' : Option Failure} {h h' : Option HeldCommand} {f f' g g' : Facts} {a a' : Option Answer} {s s' : Stage}
    → u' ≡ u → failing' ≡ failing → h' ≡ h → f' ≡ f → g' ≡ g → a' ≡ a → s' ≡ s
    → Comes tag u failing h f g a s → Comes tag u' failing' h' f' g' a' s'
comes_by eu ei eh ef eg ea es k = rw (eu, ei, eh, ef, eg, ea, es) k

-- values by tests
pub this_if : {A : Type 0} (b : Bool) (x y : A) → b ≡ true → (if b then x else y) ≡ x
this_if true x y e = refl
this_if false x y e = absurd (cc)

pub other_if : {A : Type 0} (b : Bool) (x y : A) → b ≡ false → (if b then x else y) ≡ y
other_if true x y e = absurd (cc)
other_if false x y e = refl

pub skips : {A : Type 0} (b : Bool) (y : Option A) (x : A) → b ≡ false
    → unwrap_or (if b then y else None) x ≡ x
skips true y x e = absurd (cc)
skips false y x e = refl

pub takes : {A : Type 0} (b : Bool) (y : Option A) (x : A) → b ≡ true
    → unwrap_or (if b then y else None) x ≡ unwrap_or y x
takes true y x e = refl
takes false y x e = absurd (cc)

pub itself : (u : ℕ) → (u == u) ≡ true
itself u = eq-eqb u u refl

split : (items : Items) (o : Origin) (list : List Step) (u : ℕ) → ComesAt items o list u
    → ((t : ℕ) → (u == t) ≡ false → ComesAt items o list t) → (t : ℕ) → ComesAt items o list t
split items o list u self other t = elim (cases_eq u t) [
  | inl same ↦ subst (λ (k : ℕ). ComesAt items o list k) same self
  | inr apart ↦ other t (ne_eqb u t apart)
]

-- what is held under a tag
held_here : (u : ℕ) (command : Command) (v : _) (past : List Event)
    → held (holds u command v ∷ past) u ≡ Some (record { command = command; verdict = v })
held_here u command v past =
    ap
    (λ (b : Bool). unwrap_or (or_else (if b then Some (Some (record { command = command; verdict = v })) else None)
    (latest (holding u) past)) None)
    (itself u)

held_beside : (u t : ℕ) (command : Command) (v : _) (past : List Event) → (u == t) ≡ false
    → held (holds u command v ∷ past) t ≡ held past t
held_beside u t command v past other =
    ap
    (λ (b : Bool). unwrap_or (or_else (if b then Some (Some (record { command = command; verdict = v })) else None)
    (latest (holding t) past)) None)
    other

-- The acceptance of a command.
abbrev AtMoment : List Moment → Moment → ℕ → Facts → Facts → Type 0
AtMoment ms m t f g =
    Comes t (failed (m ∷ ms)) (failure (events (m ∷ ms))) (held (events (m ∷ ms)) t) f g
    (answer (m ∷ ms) t) (stage (m ∷ ms) t)

and_false : (b : Bool) → (b && false) ≡ false
and_false true = refl
and_false false = refl

-- the event of a queued command
pub queued_event : (items : Items) (still : IsForPorts items) (o : Origin) (ms : List Moment) (u : ℕ) (put : Put) → u < 32 → Kept ms
    → failed ms ≡ None → stage ms u ≡ Issued put → is_queued_command put.command ≡ true
    → IsTakenTransfer u put.command (facts o (events ms)) (fis_of put.command u)
    (accepted_effect items o ms u put).event
queued_event items still o ms u put lu k mended was queued =
    subst (IsTakenTransfer u put.command f (fis_of put.command u))
    (sym (event_is items still o (events ms) put.command u (accept_payload put (payload ms u)) lu
    (fit_issued ms u put k was).sized (mended_queue ms k mended)
    (ap (λ (b : Bool). is_busy f && not b) queued ∙ and_false (is_busy f))))
    (queued_taken items f (fis_of put.command u) (accept_payload put (payload ms u)) put.command u queued
    (free_tag ms u put k was))
  where
    f : Facts
    f = facts o (events ms)

failed_by_event : (ms : List Moment) (u : ℕ) (put : Put) (e : Effect) (x : Event) → e.event ≡ x
    → failed (accept_moment u put e ∷ ms)
    ≡ unwrap_or (if is_queued_command put.command && is_some x.failed then Some (Some u) else None) (failed ms)
failed_by_event ms u put e x is =
    ap
    (λ (y : Event). unwrap_or (if is_queued_command put.command && is_some y.failed then Some (Some u) else None)
    (failed ms))
    is

queued_self : (items : Items) (o : Origin) (before : List Step) (u : ℕ) (put : Put) (e : Effect)
    → failed (trace_of items o before) ≡ None → stage (trace_of items o before) u ≡ Issued put
    → is_queued_command put.command ≡ true
    → IsTakenTransfer u put.command (facts_after items o before) (fis_of put.command u) e.event
    → AtMoment (trace_of items o before) (accept_moment u put e) u
    (facts_after items o (if u == u then before else before_acceptance before u))
    (facts_after items o (if u == u then before else before_move before u))
queued_self items o before u put e mended was queued taken = by_event taken.taken
  where
    ms : List Moment
    ms = trace_of items o before

    f : Facts
    f = facts_after items o before

    same_f : (list : List Step) → facts_after items o (if u == u then before else list) ≡ f
    same_f list = ap (facts_after items o) (this_if (u == u) before list (itself u))

    stands : stage (accept_moment u put e ∷ ms) u ≡ Accepted put
    stands =
        sym (Rattle.port_history.proofs.Kept.accepted_moves ms u u put was queued)
        ∙ this_if (u == u) (Accepted put) (stage ms u) (itself u)

    by_event : IsTaken u put.command f taken.x (fis_of put.command u) e.event
        → AtMoment ms (accept_moment u put e) u
        (facts_after items o (if u == u then before else before_acceptance before u))
        (facts_after items o (if u == u then before else before_move before u))
    by_event (TakenHeld v is comes) =
        comes_by {u = None} {f = f} {g = f} {s = Accepted put}
        (failed_by_event ms u put e (holds u put.command v) is ∙ failed_held ms u put v ∙ mended)
        refl refl (same_f _) (same_f _) refl stands
        (record {
          it = subst (λ (y : Option Transfer). IfSome y (λ z. IsHeldAs f z (held (e.event ∷ events ms) u)))
              (sym taken.is)
              (record {
                held = record { command = put.command; verdict = v };
                is = ap (λ (y : Event). held (y ∷ events ms) u) is ∙ held_here u put.command v (events ms);
                comes = comes;
              });
        })
    by_event (TakenFailed error denied is comes) =
        comes_by {u = Some u} {f = f} {g = f} {s = Accepted put}
        (failed_by_event ms u put e (fails_queue (Some u) error (fis_of put.command u) denied.0 denied.1) is
        ∙ failed_failed ms u put error denied queued)
        refl refl (same_f _) (same_f _) refl stands
        (record {
          it = λ same. subst (λ (y : Option Transfer). IfSome y (λ z. IsFailedAs f z (failure (e.event ∷ events ms))))
              (sym taken.is)
              (record {
                failure = Rattle.device_data.specs.ErrorLog.failure_by (Some u) error (fis_of put.command u);
                is = ap (λ (y : Event). failure (y ∷ events ms)) is;
                comes = comes;
              });
        })

queued_other : (items : Items) (o : Origin) (before : List Step) (u : ℕ) (put : Put) (e : Effect)
    → failed (trace_of items o before) ≡ None → is_queued_command put.command ≡ true
    → IsTakenTransfer u put.command (facts_after items o before) (fis_of put.command u) e.event
    → (t : ℕ) → (u == t) ≡ false → ComesAt items o before t
    → AtMoment (trace_of items o before) (accept_moment u put e) t
    (facts_after items o (if u == t then before else before_acceptance before t))
    (facts_after items o (if u == t then before else before_move before t))
queued_other items o before u put e mended queued taken t apart k = by_event taken.taken
  where
    ms : List Moment
    ms = trace_of items o before

    same_f : (list : List Step) → facts_after items o (if u == t then before else list) ≡ facts_after items o list
    same_f list = ap (facts_after items o) (other_if (u == t) before list apart)

    was : Comes t None (failure (events ms)) (held (events ms) t)
        (facts_after items o (before_acceptance before t)) (facts_after items o (before_move before t))
        (answer ms t) (stage ms t)
    was = comes_by (sym mended) refl refl refl refl refl refl k

    by_event : IsTaken u put.command (facts_after items o before) taken.x (fis_of put.command u) e.event
        → AtMoment ms (accept_moment u put e) t
        (facts_after items o (if u == t then before else before_acceptance before t))
        (facts_after items o (if u == t then before else before_move before t))
    by_event (TakenHeld v is comes) =
        comes_by {u = None}
        (failed_by_event ms u put e (holds u put.command v) is ∙ failed_held ms u put v ∙ mended)
        refl refl (same_f _) (same_f _) (skips (u == t) _ (answer ms t) apart)
        (other_if (u == t) _ (stage ms t) apart)
        (comes_beside t _ _ _ _ _ _ _ _
        (ap (λ (y : Event). held (y ∷ events ms) t) is ∙ held_beside u t put.command v (events ms) apart)
        was)
    by_event (TakenFailed error denied is comes) =
        comes_by {u = Some u}
        (failed_by_event ms u put e (fails_queue (Some u) error (fis_of put.command u) denied.0 denied.1) is
        ∙ failed_failed ms u put error denied queued)
        refl refl (same_f _) (same_f _) (skips (u == t) _ (answer ms t) apart)
        (other_if (u == t) _ (stage ms t) apart)
        (comes_failed t u _ _ _ _ _ _ _ _ apart was)

-- a command that is executed whole
known_unqueued : (items : Items) (f : Facts) (h : _) (bytes : List ℕ) (command : Command) (tag : ℕ)
    → is_queued_command command ≡ false
    → known_of items f h bytes (Ok (read_as command, tag_with command tag)) ≡ unqueued_of items f bytes (read_as command)
known_unqueued items f h bytes command tag e = by_command command e
  where
    by_command : (c : Command) → is_queued_command c ≡ false
        → known_of items f h bytes (Ok (read_as c, tag_with c tag)) ≡ unqueued_of items f bytes (read_as c)
    by_command (commands.ReadQueued lba count) e = absurd (cc)
    by_command (commands.WriteQueued lba count) e = absurd (cc)
    by_command (commands.ReadDma lba count) e = refl
    by_command (commands.WriteDma lba count) e = refl
    by_command (commands.Send protocol com_id blocks dma) e = refl
    by_command (commands.Receive protocol com_id blocks dma) e = refl
    by_command commands.Identify e = refl
    by_command (commands.ReadLog10 dma) e = refl
    by_command commands.Flush e = refl
    by_command (commands.SetFeatures feature) e = refl
    by_command (commands.ReadLog page dma) e = refl
    by_command (commands.ReadPio lba count) e = refl
    by_command (commands.WritePio lba count) e = refl
    by_command (commands.Verify lba count) e = refl
    by_command (commands.Trim blocks) e = refl
    by_command (commands.Control control) e = refl

pub unqueued_event : (items : Items) (still : IsForPorts items) (o : Origin) (ms : List Moment) (u : ℕ) (put : Put) → u < 32 → Kept ms
    → failed ms ≡ None → stage ms u ≡ Issued put → is_queued_command put.command ≡ false
    → (accepted_effect items o ms u put).event
    ≡ unqueued_of items (facts o (events ms)) (accept_payload put (payload ms u)) (read_as put.command)
unqueued_event items still o ms u put lu k mended was unqueued_is =
    event_is items still o (events ms) put.command u (accept_payload put (payload ms u)) lu
    (fit_issued ms u put k was).sized (mended_queue ms k mended)
    (ap (λ (b : Bool). b && not (is_queued_command put.command)) (idle o ms u put lu k was unqueued_is))
    ∙ known_unqueued items (facts o (events ms)) (fis_of put.command u) (accept_payload put (payload ms u))
    put.command u unqueued_is

-- its answer
pub executed_now : (items : Items) (still : IsForPorts items) (o : Origin) (ms : List Moment) (u : ℕ) (put : Put) → u < 32 → Kept ms
    → failed ms ≡ None → stage ms u ≡ Issued put → is_queued_command put.command ≡ false
    → executed_answer (Some (accepted_effect items o ms u put))
    ≡ Some (Some (executed (unqueued_of items (facts o (events ms)) (accept_payload put (payload ms u)) (read_as put.command))
    (data_read_of items (facts o (events ms)) (Ok (read_as put.command, tag_with put.command u)))))
executed_now items still o ms u put lu k mended was unqueued_is =
    ap (λ (y : Event). Some (Some (executed y (data_read_of items f (items.reads f.config (h2d_at (command_fis put.command u)))))))
    (unqueued_event items still o ms u put lu k mended was unqueued_is)
    ∙ ap
    (λ (r : _). Some (Some (executed (unqueued_of items f (accept_payload put (payload ms u)) (read_as put.command))
    (data_read_of items f r))))
    (reads_bytes items still f.config put.command u lu (fit_issued ms u put k was).sized)
  where
    f : Facts
    f = facts o (events ms)

unqueued_self : (items : Items) (still : IsForPorts items) (o : Origin) (before : List Step) (u : ℕ) (put : Put) → u < 32
    → Kept (trace_of items o before) → failed (trace_of items o before) ≡ None
    → stage (trace_of items o before) u ≡ Issued put → is_queued_command put.command ≡ false
    → AtMoment (trace_of items o before) (accept_moment u put (accepted_effect items o (trace_of items o before) u put)) u
    (facts_after items o (if u == u then before else before_acceptance before u))
    (facts_after items o (if u == u then before else before_move before u))
unqueued_self items still o before u put lu k mended was unqueued_is =
    comes_by {u = None} {f = f} {g = f} {s = Answered put}
    (failed_executed ms u put e unqueued_is ∙ mended) refl refl (same_f _) (same_f _) answers_so
    (sym (Rattle.port_history.proofs.Kept.executed_moves ms u u put was unqueued_is)
    ∙ this_if (u == u) (Answered put) (stage ms u) (itself u))
    (record { it = (refl, settled (transfer_of put.command) refl) })
  where
    ms : List Moment
    ms = trace_of items o before

    f : Facts
    f = facts_after items o before

    e : Effect
    e = accepted_effect items o ms u put

    same_f : (list : List Step) → facts_after items o (if u == u then before else list) ≡ f
    same_f list = ap (facts_after items o) (this_if (u == u) before list (itself u))

    now : Answer
    now =
        executed (unqueued_of items f (accept_payload put (payload ms u)) (read_as put.command))
        (data_read_of items f (Ok (read_as put.command, tag_with put.command u)))

    answers_so : answer (accept_moment u put e ∷ ms) u ≡ Some now
    answers_so =
        takes (u == u) _ (answer ms u) (itself u)
        ∙ ap (λ (b : Bool). unwrap_or (if b then None else executed_answer (Some e)) (answer ms u)) unqueued_is
        ∙ ap (λ (y : Option (Option Answer)). unwrap_or y (answer ms u))
        (executed_now items still o ms u put lu k mended was unqueued_is)

    settled : (x : Option Transfer) → transfer_of put.command ≡ x
        → IfSome x (λ z. ◌⊎◌ (◌≡◌ {A = Option Answer} (Some now) (Some answers.Reset)) (◌≡◌ {A = Option Answer} (Some now) (Some (answer_to f f z))))
    settled None is = tt
    settled (Some x) is =
        inr (ap Some (executed_is items f (accept_payload put (payload ms u)) put.command u x unqueued_is is))

unqueued_other : (items : Items) (o : Origin) (before : List Step) (u : ℕ) (put : Put) (e : Effect)
    → failed (trace_of items o before) ≡ None → is_queued_command put.command ≡ false
    → IsExecuted (events (trace_of items o before)) put.command e
    → (t : ℕ) → (u == t) ≡ false → ComesAt items o before t
    → AtMoment (trace_of items o before) (accept_moment u put e) t
    (facts_after items o (if u == t then before else before_acceptance before t))
    (facts_after items o (if u == t then before else before_move before t))
unqueued_other items o before u put e mended unqueued_is done t apart k =
    comes_by {u = None} (failed_executed ms u put e unqueued_is ∙ mended) refl refl (same_f _) (same_f _)
    (skips (u == t) _ (answer ms t) apart) (other_if (u == t) _ (stage ms t) apart)
    (comes_beside t _ _ _ _ _ _ _ _ (done.still_held t)
    (comes_by (sym mended) refl refl refl refl refl refl k))
  where
    ms : List Moment
    ms = trace_of items o before

    same_f : (list : List Step) → facts_after items o (if u == t then before else list) ≡ facts_after items o list
    same_f list = ap (facts_after items o) (other_if (u == t) before list apart)

comes_accept : (items : Items) (still : IsForPorts items) (o : Origin) (before : List Step) (u : ℕ) (put : Put) → u < 32
    → Kept (trace_of items o before) → failed (trace_of items o before) ≡ None
    → stage (trace_of items o before) u ≡ Issued put → ((t : ℕ) → ComesAt items o before t) → (t : ℕ)
    → ComesAt items o (steps.Accept u ∷ before) t
comes_accept items still o before u put lu k mended was all =
    split items o (steps.Accept u ∷ before) u (self (is_queued_command put.command) refl)
    (λ t apart. other (is_queued_command put.command) refl t apart)
  where
    ms : List Moment
    ms = trace_of items o before

    e : Effect
    e = accepted_effect items o ms u put

    self : (b : Bool) → is_queued_command put.command ≡ b → ComesAt items o (steps.Accept u ∷ before) u
    self true queued =
        subst (λ (m : Moment). AtMoment ms m u
        (facts_after items o (if u == u then before else before_acceptance before u))
        (facts_after items o (if u == u then before else before_move before u)))
        (sym (accept_is items o ms u put was))
        (queued_self items o before u put e mended was queued (queued_event items still o ms u put lu k mended was queued))
    self false unqueued_is =
        subst (λ (m : Moment). AtMoment ms m u
        (facts_after items o (if u == u then before else before_acceptance before u))
        (facts_after items o (if u == u then before else before_move before u)))
        (sym (accept_is items o ms u put was))
        (unqueued_self items still o before u put lu k mended was unqueued_is)

    other : (b : Bool) → is_queued_command put.command ≡ b → (t : ℕ) → (u == t) ≡ false
        → ComesAt items o (steps.Accept u ∷ before) t
    other true queued t apart =
        subst (λ (m : Moment). AtMoment ms m t
        (facts_after items o (if u == t then before else before_acceptance before t))
        (facts_after items o (if u == t then before else before_move before t)))
        (sym (accept_is items o ms u put was))
        (queued_other items o before u put e mended queued (queued_event items still o ms u put lu k mended was queued) t
        apart (all t))
    other false unqueued_is t apart =
        subst (λ (m : Moment). AtMoment ms m t
        (facts_after items o (if u == t then before else before_acceptance before t))
        (facts_after items o (if u == t then before else before_move before t)))
        (sym (accept_is items o ms u put was))
        (unqueued_other items o before u put e mended unqueued_is
        (unqueued_comes items still o ms u put lu k mended was unqueued_is) t apart (all t))

-- The completion of one that is held.
complete_self : (items : Items) (o : Origin) (before : List Step) (u : ℕ) (put : Put) (e : Effect)
    → failed (trace_of items o before) ≡ None → stage (trace_of items o before) u ≡ Accepted put
    → e.bytes ≡ completed_data (facts_after items o before) (held (events (trace_of items o before)) u)
    → ComesAt items o before u
    → AtMoment (trace_of items o before) (complete_moment u put e) u
    (facts_after items o (before_acceptance before u))
    (facts_after items o (if u == u then before else before_move before u))
complete_self items o before u put e mended was is_bytes k =
    comes_by {u = None} {g = f} {a = Some (answers.Done e.bytes)} {s = Answered put} mended refl refl refl
    (ap (facts_after items o) (this_if (u == u) before (before_move before u) (itself u)))
    (takes (u == u) _ (answer ms u) (itself u))
    (this_if (u == u) _ (stage ms u) (itself u) ∙ ap (to Answered) was)
    (record { it = (refl, settled (transfer_of put.command) here.it) })
  where
    ms : List Moment
    ms = trace_of items o before

    f : Facts
    f = facts_after items o before

    here : Comes u None (failure (events ms)) (held (events ms) u)
        (facts_after items o (before_acceptance before u)) (facts_after items o (before_move before u))
        (answer ms u) (Accepted put)
    here = comes_by (sym mended) refl refl refl refl refl (sym was) k

    settled : (x : Option Transfer)
        → IfSome x (λ z. IsHeldAs (facts_after items o (before_acceptance before u)) z (held (events ms) u))
        → IfSome x (λ z. ◌⊎◌ (◌≡◌ {A = Option Answer} (Some (answers.Done e.bytes)) (Some answers.Reset))
        (◌≡◌ {A = Option Answer} (Some (answers.Done e.bytes))
        (Some (answer_to (facts_after items o (before_acceptance before u)) f z))))
    settled None n = tt
    settled (Some x) n =
        inr (ap (λ (bytes : List ℕ). Some (answers.Done bytes)) (is_bytes ∙ ap (completed_data f) n.is)
        ∙ ap Some (sym (n.comes f)))

complete_other : (items : Items) (o : Origin) (before : List Step) (u : ℕ) (put : Put) (e : Effect) (bytes : List ℕ)
    → failed (trace_of items o before) ≡ None
    → e.event ≡ Rattle.history.specs.Decisions.completed_by u bytes put.command
    → (t : ℕ) → (u == t) ≡ false → ComesAt items o before t
    → AtMoment (trace_of items o before) (complete_moment u put e) t
    (facts_after items o (before_acceptance before t))
    (facts_after items o (if u == t then before else before_move before t))
complete_other items o before u put e bytes mended is t apart k =
    comes_by {u = None} mended refl refl refl
    (ap (facts_after items o) (other_if (u == t) before (before_move before t) apart))
    (skips (u == t) _ (answer ms t) apart) (other_if (u == t) _ (stage ms t) apart)
    (comes_beside t _ _ _ _ _ _ _ _
    (ap (λ (y : Event). held (y ∷ events ms) t) is ∙ freed u t bytes put.command (events ms)
    ∙ other_if (u == t) None (held (events ms) t) apart)
    (comes_by (sym mended) refl refl refl refl refl refl k))
  where
    ms : List Moment
    ms = trace_of items o before

comes_complete : (items : Items) (o : Origin) (before : List Step) (u : ℕ) (put : Put) → Kept (trace_of items o before)
    → failed (trace_of items o before) ≡ None → stage (trace_of items o before) u ≡ Accepted put
    → ((t : ℕ) → ComesAt items o before t) → (t : ℕ) → ComesAt items o (steps.Complete u ∷ before) t
comes_complete items o before u put k mended was all =
    split items o (steps.Complete u ∷ before) u
    (subst (λ (m : Moment). AtMoment ms m u (facts_after items o (before_acceptance before u))
    (facts_after items o (if u == u then before else before_move before u)))
    (sym (complete_is items o ms u put was)) (complete_self items o before u put e mended was refl (all u)))
    (λ t apart. subst (λ (m : Moment). AtMoment ms m t (facts_after items o (before_acceptance before t))
    (facts_after items o (if u == t then before else before_move before t)))
    (sym (complete_is items o ms u put was))
    (complete_other items o before u put e (payload ms u) mended (accepted_moves items o ms u put k mended was).event t
    apart (all t)))
  where
    ms : List Moment
    ms = trace_of items o before

    e : Effect
    e = completed_effect items o ms u

-- Every lawful list.
pub comes : (items : Items) (still : IsForPorts items) (o : Origin) (list : List Step) → AreLawful items o list → (t : ℕ) → ComesAt items o list t
comes items still o [] h t = record { it = tt }
comes items still o (steps.Put client u request ∷ before) h t =
    comes_put (u == t) (put_of _ client request) (comes items still o before h.2 t)
comes items still o (steps.Issue u ∷ before) h t =
    let ms = trace_of items o before in
    let x = none_holds (tests_of ms (steps.Issue u)) h.1 in
    comes_issue (u == t) t (failed ms) _ _ _ _ _ (stage ms t) (none_is (failed ms) x.1.0) (comes items still o before h.2 t)
comes items still o (steps.Accept u ∷ before) h t =
    let ms = trace_of items o before in
    let x = none_holds (tests_of ms (steps.Accept u)) h.1 in
    let p = issued_is (stage ms u) x.1.1.0 in
    comes_accept items still o before u p.0 (ltb-true u 32 h.0) (kept items still o before h.2) (none_is (failed ms) x.1.0) p.1
    (comes items still o before h.2) t
comes items still o (steps.Complete u ∷ before) h t =
    let ms = trace_of items o before in
    let x = none_holds (tests_of ms (steps.Complete u)) h.1 in
    let p = accepted_is (stage ms u) x.1.1.0 in
    comes_complete items o before u p.0 (kept items still o before h.2) (none_is (failed ms) x.1.0) p.1 (comes items still o before h.2) t
comes items still o (steps.Recover ∷ before) h t =
    let ms = trace_of items o before in
    let x = none_holds (tests_of ms steps.Recover) h.1 in
    let f = some_is (failed ms) (was_true _ x.1.0) in
    recovered_at (failed ms) f.0 f.1 (comes items still o before h.2 t)
  where
    recovered_at : (failed_tag : Option ℕ) (u : ℕ) → failed_tag ≡ Some u
        → Comes t failed_tag (failure (events (trace_of items o before))) (held (events (trace_of items o before)) t)
        (facts_after items o (before_acceptance before t)) (facts_after items o (before_move before t))
        (answer (trace_of items o before) t) (stage (trace_of items o before) t)
        → Comes t None (failure (events (trace_of items o (steps.Recover ∷ before))))
        (held (events (trace_of items o (steps.Recover ∷ before))) t)
        (facts_after items o (before_acceptance before t)) (facts_after items o (before_move before t))
        (unwrap_or (if is_tag t failed_tag then Rattle.port_history.specs.Steps.recovered_answer (failure (events (trace_of items o before))) else None)
        (answer (trace_of items o before) t))
        (Rattle.port_history.specs.Stages.recovered (is_tag t failed_tag) (stage (trace_of items o before) t))
    recovered_at None u e c = absurd (cc)
    recovered_at (Some v) u e c = comes_recover (v == t) t v _ _ _ _ _ _ _ _ refl c
comes items still o (steps.Reset client kind ∷ before) h t =
    let ms = trace_of items o before in
    comes_reset t (failed ms) _ _ _ _ _ _ (answer ms t) (stage ms t) (comes items still o before h.2 t)
comes items still o (steps.Take client u ∷ before) h t = comes_take (u == t) (comes items still o before h.2 t)

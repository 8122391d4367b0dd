-- But for a write that was done, no act of a tag since its Put moves data.
use Rattle.port_history.specs.Laws.{IsForPorts, read_as}
use Rattle.std.proofs.Common.{◌≡◌, ◌∙◌, ℕ, ◌<◌, ◌==◌, not, Bool, true, false, List, [], ◌∷◌, if◌then◌else◌, Option, Some, None, refl, sym, ap, subst, inl, inr, eqb-true}
use Rattle.std.specs.Prelude.{unwrap_or, IfSome, Ok}
use Rattle.std.proofs.lemmas.Bool.{cases_eq, ne_eqb, ltb-true}
use Rattle.device_data.specs.declared.log_page.Failure.{Failure}
use Rattle.fis.specs.declared.h2d.RegH2d.{RegH2d}
use Rattle.locking.specs.declared.range.Op.TheVariants.{Read, Write}
use Rattle.locking.specs.declared.ranges.Verdict.{Verdict}
use Rattle.locking.specs.declared.ranges.Verdict.TheVariants.{Serve, Shadow, Denied}
use Rattle.trusted_cmds.specs.declared.command.Command.{Command}
use Rattle.trusted_cmds.specs.declared.command.Command.TheVariants as commands
use Rattle.trusted_cmds.specs.Commands.{fis_of, tag_with}
use Rattle.history.specs.Decisions.{not_found, fails, on_drive, verdict_on, unqueued_by, completed_by, unqueued_of, was_read}
use Rattle.history.specs.Events.{Wrote, Event, or_else, latest}
use Rattle.history.specs.Items.{Items}
use Rattle.history.specs.Answers.{data_read_of}
use Rattle.history.specs.Facts.{Facts}
use Rattle.history.specs.Opening.{Origin}
use Rattle.history.specs.Readers.{writing, failure, held}
use Rattle.port_history.specs.declared.request.Answer.{Answer}
use Rattle.port_history.specs.declared.request.Answer.TheVariants as answers
use Rattle.port_history.specs.declared.stages.Put.{Put}
use Rattle.port_history.specs.declared.stages.Stage.{Stage}
use Rattle.port_history.specs.declared.stages.Stage.TheVariants.{Free, Prepared, Issued, Accepted, Answered}
use Rattle.port_history.specs.declared.step.Step.{Step}
use Rattle.port_history.specs.declared.step.Step.TheVariants as steps
use Rattle.port_history.specs.Refusals.{AreLawful}
use Rattle.port_history.specs.Stages.{is_queued_command, is_pending, to, recovered, stage_after_reset}
use Rattle.port_history.specs.Steps.{Effect, Moment, event_before, events, stage, failed, is_tag, payload, put_of, answer, accept_payload, recovered_answer, executed_answer, trace_of}
use Rattle.port_history.proofs.Kept.{Kept, accept_moment, complete_moment, accepted_moves, executed_moves}
use Rattle.port_history.proofs.KeptLaw.{kept, accept_is, accepted_effect, complete_is, completed_effect, fit_accepted, accepted_moves as completion_moves, found, recover_is}
use Rattle.port_history.proofs.Tests.{none_is, some_is, was_true, none_holds, tests_of, prepared_is, issued_is, accepted_is}
use Rattle.headline.specs.Steps.{facts_after, before_acceptance, before_move, own_past}
use Rattle.headline.specs.Transfers.{Transfer, transfer_of, MoveNothing}
use Rattle.headline.proofs.Came.{executed, IsTaken, TakenHeld, TakenFailed}
use Rattle.headline.proofs.KeptTransfers.{ComesAt, this_if, other_if, skips, takes, itself, queued_event, unqueued_event, executed_now, comes}
use Rattle.headline.proofs.Waits.{Comes}
use Rattle.audit.specs.declared.rules.rule.Rule.TheVariants.{BeyondDrive}

-- A write, and answered with Done.
abbrev pub IsWritten : Transfer → Option Answer → Type 0
IsWritten x a = (x.op ≡ Write) × ((bytes : List ℕ) × (a ≡ Some (answers.Done bytes)))

abbrev pub IsUnmoved : List Event → Command → Option Answer → Type 0
IsUnmoved own command a = IfSome (transfer_of command) (λ x. (IsWritten x a → ⊥) → MoveNothing own)

-- Before it is answered nothing has moved at all.
abbrev pub UnmovedOf : List Event → Option Answer → Stage → Type 0
UnmovedOf own a Free = Unit {0}
UnmovedOf own a (Prepared put) = MoveNothing own
UnmovedOf own a (Issued put) = MoveNothing own
UnmovedOf own a (Accepted put) = MoveNothing own
UnmovedOf own a (Answered put) = IsUnmoved own put.command a

pub record Unmoved (own : List Event) (a : Option Answer) (s : Stage) : Type 0 where
  pub it : UnmovedOf own a s

pub unmoved_by : {own own' : List Event} {a a' : Option Answer} {s s' : Stage}
    → own' ≡ own → a' ≡ a → s' ≡ s → Unmoved own a s → Unmoved own' a' s'
unmoved_by eo ea es k = rw (eo, ea, es) k

abbrev pub UnmovedAt : Items → Origin → List Step → ℕ → Type 0
UnmovedAt items o list tag =
    Unmoved (own_past items o list tag) (answer (trace_of items o list) tag) (stage (trace_of items o list) tag)

-- nothing moved, whatever it is answered
never : (own : List Event) (command : Command) (a : Option Answer) → MoveNothing own
    → IsUnmoved own command a
never own command a k = by_transfer (transfer_of command)
  where
    by_transfer : (t : Option Transfer) → IfSome t (λ x. (IsWritten x a → ⊥) → MoveNothing own)
    by_transfer None = tt
    by_transfer (Some x) = λ undone. k

-- one more event that writes nothing
and_then : (e : Event) (own : List Event) → ((place : ℕ) → writing place e.deed ≡ None)
    → MoveNothing own → MoveNothing (e ∷ own)
and_then e own quiet k =
    λ place. ap (λ (x : Option (List ℕ)). or_else x (latest (writing place) own)) (quiet place) ∙ k place

-- Put, Take, Issue.
unmoved_put : (b : Bool) (put : Put) {own : List Event} {a : Option Answer} {s : Stage} → Unmoved own a s
    → Unmoved (if b then [] else own) (unwrap_or (if b then Some None else None) a)
    (if b then Prepared put else s)
unmoved_put true put k = record { it = λ place. refl }
unmoved_put false put k = k

unmoved_take : (b : Bool) {own : List Event} {a : Option Answer} {s : Stage} → Unmoved own a s
    → Unmoved own (unwrap_or (if b then Some None else None) a) (if b then Free else s)
unmoved_take true k = record { it = tt }
unmoved_take false k = k

unmoved_issue : (b : Bool) (own : List Event) (a : Option Answer) (s : Stage)
    → (b ≡ true → (put : Put) × (s ≡ Prepared put)) → Unmoved own a s
    → Unmoved own a (if b then to Issued s else s)
unmoved_issue true own a s was k =
    let p = was refl in
    unmoved_by refl refl (ap (to Issued) p.1) (record { it = waited p.0 p.1 k })
  where
    waited : (put : Put) → s ≡ Prepared put → Unmoved own a s → MoveNothing own
    waited put e k = let h : Unmoved own a (Prepared put) = unmoved_by refl refl (sym e) k in h.it
unmoved_issue false own a s was k = k

-- Recover and Reset.
unmoved_recover : (b : Bool) (f : Failure) (e : Event) (own : List Event) (a : Option Answer) (s : Stage)
    → ((place : ℕ) → writing place e.deed ≡ None)
    → ((put : Put) → s ≡ Answered put → b ≡ false) → Unmoved own a s
    → Unmoved (e ∷ own) (unwrap_or (if b then recovered_answer (Some f) else None) a) (recovered b s)
unmoved_recover b f e own a Free quiet apart k = record { it = tt }
unmoved_recover b f e own a (Prepared put) quiet apart k = record { it = and_then e own quiet k.it }
unmoved_recover true f e own a (Issued put) quiet apart k =
    record { it = never (e ∷ own) put.command _ (and_then e own quiet k.it) }
unmoved_recover false f e own a (Issued put) quiet apart k = record { it = and_then e own quiet k.it }
unmoved_recover true f e own a (Accepted put) quiet apart k =
    record { it = never (e ∷ own) put.command _ (and_then e own quiet k.it) }
unmoved_recover false f e own a (Accepted put) quiet apart k = record { it = and_then e own quiet k.it }
unmoved_recover true f e own a (Answered put) quiet apart k = absurd (clash (apart put refl))
  where
    clash : true ≡ false → ⊥
    clash h = cc
unmoved_recover false f e own a (Answered put) quiet apart k =
    record { it = more (transfer_of put.command) k.it }
  where
    more : (t : Option Transfer) → IfSome t (λ x. (IsWritten x a → ⊥) → MoveNothing own)
        → IfSome t (λ x. (IsWritten x a → ⊥) → MoveNothing (e ∷ own))
    more None h = tt
    more (Some x) h = λ undone. and_then e own quiet (h undone)

unmoved_reset : (e : Event) (own : List Event) (a : Option Answer) (s : Stage)
    → ((place : ℕ) → writing place e.deed ≡ None) → Unmoved own a s
    → Unmoved (e ∷ own) (unwrap_or (if is_pending s then Some (Some answers.Reset) else None) a) (stage_after_reset s)
unmoved_reset e own a Free quiet k = record { it = tt }
unmoved_reset e own a (Prepared put) quiet k =
    record { it = never (e ∷ own) put.command _ (and_then e own quiet k.it) }
unmoved_reset e own a (Issued put) quiet k =
    record { it = never (e ∷ own) put.command _ (and_then e own quiet k.it) }
unmoved_reset e own a (Accepted put) quiet k =
    record { it = never (e ∷ own) put.command _ (and_then e own quiet k.it) }
unmoved_reset e own a (Answered put) quiet k = record { it = more (transfer_of put.command) k.it }
  where
    more : (t : Option Transfer) → IfSome t (λ x. (IsWritten x a → ⊥) → MoveNothing own)
        → IfSome t (λ x. (IsWritten x a → ⊥) → MoveNothing (e ∷ own))
    more None h = tt
    more (Some x) h = λ undone. and_then e own quiet (h undone)

-- The acceptance of a queued command.
taken_quiet : (tag : ℕ) (command : Command) (f : Facts) (x : Transfer) (h : RegH2d) (e : Event)
    → IsTaken tag command f x h e → (place : ℕ) → writing place e.deed ≡ None
taken_quiet tag command f x h e (TakenHeld v is comes) place =
    ap (λ (y : Event). writing place y.deed) is
taken_quiet tag command f x h e (TakenFailed error denied is comes) place =
    ap (λ (y : Event). writing place y.deed) is

-- Of one that is executed whole.
read_quiet : (on : Bool) (v : Verdict) (place : ℕ)
    → writing place (if on then unqueued_by was_read v else fails not_found None (Some BeyondDrive)).deed ≡ None
read_quiet false v place = refl
read_quiet true (Denied why) place = refl
read_quiet true Serve place = refl
read_quiet true Shadow place = refl

write_quiet : (lba : ℕ) (content given : List ℕ) (on : Bool) (v : Verdict)
    → ((bytes : List ℕ) × (Some (executed (if on then unqueued_by (Wrote lba content) v else fails not_found None (Some BeyondDrive)) given)
    ≡ Some (answers.Done bytes)) → ⊥)
    → (place : ℕ)
    → writing place (if on then unqueued_by (Wrote lba content) v else fails not_found None (Some BeyondDrive)).deed ≡ None
write_quiet lba content given false v undone place = refl
write_quiet lba content given true (Denied why) undone place = refl
write_quiet lba content given true Serve undone place = absurd (undone (given, refl))
write_quiet lba content given true Shadow undone place = absurd (undone (given, refl))

executed_unmoved : (items : Items) (f : Facts) (own : List Event) (content given : List ℕ) (command : Command)
    → is_queued_command command ≡ false → MoveNothing own
    → IsUnmoved (unqueued_of items f content (read_as command) ∷ own) command
    (Some (executed (unqueued_of items f content (read_as command)) given))
executed_unmoved items f own content given (commands.ReadQueued lba count) unqueued_is k = absurd (cc)
executed_unmoved items f own content given (commands.WriteQueued lba count) unqueued_is k = absurd (cc)
executed_unmoved items f own content given (commands.ReadDma lba count) unqueued_is k =
    λ undone. and_then (if on_drive f lba count then unqueued_by was_read (verdict_on f Read lba count) else fails not_found None (Some BeyondDrive))
    own (read_quiet (on_drive f lba count) (verdict_on f Read lba count)) k
executed_unmoved items f own content given (commands.WriteDma lba count) unqueued_is k =
    λ undone. and_then (if on_drive f lba count then unqueued_by (Wrote lba content) (verdict_on f Write lba count) else fails not_found None (Some BeyondDrive))
    own
    (write_quiet lba content given (on_drive f lba count) (verdict_on f Write lba count) (λ d. undone (refl, d))) k
executed_unmoved items f own content given (commands.Send protocol com_id blocks dma) unqueued_is k = tt
executed_unmoved items f own content given (commands.Receive protocol com_id blocks dma) unqueued_is k = tt
executed_unmoved items f own content given commands.Identify unqueued_is k = tt
executed_unmoved items f own content given (commands.ReadLog10 dma) unqueued_is k = tt
executed_unmoved items f own content given commands.Flush unqueued_is k = tt
executed_unmoved items f own content given (commands.SetFeatures feature) unqueued_is k = tt
executed_unmoved items f own content given (commands.ReadLog page dma) unqueued_is k = tt
executed_unmoved items f own content given (commands.ReadPio lba count) unqueued_is k = tt
executed_unmoved items f own content given (commands.WritePio lba count) unqueued_is k = tt
executed_unmoved items f own content given (commands.Verify lba count) unqueued_is k = tt
executed_unmoved items f own content given (commands.Trim blocks) unqueued_is k = tt
executed_unmoved items f own content given (commands.Control control) unqueued_is k = tt

-- A completion.
completed_unmoved : (u : ℕ) (own : List Event) (content bytes : List ℕ) (command : Command)
    → is_queued_command command ≡ true → MoveNothing own
    → IsUnmoved (completed_by u content command ∷ own) command (Some (answers.Done bytes))
completed_unmoved u own content bytes (commands.ReadQueued lba count) queued k =
    λ undone. and_then (completed_by u content (commands.ReadQueued lba count)) own (λ place. refl) k
completed_unmoved u own content bytes (commands.WriteQueued lba count) queued k =
    λ undone. absurd (undone (refl, (bytes, refl)))
completed_unmoved u own content bytes (commands.ReadDma lba count) queued k = absurd (cc)
completed_unmoved u own content bytes (commands.WriteDma lba count) queued k = absurd (cc)
completed_unmoved u own content bytes (commands.Send protocol com_id blocks dma) queued k = tt
completed_unmoved u own content bytes (commands.Receive protocol com_id blocks dma) queued k = tt
completed_unmoved u own content bytes commands.Identify queued k = tt
completed_unmoved u own content bytes (commands.ReadLog10 dma) queued k = tt
completed_unmoved u own content bytes commands.Flush queued k = tt
completed_unmoved u own content bytes (commands.SetFeatures feature) queued k = tt
completed_unmoved u own content bytes (commands.ReadLog page dma) queued k = tt
completed_unmoved u own content bytes (commands.ReadPio lba count) queued k = tt
completed_unmoved u own content bytes (commands.WritePio lba count) queued k = tt
completed_unmoved u own content bytes (commands.Verify lba count) queued k = tt
completed_unmoved u own content bytes (commands.Trim blocks) queued k = tt
completed_unmoved u own content bytes (commands.Control control) queued k = tt

split : (items : Items) (o : Origin) (list : List Step) (u : ℕ) → UnmovedAt items o list u
    → ((t : ℕ) → (u == t) ≡ false → UnmovedAt items o list t) → (t : ℕ) → UnmovedAt items o list t
split items o list u self other t = elim (cases_eq u t) [
  | inl same ↦ subst (λ (k : ℕ). UnmovedAt items o list k) same self
  | inr apart ↦ other t (ne_eqb u t apart)
]

-- what is a tag's own
own_here : (u : ℕ) (rest more : List Event) → (if not (u == u) then rest else more) ≡ more
own_here u rest more = ap (λ (b : Bool). if not b then rest else more) (itself u)

own_beside : (u t : ℕ) (rest more : List Event) → (u == t) ≡ false
    → (if not (u == t) then rest else more) ≡ rest
own_beside u t rest more apart = ap (λ (b : Bool). if not b then rest else more) apart

abbrev AtMoment : List Event → List Moment → Moment → ℕ → Type 0
AtMoment own ms m u = Unmoved (event_before m.effect own) (answer (m ∷ ms) u) (stage (m ∷ ms) u)

accept_self : (items : Items) (still : IsForPorts items) (o : Origin) (before : List Step) (u : ℕ) (put : Put) → u < 32 → Kept (trace_of items o before)
    → failed (trace_of items o before) ≡ None → stage (trace_of items o before) u ≡ Issued put
    → MoveNothing (own_past items o before u)
    → AtMoment (own_past items o before u) (trace_of items o before)
    (accept_moment u put (accepted_effect items o (trace_of items o before) u put)) u
accept_self items still o before u put lu k mended was own_quiet = by_kind (is_queued_command put.command) refl
  where
    ms : List Moment
    ms = trace_of items o before

    own : List Event
    own = own_past items o before u

    f : Facts
    f = facts_after items o before

    e : Effect
    e = accepted_effect items o ms u put

    by_kind : (b : Bool) → is_queued_command put.command ≡ b → AtMoment own ms (accept_moment u put e) u
    by_kind true queued =
        let q = queued_event items still o ms u put lu k mended was queued in
        unmoved_by {s = Accepted put} refl refl
        (sym (accepted_moves ms u u put was queued) ∙ this_if (u == u) (Accepted put) (stage ms u) (itself u))
        (record {
          it = and_then e.event own (taken_quiet u put.command f q.x (fis_of put.command u) e.event q.taken) own_quiet;
        })
    by_kind false unqueued_is =
        unmoved_by {s = Answered put}
        (ap (λ (x : Event). x ∷ own) (unqueued_event items still o ms u put lu k mended was unqueued_is))
        (takes (u == u) _ (answer ms u) (itself u)
        ∙ ap (λ (b : Bool). unwrap_or (if b then None else executed_answer (Some e)) (answer ms u)) unqueued_is
        ∙ ap (λ (y : Option (Option Answer)). unwrap_or y (answer ms u))
        (executed_now items still o ms u put lu k mended was unqueued_is))
        (sym (executed_moves ms u u put was unqueued_is)
        ∙ this_if (u == u) (Answered put) (stage ms u) (itself u))
        (record {
          it = executed_unmoved items f own (accept_payload put (payload ms u))
              (data_read_of items f (Ok (read_as put.command, tag_with put.command u))) put.command unqueued_is
              own_quiet;
        })

-- nothing moved of what waits
waits_issued : (own : List Event) (a : Option Answer) (s : Stage) (put : Put) → s ≡ Issued put → Unmoved own a s
    → MoveNothing own
waits_issued own a s put was k = let h : Unmoved own a (Issued put) = unmoved_by refl refl (sym was) k in h.it

waits_accepted : (own : List Event) (a : Option Answer) (s : Stage) (put : Put) → s ≡ Accepted put → Unmoved own a s
    → MoveNothing own
waits_accepted own a s put was k = let h : Unmoved own a (Accepted put) = unmoved_by refl refl (sym was) k in h.it

unmoved_accept : (items : Items) (still : IsForPorts items) (o : Origin) (before : List Step) (u : ℕ) (put : Put) → u < 32 → Kept (trace_of items o before)
    → failed (trace_of items o before) ≡ None → stage (trace_of items o before) u ≡ Issued put
    → ((t : ℕ) → UnmovedAt items o before t) → (t : ℕ) → UnmovedAt items o (steps.Accept u ∷ before) t
unmoved_accept items still o before u put lu k mended was all =
    split items o (steps.Accept u ∷ before) u
    (unmoved_by (own_here u (own_past items o before u) _) refl refl
    (subst (λ (m : Moment). AtMoment (own_past items o before u) ms m u) (sym (accept_is items o ms u put was))
    (accept_self items still o before u put lu k mended was
    (waits_issued (own_past items o before u) (answer ms u) (stage ms u) put was (all u)))))
    (λ t apart. unmoved_by (own_beside u t (own_past items o before t) _ apart)
    (skips (u == t) _ (answer ms t) apart) (other_if (u == t) _ (stage ms t) apart) (all t))
  where
    ms : List Moment
    ms = trace_of items o before

complete_self : (items : Items) (o : Origin) (before : List Step) (u : ℕ) (put : Put) → Kept (trace_of items o before)
    → failed (trace_of items o before) ≡ None → stage (trace_of items o before) u ≡ Accepted put
    → MoveNothing (own_past items o before u)
    → AtMoment (own_past items o before u) (trace_of items o before)
    (complete_moment u put (completed_effect items o (trace_of items o before) u)) u
complete_self items o before u put k mended was own_quiet =
    unmoved_by {a = Some (answers.Done e.bytes)} {s = Answered put}
    (ap (λ (x : Event). x ∷ own_past items o before u) (completion_moves items o ms u put k mended was).event)
    (takes (u == u) _ (answer ms u) (itself u))
    (this_if (u == u) _ (stage ms u) (itself u) ∙ ap (to Answered) was)
    (record {
      it = completed_unmoved u (own_past items o before u) (payload ms u) e.bytes put.command
          (fit_accepted ms u put k was).queued own_quiet;
    })
  where
    ms : List Moment
    ms = trace_of items o before

    e : Effect
    e = completed_effect items o ms u

unmoved_complete : (items : Items) (o : Origin) (before : List Step) (u : ℕ) (put : Put) → Kept (trace_of items o before)
    → failed (trace_of items o before) ≡ None → stage (trace_of items o before) u ≡ Accepted put
    → ((t : ℕ) → UnmovedAt items o before t) → (t : ℕ) → UnmovedAt items o (steps.Complete u ∷ before) t
unmoved_complete items o before u put k mended was all =
    split items o (steps.Complete u ∷ before) u
    (unmoved_by (own_here u (own_past items o before u) _) refl refl
    (subst (λ (m : Moment). AtMoment (own_past items o before u) ms m u) (sym (complete_is items o ms u put was))
    (complete_self items o before u put k mended was
    (waits_accepted (own_past items o before u) (answer ms u) (stage ms u) put was (all u)))))
    (λ t apart. unmoved_by (own_beside u t (own_past items o before t) _ apart)
    (skips (u == t) _ (answer ms t) apart) (other_if (u == t) _ (stage ms t) apart) (all t))
  where
    ms : List Moment
    ms = trace_of items o before

-- the tag that failed is not answered
answered_apart : (items : Items) (o : Origin) (list : List Step) (t : ℕ) (put : Put) → ComesAt items o list t
    → stage (trace_of items o list) t ≡ Answered put → is_tag t (failed (trace_of items o list)) ≡ false
answered_apart items o list t put k was =
    let h : Comes t (failed ms) (failure (events ms)) (held (events ms) t)
    (facts_after items o (before_acceptance list t)) (facts_after items o (before_move list t)) (answer ms t) (Answered put) =
    Rattle.headline.proofs.KeptTransfers.comes_by refl refl refl refl refl refl (sym was) k in
    h.it.0
  where
    ms : List Moment
    ms = trace_of items o list

-- Every lawful list.
pub unmoved : (items : Items) (still : IsForPorts items) (o : Origin) (list : List Step) → AreLawful items o list → (t : ℕ) → UnmovedAt items o list t
unmoved items still o [] h t = record { it = tt }
unmoved items still o (steps.Put client u request ∷ before) h t =
    unmoved_put (u == t) (put_of _ client request) (unmoved items still o before h.2 t)
unmoved items still o (steps.Issue u ∷ before) h t =
    let ms = trace_of items o before in
    let x = none_holds (tests_of ms (steps.Issue u)) h.1 in
    let p = prepared_is (stage ms u) x.1.1.0 in
    unmoved_issue (u == t) _ _ (stage ms t)
    (λ same. (p.0, ap (stage ms) (sym (eqb-true u t same)) ∙ p.1)) (unmoved items still o before h.2 t)
unmoved items still o (steps.Accept u ∷ before) h t =
    let ms = trace_of items o before in
    let x = none_holds (tests_of ms (steps.Accept u)) h.1 in
    let p = issued_is (stage ms u) x.1.1.0 in
    unmoved_accept items still o before u p.0 (ltb-true u 32 h.0) (kept items still o before h.2) (none_is (failed ms) x.1.0) p.1
    (unmoved items still o before h.2) t
unmoved items still o (steps.Complete u ∷ before) h t =
    let ms = trace_of items o before in
    let x = none_holds (tests_of ms (steps.Complete u)) h.1 in
    let p = accepted_is (stage ms u) x.1.1.0 in
    unmoved_complete items o before u p.0 (kept items still o before h.2) (none_is (failed ms) x.1.0) p.1
    (unmoved items still o before h.2) t
unmoved items still o (steps.Recover ∷ before) h t =
    let ms = trace_of items o before in
    let x = none_holds (tests_of ms steps.Recover) h.1 in
    let f = some_is (failed ms) (was_true _ x.1.0) in
    let y = found ms f.0 (kept items still o before h.2) f.1 in
    unmoved_by
    (ap (λ (m : Moment). event_before m.effect (own_past items o before t)) (recover_is items still o ms y.found y.failing))
    (ap (λ (z : Option Failure). unwrap_or (if is_tag t (failed ms) then recovered_answer z else None) (answer ms t)) y.failing)
    refl
    (unmoved_recover (is_tag t (failed ms)) y.found _ (own_past items o before t) (answer ms t) (stage ms t)
    (λ place. refl)
    (λ put was. answered_apart items o before t put (comes items still o before h.2 t) was)
    (unmoved items still o before h.2 t))
unmoved items still o (steps.Reset client kind ∷ before) h t =
    unmoved_reset _ _ _ (stage (trace_of items o before) t) (λ place. refl) (unmoved items still o before h.2 t)
unmoved items still o (steps.Take client u ∷ before) h t = unmoved_take (u == t) (unmoved items still o before h.2 t)

-- The data of a write that is done stand in media after the act that moved them.
use Rattle.port_history.specs.Laws.{IsForPorts, read_as}
use Rattle.std.proofs.Common.{◌≡◌, ◌∙◌, ℕ, ◌+◌, ◌-◌, ◌*◌, ◌/◌, ◌<◌, ◌==◌, ◌&&◌, nat_le, nat_lt, Bool, true, false, List, [], ◌∷◌, length, if◌then◌else◌, Option, Some, None, refl, sym, ap, subst, arith, inl, inr}
use Rattle.std.specs.Prelude.{take, drop, unwrap_or, IfSome, Ok}
use Rattle.std.proofs.lemmas.Bool.{cases_eq, ne_eqb, ltb-true}
use Rattle.std.proofs.lemmas.Bool.Decides.{nat_tests}
use Rattle.device_data.specs.declared.log_page.Failure.{Failure}
use Rattle.locking.specs.declared.range.Op.TheVariants.{Read, Write}
use Rattle.locking.specs.declared.ranges.Verdict.{Verdict}
use Rattle.locking.specs.declared.ranges.Verdict.TheVariants.{Serve, Shadow, Denied}
use Rattle.trusted_cmds.specs.declared.command.Command.{Command}
use Rattle.trusted_cmds.specs.declared.command.Command.TheVariants as commands
use Rattle.trusted_cmds.specs.Commands.{tag_with}
use Rattle.history.specs.Decisions.{not_found, fails, on_drive, verdict_on, unqueued_by, completed_by, unqueued_of}
use Rattle.history.specs.Events.{Wrote, did, Event, or_else, latest}
use Rattle.history.specs.Items.{Items}
use Rattle.history.specs.Answers.{data_read_of}
use Rattle.history.specs.Facts.{Facts}
use Rattle.history.specs.Opening.{Origin}
use Rattle.shadow_mbr.specs.Stored.{zeros}
use Rattle.history.specs.Readers.{part_of, writing, sector}
use Rattle.port_history.specs.declared.request.Answer.{Answer}
use Rattle.port_history.specs.declared.request.Answer.TheVariants as answers
use Rattle.port_history.specs.declared.stages.Put.{Put}
use Rattle.port_history.specs.declared.stages.Stage.{Stage}
use Rattle.port_history.specs.declared.stages.Stage.TheVariants.{Free, Prepared, Issued, Accepted, Answered}
use Rattle.port_history.specs.declared.step.Step.{Step}
use Rattle.port_history.specs.declared.step.Step.TheVariants as steps
use Rattle.port_history.specs.Refusals.{AreLawful}
use Rattle.port_history.specs.Stages.{is_queued_command, is_pending, to, recovered, stage_after_reset}
use Rattle.port_history.specs.Steps.{Effect, Moment, events, stage, failed, is_tag, payload, put_of, answer, accept_payload, recovered_answer, trace_of}
use Rattle.port_history.proofs.Fises.{brought}
use Rattle.port_history.proofs.Kept.{Kept, accept_moment, complete_moment, accepted_moves, executed_moves}
use Rattle.port_history.proofs.KeptLaw.{kept, accept_is, accepted_effect, complete_is, completed_effect, fit_issued, fit_accepted, accepted_moves as completion_moves, found}
use Rattle.port_history.proofs.Tests.{none_is, some_is, was_true, none_holds, tests_of, issued_is, accepted_is}
use Rattle.headline.specs.Steps.{past_of, facts_after, through_move}
use Rattle.headline.specs.Transfers.{Transfer, transfer_of, HaveData}
use Rattle.headline.proofs.Came.{executed}
use Rattle.headline.proofs.KeptTransfers.{this_if, other_if, skips, takes, itself, unqueued_event, executed_now}
use Rattle.audit.specs.declared.rules.rule.Rule.TheVariants.{BeyondDrive}

-- A write that is done has its data in media after those events.
abbrev pub Lands : List Event → Transfer → List ℕ → Option Answer → Type 0
Lands after x content a =
    x.op ≡ Write → (bytes : List ℕ) → a ≡ Some (answers.Done bytes) → HaveData after x content

abbrev pub HasLanded : List Event → Command → List ℕ → Option Answer → Type 0
HasLanded after command content a = IfSome (transfer_of command) (λ x. Lands after x content a)

abbrev pub LandedOf : List Event → List ℕ → Option Answer → Stage → Type 0
LandedOf after content a Free = Unit {0}
LandedOf after content a (Prepared put) = Unit {0}
LandedOf after content a (Issued put) = Unit {0}
LandedOf after content a (Accepted put) = Unit {0}
LandedOf after content a (Answered put) = HasLanded after put.command content a

pub record Landed (after : List Event) (content : List ℕ) (a : Option Answer) (s : Stage) : Type 0 where
  pub it : LandedOf after content a s

pub landed_by : {after after' : List Event} {content content' : List ℕ} {a a' : Option Answer} {s s' : Stage}
    → after' ≡ after → content' ≡ content → a' ≡ a → s' ≡ s → Landed after content a s → Landed after' content' a' s'
landed_by ea ed eb es k = rw (ea, ed, eb, es) k

abbrev pub LandedAt : (items : Items) → Origin → List Step → ℕ → Type 0
LandedAt items o list tag =
    Landed (past_of items o (through_move list tag)) (payload (trace_of items o list) tag) (answer (trace_of items o list) tag)
    (stage (trace_of items o list) tag)

-- an answer that is none of Done
not_done : (after : List Event) (command : Command) (content : List ℕ) (a : Option Answer)
    → ((bytes : List ℕ) → a ≡ Some (answers.Done bytes) → ⊥) → HasLanded after command content a
not_done after command content a no_bytes = by_transfer (transfer_of command)
  where
    by_transfer : (t : Option Transfer) → IfSome t (λ x. Lands after x content a)
    by_transfer None = tt
    by_transfer (Some x) = λ w bytes e. absurd (no_bytes bytes e)

was_reset : (bytes : List ℕ) → Some answers.Reset ≡ Some (answers.Done bytes) → ⊥
was_reset bytes e = cc

has_failed : (status error : ℕ) (bytes : List ℕ)
    → Some (answers.Failed status error) ≡ Some (answers.Done bytes) → ⊥
has_failed status error bytes e = cc

-- Put, Take, Issue.
landed_put : (b : Bool) (put : Put) (new : List ℕ) {after : List Event} {content : List ℕ} {a : Option Answer} {s : Stage}
    → Landed after content a s
    → Landed after (unwrap_or (if b then Some new else None) content) (unwrap_or (if b then Some None else None) a)
    (if b then Prepared put else s)
landed_put true put new k = record { it = tt }
landed_put false put new k = k

landed_take : (b : Bool) {after : List Event} {content : List ℕ} {a : Option Answer} {s : Stage}
    → Landed after content a s
    → Landed after content (unwrap_or (if b then Some None else None) a) (if b then Free else s)
landed_take true k = record { it = tt }
landed_take false k = k

landed_issue : (b : Bool) (after : List Event) (content : List ℕ) (a : Option Answer) (s : Stage)
    → Landed after content a s → Landed after content a (if b then to Issued s else s)
landed_issue true after content a Free k = record { it = tt }
landed_issue true after content a (Prepared put) k = record { it = tt }
landed_issue true after content a (Issued put) k = record { it = tt }
landed_issue true after content a (Accepted put) k = record { it = tt }
landed_issue true after content a (Answered put) k = record { it = tt }
landed_issue false after content a s k = k

-- Recover and Reset.
landed_recover : (b : Bool) (f : Failure) (after : List Event) (content : List ℕ) (a : Option Answer) (s : Stage)
    → Landed after content a s
    → Landed after content (unwrap_or (if b then recovered_answer (Some f) else None) a) (recovered b s)
landed_recover b f after content a Free k = record { it = tt }
landed_recover b f after content a (Prepared put) k = record { it = tt }
landed_recover true f after content a (Issued put) k =
    record { it = not_done after put.command content _ (has_failed 0x51 f.error) }
landed_recover false f after content a (Issued put) k = record { it = tt }
landed_recover true f after content a (Accepted put) k =
    record { it = not_done after put.command content _ (has_failed 0x51 f.error) }
landed_recover false f after content a (Accepted put) k = record { it = tt }
landed_recover true f after content a (Answered put) k =
    record { it = not_done after put.command content _ (has_failed 0x51 f.error) }
landed_recover false f after content a (Answered put) k = k

landed_reset : (after : List Event) (content : List ℕ) (a : Option Answer) (s : Stage) → Landed after content a s
    → Landed after content (unwrap_or (if is_pending s then Some (Some answers.Reset) else None) a) (stage_after_reset s)
landed_reset after content a Free k = record { it = tt }
landed_reset after content a (Prepared put) k = record { it = not_done after put.command content _ was_reset }
landed_reset after content a (Issued put) k = record { it = not_done after put.command content _ was_reset }
landed_reset after content a (Accepted put) k = record { it = not_done after put.command content _ was_reset }
landed_reset after content a (Answered put) k = k

-- The sectors behind an act that moves data.
inside : (lba k count : ℕ) (content : List ℕ) → length content ≡ 512 * count → k < count
    → (nat_le lba (lba + k) && nat_lt (lba + k) (lba + length content / 512)) ≡ true
inside lba k count content long below =
    let whole : length content / 512 ≡ count = omega (arith, long) in
    rw (whole) (by_numbers (grind (arith, nat_tests)) (grind (arith, nat_tests, below)))
  where
    by_numbers : nat_le lba (lba + k) ≡ true → nat_lt (lba + k) (lba + count) ≡ true
        → (nat_le lba (lba + k) && nat_lt (lba + k) (lba + count)) ≡ true
    by_numbers a b = rw (a, b) refl

lands_at : (e : Event) (past : List Event) (lba k count : ℕ) (content : List ℕ)
    → writing (lba + k) e.deed ≡ part_of (lba + k) lba content → length content ≡ 512 * count → k < count
    → sector (e ∷ past) (lba + k) ≡ take 512 (drop (512 * k) content)
lands_at e past lba k count content is long below =
    ap (λ (x : Option (List ℕ)). unwrap_or (or_else x (latest (writing (lba + k)) past)) zeros)
    (is ∙ ap (λ (b : Bool). if b then Some (take 512 (drop (512 * (lba + k - lba)) content)) else None)
    (inside lba k count content long below))
    ∙ ap (λ (n : ℕ). take 512 (drop (512 * n) content)) back
  where
    back : lba + k - lba ≡ k
    back = omega arith

-- an unqueued write
wrote_lands : (past : List Event) (lba count : ℕ) (content : List ℕ) (on : Bool) (v : Verdict)
    → length content ≡ 512 * count → (given bytes : List ℕ)
    → Some (executed (if on then unqueued_by (Wrote lba content) v else fails not_found None (Some BeyondDrive)) given)
    ≡ Some (answers.Done bytes)
    → HaveData ((if on then unqueued_by (Wrote lba content) v else fails not_found None (Some BeyondDrive)) ∷ past)
    (record { op = Write; lba = lba; count = count }) content
wrote_lands past lba count content false v long given bytes e = absurd (has_failed 0x51 0x10 bytes e)
wrote_lands past lba count content true (Denied why) long given bytes e = absurd (has_failed 0x51 0x04 bytes e)
wrote_lands past lba count content true Serve long given bytes e =
    λ k below. lands_at (did (Wrote lba content)) past lba k count content refl long below
wrote_lands past lba count content true Shadow long given bytes e =
    λ k below. lands_at (did (Wrote lba content)) past lba k count content refl long below

executed_lands : (items : Items) (f : Facts) (past : List Event) (content given : List ℕ) (command : Command)
    → is_queued_command command ≡ false → length content ≡ brought command
    → HasLanded (unqueued_of items f content (read_as command) ∷ past) command content
    (Some (executed (unqueued_of items f content (read_as command)) given))
executed_lands items f past content given (commands.ReadQueued lba count) unqueued_is long = absurd (cc)
executed_lands items f past content given (commands.WriteQueued lba count) unqueued_is long = absurd (cc)
executed_lands items f past content given (commands.ReadDma lba count) unqueued_is long = λ w. absurd (no_write w)
  where
    no_write : Read ≡ Write → ⊥
    no_write e = cc
executed_lands items f past content given (commands.WriteDma lba count) unqueued_is long =
    λ w bytes e. wrote_lands past lba count content (on_drive f lba count) (verdict_on f Write lba count) long given bytes e
executed_lands items f past content given (commands.Send protocol com_id blocks dma) unqueued_is long = tt
executed_lands items f past content given (commands.Receive protocol com_id blocks dma) unqueued_is long = tt
executed_lands items f past content given commands.Identify unqueued_is long = tt
executed_lands items f past content given (commands.ReadLog10 dma) unqueued_is long = tt
executed_lands items f past content given commands.Flush unqueued_is long = tt
executed_lands items f past content given (commands.SetFeatures feature) unqueued_is long = tt
executed_lands items f past content given (commands.ReadLog page dma) unqueued_is long = tt
executed_lands items f past content given (commands.ReadPio lba count) unqueued_is long = tt
executed_lands items f past content given (commands.WritePio lba count) unqueued_is long = tt
executed_lands items f past content given (commands.Verify lba count) unqueued_is long = tt
executed_lands items f past content given (commands.Trim blocks) unqueued_is long = tt
executed_lands items f past content given (commands.Control control) unqueued_is long = tt

-- a completion
completed_lands : (u : ℕ) (past : List Event) (content : List ℕ) (a : Option Answer) (command : Command)
    → is_queued_command command ≡ true → length content ≡ brought command
    → HasLanded (completed_by u content command ∷ past) command content a
completed_lands u past content a (commands.ReadQueued lba count) queued long = λ w. absurd (no_write w)
  where
    no_write : Read ≡ Write → ⊥
    no_write e = cc
completed_lands u past content a (commands.WriteQueued lba count) queued long =
    λ w bytes e k below. lands_at (completed_by u content (commands.WriteQueued lba count)) past lba k count content refl long below
completed_lands u past content a (commands.ReadDma lba count) queued long = absurd (cc)
completed_lands u past content a (commands.WriteDma lba count) queued long = absurd (cc)
completed_lands u past content a (commands.Send protocol com_id blocks dma) queued long = tt
completed_lands u past content a (commands.Receive protocol com_id blocks dma) queued long = tt
completed_lands u past content a commands.Identify queued long = tt
completed_lands u past content a (commands.ReadLog10 dma) queued long = tt
completed_lands u past content a commands.Flush queued long = tt
completed_lands u past content a (commands.SetFeatures feature) queued long = tt
completed_lands u past content a (commands.ReadLog page dma) queued long = tt
completed_lands u past content a (commands.ReadPio lba count) queued long = tt
completed_lands u past content a (commands.WritePio lba count) queued long = tt
completed_lands u past content a (commands.Verify lba count) queued long = tt
completed_lands u past content a (commands.Trim blocks) queued long = tt
completed_lands u past content a (commands.Control control) queued long = tt

split : (items : Items) (o : Origin) (list : List Step) (u : ℕ) → LandedAt items o list u
    → ((t : ℕ) → (u == t) ≡ false → LandedAt items o list t) → (t : ℕ) → LandedAt items o list t
split items o list u self other t = elim (cases_eq u t) [
  | inl same ↦ subst (λ (k : ℕ). LandedAt items o list k) same self
  | inr apart ↦ other t (ne_eqb u t apart)
]

abbrev AtMoment : List Moment → Moment → ℕ → Type 0
AtMoment ms m u = Landed (events (m ∷ ms)) (payload (m ∷ ms) u) (answer (m ∷ ms) u) (stage (m ∷ ms) u)

accept_self : (items : Items) (still : IsForPorts items) (o : Origin) (before : List Step) (u : ℕ) (put : Put) → u < 32 → Kept (trace_of items o before)
    → failed (trace_of items o before) ≡ None → stage (trace_of items o before) u ≡ Issued put
    → AtMoment (trace_of items o before) (accept_moment u put (accepted_effect items o (trace_of items o before) u put)) u
accept_self items still o before u put lu k mended was = by_kind (is_queued_command put.command) refl
  where
    ms : List Moment
    ms = trace_of items o before

    f : Facts
    f = facts_after items o before

    e : Effect
    e = accepted_effect items o ms u put

    bytes_are : is_queued_command put.command ≡ false → accept_payload put (payload ms u) ≡ payload ms u
    bytes_are unqueued_is = ap (λ (b : Bool). if b then [] else payload ms u) unqueued_is

    by_kind : (b : Bool) → is_queued_command put.command ≡ b → AtMoment ms (accept_moment u put e) u
    by_kind true queued =
        landed_by {s = Accepted put} refl refl refl
        (sym (accepted_moves ms u u put was queued) ∙ this_if (u == u) (Accepted put) (stage ms u) (itself u))
        (record { it = tt })
    by_kind false unqueued_is =
        landed_by {s = Answered put}
        (ap (λ (x : Event). x ∷ events ms) (unqueued_event items still o ms u put lu k mended was unqueued_is
        ∙ ap (λ (bytes : List ℕ). unqueued_of items f bytes (read_as put.command)) (bytes_are unqueued_is)))
        refl
        (takes (u == u) _ (answer ms u) (itself u)
        ∙ ap (λ (b : Bool). unwrap_or (if b then None else Rattle.port_history.specs.Steps.executed_answer (Some e)) (answer ms u)) unqueued_is
        ∙ ap (λ (y : Option (Option Answer)). unwrap_or y (answer ms u))
        (executed_now items still o ms u put lu k mended was unqueued_is
        ∙ ap (λ (bytes : List ℕ). Some (Some (executed (unqueued_of items f bytes (read_as put.command))
        (data_read_of items f (Ok (read_as put.command, tag_with put.command u)))))) (bytes_are unqueued_is)))
        (sym (executed_moves ms u u put was unqueued_is)
        ∙ this_if (u == u) (Answered put) (stage ms u) (itself u))
        (record {
          it = executed_lands items f (events ms) (payload ms u)
              (data_read_of items f (Ok (read_as put.command, tag_with put.command u))) put.command unqueued_is
              (fit_issued ms u put k was).brings;
        })

landed_accept : (items : Items) (still : IsForPorts items) (o : Origin) (before : List Step) (u : ℕ) (put : Put) → u < 32 → Kept (trace_of items o before)
    → failed (trace_of items o before) ≡ None → stage (trace_of items o before) u ≡ Issued put
    → ((t : ℕ) → LandedAt items o before t) → (t : ℕ) → LandedAt items o (steps.Accept u ∷ before) t
landed_accept items still o before u put lu k mended was all =
    split items o (steps.Accept u ∷ before) u
    (landed_by
    (ap (past_of items o) (this_if (u == u) (steps.Accept u ∷ before) (through_move before u) (itself u)))
    refl refl refl
    (subst (λ (m : Moment). AtMoment ms m u) (sym (accept_is items o ms u put was))
    (accept_self items still o before u put lu k mended was)))
    (λ t apart. landed_by
    (ap (past_of items o) (other_if (u == t) (steps.Accept u ∷ before) (through_move before t) apart))
    refl (skips (u == t) _ (answer ms t) apart) (other_if (u == t) _ (stage ms t) apart) (all t))
  where
    ms : List Moment
    ms = trace_of items o before

complete_self : (items : Items) (o : Origin) (before : List Step) (u : ℕ) (put : Put) → Kept (trace_of items o before)
    → failed (trace_of items o before) ≡ None → stage (trace_of items o before) u ≡ Accepted put
    → AtMoment (trace_of items o before) (complete_moment u put (completed_effect items o (trace_of items o before) u)) u
complete_self items o before u put k mended was =
    landed_by {s = Answered put}
    (ap (λ (x : Event). x ∷ events ms) (completion_moves items o ms u put k mended was).event)
    refl refl
    (this_if (u == u) _ (stage ms u) (itself u) ∙ ap (to Answered) was)
    (record {
      it = completed_lands u (events ms) (payload ms u) _ put.command
          (fit_accepted ms u put k was).queued (fit_accepted ms u put k was).fit.brings;
    })
  where
    ms : List Moment
    ms = trace_of items o before

landed_complete : (items : Items) (o : Origin) (before : List Step) (u : ℕ) (put : Put) → Kept (trace_of items o before)
    → failed (trace_of items o before) ≡ None → stage (trace_of items o before) u ≡ Accepted put
    → ((t : ℕ) → LandedAt items o before t) → (t : ℕ) → LandedAt items o (steps.Complete u ∷ before) t
landed_complete items o before u put k mended was all =
    split items o (steps.Complete u ∷ before) u
    (landed_by
    (ap (past_of items o) (this_if (u == u) (steps.Complete u ∷ before) (through_move before u) (itself u)))
    refl refl refl
    (subst (λ (m : Moment). AtMoment ms m u) (sym (complete_is items o ms u put was))
    (complete_self items o before u put k mended was)))
    (λ t apart. landed_by
    (ap (past_of items o) (other_if (u == t) (steps.Complete u ∷ before) (through_move before t) apart))
    refl (skips (u == t) _ (answer ms t) apart) (other_if (u == t) _ (stage ms t) apart) (all t))
  where
    ms : List Moment
    ms = trace_of items o before

-- Every lawful list.
pub landed : (items : Items) (still : IsForPorts items) (o : Origin) (list : List Step) → AreLawful items o list → (t : ℕ) → LandedAt items o list t
landed items still o [] h t = record { it = tt }
landed items still o (steps.Put client u request ∷ before) h t =
    landed_put (u == t) (put_of _ client request) _ (landed items still o before h.2 t)
landed items still o (steps.Issue u ∷ before) h t =
    landed_issue (u == t) _ _ _ (stage (trace_of items o before) t) (landed items still o before h.2 t)
landed items still o (steps.Accept u ∷ before) h t =
    let ms = trace_of items o before in
    let x = none_holds (tests_of ms (steps.Accept u)) h.1 in
    let p = issued_is (stage ms u) x.1.1.0 in
    landed_accept items still o before u p.0 (ltb-true u 32 h.0) (kept items still o before h.2) (none_is (failed ms) x.1.0) p.1
    (landed items still o before h.2) t
landed items still o (steps.Complete u ∷ before) h t =
    let ms = trace_of items o before in
    let x = none_holds (tests_of ms (steps.Complete u)) h.1 in
    let p = accepted_is (stage ms u) x.1.1.0 in
    landed_complete items o before u p.0 (kept items still o before h.2) (none_is (failed ms) x.1.0) p.1 (landed items still o before h.2) t
landed items still o (steps.Recover ∷ before) h t =
    let ms = trace_of items o before in
    let x = none_holds (tests_of ms steps.Recover) h.1 in
    let f = some_is (failed ms) (was_true _ x.1.0) in
    let y = found ms f.0 (kept items still o before h.2) f.1 in
    landed_by refl refl
    (ap (λ (z : Option Failure). unwrap_or (if is_tag t (failed ms) then recovered_answer z else None) (answer ms t)) y.failing)
    refl
    (landed_recover (is_tag t (failed ms)) y.found _ _ (answer ms t) (stage ms t) (landed items still o before h.2 t))
landed items still o (steps.Reset client kind ∷ before) h t =
    landed_reset _ _ _ (stage (trace_of items o before) t) (landed items still o before h.2 t)
landed items still o (steps.Take client u ∷ before) h t = landed_take (u == t) (landed items still o before h.2 t)

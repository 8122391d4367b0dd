-- Every lawful list of steps keeps it, and what its acts are.
use Rattle.std.proofs.Common.{◌≡◌, ◌∙◌, ℕ, ◌*◌, ◌≤◌, ◌<◌, not, Bool, true, false, List, [], ◌∷◌, length, Option, Some, None, refl, sym, ap, subst, arith, inl, inr}
use Rattle.std.specs.Prelude.{is_some, option_map, Ok}
use Rattle.std.proofs.lemmas.Bool.{cases_eq, ltb-true}
use Rattle.fis.specs.declared.h2d.RegH2d.{RegH2d}
use Rattle.device_data.specs.declared.log_page.Failure.{Failure}
use Rattle.trusted_cmds.specs.declared.command.Command.{Command}
use Rattle.trusted_cmds.specs.Commands.{sector_size}
use Rattle.history.specs.Opening.{Origin}
use Rattle.history.specs.Events.{HeldCommand, Event}
use Rattle.history.specs.Items.{Items}
use Rattle.history.specs.Tcg.{tcg}
use Rattle.history.specs.Facts.{facts}
use Rattle.history.specs.Decisions.{is_busy, completed, completed_by}
use Rattle.history.specs.Answers.{fises_of}
use Rattle.history.specs.History.{Act, Accept as AcceptFis, Complete as CompleteTag}
use Rattle.history.specs.Readers.{held, failure}
use Rattle.port_history.specs.declared.stages.Put.{Put}
use Rattle.port_history.specs.declared.stages.Stage.{Stage}
use Rattle.port_history.specs.declared.stages.Stage.TheVariants.{Free, Prepared, Issued, Accepted, Answered}
use Rattle.port_history.specs.declared.step.Step.{Step}
use Rattle.port_history.specs.declared.step.Step.TheVariants as steps
use Rattle.port_history.specs.Requests.{command_fis, log_fis, bytes_moved, most_blocks}
use Rattle.port_history.specs.Stages.{is_queued_command, is_out, put_at}
use Rattle.port_history.specs.Steps.{Effect, Moment, trace, events, stage, failed, payload, acceptance, accept_payload, effect_in, moment_of, trace_of}
use Rattle.port_history.specs.Refusals.{AreLawful}
use Rattle.port_history.specs.Laws.{NeverMixes, FailureLaw, IsUnmixed, IsSized, IsForPorts, read_as}
use Rattle.port_history.proofs.Fises.{fis_back, read_as-queued, read_as-tag}
use Rattle.port_history.proofs.Sizes.{sector_length, held-fits}
use Rattle.port_history.proofs.Acted.{tcg_for_ports, IsExecuted, IsHeldOrFailed, IsHeld, IsFailed, mended_effect, queued_effect, executed_effect, executed_bytes, mends, reads_bytes, commands_of}
use Rattle.port_history.proofs.Tests.{none_below, none_is, some_is, was_true, none_holds, tests_of, free_is, prepared_is, issued_is, accepted_is, answered_is}
use Rattle.port_history.proofs.Kept.{Kept, FitsStage, IsFit, IsHere, held_by, is_single, command_held, tag_failed, as_tag, issued_quiet, accept_moment, complete_moment, recover_moment, kept_put, kept_issue, kept_take, kept_held, kept_failed, kept_executed, kept_complete, kept_recover, kept_reset}

-- The moments of the acts.

abbrev pub accepted_effect : (items : Items) → Origin → List Moment → ℕ → Put → Effect
accepted_effect items o ms u put =
    effect_in items (facts o (events ms))
    (AcceptFis (command_fis put.command u) (accept_payload put (payload ms u)))

abbrev pub completed_effect : (items : Items) → Origin → List Moment → ℕ → Effect
completed_effect items o ms u = effect_in items (facts o (events ms)) (CompleteTag u (payload ms u))

pub accept_is : (items : Items) (o : Origin) (ms : List Moment) (u : ℕ) (put : Put) → stage ms u ≡ Issued put
    → moment_of items o ms (steps.Accept u) ≡ accept_moment u put (accepted_effect items o ms u put)
accept_is items o ms u put was =
    ap
    (λ (p : Option Put). record {
      step = steps.Accept u;
      served = p;
      effect = option_map
          (effect_in items (facts o (events ms))) (acceptance u p (payload ms u));
    })
    (ap put_at was)

pub complete_is : (items : Items) (o : Origin) (ms : List Moment) (u : ℕ) (put : Put) → stage ms u ≡ Accepted put
    → moment_of items o ms (steps.Complete u) ≡ complete_moment u put (completed_effect items o ms u)
complete_is items o ms u put was =
    ap
    (λ (p : Option Put). record {
      step = steps.Complete u;
      served = p;
      effect = Some
          (completed_effect items o ms u);
    })
    (ap put_at was)

-- What the queue keeps, of a port that has not failed.

none_failed : (x : Option Failure) → tag_failed x ≡ None → x ≡ None
none_failed None e = refl
none_failed (Some f) e = absurd cc

none_held : (x : Option HeldCommand) → command_held x ≡ None → x ≡ None
none_held None e = refl
none_held (Some h) e = absurd cc

-- the queue has not failed
pub mended_queue : (ms : List Moment) → Kept ms → failed ms ≡ None → failure (events ms) ≡ None
mended_queue ms k mended = none_failed (failure (events ms)) (k.failure ∙ ap as_tag mended)

-- under a tag that is issued nothing is held
pub free_tag : (ms : List Moment) (u : ℕ) (put : Put) → Kept ms → stage ms u ≡ Issued put
    → held (events ms) u ≡ None
free_tag ms u put k was =
    none_held (held (events ms) u)
    (k.queue u ∙ ap (held_by (failed ms)) was ∙ issued_quiet (failed ms) put)

in_quiet : (f : Option ℕ) (s : Stage) → is_out s ≡ false → held_by f s ≡ None
in_quiet (Some tag) s e = refl
in_quiet None Free e = refl
in_quiet None (Prepared put) e = refl
in_quiet None (Issued put) e = absurd cc
in_quiet None (Accepted put) e = absurd cc
in_quiet None (Answered put) e = refl

-- where a command is issued that is not queued, nothing is held
pub nothing_held : (ms : List Moment) (u : ℕ) (put : Put) → u < 32 → Kept ms
    → stage ms u ≡ Issued put → is_queued_command put.command ≡ false → (t : ℕ)
    → held (events ms) t ≡ None
nothing_held ms u put lu k was unqueued t =
    elim (cases_eq u t) [
      | inl same ↦ subst (λ (n : ℕ). held (events ms) n ≡ None) same (free_tag ms u put k was)
      | inr apart ↦
          none_held (held (events ms) t) (k.queue t ∙ by_out (is_out (stage ms t)) refl apart)
    ]
  where
    single : is_single (stage ms u) ≡ true
    single = ap is_single was ∙ ap not unqueued

    by_out : (b : Bool) → is_out (stage ms t) ≡ b → (u ≡ t → ⊥)
        → held_by (failed ms) (stage ms t) ≡ None
    by_out false is apart = in_quiet (failed ms) (stage ms t) is
    by_out true is apart =
        in_quiet (failed ms) (stage ms t) (k.alone u t lu (k.slots t is) single apart)

pub idle : (o : Origin) (ms : List Moment) (u : ℕ) (put : Put) → u < 32 → Kept ms
    → stage ms u ≡ Issued put → is_queued_command put.command ≡ false
    → is_busy (facts o (events ms)) ≡ false
idle o ms u put lu k was unqueued =
    none_below (λ t. is_some (held (events ms) t)) 32
    (λ t lt. ap is_some (nothing_held ms u put lu k was unqueued t))

pub fit_issued : (ms : List Moment) (u : ℕ) (put : Put) → Kept ms → stage ms u ≡ Issued put
    → IsFit put.command (payload ms u)
fit_issued ms u put k was = subst (λ (s : Stage). FitsStage s (payload ms u)) was (k.fit u)

pub fit_accepted : (ms : List Moment) (u : ℕ) (put : Put) → Kept ms → stage ms u ≡ Accepted put
    → IsHere put.command (payload ms u)
fit_accepted ms u put k was = subst (λ (s : Stage). FitsStage s (payload ms u)) was (k.fit u)

-- An issued command of the queue is held, or fails the queue by its tag.
pub queued_comes : (items : Items) (still : IsForPorts items) (o : Origin) (ms : List Moment) (u : ℕ) (put : Put) → u < 32 → Kept ms
    → failed ms ≡ None → stage ms u ≡ Issued put → is_queued_command put.command ≡ true
    → IsHeldOrFailed u put.command (accepted_effect items o ms u put)
queued_comes items still o ms u put lu k mended was queued =
    queued_effect items still o (events ms) put.command u (accept_payload put (payload ms u)) lu
    (fit_issued ms u put k was).sized queued (mended_queue ms k mended) (free_tag ms u put k was)

-- Another one is executed.
pub unqueued_comes : (items : Items) (still : IsForPorts items) (o : Origin) (ms : List Moment) (u : ℕ) (put : Put) → u < 32 → Kept ms
    → failed ms ≡ None → stage ms u ≡ Issued put → is_queued_command put.command ≡ false
    → IsExecuted (events ms) put.command (accepted_effect items o ms u put)
unqueued_comes items still o ms u put lu k mended was unqueued =
    executed_effect items still o (events ms) put.command u (accept_payload put (payload ms u)) lu
    (fit_issued ms u put k was).sized unqueued (mended_queue ms k mended)
    (idle o ms u put lu k was unqueued) (nothing_held ms u put lu k was unqueued)

kept_accept : (items : Items) (still : IsForPorts items) (o : Origin) (ms : List Moment) (u : ℕ) (put : Put) → u < 32 → Kept ms
    → failed ms ≡ None → stage ms u ≡ Issued put → Kept (moment_of items o ms (steps.Accept u) ∷ ms)
kept_accept items still o ms u put lu k mended was =
    rw (accept_is items o ms u put was) (by_kind (is_queued_command put.command) refl)
  where
    by_effect : (e : Effect) → is_queued_command put.command ≡ true → IsHeldOrFailed u put.command e
        → Kept (accept_moment u put e ∷ ms)
    by_effect e queued (IsHeld v made) = rw made (kept_held ms u put v lu k mended was queued)
    by_effect e queued (IsFailed error denied made) =
        rw made (kept_failed ms u put error denied lu k was queued)

    by_kind : (b : Bool) → is_queued_command put.command ≡ b
        → Kept (accept_moment u put (accepted_effect items o ms u put) ∷ ms)
    by_kind true queued =
        by_effect (accepted_effect items o ms u put) queued
        (queued_comes items still o ms u put lu k mended was queued)
    by_kind false unqueued =
        kept_executed ms u put (accepted_effect items o ms u put) lu k was unqueued
        (unqueued_comes items still o ms u put lu k mended was unqueued)

-- What is held under a tag that is accepted.

held_is : (x : Option HeldCommand) (command : Command) → command_held x ≡ Some command
    → (h : HeldCommand) × (x ≡ Some h) × (h.command ≡ command)
held_is None command e = absurd cc
held_is (Some h) command e = (h, refl, cc)

pub accepted_held : (ms : List Moment) (u : ℕ) (put : Put) → Kept ms → failed ms ≡ None
    → stage ms u ≡ Accepted put
    → (h : HeldCommand) × (held (events ms) u ≡ Some h) × (h.command ≡ put.command)
accepted_held ms u put k mended was =
    held_is (held (events ms) u) put.command
    (k.queue u ∙ ap (λ (f : Option ℕ). held_by f (stage ms u)) mended ∙ ap (held_by None) was)

-- The completion of a command moves its data.
pub record IsMoved (tag : ℕ) (command : Command) (brought : List ℕ) (e : Effect) : Type 0 where
  pub event : e.event ≡ completed_by tag brought command
  pub fises : e.fises ≡ fises_of tag command
  pub bytes : length e.bytes ≤ bytes_moved command

abbrev effect_on : Origin → List Event → ℕ → List ℕ → Option HeldCommand → Effect
effect_on o past u bytes x = record {
  event = completed u bytes x;
  fises = Rattle.history.specs.Answers.completed_fises u x;
  bytes = Rattle.history.specs.Answers.completed_data (facts o past) x;
}

pub accepted_moves : (items : Items) (o : Origin) (ms : List Moment) (u : ℕ) (put : Put) → Kept ms
    → failed ms ≡ None → stage ms u ≡ Accepted put
    → IsMoved u put.command (payload ms u) (completed_effect items o ms u)
accepted_moves items o ms u put k mended was =
    let h = accepted_held ms u put k mended was in
    rw (h.1) (by_command h.0 put.command h.2)
  where
    by_command : (h : HeldCommand) (command : Command) → h.command ≡ command
        → IsMoved u command (payload ms u) (effect_on o (events ms) u (payload ms u) (Some h))
    by_command h command same = record {
      event = ap (completed_by u (payload ms u)) same;
      fises = ap (fises_of u) same;
      bytes =
          subst (λ (c : Command). length (effect_on o (events ms) u (payload ms u)
          (Some h)).bytes ≤ bytes_moved c) same
          (held-fits (facts o (events ms)) h.command h.verdict (sector_length (events ms)));
    }

-- A port that has failed names the tag of the queue's failure.
pub record IsFound (ms : List Moment) (tag : ℕ) : Type 0 where
  pub found : Failure
  pub failing : failure (events ms) ≡ Some found
  pub names : found.tag ≡ Some tag
  pub low : tag < 32

found_is : (x : Option Failure) (tag : ℕ) → tag_failed x ≡ Some (Some tag)
    → (f : Failure) × (x ≡ Some f) × (f.tag ≡ Some tag)
found_is None tag e = absurd cc
found_is (Some f) tag e = (f, refl, cc)

pub found : (ms : List Moment) (tag : ℕ) → Kept ms → failed ms ≡ Some tag → IsFound ms tag
found ms tag k was =
    let f = found_is (failure (events ms)) tag (k.failure ∙ ap as_tag was) in
    record { found = f.0; failing = f.1; names = f.2; low = k.low tag was }

pub recover_is : (items : Items) (still : IsForPorts items) (o : Origin) (ms : List Moment) (f : Failure) → failure (events ms) ≡ Some f
    → moment_of items o ms steps.Recover ≡ recover_moment (mended_effect (Some f))
recover_is items still o ms f is =
    ap
    (λ (e : Effect). record { step = steps.Recover; served = None; effect = Some e })
    (mends items still o (events ms) f is)

-- No act gives more than a transfer of the port has.
most : (command : Command) (n : ℕ) → IsSized command → n ≤ bytes_moved command
    → n ≤ sector_size * most_blocks
most command n sized le = omega (arith, sized.most, le)

pub accepted_bytes : (o : Origin) (ms : List Moment) (u : ℕ) (put : Put) → u < 32 → Kept ms
    → failed ms ≡ None → stage ms u ≡ Issued put
    → length (accepted_effect tcg o ms u put).bytes ≤ sector_size * most_blocks
accepted_bytes o ms u put lu k mended was = by_kind (is_queued_command put.command) refl
  where
    by_effect : (e : Effect) → IsHeldOrFailed u put.command e
        → length e.bytes ≤ sector_size * most_blocks
    by_effect e (IsHeld v made) =
        subst (λ (x : Effect). length x.bytes ≤ sector_size * most_blocks) (sym made) (omega arith)
    by_effect e (IsFailed error denied made) =
        subst (λ (x : Effect). length x.bytes ≤ sector_size * most_blocks) (sym made) (omega arith)

    by_kind : (b : Bool) → is_queued_command put.command ≡ b
        → length (accepted_effect tcg o ms u put).bytes ≤ sector_size * most_blocks
    by_kind true queued =
        by_effect (accepted_effect tcg o ms u put) (queued_comes tcg tcg_for_ports o ms u put lu k mended was queued)
    by_kind false unqueued =
        most put.command (length (accepted_effect tcg o ms u put).bytes)
        (fit_issued ms u put k was).sized
        (executed_bytes o (events ms) put.command u (accept_payload put (payload ms u)) lu
        (fit_issued ms u put k was).sized unqueued)

pub completed_bytes : (o : Origin) (ms : List Moment) (u : ℕ) (put : Put) → Kept ms
    → failed ms ≡ None → stage ms u ≡ Accepted put
    → length (completed_effect tcg o ms u).bytes ≤ sector_size * most_blocks
completed_bytes o ms u put k mended was =
    most put.command (length (completed_effect tcg o ms u).bytes)
    (fit_accepted ms u put k was).fit.sized
    (accepted_moves tcg o ms u put k mended was).bytes

-- Every lawful list keeps it.
pub kept : (items : Items) (still : IsForPorts items) (o : Origin) (list : List Step) → AreLawful items o list → Kept (trace_of items o list)
kept items still o [] h = record {
  queue = λ t. refl;
  failure = refl;
  fit = λ t. tt;
  alone = λ tag other lt lo single apart. refl;
  low = λ t e. absurd (none_some t e);
  slots = λ t e. absurd cc;
}
  where
    none_some : (t : ℕ) → ◌≡◌ {A = Option ℕ} None (Some t) → ⊥
    none_some t e = cc
kept items still o (steps.Put client u request ∷ before) h =
    let ms = trace_of items o before in
    let t = none_holds (tests_of ms (steps.Put client u request)) h.1 in
    kept_put ms client u request (ltb-true u 32 h.0) (kept items still o before h.2)
    (free_is (stage ms u) t.1.1.0) (was_true _ t.1.0)
kept items still o (steps.Issue u ∷ before) h =
    let ms = trace_of items o before in
    let t = none_holds (tests_of ms (steps.Issue u)) h.1 in
    let p = prepared_is (stage ms u) t.1.1.0 in
    kept_issue ms u p.0 (ltb-true u 32 h.0) (kept items still o before h.2) p.1 t.1.1.1.0
kept items still o (steps.Accept u ∷ before) h =
    let ms = trace_of items o before in
    let t = none_holds (tests_of ms (steps.Accept u)) h.1 in
    let p = issued_is (stage ms u) t.1.1.0 in
    kept_accept items still o ms u p.0 (ltb-true u 32 h.0) (kept items still o before h.2) (none_is (failed ms) t.1.0) p.1
kept items still o (steps.Complete u ∷ before) h =
    let ms = trace_of items o before in
    let t = none_holds (tests_of ms (steps.Complete u)) h.1 in
    let p = accepted_is (stage ms u) t.1.1.0 in
    let k = kept items still o before h.2 in
    let mended = none_is (failed ms) t.1.0 in
    rw (complete_is items o ms u p.0 p.1)
    (kept_complete ms u p.0 (completed_effect items o ms u) (payload ms u) (ltb-true u 32 h.0) k mended
    p.1 (accepted_moves items o ms u p.0 k mended p.1).event)
kept items still o (steps.Recover ∷ before) h =
    let ms = trace_of items o before in
    let t = none_holds (tests_of ms steps.Recover) h.1 in
    let k = kept items still o before h.2 in
    let f = some_is (failed ms) (was_true _ t.1.0) in
    let x = found ms f.0 k f.1 in
    rw (recover_is items still o ms x.found x.failing) (kept_recover ms f.0 x.found k f.1)
kept items still o (steps.Reset client kind ∷ before) h =
    kept_reset (trace_of items o before) client kind (kept items still o before h.2)
kept items still o (steps.Take client u ∷ before) h =
    let ms = trace_of items o before in
    let t = none_holds (tests_of ms (steps.Take client u)) h.1 in
    let p = answered_is (stage ms u) t.1.0 in
    kept_take ms client u p.0 (ltb-true u 32 h.0) (kept items still o before h.2) p.1

-- The drive's failure is the port's.
pub failure_law : FailureLaw
failure_law o list h = (kept tcg tcg_for_ports o list h).failure

-- The port never mixes queues.

same_fis : (fis bytes fis' bytes' : List ℕ)
    → ◌≡◌ {A = Option Act} (Some (AcceptFis fis bytes)) (Some (AcceptFis fis' bytes'))
    → fis ≡ fis'
same_fis fis bytes fis' bytes' e = cc

unmixed_fis : (o : Origin) (ms : List Moment) (u : ℕ) (put : Put) → u < 32 → Kept ms
    → failed ms ≡ None → stage ms u ≡ Issued put
    → IsUnmixed o (events ms) (command_fis put.command u)
unmixed_fis o ms u put lu k mended was = record {
  tag = u;
  command = read_as put.command;
  mended = mended_queue ms k mended;
  kind = refl;
  carries =
      reads_bytes tcg tcg_for_ports o.tables.config put.command u lu (fit_issued ms u put k was).sized
      ∙ ap (λ (t : Option ℕ). Ok (read_as put.command, t)) (sym (read_as-tag put.command u));
  is_command =
      ap (λ (h : RegH2d). h.is_command) (fis_back put.command u) ∙ commands_of put.command u;
  free = λ queued. free_tag ms u put k was;
  alone = λ unqueued. idle o ms u put lu k was (sym (read_as-queued put.command) ∙ unqueued);
}

pub never_mixes : NeverMixes
never_mixes o (steps.Put client u request) before h fis payload e = absurd cc
never_mixes o (steps.Issue u) before h fis payload e = absurd cc
never_mixes o (steps.Accept u) before h fis bytes e =
    let ms = trace o before in
    let t = none_holds (tests_of ms (steps.Accept u)) h.1 in
    let p = issued_is (stage ms u) t.1.1.0 in
    let same : command_fis p.0.command u ≡ fis =
    same_fis (command_fis p.0.command u) (accept_payload p.0 (payload ms u)) fis bytes
    (ap (λ (x : Option Put). acceptance u x (payload ms u)) (ap put_at (sym p.1)) ∙ e) in
    inl (subst (λ (xs : List ℕ). IsUnmixed o (events ms) xs) same
    (unmixed_fis o ms u p.0 (ltb-true u 32 h.0) (kept tcg tcg_for_ports o before h.2)
    (none_is (failed ms) t.1.0) p.1))
never_mixes o (steps.Complete u) before h fis payload e = absurd cc
never_mixes o steps.Recover before h fis payload e =
    let ms = trace o before in
    let t = none_holds (tests_of ms steps.Recover) h.1 in
    let f = some_is (failed ms) (was_true _ t.1.0) in
    let x = found ms f.0 (kept tcg tcg_for_ports o before h.2) f.1 in
    inr (record { failed = ap is_some x.failing; reads = sym (same_fis log_fis [] fis payload e) })
never_mixes o (steps.Reset client kind) before h fis payload e = absurd cc
never_mixes o (steps.Take client u) before h fis payload e = absurd cc

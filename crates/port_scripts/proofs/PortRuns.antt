-- What a step of a port script leaves of its port.
use Rattle.std.proofs.Common.{◌≡◌, ℕ, ◌+◌, ◌-◌, ◌<◌, ◌≤◌, Bool, true, false, List, [], ◌∷◌, ◌++◌, length, reverse, Option, Some, None, Result, Ok, Err, OnOk, OnErr, IfOk, refl, sym, ap, subst, ◌∙◌, append_assoc, inl, inr, arith, le-ltb, lt-ltb, ltb-true}
use Rattle.std.specs.Prelude.{if◌then◌else◌, is_some, nat_lt, not, slice_get, unwrap_or}
use Rattle.std.proofs.lemmas.List.{append-nil, reverse-append, length-append, length-reverse}
use Rattle.std.proofs.lemmas.Option.{slice_get_past, slice_get_read}
use Rattle.std.proofs.Math.Seq.{get_or-append_seam}
use Rattle.audit.specs.declared.reason.AuditLine.{AuditLine}
use Rattle.audit.specs.declared.reason.Why.{Why}
use Rattle.history.specs.Opening.{Origin}
use Rattle.port_scripts.specs.PortReasons.{denied_in, line_denial}
use Rattle.fis.specs.Tags.{slot_count}
use Rattle.port.specs.Answers.{stage_at}
use Rattle.port.specs.Live.{LiveAgrees, LiveState, MakesStep, NumbersStep, RefusesStep, latest_line, line_kept, most_lines}
use Rattle.port.proofs.Living.{line_told, told_log}
use Rattle.port_history.specs.Refusals.{refusal, refusal_by, refusal_with_room, most_steps, IsRefusedBy}
use Rattle.port_history.specs.Requests.{no_bytes}
use Rattle.port_history.specs.Stages.{put_at}
use Rattle.history.specs.Audit.{line_for}
use Rattle.port_history.specs.Steps.{Effect, Moment, moment, trace, stage, answer, audit, failed, line_of, client_of}
use Rattle.port_history.specs.declared.error.PortError.{PortError}
use Rattle.port_history.specs.declared.error.PortError.TheVariants.{HistoryFull}
use Rattle.port_history.specs.declared.request.Answer.{Answer}
use Rattle.port_history.specs.declared.stages.Put.{Put}
use Rattle.port_history.specs.declared.stages.Stage.{Stage}
use Rattle.port_history.specs.declared.step.Step.{Step}
use Rattle.port_history.specs.declared.step.Step.TheVariants as steps
use Rattle.script_lines.specs.Texts.{Prints, printed, last_of, done_text, denial_lines}
use Rattle.script_lines.specs.declared.report.Report.{Report}
use Rattle.port_scripts.specs.PortEffects.{PortHas, PortMakes, PortRunsOn, PrintsError, PrintsStep, made_by, refusal_in, refused_lines, step_lines, stepped, audit_lines, accepted_lines, taken_text}
use Rattle.drive_scripts.proofs.Printed.{prints-then}
use Rattle.port_scripts.specs.declared.port_phase.PortPhase.{PortPhase}

-- lines, and none behind them
prints-none : (before mid after : Report) (lines : List (List ℕ))
    → Prints before mid lines → Prints mid after [] → Prints before after lines
prints-none before mid after lines first second = record {
  pending = second.pending ∙ ap (λ (p : List ℕ). p ++ []) first.pending ∙ simp (append-nil);
  last = second.last ∙ first.last;
}

-- the refusal, where it is one, is printed
abbrev pub Refuses : {A : Type 0} → Result A PortError → Report → Report → Type 0
Refuses (Ok a) before after = Unit {0}
Refuses (Err error) before after = PrintsError error before after

-- a step is done or refused as a rule says
stepped-so : (A : Type 0) (done : Result A PortError) (reason rule : Option PortError)
    (old new : PortPhase) (o : Origin) (list : List Step) (step : Step) (before after : Report)
    → IsRefusedBy rule done → PortRunsOn old o list
    → OnOk done (PortHas new o before after (stepped o list step None))
    → OnErr done (new.port ≡ old.port) → OnErr done (new.made ≡ old.made)
    → Refuses done before after → reason ≡ refusal_in done
    → PortHas new o before after (stepped o list step rule) × (reason ≡ rule)
stepped-so A (Ok a) reason rule old new o list step before after told runs does kept made prints is = (
  subst (λ (r : Option PortError). PortHas new o before after (stepped o list step r))
      (sym told) does,
  is ∙ sym told,
)
stepped-so A (Err error) reason rule old new o list step before after (inl memory) runs does kept
    made prints is =
    absurd (prints.told memory.0)
stepped-so A (Err error) reason rule old new o list step before after (inr so) runs does kept made
    prints is = (
      subst (λ (r : Option PortError). PortHas new o before after (stepped o list step r))
          (sym so) (record {
            runs = record {
              stands = subst (λ (port : LiveState). LiveAgrees port o list) (sym kept) runs.stands;
              made = made ∙ runs.made;
            };
            prints = prints.prints;
          }),
      is ∙ sym so,
    )

-- a port that made a step has made one more
runs-on : (new : PortPhase) (port : LiveState) (o : Origin) (list : List Step) (step : Step) (number : ℕ)
    → LiveAgrees port o (step ∷ list) → number ≡ 1 + length (trace o list) → new.port ≡ port
    → new.made ≡ number → PortRunsOn new o (step ∷ list)
runs-on new port o list step number agrees count at made = record {
  stands = subst (λ (p : LiveState). LiveAgrees p o (step ∷ list)) (sym at) agrees;
  made = omega (arith, made, count);
}

-- a step that prints that it is done
done-so : (done : Result ℕ PortError) (reason : Option PortError) (old new : PortPhase)
    (port : LiveState) (o : Origin) (list : List Step) (step : Step) (before after : Report)
    → done_text ∷ [] ≡ step_lines (trace o list) step (moment o (trace o list) step)
    → RefusesStep old.port step done → MakesStep old.port port step done
    → NumbersStep old.port done → OnErr done (port ≡ old.port) → new.port ≡ port
    → new.made ≡ made_by old.made done → reason ≡ refusal_in done
    → PrintsStep (λ n. done_text) done before after → PortRunsOn old o list
    → PortHas new o before after (stepped o list step (refusal_with_room (trace o list) step))
    × (reason ≡ refusal_with_room (trace o list) step)
done-so (Ok n) reason old new port o list step before after same refused agrees number kept at made
    is prints runs =
    stepped-so ℕ (Ok n) reason (refusal_with_room (trace o list) step) old new o list step before
    after (refused o list runs.stands) runs
    (record {
      runs = runs-on new port o list step n (agrees o list runs.stands)
          (number o list runs.stands) at made;
      prints = subst (λ (lines : List (List ℕ)). Prints before after lines) same prints;
    }) tt tt tt is
done-so (Err error) reason old new port o list step before after same refused agrees number kept at
    made is prints runs =
    stepped-so ℕ (Err error) reason (refusal_with_room (trace o list) step) old new o list step
    before after (refused o list runs.stands) runs tt (at ∙ kept) made prints is

pub told-so : {E : Type 0} (r : Result (Option PortError) E) (done : Result ℕ PortError)
    (old new : PortPhase) (port : LiveState) (step : Step) (before after : Report)
    → ((o : Origin) (list : List Step)
    → done_text ∷ [] ≡ step_lines (trace o list) step (moment o (trace o list) step))
    → RefusesStep old.port step done → MakesStep old.port port step done
    → NumbersStep old.port done → OnErr done (port ≡ old.port)
    → OnOk r (PrintsStep (λ n. done_text) done before after)
    → IfOk r (λ told. told ≡ refusal_in done) → new.port ≡ port
    → OnOk r (new.made ≡ made_by old.made done)
    → IfOk r (PortMakes refusal_with_room step old new before after)
told-so (Ok reason) done old new port step before after same refused agrees number kept prints is at
    made =
    λ o list runs.
    done-so done reason old new port o list step before after (same o list) refused agrees number
    kept at made is prints runs
told-so (Err e) done old new port step before after same refused agrees number kept prints is at
    made =
    tt

-- the line of the audit log that comes behind those before
line-so : (number : ℕ) (served : Option Put) (effect : Option Effect) (past : List AuditLine)
    → audit_lines
    (slice_get (reverse (line_of number served effect ++ past)) (length (reverse past)))
    ≡ accepted_lines number served effect
line-so number served None past =
    ap audit_lines (slice_get_past (reverse past) (length (reverse past)) (omega arith))
line-so number served (Some e) past = by_reason e.event.denied
  where
    by_reason : (why : Option Why)
        → audit_lines (slice_get
        (reverse (line_for number (client_of served) why ++ past)) (length (reverse past)))
        ≡ denial_lines number (client_of served) why
    by_reason None =
        ap audit_lines (slice_get_past (reverse past) (length (reverse past)) (omega arith))
    by_reason (Some why) =
        let x : AuditLine = record { step = number; client = client_of served; why = why } in
        ap audit_lines
        (ap (λ (log : List AuditLine). slice_get log (length (reverse past)))
        (reverse-append (x ∷ []) past)
        ∙ slice_get_read (reverse past ++ x ∷ []) (length (reverse past) + 1)
        (length (reverse past)) x
        (sym (length-append (reverse past) (x ∷ []))) (omega arith)
        (sym (get_or-append_seam (reverse past) x [] x)))

-- at most one line comes with an acceptance
line-short : (number : ℕ) (served : Option Put) (effect : Option Effect)
    → length (line_of number served effect) ≤ 1
line-short number served None = omega arith
line-short number served (Some e) = by_reason e.event.denied
  where
    by_reason : (why : Option Why) → length (line_for number (client_of served) why) ≤ 1
    by_reason None = omega arith
    by_reason (Some why) = omega arith

-- the latest line of a log is among those that are kept
if-false : (b : Bool) (x : Option AuditLine) → b ≡ false → (if b then None else x) ≡ x
if-false false x e = refl
if-false true x e = absurd (cc e)

latest-kept : (log : List AuditLine) (place : ℕ) → length log ≤ 1 + place
    → latest_line log place ≡ slice_get log place
latest-kept log place short =
    let within : length log - most_lines ≤ place = omega (arith, short) in
    if-false (nat_lt place (length log - most_lines)) (slice_get log place)
    (le-ltb place (length log - most_lines) within)

-- what a port keeps of the line that came with an acceptance
pub noted-so : (port : LiveState) (o : Origin) (list : List Step) (tag place : ℕ)
    → LiveAgrees port o (steps.Accept tag ∷ list) → place ≡ length (audit (trace o list))
    → line_kept port place
    ≡ slice_get
    (reverse (line_of (1 + length (trace o list)) (moment o (trace o list) (steps.Accept tag)).served
    (moment o (trace o list) (steps.Accept tag)).effect ++ audit (trace o list)))
    (length (reverse (audit (trace o list))))
noted-so port o list tag place now at =
    let ms = trace o list in
    let m = moment o ms (steps.Accept tag) in
    let lines = line_of (1 + length ms) m.served m.effect in
    let log : List AuditLine = reverse (lines ++ audit ms) in
    let long = length-reverse (lines ++ audit ms) in
    let both = length-append lines (audit ms) in
    let few = line-short (1 + length ms) m.served m.effect in
    let short : length log ≤ 1 + place = omega (arith, long, both, few, at) in
    line_told port o (steps.Accept tag ∷ list) place now
    ∙ latest-kept log place short
    ∙ ap (slice_get log) (at ∙ sym (length-reverse (audit ms)))

-- and where none came
unnoted-so : (port : LiveState) (o : Origin) (list : List Step) (place : ℕ)
    → LiveAgrees port o list → place ≡ length (audit (trace o list))
    → line_kept port place ≡ None
unnoted-so port o list place stands at =
    let log : List AuditLine = told_log o list in
    let long = length-reverse (audit (trace o list)) in
    let short : length log ≤ 1 + place = omega (arith, long, at) in
    let past : length log ≤ place = omega (arith, long, at) in
    line_told port o list place stands
    ∙ latest-kept log place short
    ∙ slice_get_past log place past

-- an acceptance, and the line of the audit log that comes with it
pub accept-so : (done : Result ℕ PortError) (reason : Option PortError) (old new : PortPhase)
    (port : LiveState) (tag place : ℕ) (before mid after : Report)
    → ((o : Origin) (list : List Step) → LiveAgrees old.port o list
    → place ≡ length (audit (trace o list)))
    → RefusesStep old.port (steps.Accept tag) done
    → MakesStep old.port port (steps.Accept tag) done → NumbersStep old.port done
    → OnErr done (port ≡ old.port) → new.port ≡ port → new.made ≡ made_by old.made done
    → reason ≡ refusal_in done → PrintsStep (λ _. done_text) done before mid
    → Prints mid after (audit_lines (line_kept new.port place))
    → PortMakes refusal_with_room (steps.Accept tag) old new before after reason
accept-so (Ok n) reason old new port tag place before mid after counts refused agrees number kept at
    made is prints later = λ o list runs.
    let step = steps.Accept tag in
    let ms = trace o list in
    let m = moment o ms step in
    let now : PortRunsOn new o (step ∷ list) =
    runs-on new port o list step n (agrees o list runs.stands) (number o list runs.stands) at made in
    stepped-so ℕ (Ok n) reason (refusal_with_room ms step) old new o list step before after
    (refused o list runs.stands) runs
    (record {
      runs = now;
      prints = prints-then before mid after done_text
          (accepted_lines (1 + length ms) m.served m.effect) prints
          (subst (λ (lines : List (List ℕ)). Prints mid after lines)
          (ap audit_lines (noted-so new.port o list tag place now.stands (counts o list runs.stands))
          ∙ line-so (1 + length ms) m.served m.effect (audit ms))
          later);
    }) tt tt tt is
accept-so (Err error) reason old new port tag place before mid after counts refused agrees number
    kept at made is prints later = λ o list runs.
    let step = steps.Accept tag in
    let same : new.port ≡ old.port = at ∙ kept in
    let stands : LiveAgrees new.port o list =
    subst (λ (p : LiveState). LiveAgrees p o list) (sym same) runs.stands in
    stepped-so ℕ (Err error) reason (refusal_with_room (trace o list) step) old new o list step
    before after (refused o list runs.stands) runs tt same made
    (record {
      told = prints.told;
      prints = prints-none before mid after (refused_lines error) prints.prints
          (subst (λ (lines : List (List ℕ)). Prints mid after lines)
          (ap audit_lines (unnoted-so new.port o list place stands (counts o list runs.stands)))
          later);
    }) is

-- a client takes its answer: what is printed goes by the command that was put in the slot
pub take-so : (old new : PortPhase) (port : LiveState) (client tag number : ℕ) (given : Answer)
    (at : Stage) (put : Option Put) (before after : Report)
    → at ≡ stage_at old.port.bare.slots tag → put ≡ put_at at
    → RefusesStep {A = ℕ × Answer} old.port (steps.Take client tag) (Ok (number, given))
    → ((o : Origin) (list : List Step) → LiveAgrees old.port o list
    → LiveAgrees port o (steps.Take client tag ∷ list))
    → ((o : Origin) (list : List Step) → LiveAgrees old.port o list
    → (number ≡ 1 + length (trace o list)) × (given ≡ unwrap_or (answer (trace o list) tag) no_bytes))
    → new.port ≡ port → new.made ≡ number → Prints before after (taken_text put given ∷ [])
    → PortMakes refusal_with_room (steps.Take client tag) old new before after None
take-so old new port client tag number given at put before after is puts refused agrees answers same
    made prints = λ o list runs.
    let step = steps.Take client tag in
    let ms = trace o list in
    let now : LiveAgrees port o (step ∷ list) = agrees o list runs.stands in
    let within : tag < slot_count = ltb-true tag slot_count now.stands.lawful.0 in
    let served : put ≡ put_at (stage ms tag) =
    puts ∙ ap put_at (is ∙ (runs.stands.stands.tags tag within).stands) in
    let told = answers o list runs.stands in
    stepped-so (ℕ × Answer) (Ok (number, given)) None (refusal_with_room ms step) old new o list step
    before after (refused o list runs.stands) runs
    (record {
      runs = runs-on new port o list step number now told.0 same made;
      prints = subst (λ (lines : List (List ℕ)). Prints before after lines)
          (ap (λ (put : Option Put). taken_text put given ∷ []) served
          ∙ ap (λ (a : Answer). taken_text (put_at (stage ms tag)) a ∷ []) told.1)
          prints;
    }) tt tt tt refl

-- and where it is refused
pub refused-so : {E : Type 0} (r : Result (Option PortError) E) (error : PortError)
    (old new : PortPhase) (step : Step) (before after : Report)
    → OnOk r (PrintsError error before after) → IfOk r (λ told. told ≡ Some error)
    → RefusesStep {A = ℕ × Answer} old.port step (Err error) → new.port ≡ old.port
    → new.made ≡ old.made → IfOk r (PortMakes refusal_with_room step old new before after)
refused-so (Ok reason) error old new step before after prints is refused kept made = λ o list runs.
    stepped-so (ℕ × Answer) (Err error) reason (refusal_with_room (trace o list) step) old new o list
    step before after (refused o list runs.stands) runs tt kept made prints is
refused-so (Err e) error old new step before after prints is refused kept made = tt

-- a port that made as many steps as a history has room for refuses each
when-full : (fails : Bool) (stages : ℕ → Stage) (step : Step)
    → refusal_by true fails stages step ≡ Some HistoryFull
when-full fails stages (steps.Put client tag request) = refl
when-full fails stages (steps.Issue tag) = refl
when-full fails stages (steps.Accept tag) = refl
when-full fails stages (steps.Complete tag) = refl
when-full fails stages steps.Recover = refl
when-full fails stages (steps.Reset client kind) = refl
when-full fails stages (steps.Take client tag) = refl

pub full-so : {E : Type 0} (r : Result (Option PortError) E) (phase : PortPhase) (step : Step)
    (before after : Report) → most_steps ≤ phase.made
    → OnOk r (PrintsError HistoryFull before after) → IfOk r (λ told. told ≡ Some HistoryFull)
    → IfOk r (PortMakes refusal step phase phase before after)
full-so (Ok reason) phase step before after full prints is = λ o list runs.
    let ms = trace o list in
    let long : most_steps ≤ length ms = omega (arith, full, runs.made) in
    let refused : refusal ms step ≡ Some HistoryFull =
    ap (λ (b : Bool). refusal_by (not b) (is_some (failed ms)) (stage ms) step)
    (le-ltb (length ms) most_steps long)
    ∙ when-full (is_some (failed ms)) (stage ms) step in (
      subst (λ (r : Option PortError). PortHas phase o before after (stepped o list step r))
          (sym refused) (record { runs = runs; prints = prints.prints }),
      is ∙ sym refused,
    )
full-so (Err e) phase step before after full prints is = tt

-- and before that it is as one that is never full
pub room-so : {E : Type 0} (r : Result (Option PortError) E) (old new : PortPhase) (step : Step)
    (before after : Report) → old.made < most_steps
    → IfOk r (PortMakes refusal_with_room step old new before after)
    → IfOk r (PortMakes refusal step old new before after)
room-so (Ok reason) old new step before after room does = λ o list runs.
    let ms = trace o list in
    let short : length ms < most_steps = omega (arith, room, runs.made) in
    let same : refusal_with_room ms step ≡ refusal ms step =
    ap (λ (b : Bool). refusal_by (not b) (is_some (failed ms)) (stage ms) step)
    (sym (lt-ltb (length ms) most_steps short)) in
    subst
    (λ (r : Option PortError). PortHas new o before after (stepped o list step r) × (reason ≡ r))
    same (does o list runs)
room-so (Err e) old new step before after room does = does

-- what denied an accepted command, by the line of the audit log that came
pub denied-so : (number : ℕ) (served : Option Put) (effect : Option Effect) (past : List AuditLine)
    → line_denial
    (slice_get (reverse (line_of number served effect ++ past)) (length (reverse past)))
    ≡ denied_in effect
denied-so number served None past =
    ap line_denial (slice_get_past (reverse past) (length (reverse past)) (omega arith))
denied-so number served (Some e) past = by_reason e.event.denied
  where
    by_reason : (why : Option Why)
        → line_denial (slice_get
        (reverse (line_for number (client_of served) why ++ past)) (length (reverse past)))
        ≡ why
    by_reason None =
        ap line_denial (slice_get_past (reverse past) (length (reverse past)) (omega arith))
    by_reason (Some why) =
        let x : AuditLine = record { step = number; client = client_of served; why = why } in
        ap line_denial
        (ap (λ (log : List AuditLine). slice_get log (length (reverse past)))
        (reverse-append (x ∷ []) past)
        ∙ slice_get_read (reverse past ++ x ∷ []) (length (reverse past) + 1)
        (length (reverse past)) x
        (sym (length-append (reverse past) (x ∷ []))) (omega arith)
        (sym (get_or-append_seam (reverse past) x [] x)))

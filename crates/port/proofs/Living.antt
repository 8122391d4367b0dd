-- A port that keeps no history stands as one that keeps it: each step keeps it so.
use Rattle.port_history.proofs.Acted.{tcg_for_ports}
use Rattle.std.proofs.Common.{◌≡◌, ℕ, zero, suc, ◌+◌, ◌-◌, ◌<◌, ◌≤◌, Bool, true, false, nat_lt, List, [], ◌∷◌, ◌++◌, length, reverse, drop, slice_get, if◌then◌else◌, Option, Some, None, Result, Ok, Err, refl, sym, ap, ◌∙◌, arith, subst, inl, inr, append-nil, length-append}
use Rattle.std.specs.Prelude.{OnOk, IfOk, is_some, unwrap_or, option_to_list}
use Rattle.std.proofs.lemmas.Bool.{cases_lt, lt-ltb}
use Rattle.std.proofs.lemmas.Bool.Decides.{nat_tests}
use Rattle.std.proofs.lemmas.List.{length-reverse, length-drop, drop-drop, drop-append-le}
use Rattle.circular_buffer.specs.Buffer.{keep_last}
use Rattle.audit.specs.declared.reason.AuditLine.{AuditLine}
use Rattle.history.specs.Opening.{Origin}
use Rattle.history.specs.Tcg.{tcg}
use Rattle.headline.specs.Transfers.{IsServedAnswer}
use Rattle.headline.proofs.TransferLaws.{taken_law}
use Rattle.drive.specs.State.{DriveState, Agrees as DriveAgrees}
use Rattle.port_history.specs.declared.error.PortError.{PortError}
use Rattle.port_history.specs.declared.request.Answer.{Answer}
use Rattle.port_history.specs.declared.step.Entry.{Entry}
use Rattle.port_history.specs.declared.step.Step.{Step}
use Rattle.port_history.specs.declared.step.Step.TheVariants as steps
use Rattle.port_history.specs.Requests.{no_bytes}
use Rattle.port_history.specs.Refusals.{refusal_with_room, has_slot, IsRefusedBy}
use Rattle.port_history.specs.Steps.{trace, failed, stage, answer, audit, entries}
use Rattle.port.specs.Agreement.{PortAgrees}
use Rattle.port.specs.Answers.{stage_at, outcome_at, taken}
use Rattle.port.specs.Live.{LiveState, LiveAgrees, LiveMade, LiveAccepted, IsNoted, AreSameLines, most_lines, line_from, latest_line}
use Rattle.port.specs.State.{BareState, PortState, IsFresh, with_history, entry_of, refusal_on_bare}
use Rattle.port.proofs.Accepting.{accept_agrees}
use Rattle.port.proofs.Agreeing.{length_entries, length_trace, refusal_agree, fresh_agrees, taken_answer}

-- The history and the log that nobody keeps.
abbrev pub told_history : Origin → List Step → List Entry
told_history o list = reverse (entries o list)

abbrev pub told_log : Origin → List Step → List AuditLine
told_log o list = reverse (audit (trace o list))

pub same_refusal : (port : LiveState) (o : Origin) (list : List Step) (step : Step) → LiveAgrees port o list → has_slot step ≡ true
    → refusal_on_bare port.bare step ≡ refusal_with_room (trace o list) step
same_refusal port o list step h slot =
    refusal_agree false false (is_some port.bare.failed) (is_some (failed (trace o list))) (stage_at port.bare.slots) (stage (trace o list)) step
    refl (ap is_some h.stands.failure) (λ t below. (h.stands.tags t below).stands) slot

pub history_long : (port : LiveState) (o : Origin) (list : List Step) → LiveAgrees port o list → length (told_history o list) ≡ port.bare.count
history_long port o list h = length-reverse (entries o list) ∙ length_entries o list ∙ sym h.count

pub count_is : (port : LiveState) (o : Origin) (list : List Step) → LiveAgrees port o list → port.bare.count ≡ length (trace o list)
count_is port o list h = h.count ∙ sym (length_trace o list)

-- what stands with some history and log stands with those of its steps
stands_so : (bare : BareState) (history : List Entry) (log : List AuditLine) (o : Origin) (list : List Step) → PortAgrees (with_history bare history log) o list
    → PortAgrees (with_history bare (told_history o list) (told_log o list)) o list
stands_so bare history log o list h =
    subst (λ (l : List AuditLine). PortAgrees (with_history bare (told_history o list) l) o list) h.log
    (subst (λ (e : List Entry). PortAgrees (with_history bare e log) o list) h.history h)

-- A step that notes no line.
pub live_agrees : (old new : LiveState) (o : Origin) (list : List Step) (step : Step) (entry : Entry) → LiveAgrees old o list
    → PortAgrees (with_history new.bare (told_history o list ++ entry ∷ []) (told_log o list)) o (step ∷ list)
    → new.bare.count ≡ 1 + old.bare.count → AreSameLines old new → LiveAgrees new o (step ∷ list)
live_agrees old new o list step entry h now count lines = record {
  stands = stands_so new.bare (told_history o list ++ entry ∷ []) (told_log o list) o (step ∷ list) now;
  count = omega (arith, count, h.count);
  denials =
      lines.0 ∙ h.denials ∙ sym (length-reverse (audit (trace o list))) ∙ ap length now.log
      ∙ length-reverse (audit (trace o (step ∷ list)));
  latest = lines.1 ∙ h.latest ∙ ap (keep_last most_lines) now.log;
}

-- The latest of the latest and one more.
keep_more : {X : Type 0} (n : ℕ) (xs ys : List X) → keep_last n (keep_last n xs ++ ys) ≡ keep_last n (xs ++ ys)
keep_more n xs ys = elim (cases_lt n (length xs)) [
  | inl more ↦ (let k = length xs - n in
      let left = length-drop k xs in let long = length-append xs ys in let short = length-append (drop k xs) ys in
      let at : length (drop k xs ++ ys) - n ≡ length ys = omega (arith, left, short, more) in
      let to : k + length ys ≡ length (xs ++ ys) - n = omega (arith, long, more) in
      ap (λ (m : ℕ). drop m (drop k xs ++ ys)) at
      ∙ ap (drop (length ys)) (sym (drop-append-le k xs ys (omega (arith, more))))
      ∙ drop-drop (length ys) k (xs ++ ys)
      ∙ ap (λ (m : ℕ). drop m (xs ++ ys)) to)
  | inr less ↦ (let none : length xs - n ≡ 0 = omega (arith, less) in
      ap (λ (m : ℕ). keep_last n (drop m xs ++ ys)) none)
]

noted_count : (old new : LiveState) (log after : List AuditLine) (line : Option AuditLine) → IsNoted old.denials old.latest new line → old.denials ≡ length log
    → log ++ option_to_list line ≡ after → new.denials ≡ length after
noted_count old new log after None noted count is = noted.0 ∙ count ∙ ap length (sym (append-nil log) ∙ is)
noted_count old new log after (Some line) noted count is = omega (arith, noted.0, count, length-append log (line ∷ []), ap length is)

noted_latest : (old new : LiveState) (log after : List AuditLine) (line : Option AuditLine) → IsNoted old.denials old.latest new line → old.latest ≡ keep_last most_lines log
    → log ++ option_to_list line ≡ after → new.latest ≡ keep_last most_lines after
noted_latest old new log after None noted latest is = noted.1 ∙ latest ∙ ap (keep_last most_lines) (sym (append-nil log) ∙ is)
noted_latest old new log after (Some line) noted latest is =
    noted.1 ∙ ap (λ (ls : List AuditLine). keep_last most_lines (ls ++ line ∷ [])) latest
    ∙ keep_more most_lines log (line ∷ []) ∙ ap (keep_last most_lines) is

-- A step that may note a line.
pub live_noted : (old new : LiveState) (o : Origin) (list : List Step) (step : Step) (entry : Entry) (line : Option AuditLine) → LiveAgrees old o list
    → PortAgrees (with_history new.bare (told_history o list ++ entry ∷ []) (told_log o list ++ option_to_list line)) o (step ∷ list)
    → new.bare.count ≡ 1 + old.bare.count → IsNoted old.denials old.latest new line → LiveAgrees new o (step ∷ list)
live_noted old new o list step entry line h now count noted = record {
  stands = stands_so new.bare (told_history o list ++ entry ∷ []) (told_log o list ++ option_to_list line) o (step ∷ list) now;
  count = omega (arith, count, h.count);
  denials =
      noted_count old new (told_log o list) (told_log o (step ∷ list)) line noted (h.denials ∙ sym (length-reverse (audit (trace o list)))) now.log
      ∙ length-reverse (audit (trace o (step ∷ list)));
  latest = noted_latest old new (told_log o list) (told_log o (step ∷ list)) line noted h.latest now.log;
}

-- A port that did nothing.
pub live_fresh : (port : LiveState) (drive : DriveState) (o : Origin) → IsFresh (with_history port.bare [] []) drive → port.bare.count ≡ 0
    → port.denials ≡ 0 → port.latest ≡ [] → DriveAgrees drive o [] → LiveAgrees port o []
live_fresh port drive o fresh count denials latest h = record {
  stands = fresh_agrees (with_history port.bare [] []) drive o fresh h;
  count = count;
  denials = denials;
  latest = latest;
}

-- What a call owes, by its private step.
pub refused_call : {A : Type 0} (port : LiveState) (o : Origin) (list : List Step) (step : Step) (r : Result A PortError) → has_slot step ≡ true → LiveAgrees port o list
    → IsRefusedBy (refusal_on_bare port.bare step) r → IsRefusedBy (refusal_with_room (trace o list) step) r
refused_call port o list step r slot h told = subst (λ (x : Option PortError). IsRefusedBy x r) (same_refusal port o list step h slot) told

pub numbered : (r : Result ℕ PortError) (old : LiveState) → IfOk r (λ n. n ≡ 1 + old.bare.count)
    → IfOk r (λ n. (o : Origin) (list : List Step) → LiveAgrees old o list → n ≡ 1 + length (trace o list))
numbered (Ok n) old e = λ o list h. e ∙ ap (λ (k : ℕ). 1 + k) (count_is old o list h)
numbered (Err error) old e = tt

pub agrees_where : {A : Type 0} (Made : Type 0) (old new : LiveState) (step : Step) (r : Result A PortError) → has_slot step ≡ true
    → ((o : Origin) (list : List Step) → LiveAgrees old o list → IsRefusedBy (refusal_on_bare old.bare step) r) → OnOk r Made
    → ((o : Origin) (list : List Step) → LiveAgrees old o list → refusal_with_room (trace o list) step ≡ None → Made → LiveAgrees new o (step ∷ list))
    → OnOk r ((o : Origin) (list : List Step) → LiveAgrees old o list → LiveAgrees new o (step ∷ list))
agrees_where Made old new step (Ok a) slot told made keep = λ o list h. keep o list h (sym (same_refusal old o list step h slot) ∙ told o list h) made
agrees_where Made old new step (Err error) slot told made keep = tt

-- of a step that notes no line
pub agrees_call : {A : Type 0} (made : PortState → PortState → Type 0) (old new : LiveState) (step : Step) (entry : Entry) (r : Result A PortError) → has_slot step ≡ true
    → ((o : Origin) (list : List Step) → LiveAgrees old o list → IsRefusedBy (refusal_on_bare old.bare step) r) → OnOk r (LiveMade old new entry made)
    → ((p q : PortState) (o : Origin) (list : List Step) → PortAgrees p o list → refusal_with_room (trace o list) step ≡ None → made p q → PortAgrees q o (step ∷ list))
    → OnOk r ((o : Origin) (list : List Step) → LiveAgrees old o list → LiveAgrees new o (step ∷ list))
agrees_call made old new step entry r slot told step_made keep =
    agrees_where (LiveMade old new entry made) old new step r slot told step_made
    (λ o list h lawful is. live_agrees old new o list step entry h
    (keep (with_history old.bare (told_history o list) (told_log o list)) (with_history new.bare (told_history o list ++ entry ∷ []) (told_log o list)) o list
    h.stands lawful (is.state (told_history o list) (told_log o list) (history_long old o list h))) is.count is.lines)

-- of an acceptance
pub accepted_call : (old new : LiveState) (tag : ℕ) (r : Result ℕ PortError) → tag < 32
    → ((o : Origin) (list : List Step) → LiveAgrees old o list → IsRefusedBy (refusal_on_bare old.bare (steps.Accept tag)) r)
    → OnOk r (LiveAccepted old new tag)
    → OnOk r ((o : Origin) (list : List Step) → LiveAgrees old o list → LiveAgrees new o (steps.Accept tag ∷ list))
accepted_call old new tag r lt told made =
    agrees_where (LiveAccepted old new tag) old new (steps.Accept tag) r (lt-ltb tag 32 lt) told made
    (λ o list h lawful is. live_noted old new o list (steps.Accept tag) (entry_of (steps.Accept tag)) is.line h
    (accept_agrees (with_history old.bare (told_history o list) (told_log o list))
    (with_history new.bare (told_history o list ++ entry_of (steps.Accept tag) ∷ []) (told_log o list ++ option_to_list is.line)) o list tag lt h.stands lawful
    (λ f fetched. is.state f fetched (told_history o list) (told_log o list) (history_long old o list h))) is.count is.noted)

pub answered_call : (r : Result (ℕ × Answer) PortError) (old : LiveState) (tag : ℕ) → tag < 32
    → IfOk r (λ x. (x.0 ≡ 1 + old.bare.count) × (x.1 ≡ taken old.bare.memory tag (outcome_at old.bare.outcomes tag)))
    → IfOk r (λ x. (o : Origin) (list : List Step) → LiveAgrees old o list → (x.0 ≡ 1 + length (trace o list)) × (x.1 ≡ unwrap_or (answer (trace o list) tag) no_bytes))
answered_call (Ok x) old tag lt e = λ o list h.
    (e.0 ∙ ap (λ (k : ℕ). 1 + k) (count_is old o list h), e.1 ∙ taken_answer (with_history old.bare (told_history o list) (told_log o list)) o list tag lt h.stands)
answered_call (Err error) old tag lt e = tt

pub served_call : (r : Result (ℕ × Answer) PortError) (old : LiveState) (tag : ℕ)
    → IfOk r (λ x. (o : Origin) (list : List Step) → LiveAgrees old o list → (x.0 ≡ 1 + length (trace o list)) × (x.1 ≡ unwrap_or (answer (trace o list) tag) no_bytes))
    → IfOk r (λ x. (o : Origin) (list : List Step) → LiveAgrees old o list → IsServedAnswer tcg o list tag x.1)
served_call (Ok x) old tag e = λ o list h.
    subst (IsServedAnswer tcg o list tag) (sym (e o list h).1) (taken_law tcg tcg_for_ports o list tag h.stands.lawful)
served_call (Err error) old tag e = tt

-- The lines that are kept are those of the log.
get_drop : {X : Type 0} (k : ℕ) (xs : List X) (i : ℕ) → slice_get (drop k xs) i ≡ slice_get xs (k + i)
get_drop zero xs i = let at : i ≡ 0 + i = omega arith in ap (slice_get xs) at
get_drop (suc k) [] i = refl
get_drop (suc k) (x ∷ xs) i = get_drop k xs i ∙ (let at : suc (k + i) ≡ suc k + i = omega arith in ap (slice_get (x ∷ xs)) at)

line_by : (b : Bool) (x y : Option AuditLine) → (b ≡ false → x ≡ y) → (if b then None else x) ≡ (if b then None else y)
line_by true x y e = refl
line_by false x y e = e refl

not_below : (n m : ℕ) → nat_lt n m ≡ false → m ≤ n
not_below n m out = grind (arith, nat_tests, out)

line_in : (log : List AuditLine) (place : ℕ)
    → line_from (length log - most_lines) (drop (length log - most_lines) log) place ≡ latest_line log place
line_in log place =
    let gone = length log - most_lines in
    line_by (nat_lt place gone) (slice_get (drop gone log) (place - gone)) (slice_get log place) (λ out.
    let within = not_below place gone out in
    let at : gone + (place - gone) ≡ place = omega (arith, within) in
    get_drop gone log (place - gone) ∙ ap (slice_get log) at)

pub line_told : (port : LiveState) (o : Origin) (list : List Step) (place : ℕ) → LiveAgrees port o list
    → line_from (port.denials - length port.latest) port.latest place ≡ latest_line (told_log o list) place
line_told port o list place h =
    let log = told_log o list in
    let long = length-reverse (audit (trace o list)) in
    let gone = length log - most_lines in
    let rest = length-drop gone log in
    let short = ap length h.latest in
    let is : port.denials - length port.latest ≡ gone = omega (arith, h.denials, long, rest, short) in
    ap (λ (ls : List AuditLine). line_from (port.denials - length port.latest) ls place) h.latest
    ∙ ap (λ (n : ℕ). line_from n (drop gone log) place) is
    ∙ line_in log place

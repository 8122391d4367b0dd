-- Lines on a drive or a port, with their frames.
use Rattle.std.proofs.Common.{◌≡◌, ◌≤◌, ◌<◌, ◌∙◌, ℕ, ◌+◌, arith, inl, inr, length, length-append, Bool, true, false, List, [], ◌∷◌, ◌++◌, refl, sym, ap, subst, append-nil, Option, Some, None, IfSome, Result, Ok, Err}
use Rattle.std.specs.Prelude.{◌⊎◌, if◌then◌else◌}
use Rattle.std.proofs.lemmas.Bool.{cases_lt}
use Rattle.std.specs.Io.BufRead.{drop_through}
use Rattle.history.specs.Opening.{Origin}
use Rattle.pictures.specs.declared.samples.frame.Frame.{Frame}
use Rattle.script_lines.specs.Texts.{last_of}
use Rattle.script_lines.specs.declared.report.Report.{Report}
use Rattle.tool.specs.Scripts.{ScriptLine, bare, lines_from, lines_of_text, with_numbers, script_lines, is_skipped, without_remarks, TakesLine}
use Rattle.tool.specs.Courses.{Course, Advance, Advances, PhaseRunsOn, course_step}
use Rattle.tool.specs.Progress.{HandsOn, Steps, step_or_skip}
use Rattle.drive_scripts.specs.declared.turn.Fault.{Fault}
use Rattle.tool.specs.declared.phase.Phase.{Phase}
use Rattle.drive_scripts.specs.declared.turn.Turn.{Turn}
use Rattle.drive_scripts.specs.declared.turn.Turn.TheVariants as turns
use Rattle.tool.proofs.Texts.{taken}
use Rattle.tool.specs.Outcomes.{printed_by}
use Rattle.runs.specs.Frames.{frame_by, frame_where, frame_behind}
use Rattle.runs.specs.Recordings.{Recording, stops, preceded, continued, recording_on}
use Rattle.runs.specs.Progress.{HoldsMore, ComesTo, frames_made, line_at}
use Rattle.runs.proofs.recorded.Held.{all-to-come, more-comes, written-more}

-- what a turn says of its step
failed-so : (result : Result Advance ℕ) (new : Phase) (o : Origin) (before after : Report)
    → Steps turns.ExpectationFailed result new o before after
    → (result ≡ Err 1) × (after ≡ before)
failed-so (Ok effect) new o before after is = absurd is
failed-so (Err status) new o before after is = (ap Err is.0, is.1)

bad-so : (result : Result Advance ℕ) (fault : Fault) (new : Phase) (o : Origin)
    (before after : Report) → Steps (turns.Bad fault) result new o before after
    → (result ≡ Err 2) × (after ≡ before)
bad-so (Ok effect) fault new o before after is = absurd is
bad-so (Err status) fault new o before after is = (ap Err is.0, is.1)

gone-so : (result : Result Advance ℕ) (aborted : Bool) (new : Phase) (o : Origin)
    (before after : Report) → Steps (turns.Goes aborted) result new o before after
    → (effect : Advance) × (result ≡ Ok effect) × Advances new o before after effect
gone-so (Ok effect) aborted new o before after has = (effect, refl, has)
gone-so (Err status) aborted new o before after has = absurd has

-- a line is at hand, behind so many others: this is how far the run has come
abbrev pub AtHand : Bool → ℕ → Recording → Origin → Phase → List ℕ → List ℕ → Option (List ℕ)
    → Option (List ℕ) → Option (List ℕ) → List ℕ → List ℕ
    → (Option (List ℕ) → List Frame → Type 0) → (Option (List ℕ) → List Frame → Type 0) → Type 0
AtHand remarks lines whole o run last line left old now pending after held holds =
    (course : Course) × (text : List ℕ) × PhaseRunsOn run o course × (left ≡ Some text)
    × ComesTo whole (recording_on o course last (lines_from remarks lines line text)) old now
    pending after held holds

-- the line at hand is done
abbrev pub Behind : Bool → ℕ → Recording → Origin → Phase → List ℕ → Option (List ℕ)
    → Option (List ℕ) → Option (List ℕ) → List ℕ → List ℕ
    → (Option (List ℕ) → List Frame → Type 0) → (Option (List ℕ) → List Frame → Type 0) → Type 0
Behind remarks lines whole o run last left old now pending after held holds =
    (course : Course) × (text : List ℕ) × PhaseRunsOn run o course × (left ≡ Some text)
    × ComesTo whole
    (recording_on o course last (without_remarks remarks (with_numbers (lines + 1) (script_lines text)))) old now
    pending after held holds

pub at-first : (remarks : Bool) (lines : ℕ) (left : Option (List ℕ)) (o : Origin) (course : Course) (run : Phase)
    (last line : List ℕ) (bytes : Option (List ℕ)) (pending : List ℕ)
    (held : Option (List ℕ) → List Frame → Type 0) → PhaseRunsOn run o course
    → IfSome left
    (λ text. AtHand remarks lines (recording_on o course last (lines_from remarks lines line text)) o run
    last line left bytes bytes pending pending held held)
at-first remarks lines None o course run last line bytes pending held runs = tt
at-first remarks lines (Some text) o course run last line bytes pending held runs =
    (course, text, runs, refl, all-to-come _ bytes pending held)

-- the recording of a line that is skipped, or done, with what comes behind it
by-skip : (skipped : Bool) (o : Origin) (course : Course) (last : List ℕ) (line : ScriptLine)
    (lines : List ScriptLine)
    → recording_on o course last (if skipped then lines else line ∷ lines)
    ≡ continued o last line (λ made. recording_on o made.course (last_of last made.lines) lines)
    (if skipped then Ok (record { course = course; lines = []; reasons = [] }) else course_step o course last line)
unfolding recording_on
by-skip true o course last line lines = refl
by-skip false o course last line lines = refl

recording-first : (remarks : Bool) (o : Origin) (course : Course) (last : List ℕ) (line : ScriptLine)
    (lines : List ScriptLine)
    → recording_on o course last (without_remarks remarks (line ∷ lines))
    ≡ continued o last line
    (λ made. recording_on o made.course (last_of last made.lines) (without_remarks remarks lines))
    (step_or_skip remarks o course last line)
unfolding without_remarks
recording-first remarks o course last line lines =
    by-skip (is_skipped remarks line.text) o course last line (without_remarks remarks lines)

-- the recording of a line that ends the run, and of one that does not
recording-by : (remarks : Bool) (o : Origin) (course : Course) (last : List ℕ) (line : ScriptLine)
    (lines : List ScriptLine) (result : Result Advance ℕ)
    → step_or_skip remarks o course last line ≡ result
    → recording_on o course last (without_remarks remarks (line ∷ lines))
    ≡ continued o last line
    (λ made. recording_on o made.course (last_of last made.lines) (without_remarks remarks lines)) result
recording-by remarks o course last line lines result is =
    recording-first remarks o course last line lines
    ∙ ap
    (continued o last line
    (λ made. recording_on o made.course (last_of last made.lines) (without_remarks remarks lines))) is

-- what a turn leaves to come
abbrev pub TurnLeads : Bool → ℕ → Turn → Recording → Origin → Phase → Report → Option (List ℕ)
    → Option (List ℕ) → Option (List ℕ) → List ℕ
    → (Option (List ℕ) → List Frame → Type 0) → (Option (List ℕ) → List Frame → Type 0) → Type 0
TurnLeads remarks lines (turns.Goes aborted) whole o run report left old now pending held holds =
    Behind remarks lines whole o run report.last.items left old now pending report.pending.items held
    holds
TurnLeads remarks lines turns.ExpectationFailed whole o run report left old now pending held holds =
    ComesTo whole (stops 1) old now pending report.pending.items held holds
TurnLeads remarks lines (turns.Bad fault) whole o run report left old now pending held holds =
    ComesTo whole (stops 2) old now pending report.pending.items held holds

-- a step that ends the run
stopped : (remarks : Bool) (lines status : ℕ) (whole : Recording) (o : Origin) (course : Course)
    (before after : Report) (text : List ℕ) (behind : List ScriptLine) (was now : Option (List ℕ))
    (pending : List ℕ) (held holds later : Option (List ℕ) → List Frame → Type 0)
    → step_or_skip remarks o course before.last.items (line_at (lines + 1) text) ≡ Err status → after ≡ before
    → HoldsMore
    (frames_made o before.last.items (line_at (lines + 1) text)
    (step_or_skip remarks o course before.last.items (line_at (lines + 1) text))) holds later
    → ComesTo whole
    (recording_on o course before.last.items (without_remarks remarks (line_at (lines + 1) text ∷ behind))) was
    now pending before.pending.items held holds
    → ComesTo whole (stops status) was now pending after.pending.items held later
stopped remarks lines status whole o course before after text behind was now pending held holds later is
    same keeps leads =
    let last = before.last.items in
    let line = line_at (lines + 1) text in
    subst (λ (report : Report). ComesTo whole (stops status) was now pending report.pending.items held later)
    (sym same)
    (more-comes whole (recording_on o course last (without_remarks remarks (line ∷ behind))) (stops status) was now
    pending before.pending.items before.pending.items [] [] held holds later leads
    (recording-by remarks o course last line behind (Err status) is)
    (sym (append-nil before.pending.items))
    (subst (λ made. HoldsMore (frames_made o last line made) holds later) is keeps))

led : (remarks : Bool) (lines : ℕ) (turn : Turn) (whole : Recording) (o : Origin) (course : Course)
    (new : Phase) (before after : Report) (text rest : List ℕ) (left was now : Option (List ℕ))
    (pending : List ℕ) (held holds later : Option (List ℕ) → List Frame → Type 0) → left ≡ Some rest
    → Steps turn (step_or_skip remarks o course before.last.items (line_at (lines + 1) text)) new o before after
    → HoldsMore
    (frames_made o before.last.items (line_at (lines + 1) text)
    (step_or_skip remarks o course before.last.items (line_at (lines + 1) text))) holds later
    → ComesTo whole
    (recording_on o course before.last.items
    (without_remarks remarks (line_at (lines + 1) text ∷ with_numbers (lines + 1) (script_lines rest)))) was now
    pending before.pending.items held holds
    → TurnLeads remarks lines turn whole o new after left was now pending held later
led remarks lines (turns.Goes aborted) whole o course new before after text rest left was now pending held
    holds later is steps keeps leads =
    let last = before.last.items in
    let line = line_at (lines + 1) text in
    let behind = with_numbers (lines + 1) (script_lines rest) in
    let gone = gone-so (step_or_skip remarks o course last line) aborted new o before after steps in
    let effect = gone.0 in
    let has = gone.2 in (
      effect.course,
      rest,
      has.runs,
      is,
      subst
          (λ shown. ComesTo whole (recording_on o effect.course shown (without_remarks remarks behind)) was now
          pending after.pending.items held later)
          (sym has.tells.last)
          (more-comes whole (recording_on o course last (without_remarks remarks (line ∷ behind)))
          (recording_on o effect.course (last_of last effect.lines) (without_remarks remarks behind)) was now
          pending before.pending.items after.pending.items (printed_by effect) (frame_behind o last line effect)
          held holds later leads
          (recording-by remarks o course last line behind (Ok effect) gone.1)
          has.tells.pending
          (subst (λ made. HoldsMore (frames_made o last line made) holds later) gone.1 keeps)),
    )
led remarks lines turns.ExpectationFailed whole o course new before after text rest left was now pending held
    holds later is steps keeps leads =
    let failed = failed-so (step_or_skip remarks o course before.last.items (line_at (lines + 1) text)) new o before after steps in
    stopped remarks lines 1 whole o course before after text (with_numbers (lines + 1) (script_lines rest)) was
    now pending held holds later failed.0 failed.1 keeps leads
led remarks lines (turns.Bad fault) whole o course new before after text rest left was now pending held holds
    later is steps keeps leads =
    let bad = bad-so (step_or_skip remarks o course before.last.items (line_at (lines + 1) text)) fault new o before after steps in
    stopped remarks lines 2 whole o course before after text (with_numbers (lines + 1) (script_lines rest)) was
    now pending held holds later bad.0 bad.1 keeps leads

-- what a turn on the line at hand leaves to come
pub turned : (remarks : Bool) (lines : ℕ) (turn : Turn) (whole : Recording) (o : Origin) (old new : Phase)
    (before after : Report) (line text : List ℕ) (left was now : Option (List ℕ))
    (pending : List ℕ) (held holds later : Option (List ℕ) → List Frame → Type 0) → text ≡ bare line
    → ((o : Origin) (course : Course) → PhaseRunsOn old o course
    → Steps turn (step_or_skip remarks o course before.last.items (line_at (lines + 1) text)) new o before after)
    → ((o : Origin) (course : Course) → PhaseRunsOn old o course
    → HoldsMore
    (frames_made o before.last.items (line_at (lines + 1) text)
    (step_or_skip remarks o course before.last.items (line_at (lines + 1) text))) holds later)
    → AtHand remarks lines whole o old before.last.items line left was now pending before.pending.items
    held holds
    → TurnLeads remarks lines turn whole o new after left was now pending held later
unfolding with_numbers
turned remarks lines turn whole o old new before after line text left was now pending held holds later
    shown steps keeps (course, rest, runs, is, leads) =
    led remarks lines turn whole o course new before after text rest left was now pending held holds later is
    (steps o course runs) (keeps o course runs)
    (subst
    (λ first. ComesTo whole
    (recording_on o course before.last.items
    (without_remarks remarks (line_at (lines + 1) first ∷ with_numbers (lines + 1) (script_lines rest)))) was now
    pending before.pending.items held holds)
    (sym shown) leads)

-- what is printed and recorded is handed on
pub handed-on : (remarks : Bool) (lines : ℕ) (whole : Recording) (o : Origin) (run : Phase)
    (last still : List ℕ) (left was now new : Option (List ℕ)) (pending before after : List ℕ)
    (held holds later : Option (List ℕ) → List Frame → Type 0)
    → Behind remarks lines whole o run last left was now pending before held holds → still ≡ last
    → HandsOn now new before after → HoldsMore [] holds later
    → Behind remarks lines whole o run still left was new pending after held later
handed-on remarks lines whole o run last still left was now new pending before after held holds later
    (course, text, runs, is, leads) same hands keeps = (
      course,
      text,
      runs,
      is,
      subst
          (λ shown. ComesTo whole
          (recording_on o course shown (without_remarks remarks (with_numbers (lines + 1) (script_lines text)))) was
          new pending after held later)
          (sym same) (written-more whole _ was now new pending before after held holds later leads hands keeps),
    )

-- the next line is read
pub next-at-hand : (remarks : Bool) (lines : ℕ) (whole : Recording) (o : Origin) (run : Phase)
    (last line : List ℕ) (left later was now : Option (List ℕ)) (pending after : List ℕ)
    (held holds : Option (List ℕ) → List Frame → Type 0)
    → Behind remarks lines whole o run last left was now pending after held holds
    → IfSome left (λ text. TakesLine true line text later)
    → AtHand remarks (lines + 1) whole o run last line later was now pending after held holds
next-at-hand remarks lines whole o run last line left later was now pending after held holds
    (course, text, runs, is, leads) takes =
    let first = taken left later line text is takes in (
      course,
      drop_through 10 text,
      runs,
      first.0,
      subst
          (λ texts. ComesTo whole
          (recording_on o course last (without_remarks remarks (with_numbers (lines + 1) texts))) was now pending after
          held holds)
          first.1 leads,
    )

-- none is left
pub none-at-hand : (remarks : Bool) (lines : ℕ) (whole : Recording) (o : Origin) (run : Phase)
    (last line : List ℕ) (left later was now : Option (List ℕ)) (pending after : List ℕ)
    (held holds : Option (List ℕ) → List Frame → Type 0)
    → Behind remarks lines whole o run last left was now pending after held holds
    → IfSome left (λ text. TakesLine false line text later)
    → ComesTo whole (stops 0) was now pending after held holds
unfolding recording_on without_remarks with_numbers lines_of_text
none-at-hand remarks lines whole o run last line left later was now pending after held holds
    (course, text, runs, is, leads) takes =
    let none : text ≡ [] = subst (λ o. IfSome o (λ text. TakesLine false line text later)) is takes in
    subst
    (λ text. ComesTo whole
    (recording_on o course last (without_remarks remarks (with_numbers (lines + 1) (script_lines text)))) was now pending
    after held holds) none leads

-- a step printed something, or nothing
where-some : (text : List ℕ) (frame : Frame) → 0 < length text → frame_where text frame ≡ frame ∷ []
where-some [] frame some = absurd (omega (arith, some))
where-some (byte ∷ bytes) frame some = refl

where-none : (text : List ℕ) (frame : Frame) → length text ≤ 0 → frame_where text frame ≡ []
where-none [] frame none = refl
where-none (byte ∷ bytes) frame none = absurd (omega (arith, none))

grown : (before after text : List ℕ) → after ≡ before ++ text → length after ≡ length before + length text
grown before after text is = ap length is ∙ length-append before text

-- what a step left behind is recorded
made-so : (made : Advance) (new : Phase) (o : Origin) (before after : Report)
    (number : ℕ) (text : List ℕ) (held holds : Option (List ℕ) → List Frame → Type 0)
    → (length before.pending.items < length after.pending.items)
    ⊎ (length after.pending.items ≤ length before.pending.items)
    → Advances new o before after made
    → (length after.pending.items ≤ length before.pending.items → HoldsMore [] held holds)
    → (length before.pending.items < length after.pending.items → (o : Origin) (course : Course)
    → PhaseRunsOn new o course
    → HoldsMore (frame_by o course number text after.last.items ∷ []) held holds)
    → HoldsMore (frame_behind o before.last.items (line_at number text) made) held holds
made-so made new o before after number text held holds (inl longer) has silent records =
    let size = grown before.pending.items after.pending.items (printed_by made) has.tells.pending in
    let frame = frame_by o made.course number text (last_of before.last.items made.lines) in
    subst (λ frames. HoldsMore frames held holds)
    (ap (λ last. frame_by o made.course number text last ∷ []) has.tells.last
    ∙ sym (where-some (printed_by made) frame (omega (arith, size, longer))))
    (records longer o made.course has.runs)
made-so made new o before after number text held holds (inr same) has silent records =
    let size = grown before.pending.items after.pending.items (printed_by made) has.tells.pending in
    let frame = frame_by o made.course number text (last_of before.last.items made.lines) in
    subst (λ frames. HoldsMore frames held holds)
    (sym (where-none (printed_by made) frame (omega (arith, size, same))))
    (silent same)

nothing-so : (before after : Report) (held holds : Option (List ℕ) → List Frame → Type 0) → after ≡ before
    → (length after.pending.items ≤ length before.pending.items → HoldsMore [] held holds)
    → HoldsMore [] held holds
nothing-so before after held holds same silent =
    silent (subst (λ (r : Report). length r.pending.items ≤ length before.pending.items) (sym same) (omega arith))

pub recorded-so : (turn : Turn) (result : Result Advance ℕ) (new : Phase) (o : Origin) (before after : Report)
    (number : ℕ) (text : List ℕ) (held holds : Option (List ℕ) → List Frame → Type 0)
    → Steps turn result new o before after
    → (length after.pending.items ≤ length before.pending.items → HoldsMore [] held holds)
    → (length before.pending.items < length after.pending.items → (o : Origin) (course : Course)
    → PhaseRunsOn new o course
    → HoldsMore (frame_by o course number text after.last.items ∷ []) held holds)
    → HoldsMore (frames_made o before.last.items (line_at number text) result) held holds
recorded-so (turns.Goes aborted) (Ok made) new o before after number text held holds has silent records =
    made-so made new o before after number text held holds
    (cases_lt (length before.pending.items) (length after.pending.items)) has silent records
recorded-so (turns.Goes aborted) (Err status) new o before after number text held holds has silent records =
    absurd has
recorded-so turns.ExpectationFailed (Ok made) new o before after number text held holds has silent records =
    absurd has
recorded-so turns.ExpectationFailed (Err status) new o before after number text held holds has silent records =
    nothing-so before after held holds has.1 silent
recorded-so (turns.Bad fault) (Ok made) new o before after number text held holds has silent records = absurd has
recorded-so (turns.Bad fault) (Err status) new o before after number text held holds has silent records =
    nothing-so before after held holds has.1 silent

-- A whole recorded run.
use Rattle.std.proofs.Common.{◌≡◌, ◌∙◌, ℕ, ◌+◌, Bool, true, false, List, [], ◌∷◌, ◌++◌, refl, sym, ap, subst, append-nil, Option, Some, None, IfSome, Result, Ok, Err, IfOk}
use Rattle.std.specs.Io.BufRead.{drop_through}
use Rattle.std.specs.Io.KnownBytes.{Appends}
use Rattle.sp_cells.specs.Config.{Config}
use Rattle.history.specs.Opening.{Origin}
use Rattle.pictures.specs.declared.samples.frame.Frame.{Frame}
use Rattle.tool.specs.Ends.{exit_status}
use Rattle.tool.specs.Courses.{Course, PhaseRunsOn, start}
use Rattle.tool.specs.Scripts.{ScriptLine, bare, effective_lines, lines_from, lines_of_text, with_numbers, script_lines, may_hold_remarks, drive_kind, kind_of_script, without_remarks, TakesLine}
use Rattle.tool.specs.declared.ending.End.{End}
use Rattle.tool.specs.declared.opening.OpeningPhase.TheVariants.{Factory}
use Rattle.tool.specs.declared.phase.Phase.{Phase}
use Rattle.tool.proofs.Texts.{taken}
use Rattle.runs.specs.Frames.{opening_frame}
use Rattle.runs.specs.Recordings.{Recording, stops, preceded, recording_on, recording_opened, recording_of_lines, recording_by}
use Rattle.script_lines.specs.declared.report.Report.{Report}
use Rattle.runs.specs.Progress.{HoldsMore, ComesTo, EndsSo, OpenedEnds, FrontComesTo, FrontLeads, RecordsAs, Records}
use Rattle.runs.specs.declared.recorded.script.Opened.{Opened}
use Rattle.runs.specs.declared.recorded.script.Opened.TheVariants.{Ended, Runs}
use Rattle.runs.proofs.recorded.Held.{ends-now, more-frames, preceded-twice, all-written}

-- some frames come first
pub frames-first : (frames : List Frame) (rest later : Recording) (old now : Option (List ℕ))
    (pending after : List ℕ) (held holds holds-later : Option (List ℕ) → List Frame → Type 0)
    → HoldsMore frames held holds → ComesTo rest later old now pending after holds holds-later
    → ComesTo (preceded [] frames rest) later old now pending after held holds-later
frames-first frames rest later old now pending after held holds holds-later keeps leads = record {
  earlier = leads.earlier;
  frames = frames ++ leads.frames;
  comes = ap (preceded [] frames) leads.comes
      ∙ preceded-twice [] leads.earlier frames leads.frames later;
  written = leads.written;
  kept = more-frames frames leads.frames held holds holds-later keeps leads.kept;
}

-- the opening is recorded, and the lines behind it come to an end
pub opened-so : (o : Origin) (course : Course) (later : Recording) (old now : Option (List ℕ))
    (pending after last : List ℕ) (lines : List ScriptLine)
    (held holds holds-later : Option (List ℕ) → List Frame → Type 0)
    → last ≡ [] → HoldsMore (opening_frame o course ∷ []) held holds
    → ComesTo (recording_on o course last lines) later old now pending after holds holds-later
    → ComesTo (recording_opened o course lines) later old now pending after held holds-later
opened-so o course later old now pending after last lines held holds holds-later none keeps leads =
    frames-first (opening_frame o course ∷ []) (recording_on o course [] lines) later old now pending after
    held holds holds-later keeps
    (subst (λ last. ComesTo (recording_on o course last lines) later old now pending after holds holds-later)
    none leads)

-- the script has no line
pub no-line : (explains : Bool) (config : Config) (line : List ℕ) (old later : Option (List ℕ)) (bytes : Option (List ℕ))
    (pending : List ℕ) (held : Option (List ℕ) → List Frame → Type 0)
    → IfSome old (λ text. TakesLine false line text later)
    → IfSome old
    (λ text. ComesTo (recording_by explains config text) (stops 0) bytes bytes pending pending held held)
unfolding lines_of_text
no-line explains config line None later bytes pending held takes = tt
no-line explains config line (Some text) later bytes pending held takes =
    ends-now (recording_by explains config text) 0 bytes pending held
    (ap
    (λ text. recording_of_lines explains (kind_of_script (script_lines text)) (Factory config)
    (effective_lines (script_lines text))) takes)

-- its first line is read, which says whether remarks may stand in it
first-comes : (explains : Bool) (config : Config) (line text shown : List ℕ) (now : Option (List ℕ)) (remarks : Bool)
    → TakesLine true line text now → shown ≡ bare line → remarks ≡ may_hold_remarks shown
    → recording_by explains config text
    ≡ recording_of_lines explains (drive_kind remarks) (Factory config)
    (lines_from remarks 0 line (drop_through 10 text))
first-comes explains config line text shown now remarks takes is may =
    let rest = script_lines (drop_through 10 text) in
    ap (λ texts. recording_of_lines explains (kind_of_script texts) (Factory config) (effective_lines texts))
    (taken (Some text) now line text refl takes).1
    ∙ ap
    (λ (remarks : Bool). recording_of_lines explains (drive_kind remarks) (Factory config)
    (without_remarks remarks (with_numbers 0 (bare line ∷ rest))))
    (sym (may ∙ ap may_hold_remarks is))

-- what the lines in front leave to come of the script
pub first-leads : (explains : Bool) (config : Config) (opened : Opened) (remarks : Bool) (line shown after : List ℕ)
    (old now left : Option (List ℕ)) → IfSome old (λ text. TakesLine true line text now)
    → shown ≡ bare line → remarks ≡ may_hold_remarks shown
    → FrontLeads explains remarks opened (Factory config) line now after left
    → IfSome old (λ text. FrontComesTo explains remarks opened (recording_by explains config text) after left)
first-leads explains config opened remarks line shown after None now left takes is may leads = tt
first-leads explains config opened remarks line shown after (Some text) now left takes is may leads =
    subst (λ whole. FrontComesTo explains remarks opened whole after left)
    (sym (first-comes explains config line text shown now remarks takes is may))
    (subst
    (λ now. IfSome now
    (λ rest. FrontComesTo explains remarks opened
    (recording_of_lines explains (drive_kind remarks) (Factory config) (lines_from remarks 0 line rest)) after left))
    (taken (Some text) now line text refl takes).0 leads)

-- they end it
pub front-ends : (whole : Recording) (explains remarks : Bool) (opened : Opened) (end : End) (line : List ℕ)
    (left bytes : Option (List ℕ)) (pending : List ℕ) (held : Option (List ℕ) → List Frame → Type 0)
    → opened ≡ Ended end → FrontComesTo explains remarks opened whole line left
    → ComesTo whole (stops (exit_status end)) bytes bytes pending pending held held
front-ends whole explains remarks opened end line left bytes pending held is comes =
    ends-now whole (exit_status end) bytes pending held
    (subst (λ opened. FrontComesTo explains remarks opened whole line left) is comes)

-- the lines behind them do
pub front-runs : (whole later : Recording) (explains remarks : Bool) (lines : ℕ) (opened : Opened) (run : Phase)
    (line : List ℕ) (left was now : Option (List ℕ)) (pending after : List ℕ)
    (held holds : Option (List ℕ) → List Frame → Type 0) → opened ≡ Runs run lines
    → FrontComesTo explains remarks opened whole line left
    → ((o : Origin) (course : Course) → PhaseRunsOn run o course
    → IfSome left
    (λ text. ComesTo (recording_opened o course (lines_from remarks lines line text)) later was now
    pending after held holds))
    → ComesTo whole later was now pending after held holds
front-runs whole later explains remarks lines opened run line left was now pending after held holds is comes leads =
    let (o, kind, text, runs, at, so) =
    subst (λ opened. FrontComesTo explains remarks opened whole line left) is comes in
    subst (λ whole. ComesTo whole later was now pending after held holds) (sym so)
    (subst
    (λ left. IfSome left
    (λ text. ComesTo (recording_opened o (start explains kind) (lines_from remarks lines line text)) later was
    now pending after held holds))
    at (leads o (start explains kind) runs))

-- the same, wherever a script comes from
pub script-ends : (explains remarks : Bool) (config : Config) (opened : Opened) (end : End) (line : List ℕ)
    (old left bytes : Option (List ℕ)) (pending : List ℕ) (held : Option (List ℕ) → List Frame → Type 0)
    → opened ≡ Ended end
    → IfSome old (λ text. FrontComesTo explains remarks opened (recording_by explains config text) line left)
    → IfSome old
    (λ text. ComesTo (recording_by explains config text) (stops (exit_status end)) bytes bytes pending pending
    held held)
script-ends explains remarks config opened end line None left bytes pending held is comes = tt
script-ends explains remarks config opened end line (Some text) left bytes pending held is comes =
    front-ends (recording_by explains config text) explains remarks opened end line left bytes pending held is
    comes

pub script-runs : (explains remarks : Bool) (config : Config) (lines : ℕ) (opened : Opened) (run : Phase) (end : End)
    (line : List ℕ) (old left was now : Option (List ℕ)) (before after : Report)
    (held holds : Option (List ℕ) → List Frame → Type 0) → opened ≡ Runs run lines
    → IfSome old (λ text. FrontComesTo explains remarks opened (recording_by explains config text) line left)
    → OpenedEnds remarks lines run line left end before after was now held holds
    → IfSome old
    (λ text. EndsSo (recording_by explains config text) end before after was now held holds)
script-runs explains remarks config lines opened run end line None left was now before after held holds is comes
    ends = tt
script-runs explains remarks config lines opened run end line (Some text) left was now before after held holds is
    comes ends =
    front-runs (recording_by explains config text) (stops (exit_status end)) explains remarks lines opened run line
    left was now before.pending.items after.pending.items held holds is comes ends

-- a status is told, and what was pending is handed on
pub records-so : {E : Type 0} (r : Result ℕ E) (end : End) (input : Option (List ℕ)) (explains : Bool) (config : Config)
    (old now new : Option (List ℕ)) (before pending : List ℕ)
    (held holds later : Option (List ℕ) → List Frame → Type 0)
    → IfOk r (λ status. status ≡ exit_status end) → before ≡ [] → Appends now new pending
    → HoldsMore [] holds later
    → IfSome input
    (λ text. ComesTo (recording_by explains config text) (stops (exit_status end)) old now before pending held holds)
    → IfOk r (λ status. Records explains config input status old new held later)
records-so (Err e) end input explains config old now new before pending held holds later told none appends keeps leads = told
records-so (Ok status) end None explains config old now new before pending held holds later told none appends keeps leads =
    tt
records-so (Ok status) end (Some text) explains config old now new before pending held holds later told none appends keeps
    leads =
    subst (λ status. RecordsAs (recording_by explains config text) status old new held later) (sym told)
    (all-written (recording_by explains config text) (exit_status end) old now new pending held holds later
    (subst
    (λ before. ComesTo (recording_by explains config text) (stops (exit_status end)) old now before pending held
    holds) none leads)
    appends keeps)

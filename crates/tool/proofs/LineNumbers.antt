-- Where no reasons are told, the numbers of lines make no difference.
use Rattle.std.proofs.Common.{◌≡◌, ◌∙◌, ℕ, Bool, true, false, List, [], ◌∷◌, refl, ap, Option, None, Some, Result, Ok, Err}
use Rattle.std.specs.Prelude.{if◌then◌else◌}
use Rattle.sp_cells.specs.Config.{Config}
use Rattle.sp_cells.specs.declared.error.SetError.{SetError}
use Rattle.locking.specs.declared.range.RangeRow.{RangeRow}
use Rattle.history.specs.Opening.{Origin, row_fault}
use Rattle.history.specs.History.{Act}
use Rattle.port_history.specs.declared.step.Step.{Step}
use Rattle.script_lines.specs.Lines.{line_said}
use Rattle.script_lines.specs.PortLines.{is_port_line, port_line_of}
use Rattle.script_lines.specs.Texts.{last_of}
use Rattle.script_lines.specs.declared.fault.LineFault.{LineFault}
use Rattle.tool.specs.Scripts.{ScriptLine}
use Rattle.tool.specs.Laws.{texts_of, LineNumberLaw}
use Rattle.drive_scripts.specs.Effects.{LineEffect}
use Rattle.port_scripts.specs.PortEffects.{PortEffect}
use Rattle.script_lines.specs.KnownSessions.{Known, learned, plain_line}
use Rattle.script_lines.specs.declared.named_lines.fault.CallFault.{CallFault}
use Rattle.tool.specs.Courses.{Advance, DriveScript, NamedScript, PortScript, advance_in, learns_of, named_step, start}
use Rattle.tool.specs.declared.head.ScriptKind.{ScriptKind}
use Rattle.tool.specs.declared.head.ScriptKind.TheVariants as kinds
use Rattle.drive_scripts.specs.DriveCourses.{OnDrive, goes_on_drive, line_course}
use Rattle.port_scripts.specs.PortCourses.{OnPort, on_port, port_step}
use Rattle.tool.specs.Openings.{origin_of, base_of, row_said}
use Rattle.tool.specs.Outcomes.{RunOutcome, onward, outcome_on, outcome_from, outcome_of_lines, printed_by, printed_first, set_then, opened_by, opened}
use Rattle.tool.specs.declared.opening.OpeningPhase.{OpeningPhase}
use Rattle.tool.specs.declared.opening.OpeningPhase.TheVariants.{Factory}

-- what comes behind a line of a drive, and of a port, alone decides
drive-onward : (r : Result LineEffect ℕ) (f g : Advance → RunOutcome)
    → ((acts : List Act) (lines : List (List ℕ))
    → f (record { course = DriveScript (OnDrive acts); lines = lines; reasons = [] })
    ≡ g (record { course = DriveScript (OnDrive acts); lines = lines; reasons = [] }))
    → onward f (advance_in DriveScript (goes_on_drive r))
    ≡ onward g (advance_in DriveScript (goes_on_drive r))
drive-onward (Ok effect) f g same =
    ap (printed_first (printed_by (record { course = DriveScript (OnDrive effect.acts); lines = effect.lines; reasons = [] })))
    (same effect.acts effect.lines)
drive-onward (Err status) f g same = refl

port-onward : (r : Result PortEffect ℕ) (f g : Advance → RunOutcome)
    → ((list : List Step) (lines : List (List ℕ))
    → f (record { course = PortScript (OnPort list); lines = lines; reasons = [] })
    ≡ g (record { course = PortScript (OnPort list); lines = lines; reasons = [] }))
    → onward f (advance_in PortScript (on_port r))
    ≡ onward g (advance_in PortScript (on_port r))
port-onward (Ok effect) f g same =
    ap (printed_first (printed_by (record { course = PortScript (OnPort effect.steps); lines = effect.lines; reasons = [] })))
    (same effect.steps effect.lines)
port-onward (Err status) f g same = refl

on-drive : (o : Origin) (acts : List Act) (last : List ℕ) (ones others : List ScriptLine)
    → texts_of ones ≡ texts_of others
    → outcome_on o (DriveScript (OnDrive acts)) last ones ≡ outcome_on o (DriveScript (OnDrive acts)) last others
unfolding outcome_on
on-drive o acts last [] [] same = refl
on-drive o acts last [] (other ∷ others) same = absurd (cc same)
on-drive o acts last (one ∷ ones) [] same = absurd (cc same)
on-drive o acts last (one ∷ ones) (other ∷ others) same =
    let text : one.text ≡ other.text = cc same in
    let rest : texts_of ones ≡ texts_of others = cc same in
    drive-onward (line_course o acts last one.text (line_said one.text))
    (λ made. outcome_on o made.course (last_of last made.lines) ones)
    (λ made. outcome_on o made.course (last_of last made.lines) others)
    (λ later lines. on-drive o later (last_of last lines) ones others rest)
    ∙ ap
    (λ (t : List ℕ). onward (λ made. outcome_on o made.course (last_of last made.lines) others)
    (advance_in DriveScript (goes_on_drive (line_course o acts last t (line_said t))))) text

on-a-port : (o : Origin) (list : List Step) (last : List ℕ) (ones others : List ScriptLine)
    → texts_of ones ≡ texts_of others
    → outcome_on o (PortScript (OnPort list)) last ones ≡ outcome_on o (PortScript (OnPort list)) last others
unfolding outcome_on
on-a-port o list last [] [] same = refl
on-a-port o list last [] (other ∷ others) same = absurd (cc same)
on-a-port o list last (one ∷ ones) [] same = absurd (cc same)
on-a-port o list last (one ∷ ones) (other ∷ others) same =
    let text : one.text ≡ other.text = cc same in
    let rest : texts_of ones ≡ texts_of others = cc same in
    port-onward (port_step o list last one.text (port_line_of one.text))
    (λ made. outcome_on o made.course (last_of last made.lines) ones)
    (λ made. outcome_on o made.course (last_of last made.lines) others)
    (λ later lines. on-a-port o later (last_of last lines) ones others rest)
    ∙ ap
    (λ (t : List ℕ). onward (λ made. outcome_on o made.course (last_of last made.lines) others)
    (advance_in PortScript (on_port (port_step o list last t (port_line_of t))))) text

-- and of a drive whose lines may write calls by name
effect-onward : (r : Result LineEffect ℕ) (known : Known) (text last : List ℕ) (f g : Advance → RunOutcome)
    → ((known : Known) (acts : List Act) (lines : List (List ℕ))
    → f (record { course = NamedScript known (OnDrive acts); lines = lines; reasons = [] })
    ≡ g (record { course = NamedScript known (OnDrive acts); lines = lines; reasons = [] }))
    → onward f (learns_of known text last (goes_on_drive r)) ≡ onward g (learns_of known text last (goes_on_drive r))
effect-onward (Ok effect) known text last f g same =
    let later = learned known text (last_of last effect.lines) in
    ap (printed_first (printed_by (record { course = NamedScript later (OnDrive effect.acts); lines = effect.lines; reasons = [] })))
    (same later effect.acts effect.lines)
effect-onward (Err status) known text last f g same = refl

named-onward : (o : Origin) (known : Known) (acts : List Act) (last : List ℕ) (number behind : ℕ)
    (plain : Result (List ℕ) CallFault) (f g : Advance → RunOutcome)
    → ((known : Known) (acts : List Act) (lines : List (List ℕ))
    → f (record { course = NamedScript known (OnDrive acts); lines = lines; reasons = [] })
    ≡ g (record { course = NamedScript known (OnDrive acts); lines = lines; reasons = [] }))
    → onward f (named_step o known (OnDrive acts) last number plain)
    ≡ onward g (named_step o known (OnDrive acts) last behind plain)
named-onward o known acts last number behind (Ok text) f g same =
    effect-onward (line_course o acts last text (line_said text)) known text last f g same
named-onward o known acts last number behind (Err fault) f g same = refl

on-named : (o : Origin) (known : Known) (acts : List Act) (last : List ℕ) (ones others : List ScriptLine)
    → texts_of ones ≡ texts_of others
    → outcome_on o (NamedScript known (OnDrive acts)) last ones
    ≡ outcome_on o (NamedScript known (OnDrive acts)) last others
unfolding outcome_on
on-named o known acts last [] [] same = refl
on-named o known acts last [] (other ∷ others) same = absurd (cc same)
on-named o known acts last (one ∷ ones) [] same = absurd (cc same)
on-named o known acts last (one ∷ ones) (other ∷ others) same =
    let text : one.text ≡ other.text = cc same in
    let rest : texts_of ones ≡ texts_of others = cc same in
    named-onward o known acts last one.number other.number (plain_line known one.text)
    (λ made. outcome_on o made.course (last_of last made.lines) ones)
    (λ made. outcome_on o made.course (last_of last made.lines) others)
    (λ later acts lines. on-named o later acts (last_of last lines) ones others rest)
    ∙ ap
    (λ (t : List ℕ). onward (λ made. outcome_on o made.course (last_of last made.lines) others)
    (named_step o known (OnDrive acts) last other.number (plain_line known t))) text

from-start : (kind : ScriptKind) (o : Origin) (ones others : List ScriptLine)
    → texts_of ones ≡ texts_of others
    → outcome_on o (start false kind) [] ones ≡ outcome_on o (start false kind) [] others
from-start kinds.Drive o ones others same = on-drive o [] [] ones others same
from-start kinds.DriveWithNames o ones others same = on-named o [] [] [] ones others same
from-start kinds.Port o ones others same = on-a-port o [] [] ones others same

-- and so it is behind a range line
set-same : (f g : OpeningPhase → RunOutcome) (o : Origin) (row : RangeRow) (fault : Option SetError)
    → ((next : OpeningPhase) → f next ≡ g next) → set_then f o row fault ≡ set_then g o row fault
set-same f g o row None same = same _
set-same f g o row (Some error) same = refl

opened-same : (f g : OpeningPhase → RunOutcome) (one other : RunOutcome) (phase : OpeningPhase)
    (read : Result (Option RangeRow) LineFault) → ((next : OpeningPhase) → f next ≡ g next)
    → one ≡ other → opened f one phase read ≡ opened g other phase read
opened-same f g one other phase (Ok (Some row)) same runs =
    set-same f g (base_of phase) row (row_fault (base_of phase) row) same
opened-same f g one other phase (Ok None) same runs = runs
opened-same f g one other phase (Err fault) same runs = refl

from-phase : (kind : ScriptKind) (phase : OpeningPhase) (ones others : List ScriptLine)
    → texts_of ones ≡ texts_of others
    → outcome_from false kind phase ones ≡ outcome_from false kind phase others
unfolding outcome_from
from-phase kind phase [] [] same = refl
from-phase kind phase [] (other ∷ others) same = absurd (cc same)
from-phase kind phase (one ∷ ones) [] same = absurd (cc same)
from-phase kind phase (one ∷ ones) (other ∷ others) same =
    let text : one.text ≡ other.text = cc same in
    let rest : texts_of ones ≡ texts_of others = cc same in
    opened-same
    (λ next. outcome_from false kind next ones)
    (λ next. outcome_from false kind next others)
    (outcome_on (origin_of phase) (start false kind) [] (one ∷ ones))
    (outcome_on (origin_of phase) (start false kind) [] (other ∷ others)) phase
    (row_said kind one.text)
    (λ next. from-phase kind next ones others rest)
    (from-start kind (origin_of phase) (one ∷ ones) (other ∷ others) same)
    ∙ ap
    (λ (t : List ℕ). opened (λ next. outcome_from false kind next others)
    (outcome_on (origin_of phase) (start false kind) [] (other ∷ others)) phase
    (row_said kind t)) text

pub number_law : LineNumberLaw
number_law kind config [] [] same = refl
number_law kind config [] (other ∷ others) same = absurd (cc same)
number_law kind config (one ∷ ones) [] same = absurd (cc same)
number_law kind config (one ∷ ones) (other ∷ others) same =
    let text : one.text ≡ other.text = cc same in
    ap
    (λ (b : Bool). if b then outcome_from false kinds.Port (Factory config) ones
    else outcome_from false kind (Factory config) (one ∷ ones)) (ap is_port_line text)
    ∙ either (is_port_line other.text)
  where
    either : (b : Bool)
        → (if b then outcome_from false kinds.Port (Factory config) ones
        else outcome_from false kind (Factory config) (one ∷ ones))
        ≡ (if b then outcome_from false kinds.Port (Factory config) others
        else outcome_from false kind (Factory config) (other ∷ others))
    either true = from-phase kinds.Port (Factory config) ones others (cc same)
    either false = from-phase kind (Factory config) (one ∷ ones) (other ∷ others) same

pub ruleset of_numbers = (number_law)

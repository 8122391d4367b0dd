-- The lines in front of those that run.
use Rattle.std.proofs.Common.{◌≡◌, ◌∙◌, ℕ, ◌+◌, Bool, true, false, List, [], ◌∷◌, refl, sym, ap, subst, Option, Some, None, IfSome, Result, Ok, Err}
use Rattle.std.specs.Prelude.{if◌then◌else◌}
use Rattle.std.specs.Io.BufRead.{drop_through}
use Rattle.locking.specs.declared.range.RangeRow.{RangeRow}
use Rattle.history.specs.Opening.{Origin}
use Rattle.script_lines.specs.PortLines.{is_port_line}
use Rattle.script_lines.specs.declared.fault.LineFault.{LineFault}
use Rattle.tool.specs.Scripts.{ScriptLine, bare, drive_kind, lines_from, lines_of_text, with_numbers, script_lines, is_skipped, without_remarks, TakesLine}
use Rattle.tool.specs.Courses.{PhaseRunsOn, PhaseStands, start}
use Rattle.tool.specs.Openings.{origin_of, base_of, row_said, OpensBy}
use Rattle.drive_scripts.specs.declared.turn.Fault.TheVariants as faults
use Rattle.tool.specs.declared.head.Head.{Head}
use Rattle.tool.specs.declared.head.ScriptKind.{ScriptKind}
use Rattle.tool.specs.declared.head.ScriptKind.TheVariants as kinds
use Rattle.tool.specs.declared.phase.Phase.{Phase}
use Rattle.tool.specs.declared.opening.OpeningPhase.{OpeningPhase}
use Rattle.tool.specs.declared.opening.OpeningTurn.{OpeningTurn}
use Rattle.tool.specs.declared.opening.OpeningTurn.TheVariants as openings
use Rattle.tool.proofs.Texts.{taken}
use Rattle.runs.specs.Recordings.{Recording, stops, recording_opened, recording_from, recording_of_lines, row_set, row_read}
use Rattle.runs.specs.Progress.{OpensSo, TurnsSo, front_recording, front_turn, line_at}
use Rattle.runs.specs.declared.recorded.front.Front.{Front}
use Rattle.runs.specs.declared.recorded.front.Front.TheVariants as fronts
use Rattle.runs.specs.declared.recorded.front.FrontTurn.{FrontTurn}
use Rattle.runs.specs.declared.recorded.front.FrontTurn.TheVariants as turns

-- what a line says that is no remark
row-so : (head : Head) (phase : OpeningPhase) (text : List ℕ) (row : Option RangeRow) (turn : OpeningTurn)
    → row_said head.kind text ≡ Ok row → OpensBy head phase row turn
    → OpensSo head.explains head.kind phase text turn
unfolding recording_from
row-so head phase text (Some row) (openings.Goes next) reads does = λ number lines.
    let then_comes = λ (next : OpeningPhase). recording_from head.explains head.kind next lines in
    let runs = recording_opened (origin_of phase) (start head.explains head.kind) (line_at number text ∷ lines) in
    ap (row_read then_comes runs phase) reads ∙ ap (row_set then_comes (base_of phase) row) does.0
    ∙ sym (ap then_comes does.1)
row-so head phase text (Some row) (openings.Runs run) reads does = absurd does
row-so head phase text (Some row) (openings.Bad fault) reads does = λ number lines.
    let then_comes = λ (next : OpeningPhase). recording_from head.explains head.kind next lines in
    let runs = recording_opened (origin_of phase) (start head.explains head.kind) (line_at number text ∷ lines) in
    ap (row_read then_comes runs phase) reads ∙ ap (row_set then_comes (base_of phase) row) does.2
row-so head phase text None (openings.Goes next) reads does = absurd does
row-so head phase text None (openings.Runs run) reads does = (
  origin_of phase,
  does,
  λ number lines.
      let then_comes = λ (next : OpeningPhase). recording_from head.explains head.kind next lines in
      let runs = recording_opened (origin_of phase) (start head.explains head.kind) (line_at number text ∷ lines) in
      ap (row_read then_comes runs phase) reads,
)
row-so head phase text None (openings.Bad fault) reads does = absurd does

fault-so : (explains : Bool) (kind : ScriptKind) (phase : OpeningPhase) (text : List ℕ) (fault : LineFault)
    → row_said kind text ≡ Err fault
    → OpensSo explains kind phase text (openings.Bad (faults.Line fault))
unfolding recording_from
fault-so explains kind phase text fault reads = λ number lines.
    ap
    (row_read (λ (next : OpeningPhase). recording_from explains kind next lines)
    (recording_opened (origin_of phase) (start explains kind) (line_at number text ∷ lines)) phase) reads

opens-by : (head : Head) (phase : OpeningPhase) (text : List ℕ) (turn : OpeningTurn)
    (read : Result (Option RangeRow) LineFault) → row_said head.kind text ≡ read
    → ((row : Option RangeRow) → row_said head.kind text ≡ Ok row → OpensBy head phase row turn)
    → ((fault : LineFault) → row_said head.kind text ≡ Err fault
    → turn ≡ openings.Bad (faults.Line fault))
    → OpensSo head.explains head.kind phase text turn
opens-by head phase text turn (Ok row) reads does bad =
    row-so head phase text row turn reads (does row reads)
opens-by head phase text turn (Err fault) reads does bad =
    subst (OpensSo head.explains head.kind phase text) (sym (bad fault reads))
    (fault-so head.explains head.kind phase text fault reads)

pub opens-so : {E : Type 0} (head : Head) (phase : OpeningPhase) (text : List ℕ) (turn : OpeningTurn)
    → ((row : Option RangeRow) → row_said head.kind text ≡ Ok row → OpensBy head phase row turn)
    → ((fault : LineFault) → row_said head.kind text ≡ Err fault
    → ◌≡◌ {A = Result OpeningTurn E} (Ok turn) (Ok (openings.Bad (faults.Line fault))))
    → OpensSo head.explains head.kind phase text turn
opens-so head phase text turn does bad =
    opens-by head phase text turn (row_said head.kind text) refl does
    (λ fault reads. cc (bad fault reads))

-- remarks
skips : (remarks : Bool) (line : ScriptLine) (lines : List ScriptLine)
    → is_skipped remarks line.text ≡ true → without_remarks remarks (line ∷ lines) ≡ without_remarks remarks lines
unfolding without_remarks
skips remarks line lines is =
    ap (λ (b : Bool). if b then without_remarks remarks lines else line ∷ without_remarks remarks lines) is

keeps : (remarks : Bool) (line : ScriptLine) (lines : List ScriptLine)
    → is_skipped remarks line.text ≡ false
    → without_remarks remarks (line ∷ lines) ≡ line ∷ without_remarks remarks lines
unfolding without_remarks
keeps remarks line lines is =
    ap (λ (b : Bool). if b then without_remarks remarks lines else line ∷ without_remarks remarks lines) is

pub skipped-so : (explains remarks : Bool) (front : Front) (text : List ℕ) → is_skipped remarks text ≡ true
    → TurnsSo explains remarks front text (turns.Goes front)
skipped-so explains remarks front text is = λ number lines.
    ap (front_recording explains front) (skips remarks (line_at number text) lines is)

-- a line that is no remark, where lines told where the script runs
by-opening : (explains remarks : Bool) (kind : ScriptKind) (front : Front) (phase : OpeningPhase) (text : List ℕ) (turn : OpeningTurn)
    → is_skipped remarks text ≡ false
    → ((line : ScriptLine) (lines : List ScriptLine) → line.text ≡ text
    → front_recording explains front (line ∷ lines) ≡ recording_from explains kind phase (line ∷ lines))
    → OpensSo explains kind phase text turn → TurnsSo explains remarks front text (front_turn kind turn)
by-opening explains remarks kind front phase text (openings.Goes next) stays same opens = λ number lines.
    ap (front_recording explains front) (keeps remarks (line_at number text) lines stays)
    ∙ same (line_at number text) (without_remarks remarks lines) refl
    ∙ opens number (without_remarks remarks lines)
by-opening explains remarks kind front phase text (openings.Runs run) stays same (o, runs, opens) = (
  o,
  kind,
  runs,
  λ number lines.
      ap (front_recording explains front) (keeps remarks (line_at number text) lines stays)
      ∙ same (line_at number text) (without_remarks remarks lines) refl
      ∙ opens number (without_remarks remarks lines)
      ∙ ap (recording_opened o (start explains kind)) (sym (keeps remarks (line_at number text) lines stays)),
)
by-opening explains remarks kind front phase text (openings.Bad fault) stays same opens = λ number lines.
    ap (front_recording explains front) (keeps remarks (line_at number text) lines stays)
    ∙ same (line_at number text) (without_remarks remarks lines) refl
    ∙ opens number (without_remarks remarks lines)

pub told-so : (explains remarks : Bool) (kind : ScriptKind) (phase : OpeningPhase) (text : List ℕ) (turn : OpeningTurn)
    → is_skipped remarks text ≡ false → OpensSo explains kind phase text turn
    → TurnsSo explains remarks (fronts.Told kind phase) text (front_turn kind turn)
told-so explains remarks kind phase text turn stays opens =
    by-opening explains remarks kind (fronts.Told kind phase) phase text turn stays (λ line lines is. refl) opens

-- the first such line
pub bare-so : (explains remarks : Bool) (kind : ScriptKind) (phase : OpeningPhase) (text : List ℕ) (turn : OpeningTurn)
    → is_skipped remarks text ≡ false → is_port_line text ≡ false → OpensSo explains kind phase text turn
    → TurnsSo explains remarks (fronts.Bare kind phase) text (front_turn kind turn)
bare-so explains remarks kind phase text turn stays other opens =
    by-opening explains remarks kind (fronts.Bare kind phase) phase text turn stays
    (λ line lines is.
    ap
    (λ (b : Bool). if b then recording_from explains kinds.Port phase lines
    else recording_from explains kind phase (line ∷ lines))
    (ap is_port_line is ∙ other))
    opens

pub port-so : (explains remarks : Bool) (kind : ScriptKind) (phase : OpeningPhase) (text : List ℕ)
    → is_skipped remarks text ≡ false → is_port_line text ≡ true
    → TurnsSo explains remarks (fronts.Bare kind phase) text (turns.Goes (fronts.Told kinds.Port phase))
port-so explains remarks kind phase text stays port = λ number lines.
    let line = line_at number text in
    ap (recording_of_lines explains kind phase) (keeps remarks line lines stays)
    ∙ ap
    (λ (b : Bool). if b then recording_from explains kinds.Port phase (without_remarks remarks lines)
    else recording_from explains kind phase (line ∷ without_remarks remarks lines))
    port

-- of a whole script this is still to come, where the line at hand, behind so many others, is in front
abbrev pub StillFront : Bool → Bool → ℕ → Recording → Front → List ℕ → Option (List ℕ) → Type 0
StillFront explains remarks lines whole front line left =
    (text : List ℕ) × (left ≡ Some text)
    × (whole ≡ front_recording explains front (lines_from remarks lines line text))

-- or with no line at hand
abbrev pub FrontOn : Bool → Bool → ℕ → Recording → Front → Option (List ℕ) → Type 0
FrontOn explains remarks lines whole front left =
    (text : List ℕ) × (left ≡ Some text)
    × (whole ≡ front_recording explains front (without_remarks remarks (with_numbers (lines + 1) (script_lines text))))

pub front-first : (left : Option (List ℕ)) (explains remarks : Bool) (phase : OpeningPhase) (line : List ℕ)
    → IfSome left
    (λ text. StillFront explains remarks 0
    (recording_of_lines explains (drive_kind remarks) phase (lines_from remarks 0 line text))
    (fronts.Bare (drive_kind remarks) phase) line left)
front-first None explains remarks phase line = tt
front-first (Some text) explains remarks phase line = (text, refl, refl)

-- what a turn leaves to come
abbrev pub FrontTurned : Bool → Bool → ℕ → FrontTurn → Recording → List ℕ → Option (List ℕ) → Type 0
FrontTurned explains remarks lines (turns.Goes next) whole line left = FrontOn explains remarks lines whole next left
FrontTurned explains remarks lines (turns.Runs run) whole line left =
    (o : Origin) × (kind : ScriptKind) × (text : List ℕ) × PhaseRunsOn run o (start explains kind)
    × (left ≡ Some text)
    × (whole ≡ recording_opened o (start explains kind) (lines_from remarks lines line text))
FrontTurned explains remarks lines (turns.Bad fault) whole line left = whole ≡ stops 2

turned-by : (explains remarks : Bool) (lines : ℕ) (turn : FrontTurn) (whole : Recording) (front : Front)
    (line rest : List ℕ) (left : Option (List ℕ)) → left ≡ Some rest
    → whole ≡ front_recording explains front (lines_from remarks lines line rest)
    → TurnsSo explains remarks front (bare line) turn → FrontTurned explains remarks lines turn whole line left
unfolding with_numbers
turned-by explains remarks lines (turns.Goes next) whole front line rest left is comes so =
    (rest, is, comes ∙ so (lines + 1) (with_numbers (lines + 1) (script_lines rest)))
turned-by explains remarks lines (turns.Runs run) whole front line rest left is comes (o, kind, runs, so) =
    (o, kind, rest, runs, is, comes ∙ so (lines + 1) (with_numbers (lines + 1) (script_lines rest)))
turned-by explains remarks lines (turns.Bad fault) whole front line rest left is comes so =
    comes ∙ so (lines + 1) (with_numbers (lines + 1) (script_lines rest))

pub front-turned : (explains remarks : Bool) (lines : ℕ) (turn : FrontTurn) (whole : Recording) (front : Front)
    (line text : List ℕ) (left : Option (List ℕ)) → text ≡ bare line
    → StillFront explains remarks lines whole front line left → TurnsSo explains remarks front text turn
    → FrontTurned explains remarks lines turn whole line left
front-turned explains remarks lines turn whole front line text left shown (rest, is, comes) so =
    turned-by explains remarks lines turn whole front line rest left is comes
    (subst (λ text. TurnsSo explains remarks front text turn) shown so)

-- the next line is read
pub next-front : (explains remarks : Bool) (lines : ℕ) (whole : Recording) (front : Front) (line : List ℕ)
    (left later : Option (List ℕ)) → FrontOn explains remarks lines whole front left
    → IfSome left (λ text. TakesLine true line text later)
    → StillFront explains remarks (lines + 1) whole front line later
next-front explains remarks lines whole front line left later (text, is, comes) takes =
    let first = taken left later line text is takes in (
      drop_through 10 text,
      first.0,
      comes ∙ ap (λ texts. front_recording explains front (without_remarks remarks (with_numbers (lines + 1) texts))) first.1,
    )

-- none is left
no-lines : (explains : Bool) (front : Front) → front_recording explains front [] ≡ stops 0
unfolding recording_from
no-lines explains (fronts.Bare kind phase) = refl
no-lines explains (fronts.Told kind phase) = refl

pub nothing-front : (explains remarks : Bool) (lines : ℕ) (whole : Recording) (front : Front) (line : List ℕ)
    (left later : Option (List ℕ)) → FrontOn explains remarks lines whole front left
    → IfSome left (λ text. TakesLine false line text later) → whole ≡ stops 0
unfolding without_remarks with_numbers lines_of_text
nothing-front explains remarks lines whole front line left later (text, is, comes) takes =
    let none : text ≡ [] = subst (λ o. IfSome o (λ text. TakesLine false line text later)) is takes in
    comes
    ∙ ap (λ text. front_recording explains front (without_remarks remarks (with_numbers (lines + 1) (script_lines text)))) none
    ∙ no-lines explains front

-- what runs stands
pub stands-so : (explains remarks : Bool) (front : Front) (text : List ℕ) (turn : FrontTurn)
    (run : Phase) → turn ≡ turns.Runs run → TurnsSo explains remarks front text turn → PhaseStands run
stands-so explains remarks front text turn run is so =
    let (o, kind, runs, comes) = subst (TurnsSo explains remarks front text) is so in
    (o, start explains kind, runs)

-- What the range lines of a script open.
use Rattle.std.specs.Prelude.{◌≡◌, List, ℕ, Option, None, Some, Result, Ok, Err, ⊤}
use Rattle.sp_cells.specs.Config.{Config}
use Rattle.history.specs.Opening.{Origin, factory_origin, activated_origin, row_fault, with_range}
use Rattle.script_lines.specs.declared.line.Line.{Line}
use Rattle.script_lines.specs.declared.line.Line.TheVariants.{Range}
use Rattle.script_lines.specs.declared.port_line.PortLine.{PortLine}
use Rattle.script_lines.specs.declared.port_line.PortLine.TheVariants as port_lines
use Rattle.script_lines.specs.declared.fault.LineFault.{LineFault}
use Rattle.script_lines.specs.CallVerbs.{call_verb_of}
use Rattle.script_lines.specs.Lines.{line_said}
use Rattle.script_lines.specs.Words.{first_word}
use Rattle.script_lines.specs.declared.named_lines.verb.CallVerb.{CallVerb}
use Rattle.script_lines.specs.PortLines.{port_line_of}
use Rattle.locking.specs.declared.range.RangeRow.{RangeRow}
use Rattle.sp_cells.specs.declared.error.SetError.{SetError}
use Rattle.tool.specs.Courses.{PhaseRunsOn, PhaseStands, start}
use Rattle.drive_scripts.specs.declared.turn.Fault.TheVariants.{RefusedRow}
use Rattle.tool.specs.declared.head.Head.{Head}
use Rattle.tool.specs.declared.head.ScriptKind.{ScriptKind}
use Rattle.tool.specs.declared.head.ScriptKind.TheVariants as kinds
use Rattle.tool.specs.declared.opening.OpeningTurn.{OpeningTurn}
use Rattle.tool.specs.declared.opening.OpeningTurn.TheVariants.{Goes, Runs, Bad}
use Rattle.tool.specs.declared.opening.OpeningPhase.{OpeningPhase}
use Rattle.tool.specs.declared.opening.OpeningPhase.TheVariants.{Factory, Activated}

-- what the drive of a script starts from: without a range line it is as it leaves the factory
abbrev pub origin_of : OpeningPhase → Origin
origin_of (Factory config) = factory_origin config
origin_of (Activated o) = o

-- what the next range line is set over: the first one makes the Locking SP active
abbrev pub base_of : OpeningPhase → Origin
base_of (Factory config) = activated_origin config
base_of (Activated o) = o

-- the row is set, or it is told why not
abbrev pub SetsRow : Origin → RangeRow → OpeningTurn → Type 0
SetsRow o row (Goes phase) = (row_fault o row ≡ None) × (phase ≡ Activated (with_range row o))
SetsRow o row (Runs run) = ⊥
SetsRow o row (Bad fault) = (error : SetError) × (fault ≡ RefusedRow row.range error)
    × (row_fault o row ≡ Some error)

-- the drive is opened, and nothing was done on it, or on the port in front of it
abbrev pub RunsFrom : Head → Origin → OpeningTurn → Type 0
RunsFrom head o (Goes phase) = ⊥
RunsFrom head o (Runs run) = PhaseRunsOn run o (start head.explains head.kind)
RunsFrom head o (Bad fault) = ⊥

-- the row of a range line
abbrev pub row_of_line : Line → Option RangeRow
row_of_line (Range row) = Some row
row_of_line _ = None

abbrev pub row_in_port : PortLine → Option RangeRow
row_in_port (port_lines.Range row) = Some row
row_in_port _ = None

abbrev pub row_or_fault : Result Line LineFault → Result (Option RangeRow) LineFault
row_or_fault (Ok line) = Ok (row_of_line line)
row_or_fault (Err fault) = Err fault

abbrev pub said_of_port : Result PortLine LineFault → Result (Option RangeRow) LineFault
said_of_port (Ok line) = Ok (row_in_port line)
said_of_port (Err fault) = Err fault

-- a line that writes a call by name gives none
abbrev pub row_unless_named : Option CallVerb → List ℕ → Result (Option RangeRow) LineFault
row_unless_named (Some verb) text = Ok None
row_unless_named None text = row_or_fault (line_said text)

-- the row that a line gives, by what the lines of its script are
abbrev pub row_said : ScriptKind → List ℕ → Result (Option RangeRow) LineFault
row_said kinds.Drive text = row_or_fault (line_said text)
row_said kinds.DriveWithNames text = row_unless_named (call_verb_of (first_word text)) text
row_said kinds.Port text = said_of_port (port_line_of text)

-- what a line does: a range line sets its row, and any other opens the drive
abbrev pub OpensBy : Head → OpeningPhase → Option RangeRow → OpeningTurn → Type 0
OpensBy head phase (Some row) turn = SetsRow (base_of phase) row turn
OpensBy head phase None turn = RunsFrom head (origin_of phase) turn

-- what runs is as an origin and a course leave it
abbrev pub TurnStands : OpeningTurn → Type 0
TurnStands (Goes phase) = ⊤
TurnStands (Runs run) = PhaseStands run
TurnStands (Bad fault) = ⊤

-- what a script begins with
abbrev pub opens_with : Config → OpeningPhase
opens_with config = Factory config

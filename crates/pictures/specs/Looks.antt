-- What each lane of a picture shows.
use Rattle.std.specs.Prelude.{ℕ, ◌-◌, ◌==◌, nat_le, Bool, true, false, not, ◌&&◌, ◌||◌, List, [], ◌∷◌, ◌++◌, Option, Some, None, slice_get, codes, decimal, if◌then◌else◌}
use Rattle.sp_cells.specs.declared.names.Sp.{Sp}
use Rattle.sp_cells.specs.declared.names.Sp.TheVariants.{Admin, Locking}
use Rattle.port_history.specs.declared.stages.Stage.{Stage}
use Rattle.port_history.specs.declared.stages.Stage.TheVariants as stages
use Rattle.drawing.specs.declared.paint.Paint.{Paint}
use Rattle.drawing.specs.declared.paint.Paint.TheVariants as paints
use Rattle.pictures.specs.Names.{numbered_name}
use Rattle.pictures.specs.Samples.{calls_in}
use Rattle.pictures.specs.declared.samples.frame.Frame.{Frame}
use Rattle.pictures.specs.declared.samples.locks.Locks.{Locks}
use Rattle.pictures.specs.declared.pictured.lane.Lane.{Lane}
use Rattle.pictures.specs.declared.pictured.lane.Lane.TheVariants.{Lines, Slot, Failure, Session, Transaction, Shadow, Range}
use Rattle.pictures.specs.declared.pictured.look.Look.{Look}
use Rattle.pictures.specs.declared.pictured.look.Look.TheVariants.{Line, Command, Locked, Up}

-- How a line ended, by the first letter of the last line that it printed: `ok` and `data` tell that it was done, `reset`
-- and `refused` that it was not, and `fail` and `audit` that it failed.
abbrev pub first_letter : List ℕ → ℕ
first_letter [] = 0
first_letter (letter ∷ letters) = letter

abbrev pub ending_by : ℕ → Paint
ending_by letter =
    if (letter == 111) || (letter == 100) then paints.Done
    else if letter == 114 then paints.Stopped else paints.Failed

abbrev pub ending_of : List ℕ → Paint
ending_of last = ending_by (first_letter last)

-- the audit line of a denial
abbrev pub is_denial : List ℕ → Bool
is_denial last = first_letter last == 97

-- the lanes from above: the lines, 32 slots, the queue, both SPs, the shadow, and 17 ranges
abbrev pub lane_at : ℕ → Lane
lane_at place =
    if place == 0 then Lines
    else if nat_le place 32 then Slot (place - 1)
    else if place == 33 then Failure
    else if place == 34 then Session Admin
    else if place == 35 then Transaction Admin
    else if place == 36 then Session Locking
    else if place == 37 then Transaction Locking
    else if place == 38 then Shadow
    else Range (place - 39)

-- the name of a lane
unfoldable pub lane_word : Lane → List ℕ
lane_word Lines = codes "lines"
lane_word (Slot tag) = codes "slot "
lane_word Failure = codes "queue failed"
lane_word (Session Admin) = codes "Admin SP session"
lane_word (Session Locking) = codes "Locking SP session"
lane_word (Transaction Admin) = codes "Admin SP transaction"
lane_word (Transaction Locking) = codes "Locking SP transaction"
lane_word Shadow = codes "shadow MBR"
lane_word (Range range) = codes "range "

abbrev pub lane_number : Lane → Option ℕ
lane_number (Slot tag) = Some tag
lane_number (Range range) = Some range
lane_number _ = None

abbrev pub lane_name : Lane → List ℕ
lane_name lane = numbered_name (lane_word lane) (lane_number lane)

-- the colour of a lane whose bars have one colour
abbrev pub lane_paint : Lane → Paint
lane_paint (Session sp) = paints.Session
lane_paint (Transaction sp) = paints.Transaction
lane_paint Shadow = paints.Shadow
lane_paint _ = paints.Failure

-- the line of a frame; that of the opening has none
abbrev pub line_look : ℕ → List ℕ → Option Look
line_look at [] = None
line_look at (byte ∷ bytes) = Some (Line at)

-- the command in a slot, by the number of the step that put it
abbrev pub slot_look : Option Stage → Option Look
slot_look None = None
slot_look (Some stages.Free) = None
slot_look (Some (stages.Prepared put)) = Some (Command put.number)
slot_look (Some (stages.Issued put)) = Some (Command put.number)
slot_look (Some (stages.Accepted put)) = Some (Command put.number)
slot_look (Some (stages.Answered put)) = Some (Command put.number)

abbrev pub up_where : Bool → Option Look
up_where holds = if holds then Some Up else None

-- locks of which one is in force
abbrev pub locks_look : Locks → Option Look
locks_look locks = if locks.read || locks.write then Some (Locked locks) else None

abbrev pub range_look : Option Locks → Option Look
range_look None = None
range_look (Some locks) = locks_look locks

-- what a lane shows at the frame of a place
abbrev pub look_at : Lane → ℕ → Frame → Option Look
look_at Lines at frame = line_look at frame.line
look_at (Slot tag) at frame = slot_look (slice_get frame.sample.slots tag)
look_at Failure at frame = up_where frame.sample.failed
look_at (Session sp) at frame = up_where (calls_in frame.sample sp).session
look_at (Transaction sp) at frame = up_where (calls_in frame.sample sp).transaction
look_at Shadow at frame = up_where frame.sample.shadow
look_at (Range range) at frame = range_look (slice_get frame.sample.locks range)

-- two looks are the same
abbrev pub both_or_none : Bool → Bool → Bool
both_or_none true b = b
both_or_none false b = not b

abbrev pub is_same : Look → Look → Bool
is_same (Line a) (Line b) = a == b
is_same (Command a) (Command b) = a == b
is_same (Locked a) (Locked b) = both_or_none a.read b.read && both_or_none a.write b.write
is_same Up Up = true
is_same _ _ = false

abbrev pub is_shown : Look → Option Look → Bool
is_shown look None = false
is_shown look (Some other) = is_same look other

-- the colour of locks, and what is said of them
abbrev pub locks_paint : Locks → Paint
locks_paint locks =
    if locks.read then (if locks.write then paints.Locked else paints.ReadLocked)
    else paints.WriteLocked

unfoldable pub locks_word : Locks → List ℕ
locks_word locks =
    if locks.read
    then (if locks.write then codes "reads and writes locked" else codes "reads locked")
    else codes "writes locked"

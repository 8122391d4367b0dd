-- The picture of a run by the frames that its lines left behind, one column for each, that of the opening first.
use Rattle.std.specs.Prelude.{ℕ, zero, suc, ◌+◌, Bool, true, false, ◌||◌, is_some, List, [], ◌∷◌, ◌++◌, length, Option, Some, None, slice_get, codes, if◌then◌else◌}
use Rattle.drawing.specs.Pictures.{Picture, blank_picture, with_named_row}
use Rattle.drawing.specs.declared.paint.Paint.{Paint}
use Rattle.drawing.specs.declared.paint.Paint.TheVariants.{Waiting}
use Rattle.drawing.specs.declared.picture.Bar.{Bar}
use Rattle.drawing.specs.declared.picture.Mark.{Mark}
use Rattle.pictures.specs.declared.samples.frame.Frame.{Frame}
use Rattle.pictures.specs.Looks.{ending_of, is_denial, lane_at, lane_word, lane_name, lane_paint, look_at, is_shown, locks_paint, locks_word}
use Rattle.pictures.specs.declared.pictured.lane.Lane.{Lane}
use Rattle.pictures.specs.declared.pictured.look.Look.{Look}
use Rattle.pictures.specs.declared.pictured.look.Look.TheVariants.{Line, Command, Locked, Up}

-- how many of the frames from a place on still show this, before the first that does not
unfoldable pub lasting : Lane → Look → ℕ → List Frame → ℕ
lasting lane look at [] = 0
lasting lane look at (frame ∷ frames) =
    if is_shown look (look_at lane at frame) then 1 + lasting lane look (at + 1) frames else 0

-- how a command ended: as the line did that took its answer; it waits where none has
abbrev pub ending_at : Option Frame → Paint
ending_at None = Waiting
ending_at (Some frame) = ending_of frame.last

-- the colour of a bar that begins at a frame, by what it shows and the first frame that shows it no more
abbrev pub paint_by : Lane → Look → Frame → Option Frame → Paint
paint_by lane (Line at) frame next = ending_of frame.last
paint_by lane (Command number) frame next = ending_at next
paint_by lane (Locked locks) frame next = locks_paint locks
paint_by lane Up frame next = lane_paint lane

-- what a bar says: the line that began it, or what is so
abbrev pub words_by : Lane → Look → Frame → List ℕ
words_by lane (Line at) frame = frame.line
words_by lane (Command number) frame = frame.line
words_by lane (Locked locks) frame = locks_word locks
words_by lane Up frame = lane_word lane

-- the bar of what a lane shows from a frame on: it lasts until the lane shows something else
abbrev pub bar_at : Lane → ℕ → ℕ → Frame → List Frame → Look → Bar
bar_at lane row at frame frames look = record {
  row = row;
  from = at;
  columns = 1 + lasting lane look (at + 1) frames;
  paint = paint_by lane look frame (slice_get frames (lasting lane look (at + 1) frames));
  says = words_by lane look frame;
}

-- a bar begins at a frame where the lane shows something else than before
abbrev pub begun_at : Lane → ℕ → Option Look → ℕ → Frame → List Frame → Option Look → List Bar
begun_at lane row shown at frame frames None = []
begun_at lane row shown at frame frames (Some look) =
    if is_shown look shown then [] else bar_at lane row at frame frames look ∷ []

-- the bars of a lane from a place on, where it showed this before
unfoldable pub bars_from : Lane → ℕ → Option Look → ℕ → List Frame → List Bar
bars_from lane row shown at [] = []
bars_from lane row shown at (frame ∷ frames) =
    begun_at lane row shown at frame frames (look_at lane at frame)
    ++ bars_from lane row (look_at lane at frame) (at + 1) frames

-- the lane shows something at one of the frames
unfoldable pub is_seen : Lane → ℕ → List Frame → Bool
is_seen lane at [] = false
is_seen lane at (frame ∷ frames) =
    is_some (look_at lane at frame) || is_seen lane (at + 1) frames

-- the marks of the denials, in the first row
abbrev pub denial_marks : ℕ → Frame → List Mark
denial_marks at frame =
    if is_denial frame.last then record { row = 0; at = at; says = frame.last } ∷ [] else []

unfoldable pub denials_from : ℕ → List Frame → List Mark
denials_from at [] = []
denials_from at (frame ∷ frames) = denial_marks at frame ++ denials_from (at + 1) frames

-- a picture with bars and marks more
abbrev pub with_bars : List Bar → Picture → Picture
with_bars bars p = record p { bars = p.bars ++ bars }

abbrev pub with_marks : List Mark → Picture → Picture
with_marks marks p = record p { marks = p.marks ++ marks }

-- a picture with the row of a lane, where the lane shows something
abbrev pub with_lane : List Frame → Lane → Picture → Picture
with_lane frames lane p =
    if is_seen lane 0 frames
    then with_bars (bars_from lane (length p.rows) None 0 frames)
    (with_named_row (lane_name lane) p)
    else p

-- with the rows of the first so many lanes
unfoldable pub with_lanes : List Frame → ℕ → Picture → Picture
with_lanes frames zero p = p
with_lanes frames (suc n) p = with_lane frames (lane_at n) (with_lanes frames n p)

-- how many lanes there are, and how many frames are drawn at most: the opening and 2,000 lines
abbrev pub lane_count : ℕ
lane_count = 56

abbrev pub most_frames : ℕ
most_frames = 2001

abbrev pub picture_by : List ℕ → List Frame → Picture
picture_by title frames =
    with_lanes frames lane_count
    (with_marks (denials_from 0 frames)
    (with_named_row (codes "denied") (blank_picture title (length frames))))

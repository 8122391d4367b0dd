-- The colours of bars, as SVG writes them (W3C, SVG 1.1, section 4.2: a number sign and six hex digits). Which colour tells
-- what is this drawing's own.
use Rattle.std.specs.Prelude.{ℕ, List, codes}
use Rattle.drawing.specs.declared.paint.Paint.{Paint}
use Rattle.drawing.specs.declared.paint.Paint.TheVariants.{Done, Failed, Stopped, Waiting, Session, Transaction, ReadLocked, WriteLocked, Locked, Shadow, Failure}

unfoldable pub colour_text : Paint → List ℕ
colour_text Done = codes "#a5d6a7"
colour_text Failed = codes "#ef9a9a"
colour_text Stopped = codes "#cfd8dc"
colour_text Waiting = codes "#90caf9"
colour_text Session = codes "#b39ddb"
colour_text Transaction = codes "#fff59d"
colour_text ReadLocked = codes "#ffcc80"
colour_text WriteLocked = codes "#bcaaa4"
colour_text Locked = codes "#ffab91"
colour_text Shadow = codes "#80cbc4"
colour_text Failure = codes "#e57373"

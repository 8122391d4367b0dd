-- What a line opens.
use Rattle.std.proofs.Common.{Option, None, Some}
use Rattle.locking.specs.declared.range.RangeRow.{RangeRow}
use Rattle.tool.specs.Courses.{start}
use Rattle.tool.specs.Openings.{origin_of, OpensBy, TurnStands}
use Rattle.tool.specs.declared.head.Head.{Head}
use Rattle.tool.specs.declared.opening.OpeningPhase.{OpeningPhase}
use Rattle.tool.specs.declared.opening.OpeningTurn.TheVariants as openings
use Rattle.tool.specs.declared.opening.OpeningTurn.{OpeningTurn}

-- what a line opens is as its origin leaves it, with nothing done
pub opened-stands : (head : Head) (phase : OpeningPhase) (row : Option RangeRow)
    (turn : OpeningTurn) → OpensBy head phase row turn → TurnStands turn
opened-stands head phase (Some row) (openings.Goes next) does = tt
opened-stands head phase (Some row) (openings.Runs run) does = absurd does
opened-stands head phase (Some row) (openings.Bad fault) does = tt
opened-stands head phase None (openings.Goes next) does = tt
opened-stands head phase None (openings.Runs run) does = (origin_of phase, start head.explains head.kind, does)
opened-stands head phase None (openings.Bad fault) does = tt

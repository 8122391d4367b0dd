use Rattle.std.proofs.Common.{false, refl}
use Rattle.tool.specs.declared.head.Head.{Head}
use Rattle.runs.proofs.recorded.Fronts.{opens-so}
use Rattle.runs.proofs.recorded.front.opens.Goals as goal

pub returns : goal.returns
returns c =
    opens-so (record { remarks = false; explains = c.args.explains; kind = c.args.kind; lines = 0 })
    c.args.phase c.args.text.now c.in_ok-turn.turn (c.in_ok-turn.ensures.does refl) (c.in_ok-turn.ensures.bad_line refl)

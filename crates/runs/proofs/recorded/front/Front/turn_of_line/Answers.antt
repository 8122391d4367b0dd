use Rattle.std.proofs.Common.{sym, subst}
use Rattle.runs.specs.Progress.{TurnsSo}
use Rattle.runs.specs.declared.recorded.front.Front.TheVariants.{Told}
use Rattle.runs.proofs.recorded.Fronts.{told-so}
use Rattle.runs.proofs.recorded.front.Front.turn_of_line.Goals as goal

pub returns-in_ok-turn-in-Told : goal.returns-in_ok-turn-in-Told
returns-in_ok-turn-in-Told c =
    subst (λ front. TurnsSo c.args.explains c.args.remarks front c.args.text.now c.front_turn.result) (sym c.in-Told.is)
    (subst (TurnsSo c.args.explains c.args.remarks (Told c.in-Told.kind c.in-Told.phase) c.args.text.now) (sym c.front_turn.ensures)
    (told-so c.args.explains c.args.remarks c.in-Told.kind c.in-Told.phase c.args.text.now c.in_ok-turn-in-Told.turn
    c.requires c.in_ok-turn-in-Told.ensures))

use Rattle.std.proofs.Common.{sym, subst, ◌∙◌}
use Rattle.runs.specs.Progress.{TurnsSo}
use Rattle.runs.specs.declared.recorded.front.Front.TheVariants.{Bare}
use Rattle.runs.proofs.recorded.Fronts.{bare-so, port-so}
use Rattle.runs.proofs.recorded.front.Front.bare_turn.Goals as goal

pub returns-then-is_port_line : goal.returns-then-is_port_line
returns-then-is_port_line c =
    port-so c.args.explains c.args.remarks c.args.kind c.args.phase c.args.text.now c.requires (sym c.is_port_line.ensures ∙ c.if-is_port_line.true)

pub returns : goal.returns
returns c =
    subst (λ turn. TurnsSo c.args.explains c.args.remarks (Bare c.args.kind c.args.phase) c.args.text.now turn) (sym c.front_turn.ensures)
    (bare-so c.args.explains c.args.remarks c.args.kind c.args.phase c.args.text.now c.in_ok-turn.turn c.requires (sym c.is_port_line.ensures ∙ c.if-is_port_line.false) c.in_ok-turn.ensures)

use Rattle.std.proofs.Common.{◌∙◌, ◌++◌, ap, sym, append_assoc, append-nil}
use Rattle.drawing.specs.Svg.{tick_text}
use Rattle.drawing.proofs.Rows.{no_ticks, ticks_next}
use Rattle.drawing.proofs.svg.append_ticks.Goals as goal

pub loop-tick-init : goal.loop-tick-init
loop-tick-init c =
    sym (append-nil c.args.text.now.items)
    ∙ ap (λ lines. c.args.text.now.items ++ lines) (sym (no_ticks c.args.width c.args.rows))

pub loop-tick-preserved : goal.loop-tick-preserved
loop-tick-preserved c =
    c.in_ok-append_tick.ensures
    ∙ ap (λ t. t ++ tick_text c.args.width c.args.rows c.loop-tick.tick) c.loop-tick.invariant
    ∙ append_assoc c.args.text.now.items _ _
    ∙ ap (λ lines. c.args.text.now.items ++ lines) (sym (ticks_next c.args.width c.args.rows c.loop-tick.tick))

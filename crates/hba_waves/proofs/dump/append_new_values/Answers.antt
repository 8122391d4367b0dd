use Rattle.std.proofs.Common.{◌∙◌, ap}
use Rattle.drawing.specs.Dumps.{changed_value}
use Rattle.hba_waves.specs.Signals.{signal_bits, signal_value}
use Rattle.hba_waves.specs.declared.signal.Signal.{Signal}
use Rattle.hba_waves.proofs.Counts.{same_change, changes_first, changes_on}
use Rattle.hba_waves.proofs.dump.append_new_values.Goals as goal

pub loop-place-init : goal.loop-place-init
loop-place-init c = changes_first c.args.text.now.items c.args.before.now c.args.look.now

pub loop-place-preserved : goal.loop-place-preserved
loop-place-preserved c =
    changes_on c.args.text.now.items c.loop-place.text.items _ c.args.before.now c.args.look.now c.loop-place.place c.loop-place.invariant
    (same_change changed_value c.loop-place.text.items _ c.from.result c.loop-place.place _ _ _ _ _ _
    c.from.ensures (c.signal_bits.ensures ∙ ap signal_bits c.signal_at-signal.ensures)
    (c.signal_value-old.ensures ∙ ap (λ (signal : Signal). signal_value signal c.args.before.now) c.signal_at-signal.ensures)
    (c.signal_value-new.ensures ∙ ap (λ (signal : Signal). signal_value signal c.args.look.now) c.signal_at-signal.ensures)
    c.in_ok-append_changed.ensures)

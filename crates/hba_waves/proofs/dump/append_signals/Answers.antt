use Rattle.std.proofs.Common.{◌∙◌, ap}
use Rattle.drawing.specs.Dumps.{declaration}
use Rattle.hba_waves.specs.Signals.{signal_bits, signal_name}
use Rattle.hba_waves.proofs.Counts.{same_piece, signals_first, signals_on}
use Rattle.hba_waves.proofs.dump.append_signals.Goals as goal

pub loop-place-init : goal.loop-place-init
loop-place-init c = signals_first c.args.text.now.items

pub loop-place-preserved : goal.loop-place-preserved
loop-place-preserved c =
    signals_on c.args.text.now.items c.loop-place.text.items _ c.loop-place.place c.loop-place.invariant
    (same_piece declaration c.loop-place.text.items _ c.from.result c.loop-place.place _ _ _ _
    c.from.ensures (c.signal_bits.ensures ∙ ap signal_bits c.signal_at-signal.ensures)
    (c.deref.ensures.value ∙ c.in_ok-name.ensures ∙ ap signal_name c.signal_at-signal.ensures)
    c.in_ok-append_declaration.ensures)

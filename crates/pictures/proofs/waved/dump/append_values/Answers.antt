use Rattle.std.proofs.Common.{◌∙◌, ap}
use Rattle.drawing.specs.Dumps.{wire_value}
use Rattle.pictures.specs.Waves.{wave_bits, wave_value}
use Rattle.pictures.specs.declared.waved.wave.Wave.{Wave}
use Rattle.pictures.proofs.waved.Counts.{same_value, values_first, values_on}
use Rattle.pictures.proofs.waved.dump.append_values.Goals as goal

pub loop-place-init : goal.loop-place-init
loop-place-init c = values_first c.args.text.now.items c.args.sample.now

pub loop-place-preserved : goal.loop-place-preserved
loop-place-preserved c =
    values_on c.args.text.now.items c.loop-place.text.items _ c.args.sample.now c.loop-place.place c.loop-place.invariant
    (same_value wire_value c.loop-place.text.items _ c.from.result c.loop-place.place _ _ _ _
    c.from.ensures (c.wave_bits.ensures ∙ ap wave_bits c.wave_at-wave.ensures)
    (c.wave_value-value.ensures ∙ ap (λ (wave : Wave). wave_value wave c.args.sample.now) c.wave_at-wave.ensures)
    c.in_ok-append_value.ensures)

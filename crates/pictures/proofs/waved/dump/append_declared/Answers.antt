use Rattle.std.proofs.Common.{◌∙◌, ap}
use Rattle.drawing.specs.Dumps.{declaration}
use Rattle.pictures.specs.Waves.{wave_bits, wave_name}
use Rattle.pictures.proofs.waved.Counts.{same_piece, declared_first, declared_on}
use Rattle.pictures.proofs.waved.dump.append_declared.Goals as goal

pub loop-place-init : goal.loop-place-init
loop-place-init c = declared_first c.args.text.now.items

pub loop-place-preserved : goal.loop-place-preserved
loop-place-preserved c =
    declared_on c.args.text.now.items c.loop-place.text.items _ c.loop-place.place c.loop-place.invariant
    (same_piece declaration c.loop-place.text.items _ c.from.result c.loop-place.place _ _ _ _
    c.from.ensures (c.wave_bits.ensures ∙ ap wave_bits c.wave_at-wave.ensures)
    (c.deref.ensures.value ∙ c.in_ok-name.ensures ∙ ap wave_name c.wave_at-wave.ensures)
    c.in_ok-append_declaration.ensures)

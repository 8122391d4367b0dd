use Rattle.std.proofs.Common.{◌++◌, ◌+◌, ◌∙◌, refl, ap, arith}
use Rattle.judged.specs.Shown.{sector_digits, sector_shown}
use Rattle.judged.proofs.ShownPlaces.{one_shown}
use Rattle.judged.proofs.shown.ShownSectors.add_from.Goals as goal

pub loop-count-preserved : goal.loop-count-preserved
loop-count-preserved c =
    let before = c.loop-count.self in
    let line = c.args.line in
    let sector = c.loop-count.sector in
    record {
      ends = c.loop-count.invariant.ends;
      place_is = omega arith;
      sector_is = omega arith;
      kept = one_shown c.sectors_shown-count-end.result c.loop-count._count (c.loop-count._count + 1) line sector (sector + 1) c.loop-count.place (c.loop-count.place + 9)
          c.args.heard.now c.args.wanted.now c.args.other.now before _ _ (omega arith) refl refl refl
          (c.in_ok-add_sector.ensures ∙ ap (λ digits. before ++ sector_shown line sector digits c.is_blank_at-blank.result) c.sector_digits.ensures
          ∙ ap (λ blank. before ++ sector_shown line sector (sector_digits c.loop-count.place c.args.heard.now) blank) c.is_blank_at-blank.ensures)
          c.loop-count.invariant.kept;
    }

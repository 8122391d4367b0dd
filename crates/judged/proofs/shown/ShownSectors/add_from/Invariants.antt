use Rattle.std.proofs.Common.{◌≡◌, ◌+◌, ◌-◌, ◌*◌, ◌++◌}
use Rattle.judged.specs.Shown.{sectors_shown, shown_from}
use Rattle.judged.proofs.shown.ShownSectors.add_from.Given as goal

abbrev pub invariant-loop-count : goal.invariant-loop-count
invariant-loop-count l = record {
  ends : l._count-end ≡ sectors_shown l.heard;
  place_is : l.place ≡ 3 + 9 * l._count;
  sector_is : l.sector ≡ l.first + l._count;
  kept : l.self ++ shown_from (l._count-end - l._count) l.line l.sector l.place l.heard l.wanted l.other
      ≡ l.fn.self ++ shown_from l._count-end l.line l.first 3 l.heard l.wanted l.other;
}

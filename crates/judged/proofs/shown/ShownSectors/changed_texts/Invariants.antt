use Rattle.std.proofs.Common.{◌≡◌, ◌++◌, drop}
use Rattle.judged.specs.Shown.{changed_texts}
use Rattle.judged.proofs.shown.ShownSectors.changed_texts.Given as goal

abbrev pub invariant-loop-shown : goal.invariant-loop-shown
invariant-loop-shown l =
    l.text ++ changed_texts (drop l.shown-index l.shown-items) l.first l.heard l.wanted l.other ≡ changed_texts l.self l.first l.heard l.wanted l.other

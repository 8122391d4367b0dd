use Rattle.std.proofs.Common.{◌≡◌, ◌++◌, drop}
use Rattle.std.specs.List.{flat_map}
use Rattle.judged.specs.Judgements.{ruling_text}
use Rattle.judged.proofs.telling.append_rulings.Given as goal

abbrev pub invariant-loop-ruling : goal.invariant-loop-ruling
invariant-loop-ruling l =
    l.text.items ++ flat_map (ruling_text l.quiet l.cause) (drop l.ruling-index l.rulings) ≡ l.fn.text.items ++ flat_map (ruling_text l.quiet l.cause) l.rulings

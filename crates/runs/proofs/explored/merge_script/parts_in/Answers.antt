use Rattle.std.proofs.Common.{◌∙◌, sym, ap}
use Rattle.runs.specs.Merges.{part_in}
use Rattle.runs.proofs.explored.ReadRows.{no_part_at}
use Rattle.runs.proofs.explored.merge_script.parts_in.Goals as goal

pub returns-in-None : goal.returns-in-None
returns-in-None g c =
    no_part_at c.args.texts.now c.loop-i.i c.index-texts-i.result c.loop-i.parts _ c.loop-i-test.true
    c.index-texts-i.is (ap part_in (sym c.as_slice.ensures) ∙ sym c.in_ok-part.ensures ∙ c.in-None.is) c.loop-i.invariant

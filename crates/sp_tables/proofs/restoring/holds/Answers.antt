use Rattle.std.proofs.Common.{map, sym, ap, ◌∙◌}
use Rattle.sp_tables.specs.Items.{item_of}
use Rattle.sp_tables.proofs.GivenLemmas.{same_items}
use Rattle.sp_tables.proofs.restoring.holds.Goals as goal

pub returns : goal.returns
returns c = (
  λ same. sym c.in_ok-held.ensures ∙ ap (map item_of) (sym c.deref.ensures.value ∙ c.are_same.ensures.0 same),
  λ equal. c.are_same.ensures.1 (c.deref.ensures.value ∙ same_items c.in_ok-held.held.items c.args.items.now (c.in_ok-held.ensures ∙ equal)),
)

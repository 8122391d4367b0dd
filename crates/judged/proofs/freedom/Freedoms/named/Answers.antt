use Rattle.std.proofs.Common.{◌∙◌, sym}
use Rattle.judged.proofs.NamedFreedoms.{unknown}
use Rattle.judged.proofs.freedom.Freedoms.named.Goals as goal

pub returns-in_default-clause-fault : goal.returns-in_default-clause-fault
returns-in_default-clause-fault c differs =
    unknown c.args.names.now c.loop-name.name-index _ c.as_bytes.result.now c.loop-name.items.items _ c.loop-name-test.true
    c.as_bytes.ensures.value (sym c.named.ensures ∙ c.in_default.is) c.loop-name.invariant

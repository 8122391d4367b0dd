use Rattle.tcg_calls.proofs.tcg_names.FamilyLemmas.{seen, passed}
use Rattle.tcg_calls.proofs.tcg_names.families.named_among.Goals as goal

pub returns-in-Some : goal.returns-in-Some
returns-in-Some c = seen _ _ _ _ _ _ c.loop-family-test.true c.loop-family.invariant c.in_ok-object.ensures c.in-Some.is

pub loop-family-preserved : goal.loop-family-preserved
loop-family-preserved c = passed _ _ _ _ _ c.loop-family-test.true c.loop-family.invariant c.in_ok-object.ensures c.in_default.is

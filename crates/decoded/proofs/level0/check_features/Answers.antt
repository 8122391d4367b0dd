use Rattle.std.proofs.Common.{◌≡◌, ◌∙◌, Some, ap, sym, rules, take}
use Rattle.decoded.specs.Faults.{fault_said}
use Rattle.decoded.specs.Features.{features_fault, features_in}
use Rattle.decoded.proofs.NextFeature.{none_left, fault_next}
use Rattle.decoded.proofs.level0.check_features.Goals as goal

pub returns-in_err-check_feature : goal.returns-in_err-check_feature
returns-in_err-check_feature c =
    let is_fault : features_fault (features_in 0 c.args.features.now) ≡ Some (fault_said c.in_err-check_feature.field-0.0) =
    c.loop-rest.invariant
    ∙ fault_next c.loop-rest.rest.now c.front.result.now _ (sym c.is_empty.ensures ∙ c.loop-rest-test.true)
    (c.front.ensures ∙ ap (λ n. take n c.loop-rest.rest.now) c.feature_size-size.ensures) c.in_err-check_feature.ensures in
    search rules

pub returns : goal.returns
returns c = c.loop-rest.invariant ∙ ap features_fault (none_left c.loop-rest.rest.now (sym c.is_empty.ensures ∙ c.loop-rest-test.false))

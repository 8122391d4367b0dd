use Rattle.std.proofs.Common.{◌∙◌, ◌++◌, ap, sym, take, drop, append-nil}
use Rattle.decoded.specs.Features.{features_lines, features_in}
use Rattle.decoded.proofs.NextFeature.{none_left, lines_next}
use Rattle.decoded.proofs.level0.append_features.Goals as goal

pub loop-rest-preserved : goal.loop-rest-preserved
loop-rest-preserved c =
    ap (λ t. t ++ features_lines (features_in 0 c.behind-rest.result.now)) c.in_ok-append_feature.ensures
    ∙ lines_next c.loop-rest.rest.now c.loop-rest.text.items c.front.result.now c.behind-rest.result.now (sym c.is_empty.ensures ∙ c.loop-rest-test.true)
    (c.front.ensures ∙ ap (λ n. take n c.loop-rest.rest.now) c.feature_size-size.ensures)
    (c.behind-rest.ensures ∙ ap (λ n. drop n c.loop-rest.rest.now) c.feature_size-size.ensures)
    ∙ c.loop-rest.invariant

pub returns : goal.returns
returns c =
    sym (append-nil c.loop-rest.text.items)
    ∙ ap (λ fs. c.loop-rest.text.items ++ features_lines fs) (sym (none_left c.loop-rest.rest.now (sym c.is_empty.ensures ∙ c.loop-rest-test.false)))
    ∙ c.loop-rest.invariant

use Rattle.std.proofs.Common.{[], ◌∷◌, sym, subst}
use Rattle.std.proofs.lemmas.Result.{IfOk-weaker}
use Rattle.runs.specs.Progress.{HoldsMore}
use Rattle.runs.proofs.recorded.look.record_opening.Goals as goal

pub returns : goal.returns
returns g c =
    IfOk-weaker c.record.result _ _
    (λ done keeps. λ o course runs.
    subst
    (λ frame. HoldsMore (frame ∷ []) (λ base came. g.K.Recorder.holds base c.args.recorder.now came)
    (λ base came. g.K.Recorder.holds base c.record.new.self came))
    (c.in_ok-frame.ensures o course runs) keeps)
    c.record.ensures

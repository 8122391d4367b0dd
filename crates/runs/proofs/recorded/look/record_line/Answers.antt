use Rattle.std.proofs.Common.{◌∙◌, [], ◌∷◌, ap, subst}
use Rattle.std.proofs.lemmas.Result.{IfOk-weaker}
use Rattle.runs.specs.Progress.{HoldsMore}
use Rattle.runs.specs.Frames.{frame_by}
use Rattle.runs.proofs.recorded.look.record_line.Goals as goal

pub returns-clause-records : goal.returns-clause-records
returns-clause-records g c =
    IfOk-weaker c.record.result _ _
    (λ done keeps. λ longer o course runs.
    subst
    (λ frame. HoldsMore (frame ∷ []) (λ base came. g.K.Recorder.holds base c.args.recorder.now came)
    (λ base came. g.K.Recorder.holds base c.record.new.self came))
    (c.in_ok-frame.ensures o course runs
    ∙ ap (λ last. frame_by o course c.args.number c.args.text.now last) c.deref.ensures.value) keeps)
    c.record.ensures

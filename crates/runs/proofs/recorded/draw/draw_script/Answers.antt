use Rattle.std.proofs.Common.{◌∙◌, ap, subst}
use Rattle.std.specs.Io.KnownBytes.{Appends}
use Rattle.drawing.specs.Svg.{svg_text}
use Rattle.pictures.specs.Bars.{picture_by}
use Rattle.runs.specs.Pictures.{picture_title}
use Rattle.runs.proofs.recorded.Drawing.{drawn-so}
use Rattle.runs.proofs.recorded.draw.draw_script.Goals as goal

pub returns-clause-draws : goal.returns-clause-draws
returns-clause-draws g c =
    drawn-so (g.R.Read.remaining c.args.input) c.args.options.now c.in_ok-status.status _ _ _ _
    c.new-frames.result.frames.items c.record_script.new.recorder.frames.items c.in_ok-text.text.items
    c.new-frames.ensures
    (c.in_ok-text.ensures ∙ ap (λ frames. svg_text (picture_by picture_title frames)) c.deref.ensures.value)
    (subst (Appends (g.W.Write.contents c.args.output.now) (g.W.Write.contents c.write_text.new.output))
    c.deref-2.ensures.value c.in_ok-write_text.ensures.written)
    c.in_ok-status.ensures.records

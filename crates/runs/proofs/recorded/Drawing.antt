-- A picture of what was recorded.
use Rattle.std.proofs.Common.{◌≡◌, ◌∙◌, ℕ, Bool, false, List, [], ◌∷◌, refl, sym, ap, subst, Option, Some, None, IfSome}
use Rattle.std.specs.Io.KnownBytes.{Appends}
use Rattle.sp_cells.specs.Config.{Config}
use Rattle.pictures.specs.declared.samples.frame.Frame.{Frame}
use Rattle.drawing.specs.Svg.{svg_text}
use Rattle.pictures.specs.Bars.{picture_by}
use Rattle.runs.specs.Recordings.{Recording, recording_by}
use Rattle.runs.specs.Pictures.{Draws, picture_title}
use Rattle.runs.specs.Progress.{Records}

pub drawn-so : (input : Option (List ℕ)) (config : Config) (status : ℕ) (old new before after : Option (List ℕ))
    (first frames : List Frame) (text : List ℕ) → first ≡ []
    → text ≡ svg_text (picture_by picture_title frames) → Appends before after text
    → Records false config input status old new (λ base came. first ≡ came) (λ base came. frames ≡ came)
    → Draws config input status before after
drawn-so None config status old new before after first frames text none is appends records = tt
drawn-so (Some script) config status old new before after first frames text none is appends records = (
  records.status,
  subst (Appends before after)
      (is ∙ ap (λ frames. svg_text (picture_by picture_title frames)) (records.kept None [] none)) appends,
)

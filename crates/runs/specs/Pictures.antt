-- What a picture of a run is.
use Rattle.std.specs.Prelude.{◌≡◌, ℕ, List, codes, Option, IfSome}
use Rattle.std.specs.Io.KnownBytes.{Appends}
use Rattle.sp_cells.specs.Config.{Config}
use Rattle.drawing.specs.Svg.{svg_text}
use Rattle.pictures.specs.Bars.{picture_by}
use Rattle.runs.specs.Recordings.{Recording, recording_of}

-- the words above a picture
unfoldable pub picture_title : List ℕ
picture_title = codes "The run of a script"

-- this is the status, and the picture of the frames is written behind what was written before
abbrev pub DrawsAs : Recording → ℕ → Option (List ℕ) → Option (List ℕ) → Type 0
DrawsAs recording status before after = (status ≡ recording.status)
    × Appends before after (svg_text (picture_by picture_title recording.frames))

-- of a script of these bytes, where they are known
abbrev pub Draws : Config → Option (List ℕ) → ℕ → Option (List ℕ) → Option (List ℕ) → Type 0
Draws config input status before after =
    IfSome input (λ text. DrawsAs (recording_of config text) status before after)

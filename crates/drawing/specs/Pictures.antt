-- What contracts see of a picture.
use Rattle.std.specs.Prelude.{ℕ, List, [], ◌∷◌, ◌++◌}
use Rattle.drawing.specs.declared.picture.Bar.{Bar}
use Rattle.drawing.specs.declared.picture.Mark.{Mark}

-- its title, how many columns it has, the names of its rows from the top, its bars and its marks
pub record Picture : Type 0 where
  pub title : List ℕ
  pub columns : ℕ
  pub rows : List (List ℕ)
  pub bars : List Bar
  pub marks : List Mark

-- a picture in which nothing is drawn yet
abbrev pub blank_picture : List ℕ → ℕ → Picture
blank_picture title columns =
    record { title = title; columns = columns; rows = []; bars = []; marks = [] }

-- the picture with a row, a bar or a mark more
abbrev pub with_named_row : List ℕ → Picture → Picture
with_named_row name p = record p { rows = p.rows ++ name ∷ [] }

abbrev pub with_bar : Bar → Picture → Picture
with_bar bar p = record p { bars = p.bars ++ bar ∷ [] }

abbrev pub with_mark : Mark → Picture → Picture
with_mark mark p = record p { marks = p.marks ++ mark ∷ [] }

-- A picture as a drawing (W3C, Scalable Vector Graphics (SVG) 1.1): where each thing stands, and its text. Lengths are in
-- pixels.
use Rattle.std.specs.Prelude.{ℕ, zero, suc, ◌+◌, ◌-◌, ◌*◌, ◌/◌, ◌==◌, nat_le, max, ◌&&◌, List, [], ◌∷◌, ◌++◌, length, take, codes, decimal, if◌then◌else◌}
use Rattle.std.specs.List.{flat_map}
use Rattle.drawing.specs.declared.picture.Bar.{Bar}
use Rattle.drawing.specs.declared.picture.Mark.{Mark}
use Rattle.drawing.specs.declared.paint.Paint.{Paint}
use Rattle.drawing.specs.declared.paint.Paint.TheVariants.{Done, Failed, Stopped, Waiting, Session, Transaction, ReadLocked, WriteLocked, Locked, Shadow}
use Rattle.drawing.specs.declared.markup.Piece.{Piece}
use Rattle.drawing.specs.declared.markup.Piece.TheVariants as pieces
use Rattle.drawing.specs.Markup.{words_of}
use Rattle.drawing.specs.Paints.{colour_text}
use Rattle.drawing.specs.Pictures.{Picture}

-- A byte of a text (XML 1.0, section 2.4): what would begin markup is written as an entity, and what is no printable ASCII
-- as a full stop.
unfoldable pub escaped_byte : ℕ → List ℕ
escaped_byte byte =
    if byte == 38 then codes "&amp;"
    else if byte == 60 then codes "&lt;"
    else if byte == 62 then codes "&gt;"
    else if nat_le 32 byte && nat_le byte 126 then byte ∷ []
    else codes "."

abbrev pub escaped : List ℕ → List ℕ
escaped bytes = flat_map escaped_byte bytes

-- how wide a column is: the more there are the narrower they are
abbrev pub column_width : ℕ → ℕ
column_width columns =
    if nat_le columns 50 then 24 else if nat_le columns 400 then 12 else 6

-- names stand on the left, and the title, the legend and the numbers of columns above
abbrev pub left_edge : ℕ → ℕ → ℕ
left_edge width column = 180 + width * column

abbrev pub top_edge : ℕ → ℕ
top_edge row = 64 + 20 * row

-- the columns and a margin, and no less than the legend
abbrev pub legend_width : ℕ
legend_width = 1000

abbrev pub whole_width : ℕ → ℕ
whole_width columns = max legend_width (left_edge (column_width columns) columns + 20)

abbrev pub whole_height : ℕ → ℕ
whole_height rows = top_edge rows + 8

-- an attribute whose value is a number: the piece ends with its name and a quote
unfoldable pub attribute : Piece → ℕ → List ℕ
attribute piece number = words_of piece ++ decimal number ++ codes "'"

-- a text that is shown while a pointer stands over it
unfoldable pub title_text : List ℕ → List ℕ
title_text says = words_of pieces.TitleBegin ++ escaped says ++ words_of pieces.TitleEnd

-- where a bar stands, and how large it is
unfoldable pub bar_place : ℕ → Bar → List ℕ
bar_place width bar =
    attribute pieces.BarLeft (left_edge width bar.from)
    ++ attribute pieces.Top (top_edge bar.row + 2)
    ++ attribute pieces.Width (width * bar.columns) ++ words_of pieces.BarHeight

unfoldable pub bar_face : Paint → List ℕ
bar_face paint =
    words_of pieces.Face ++ colour_text paint ++ words_of pieces.Closed

-- how many letters stand in so many pixels: none is wider than 7
abbrev pub letters_for : ℕ → ℕ
letters_for pixels = pixels / 7

-- A text that has no room ends by two full stops; where there is no room for these and a letter, it is left out.
unfoldable pub fitted : ℕ → List ℕ → List ℕ
fitted room says =
    if nat_le (length says) room then escaped says
    else if nat_le 3 room then escaped (take (room - 2) says) ++ codes ".."
    else []

unfoldable pub bar_words : ℕ → List ℕ → List ℕ
bar_words room says = words_of pieces.BarWords ++ fitted room says ++ words_of pieces.BarEnd

-- a bar, with what it says in it as far as there is room
unfoldable pub bar_text : ℕ → Bar → List ℕ
bar_text width bar =
    bar_place width bar ++ title_text bar.says ++ bar_face bar.paint
    ++ bar_words (letters_for (width * bar.columns)) bar.says

-- a mark, in the middle of its column
unfoldable pub mark_place : ℕ → Mark → List ℕ
mark_place width mark =
    attribute pieces.MarkLeft (left_edge width mark.at + width / 2)
    ++ attribute pieces.MarkTop (top_edge mark.row + 10) ++ words_of pieces.MarkFace

unfoldable pub mark_text : ℕ → Mark → List ℕ
mark_text width mark =
    mark_place width mark ++ title_text mark.says ++ words_of pieces.MarkEnd

-- the name of a row, and a line below it
unfoldable pub row_name : ℕ → List ℕ → List ℕ
row_name row name =
    attribute pieces.NameTop (top_edge row + 14) ++ words_of pieces.Opened ++ escaped name
    ++ words_of pieces.TextEnd

unfoldable pub row_rule : ℕ → List ℕ
row_rule row =
    attribute pieces.LineTop (top_edge row + 19)
    ++ words_of pieces.LineFace

abbrev pub row_text : ℕ → List ℕ → List ℕ
row_text row name = row_name row name ++ row_rule row

-- the rows from a place on
unfoldable pub rows_text : ℕ → List (List ℕ) → List ℕ
rows_text row [] = []
rows_text row (name ∷ names) = row_text row name ++ rows_text (row + 1) names

-- a line at each tenth column, with its number
unfoldable pub tick_number : ℕ → ℕ → List ℕ
tick_number width tick =
    attribute pieces.TextLeft (left_edge width (10 * tick))
    ++ words_of pieces.TickWords ++ decimal (10 * tick) ++ words_of pieces.TextEnd

unfoldable pub tick_line : ℕ → ℕ → ℕ → List ℕ
tick_line width rows tick =
    attribute pieces.RectLeft (left_edge width (10 * tick))
    ++ attribute pieces.TickHeight (20 * rows + 4)
    ++ words_of pieces.TickFace

abbrev pub tick_text : ℕ → ℕ → ℕ → List ℕ
tick_text width rows tick = tick_number width tick ++ tick_line width rows tick

-- the lines of the first so many tenths
unfoldable pub ticks_text : ℕ → ℕ → ℕ → List ℕ
ticks_text width rows zero = []
ticks_text width rows (suc n) = ticks_text width rows n ++ tick_text width rows n

-- a square of a colour in the legend, and the word for it
unfoldable pub legend_square : ℕ → Paint → List ℕ
legend_square at paint =
    attribute pieces.RectLeft at ++ words_of pieces.SquareFace
    ++ colour_text paint ++ words_of pieces.Closed

unfoldable pub legend_word : ℕ → List ℕ → List ℕ
legend_word at word =
    attribute pieces.TextLeft at ++ words_of pieces.WordPlace ++ word ++ words_of pieces.TextEnd

unfoldable pub legend_item : ℕ → Paint → List ℕ → List ℕ
legend_item at paint word = legend_square at paint ++ legend_word (at + 16) word

-- how commands end
unfoldable pub endings_legend : List ℕ
endings_legend =
    legend_item 8 Done (codes "done") ++ legend_item 68 Failed (codes "failed")
    ++ legend_item 142 Stopped (codes "not done")

unfoldable pub denials_legend : List ℕ
denials_legend =
    legend_item 232 Waiting (codes "waits")
    ++ words_of pieces.DeniedMark ++ words_of pieces.DeniedWord

-- what is in force
unfoldable pub states_legend : List ℕ
states_legend =
    legend_item 374 Session (codes "session") ++ legend_item 458 Transaction (codes "transaction")
    ++ legend_item 926 Shadow (codes "shadow")

unfoldable pub locks_legend : List ℕ
locks_legend =
    legend_item 570 ReadLocked (codes "reads locked")
    ++ legend_item 690 WriteLocked (codes "writes locked")
    ++ legend_item 814 Locked (codes "both locked")

abbrev pub legend_text : List ℕ
legend_text =
    endings_legend ++ denials_legend ++ states_legend ++ locks_legend

-- the beginning, with the size of it all, and the title
unfoldable pub head_place : ℕ → ℕ → List ℕ
head_place columns rows =
    attribute pieces.HeadWidth (whole_width columns)
    ++ attribute pieces.Height (whole_height rows)
    ++ words_of pieces.HeadFont

unfoldable pub shown_title : List ℕ → List ℕ
shown_title title = words_of pieces.TitleText ++ escaped title ++ words_of pieces.TextEndLine

unfoldable pub head_words : List ℕ → List ℕ
head_words title = title_text title ++ words_of pieces.Ground ++ shown_title title

unfoldable pub drawn_head : List ℕ → ℕ → ℕ → List ℕ
drawn_head title columns rows =
    head_place columns rows ++ head_words title ++ legend_text ++ words_of pieces.LineEnd

-- the rows, the bars over them, the marks over these, and the end
unfoldable pub body_text : Picture → List ℕ
body_text p =
    rows_text 0 p.rows ++ flat_map (bar_text (column_width p.columns)) p.bars
    ++ flat_map (mark_text (column_width p.columns)) p.marks ++ words_of pieces.SvgEnd

-- the whole drawing
abbrev pub svg_text : Picture → List ℕ
svg_text p =
    drawn_head p.title p.columns (length p.rows)
    ++ ticks_text (column_width p.columns) (length p.rows) (p.columns / 10 + 1) ++ body_text p

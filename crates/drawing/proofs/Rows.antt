-- Rows and lines, one more at a time.
use Rattle.std.proofs.Common.{◌≡◌, ◌∙◌, ℕ, ◌+◌, ◌<◌, List, [], ◌∷◌, ◌++◌, length, take, get_or, refl, ap, sym, add-one, append_assoc, append-nil, arith, length-take}
use Rattle.std.proofs.lemmas.List.{take_more}
use Rattle.drawing.specs.Svg.{row_text, rows_text, tick_text, ticks_text}

pub no_rows : rows_text 0 [] ≡ []
unfolding rows_text
no_rows = refl

rows_next : (row : ℕ) (names : List (List ℕ)) (name : List ℕ)
    → rows_text row (names ++ name ∷ []) ≡ rows_text row names ++ row_text (row + length names) name
unfolding rows_text
rows_next row [] name =
    append-nil (row_text row name) ∙ ap (λ r. row_text r name) (omega arith)
rows_next row (first ∷ names) name =
    ap (λ rest. row_text row first ++ rest) (rows_next (row + 1) names name)
    ∙ ap (λ r. row_text row first ++ (rows_text (row + 1) names ++ row_text r name)) (omega arith)
    ∙ sym (append_assoc (row_text row first) (rows_text (row + 1) names) _)

-- the rows as far as one that is at hand
pub rows_taken : (rows : List (List ℕ)) (row : ℕ) (name shown : List ℕ) → row < length rows
    → name ≡ get_or rows row name → shown ≡ name
    → rows_text 0 (take (row + 1) rows) ≡ rows_text 0 (take row rows) ++ row_text row shown
rows_taken rows row name shown below is same =
    ap (rows_text 0) (take_more rows row name below)
    ∙ rows_next 0 (take row rows) (get_or rows row name)
    ∙ ap (λ r. rows_text 0 (take row rows) ++ row_text r (get_or rows row name)) (omega (arith, length-take row rows))
    ∙ ap (λ t. rows_text 0 (take row rows) ++ row_text row t) (sym (same ∙ is))

pub no_ticks : (width rows : ℕ) → ticks_text width rows 0 ≡ []
unfolding ticks_text
no_ticks width rows = refl

pub ticks_next : (width rows n : ℕ)
    → ticks_text width rows (n + 1) ≡ ticks_text width rows n ++ tick_text width rows n
unfolding ticks_text
ticks_next width rows n = ap (ticks_text width rows) (add-one n) ∙ refl

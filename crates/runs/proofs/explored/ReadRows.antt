-- Lines of which one writes no row, and texts of which one is no part.
use Rattle.std.proofs.Common.{◌≡◌, ℕ, suc, ◌<◌, ◌+◌, List, [], ◌∷◌, ◌++◌, length, drop, get_or, refl, sym, ap, ap₂, ◌∙◌, Option, None, Some}
use Rattle.std.proofs.Math.Seq.{drop-cons}
use Rattle.std.specs.Prelude.{option_map}
use Rattle.std.specs.List.{fold}
use Rattle.runs.specs.Rows.{row_written}
use Rattle.runs.specs.Merges.{with_row_written, part_in, with_part_in}
use Rattle.runs.specs.declared.explored.part.Part.{Part}
use Rattle.runs.specs.declared.explored.rows.Row.{Row}

pub none_stays : (lines : List (List ℕ)) → fold with_row_written None lines ≡ None
none_stays [] = refl
none_stays (line ∷ lines) = none_stays lines

-- no rows are written, whatever stands behind it
pub stopped_at : (lines : List (List ℕ)) (i : ℕ) (line : List ℕ) (rows : List Row) (whole : Option (List Row)) → i < length lines
    → line ≡ get_or lines i line → row_written line ≡ None → fold with_row_written (Some rows) (drop i lines) ≡ whole → None ≡ whole
stopped_at lines i line rows whole within at none kept =
    sym (none_stays (drop (suc i) lines))
    ∙ sym (ap (λ r. fold with_row_written (option_map (λ row. rows ++ row ∷ []) r) (drop (suc i) lines)) none)
    ∙ sym (ap (λ ls. fold with_row_written (Some rows) ls) (drop-cons lines i line within ∙ ap (λ l. l ∷ drop (suc i) lines) (sym at)))
    ∙ kept

no_parts : (texts : List (List ℕ)) → fold with_part_in None texts ≡ None
no_parts [] = refl
no_parts (text ∷ texts) = no_parts texts

-- there are no parts, whatever stands behind it
pub no_part_at : (texts : List (List ℕ)) (i : ℕ) (text : List ℕ) (parts : List Part) (whole : Option (List Part)) → i < length texts
    → text ≡ get_or texts i text → part_in text ≡ None → fold with_part_in (Some parts) (drop i texts) ≡ whole → None ≡ whole
no_part_at texts i text parts whole within at none kept =
    sym (no_parts (drop (suc i) texts))
    ∙ sym (ap (λ r. fold with_part_in (option_map (λ part. parts ++ part ∷ []) r) (drop (suc i) texts)) none)
    ∙ sym (ap (λ ts. fold with_part_in (Some parts) ts) (drop-cons texts i text within ∙ ap (λ t. t ∷ drop (suc i) texts) (sym at)))
    ∙ kept

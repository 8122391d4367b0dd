-- Rows of texts, one behind the other.
use Rattle.std.proofs.Common.{◌≡◌, ℕ, ◌+◌, ◌<◌, List, [], ◌∷◌, ◌++◌, length, drop, map, Bor, refl, sym, ap, ◌∙◌, Result, Ok, Err, append_assoc, get_or, ◌⊎◌, inl, inr}
use Rattle.std.proofs.lemmas.List.{drop_more}
use Rattle.locking.specs.declared.range.RangeRow.{RangeRow}
use Rattle.hba_program.specs.declared.hba_tool.opening.RangeFault.{RangeFault}
use Rattle.hba_program.specs.declared.hba_tool.opening.RangeFault.TheVariants.{OutOfMemory}
use Rattle.hba_program.specs.Openings.{option_row, option_rows, rows_behind, row_before, row_then}

-- the texts from a place on
abbrev pub texts_from : List (Bor (List ℕ)) → ℕ → List (List ℕ)
texts_from texts i = map (λ text. text.now) (drop i texts)

one_more : (front : List RangeRow) (row : RangeRow) (rest : Result (List RangeRow) RangeFault)
    → rows_behind (front ++ row ∷ []) rest ≡ rows_behind front (row_before row rest)
one_more front row (Ok rows) = ap Ok (append_assoc front (row ∷ []) rows)
one_more front row (Err fault) = refl

next_texts : (texts : List (Bor (List ℕ))) (i : ℕ) (d : Bor (List ℕ)) → i < length texts
    → texts_from texts i ≡ (get_or texts i d).now ∷ texts_from texts (i + 1)
next_texts texts i d within = ap (map (λ text. text.now)) (drop_more texts i d within)

pub further : (texts : List (Bor (List ℕ))) (i : ℕ) (d : Bor (List ℕ)) (front : List RangeRow) (row : RangeRow)
    (all : Result (List RangeRow) RangeFault) → i < length texts → option_row (get_or texts i d).now ≡ Ok row
    → rows_behind front (option_rows (texts_from texts i)) ≡ all → rows_behind (front ++ row ∷ []) (option_rows (texts_from texts (i + 1))) ≡ all
further texts i d front row all within is so_far =
    let rest : Result (List RangeRow) RangeFault = option_rows (texts_from texts (i + 1)) in
    one_more front row rest ∙ ap (λ r. rows_behind front (row_then r rest)) (sym is)
    ∙ ap (λ t. rows_behind front (option_rows t)) (sym (next_texts texts i d within)) ∙ so_far

stops : (texts : List (Bor (List ℕ))) (i : ℕ) (d : Bor (List ℕ)) (front : List RangeRow) (fault : RangeFault)
    (all : Result (List RangeRow) RangeFault) → i < length texts → option_row (get_or texts i d).now ≡ Err fault
    → rows_behind front (option_rows (texts_from texts i)) ≡ all → all ≡ Err fault
stops texts i d front fault all within is so_far =
    let rest : Result (List RangeRow) RangeFault = option_rows (texts_from texts (i + 1)) in
    sym so_far ∙ ap (λ t. rows_behind front (option_rows t)) (next_texts texts i d within) ∙ ap (λ r. rows_behind front (row_then r rest)) is

pub stops_there : (texts : List (Bor (List ℕ))) (i : ℕ) (d : Bor (List ℕ)) (front : List RangeRow) (fault : RangeFault)
    (all : Result (List RangeRow) RangeFault) → i < length texts
    → (fault ≡ OutOfMemory) ⊎ (option_row (get_or texts i d).now ≡ Err fault)
    → rows_behind front (option_rows (texts_from texts i)) ≡ all → (fault ≡ OutOfMemory) ⊎ (all ≡ Err fault)
stops_there texts i d front fault all within (inl memory) so_far = inl memory
stops_there texts i d front fault all within (inr is) so_far = inr (stops texts i d front fault all within is so_far)

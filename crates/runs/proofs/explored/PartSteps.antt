-- What a part finds, length by length.
use Rattle.std.proofs.Common.{◌≡◌, ℕ, zero, suc, ◌<◌, ◌≤◌, ◌+◌, ◌++◌, Bool, true, false, List, length, nat_lt, cond, refl, sym, ap, ap₂, ◌∙◌, arith, Option, None, Some, inl, inr, ⊎_elim}
use Rattle.std.proofs.lemmas.Bool.{cases_lt}
use Rattle.std.proofs.lemmas.Bool.Decides.{nat_tests}
use Rattle.std.specs.Prelude.{option_and_then}
use Rattle.sp_cells.specs.Config.{Config}
use Rattle.runs.specs.Shares.{divided, next_front, front_of, segment_of}
use Rattle.runs.specs.Rows.{segment_rows}
use Rattle.runs.specs.Merges.{rows_found, with_segment}
use Rattle.runs.specs.declared.explored.front.Front.{Front}
use Rattle.runs.specs.declared.explored.rows.Row.{Row}
use Rattle.runs.specs.declared.explored.search.Search.{Search}
use Rattle.runs.specs.declared.explored.share.Share.{Share}

-- the lists of the next length
pub next_is : (config : Config) (search : Search) (share : Share) (size : ℕ) (front next : Front) → front ≡ front_of config search share size
    → next ≡ next_front config search (divided share front) → next ≡ front_of config search share (size + 1)
unfolding front_of
next_is config search share size front next is is_next =
    let one : size + 1 ≡ suc size = omega arith in
    is_next ∙ ap (λ f. next_front config search (divided share f)) is ∙ sym (ap (front_of config search share) one)

lt-true : (a b : ℕ) → a < b → nat_lt a b ≡ true
lt-true a b less = grind (arith, nat_tests)

lt-false : (a b : ℕ) → b ≤ a → nat_lt a b ≡ false
lt-false a b less = grind (arith, nat_tests)

-- there is room, and the rows of a length come behind the others
pub rows_are : (config : Config) (search : Search) (share : Share) (size : ℕ) (rows : List Row)
    → rows_found config search share size ≡ Some rows → length (front_of config search share size).lists < search.limit
    → rows_found config search share (suc size) ≡ Some (rows ++ segment_rows size (segment_of config search share size))
unfolding rows_found
rows_are config search share size rows had room =
    ap (option_and_then (with_segment config search share size)) had
    ∙ ap (λ t. cond t (Some (rows ++ segment_rows size (segment_of config search share size))) None)
    (lt-true (length (front_of config search share size).lists) search.limit room)

-- there is none, and there are no rows
full : (config : Config) (search : Search) (share : Share) (size : ℕ) (rows : List Row)
    → rows_found config search share size ≡ Some rows → search.limit ≤ length (front_of config search share size).lists
    → rows_found config search share (suc size) ≡ None
unfolding rows_found
full config search share size rows had full_is =
    ap (option_and_then (with_segment config search share size)) had
    ∙ ap (λ t. cond t (Some (rows ++ segment_rows size (segment_of config search share size))) None)
    (lt-false (length (front_of config search share size).lists) search.limit full_is)

none_on : (config : Config) (search : Search) (share : Share) (size : ℕ) → rows_found config search share size ≡ None
    → rows_found config search share (suc size) ≡ None
unfolding rows_found
none_on config search share size none = ap (option_and_then (with_segment config search share size)) none

pub stops : (config : Config) (search : Search) (share : Share) (size steps : ℕ) (rows : List Row)
    → rows_found config search share size ≡ Some rows → search.limit ≤ length (front_of config search share size).lists
    → size < steps → None ≡ rows_found config search share steps
stops config search share size zero rows had full_is less = absurd (omega (arith, less))
stops config search share size (suc steps) rows had full_is less =
    elim (cases_lt size steps) [
      | inl before ↦ sym (none_on config search share steps (sym (stops config search share size steps rows had full_is before)))
      | inr behind ↦
          let same : steps ≡ size = omega (arith, behind, less) in
          sym (ap (λ n. rows_found config search share (suc n)) same ∙ full config search share size rows had full_is)
    ]

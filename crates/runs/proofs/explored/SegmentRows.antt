-- The rows of a part, read length by length, are what it found.
use Rattle.std.proofs.Common.{◌≡◌, ℕ, zero, suc, ◌<◌, ◌≤◌, ◌+◌, ◌%◌, ◌^◌, ◌==◌, Bool, true, false, List, [], ◌∷◌, ◌++◌, cond, length, map, refl, sym, ap, ap₂, ◌∙◌, arith, inl, inr, Option, None, Some}
use Rattle.std.proofs.lemmas.Bool.{cases_lt}
use Rattle.std.proofs.lemmas.Bool.Decides.{nat_tests}
use Rattle.std.proofs.lemmas.List.Sums.{fold-append}
use Rattle.std.specs.List.{fold}
use Rattle.sp_cells.specs.Config.{Config}
use Rattle.runs.specs.Alphabets.{with_line}
use Rattle.runs.specs.Answers.{tries_behind}
use Rattle.runs.specs.Findings.{nothing_found, noting_tries, noting_try, state_of}
use Rattle.runs.specs.Lists.{with_list_tried}
use Rattle.runs.specs.Merges.{with_counted, with_row_at, rows_found, kind_of_row}
use Rattle.runs.specs.Rows.{segment_rows, lists_row, state_row, kind_row}
use Rattle.runs.specs.Shares.{front_of, segment_of, told_lists}
use Rattle.runs.specs.declared.explored.findings.Findings.{Findings}
use Rattle.runs.specs.declared.explored.kinds.Kind.{Kind}
use Rattle.runs.specs.declared.explored.rows.Row.{Row}
use Rattle.runs.specs.declared.explored.search.Search.{Search}
use Rattle.runs.specs.declared.explored.share.Share.{Share}
use Rattle.runs.specs.declared.explored.tries.Try.{Try}
use Rattle.runs.proofs.explored.JoinedKinds.{tries_behind as kinds_behind, line_behind, three}
use Rattle.runs.proofs.explored.PartSteps.{rows_are}

-- what was found, with what was found behind it
abbrev pub joined : Findings → Findings → Findings
joined found more = record {
  lists = (found.lists + more.lists) % 2 ^ 64;
  states = fold with_line found.states more.states;
  kinds = fold with_counted found.kinds more.kinds;
}

made : ℕ → List (List ℕ) → List Kind → Findings
made lists states kinds = record { lists = lists; states = states; kinds = kinds }

three_equal : (a b : ℕ) (s t : List (List ℕ)) (k l : List Kind) → a ≡ b → s ≡ t → k ≡ l
    → (let one : Findings = record { lists = a; states = s; kinds = k } in one) ≡ record { lists = b; states = t; kinds = l }
three_equal a b s t k l p q r = cc

noted : (find : List ℕ) (tries : List Try) (found more : Findings)
    → noting_tries find (joined found more) tries ≡ joined found (noting_tries find more tries)
noted find tries found more =
    three_equal _ _ _ _ _ _
    (three found.lists more.lists (length tries))
    (line_behind more.states found.states (state_of tries))
    (kinds_behind find tries found.kinds more.kinds)

module _ (config : Config) (search : Search) where
  tried : (lists : List (List ℕ)) (found more : Findings)
      → fold (with_list_tried config search) (joined found more) lists ≡ joined found (fold (with_list_tried config search) more lists)
  tried [] found more = refl
  tried (list ∷ lists) found more =
      ap (λ f. fold (with_list_tried config search) f lists)
      (noted search.find (tries_behind config search.opening search.letters list) found more)
      ∙ tried lists found (with_list_tried config search more list)

  -- behind what was found, lists add what they add behind nothing
  pub tried_behind : (lists : List (List ℕ)) (found : Findings) → found.lists < 2 ^ 64
      → fold (with_list_tried config search) found lists ≡ joined found (fold (with_list_tried config search) nothing_found lists)
  tried_behind lists found small =
      let itself : (found.lists + 0) % 2 ^ 64 ≡ found.lists = omega (arith, small) in
      ap (λ f. fold (with_list_tried config search) f lists)
      (sym (three_equal ((found.lists + 0) % 2 ^ 64) found.lists found.states found.states found.kinds found.kinds itself refl refl))
      ∙ tried lists found nothing_found

  -- counts stay within 64 bits
  pub counted_small : (lists : List (List ℕ)) (found : Findings) → found.lists < 2 ^ 64
      → (fold (with_list_tried config search) found lists).lists < 2 ^ 64
  counted_small [] found small = small
  counted_small (list ∷ lists) found small =
      counted_small lists (with_list_tried config search found list) (omega arith)

same_size : (size : ℕ) → (size == size) ≡ true
same_size size = grind (arith, nat_tests)

-- rows of this length are taken
state_rows : (size : ℕ) (states : List (List ℕ)) (found : Findings)
    → fold (with_row_at size) found (map (state_row size) states) ≡ record found { states = fold with_line found.states states }
state_rows size [] found = refl
state_rows size (state ∷ states) found =
    ap (λ t. fold (with_row_at size) (cond t (record found { states = with_line found.states state }) found) (map (state_row size) states))
    (same_size size)
    ∙ state_rows size states (record found { states = with_line found.states state })

kind_rows : (size : ℕ) (kinds : List Kind) (found : Findings)
    → fold (with_row_at size) found (map (kind_row size) kinds) ≡ record found { kinds = fold with_counted found.kinds kinds }
kind_rows size [] found = refl
kind_rows size (kind ∷ kinds) found =
    ap (λ t. fold (with_row_at size) (cond t (record found { kinds = with_counted found.kinds kind }) found) (map (kind_row size) kinds))
    (same_size size)
    ∙ kind_rows size kinds (record found { kinds = with_counted found.kinds kind })

own_rows : (size : ℕ) (segment found : Findings) → fold (with_row_at size) found (segment_rows size segment) ≡ joined found segment
own_rows size segment found =
    ap (λ t. fold (with_row_at size) (cond t (record found { lists = (found.lists + segment.lists) % 2 ^ 64 }) found)
    (map (state_row size) segment.states ++ map (kind_row size) segment.kinds)) (same_size size)
    ∙ fold-append (with_row_at size) (record found { lists = (found.lists + segment.lists) % 2 ^ 64 })
    (map (state_row size) segment.states) (map (kind_row size) segment.kinds)
    ∙ ap (λ f. fold (with_row_at size) f (map (kind_row size) segment.kinds))
    (state_rows size segment.states (record found { lists = (found.lists + segment.lists) % 2 ^ 64 }))
    ∙ kind_rows size segment.kinds
    (record found {
      lists = (found.lists + segment.lists) % 2 ^ 64;
      states = fold with_line found.states segment.states;
    })

-- those of another are not
other_states : (size other : ℕ) (states : List (List ℕ)) (found : Findings) → (other == size) ≡ false
    → fold (with_row_at size) found (map (state_row other) states) ≡ found
other_states size other [] found differs = refl
other_states size other (state ∷ states) found differs =
    ap (λ t. fold (with_row_at size) (cond t (record found { states = with_line found.states state }) found) (map (state_row other) states)) differs
    ∙ other_states size other states found differs

other_kinds : (size other : ℕ) (kinds : List Kind) (found : Findings) → (other == size) ≡ false
    → fold (with_row_at size) found (map (kind_row other) kinds) ≡ found
other_kinds size other [] found differs = refl
other_kinds size other (kind ∷ kinds) found differs =
    ap (λ t. fold (with_row_at size) (cond t (record found { kinds = with_counted found.kinds kind }) found) (map (kind_row other) kinds)) differs
    ∙ other_kinds size other kinds found differs

other_rows : (size other : ℕ) (segment found : Findings) → (other == size) ≡ false
    → fold (with_row_at size) found (segment_rows other segment) ≡ found
other_rows size other segment found differs =
    ap (λ t. fold (with_row_at size) (cond t (record found { lists = (found.lists + segment.lists) % 2 ^ 64 }) found)
    (map (state_row other) segment.states ++ map (kind_row other) segment.kinds)) differs
    ∙ fold-append (with_row_at size) found (map (state_row other) segment.states) (map (kind_row other) segment.kinds)
    ∙ ap (λ f. fold (with_row_at size) f (map (kind_row other) segment.kinds)) (other_states size other segment.states found differs)
    ∙ other_kinds size other segment.kinds found differs

module _ (config : Config) (search : Search) (share : Share) where
  -- the rows of lists of at most so many letters
  abbrev pub all_rows : ℕ → List Row
  all_rows zero = []
  all_rows (suc size) = all_rows size ++ segment_rows size (segment_of config search share size)

  pub rows_all : (size : ℕ) → ((s : ℕ) → s < size → length (front_of config search share s).lists < search.limit)
      → rows_found config search share size ≡ Some (all_rows size)
  unfolding rows_found
  rows_all zero room = refl
  rows_all (suc size) room =
      rows_are config search share size (all_rows size) (rows_all size (λ s less. room s (omega (arith, less)))) (room size (omega arith))

  not_yet : (size steps : ℕ) (found : Findings) → steps ≤ size → fold (with_row_at size) found (all_rows steps) ≡ found
  not_yet size zero found less = refl
  not_yet size (suc steps) found less =
      let differs : (steps == size) ≡ false = grind (arith, nat_tests) in
      fold-append (with_row_at size) found (all_rows steps) (segment_rows steps (segment_of config search share steps))
      ∙ ap (λ f. fold (with_row_at size) f (segment_rows steps (segment_of config search share steps))) (not_yet size steps found (omega (arith, less)))
      ∙ other_rows size steps (segment_of config search share steps) found differs

  -- of all rows those of one length are what was found there
  pub rows_at : (size steps : ℕ) (found : Findings) → size < steps
      → fold (with_row_at size) found (all_rows steps) ≡ joined found (segment_of config search share size)
  rows_at size zero found less = absurd (omega (arith, less))
  rows_at size (suc steps) found less =
      fold-append (with_row_at size) found (all_rows steps) (segment_rows steps (segment_of config search share steps))
      ∙ elim (cases_lt size steps) [
        | inl before ↦
            let differs : (steps == size) ≡ false = grind (arith, nat_tests) in
            ap (λ f. fold (with_row_at size) f (segment_rows steps (segment_of config search share steps))) (rows_at size steps found before)
            ∙ other_rows size steps (segment_of config search share steps) (joined found (segment_of config search share size)) differs
        | inr behind ↦
            let is : steps ≡ size = omega (arith, behind, less) in
            ap (λ f. fold (with_row_at size) f (segment_rows steps (segment_of config search share steps))) (not_yet size steps found behind)
            ∙ ap (λ n. fold (with_row_at size) found (segment_rows n (segment_of config search share n))) is
            ∙ own_rows size (segment_of config search share size) found
      ]

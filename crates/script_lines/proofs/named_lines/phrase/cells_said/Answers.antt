use Rattle.std.proofs.Common.{rules, ◌≡◌, ◌∙◌, ◌==◌, ◌-◌, ◌+◌, ◌++◌, ◌∷◌, [], ℕ, Bool, true, false, List, length, map, sym, ap, arith, Option, Some, None}
use Rattle.std.specs.Prelude.{option_map}
use Rattle.std.proofs.lemmas.List.{map-append}
use Rattle.tcg_tokens.specs.Tree.{Tree, tree}
use Rattle.tcg_tokens.specs.declared.value.Value.{Value}
use Rattle.script_lines.specs.Words.{first_word, after_word}
use Rattle.script_lines.specs.Phrases.{cell_said}
use Rattle.script_lines.specs.Said.{cell_then, cells_up_to, most_cells}
use Rattle.script_lines.proofs.named_lines.Cells.{cells_behind, cells_more, cells_none, cells_end, cells_go, cells_past}
use Rattle.script_lines.proofs.named_lines.phrase.cells_said.Goals as goal

pub returns-then-is_empty : goal.returns-then-is_empty
returns-then-is_empty c =
    cells_end c.args.table c.loop-number.number c.loop-number.words.rest.now (map tree c.loop-number.cells.items)
    (cells_up_to most_cells c.args.table c.args.words.now.rest.now) c.loop-number-test.true
    (ap (λ (w : List ℕ). length w == 0) (sym c.next_word-word.ensures.word) ∙ sym c.is_empty.ensures ∙ c.if-is_empty.true)
    c.loop-number.invariant

pub returns-in-None : goal.returns-in-None
returns-in-None c =
    let table = c.args.table in
    let n = c.loop-number.number in
    let rest = c.loop-number.words.rest.now in
    let cells = map tree c.loop-number.cells.items in
    let all = cells_up_to most_cells table c.args.words.now.rest.now in
    let later = cells_up_to (most_cells - (n + 1)) table (after_word rest) in
    let some : (length (first_word rest) == 0) ≡ false =
    ap (λ (w : List ℕ). length w == 0) (sym c.next_word-word.ensures.word) ∙ sym c.is_empty.ensures ∙ c.if-is_empty.false in
    let says : cell_said table (first_word rest) ≡ None =
    ap (cell_said table) (sym c.next_word-word.ensures.word) ∙ sym c.in_ok-cell.ensures
    ∙ ap (λ (o : Option Value). option_map tree o) c.in-None.is in
    ap (λ (o : Option Tree). cells_behind cells (cell_then o later)) (sym says)
    ∙ cells_go table n rest cells all c.loop-number-test.true some c.loop-number.invariant

pub loop-number-preserved : goal.loop-number-preserved
loop-number-preserved c =
    let table = c.args.table in
    let n = c.loop-number.number in
    let rest = c.loop-number.words.rest.now in
    let items = c.loop-number.cells.items in
    let cells = map tree items in
    let all = cells_up_to most_cells table c.args.words.now.rest.now in
    let later = cells_up_to (most_cells - (n + 1)) table (after_word rest) in
    let some : (length (first_word rest) == 0) ≡ false =
    ap (λ (w : List ℕ). length w == 0) (sym c.next_word-word.ensures.word) ∙ sym c.is_empty.ensures ∙ c.if-is_empty.false in
    let says : cell_said table (first_word rest) ≡ Some (tree c.in-Some.cell) =
    ap (cell_said table) (sym c.next_word-word.ensures.word) ∙ sym c.in_ok-cell.ensures
    ∙ ap (λ (o : Option Value). option_map tree o) c.in-Some.is in
    ap (λ (vs : List Value). cells_behind (map tree vs) (cells_up_to (most_cells - (n + 1)) table c.next_word-word.new.self.rest.now)) c.in_ok-push-in-Some.ensures.items
    ∙ ap (λ (r : List ℕ). cells_behind (map tree (items ++ c.in-Some.cell ∷ [])) (cells_up_to (most_cells - (n + 1)) table r)) c.next_word-word.ensures.rest
    ∙ ap (λ (ts : List Tree). cells_behind ts later) (map-append tree items (c.in-Some.cell ∷ []))
    ∙ sym (cells_more cells (tree c.in-Some.cell) later)
    ∙ ap (λ (o : Option Tree). cells_behind cells (cell_then o later)) (sym says)
    ∙ cells_go table n rest cells all c.loop-number-test.true some c.loop-number.invariant

pub loop-number-init : goal.loop-number-init
loop-number-init c =
    let more = cells_up_to most_cells c.args.table c.args.words.now.rest.now in
    ap (λ (vs : List Value). cells_behind (map tree vs) more) c.new-cells.ensures.items ∙ cells_none more

pub returns : goal.returns
returns c =
    cells_past c.args.table c.loop-number.number c.loop-number.words.rest.now (map tree c.loop-number.cells.items)
    (cells_up_to most_cells c.args.table c.args.words.now.rest.now) (omega (arith, c.loop-number-test.false))
    c.loop-number.invariant

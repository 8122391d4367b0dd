-- The cells that words write, one by one.
use Rattle.std.proofs.Common.{◌≡◌, ℕ, suc, ◌+◌, ◌-◌, ◌<◌, ◌≤◌, ◌==◌, Bool, true, false, List, [], ◌∷◌, ◌++◌, length, refl, sym, ap, append_assoc, append-nil, ◌∙◌, arith, Option, Some, None}
use Rattle.std.specs.Prelude.{if◌then◌else◌}
use Rattle.tcg_tokens.specs.Tree.{Tree}
use Rattle.script_lines.specs.Words.{first_word, after_word}
use Rattle.script_lines.specs.Phrases.{cell_said}
use Rattle.script_lines.specs.Said.{cell_then, cells_up_to, most_cells}

pub cells_step : (table n : ℕ) (rest : List ℕ) → n < most_cells
    → cells_up_to (most_cells - n) table rest
    ≡ (if length (first_word rest) == 0 then Some []
    else cell_then (cell_said table (first_word rest))
    (cells_up_to (most_cells - (n + 1)) table (after_word rest)))
unfolding cells_up_to
cells_step table n rest lt =
    let e : most_cells - n ≡ suc (most_cells - (n + 1)) = omega (arith, lt) in
    rw e refl

-- those that were read, before those that are left
abbrev pub cells_behind : List Tree → Option (List Tree) → Option (List Tree)
cells_behind cells None = None
cells_behind cells (Some more) = Some (cells ++ more)

pub cells_more : (cells : List Tree) (cell : Tree) (more : Option (List Tree))
    → cells_behind cells (cell_then (Some cell) more) ≡ cells_behind (cells ++ cell ∷ []) more
cells_more cells cell None = refl
cells_more cells cell (Some more) = ap Some (sym (append_assoc cells (cell ∷ []) more))

pub cells_none : (more : Option (List Tree)) → cells_behind [] more ≡ more
cells_none None = refl
cells_none (Some more) = refl

-- no word is left
pub cells_end : (table n : ℕ) (rest : List ℕ) (cells : List Tree) (all : Option (List Tree)) → n < most_cells
    → (length (first_word rest) == 0) ≡ true
    → cells_behind cells (cells_up_to (most_cells - n) table rest) ≡ all → Some cells ≡ all
cells_end table n rest cells all lt none inv =
    ap Some (sym (append-nil cells))
    ∙ ap (cells_behind cells)
    (sym (cells_step table n rest lt
    ∙ ap (λ b. if b then Some [] else cell_then (cell_said table (first_word rest)) (cells_up_to (most_cells - (n + 1)) table (after_word rest))) none))
    ∙ inv

-- a word says something, or nothing
pub cells_go : (table n : ℕ) (rest : List ℕ) (cells : List Tree) (all : Option (List Tree)) → n < most_cells
    → (length (first_word rest) == 0) ≡ false
    → cells_behind cells (cells_up_to (most_cells - n) table rest) ≡ all
    → cells_behind cells (cell_then (cell_said table (first_word rest)) (cells_up_to (most_cells - (n + 1)) table (after_word rest))) ≡ all
cells_go table n rest cells all lt some inv =
    ap (cells_behind cells)
    (sym (cells_step table n rest lt
    ∙ ap (λ b. if b then Some [] else cell_then (cell_said table (first_word rest)) (cells_up_to (most_cells - (n + 1)) table (after_word rest))) some))
    ∙ inv

pub cells_past : (table n : ℕ) (rest : List ℕ) (cells : List Tree) (all : Option (List Tree)) → most_cells ≤ n
    → cells_behind cells (cells_up_to (most_cells - n) table rest) ≡ all → None ≡ all
unfolding cells_up_to
cells_past table n rest cells all le inv =
    let e : most_cells - n ≡ 0 = omega (arith, le) in
    ap (λ k. cells_behind cells (cells_up_to k table rest)) (sym e) ∙ inv

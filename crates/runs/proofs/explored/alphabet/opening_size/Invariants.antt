use Rattle.std.proofs.Common.{◌≡◌, ◌+◌, drop}
use Rattle.std.specs.List.{list_any, prefix_len}
use Rattle.runs.specs.Alphabets.{is_letters_mark, opens}
use Rattle.runs.proofs.explored.alphabet.opening_size.Given as goal

abbrev pub invariant-loop-i : goal.invariant-loop-i
invariant-loop-i l =
    l.i + prefix_len (opens (list_any is_letters_mark l.lines)) (drop l.i l.lines) ≡ prefix_len (opens (list_any is_letters_mark l.lines)) l.lines

use Rattle.std.proofs.Common.{◌≡◌, ◌+◌, drop}
use Rattle.script_lines.specs.Phrases.{first_place}
use Rattle.script_lines.proofs.named_lines.words.first_place.Given as goal

abbrev pub invariant-loop-i : goal.invariant-loop-i
invariant-loop-i l = l.i + first_place l.sign (drop l.i l.word) ≡ first_place l.sign l.word

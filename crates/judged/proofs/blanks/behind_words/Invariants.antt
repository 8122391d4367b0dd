use Rattle.std.proofs.Common.{◌≡◌}
use Rattle.script_lines.specs.Words.{after_words}
use Rattle.judged.proofs.blanks.behind_words.Given as goal

abbrev pub invariant-loop-word : goal.invariant-loop-word
invariant-loop-word l = l.words.rest.now ≡ after_words l._word l.line

use Rattle.std.proofs.Common.{◌≡◌, ◌++◌, drop, take}
use Rattle.hba_program.specs.Words.{front_word, behind_word}
use Rattle.hba_program.proofs.hba_lines.words.cut.Given as goal

abbrev pub invariant-loop-i : goal.invariant-loop-i
invariant-loop-i l =
    (take l.i l.text ++ front_word (drop l.i l.text) ≡ front_word l.text) × (behind_word (drop l.i l.text) ≡ behind_word l.text)

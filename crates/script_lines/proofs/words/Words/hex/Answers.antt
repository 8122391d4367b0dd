use Rattle.std.proofs.Common.{rules}
use Rattle.script_lines.proofs.WholeWords.{says, none_behind}
use Rattle.script_lines.proofs.words.Words.hex.Goals as goal

-- src/line.rt:137:5
pub returns-in-Some-clause-value : goal.returns-in-Some-clause-value
returns-in-Some-clause-value c = search (rules, says)

-- src/line.rt:137:5
pub returns-in-Some-clause-rest : goal.returns-in-Some-clause-rest
returns-in-Some-clause-rest c = search (rules, none_behind)

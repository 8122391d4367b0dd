use Rattle.std.proofs.Common.{rules}
use Rattle.script_lines.proofs.WrongWords.{is_wrong}
use Rattle.script_lines.proofs.words.Words.number.Goals as goal

-- src/line.rt:92:5
pub returns-in-None-2-clause-value : goal.returns-in-None-2-clause-value
returns-in-None-2-clause-value c = search (rules, is_wrong)

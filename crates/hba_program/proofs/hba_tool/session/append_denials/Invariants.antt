use Rattle.std.proofs.Common.{◌≡◌, ◌++◌, drop}
use Rattle.hba_program.specs.Sayings.{denials_text}
use Rattle.hba_program.proofs.hba_tool.session.append_denials.Given as goal

abbrev pub invariant-loop-denial : goal.invariant-loop-denial
invariant-loop-denial l = l.text.items ++ denials_text (drop l.denial-index l.denials) ≡ l.initial.text.items ++ denials_text l.denials

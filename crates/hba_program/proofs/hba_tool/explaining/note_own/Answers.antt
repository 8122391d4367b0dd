-- What the host does by itself, where reasons are told.
use Rattle.std.proofs.Common.{Option, Some, [], sym, subst}
use Rattle.drive_scripts.specs.Kept.{KeptReasons}
use Rattle.hba_program.specs.Explained.{ExplainsOperation}
use Rattle.hba_program.proofs.hba_tool.Refusals.{explained_own}
use Rattle.hba_program.proofs.hba_tool.explaining.note_own.Goals as goal

pub returns-in-Some : goal.returns-in-Some
returns-in-Some c = λ before operation is by adds.
    subst (λ (k : Option KeptReasons). ExplainsOperation c.args.source k (Some c.note_act.new.explainer) before operation [])
    (sym c.in-Some.is)
    (explained_own c.args.source c.args.cause c.in-Some.explainer c.note_act.new.explainer before c.args.hba.now c.args.acts operation
    c.note_act.ensures is by adds)

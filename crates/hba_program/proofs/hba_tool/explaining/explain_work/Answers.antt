-- What a work did that gave no command to the drive, where reasons are told.
use Rattle.std.proofs.Common.{Option, Some, List, ℕ, sym, subst}
use Rattle.drive_scripts.specs.Kept.{KeptReasons}
use Rattle.hba.specs.declared.work.Heard.{Heard}
use Rattle.hba_program.specs.Explained.{ExplainsSo, ExplainsOperation, HearsOperation}
use Rattle.hba_program.proofs.hba_tool.Refusals.{explained_other}
use Rattle.hba_program.proofs.hba_tool.explaining.explain_work.Goals as goal

pub returns-in-None : goal.returns-in-None
returns-in-None c = λ before operation is works hears.
    subst (λ (k : Option KeptReasons). ExplainsOperation c.args.source k (Some c.note_act.new.explainer) before operation c.new-in-None.result.items)
    (sym c.in-Some.is)
    (subst (λ (text : List ℕ). ExplainsSo c.args.source c.in-Some.explainer c.note_act.new.explainer before operation text)
    (sym c.new-in-None.ensures.items)
    (explained_other c.args.source c.in-Some.explainer c.note_act.new.explainer before c.args.hba.now operation c.args.acts
    c.note_act.ensures is works
    (subst (λ (h : Option Heard). HearsOperation before c.args.hba.now h operation) c.in-None.is hears)))

use Rattle.std.proofs.Common.{rules, List, ℕ, [], ◌∷◌, OnOk, subst}
use Rattle.script_lines.specs.Texts.{Prints}
use Rattle.script_lines.proofs.Heads.{none_given}
use Rattle.script_lines.proofs.report.Report.print_each.Goals as goal

pub returns-then-is_empty : goal.returns-then-is_empty
returns-then-is_empty c =
    subst (λ (text : List ℕ). OnOk c.print_ok.result (Prints c.args.self.now c.print_ok.new.self (text ∷ [])))
    (none_given c.args.heads.now (search rules)) c.print_ok.ensures

use Rattle.std.proofs.Common.{ℕ, List, ◌∷◌, subst}
use Rattle.script_lines.specs.Texts.{Prints, denial_lines}
use Rattle.drive_scripts.specs.Effects.{served_text}
use Rattle.drive_scripts.proofs.Printed.{prints-then}
use Rattle.drive_scripts.proofs.printing.print_success.Goals as goal

pub returns-clause-prints : goal.returns-clause-prints
returns-clause-prints c =
    subst
    (λ (bytes : List ℕ). Prints c.args.report.now c.print_denial.new.report
    (served_text c.args.command.now bytes ∷ denial_lines c.args.step c.args.client c.args.answer.now.denied))
    c.deref.ensures.value
    (prints-then _ _ _ _ _ c.in_ok-print_served.ensures c.in_ok-print_denial.ensures.prints)

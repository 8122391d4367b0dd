use Rattle.drive_scripts.proofs.Printed.{prints-then}
use Rattle.drive_scripts.proofs.printing.print_failure.Goals as goal

pub returns-clause-prints : goal.returns-clause-prints
returns-clause-prints c = prints-then _ _ _ _ _ c.in_ok-print_failure.ensures c.in_ok-print_denial.ensures.prints

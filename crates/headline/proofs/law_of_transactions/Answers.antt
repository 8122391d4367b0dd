use Rattle.headline.proofs.NoTraceLaws.{open_law_of_steps, abort_law_of_steps}
use Rattle.headline.proofs.law_of_transactions.Goals as goal

pub returns : goal.returns
returns c = record { hidden = open_law_of_steps; forgotten = abort_law_of_steps }

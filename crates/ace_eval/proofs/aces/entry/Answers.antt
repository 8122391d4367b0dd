use Rattle.ace_eval.proofs.AceLemmas.{allowed_by}
use Rattle.ace_eval.proofs.aces.entry.Goals as goal

pub returns-clause-allowed : goal.returns-clause-allowed
returns-clause-allowed g c = allowed_by (g.R.Rows.profile_of c.args.rows.now) (g.R.Rows.look_up c.args.rows.now) c.args.sp c.args.object c.args.method c.args.column c.args.held.now c.find.result c.find.ensures

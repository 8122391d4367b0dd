use Rattle.history.proofs.Elsewhere.{tcg_views}
use Rattle.history.proofs.HeldProofs.{tcg_tags}
use Rattle.history.proofs.QuietProofs.{tcg_quiet}
use Rattle.history.proofs.laws_of_items.Goals as goal

pub returns-clause-quiet : goal.returns-clause-quiet
returns-clause-quiet c = tcg_quiet

pub returns-clause-tags : goal.returns-clause-tags
returns-clause-tags c = tcg_tags

pub returns-clause-views : goal.returns-clause-views
returns-clause-views c = tcg_views

use Rattle.std.proofs.Common.{rules}
use Rattle.tcg_tokens.specs.Message.{message}
use Rattle.tcg_calls.specs.Statuses.{fail}
use Rattle.methods.specs.Said.{refusal_of}
use Rattle.tper.proofs.Carried.{bare_fail}
use Rattle.tper.proofs.Items.{carried-as}
use Rattle.tper.proofs.item.failed.Goals as goal

pub returns-clause-carried : goal.returns-clause-carried
returns-clause-carried c = carried-as (message c.answer.result.reply) (refusal_of fail) (search rules) bare_fail

use Rattle.tcg_tokens.proofs.Writings.{test_is}
use Rattle.tcg_tokens.specs.Message.{message}
use Rattle.tcg_tokens.proofs.condition.writable.Goals as goal

pub returns-clause-spelled : goal.returns-clause-spelled
returns-clause-spelled c = test_is (message c.args.item.now) c.is_writable_item.result c.is_writable_item.ensures.shaped c.is_writable_item.ensures.exact

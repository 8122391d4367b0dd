use Rattle.std.proofs.Common.{subst, arith}
use Rattle.tcg_tokens.specs.Gives.{Gives}
use Rattle.tcg_tokens.specs.Message.{message}
use Rattle.tcg_tokens.proofs.Items.{all_again, found}
use Rattle.tcg_tokens.proofs.Settled.{settled_result}
use Rattle.tcg_tokens.proofs.Skips.{spelled}
use Rattle.tcg_tokens.proofs.Tokens.{bytes_by_index}
use Rattle.tcg_tokens.proofs.read.read_item.Goals as goal

pub returns-clause-found : goal.returns-clause-found
returns-clause-found c = found c.args.bytes.now c.read_whole.result (bytes_by_index c.args.bytes.now (λ i lt. omega (arith, c.type_inv.bytes i))) c.read_whole.ensures.given

pub returns-clause-only : goal.returns-clause-only
returns-clause-only c = λ m spells. subst (λ r. Gives message c.read_whole.result r) (all_again c.args.bytes.now m spells) c.read_whole.ensures.given

pub returns-clause-settled : goal.returns-clause-settled
returns-clause-settled c = settled_result c.args.bytes.now c.read_whole.result c.read_whole.ensures.given

pub returns-clause-memory : goal.returns-clause-memory
returns-clause-memory c = λ refused. spelled c.args.bytes.now (bytes_by_index c.args.bytes.now (λ i lt. omega (arith, c.type_inv.bytes i))) (c.read_whole.ensures.memory refused)

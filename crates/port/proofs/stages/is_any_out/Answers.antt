use Rattle.std.proofs.Common.{◌≡◌, ℕ, true, sym, rules}
use Rattle.port_history.specs.Stages.{is_out}
use Rattle.port.specs.Answers.{stage_at}
use Rattle.port.proofs.Tests.{any_below_at}
use Rattle.port.proofs.stages.is_any_out.Goals as goal

pub returns-then-is_out : goal.returns-then-is_out
returns-then-is_out c =
    let here : is_out (stage_at c.args.slots.now c.loop-tag.tag) ≡ true = search rules in
    sym (any_below_at (λ (tag : ℕ). is_out (stage_at c.args.slots.now tag)) 32 c.loop-tag.tag here c.loop-tag-test.true)

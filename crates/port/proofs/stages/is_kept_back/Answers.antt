use Rattle.std.proofs.Common.{◌≡◌, ℕ, true, sym, rules}
use Rattle.port_history.specs.Stages.{keeps_back}
use Rattle.port.specs.Answers.{stage_at}
use Rattle.port.proofs.Tests.{any_below_at}
use Rattle.port.proofs.stages.is_kept_back.Goals as goal

pub returns-then-keeps_back : goal.returns-then-keeps_back
returns-then-keeps_back c =
    let here : keeps_back c.args.number (stage_at c.args.slots.now c.loop-tag.tag) ≡ true = search rules in
    sym (any_below_at (λ (tag : ℕ). keeps_back c.args.number (stage_at c.args.slots.now tag)) 32 c.loop-tag.tag here c.loop-tag-test.true)

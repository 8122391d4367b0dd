use Rattle.std.proofs.Common.{ℕ, List, ap, ◌∙◌}
use Rattle.slots.specs.Fetch.{fetched}
use Rattle.port.specs.State.{with_history}
use Rattle.port.specs.Live.{LiveState}
use Rattle.port.proofs.Accepting.{fetched_is}
use Rattle.port.proofs.Living.{told_history, told_log}
use Rattle.port.proofs.live.LivePort.memory.Goals as goal

pub returns-clause-issued : goal.returns-clause-issued
returns-clause-issued c = λ o list h tag put lt was.
    ap (λ (m : List ℕ). fetched m tag) (c.memory.ensures ∙ ap (λ (s : LiveState). s.bare.memory) c.self.view_is) ∙ fetched_is (with_history c.args.self.now.bare (told_history o list) (told_log o list)) o list tag put lt h.stands was

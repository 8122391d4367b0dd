use Rattle.std.proofs.Common.{ℕ, List, ap, ◌∙◌}
use Rattle.slots.specs.Fetch.{fetched}
use Rattle.port.specs.State.{PortState}
use Rattle.port.proofs.Accepting.{fetched_is}
use Rattle.port.proofs.port.Port.memory.Goals as goal

pub returns-clause-issued : goal.returns-clause-issued
returns-clause-issued c = λ o list h tag put lt was.
    ap (λ (m : List ℕ). fetched m tag) (c.memory.ensures ∙ ap (λ (s : PortState). s.memory) c.self.view_is) ∙ fetched_is c.args.self.now o list tag put lt h was

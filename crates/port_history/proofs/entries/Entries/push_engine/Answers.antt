use Rattle.std.proofs.Common.{length}
use Rattle.port_history.specs.Entries.{HasRequest, HasAnswer}
use Rattle.port_history.proofs.EntryProofs.{all_with}
use Rattle.port_history.proofs.entries.Entries.push_engine.Goals as goal

pub invariant_of-self : goal.invariant_of-self
invariant_of-self c = (
  all_with (HasRequest (length c.self.inside.requests.items)) _ _ _ c.push_reserved.ensures.items
      c.self.invariant.0 (c.mark_of.ensures.placed _).0,
  all_with (HasAnswer (length c.self.inside.answers.items)) _ _ _ c.push_reserved.ensures.items
      c.self.invariant.1 (c.mark_of.ensures.placed _).1,
  c.self.invariant.2,
)

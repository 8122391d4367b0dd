use Rattle.std.proofs.Common.{ℕ, sym, ◌∙◌}
use Rattle.std.specs.Prelude.{is_some}
use Rattle.shadow_mbr.specs.Stored.{block_in}
use Rattle.shadow_mbr.proofs.Fills.{none_kept}
use Rattle.shadow_mbr.proofs.sectors.Sectors.fill.Goals as goal

pub returns-else-not-fills-clause-kept : goal.returns-else-not-fills-clause-kept
returns-else-not-fills-clause-kept c =
    let all = rw c.from.ensures at c.fills.ensures.all in
    rw (sym c.self.view_is)
    (λ s. c.fills.ensures.kept s ∙ none_kept (λ (s : ℕ). is_some (block_in c.self.inside.kept s)) c.args.first _ (all c.if-not-fills.false) s)

use Rattle.std.proofs.Common.{ℕ, length, ◌∙◌}
use Rattle.std.specs.Prelude.{is_some}
use Rattle.shadow_mbr.specs.Stored.{kept_at}
use Rattle.shadow_mbr.proofs.Touched.{none_new}
use Rattle.shadow_mbr.proofs.sectors.Sectors.write.Goals as goal

pub returns-else-not-overwrites-clause-kept : goal.returns-else-not-overwrites-clause-kept
returns-else-not-overwrites-clause-kept c = λ s.
    c.overwrites.ensures.kept s
    ∙ none_new (λ (s : ℕ). is_some (kept_at c.args.self.now s)) c.args.at (length c.args.bytes.now) (c.overwrites.ensures.covered.0 c.if-not-overwrites.false) s

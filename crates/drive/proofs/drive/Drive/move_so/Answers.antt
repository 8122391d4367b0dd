use Rattle.std.proofs.Common.{◌≡◌, IfOk, sym, subst, inl, inr}
use Rattle.history.specs.Facts.{Facts}
use Rattle.drive.specs.Transfer.{moved_bytes}
use Rattle.drive.specs.State.{kept_facts}
use Rattle.drive.specs.declared.transfer.Way.{Way}
use Rattle.drive.proofs.drive.Drive.move_so.Goals as goal

pub returns-in-Dma-clause-data : goal.returns-in-Dma-clause-data
returns-in-Dma-clause-data c = elim c.in-Dma.is [
  | inl is ↦ subst
      (λ (w : Way). IfOk c.carry_out.result (λ v. (f : Facts) → v.items ≡ moved_bytes (kept_facts c.args.self.now f) w c.args.held.now))
      (sym is) c.carry_out.ensures.data
  | inr is ↦ subst
      (λ (w : Way). IfOk c.carry_out.result (λ v. (f : Facts) → v.items ≡ moved_bytes (kept_facts c.args.self.now f) w c.args.held.now))
      (sym is) c.carry_out.ensures.data
]

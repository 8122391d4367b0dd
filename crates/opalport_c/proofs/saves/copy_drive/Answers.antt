use Rattle.std.proofs.Common.{ℕ, List, inl, subst}
use Rattle.library_calls.specs.Copies.{IsCopied}
use Rattle.opalport_c.proofs.saves.copy_drive.Goals as goal

pub returns-in-Ok : goal.returns-in-Ok
returns-in-Ok c = inl (
  c.in-Ok.text.items,
  c.in-Ok.ensures.text,
  subst (λ (text : List ℕ). IsCopied text c.args.into.now c.copy_out.new.into c.copy_out.result) c.deref.ensures.value c.copy_out.ensures,
)

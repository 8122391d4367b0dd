-- A handle with something is refused, and keeps it.
use Rattle.std.proofs.Common.{◌≡◌, ◌∙◌, refl, sym}
use Rattle.library_calls.specs.declared.byte_calls.error.CallError.TheVariants.{InUse}
use Rattle.opalport_c.proofs.Handed.{in_use, not_done}
use Rattle.opalport_c.proofs.copies.opal_raw_clone.Goals as goal

pub returns-then-is_open : goal.returns-then-is_open
returns-then-is_open c = record {
  other = refl;
  copied = λ done. absurd (not_done InUse (sym c.code.ensures ∙ done));
  refused = λ _. refl;
  why = λ _. (InUse, c.code.ensures, in_use _ _ (sym c.is_open.ensures ∙ c.if-is_open.true));
}

use Rattle.std.proofs.Common.{Some, refl, sym, ap, ◌∙◌}
use Rattle.opalport_c.proofs.Handed.{none_of}
use Rattle.opalport_c.proofs.hbas.hba_new.Goals as goal

pub returns-in-Ok : goal.returns-in-Ok
returns-in-Ok c = record {
  in_use = λ some. absurd (some (none_of _ (sym c.is_open.ensures ∙ c.if-is_open.false)));
  opened = λ _. (
    c.in-Ok.ensures.made.0,
    c.put.ensures ∙ ap (λ o. Some o) c.in-Ok.ensures.made.1,
    c.in-Ok.ensures.made.2,
    c.in-Ok.ensures.made.3,
  );
  refused = λ done. absurd (done refl);
  can = λ _. c.in-Ok.ensures.can;
  why = λ _ done. absurd (done refl);
}

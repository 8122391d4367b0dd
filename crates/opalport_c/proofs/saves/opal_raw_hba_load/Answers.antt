use Rattle.std.proofs.Common.{refl, sym, subst, ◌∙◌}
use Rattle.host_memory.specs.declared.width.AddressWidth.{AddressWidth}
use Rattle.opalport_c.specs.Saves.{IsLoadedHba}
use Rattle.opalport_c.proofs.Handed.{none_of}
use Rattle.opalport_c.proofs.saves.opal_raw_hba_load.Goals as goal

pub returns-in-Ok : goal.returns-in-Ok
returns-in-Ok c = record {
  in_use = λ some. absurd (some (none_of _ (sym c.is_open.ensures ∙ c.if-is_open.false)));
  loaded = λ _. (
    c.in-Ok.object.value,
    c.put.ensures,
    subst (λ (w : AddressWidth). IsLoadedHba w c.args.text.now c.in-Ok.object.value) c.by.ensures c.in-Ok.ensures.loaded,
  );
  refused = λ done. absurd (done refl);
  why = λ _ done. absurd (done refl);
}

-- What is written behind the reference stands in the memory.
use Rattle.std.proofs.Common.{◌≡◌, length, rules, refl, sym, ap, ◌∙◌, arith, take}
use Rattle.std.proofs.lemmas.List.{places}
use Rattle.slots.specs.Layout.{memory_size, memory_with, memory_part}
use Rattle.slots.proofs.Lending.{lent_part, whole_part, part_filled}
use Rattle.slots.proofs.memory.PortMemory.part_mut.Goals as goal

pub returns : goal.returns
returns c =
    let bytes = c.self.inside.bytes in
    let long : bytes.len ≡ memory_size = bytes.ok.0 ∙ c.self.invariant in
    let whole : length c.args.self.now ≡ memory_size = ap length (sym c.self.view_is) ∙ c.self.invariant in (
      (
        refl,
        λ w.
            lent_part bytes.items w c.args.at bytes.len (sym bytes.ok.0) (omega (arith, long, c.requires))
            ∙ (λ i. take (long i) (memory_with bytes.items c.args.at w))
            ∙ ap (λ m. take memory_size (memory_with m c.args.at w)) c.self.view_is,
      ),
      record {
        writes_back = tt;
        value = c.slice_mut.ensures.value ∙ ap (λ m. memory_part m c.args.at c.args.len) c.self.view_is;
        len = search (rules, places);
        whole = λ w size. whole_part c.args.self.now w c.args.at whole (omega (arith, size, c.requires));
        inside = λ i w fits. part_filled c.args.self.now w c.args.at c.args.len i whole c.requires fits;
      },
    )

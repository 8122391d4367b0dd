-- The part that is lent is the buffer of the slot.
use Rattle.std.proofs.Common.{rules, refl}
use Rattle.slots.proofs.memory.PortMemory.buffer_mut.Goals as goal

pub returns : goal.returns
returns c =
    let place = c.buffer_place.ensures.value in (
      (refl, λ w. search rules),
      record {
        writes_back = tt;
        value = search rules;
        len = search rules;
        whole = λ bytes size. rw (← place) (c.part_mut.ensures.whole bytes size);
        inside = λ i bytes fits. rw (← place) (c.part_mut.ensures.inside i bytes fits);
      },
    )

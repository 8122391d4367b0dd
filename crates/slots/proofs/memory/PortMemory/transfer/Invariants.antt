-- The descriptors so far are sound, and what they add up to.
use Rattle.std.proofs.Common.{◌≡◌, ◌≤◌, ◌*◌, true}
use Rattle.std.specs.List.{list_all}
use Rattle.slots.specs.Table.{is_sound, descriptor_range, descriptors, bytes_of}
use Rattle.slots.proofs.memory.PortMemory.transfer.Given as goal

abbrev pub invariant-loop-k : goal.invariant-loop-k
invariant-loop-k l = record {
  sound : list_all is_sound (descriptors l.self l.table l.k) ≡ true;
  sum : l.total ≡ bytes_of (descriptors l.self l.table l.k);
  small : l.total ≤ descriptor_range * l.k;
}

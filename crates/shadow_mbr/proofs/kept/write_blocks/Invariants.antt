use Rattle.std.proofs.Common.{◌≡◌, ℕ, ◌-◌, ◌≤◌, length, take}
use Rattle.shadow_mbr.specs.Stored.{kept_byte, byte_after}
use Rattle.shadow_mbr.specs.Places.{AreOwn, blocks_of}
use Rattle.shadow_mbr.proofs.kept.write_blocks.Given as goal

abbrev pub invariant-loop-done : goal.invariant-loop-done
invariant-loop-done l = record {
  within : l.done ≤ length l.bytes;
  finder : l.finder ≡ l.initial.finder;
  own : AreOwn l.initial.finder l.blocks.items;
  bytes : (p : ℕ) → kept_byte (blocks_of l.initial.finder l.blocks.items) p ≡ byte_after l.at (take l.done l.bytes) (kept_byte (blocks_of l.initial.finder l.fn.blocks.items) p) p;
}

abbrev pub decreases-loop-done : goal.decreases-loop-done
decreases-loop-done l = length l.bytes - l.done

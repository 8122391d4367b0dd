use Rattle.std.proofs.Common.{◌≡◌, ◌<◌, ◌+◌, ◌*◌, ℕ, length, slice_index}
use Rattle.shadow_mbr.specs.Stored.{byte_at}
use Rattle.drive.proofs.lending.read_parts.Given as goal

abbrev pub invariant-loop-i : goal.invariant-loop-i
invariant-loop-i l =
    (length l.into ≡ length l.initial.into)
    × ((k : ℕ) → k < l.i → slice_index l.into k ≡ byte_at l.media (512 * l.lba + l.from + k))

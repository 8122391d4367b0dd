use Rattle.std.proofs.Common.{◌≡◌, ◌++◌, ◌-◌, ◌*◌, ◌/◌, ◌≤◌, length, drop}
use Rattle.shadow_mbr.specs.Stored.{heads_of}
use Rattle.drive.proofs.heads.heads.Given as goal

abbrev pub invariant-loop-sector : goal.invariant-loop-sector
invariant-loop-sector l = record {
  within : l.sector ≤ length l.bytes / 512;
  heads : l.heads.items ++ heads_of (length l.bytes / 512 - l.sector) (drop (512 * l.sector) l.bytes) ≡ heads_of (length l.bytes / 512) l.bytes;
}

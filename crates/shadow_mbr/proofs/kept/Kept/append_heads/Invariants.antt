use Rattle.std.proofs.Common.{◌≡◌, ◌++◌, ◌-◌, take}
use Rattle.std.specs.Prelude.{unwrap_or}
use Rattle.shadow_mbr.specs.Stored.{sectors_from, block_in, zeros}
use Rattle.shadow_mbr.proofs.kept.Kept.append_heads.Given as goal

abbrev pub invariant-loop-sector : goal.invariant-loop-sector
invariant-loop-sector l = record {
  finder : l.finder ≡ l.initial.finder;
  bytes : l.bytes.items ≡ l.fn.bytes.items ++ sectors_from (λ s. take 4 (unwrap_or (block_in l.self s) zeros)) l.first (l.sector - l.first);
}

use Rattle.std.proofs.Common.{◌≡◌, ℕ, ◌&&◌, nat_le, nat_lt, nat_eq, not}
use Rattle.std.specs.Prelude.{is_some}
use Rattle.std.specs.List.{list_any}
use Rattle.shadow_mbr.specs.Stored.{block_in}
use Rattle.shadow_mbr.proofs.kept.Kept.list_missing.Given as goal

abbrev pub invariant-loop-sector : goal.invariant-loop-sector
invariant-loop-sector l = record {
  finder : l.finder ≡ l.initial.finder;
  lists : (s : ℕ) → list_any (nat_eq s) l.missing.items ≡ (nat_le l.first s && nat_lt s l.sector && not (is_some (block_in l.self s)));
}

use Rattle.std.proofs.Common.{◌≡◌, ◌+◌, ◌^◌, ◌<◌, drop, length}
use Rattle.tcg_tokens.specs.Length.{capped_length}
use Rattle.tcg_tokens.specs.Tree.{trees}
use Rattle.tcg_tokens.specs.Spelling.{spellings_of}
use Rattle.tcg_tokens.proofs.length.+len.Given as goal

abbrev pub invariant-list_len-loop-item : goal.invariant-list_len-loop-item
invariant-list_len-loop-item l = record {
  small : l.len < 2 ^ 64;
  sum : capped_length (l.len + length (spellings_of (trees (drop l.item-index l.items.items)))) ≡ capped_length (2 + length (spellings_of (trees l.items.items)));
}

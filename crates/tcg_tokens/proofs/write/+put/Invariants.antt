use Rattle.std.proofs.Common.{◌≡◌, ◌+◌, ◌≤◌, ◌++◌, ◌∷◌, [], drop, length, true, vec_len}
use Rattle.std.specs.Vec.{vec_capacity}
use Rattle.tcg_tokens.specs.Tree.{trees}
use Rattle.tcg_tokens.specs.Spelling.{spellings_of}
use Rattle.tcg_tokens.specs.Writable.{have_short_atoms}
use Rattle.tcg_tokens.proofs.write.+put.Given as goal

abbrev pub invariant-put_list-loop-item : goal.invariant-put_list-loop-item
invariant-put_list-loop-item l = record {
  short : have_short_atoms (trees (drop l.item-index l.items.items)) ≡ true;
  items : l.out.items ++ spellings_of (trees (drop l.item-index l.items.items)) ≡ (l.fn.out.items ++ 0xf0 ∷ []) ++ spellings_of (trees l.items.items);
  len : vec_len l.out + length (spellings_of (trees (drop l.item-index l.items.items))) ≡ (vec_len l.fn.out + 1) + length (spellings_of (trees l.items.items));
  kept : vec_capacity l.fn.out ≤ vec_capacity l.out;
}

use Rattle.std.proofs.Common.{◌≡◌, ◌++◌, Bool, true, false, List, ℕ, string_bytes, drop, codes}
use Rattle.std.specs.List.{flat_map}
use Rattle.tcg_tokens.specs.Text.{with_blanks}
use Rattle.tcg_tokens.specs.Tree.{trees}
use Rattle.tcg_calls.specs.NamedText.{texts_at}
use Rattle.tcg_calls.proofs.named_tokens.text.+show.Given as goal

-- the texts that are left, a blank before each later one
abbrev rest_of : (is_first : Bool) → List (List ℕ) → List ℕ
rest_of true texts = with_blanks texts
rest_of false texts = flat_map (λ text. codes " " ++ text) texts

abbrev pub invariant-show_list-loop-item : goal.invariant-show_list-loop-item
invariant-show_list-loop-item l = string_bytes l.text ++ rest_of l.is_first (texts_at l.place (trees (drop l.item-index l.items.items))) ≡ (string_bytes l.fn.text ++ codes "[") ++ with_blanks (texts_at l.place (trees l.items.items))

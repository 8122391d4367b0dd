use Rattle.std.proofs.Common.{◌≡◌, ◌++◌, ◌∙◌, refl}
use Rattle.tcg_tokens.specs.Message.{message}
use Rattle.tcg_tokens.specs.Spelling.{item_spelling_of}
use Rattle.tcg_tokens.proofs.Items.{all_again}
use Rattle.tcg_tokens.proofs.Shortest.{all_least}
use Rattle.tcg_tokens.proofs.Writings.{spelled_with_fill}
use Rattle.tcg_tokens.proofs.write.write_item.Goals as goal

pub returns-clause-read_again : goal.returns-clause-read_again
returns-clause-read_again c = λ fill is_fill.
    let m = message c.args.item.now in
    let written : c.put_item.new.out.items ≡ item_spelling_of m = c.put_item.ensures.items ∙ rw c.in_ok-out.ensures.items refl in
    rw written (all_again (item_spelling_of m ++ fill) m (spelled_with_fill m fill c.put_item.ensures.shaped c.requires is_fill))

pub returns-clause-shortest : goal.returns-clause-shortest
returns-clause-shortest c = λ text ok spells.
    let m = message c.args.item.now in
    let written : c.put_item.new.out.items ≡ item_spelling_of m = c.put_item.ensures.items ∙ rw c.in_ok-out.ensures.items refl in
    rw written (all_least text m ok spells)

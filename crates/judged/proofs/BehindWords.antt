-- What stands behind one word more.
use Rattle.std.proofs.Common.{◌≡◌, ℕ, zero, suc, ◌+◌, List, refl, sym, ap, ◌∙◌, arith}
use Rattle.script_lines.specs.Words.{after_word, after_words}

behind : (k : ℕ) (text : List ℕ) → after_words (suc k) text ≡ after_word (after_words k text)
behind zero text = refl
behind (suc k) text = behind k (after_word text)

pub one_more : (k next : ℕ) (rest text : List ℕ) → rest ≡ after_words k text → next ≡ k + 1 → after_word rest ≡ after_words next text
one_more k next rest text is is_next =
    let suc_is : suc k ≡ next = omega (arith, is_next) in
    ap after_word is ∙ sym (behind k text) ∙ ap (λ n. after_words n text) suc_is

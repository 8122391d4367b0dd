-- A name in front of a space is the first word of a text.
use Rattle.std.proofs.Common.{◌≡◌, ℕ, suc, ◌<◌, Bool, true, false, List, [], ◌∷◌, length, take, drop, get_or, if◌then◌else◌, refl, sym, ap, ◌∙◌, arith}
use Rattle.script_lines.specs.Words.{is_space, skip_blanks, word_length, first_word, after_word}

no_space : (b : Bool) (m n : ℕ) → (if b then 0 else suc m) ≡ suc n → (b ≡ false) × (m ≡ n)
no_space true m n e = absurd (omega arith)
no_space false m n e = (refl, omega arith)

same_head : (a b : ℕ) (xs ys : List ℕ) → a ∷ xs ≡ b ∷ ys → (a ≡ b) × (xs ≡ ys)
same_head a b xs ys e = (cc, cc)

front_length : (name text : List ℕ) → word_length name ≡ length name → take (length name) text ≡ name → length name < length text → get_or text (length name) 0 ≡ 32 → word_length text ≡ length name
front_length name [] whole is long space = absurd (omega arith)
front_length [] (t ∷ ts) whole is long space = rw space refl
front_length (b ∷ bs) (t ∷ ts) whole is long space =
    let plain = no_space (is_space b) (word_length bs) (length bs) whole in
    let parts = same_head t b (take (length bs) ts) bs is in
    rw (parts.0, plain.0) (ap suc (front_length bs ts plain.1 parts.1 (omega arith) space))

no_blanks : (name text : List ℕ) → 0 < length name → word_length name ≡ length name → take (length name) text ≡ name → skip_blanks text ≡ text
no_blanks name [] some whole is = refl
no_blanks [] (t ∷ ts) some whole is = absurd (omega arith)
no_blanks (b ∷ bs) (t ∷ ts) some whole is =
    let plain = no_space (is_space b) (word_length bs) (length bs) whole in
    let parts = same_head t b (take (length bs) ts) bs is in
    rw (parts.0, plain.0) refl

pub front_word : (name text : List ℕ) → 0 < length name → word_length name ≡ length name → take (length name) text ≡ name → length name < length text → get_or text (length name) 0 ≡ 32
    → (first_word text ≡ name) × (drop (length name) text ≡ after_word text)
front_word name text some whole is long space =
    let bare : skip_blanks text ≡ text = no_blanks name text some whole is in
    let len : word_length text ≡ length name = front_length name text whole is long space in
    (ap (λ s. take (word_length s) s) bare ∙ ap (λ n. take n text) len ∙ is, sym (ap (λ s. drop (word_length s) s) bare ∙ ap (λ n. drop n text) len))

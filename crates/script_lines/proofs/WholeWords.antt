-- A text of hex digits alone is a word.
use Rattle.std.proofs.Common.{◌≡◌, ℕ, suc, ◌==◌, true, false, List, [], ◌∷◌, length, take, drop, refl, sym, ap, ◌∙◌, arith, Some, Result, Ok, Err}
use Rattle.std.specs.List.{list_all}
use Rattle.std.proofs.lemmas.Bool.{and_parts}
use Rattle.std.proofs.lemmas.Bool.Decides.{nat_tests}
use Rattle.std.proofs.lemmas.List.{take_all}
use Rattle.std.proofs.lemmas.List.Sums.{list_all-from_AllPass}
use Rattle.hex.specs.Hex.{decode_of, is_hex_digit}
use Rattle.hex.specs.declared.error.FromHexError.{FromHexError}
use Rattle.hex.proofs.HexLemmas.{decode_of-ok}
use Rattle.script_lines.specs.Words.{is_space, skip_blanks, word_length, first_word, after_word}
use Rattle.script_lines.specs.Hexes.{at_most, bytes_up_to}
use Rattle.script_lines.specs.Fields.{most_of, hex_in}
use Rattle.script_lines.specs.declared.field.Field.{Field}

not_blank : (c : ℕ) → is_hex_digit c ≡ true → is_space c ≡ false
not_blank c digit = grind (arith, nat_tests, digit)

whole_length : (text : List ℕ) → list_all is_hex_digit text ≡ true → word_length text ≡ length text
whole_length [] all = refl
whole_length (c ∷ cs) all =
    let parts = and_parts (is_hex_digit c) (list_all is_hex_digit cs) all in
    let here = not_blank c parts.0 in
    let later = whole_length cs parts.1 in
    rw here (ap suc later)

-- what was decoded was digits alone
digits_of : (most : ℕ) (text bytes : List ℕ) (r : Result (List ℕ) FromHexError) → decode_of text ≡ r → at_most most r ≡ Some bytes → list_all is_hex_digit text ≡ true
digits_of most text bytes (Ok found) is some = list_all-from_AllPass is_hex_digit text (decode_of-ok text found is).1
digits_of most text bytes (Err e) is some = cc some

length_of : (most : ℕ) (text bytes : List ℕ) → bytes_up_to most text ≡ Some bytes → word_length text ≡ length text
length_of most text bytes some = whole_length text (digits_of most text bytes (decode_of text) refl some)

whole : (most : ℕ) (rest text bytes : List ℕ) → text ≡ skip_blanks rest → bytes_up_to most text ≡ Some bytes → first_word rest ≡ text
whole most rest text bytes is some =
    ap (λ s. take (word_length s) s) (sym is) ∙ ap (λ n. take n text) (length_of most text bytes some) ∙ take_all (length text) text (omega arith)

pub none_behind : (most : ℕ) (rest text bytes : List ℕ) → text ≡ skip_blanks rest → bytes_up_to most text ≡ Some bytes → [] ≡ after_word rest
none_behind most rest text bytes is some =
    sym (ap (λ s. drop (word_length s) s) (sym is) ∙ ap (λ n. drop n text) (length_of most text bytes some) ∙ drop_all text) where
      drop_all : (l : List ℕ) → drop (length l) l ≡ []
      drop_all [] = refl
      drop_all (x ∷ xs) = drop_all xs

pub says : (field : Field) (rest text bytes : List ℕ) → text ≡ skip_blanks rest → (length text == 0) ≡ false → bytes_up_to (most_of field) text ≡ Some bytes
    → Ok bytes ≡ hex_in field (first_word rest)
says field rest text bytes is there some =
    let word = whole (most_of field) rest text bytes is some in
    rw (word, there, some) refl

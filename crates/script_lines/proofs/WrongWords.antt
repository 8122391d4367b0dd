-- A word that is there, and is no number.
use Rattle.std.proofs.Common.{◌≡◌, ℕ, ◌==◌, false, List, [], ◌∷◌, length, refl, sym, ap, ◌∙◌, arith, None, Err, inl, inr}
use Rattle.std.specs.Prelude.{option_map}
use Rattle.std.proofs.lemmas.Bool.{cases_Bool}
use Rattle.std.proofs.lemmas.Bool.Decides.{nat_tests}
use Rattle.script_lines.specs.Words.{is_space, skip_blanks, word_length, before_blank, first_word}
use Rattle.script_lines.specs.Numbers.{number_up_to}
use Rattle.script_lines.specs.Fields.{most_of, number_of_field}
use Rattle.script_lines.specs.declared.field.Field.{Field}
use Rattle.script_lines.specs.declared.fault.LineFault.TheVariants.{Wrong}
use Rattle.script_lines.proofs.Numerals.{of_length, unmapped}

-- What is left behind blanks begins with a word.
is_there : (rest : List ℕ) → (length (skip_blanks rest) == 0) ≡ false → (length (first_word rest) == 0) ≡ false
is_there [] some = cc some
is_there (b ∷ bs) some =
    elim (cases_Bool (is_space b)) [
      | inl blank ↦
          let later : skip_blanks (b ∷ bs) ≡ skip_blanks bs = rw blank refl in
          ap (λ l. length (before_blank l) == 0) later ∙ is_there bs (ap (λ l. length l == 0) (sym later) ∙ some)
      | inr other ↦ rw (other, other) (grind (arith, nat_tests))
    ]

pub is_wrong : (field : Field) (rest text : List ℕ) → text ≡ skip_blanks rest → (length text == 0) ≡ false
    → option_map (of_length (word_length text)) (number_up_to (most_of field) (before_blank text)) ≡ None
    → Err (Wrong field) ≡ number_of_field field (first_word rest)
is_wrong field rest text is some none =
    let there = is_there rest (rw is at some) in
    let no_number : number_up_to (most_of field) (first_word rest) ≡ None =
    unmapped (word_length (skip_blanks rest)) (number_up_to (most_of field) (first_word rest)) (rw is at none) in
    rw (no_number, there) refl

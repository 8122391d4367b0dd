-- What the text before a blank reads as a number, byte by byte.
use Rattle.std.proofs.Common.{◌≡◌, ℕ, suc, ◌+◌, ◌*◌, ◌-◌, ◌^◌, ◌<◌, ◌≤◌, ◌==◌, ◌&&◌, Bool, true, false, not, nat_le, List, [], ◌∷◌, length, drop, take, refl, sym, ap, ◌∙◌, arith, Option, Some, None, unwrap_or, inl, inr, if◌then◌else◌}
use Rattle.std.specs.Prelude.{option_map}
use Rattle.std.specs.Char.{is_ascii_digit, digit_value}
use Rattle.std.specs.Str.{all_ascii_digits}
use Rattle.std.specs.Str.Parse.{digits_value, digits_value_after}
use Rattle.std.proofs.lemmas.Bool.{cases_Bool, and_parts}
use Rattle.std.proofs.lemmas.Bool.Decides.{nat_tests}
use Rattle.std.proofs.lemmas.List.{drop_more, take_all}
use Rattle.std.proofs.Math.ListN.{get_or}
use Rattle.script_lines.specs.Words.{is_space, word_length, before_blank}
use Rattle.script_lines.specs.Numbers.{number_up_to}

-- the number that so many bytes write, where they are digits
abbrev numbered : ℕ → ℕ → Bool → ℕ → Option (ℕ × ℕ)
numbered most len digits value = if (not (len == 0) && digits) && nat_le value most then Some (value, len) else None

-- what a text says behind so many digits that write a number
abbrev pub read_on : ℕ → ℕ → ℕ → List ℕ → Option (ℕ × ℕ)
read_on most end number text =
    numbered most (end + word_length text) (all_ascii_digits (before_blank text)) (digits_value_after 10 number (before_blank text))

-- A digit is no blank, and its value is what it says.
not_blank : (c : ℕ) → is_ascii_digit c ≡ true → is_space c ≡ false
not_blank c digit = grind (arith, nat_tests, digit)

value_of_digit : (c : ℕ) → is_ascii_digit c ≡ true → digit_value c ≡ c - 48
value_of_digit c digit = grind (arith, nat_tests, digit)

-- What stands before a blank grows by a byte that is none.
length_step : (c : ℕ) (cs : List ℕ) → is_space c ≡ false → word_length (c ∷ cs) ≡ suc (word_length cs)
length_step c cs other = rw other refl

front_step : (c : ℕ) (cs : List ℕ) → is_space c ≡ false → before_blank (c ∷ cs) ≡ c ∷ before_blank cs
front_step c cs other = rw other refl

same : (most : ℕ) {l m : ℕ} {d e : Bool} {v w : ℕ} → l ≡ m → d ≡ e → v ≡ w → numbered most l d v ≡ numbered most m e w
same most l d v = rw (l, d, v) refl

pub step : (most end number c : ℕ) (cs : List ℕ) → is_ascii_digit c ≡ true
    → read_on most end number (c ∷ cs) ≡ read_on most (end + 1) (number * 10 + (c - 48)) cs
step most end number c cs digit =
    let none = not_blank c digit in
    let longer = length_step c cs none in
    let more = front_step c cs none in
    same most (omega (arith, longer))
    (ap all_ascii_digits more ∙ ap (λ d. d && all_ascii_digits (before_blank cs)) digit)
    (ap (digits_value_after 10 number) more ∙ ap (λ v. digits_value_after 10 (number * 10 + v) (before_blank cs)) (value_of_digit c digit))

-- More digits write no smaller number.
grows : (number : ℕ) (digits : List ℕ) → number ≤ digits_value_after 10 number digits
grows number [] = omega arith
grows number (c ∷ cs) = let more = grows (number * 10 + digit_value c) cs in omega (arith, more)

none_over : (most len value : ℕ) (digits : Bool) → most < value → numbered most len digits value ≡ None
none_over most len value digits over = grind (arith, nat_tests, over)

-- the text before a blank is as long as it says
front_length : (text : List ℕ) → length (before_blank text) ≡ word_length text
front_length [] = refl
front_length (c ∷ cs) =
    elim (cases_Bool (is_space c)) [
      | inl blank ↦ rw blank refl
      | inr other ↦
          let rest = front_length cs in
          ap length (front_step c cs other) ∙ ap suc rest ∙ sym (length_step c cs other)
    ]

-- a number with its length
abbrev pub of_length : ℕ → ℕ → ℕ × ℕ
of_length len number = (number, len)

with_length : (b : Bool) (value len : ℕ) → option_map (of_length len) (if b then Some value else None) ≡ (if b then Some (of_length len value) else None)
with_length true value len = refl
with_length false value len = refl

-- What is read from the start on.
begins : (most : ℕ) (text : List ℕ) → read_on most 0 0 text ≡ option_map (of_length (word_length text)) (number_up_to most (before_blank text))
begins most text =
    let len = front_length text in
    let start : 0 + word_length text ≡ length (before_blank text) = omega (arith, len) in
    let tests : Bool = (not (length (before_blank text) == 0) && all_ascii_digits (before_blank text)) && nat_le (digits_value 10 (before_blank text)) most in
    same most start refl refl
    ∙ ap (λ l. if tests then Some (of_length l (digits_value 10 (before_blank text))) else None) len
    ∙ sym (with_length tests (digits_value 10 (before_blank text)) (word_length text))

-- A number that is too large for 64 bits is too large.
pub too_large : (most i number : ℕ) (text : List ℕ) → most < 2 ^ 64 → i < length text → is_ascii_digit (get_or text i 0) ≡ true
    → 2 ^ 64 ≤ number * 10 + (get_or text i 0 - 48)
    → read_on most i number (drop i text) ≡ read_on most 0 0 text
    → None ≡ option_map (of_length (word_length text)) (number_up_to most (before_blank text))
too_large most i number text fits within digit over read =
    let c : ℕ = get_or text i 0 in
    let cs : List ℕ = drop (i + 1) text in
    let more = grows (number * 10 + (c - 48)) (before_blank cs) in
    sym (none_over most (i + 1 + word_length cs) (digits_value_after 10 (number * 10 + (c - 48)) (before_blank cs)) (all_ascii_digits (before_blank cs)) (omega (arith, more, over, fits)))
    ∙ sym (step most i number c cs digit) ∙ ap (read_on most i number) (sym (drop_more text i 0 within)) ∙ read ∙ begins most text

pub not_added : (value : ℕ) (r : Option ℕ) → r ≡ (if nat_le value (2 ^ 64 - 1) then Some value else None) → r ≡ None → 2 ^ 64 ≤ value
not_added value r is none =
    elim (cases_Bool (nat_le value (2 ^ 64 - 1))) [
      | inl fits ↦ absurd (let some : (if nat_le value (2 ^ 64 - 1) then Some value else None) ≡ Some value = rw fits refl in cc)
      | inr over ↦ grind (arith, nat_tests, over)
    ]

pub unmapped : (len : ℕ) (o : Option ℕ) → option_map (of_length len) o ≡ None → o ≡ None
unmapped len None none = refl
unmapped len (Some n) none = cc none

mapped : (len : ℕ) (p : ℕ × ℕ) (o : Option ℕ) → option_map (of_length len) o ≡ Some p → p.1 ≡ len
mapped len p None some = cc some
mapped len p (Some n) some = sym (ap (λ (o : Option (ℕ × ℕ)). (unwrap_or o p).1) some)

-- Digits alone have no blank among them.
digits_only : (text : List ℕ) → all_ascii_digits text ≡ true → word_length text ≡ length text
digits_only [] all = refl
digits_only (c ∷ cs) all =
    let parts = and_parts (is_ascii_digit c) (all_ascii_digits cs) all in
    length_step c cs (not_blank c parts.0) ∙ ap suc (digits_only cs parts.1)

no_digits : (most : ℕ) (text : List ℕ) → all_ascii_digits text ≡ false → None ≡ number_up_to most text
no_digits most text other = grind (arith, nat_tests, other)

-- What is no number up to a blank is none.
pub none_in_front : (most : ℕ) (text : List ℕ) → option_map (of_length (word_length text)) (number_up_to most (before_blank text)) ≡ None → None ≡ number_up_to most text
none_in_front most text none =
    elim (cases_Bool (all_ascii_digits text)) [
      | inl all ↦
          let whole : before_blank text ≡ text = ap (λ n. take n text) (digits_only text all) ∙ take_all (length text) text (omega arith) in
          sym (unmapped (word_length text) (number_up_to most text) (rw whole at none))
      | inr other ↦ no_digits most text other
    ]

-- What stands behind a number makes it none.
pub ends_early : (most : ℕ) (text : List ℕ) (p : ℕ × ℕ) → option_map (of_length (word_length text)) (number_up_to most (before_blank text)) ≡ Some p
    → (p.1 ≡ length text → ⊥) → None ≡ number_up_to most text
ends_early most text p some other =
    elim (cases_Bool (all_ascii_digits text)) [
      | inl all ↦ absurd (other (mapped (word_length text) p (number_up_to most (before_blank text)) some ∙ digits_only text all))
      | inr not_all ↦ no_digits most text not_all
    ]

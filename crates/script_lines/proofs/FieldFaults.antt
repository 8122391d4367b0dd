-- What is wrong with the words of a text, read one by one, is what is wrong with the words that it spells.
use Rattle.std.proofs.Common.{◌≡◌, ℕ, ◌<◌, ◌==◌, ◌&&◌, nat_le, Bool, true, false, List, [], ◌∷◌, length, refl, ap, ◌∙◌, arith, Option, Some, None, Result, Ok, Err, sym, if◌then◌else◌}
use Rattle.std.specs.Prelude.{IsOk, is_some}
use Rattle.std.specs.Str.Parse.{digits_value}
use Rattle.std.proofs.lemmas.Bool.Decides.{nat_tests}
use Rattle.script_lines.specs.Words.{first_word, after_word}
use Rattle.script_lines.specs.Spellings.{IsMadeOfWords}
use Rattle.hex.specs.Hex.{decode_of, decode_sized}
use Rattle.hex.specs.declared.error.FromHexError.{FromHexError}
use Rattle.hex.proofs.HexLemmas.{decode_of-ok, decode_sized-ok, decode_sized-twice}
use Rattle.script_lines.specs.Numbers.{is_numeral}
use Rattle.script_lines.specs.Hexes.{bytes_up_to, is_hex_up_to}
use Rattle.script_lines.specs.Fields.{◌>>=◌, or_fault, most_of, number_of_field, is_flag_set, flag_in, byte_or_fault, byte_of_field, hex_in}
use Rattle.script_lines.specs.Faults.{takes, in_fields, none_left, fault_in}
use Rattle.script_lines.specs.declared.fault.LineFault.{LineFault}
use Rattle.script_lines.specs.declared.fault.LineFault.TheVariants.{Missing, Wrong, Extra}
use Rattle.script_lines.specs.declared.field.Field.{Field}
use Rattle.script_lines.proofs.SpellingLaws.{first_is, after_is, none_first}
use Rattle.script_lines.proofs.HexTexts.{is_value, is_none, is_decoded, passes, even_up_to}

-- the first of two faults
abbrev pub or_else : Option LineFault → Option LineFault → Option LineFault
or_else None later = later
or_else (Some fault) later = Some fault

-- what is wrong with a word, by whether it is there and whether its field takes it
abbrev pub tested : Field → Bool → Bool → Option LineFault
tested field empty taken = if empty then Some (Missing field) else if taken then None else Some (Wrong field)

abbrev pub word_fault : Field → List ℕ → Option LineFault
word_fault field word = tested field (length word == 0) (takes field word)

-- the words of a text one by one, and what is left behind them
abbrev pub in_text : List Field → (List ℕ → Option LineFault) → List ℕ → Option LineFault
in_text [] behind text = behind text
in_text (field ∷ others) behind text =
    or_else (word_fault field (first_word text)) (in_text others behind (after_word text))

there : (field : Field) (taken : Bool) (later : Option LineFault) → or_else (tested field false taken) later ≡ (if taken then later else Some (Wrong field))
there field true later = refl
there field false later = refl

is_there : (word : List ℕ) → 0 < length word → (length word == 0) ≡ false
is_there word some = grind (arith, nat_tests, some)

-- what two readings of what is left say alike
abbrev pub Agree : (List ℕ → Option LineFault) → (List (List ℕ) → Option LineFault) → Type 0
Agree in_rest in_words = (words : List (List ℕ)) (text : List ℕ) → IsMadeOfWords words text → in_rest text ≡ in_words words

pub text_is : (list : List Field) (in_rest : List ℕ → Option LineFault) (in_words : List (List ℕ) → Option LineFault) → Agree in_rest in_words
    → Agree (in_text list in_rest) (in_fields list in_words)
text_is [] in_rest in_words agree words text s = agree words text s
text_is (f ∷ fs) in_rest in_words agree [] text s =
    ap (λ w. or_else (word_fault f w) (in_text fs in_rest (after_word text))) (none_first text s)
text_is (f ∷ fs) in_rest in_words agree (w ∷ ws) text s =
    ap (λ x. or_else (word_fault f x) (in_text fs in_rest (after_word text))) (first_is text w s.0 s.1)
    ∙ ap (λ r. or_else (word_fault f w) (in_text fs in_rest r)) (after_is text w s.0 s.1)
    ∙ ap (λ e. or_else (tested f e (takes f w)) (in_text fs in_rest s.0)) (is_there w s.1.is_word.0)
    ∙ there f (takes f w) (in_text fs in_rest s.0)
    ∙ ap (λ later. if takes f w then later else Some (Wrong f)) (text_is fs in_rest in_words agree ws s.0 s.2)

-- a text without a word left
abbrev pub extra_if : Bool → Option LineFault
extra_if true = None
extra_if false = Some Extra

abbrev pub none_text : List ℕ → Option LineFault
none_text text = extra_if (length (first_word text) == 0)

pub none_is : Agree none_text none_left
none_is [] text s = ap (λ w. extra_if (length w == 0)) (none_first text s)
none_is (w ∷ ws) text s =
    ap (λ x. extra_if (length x == 0)) (first_is text w s.0 s.1) ∙ ap extra_if (is_there w s.1.is_word.0)

-- a step of reading, and the others
pub bound : {A B : Type 0} (r : Result A LineFault) (f : A → Result B LineFault) (q later : Option LineFault)
    → fault_in r ≡ q → ((x : A) → fault_in (f x) ≡ later) → fault_in (r >>= f) ≡ or_else q later
bound (Ok x) f q later is next = next x ∙ ap (λ o. or_else o later) is
bound (Err e) f q later is next = ap (λ o. or_else o later) is

pub bound_in : {A B C : Type 0} (r : Result A LineFault) (f : A → Result B LineFault) (g : B → Result C LineFault) (q later : Option LineFault)
    → fault_in r ≡ q → ((x : A) → fault_in (f x >>= g) ≡ later) → fault_in ((r >>= f) >>= g) ≡ or_else q later
bound_in (Ok x) f g q later is next = next x ∙ ap (λ o. or_else o later) is
bound_in (Err e) f g q later is next = ap (λ o. or_else o later) is

-- a word as a number
abbrev pub number_fault : Field → List ℕ → Option LineFault
number_fault field word =
    tested field (length word == 0) (is_numeral word && nat_le (digits_value 10 word) (most_of field))

number_by : (field : Field) (empty taken : Bool) (value : ℕ)
    → fault_in (if empty then Err (Missing field) else or_fault (Wrong field) (if taken then Some value else None)) ≡ tested field empty taken
number_by field true taken value = refl
number_by field false true value = refl
number_by field false false value = refl

pub number_is : (field : Field) (word : List ℕ) → fault_in (number_of_field field word) ≡ number_fault field word
number_is field word =
    number_by field (length word == 0) (is_numeral word && nat_le (digits_value 10 word) (most_of field)) (digits_value 10 word)

flag_by : (r : Result ℕ LineFault) → fault_in (is_flag_set r) ≡ fault_in r
flag_by (Ok number) = refl
flag_by (Err fault) = refl

pub flag_is : (field : Field) (word : List ℕ) → fault_in (flag_in field word) ≡ number_fault field word
flag_is field word = flag_by (number_of_field field word) ∙ number_is field word

-- a word as hex text
abbrev pub hex_fault : Field → ℕ → List ℕ → Option LineFault
hex_fault field most word = tested field (length word == 0) (is_hex_up_to most word)

hex_by : (field : Field) (empty taken : Bool) (o : Option (List ℕ)) → is_some o ≡ taken
    → fault_in (if empty then Err (Missing field) else or_fault (Wrong field) o) ≡ tested field empty taken
hex_by field true taken o h = refl
hex_by field false true (Some bytes) h = refl
hex_by field false true None h = cc h
hex_by field false false (Some bytes) h = cc h
hex_by field false false None h = refl

is_taken : (most : ℕ) (text : List ℕ) (b : Bool) → is_hex_up_to most text ≡ b → is_some (bytes_up_to most text) ≡ b
is_taken most text true h = ap is_some (sym (is_value most text h))
is_taken most text false h = ap is_some (sym (is_none most text h))

pub hex_is : (field : Field) (word : List ℕ) → fault_in (hex_in field word) ≡ hex_fault field (most_of field) word
hex_is field word =
    hex_by field (length word == 0) (is_hex_up_to (most_of field) word) (bytes_up_to (most_of field) word)
    (is_taken (most_of field) word (is_hex_up_to (most_of field) word) refl)

-- a word as one byte
abbrev was_read : Result (List ℕ) FromHexError → Bool
was_read (Ok bytes) = true
was_read (Err error) = false

no_read : {A : Type 0} → false ≡ true → A
no_read h = cc

a_read : {A : Type 0} → true ≡ false → A
a_read h = cc

byte_by : (field : Field) (empty taken : Bool) (r : Result (List ℕ) FromHexError) → (empty ≡ false → was_read r ≡ taken)
    → fault_in (if empty then Err (Missing field) else byte_or_fault field r) ≡ tested field empty taken
byte_by field true taken r h = refl
byte_by field false true (Ok bytes) h = refl
byte_by field false true (Err error) h = no_read (h refl)
byte_by field false false (Ok bytes) h = a_read (h refl)
byte_by field false false (Err error) h = refl

read_is : (r : Result (List ℕ) FromHexError) → IsOk r → was_read r ≡ true
read_is (Ok bytes) ok = refl
read_is (Err error) ok = cc ok

not_read : (word : List ℕ) (r : Result (List ℕ) FromHexError) → decode_sized word 1 ≡ r → is_hex_up_to 1 word ≡ false → was_read r ≡ false
not_read word (Err error) is other = refl
not_read word (Ok bytes) is other =
    let two = decode_sized-ok word 1 bytes is in
    let of : decode_of word ≡ Ok bytes = sym (decode_sized-twice word 1 two) ∙ is in
    let len = (decode_of-ok word bytes of).2 in
    absurd (let yes = passes 1 word bytes of (omega (arith, two, len)) in cc)

one_read : (word : List ℕ) (b : Bool) → is_hex_up_to 1 word ≡ b → (length word == 0) ≡ false → was_read (decode_sized word 1) ≡ b
one_read word true h some =
    let even = even_up_to 1 word h in
    let long : 0 < length word = grind (arith, nat_tests, some) in
    let same = decode_sized-twice word 1 (omega (arith, even.0, even.1, long)) in
    ap was_read same ∙ read_is (decode_of word) (is_decoded 1 word h)
one_read word false h some = not_read word (decode_sized word 1) refl h

pub byte_is : (field : Field) (word : List ℕ) → fault_in (byte_of_field field word) ≡ hex_fault field 1 word
byte_is field word =
    byte_by field (length word == 0) (is_hex_up_to 1 word) (decode_sized word 1) (one_read word (is_hex_up_to 1 word) refl)

-- a step that reads one word, and the others
pub with_number : {A : Type 0} (field : Field) (word : List ℕ) (f : ℕ → Result A LineFault) (later : Option LineFault)
    → ((x : ℕ) → fault_in (f x) ≡ later) → fault_in (number_of_field field word >>= f) ≡ or_else (number_fault field word) later
with_number field word f later next = bound (number_of_field field word) f (number_fault field word) later (number_is field word) next

pub with_number_in : {A B : Type 0} (field : Field) (word : List ℕ) (f : ℕ → Result A LineFault) (g : A → Result B LineFault) (later : Option LineFault)
    → ((x : ℕ) → fault_in (f x >>= g) ≡ later) → fault_in ((number_of_field field word >>= f) >>= g) ≡ or_else (number_fault field word) later
with_number_in field word f g later next =
    bound_in (number_of_field field word) f g (number_fault field word) later (number_is field word) next

pub with_flag_in : {A B : Type 0} (field : Field) (word : List ℕ) (f : Bool → Result A LineFault) (g : A → Result B LineFault) (later : Option LineFault)
    → ((x : Bool) → fault_in (f x >>= g) ≡ later) → fault_in ((flag_in field word >>= f) >>= g) ≡ or_else (number_fault field word) later
with_flag_in field word f g later next =
    bound_in (flag_in field word) f g (number_fault field word) later (flag_is field word) next

pub with_byte : {A : Type 0} (field : Field) (word : List ℕ) (f : ℕ → Result A LineFault) (later : Option LineFault)
    → ((x : ℕ) → fault_in (f x) ≡ later) → fault_in (byte_of_field field word >>= f) ≡ or_else (hex_fault field 1 word) later
with_byte field word f later next = bound (byte_of_field field word) f (hex_fault field 1 word) later (byte_is field word) next

pub with_hex : {A : Type 0} (field : Field) (word : List ℕ) (f : List ℕ → Result A LineFault) (later : Option LineFault)
    → ((x : List ℕ) → fault_in (f x) ≡ later) → fault_in (hex_in field word >>= f) ≡ or_else (hex_fault field (most_of field) word) later
with_hex field word f later next = bound (hex_in field word) f (hex_fault field (most_of field) word) later (hex_is field word) next

-- What hex text decodes to.
use Rattle.std.proofs.Common.{◌≡◌, ℕ, ◌*◌, ◌/◌, ◌%◌, ◌≤◌, ◌==◌, ◌&&◌, nat_le, true, false, List, [], ◌∷◌, length, slice_index, refl, sym, ap, ◌∙◌, arith, Some, None, Result, Ok, Err, inl, inr}
use Rattle.std.specs.Prelude.{IsOk, MatchResult}
use Rattle.std.specs.Result.{result_unwrap_or}
use Rattle.std.specs.List.{list_all}
use Rattle.std.proofs.lemmas.Bool.{and_parts, cases_Bool, eqb-true}
use Rattle.std.proofs.lemmas.Bool.Decides.{nat_tests}
use Rattle.std.proofs.lemmas.List.Sums.{AllPass-from_list_all, list_all-from_AllPass}
use Rattle.hex.specs.Hex.{decode_of, decode_sized, decode_pairs, is_hex_digit, pair_value}
use Rattle.hex.specs.declared.error.FromHexError.{FromHexError}
use Rattle.hex.proofs.HexLemmas.{decode_of-ok, decode_of-digits, decode_sized-twice}
use Rattle.script_lines.specs.Hexes.{at_most, bytes_up_to, is_hex_up_to}

-- the bytes of a text
abbrev pub value : List ℕ → List ℕ
value text = result_unwrap_or (decode_of text) []

-- the value of what is decoded
is_ok_value : (r : Result (List ℕ) FromHexError) → IsOk r → r ≡ Ok (result_unwrap_or r [])
is_ok_value (Ok bytes) ok = refl
is_ok_value (Err e) ok = cc ok

pub decodes_to_value : (text : List ℕ) → IsOk (decode_of text) → decode_of text ≡ Ok (value text)
decodes_to_value text ok = is_ok_value (decode_of text) ok

-- Two digits stand for each byte.
pub twice : (text : List ℕ) → IsOk (decode_of text) → length text ≡ 2 * length (value text)
twice text ok = (decode_of-ok text (value text) (decodes_to_value text ok)).2

pub value_length : (text : List ℕ) → IsOk (decode_of text) → length text / 2 ≡ length (value text)
value_length text ok = let len = twice text ok in omega (arith, len)

-- what the tests say
abbrev Tested : ℕ → List ℕ → Type 0
Tested most text = (length text % 2 ≡ 0) × (length text / 2 ≤ most) × (list_all is_hex_digit text ≡ true)

tested : (most : ℕ) (text : List ℕ) → is_hex_up_to most text ≡ true → Tested most text
tested most text is =
    let parts = and_parts (length text % 2 == 0) (nat_le (length text / 2) most && list_all is_hex_digit text) is in
    let later = and_parts (nat_le (length text / 2) most) (list_all is_hex_digit text) parts.1 in
    (eqb-true (length text % 2) 0 parts.0, grind (arith, nat_tests, later.0), later.1)

pub even_up_to : (most : ℕ) (text : List ℕ) → is_hex_up_to most text ≡ true → (length text % 2 ≡ 0) × (length text / 2 ≤ most)
even_up_to most text is = let all = tested most text is in (all.0, all.1)

-- A text that passes the tests is decoded,
pub is_decoded : (most : ℕ) (text : List ℕ) → is_hex_up_to most text ≡ true → IsOk (decode_of text)
is_decoded most text is =
    let all = tested most text is in
    let decoded = decode_of-digits text all.0 (AllPass-from_list_all is_hex_digit text all.2) in
    rw decoded.1 refl

-- within the bound,
pub within : (most : ℕ) (text : List ℕ) → is_hex_up_to most text ≡ true → length (value text) ≤ most
within most text is =
    let len = twice text (is_decoded most text is) in
    let room = (tested most text is).1 in
    omega (arith, len, room)

-- and its bytes are the value.
taken : (most : ℕ) (bytes : List ℕ) → length bytes ≤ most → Some bytes ≡ at_most most (Ok bytes)
taken most bytes le = grind (arith, nat_tests, le)

pub is_value : (most : ℕ) (text : List ℕ) → is_hex_up_to most text ≡ true → Some (value text) ≡ bytes_up_to most text
is_value most text is =
    taken most (value text) (within most text is) ∙ ap (at_most most) (sym (decodes_to_value text (is_decoded most text is)))

-- A text that fails one writes nothing.
pub passes : (most : ℕ) (text bytes : List ℕ) → decode_of text ≡ Ok bytes → length bytes ≤ most → is_hex_up_to most text ≡ true
passes most text bytes ok le =
    let parts = decode_of-ok text bytes ok in
    let len = parts.2 in
    let even = parts.0 in
    let digits = list_all-from_AllPass is_hex_digit text parts.1 in
    let room : length text / 2 ≤ most = omega (arith, len, le) in
    grind (arith, nat_tests, even, digits, room)

none_of : (most : ℕ) (text : List ℕ) (r : Result (List ℕ) FromHexError) → decode_of text ≡ r → is_hex_up_to most text ≡ false → None ≡ at_most most r
none_of most text (Err e) is other = refl
none_of most text (Ok bytes) is other =
    elim (cases_Bool (nat_le (length bytes) most)) [
      | inl fits ↦ absurd (let yes = passes most text bytes is (grind (arith, nat_tests, fits)) in cc)
      | inr over ↦ rw over refl
    ]

pub is_none : (most : ℕ) (text : List ℕ) → is_hex_up_to most text ≡ false → None ≡ bytes_up_to most text
is_none most text other = none_of most text (decode_of text) refl other

-- What is decoded into room for its bytes are these.
written_value : (d : Result (List ℕ) FromHexError) (r : Result Unit FromHexError) (out : List ℕ)
    → MatchResult d (λ bytes. (r ≡ Ok tt) × (out ≡ bytes)) (λ e. r ≡ Err e) → IsOk d → out ≡ result_unwrap_or d []
written_value (Ok bytes) r out h ok = h.1
written_value (Err e) r out h ok = cc ok

pub is_written : (text out : List ℕ) (n : ℕ) (r : Result Unit FromHexError)
    → MatchResult (decode_sized text n) (λ bytes. (r ≡ Ok tt) × (out ≡ bytes)) (λ e. r ≡ Err e)
    → IsOk (decode_of text) → n ≡ length (value text) → out ≡ value text
is_written text out n r h ok room =
    let len = twice text ok in
    let same = decode_sized-twice text n (omega (arith, len, room)) in
    written_value (decode_of text) r out (rw same at h) ok

-- Two digits write one byte.
pub two_digits : (text : List ℕ) (byte : ℕ) → length text ≡ 2 → pair_value (slice_index text 0) (slice_index text 1) 0 ≡ Ok byte → decode_sized text 1 ≡ Ok (byte ∷ [])
unfolding decode_pairs
two_digits [] byte two pair = absurd (omega (arith, two))
two_digits (high ∷ []) byte two pair = absurd (omega (arith, two))
two_digits (high ∷ low ∷ []) byte two pair = rw pair refl
two_digits (high ∷ low ∷ more ∷ rest) byte two pair = absurd (omega (arith, two))

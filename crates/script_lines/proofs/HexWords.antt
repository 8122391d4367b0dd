-- A word reads as bytes exactly where it is two hex digits for each.
use Rattle.std.proofs.Common.{◌≡◌, ℕ, ◌+◌, ◌*◌, ◌/◌, ◌%◌, ◌<◌, ◌≤◌, ◌==◌, Bool, true, false, nat_le, List, [], ◌∷◌, length, slice_index, refl, sym, ap, ◌∙◌, arith, Option, Some, None, Result, Ok, Err, if◌then◌else◌}
use Rattle.std.specs.Result.{result_unwrap_or}
use Rattle.std.proofs.lemmas.Bool.Decides.{nat_tests}
use Rattle.hex.specs.Hex.{decode_of, decode_pairs, decode_sized, pair_value, value_at, digit_or_error, hex_digit_value, ◌>>=◌}
use Rattle.hex.specs.declared.error.FromHexError.{FromHexError}
use Rattle.hex.proofs.HexLemmas.{decode_of-even, decode_of-ok, decode_sized-ok, decode_sized-twice}
use Rattle.hex.proofs.Pairs.{cons_byte, decode_pairs-ok_pair}
use Rattle.script_lines.specs.Hexes.{at_most}
use Rattle.script_lines.specs.Fields.{most_of, or_fault, byte_or_fault, byte_of_field, hex_in}
use Rattle.script_lines.specs.Says.{WritesByte, WritesBytes}
use Rattle.script_lines.specs.declared.fault.LineFault.TheVariants.{Missing, Wrong}
use Rattle.script_lines.specs.declared.field.Field.{Field}

bind_ok : {A B : Type 0} (r : Result A FromHexError) (f : A → Result B FromHexError) (y : B)
    → (r >>= f) ≡ Ok y → (x : A) × (r ≡ Ok x) × (f x ≡ Ok y)
bind_ok (Ok x) f y h = (x, refl, h)
bind_ok (Err e) f y h = cc h

digit_read : (c i : ℕ) (o : Option ℕ) (v : ℕ) → digit_or_error c i o ≡ Ok v → o ≡ Some v
digit_read c i (Some w) v h = ap Some (ap (λ (r : Result ℕ FromHexError). result_unwrap_or r 0) h)
digit_read c i None v h = cc h

digit_small : (c v : ℕ) → hex_digit_value c ≡ Some v → v < 16
digit_small c v h = grind arith

pairs_are : (i : ℕ) (word bytes : List ℕ) → decode_pairs i word ≡ Ok bytes → WritesBytes bytes word
unfolding decode_pairs
pairs_are i [] bytes h =
    let e : [] ≡ bytes = ap (λ (r : Result (List ℕ) FromHexError). result_unwrap_or r []) h in
    rw (← e) refl
pairs_are i (a ∷ []) bytes h = cc h
pairs_are i (a ∷ b ∷ rest) bytes h =
    let p0 = bind_ok (pair_value a b i) _ bytes h in
    let p1 = bind_ok (value_at a i) _ p0.0 p0.1 in
    let p2 = bind_ok (value_at b (i + 1)) _ p0.0 p1.2 in
    let p3 = bind_ok (decode_pairs (i + 2) rest) _ bytes p0.2 in
    let later = pairs_are (i + 2) rest p3.0 p3.1 in
    let e : p0.0 ∷ p3.0 ≡ bytes = ap (λ (r : Result (List ℕ) FromHexError). result_unwrap_or r []) p3.2 in
    let da = digit_read a i (hex_digit_value a) p1.0 p1.1 in
    let db = digit_read b (i + 1) (hex_digit_value b) p2.0 p2.1 in
    let sa = digit_small a p1.0 da in
    let sb = digit_small b p2.0 db in
    let byte : p1.0 * 16 + p2.0 ≡ p0.0 = ap (λ (r : Result ℕ FromHexError). result_unwrap_or r 0) p2.2 in
    let high : p1.0 ≡ p0.0 / 16 = omega arith in
    let low : p2.0 ≡ p0.0 % 16 = omega arith in
    let is : WritesByte p0.0 a b = record { high_is = da ∙ ap Some high; low_is = db ∙ ap Some low } in
    rw (← e) (a, b, rest, refl, is, later)

are_pairs : (i : ℕ) (bytes word : List ℕ) → WritesBytes bytes word → decode_pairs i word ≡ Ok bytes
unfolding decode_pairs
are_pairs i [] word w = rw w refl
are_pairs i (byte ∷ bytes) word w =
    let high : value_at w.0 i ≡ Ok (byte / 16) = ap (digit_or_error w.0 i) w.4.high_is in
    let low : value_at w.1 (i + 1) ≡ Ok (byte % 16) = ap (digit_or_error w.1 (i + 1)) w.4.low_is in
    let whole : byte / 16 * 16 + byte % 16 ≡ byte = omega arith in
    let pair : pair_value w.0 w.1 i ≡ Ok byte = rw (high, low, whole) refl in
    ap (decode_pairs i) w.3 ∙ decode_pairs-ok_pair i w.0 w.1 byte w.2 pair ∙ ap (cons_byte byte) (are_pairs (i + 2) bytes w.2 w.5)

twice : (bytes word : List ℕ) → WritesBytes bytes word → length word ≡ 2 * length bytes
twice [] word w = ap length w
twice (byte ∷ bytes) word w = let later = twice bytes w.2 w.5 in let e = ap length w.3 in omega (arith, later, e)

decoded : (bytes word : List ℕ) → WritesBytes bytes word → decode_of word ≡ Ok bytes
decoded bytes word w = let len = twice bytes word w in decode_of-even word (omega (arith, len)) ∙ are_pairs 0 bytes word w

is_decoded : (bytes word : List ℕ) → decode_of word ≡ Ok bytes → WritesBytes bytes word
is_decoded bytes word h =
    let even = (decode_of-ok word bytes h).0 in
    pairs_are 0 word bytes (sym (decode_of-even word even) ∙ h)

abbrev read_as : List ℕ → Result (List ℕ) FromHexError
read_as bytes = Ok bytes

-- what the tests of hex text say
tested : (field : Field) (empty : Bool) (most : ℕ) (r : Result (List ℕ) FromHexError) (bytes : List ℕ)
    → (if empty then Err (Missing field) else or_fault (Wrong field) (at_most most r)) ≡ Ok bytes
    → (empty ≡ false) × (r ≡ Ok bytes) × (length bytes ≤ most)
tested field true most r bytes h = cc h
tested field false most (Err e) bytes h = cc h
tested field false most (Ok found) bytes h = fits (nat_le (length found) most) refl h where
  fits : (b : Bool) → nat_le (length found) most ≡ b → or_fault (Wrong field) (if b then Some found else None) ≡ Ok bytes → (false ≡ false) × (read_as found ≡ read_as bytes) × (length bytes ≤ most)
  fits true is some =
      let same : found ≡ bytes = cc in
      let room : length found ≤ most = grind (arith, nat_tests, is) in
      (refl, ap read_as same, rw (← same) room)
  fits false is some = cc some

pub bytes_are : (field : Field) (word bytes : List ℕ) → hex_in field word ≡ Ok bytes
    → WritesBytes bytes word × (0 < length bytes) × (length bytes ≤ most_of field)
bytes_are field word bytes h =
    let t = tested field (length word == 0) (most_of field) (decode_of word) bytes h in
    let w = is_decoded bytes word t.1 in
    let len = twice bytes word w in
    let some : 0 < length word = grind (arith, nat_tests, t.0) in
    (w, omega (arith, len, some), t.2)

pub are_bytes : (field : Field) (word bytes : List ℕ) → WritesBytes bytes word × (0 < length bytes) × (length bytes ≤ most_of field)
    → hex_in field word ≡ Ok bytes
are_bytes field word bytes w =
    let len = twice bytes word w.0 in
    let long : 0 < length word = omega (arith, len, w.1) in
    let there : (length word == 0) ≡ false = grind (arith, nat_tests, long) in
    let is = decoded bytes word w.0 in
    let fits : nat_le (length bytes) (most_of field) ≡ true = grind (arith, nat_tests, w.2) in
    rw (there, is, fits) refl

-- one byte alone
one_tested : (field : Field) (empty : Bool) (r : Result (List ℕ) FromHexError) (byte : ℕ)
    → (if empty then Err (Missing field) else byte_or_fault field r) ≡ Ok byte
    → (bytes : List ℕ) × (r ≡ Ok bytes) × (slice_index bytes 0 ≡ byte)
one_tested field true r byte h = cc h
one_tested field false (Err e) byte h = cc h
one_tested field false (Ok found) byte h = (found, refl, cc)

one_alone : (bytes : List ℕ) (byte : ℕ) → length bytes ≡ 1 → slice_index bytes 0 ≡ byte → bytes ≡ byte ∷ []
one_alone [] byte len is = absurd (omega arith)
one_alone (b ∷ []) byte len is = ap (λ x. x ∷ []) is
one_alone (b ∷ c ∷ cs) byte len is = absurd (omega arith)

pub byte_is : (field : Field) (word : List ℕ) (byte : ℕ) → byte_of_field field word ≡ Ok byte → WritesBytes (byte ∷ []) word
byte_is field word byte h =
    let t = one_tested field (length word == 0) (decode_sized word 1) byte h in
    let len = decode_sized-ok word 1 t.0 t.1 in
    let of : decode_of word ≡ Ok t.0 = sym (decode_sized-twice word 1 len) ∙ t.1 in
    let more = (decode_of-ok word t.0 of).2 in
    let alone = one_alone t.0 byte (omega (arith, len, more)) t.2 in
    is_decoded (byte ∷ []) word (of ∙ ap Ok alone)

pub is_byte : (field : Field) (word : List ℕ) (byte : ℕ) → WritesBytes (byte ∷ []) word → byte_of_field field word ≡ Ok byte
is_byte field word byte w =
    let len = twice (byte ∷ []) word w in
    let there : (length word == 0) ≡ false = grind (arith, nat_tests, len) in
    let is : decode_sized word 1 ≡ Ok (byte ∷ []) = decode_sized-twice word 1 len ∙ decoded (byte ∷ []) word w in
    rw (there, is) refl

-- A word reads as a number exactly where it is the number as it is printed, behind zeros.
use Rattle.std.proofs.Common.{◌≡◌, ℕ, zero, suc, ◌<◌, ◌≤◌, ◌^◌, ◌==◌, ◌&&◌, Bool, true, false, not, nat_le, List, [], ◌∷◌, ◌++◌, length, replicate, refl, sym, ap, ◌∙◌, arith, Some, None, Ok, Err, inl, inr, if◌then◌else◌}
use Rattle.std.specs.Fmt.{decimal}
use Rattle.std.specs.Char.{is_ascii_digit}
use Rattle.std.specs.Str.{all_ascii_digits}
use Rattle.std.specs.Str.Parse.{digits_value}
use Rattle.std.proofs.lemmas.Bool.{and_parts, cases_eq}
use Rattle.std.proofs.lemmas.Bool.Decides.{nat_tests}
use Rattle.std.proofs.lemmas.Fmt.{digits_decimal, digits_value-decimal, decimal_nonempty, decimal-digits_value}
use Rattle.std.proofs.lemmas.Str.Parse.{IsNumeralModel, numerals_by_value, tells_all_ascii_digits}
use Rattle.script_lines.specs.Numbers.{is_numeral}
use Rattle.script_lines.specs.Fields.{most_of, or_fault, number_of_field}
use Rattle.script_lines.specs.Says.{WritesNumber}
use Rattle.script_lines.specs.declared.fault.LineFault.TheVariants.{Missing, Wrong}
use Rattle.script_lines.specs.declared.field.Field.{Field}
use Rattle.script_lines.specs.declared.field.Field.TheVariants as fields

abbrev AreDigits : List ℕ → Type 0
AreDigits word = all_ascii_digits word ≡ true

own : IsNumeralModel AreDigits (digits_value 10)
own = numerals_by_value AreDigits tells_all_ascii_digits

-- Each field holds less than 64 bits can.
most_small : (field : Field) → most_of field < 2 ^ 64
most_small fields.Range = omega arith
most_small fields.Start = omega arith
most_small fields.Length = omega arith
most_small fields.ReadLockEnabled = omega arith
most_small fields.WriteLockEnabled = omega arith
most_small fields.ReadLocked = omega arith
most_small fields.WriteLocked = omega arith
most_small fields.Client = omega arith
most_small fields.Tag = omega arith
most_small fields.Address = omega arith
most_small fields.Count = omega arith
most_small fields.Byte = omega arith
most_small fields.DmaAddress = omega arith
most_small fields.DmaCount = omega arith
most_small fields.DmaByte = omega arith
most_small fields.ComId = omega arith
most_small fields.TperSession = omega arith
most_small fields.HostSession = omega arith
most_small fields.Tokens = omega arith
most_small fields.ComPacket = omega arith
most_small fields.Blocks = omega arith
most_small fields.Protocol = omega arith
most_small fields.SpSpecific = omega arith
most_small fields.SecurityBlocks = omega arith
most_small fields.SecurityBytes = omega arith
most_small fields.ResetKind = omega arith
most_small fields.Slot = omega arith
most_small fields.PutAddress = omega arith
most_small fields.PutCount = omega arith
most_small fields.PutByte = omega arith
most_small fields.PutComId = omega arith
most_small fields.PutTperSession = omega arith
most_small fields.PutHostSession = omega arith
most_small fields.PutTokens = omega arith
most_small fields.PutComPacket = omega arith
most_small fields.PutBlocks = omega arith
most_small fields.PutProtocol = omega arith
most_small fields.PutSpSpecific = omega arith
most_small fields.PutSecurityBlocks = omega arith
most_small fields.PutSecurityBytes = omega arith

-- Digits are their number as it is printed, behind the zeros in front.
behind : (c : ℕ) (cs : List ℕ) → c ≡ 48 → WritesNumber (digits_value 10 cs) cs → WritesNumber (digits_value 10 (c ∷ cs)) (c ∷ cs)
behind c cs is w =
    let same : digits_value 10 (c ∷ cs) ≡ digits_value 10 cs = ap (λ n. digits_value 10 (n ∷ cs)) is in
    (suc w.0, ap (λ n. n ∷ cs) is ∙ ap (λ l. 48 ∷ l) w.1 ∙ ap (λ n. replicate (suc w.0) 48 ++ decimal n) (sym same))

grows : (c : ℕ) (cs : List ℕ) → c ≡ 48 → digits_value 10 (c ∷ cs) < 2 ^ 64 → digits_value 10 cs < 2 ^ 64
grows c cs is small =
    let same : digits_value 10 (c ∷ cs) ≡ digits_value 10 cs = ap (λ n. digits_value 10 (n ∷ cs)) is in
    omega (arith, same, small)

written : (word : List ℕ) → AreDigits word → 0 < length word → digits_value 10 word < 2 ^ 64 → WritesNumber (digits_value 10 word) word
written [] all some small = absurd (omega arith)
written (c ∷ []) all some small = (0, sym (decimal-digits_value own (c ∷ []) all (omega arith) (λ lead. refl) small))
written (c ∷ d ∷ cs) all some small =
    let later = written (d ∷ cs) (and_parts (is_ascii_digit c) (all_ascii_digits (d ∷ cs)) all).1 (omega arith) in
    elim (cases_eq c 48) [
      | inl is ↦ behind c (d ∷ cs) is (later (grows c (d ∷ cs) is small))
      | inr other ↦ (0, sym (decimal-digits_value own (c ∷ d ∷ cs) all (omega arith) (λ lead. absurd (other lead)) small))
    ]

-- And what is printed behind zeros is digits that read as the number.
reads_behind : (zeros number : ℕ) → number < 2 ^ 64
    → AreDigits (replicate zeros 48 ++ decimal number) × (0 < length (replicate zeros 48 ++ decimal number))
    × (digits_value 10 (replicate zeros 48 ++ decimal number) ≡ number)
reads_behind zero number small = (digits_decimal own number small, decimal_nonempty number small, digits_value-decimal own number small)
reads_behind (suc zeros) number small = let r = reads_behind zeros number small in (r.0, omega arith, r.2)

-- what the tests of a number say
tested : (field : Field) (empty numeral fits : Bool) (value number : ℕ)
    → (if empty then Err (Missing field) else or_fault (Wrong field) (if numeral && fits then Some value else None)) ≡ Ok number
    → (numeral ≡ true) × (fits ≡ true) × (value ≡ number)
tested field true numeral fits value number h = cc h
tested field false true true value number h = (refl, refl, cc)
tested field false true false value number h = cc h
tested field false false fits value number h = cc h

pub number_is : (field : Field) (word : List ℕ) (number : ℕ) → number_of_field field word ≡ Ok number
    → WritesNumber number word × (number ≤ most_of field)
number_is field word number h =
    let t = tested field (length word == 0) (is_numeral word) (nat_le (digits_value 10 word) (most_of field)) (digits_value 10 word) number h in
    let parts = and_parts (not (length word == 0)) (all_ascii_digits word) t.0 in
    let some : 0 < length word = grind (arith, nat_tests, parts.0) in
    let fits : digits_value 10 word ≤ most_of field = grind (arith, nat_tests, t.1) in
    let small = most_small field in
    rw (← t.2) (written word parts.1 some (omega arith), fits)

pub is_number : (field : Field) (word : List ℕ) (number : ℕ) → WritesNumber number word × (number ≤ most_of field)
    → number_of_field field word ≡ Ok number
is_number field word number h =
    let small = most_small field in
    let r = reads_behind h.0.0 number (omega (arith, h.1, small)) in
    ap (number_of_field field) h.0.1 ∙ passed (replicate h.0.0 48 ++ decimal number) r.0 r.1 r.2
  where
    passed : (text : List ℕ) → AreDigits text → 0 < length text → digits_value 10 text ≡ number → number_of_field field text ≡ Ok number
    passed text all some value =
        let there : (length text == 0) ≡ false = grind (arith, nat_tests, some) in
        let fits : nat_le number (most_of field) ≡ true = grind (arith, nat_tests, h.1) in
        rw (there, all, value, fits) refl

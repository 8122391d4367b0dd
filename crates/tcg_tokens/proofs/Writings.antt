-- What has a writing, what the test says, and that the writer's spelling is one.
use Rattle.std.proofs.Common.{◌≡◌, ℕ, zero, suc, ◌+◌, ◌*◌, ◌/◌, ◌%◌, ◌^◌, ◌<◌, ◌≤◌, Bool, true, false, ltb, eqb, List, [], ◌∷◌, ◌++◌, length, add-one, refl, sym, subst, ◌∙◌, append_assoc, arith, inl, inr, eqb-true}
use Rattle.std.proofs.lemmas.Bool.{ltb-true, lt-ltb, and_parts, and_from}
use Rattle.std.proofs.lemmas.List.{append-nil}
use Rattle.std.proofs.lemmas.Nat.{from_be_bytes-to_be_bytes_8}
use Rattle.std.specs.Int.{w64, to_be_bytes, from_be_bytes}
use Rattle.std.specs.List.{list_all}
use Rattle.std.specs.Prelude.{IsTrue, ◌↔◌}
use Rattle.tcg_tokens.specs.declared.limits.TheConstants.{NUMBER_BITS, LENGTH_BITS}
use Rattle.tcg_tokens.specs.declared.token.Mark.TheVariants.{StartList, EndList, StartName, EndName, Call, EndOfData, EndOfSession, StartTransaction, EndTransaction}
use Rattle.tcg_tokens.specs.Lexeme.{Lexeme, code_of, number_from}
use Rattle.tcg_tokens.specs.Lexeme as lexeme
use Rattle.tcg_tokens.specs.Tree.{Tree, Trees, number, bytes, list, named, empty, more}
use Rattle.tcg_tokens.specs.Message.{Message, call, reply, end_session, begin, end}
use Rattle.tcg_tokens.specs.Atoms.{bit_number}
use Rattle.tcg_tokens.specs.Grammar.{IsHeader, short, medium, long, IsTokenSpelling, tiny, number_atom, bytes_atom, mark_byte, IsToken, plain, filled, IsName, number_name, bytes_name, IsValue, a_number, some_bytes, a_list, a_name, AreValues, no_more, one_more, IsStatus, three_numbers, room_inside, IsItem, a_call, a_reply, an_end_session, a_begin, an_end, IsFill, nothing, Spells}
use Rattle.tcg_tokens.specs.Spelling.{header, significant, number_spelling, bytes_spelling, spelling_of, spellings_of, status_spelling, item_spelling_of}
use Rattle.tcg_tokens.specs.Writable.{fits_number, is_name, is_writable_value, are_writable_values, is_writable, IsShaped}
use Rattle.tcg_tokens.proofs.Tokens.{bool_cases}

pub named_within : (room less : ℕ) (n v : Tree) → room ≡ less + 1 → is_name n ≡ true → is_writable_value less v ≡ is_writable_value room (named n v)
named_within room less n v e h = rw (e, add-one, h) refl

-- ---- what has a writing passes the test

-- what an atom can hold
abbrev Holds : Lexeme → Type 0
Holds (lexeme.number n) = n < 2 ^ NUMBER_BITS
Holds (lexeme.bytes b) = length b < 2 ^ LENGTH_BITS
Holds (lexeme.mark m) = Unit {0}

header_holds : (is_bytes : Bool) (head : List ℕ) (n : ℕ) → IsHeader is_bytes head n → n < 2 ^ LENGTH_BITS
header_holds is_bytes head n (short kind len lt) = omega arith
header_holds is_bytes head n (medium kind high low lt lt_low) = omega arith
header_holds is_bytes head n (long kind high middle low lt_high lt_middle lt_low) = omega arith

spelling_holds : (text : List ℕ) (t : Lexeme) → IsTokenSpelling text t → Holds t
spelling_holds text t (tiny n lt) = omega arith
spelling_holds text t (number_atom head content h fits) = fits
spelling_holds text t (bytes_atom head content h) = header_holds true head (length content) h
spelling_holds text t (mark_byte m) = tt

token_holds : (text : List ℕ) (t : Lexeme) → IsToken text t → Holds t
token_holds text t (plain h) = spelling_holds _ _ h
token_holds text t (filled h) = token_holds _ _ h

number_passes : (room n : ℕ) → n < 2 ^ NUMBER_BITS → is_writable_value room (number n) ≡ true
number_passes zero n lt = lt-ltb _ _ lt
number_passes (suc room) n lt = lt-ltb _ _ lt

bytes_pass : (room : ℕ) (b : List ℕ) → length b < 2 ^ LENGTH_BITS → is_writable_value room (bytes b) ≡ true
bytes_pass zero b lt = lt-ltb _ _ lt
bytes_pass (suc room) b lt = lt-ltb _ _ lt

name_passes : (text : List ℕ) (n : Tree) → IsName text n → is_name n ≡ true
name_passes text n (number_name {n = k} h) = lt-ltb _ _ (token_holds text (lexeme.number k) h)
name_passes text n (bytes_name {b} h) = lt-ltb _ _ (token_holds text (lexeme.bytes b) h)

mutual
  value_passes : (room : ℕ) (text : List ℕ) (v : Tree) → IsValue room text v → is_writable_value room v ≡ true
  value_passes room text v (a_number {n} h) = number_passes room n (token_holds text (lexeme.number n) h)
  value_passes room text v (some_bytes {b} h) = bytes_pass room b (token_holds text (lexeme.bytes b) h)
  value_passes room text v (a_list {room = less} {start} {inner} {vs} h all) = values_pass less inner vs all
  value_passes room text v (a_name {room = less} {start} {name} {inner} {stop} {n} {v = w} h is_named is_value e) =
      and_from (is_name n) (is_writable_value less w) (name_passes name n is_named) (value_passes less inner w is_value)

  values_pass : (room : ℕ) (text : List ℕ) (vs : Trees) → AreValues room text vs → are_writable_values room vs ≡ true
  values_pass room text vs (no_more h) = refl
  values_pass room text vs (one_more {front} {back} {v} {vs = ws} h all) =
      and_from (is_writable_value room v) (are_writable_values room ws) (value_passes room front v h) (values_pass room back ws all)

status_passes : (text s : List ℕ) → IsStatus text s → list_all fits_number s ≡ true
status_passes text s (three_numbers {a} {b} {c} {x} {y} {z} start hx hy hz stop) =
    let fx : fits_number x ≡ true = lt-ltb _ _ (token_holds a (lexeme.number x) hx) in
    let fy : fits_number y ≡ true = lt-ltb _ _ (token_holds b (lexeme.number y) hy) in
    let fz : fits_number z ≡ true = lt-ltb _ _ (token_holds c (lexeme.number z) hz) in
    rw (fx, fy, fz) refl

pub item_passes : (text : List ℕ) (m : Message) → IsItem text m → is_writable m ≡ true
item_passes text m (a_call {args} {status} {s} {vs} first object is_o method is_m start all data_end is_status) =
    and_from (are_writable_values room_inside vs) (list_all fits_number s) (values_pass room_inside args vs all) (status_passes status s is_status)
item_passes text m (a_reply {results} {status} {s} {vs} start all data_end is_status) =
    and_from (are_writable_values room_inside vs) (list_all fits_number s) (values_pass room_inside results vs all) (status_passes status s is_status)
item_passes text m (an_end_session h) = refl
item_passes text m (a_begin {n} h k) = lt-ltb _ _ (token_holds _ (lexeme.number n) k)
item_passes text m (an_end {n} h k) = lt-ltb _ _ (token_holds _ (lexeme.number n) k)

-- ---- the writer's spelling is a writing

header_spelled : (is_bytes : Bool) (len : ℕ) → len < 2 ^ LENGTH_BITS → IsHeader is_bytes (header is_bytes len) len
header_spelled is_bytes len lt =
    elim (bool_cases (ltb len 16)) [
      | inl w ↦ rw w (short is_bytes len (ltb-true _ _ w))
      | inr w1 ↦
          elim (bool_cases (ltb len 2048)) [
            | inl w ↦
                let up : len < 2048 = ltb-true _ _ w in
                let is_len : 256 * (len / 256) + len % 256 ≡ len = omega arith in
                rw (w1, w) (subst (λ (n : ℕ). IsHeader is_bytes ((0xc0 + 16 * bit_number is_bytes + len / 256) ∷ len % 256 ∷ []) n) is_len (medium is_bytes (len / 256) (len % 256) (omega arith) (omega arith)))
            | inr w ↦
                let is_len : 256 * (256 * (len / 65536) + len / 256 % 256) + len % 256 ≡ len = omega arith in
                rw (w1, w) (subst (λ (n : ℕ). IsHeader is_bytes ((0xe0 + 2 * bit_number is_bytes) ∷ len / 65536 ∷ len / 256 % 256 ∷ len % 256 ∷ []) n) is_len (long is_bytes (len / 65536) (len / 256 % 256) (len % 256) (omega arith) (omega arith) (omega arith)))
          ]
    ]

number_significant : (bs : List ℕ) → number_from 0 (significant bs) ≡ number_from 0 bs
number_significant [] = refl
number_significant (b ∷ bs) =
    elim (bool_cases (eqb b 0)) [
      | inl w ↦
          let zero_byte : b ≡ 0 = eqb-true _ _ w in
          rw w (number_significant bs ∙ rw zero_byte refl)
      | inr w ↦ rw w refl
    ]

pub length_significant : (bs : List ℕ) → length (significant bs) ≤ length bs
length_significant [] = omega arith
length_significant (b ∷ bs) =
    elim (bool_cases (eqb b 0)) [
      | inl w ↦ rw w (omega (arith, length_significant bs))
      | inr w ↦ rw w (omega arith)
    ]

number_of_eight : (a b c d e f g h : ℕ) → number_from 0 (a ∷ b ∷ c ∷ d ∷ e ∷ f ∷ g ∷ h ∷ []) ≡ from_be_bytes w64 (a ∷ b ∷ c ∷ d ∷ e ∷ f ∷ g ∷ h ∷ [])
number_of_eight a b c d e f g h = omega arith

pub number_of_bytes : (n : ℕ) → n < 2 ^ NUMBER_BITS → number_from 0 (to_be_bytes w64 n) ≡ n
number_of_bytes n lt = number_of_eight _ _ _ _ _ _ _ _ ∙ from_be_bytes-to_be_bytes_8 n lt

number_back : (n : ℕ) → n < 2 ^ NUMBER_BITS → number_from 0 (significant (to_be_bytes w64 n)) ≡ n
number_back n lt = number_significant (to_be_bytes w64 n) ∙ number_of_bytes n lt

number_spelled : (n : ℕ) → n < 2 ^ NUMBER_BITS → IsTokenSpelling (number_spelling n) (lexeme.number n)
unfolding number_spelling
number_spelled n lt =
    elim (bool_cases (ltb n 64)) [
      | inl w ↦ rw w (tiny n (ltb-true _ _ w))
      | inr w ↦
          let content : List ℕ = significant (to_be_bytes w64 n) in
          let back : number_from 0 content ≡ n = number_back n lt in
          let fits : number_from 0 content < 2 ^ NUMBER_BITS = omega arith in
          let head : IsHeader false (header false (length content)) (length content) = header_spelled false (length content) (omega (arith, length_significant (to_be_bytes w64 n))) in
          rw w (subst (λ (k : ℕ). IsTokenSpelling (header false (length content) ++ content) (lexeme.number k)) back (number_atom (header false (length content)) content head fits))
    ]

bytes_spelled : (b : List ℕ) → length b < 2 ^ LENGTH_BITS → IsTokenSpelling (bytes_spelling b) (lexeme.bytes b)
unfolding bytes_spelling
bytes_spelled b lt = bytes_atom (header true (length b)) b (header_spelled true (length b) lt)

name_spelled : (n : Tree) → is_name n ≡ true → IsName (spelling_of n) n
name_spelled (number n) h = number_name (plain (number_spelled n (ltb-true _ _ h)))
name_spelled (bytes b) h = bytes_name (plain (bytes_spelled b (ltb-true _ _ h)))
name_spelled (list vs) h = absurd cc
name_spelled (named n v) h = absurd cc

mutual
  value_spelled : (room : ℕ) (v : Tree) → is_writable_value room v ≡ true → IsValue room (spelling_of v) v
  value_spelled zero (number n) h = a_number (plain (number_spelled n (ltb-true _ _ h)))
  value_spelled (suc room) (number n) h = a_number (plain (number_spelled n (ltb-true _ _ h)))
  value_spelled zero (bytes b) h = some_bytes (plain (bytes_spelled b (ltb-true _ _ h)))
  value_spelled (suc room) (bytes b) h = some_bytes (plain (bytes_spelled b (ltb-true _ _ h)))
  value_spelled zero (list vs) h = absurd cc
  value_spelled (suc room) (list vs) h = a_list (plain (mark_byte StartList)) (values_spelled room vs h)
  value_spelled zero (named n v) h = absurd cc
  value_spelled (suc room) (named n v) h =
      let p = and_parts (is_name n) (is_writable_value room v) h in
      a_name (plain (mark_byte StartName)) (name_spelled n p.0) (value_spelled room v p.1) (plain (mark_byte EndName))

  values_spelled : (room : ℕ) (vs : Trees) → are_writable_values room vs ≡ true → AreValues room (spellings_of vs ++ code_of EndList ∷ []) vs
  values_spelled room empty h = no_more (plain (mark_byte EndList))
  values_spelled room (more v vs) h =
      let p = and_parts (is_writable_value room v) (are_writable_values room vs) h in
      rw append_assoc (one_more (value_spelled room v p.0) (values_spelled room vs p.1))

status_parts : (a b c stop : List ℕ) → (a ++ (b ++ (c ++ []))) ++ stop ≡ a ++ (b ++ (c ++ stop))
status_parts a b c stop = simp (append_assoc, append-nil)

status_spelled : (s : List ℕ) → length s ≡ 3 → list_all fits_number s ≡ true → IsStatus (status_spelling s) s
status_spelled (x ∷ y ∷ z ∷ []) is_three h =
    let p = and_parts (fits_number x) (list_all fits_number (y ∷ z ∷ [])) h in
    let q = and_parts (fits_number y) (list_all fits_number (z ∷ [])) p.1 in
    let r = and_parts (fits_number z) true q.1 in
    let parts : (number_spelling x ++ (number_spelling y ++ (number_spelling z ++ []))) ++ code_of EndList ∷ [] ≡ number_spelling x ++ (number_spelling y ++ (number_spelling z ++ code_of EndList ∷ [])) = status_parts (number_spelling x) (number_spelling y) (number_spelling z) (code_of EndList ∷ []) in
    subst (λ (text : List ℕ). IsStatus (code_of StartList ∷ text) (x ∷ y ∷ z ∷ [])) (sym parts)
    (three_numbers (plain (mark_byte StartList)) (plain (number_spelled x (ltb-true _ _ p.0))) (plain (number_spelled y (ltb-true _ _ q.0))) (plain (number_spelled z (ltb-true _ _ r.0))) (plain (mark_byte EndList)))
status_spelled [] is_three h = absurd (omega arith)
status_spelled (x ∷ []) is_three h = absurd (omega arith)
status_spelled (x ∷ y ∷ []) is_three h = absurd (omega arith)
status_spelled (x ∷ y ∷ z ∷ w ∷ s) is_three h = absurd (omega arith)

pub item_spelled : (m : Message) → IsShaped m → is_writable m ≡ true → IsItem (item_spelling_of m) m
item_spelled (call object method args status) shaped h =
    let p = and_parts (are_writable_values room_inside args) (list_all fits_number status) h in
    let small_object : length object < 2 ^ LENGTH_BITS = omega (arith, shaped.0) in
    let small_method : length method < 2 ^ LENGTH_BITS = omega (arith, shaped.1) in
    a_call (plain (mark_byte Call)) (plain (bytes_spelled object small_object)) shaped.0 (plain (bytes_spelled method small_method)) shaped.1
    (plain (mark_byte StartList)) (values_spelled room_inside args p.0) (plain (mark_byte EndOfData)) (status_spelled status shaped.2 p.1)
item_spelled (reply results status) shaped h =
    let p = and_parts (are_writable_values room_inside results) (list_all fits_number status) h in
    a_reply (plain (mark_byte StartList)) (values_spelled room_inside results p.0) (plain (mark_byte EndOfData)) (status_spelled status shaped p.1)
item_spelled end_session shaped h = an_end_session (plain (mark_byte EndOfSession))
item_spelled (begin n) shaped h = a_begin (plain (mark_byte StartTransaction)) (plain (number_spelled n (ltb-true _ _ h)))
item_spelled (end n) shaped h = an_end (plain (mark_byte EndTransaction)) (plain (number_spelled n (ltb-true _ _ h)))

-- ---- both ways

pub spelled_with_fill : (m : Message) (fill : List ℕ) → IsShaped m → is_writable m ≡ true → IsFill fill → Spells (item_spelling_of m ++ fill) m
spelled_with_fill m fill shaped h f = (item_spelling_of m, fill, refl, item_spelled m shaped h, f)

pub test_is : (m : Message) (b : Bool) → IsShaped m → b ≡ is_writable m → IsTrue b ↔ ((text : List ℕ) × Spells text m)
test_is m true shaped e = (λ _. (item_spelling_of m ++ [], spelled_with_fill m [] shaped (sym e) nothing), λ _. refl)
test_is m false shaped e = (λ h. absurd cc, λ (text, s). absurd (let passes : is_writable m ≡ true = item_passes s.0 m s.3 in cc))

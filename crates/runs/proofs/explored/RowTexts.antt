-- A row that is written is read.
use Rattle.std.proofs.Common.{◌≡◌, ℕ, zero, suc, ◌<◌, ◌≤◌, ◌+◌, ◌-◌, ◌^◌, ◌==◌, Bool, true, false, not, ◌&&◌, nat_lt, nat_le, List, [], ◌∷◌, ◌++◌, cond, length, take, drop, slice_index, map, decimal, refl, sym, ap, ap₂, subst, ◌∙◌, arith, Option, None, Some, lt-ltb}
use Rattle.std.proofs.Math.Seq.{take-append_seam, drop-append-add}
use Rattle.std.proofs.lemmas.Bool.{false≢true, eqb-true, and_parts}
use Rattle.std.proofs.lemmas.Bool.Decides.{nat_tests}
use Rattle.std.proofs.lemmas.Fmt.{decimal_is_IsNumeral}
use Rattle.std.proofs.lemmas.List.{append_assoc}
use Rattle.std.proofs.lemmas.List.Concat.{flat_map-cons}
use Rattle.std.proofs.lemmas.Str.Parse.{digit_from_value, numerals_by_value, tells_all_ascii_digits}
use Rattle.std.specs.Io.BufRead.{strip_last}
use Rattle.std.specs.Str.{all_ascii_digits}
use Rattle.std.specs.Str.Parse.{AllDigits, digits_value}
use Rattle.script_lines.specs.Numbers.{number_up_to, largest}
use Rattle.tool.specs.Scripts.{in_front, lines_of_text, script_lines}
use Rattle.runs.specs.Rows.{escaped_for_cell, escaped_text, meant, unescaped, row_word, row_named, line_of_row, row_of_cells, row_written}
use Rattle.runs.specs.Shares.{size_before, text_before_byte, text_behind_byte}
use Rattle.runs.specs.declared.explored.rows.Row.{Row}
use Rattle.runs.specs.declared.explored.rows.RowName.{RowName}
use Rattle.runs.specs.declared.explored.rows.RowName.TheVariants.{Check, Place, Asked, Lists, State, Found}

-- no tab and no line feed
abbrev is_plain : List ℕ → Bool
is_plain [] = true
is_plain (b ∷ bs) = not (b == 9) && (not (b == 10) && is_plain bs)

plain_append : (xs ys : List ℕ) → is_plain xs ≡ true → is_plain ys ≡ true → is_plain (xs ++ ys) ≡ true
plain_append [] ys one other = other
plain_append (b ∷ bs) ys one other = at (b == 9) (b == 10) (λ one. plain_append bs ys one other) one
  where
    at : (p q : Bool) → (is_plain bs ≡ true → is_plain (bs ++ ys) ≡ true) → (not p && (not q && is_plain bs)) ≡ true
        → (not p && (not q && is_plain (bs ++ ys))) ≡ true
    at true q behind one = one
    at false true behind one = one
    at false false behind one = behind one

-- a cell, and what stands behind it
cell_size : (c rest : List ℕ) → is_plain c ≡ true → size_before 9 (c ++ 9 ∷ rest) ≡ length c
cell_size [] rest plain = refl
cell_size (b ∷ bs) rest plain = at (b == 9) (b == 10) (cell_size bs rest) plain
  where
    at : (p q : Bool) → (is_plain bs ≡ true → size_before 9 (bs ++ 9 ∷ rest) ≡ length bs) → (not p && (not q && is_plain bs)) ≡ true
        → cond (not p) (1 + size_before 9 (bs ++ 9 ∷ rest)) 0 ≡ suc (length bs)
    at true q behind plain = absurd (false≢true plain)
    at false true behind plain = absurd (false≢true plain)
    at false false behind plain = omega (arith, behind plain)

cell_is : (c rest : List ℕ) → is_plain c ≡ true → text_before_byte 9 (c ++ 9 ∷ rest) ≡ c
cell_is c rest plain = ap (λ n. take n (c ++ 9 ∷ rest)) (cell_size c rest plain) ∙ take-append_seam c (9 ∷ rest)

behind_is : (c rest : List ℕ) → is_plain c ≡ true → text_behind_byte 9 (c ++ 9 ∷ rest) ≡ rest
behind_is c rest plain = ap (λ n. drop (n + 1) (c ++ 9 ∷ rest)) (cell_size c rest plain) ∙ drop-append-add c (9 ∷ rest) 1

-- a text that is escaped
byte_plain : (b : ℕ) → is_plain (escaped_for_cell b) ≡ true
byte_plain b = at (b == 92) (b == 9) refl (b == 10) refl (b == 13)
  where
    at : (p q : Bool) → (b == 9) ≡ q → (r : Bool) → (b == 10) ≡ r → (s : Bool)
        → is_plain (cond p (92 ∷ 92 ∷ []) (cond q (92 ∷ 116 ∷ []) (cond r (92 ∷ 110 ∷ []) (cond s (92 ∷ 114 ∷ []) (b ∷ []))))) ≡ true
    at true q is r too s = refl
    at false true is r too s = refl
    at false false is true too s = refl
    at false false is false too true = refl
    at false false is false too false = ap₂ (λ p q. not p && (not q && true)) is too

escaped_plain : (xs : List ℕ) → is_plain (escaped_text xs) ≡ true
escaped_plain [] = refl
escaped_plain (b ∷ bs) =
    ap is_plain (flat_map-cons escaped_for_cell b bs) ∙ plain_append (escaped_for_cell b) (escaped_text bs) (byte_plain b) (escaped_plain bs)

byte_back : (b : ℕ) (rest : List ℕ) → unescaped false (escaped_for_cell b ++ rest) ≡ b ∷ unescaped false rest
byte_back b rest = at (b == 92) refl (b == 9) refl (b == 10) refl (b == 13) refl
  where
    at : (p : Bool) → (b == 92) ≡ p → (q : Bool) → (b == 9) ≡ q → (r : Bool) → (b == 10) ≡ r → (s : Bool) → (b == 13) ≡ s
        → unescaped false (cond p (92 ∷ 92 ∷ []) (cond q (92 ∷ 116 ∷ []) (cond r (92 ∷ 110 ∷ []) (cond s (92 ∷ 114 ∷ []) (b ∷ [])))) ++ rest)
        ≡ b ∷ unescaped false rest
    at true is q _ r _ s _ = ap (λ n. n ∷ unescaped false rest) (sym (eqb-true b 92 is))
    at false _ true is r _ s _ = ap (λ n. n ∷ unescaped false rest) (sym (eqb-true b 9 is))
    at false _ false _ true is s _ = ap (λ n. n ∷ unescaped false rest) (sym (eqb-true b 10 is))
    at false _ false _ false _ true is = ap (λ n. n ∷ unescaped false rest) (sym (eqb-true b 13 is))
    at false is false _ false _ false _ = ap (λ t. cond t (unescaped true rest) (b ∷ unescaped false rest)) is

text_back : (xs : List ℕ) → unescaped false (escaped_text xs) ≡ xs
text_back [] = refl
text_back (b ∷ bs) =
    ap (unescaped false) (flat_map-cons escaped_for_cell b bs)
    ∙ byte_back b (escaped_text bs)
    ∙ ap (λ l. b ∷ l) (text_back bs)

-- a number
digits_plain : (ds : List ℕ) → AllDigits 10 ds → is_plain ds ≡ true
digits_plain [] all = refl
digits_plain (d ∷ ds) all =
    let range = digit_from_value d all.0 in
    let no_tab : (d == 9) ≡ false = grind (arith, nat_tests) in
    let no_feed : (d == 10) ≡ false = grind (arith, nat_tests) in
    ap₂ (λ p q. not p && (not q && is_plain ds)) no_tab no_feed ∙ digits_plain ds all.1

number_plain : (n : ℕ) → n < 2 ^ 64 → is_plain (decimal n) ≡ true
number_plain n small = digits_plain (decimal n) (decimal_is_IsNumeral n small).0.1

number_back : (n : ℕ) → n < 2 ^ 64 → number_up_to (largest 64) (decimal n) ≡ Some n
number_back n small =
    let numeral = decimal_is_IsNumeral n small in
    let some : not (length (decimal n) == 0) ≡ true = has_digit (length (decimal n)) numeral.0.0 in
    let digits : all_ascii_digits (decimal n) ≡ true =
    (numerals_by_value (λ ds. all_ascii_digits ds ≡ true) tells_all_ascii_digits).from (decimal n) numeral.0.1 in
    ap₂ (λ a b. cond ((a && b) && nat_le (digits_value 10 (decimal n)) (largest 64)) (Some (digits_value 10 (decimal n))) None) some digits
    ∙ ap (λ v. cond (nat_le v (largest 64)) (Some v) None) numeral.1
    ∙ ap (λ t. cond t (Some n) None) (within n small)
  where
    has_digit : (k : ℕ) → 0 < k → not (k == 0) ≡ true
    has_digit k some = grind (arith, nat_tests)

    within : (n : ℕ) → n < 2 ^ 64 → nat_le n (largest 64) ≡ true
    within n small = grind (arith, nat_tests)

-- the word of a row
word_plain : (name : RowName) → is_plain (row_word name) ≡ true
word_plain Check = refl
word_plain Place = refl
word_plain Asked = refl
word_plain Lists = refl
word_plain State = refl
word_plain Found = refl

word_back : (name : RowName) → row_named (row_word name) ≡ Some name
word_back Check = refl
word_back Place = refl
word_back Asked = refl
word_back Lists = refl
word_back State = refl
word_back Found = refl

-- five cells, one behind the other
abbrev cells : List ℕ → List ℕ → List ℕ → List ℕ → List ℕ → List ℕ
cells w a b t l = w ++ 9 ∷ (a ++ 9 ∷ (b ++ 9 ∷ (t ++ 9 ∷ (l ++ 9 ∷ []))))

regroup : (w a b t l : List ℕ) → ((((w ++ 9 ∷ a) ++ 9 ∷ b) ++ 9 ∷ t) ++ 9 ∷ l) ++ 9 ∷ [] ≡ cells w a b t l
regroup w a b t l =
    append_assoc (((w ++ 9 ∷ a) ++ 9 ∷ b) ++ 9 ∷ t) (9 ∷ l) (9 ∷ [])
    ∙ append_assoc ((w ++ 9 ∷ a) ++ 9 ∷ b) (9 ∷ t) (9 ∷ (l ++ 9 ∷ []))
    ∙ append_assoc (w ++ 9 ∷ a) (9 ∷ b) (9 ∷ (t ++ 9 ∷ (l ++ 9 ∷ [])))
    ∙ append_assoc w (9 ∷ a) (9 ∷ (b ++ 9 ∷ (t ++ 9 ∷ (l ++ 9 ∷ []))))

five_by : (before behind : List ℕ → List ℕ) (n0 n1 n2 n3 n4 w a b t l : List ℕ) (F : List ℕ → List ℕ → List ℕ → List ℕ → List ℕ → Option Row)
    → behind n0 ≡ n1 → behind n1 ≡ n2 → behind n2 ≡ n3 → behind n3 ≡ n4
    → before n0 ≡ w → before n1 ≡ a → before n2 ≡ b → before n3 ≡ t → before n4 ≡ l
    → F (before n0) (before (behind n0)) (before (behind (behind n0))) (before (behind (behind (behind n0))))
    (before (behind (behind (behind (behind n0))))) ≡ F w a b t l
five_by before behind n0 n1 n2 n3 n4 w a b t l F p q r s c d e f g = cc

read_cells : (w a b t l : List ℕ) → is_plain w ≡ true → is_plain a ≡ true → is_plain b ≡ true → is_plain t ≡ true → is_plain l ≡ true
    → row_written (cells w a b t l) ≡ row_of_cells (row_named w) (number_up_to (largest 64) a) (number_up_to (largest 64) b) t l
read_cells w a b t l pw pa pb pt pl =
    let n4 = l ++ 9 ∷ [] in
    let n3 = t ++ 9 ∷ n4 in
    let n2 = b ++ 9 ∷ n3 in
    let n1 = a ++ 9 ∷ n2 in
    five_by (text_before_byte 9) (text_behind_byte 9) (w ++ 9 ∷ n1) n1 n2 n3 n4 w a b t l
    (λ w a b t l. row_of_cells (row_named w) (number_up_to (largest 64) a) (number_up_to (largest 64) b) t l)
    (behind_is w n1 pw) (behind_is a n2 pa) (behind_is b n3 pb) (behind_is t n4 pt)
    (cell_is w n1 pw) (cell_is a n2 pa) (cell_is b n3 pb) (cell_is t n4 pt) (cell_is l [] pl)

-- its numbers have 64 bits
abbrev pub IsSmall : Row → Type 0
IsSmall row = (row.size < 2 ^ 64) × (row.count < 2 ^ 64)

pub row_back : (row : Row) → IsSmall row → row_written (line_of_row row) ≡ Some row
row_back row small =
    ap row_written (regroup (row_word row.name) (decimal row.size) (decimal row.count) (escaped_text row.text) (escaped_text row.list))
    ∙ read_cells (row_word row.name) (decimal row.size) (decimal row.count) (escaped_text row.text) (escaped_text row.list)
    (word_plain row.name) (number_plain row.size small.0) (number_plain row.count small.1) (escaped_plain row.text) (escaped_plain row.list)
    ∙ ap (λ o. row_of_cells o (number_up_to (largest 64) (decimal row.size)) (number_up_to (largest 64) (decimal row.count)) (escaped_text row.text) (escaped_text row.list))
    (word_back row.name)
    ∙ ap₂ (λ a b. row_of_cells (Some row.name) a b (escaped_text row.text) (escaped_text row.list)) (number_back row.size small.0) (number_back row.count small.1)
    ∙ ap₂ (λ t l. Some (record { name = row.name; size = row.size; count = row.count; text = t; list = l })) (text_back row.text) (text_back row.list)

-- a line without a line feed, that ends with a tab
abbrev no_feed : List ℕ → Bool
no_feed [] = true
no_feed (b ∷ bs) = not (b == 10) && no_feed bs

plain_no_feed : (xs : List ℕ) → is_plain xs ≡ true → no_feed xs ≡ true
plain_no_feed [] plain = refl
plain_no_feed (b ∷ bs) plain = at (b == 9) (b == 10) (plain_no_feed bs) plain
  where
    at : (p q : Bool) → (is_plain bs ≡ true → no_feed bs ≡ true) → (not p && (not q && is_plain bs)) ≡ true → (not q && no_feed bs) ≡ true
    at true q behind plain = absurd (false≢true plain)
    at false true behind plain = absurd (false≢true plain)
    at false false behind plain = behind plain

no_feed_append : (xs ys : List ℕ) → no_feed xs ≡ true → no_feed ys ≡ true → no_feed (xs ++ ys) ≡ true
no_feed_append [] ys one other = other
no_feed_append (b ∷ bs) ys one other = at (b == 10) (λ one. no_feed_append bs ys one other) one
  where
    at : (q : Bool) → (no_feed bs ≡ true → no_feed (bs ++ ys) ≡ true) → (not q && no_feed bs) ≡ true → (not q && no_feed (bs ++ ys)) ≡ true
    at true behind one = one
    at false behind one = behind one

one_line : (xs : List ℕ) → no_feed xs ≡ true → lines_of_text (xs ++ 10 ∷ []) ≡ xs ∷ []
unfolding lines_of_text
one_line [] none = refl
one_line (b ∷ bs) none = at (b == 10) (one_line bs) none
  where
    at : (q : Bool) → (no_feed bs ≡ true → lines_of_text (bs ++ 10 ∷ []) ≡ bs ∷ []) → (not q && no_feed bs) ≡ true
        → cond q ([] ∷ lines_of_text (bs ++ 10 ∷ [])) (in_front b (lines_of_text (bs ++ 10 ∷ []))) ≡ (b ∷ bs) ∷ []
    at true behind none = absurd (false≢true none)
    at false behind none = ap (in_front b) (behind none)

strip_of : (b : ℕ) (xs : List ℕ) (n : ℕ) → length xs ≡ suc n → strip_last b xs ≡ cond (slice_index xs n == b) (take n xs) xs
strip_of b xs n e =
    ap (λ t. cond (t && (slice_index xs (length xs - 1) == b)) (take (length xs - 1) xs) xs) (lt-ltb 0 (length xs) (omega (arith, e)))
    ∙ ap (λ k. cond (slice_index xs k == b) (take k xs) xs) (omega (arith, e))

tab_size : (xs : List ℕ) → length (xs ++ 9 ∷ []) ≡ suc (length xs)
tab_size [] = refl
tab_size (x ∷ xs) = ap suc (tab_size xs)

tab_last : (xs : List ℕ) → slice_index (xs ++ 9 ∷ []) (length xs) ≡ 9
tab_last [] = refl
tab_last (x ∷ xs) = tab_last xs

not_stripped : (xs : List ℕ) → strip_last 13 (xs ++ 9 ∷ []) ≡ xs ++ 9 ∷ []
not_stripped xs =
    strip_of 13 (xs ++ 9 ∷ []) (length xs) (tab_size xs)
    ∙ ap (λ b. cond (b == 13) (take (length xs) (xs ++ 9 ∷ [])) (xs ++ 9 ∷ [])) (tab_last xs)

tab_no_feed : (xs : List ℕ) → no_feed xs ≡ true → no_feed (9 ∷ xs) ≡ true
tab_no_feed xs none = none

pub row_is_line : (row : Row) → IsSmall row → script_lines (line_of_row row ++ 10 ∷ []) ≡ line_of_row row ∷ []
row_is_line row small =
    let w = row_word row.name in
    let a = decimal row.size in
    let b = decimal row.count in
    let t = escaped_text row.text in
    let l = escaped_text row.list in
    let front = (((w ++ 9 ∷ a) ++ 9 ∷ b) ++ 9 ∷ t) ++ 9 ∷ l in
    let none : no_feed front ≡ true =
    no_feed_append (((w ++ 9 ∷ a) ++ 9 ∷ b) ++ 9 ∷ t) (9 ∷ l)
    (no_feed_append ((w ++ 9 ∷ a) ++ 9 ∷ b) (9 ∷ t)
    (no_feed_append (w ++ 9 ∷ a) (9 ∷ b)
    (no_feed_append w (9 ∷ a) (plain_no_feed w (word_plain row.name))
    (tab_no_feed a (plain_no_feed a (number_plain row.size small.0))))
    (tab_no_feed b (plain_no_feed b (number_plain row.count small.1))))
    (tab_no_feed t (plain_no_feed t (escaped_plain row.text))))
    (tab_no_feed l (plain_no_feed l (escaped_plain row.list))) in
    ap (map (strip_last 13)) (one_line (front ++ 9 ∷ []) (no_feed_append front (9 ∷ []) none refl))
    ∙ ap (λ line. line ∷ []) (not_stripped front)

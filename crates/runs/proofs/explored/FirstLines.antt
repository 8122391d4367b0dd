-- The first line of a text, and the lines behind it.
use Rattle.std.proofs.Common.{◌≡◌, ℕ, suc, rules, ◌+◌, ◌<◌, Bool, true, false, ◌==◌, List, [], ◌∷◌, ◌++◌, cond, length, take, drop, refl, sym, ap, ◌∙◌, arith, Some, append-nil}
use Rattle.std.proofs.lemmas.List.{append_assoc}
use Rattle.std.proofs.lemmas.Bool.{false≢true}
use Rattle.std.specs.Io.BufRead.{take_through, drop_through}
use Rattle.tool.specs.Scripts.{lines_of_text, script_lines, bare}
use Rattle.tool.proofs.Texts.{taken}

takes : (xs : List ℕ) → take (length (take_through 10 xs)) xs ≡ take_through 10 xs
takes [] = refl
takes (x ∷ xs) = at (x == 10) (takes xs)
  where
    at : (t : Bool) → take (length (take_through 10 xs)) xs ≡ take_through 10 xs
        → take (length (cond t (x ∷ []) (x ∷ take_through 10 xs))) (x ∷ xs) ≡ cond t (x ∷ []) (x ∷ take_through 10 xs)
    at true behind = refl
    at false behind = ap (λ l. x ∷ l) behind

drops : (xs : List ℕ) → drop (length (take_through 10 xs)) xs ≡ drop_through 10 xs
drops [] = refl
drops (x ∷ xs) = at (x == 10) (drops xs)
  where
    at : (t : Bool) → drop (length (take_through 10 xs)) xs ≡ drop_through 10 xs
        → drop (length (cond t (x ∷ []) (x ∷ take_through 10 xs))) (x ∷ xs) ≡ cond t xs (drop_through 10 xs)
    at true behind = refl
    at false behind = behind

pub some_taken : (xs : List ℕ) → 0 < length xs → 0 < length (take_through 10 xs)
some_taken [] some = absurd (omega (arith, some))
some_taken (x ∷ xs) some = at (x == 10)
  where
    at : (t : Bool) → 0 < length (cond t (x ∷ []) (x ∷ take_through 10 xs))
    at true = omega arith
    at false = omega arith

pub some_left : (xs : List ℕ) → (length xs == 0) ≡ false → 0 < length xs
some_left [] none = absurd (false≢true (sym none))
some_left (x ∷ xs) none = omega arith

-- no line is left of an empty text
pub none_left : (lines : List (List ℕ)) (rest text : List ℕ) → (length rest == 0) ≡ true
    → lines ++ script_lines rest ≡ script_lines text → lines ≡ script_lines text
unfolding lines_of_text
none_left lines [] text none is = sym (append-nil lines) ∙ is
none_left lines (x ∷ xs) text none is =
    let some : (suc (length xs) == 0) ≡ false = search rules in
    absurd (false≢true (sym some ∙ none))

-- the lines of a text are its first line, of so many bytes, and those of what is left
pub first_and_rest : (text line rest : List ℕ) (size : ℕ) → 0 < length text → size ≡ length (take_through 10 text)
    → line ≡ take size text → rest ≡ drop size text → script_lines text ≡ bare line ∷ script_lines rest
first_and_rest text line rest size some is is_line is_rest =
    let line_is : line ≡ take_through 10 text = is_line ∙ ap (λ n. take n text) is ∙ takes text in
    let rest_is : rest ≡ drop_through 10 text = is_rest ∙ ap (λ n. drop n text) is ∙ drops text in
    (taken (Some text) (Some rest) line text refl (omega (arith, ap length line_is, some_taken text some), line_is, ap Some rest_is)).1
    ∙ ap (λ t. bare line ∷ script_lines t) (sym rest_is)

-- a line more stands in front of what is left
pub one_more : (lines more : List (List ℕ)) (text line rest whole : List ℕ) → script_lines text ≡ line ∷ script_lines rest
    → more ≡ lines ++ line ∷ [] → lines ++ script_lines text ≡ script_lines whole → more ++ script_lines rest ≡ script_lines whole
one_more lines more text line rest whole first is_more kept =
    ap (λ ls. ls ++ script_lines rest) is_more
    ∙ append_assoc lines (line ∷ []) (script_lines rest)
    ∙ ap (λ ls. lines ++ ls) (sym first)
    ∙ kept

-- what is left is shorter
pub less_left : (text rest : List ℕ) (size : ℕ) → (length text == 0) ≡ false → size ≡ length (take_through 10 text)
    → length rest + size ≡ length text → length rest < length text
less_left text rest size some is sum = omega (arith, some_taken text (some_left text some), is, sum)

-- The first line of a text, and what a run has read so far.
use Rattle.std.proofs.Common.{◌≡◌, ℕ, suc, ◌-◌, ◌<◌, Bool, true, false, ◌==◌, ◌&&◌, List, [], ◌∷◌, map, cond, length, take, slice_index, refl, sym, ap, subst, ◌∙◌, arith, lt-ltb, Option, Some, None, IfSome}
use Rattle.std.specs.Io.BufRead.{take_through, drop_through, strip_last}
use Rattle.tool.specs.Scripts.{in_front, lines_of_text, script_lines, bare, TakesLine}

strip_of : (b : ℕ) (xs : List ℕ) (n : ℕ) → length xs ≡ suc n → strip_last b xs ≡ cond (slice_index xs n == b) (take n xs) xs
strip_of b xs n e =
    ap (λ t. cond (t && (slice_index xs (length xs - 1) == b)) (take (length xs - 1) xs) xs) (lt-ltb 0 (length xs) (omega (arith, e)))
    ∙ ap (λ k. cond (slice_index xs k == b) (take k xs) xs) (omega (arith, e))

cond-cons : (t : Bool) (x : ℕ) (xs ys : List ℕ) → cond t (x ∷ xs) (x ∷ ys) ≡ x ∷ cond t xs ys
cond-cons true x xs ys = refl
cond-cons false x xs ys = refl

strip-cons : (b x z : ℕ) (zs : List ℕ) → strip_last b (x ∷ z ∷ zs) ≡ x ∷ strip_last b (z ∷ zs)
strip-cons b x z zs =
    strip_of b (x ∷ z ∷ zs) (suc (length zs)) refl
    ∙ cond-cons (slice_index (z ∷ zs) (length zs) == b) x (take (length zs) (z ∷ zs)) (z ∷ zs)
    ∙ ap (λ l. x ∷ l) (sym (strip_of b (z ∷ zs) (length zs) refl))

strip-end : (b x : ℕ) (t : Bool) → (x == b) ≡ t → strip_last b (x ∷ []) ≡ cond t [] (x ∷ [])
strip-end b x t e = strip_of b (x ∷ []) 0 refl ∙ ap (λ t. cond t [] (x ∷ [])) e

-- one byte in front of a text that is not empty
in-front-of : (x y : ℕ) (ys : List ℕ) (t : Bool) → (x == 10) ≡ t
    → lines_of_text (y ∷ ys) ≡ strip_last 10 (take_through 10 (y ∷ ys)) ∷ lines_of_text (drop_through 10 (y ∷ ys))
    → cond t ([] ∷ lines_of_text (y ∷ ys)) (in_front x (lines_of_text (y ∷ ys)))
    ≡ strip_last 10 (cond t (x ∷ []) (x ∷ take_through 10 (y ∷ ys))) ∷ lines_of_text (cond t (y ∷ ys) (drop_through 10 (y ∷ ys)))
in-front-of x y ys true e behind = ap (λ l. l ∷ lines_of_text (y ∷ ys)) (sym (strip-end 10 x true e))
in-front-of x y ys false e behind = ap (in_front x) behind ∙ ap (λ l. l ∷ lines_of_text (drop_through 10 (y ∷ ys))) (longer (y == 10))
  where
    longer : (t : Bool) → x ∷ strip_last 10 (cond t (y ∷ []) (y ∷ take_through 10 ys)) ≡ strip_last 10 (x ∷ cond t (y ∷ []) (y ∷ take_through 10 ys))
    longer true = sym (strip-cons 10 x y [])
    longer false = sym (strip-cons 10 x y (take_through 10 ys))

-- the first line, and the lines behind it
first-line : (x : ℕ) (xs : List ℕ) → lines_of_text (x ∷ xs) ≡ strip_last 10 (take_through 10 (x ∷ xs)) ∷ lines_of_text (drop_through 10 (x ∷ xs))
unfolding lines_of_text
first-line x [] = at (x == 10) refl
  where
    at : (t : Bool) → (x == 10) ≡ t → cond t ([] ∷ []) (in_front x []) ≡ strip_last 10 (cond t (x ∷ []) (x ∷ [])) ∷ lines_of_text (cond t [] [])
    at true e = ap (λ l. l ∷ []) (sym (strip-end 10 x true e))
    at false e = ap (λ l. l ∷ []) (sym (strip-end 10 x false e))
first-line x (y ∷ ys) = in-front-of x y ys (x == 10) refl (first-line y ys)

-- the lines of a text are its first line and the lines of what is left
first-of-script : (text : List ℕ) → 0 < length (take_through 10 text) → script_lines text ≡ bare (take_through 10 text) ∷ script_lines (drop_through 10 text)
first-of-script [] some = absurd (omega (arith, some))
first-of-script (x ∷ xs) some = ap (map (strip_last 13)) (first-line x xs)

-- a line is taken, and the lines of what is left stand behind it
pub taken : (old new : Option (List ℕ)) (line text : List ℕ) → old ≡ Some text
    → IfSome old (λ text. TakesLine true line text new)
    → (new ≡ Some (drop_through 10 text))
    × (script_lines text ≡ bare line ∷ script_lines (drop_through 10 text))
taken old new line text is takes =
    let found = subst (λ o. IfSome o (λ text. TakesLine true line text new)) is takes in
    let some : 0 < length (take_through 10 text) = subst (λ l. 0 < length l) found.1 found.0 in (
      found.2,
      first-of-script text some
          ∙ ap (λ l. bare l ∷ script_lines (drop_through 10 text)) (sym found.1),
    )

pub weaker : {A : Type 0} (o : Option A) (P Q : A → Type 0) → ((x : A) → P x → Q x) → IfSome o P → IfSome o Q
weaker None P Q f h = h
weaker (Some x) P Q f h = f x h

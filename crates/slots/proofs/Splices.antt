-- Parts of a memory in which bytes were laid.
use Rattle.std.proofs.Common.{◌≡◌, ℕ, ◌+◌, ◌-◌, ◌≤◌, List, ◌++◌, length, take, drop, refl, sym, ap, ◌∙◌, arith, append_assoc, length-append, length-take-le}
use Rattle.std.proofs.Math.Seq.{drop-append-add}
use Rattle.std.proofs.lemmas.List.{drop-append-le, take-append-le, drop-take, length-drop, drop-drop, take-take, take_all}
use Rattle.std.proofs.Common.{⊎_elim}
use Rattle.slots.specs.Layout.{memory_part, memory_with}
use Rattle.slots.specs.Fetch.{IsApartFromParts}

pub part_is : (memory : List ℕ) (at n : ℕ) → memory_part memory at n ≡ take n (drop at memory)
part_is memory at n = let e : at + n - at ≡ n = omega arith in rw e refl

-- a part of what was laid
pub inside : (memory bytes : List ℕ) (at i n : ℕ) → at ≤ length memory → i + n ≤ length bytes → memory_part (memory_with memory at bytes) (at + i) n ≡ memory_part bytes i n
inside memory bytes at i n within fits =
    let front : length (take at memory) ≡ at = length-take-le at memory within in
    let rest : List ℕ = drop (at + length bytes) memory in
    let gone : drop (at + i) (memory_with memory at bytes) ≡ drop i (bytes ++ rest) =
    rw (append_assoc (take at memory) bytes rest) (let e : drop (length (take at memory) + i) (take at memory ++ (bytes ++ rest)) ≡ drop i (bytes ++ rest) = drop-append-add (take at memory) (bytes ++ rest) i in rw front at e) in
    let left : drop i (bytes ++ rest) ≡ drop i bytes ++ rest = drop-append-le i bytes rest (omega arith) in
    let kept : take n (drop (at + i) (memory_with memory at bytes)) ≡ take n (drop i bytes) =
    rw (gone, left) (take-append-le n (drop i bytes) rest (omega (arith, length-drop i bytes))) in
    part_is (memory_with memory at bytes) (at + i) n ∙ kept ∙ sym (part_is bytes i n)

-- a part before it
pub before : (memory bytes : List ℕ) (at place n : ℕ) → at ≤ length memory → place + n ≤ at → memory_part (memory_with memory at bytes) place n ≡ memory_part memory place n
before memory bytes at place n within apart =
    let front : length (take at memory) ≡ at = length-take-le at memory within in
    let rest : List ℕ = bytes ++ drop (at + length bytes) memory in
    let left : drop place (memory_with memory at bytes) ≡ drop place (take at memory) ++ rest =
    rw (append_assoc (take at memory) bytes (drop (at + length bytes) memory)) (drop-append-le place (take at memory) rest (omega (arith, front))) in
    let size : length (drop place (take at memory)) ≡ at - place = length-drop place (take at memory) ∙ ap (λ k. k - place) front in
    let whole : place + (at - place) ≡ at = omega arith in
    let cut : drop place (take at memory) ≡ take (at - place) (drop place memory) =
    let e : drop place (take (place + (at - place)) memory) ≡ take (at - place) (drop place memory) = drop-take place (at - place) memory in rw whole at e in
    let first : take n (drop place (memory_with memory at bytes)) ≡ take n (drop place (take at memory)) =
    rw left (take-append-le n (drop place (take at memory)) rest (omega (arith, size))) in
    let second : take n (drop place (take at memory)) ≡ take n (drop place memory) =
    rw cut (take-take n (at - place) (drop place memory) (omega arith)) in
    part_is (memory_with memory at bytes) place n ∙ first ∙ second ∙ sym (part_is memory place n)

-- a part behind it
pub behind : (memory bytes : List ℕ) (at place n : ℕ) → at + length bytes ≤ length memory → at + length bytes ≤ place → memory_part (memory_with memory at bytes) place n ≡ memory_part memory place n
behind memory bytes at place n within apart =
    let front : length (take at memory ++ bytes) ≡ at + length bytes = length-append (take at memory) bytes ∙ ap (λ k. k + length bytes) (length-take-le at memory (omega arith)) in
    let more : at + length bytes + (place - (at + length bytes)) ≡ place = omega arith in
    let gone : drop place (memory_with memory at bytes) ≡ drop place memory =
    let e : drop (length (take at memory ++ bytes) + (place - (at + length bytes))) (memory_with memory at bytes) ≡ drop (place - (at + length bytes)) (drop (at + length bytes) memory) =
    drop-append-add (take at memory ++ bytes) (drop (at + length bytes) memory) (place - (at + length bytes)) in
    (rw (front, more) at e) ∙ drop-drop (place - (at + length bytes)) (at + length bytes) memory ∙ ap (λ k. drop k memory) more in
    part_is (memory_with memory at bytes) place n ∙ ap (take n) gone ∙ sym (part_is memory place n)

pub length_laid : (memory bytes : List ℕ) (at : ℕ) → at + length bytes ≤ length memory → length (memory_with memory at bytes) ≡ length memory
length_laid memory bytes at fits = omega (arith, length-append (take at memory ++ bytes) (drop (at + length bytes) memory), length-append (take at memory) bytes, length-take-le at memory (omega arith), length-drop (at + length bytes) memory)

-- a part of a part
pub part_of_part : (memory : List ℕ) (at n i m : ℕ) → i + m ≤ n → memory_part (memory_part memory at n) i m ≡ memory_part memory (at + i) m
part_of_part memory at n i m fits =
    let whole : i + (n - i) ≡ n = omega arith in
    let cut : drop i (take n (drop at memory)) ≡ take (n - i) (drop i (drop at memory)) =
    let e : drop i (take (i + (n - i)) (drop at memory)) ≡ take (n - i) (drop i (drop at memory)) = drop-take i (n - i) (drop at memory) in rw whole at e in
    let first : memory_part (memory_part memory at n) i m ≡ take m (drop i (take n (drop at memory))) =
    part_is (memory_part memory at n) i m ∙ ap (λ xs. take m (drop i xs)) (part_is memory at n) in
    let second : take m (drop i (take n (drop at memory))) ≡ take m (drop i (drop at memory)) =
    rw cut (take-take m (n - i) (drop i (drop at memory)) (omega arith)) in
    let third : take m (drop i (drop at memory)) ≡ take m (drop (at + i) memory) =
    ap (take m) (drop-drop i at memory) in
    first ∙ second ∙ third ∙ sym (part_is memory (at + i) m)

-- all of what was laid
pub whole : (memory bytes : List ℕ) (at n : ℕ) → at ≤ length memory → length bytes ≡ n → memory_part (memory_with memory at bytes) at n ≡ bytes
whole memory bytes at n within size =
    let here : at + 0 ≡ at = omega arith in
    let found : memory_part (memory_with memory at bytes) (at + 0) n ≡ memory_part bytes 0 n = inside memory bytes at 0 n within (omega (arith, size)) in
    (rw here at found) ∙ part_is bytes 0 n ∙ take_all n bytes (omega (arith, size))

-- a part that has none of what was laid
pub apart : (memory bytes : List ℕ) (at m place n : ℕ) → length bytes ≡ m → at + m ≤ length memory → IsApartFromParts place n at m → memory_part (memory_with memory at bytes) place n ≡ memory_part memory place n
apart memory bytes at m place n size within = ⊎_elim
    (λ h. before memory bytes at place n (omega arith) h)
    (λ h. behind memory bytes at place n (omega (arith, size)) (omega (arith, size)))

-- A memory whose buffer was lent.
use Rattle.std.proofs.Common.{◌≡◌, ℕ, ◌+◌, ◌-◌, ◌≤◌, List, ◌++◌, length, take, drop, sym, ap, ◌∙◌, arith, append_assoc, length-append, length-take-le}
use Rattle.std.proofs.lemmas.List.{take-append-le, take-append-drop, take-take, drop-take, length-drop, drop-drop, take_all}
use Rattle.std.proofs.Math.Seq.{take-add}
use Rattle.slots.specs.Layout.{memory_size, memory_part, memory_with}
use Rattle.slots.specs.Lending.{with_part}
use Rattle.slots.proofs.Splices.{length_laid, part_is}

length_part : (memory : List ℕ) (at n : ℕ) → at + n ≤ length memory → length (memory_part memory at n) ≡ n
length_part memory at n within =
    ap length (part_is memory at n) ∙ length-take-le n (drop at memory) (omega (arith, within, length-drop at memory))

-- What a vector holds after a part of it was lent.
pub lent_part : (memory bytes : List ℕ) (at n : ℕ) → length memory ≡ n → at ≤ n → take n (take at memory ++ (bytes ++ drop (length bytes) (drop at memory)) ++ drop (length (take at memory ++ (bytes ++ drop (length bytes) (drop at memory)))) memory) ≡ take n (memory_with memory at bytes)
lent_part memory bytes at n size within =
    let rest : List ℕ = drop (length bytes) (drop at memory) in
    let first : List ℕ = take at memory ++ (bytes ++ rest) in
    let long : n ≤ length first =
    omega (arith, size, within, length-append (take at memory) (bytes ++ rest), length-append bytes rest, length-take-le at memory (omega (arith, size, within)), length-drop (length bytes) (drop at memory), length-drop at memory) in
    let same : first ≡ memory_with memory at bytes =
    ap (λ xs. take at memory ++ (bytes ++ xs)) (drop-drop (length bytes) at memory) ∙ sym (append_assoc (take at memory) bytes (drop (at + length bytes) memory)) in
    take-append-le n first (drop (length first) memory) long ∙ ap (take n) same

-- Bytes that are as many as the part stay whole.
pub whole_part : (memory bytes : List ℕ) (at : ℕ) → length memory ≡ memory_size → at + length bytes ≤ memory_size → with_part memory at bytes ≡ memory_with memory at bytes
whole_part memory bytes at long within =
    take_all memory_size (memory_with memory at bytes) (omega (arith, long, length_laid memory bytes at (omega (arith, long, within))))

-- Bytes that were laid in a part are laid in the memory.
laid_inside : (memory bytes : List ℕ) (at n i : ℕ) → at + n ≤ length memory → i + length bytes ≤ n → memory_with memory at (memory_with (memory_part memory at n) i bytes) ≡ memory_with memory (at + i) bytes
laid_inside memory bytes at n i within fits =
    let xs : List ℕ = drop at memory in
    let k : ℕ = i + length bytes in
    let m : ℕ = n - k in
    let split : k + m ≡ n = omega (arith, fits) in
    let piece : memory_part memory at n ≡ take n xs = part_is memory at n in
    let size : length (memory_with (memory_part memory at n) i bytes) ≡ n =
    length_laid (memory_part memory at n) bytes i (omega (arith, fits, length_part memory at n within)) ∙ length_part memory at n within in
    let front : take i (memory_part memory at n) ≡ take i xs = ap (take i) piece ∙ take-take i n xs (omega (arith, fits)) in
    let behind : drop k (memory_part memory at n) ≡ take m (drop k xs) =
    ap (drop k) piece ∙ (let e : drop k (take (k + m) xs) ≡ take m (drop k xs) = drop-take k m xs in rw split at e) in
    let rest : drop (at + length (memory_with (memory_part memory at n) i bytes)) memory ≡ drop m (drop k xs) =
    ap (λ s. drop (at + s) memory) size ∙ sym (drop-drop n at memory) ∙ ap (λ s. drop s xs) (sym split) ∙ sym (drop-drop m k xs) in
    let there : drop k xs ≡ drop (at + i + length bytes) memory =
    drop-drop k at memory ∙ (let e : at + k ≡ at + i + length bytes = omega arith in ap (λ s. drop s memory) e) in
    let inner : memory_with (memory_part memory at n) i bytes ≡ (take i xs ++ bytes) ++ take m (drop k xs) =
    ap (λ ys. ys ++ bytes ++ drop k (memory_part memory at n)) front ∙ ap (λ ys. take i xs ++ bytes ++ ys) behind in
    ap (λ ys. take at memory ++ memory_with (memory_part memory at n) i bytes ++ ys) rest
    ∙ ap (λ ys. take at memory ++ ys ++ drop m (drop k xs)) inner
    ∙ append_assoc (take at memory) ((take i xs ++ bytes) ++ take m (drop k xs)) (drop m (drop k xs))
    ∙ ap (λ ys. take at memory ++ ys) (append_assoc (take i xs ++ bytes) (take m (drop k xs)) (drop m (drop k xs)))
    ∙ ap (λ ys. take at memory ++ ((take i xs ++ bytes) ++ ys)) (take-append-drop m (drop k xs) ∙ there)
    ∙ sym (append_assoc (take at memory) (take i xs ++ bytes) (drop (at + i + length bytes) memory))
    ∙ ap (λ ys. ys ++ drop (at + i + length bytes) memory) (sym (append_assoc (take at memory) (take i xs) bytes))
    ∙ ap (λ ys. ys ++ bytes ++ drop (at + i + length bytes) memory) (sym (take-add at i memory))

pub part_filled : (memory bytes : List ℕ) (at n i : ℕ) → length memory ≡ memory_size → at + n ≤ memory_size → i + length bytes ≤ n → with_part memory at (memory_with (memory_part memory at n) i bytes) ≡ memory_with memory (at + i) bytes
part_filled memory bytes at n i long within fits =
    let room : at + n ≤ length memory = omega (arith, long, within) in
    let size : length (memory_with (memory_part memory at n) i bytes) ≡ n =
    length_laid (memory_part memory at n) bytes i (omega (arith, fits, length_part memory at n room)) ∙ length_part memory at n room in
    whole_part memory (memory_with (memory_part memory at n) i bytes) at long (omega (arith, size, within)) ∙ laid_inside memory bytes at n i room fits

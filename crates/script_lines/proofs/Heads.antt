-- The heads of sectors, printed one after the other.
use Rattle.std.proofs.Common.{◌≡◌, ℕ, zero, suc, ◌+◌, ◌*◌, ◌-◌, ◌/◌, ◌<◌, ◌≤◌, ◌==◌, true, [], ◌∷◌, List, ◌++◌, length, take, drop, slice_range, refl, sym, ap, ◌∙◌, append_assoc, arith}
use Rattle.std.specs.Prelude.{codes}
use Rattle.std.proofs.Math.Seq.{drop-append_seam}
use Rattle.std.proofs.lemmas.Bool.{eqb-true}
use Rattle.std.proofs.lemmas.List.{length-append, length-take-le, length-drop, take-append-le, take_all, drop-drop, append-nil}
use Rattle.hex.specs.Hex.{encode_lower}
use Rattle.shadow_mbr.specs.Stored.{heads_of, heads}
use Rattle.script_lines.specs.Texts.{first_bytes, sectors_text, data_text, done_text, each_head, heads_text, given_text}

pub goes_on : (heads out : List ℕ) (head end : ℕ) (total : List ℕ) → head < end
    → out ++ each_head (end - head) (drop (4 * head) heads) ≡ total
    → (out ++ 32 ∷ encode_lower (slice_range heads (4 * head) (4 * head + 4))) ++ each_head (end - (head + 1)) (drop (4 * (head + 1)) heads) ≡ total
unfolding each_head
goes_on heads out head end total lt so_far =
    let k : end - head ≡ suc (end - (head + 1)) = omega arith in
    let size : 4 * head + 4 - 4 * head ≡ 4 = omega arith in
    let next : 4 * (head + 1) ≡ 4 * head + 4 = omega arith in
    let rest : drop 4 (drop (4 * head) heads) ≡ drop (4 * (head + 1)) heads = drop-drop 4 (4 * head) heads ∙ ap (λ n. drop n heads) (sym next) in
    append_assoc out (32 ∷ encode_lower (slice_range heads (4 * head) (4 * head + 4))) (each_head (end - (head + 1)) (drop (4 * (head + 1)) heads))
    ∙ rw (size, sym rest) (rw k at so_far)

pub ends : (heads out : List ℕ) (head end : ℕ) (total : List ℕ) → end ≤ head
    → out ++ each_head (end - head) (drop (4 * head) heads) ≡ total → out ≡ total
unfolding each_head
ends heads out head end total le so_far =
    let none : end - head ≡ 0 = omega arith in
    sym (append-nil out) ∙ (rw none at so_far)

length_heads : (n : ℕ) (bytes : List ℕ) → 512 * n ≤ length bytes → length (heads_of n bytes) ≡ 4 * n
unfolding heads_of
length_heads zero bytes within = refl
length_heads (suc n) bytes within =
    let head : length (take 4 bytes) ≡ 4 = length-take-le 4 bytes (omega arith) in
    let left : length (drop 512 bytes) ≡ length bytes - 512 = length-drop 512 bytes in
    length-append (take 4 bytes) (heads_of n (drop 512 bytes))
    ∙ omega (arith, head, length_heads n (drop 512 bytes) (omega (arith, left)))

one_by_one : (n sector : ℕ) (bytes : List ℕ) → 512 * (sector + n) ≤ length bytes → first_bytes n sector bytes ≡ each_head n (heads_of n (drop (512 * sector) bytes))
unfolding heads_of each_head
one_by_one zero sector bytes within = refl
one_by_one (suc n) sector bytes within =
    let size : 512 * sector + 4 - 512 * sector ≡ 4 = omega arith in
    let here : List ℕ = drop (512 * sector) bytes in
    let left : length here ≡ length bytes - 512 * sector = length-drop (512 * sector) bytes in
    let head : length (take 4 here) ≡ 4 = length-take-le 4 here (omega (arith, left)) in
    let place : 512 * sector + 512 ≡ 512 * (suc sector) = omega arith in
    let later : drop 512 here ≡ drop (512 * suc sector) bytes = drop-drop 512 (512 * sector) bytes ∙ ap (λ n. drop n bytes) place in
    let rest : List ℕ = heads_of n (drop 512 here) in
    let first : take 4 (take 4 here ++ rest) ≡ take 4 here = take-append-le 4 (take 4 here) rest (omega (arith, head)) ∙ take_all 4 (take 4 here) (omega (arith, head)) in
    let others : drop 4 (take 4 here ++ rest) ≡ rest = sym (ap (λ n. drop n (take 4 here ++ rest)) head) ∙ drop-append_seam (take 4 here) rest in
    rw (size, first, others, later) (ap (λ (xs : List ℕ). 32 ∷ (encode_lower (take 4 here) ++ xs)) (one_by_one n (suc sector) bytes (omega arith)))

-- The text of sectors is the text of their heads.
pub text_of_heads : (bytes : List ℕ) → heads_text (heads bytes) ≡ sectors_text bytes
text_of_heads bytes =
    let n : ℕ = length bytes / 512 in
    let within : 512 * n ≤ length bytes = omega arith in
    let count : length (heads bytes) / 4 ≡ n = omega (arith, length_heads n bytes within) in
    rw count (sym (one_by_one n 0 bytes (omega arith)))

pub given_by_heads : (given bytes : List ℕ) → given ≡ heads bytes → given_text given ≡ data_text bytes
given_by_heads given bytes is = ap (λ (text : List ℕ). codes "ok" ++ text) (ap (λ (hs : List ℕ). heads_text hs) is ∙ text_of_heads bytes)

-- Where there are no sectors, it was done.
pub none_given : (heads : List ℕ) → (length heads == 0) ≡ true → done_text ≡ given_text heads
unfolding each_head
none_given [] none = refl
none_given (byte ∷ heads) none = absurd (let no = eqb-true (length (byte ∷ heads)) 0 none in omega (arith, no))

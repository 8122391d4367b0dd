-- The first bytes of sectors that follow one another.
use Rattle.std.proofs.Common.{◌≡◌, ℕ, zero, suc, ◌+◌, ◌*◌, ◌/◌, List, ◌++◌, length, take, drop, refl, ap, sym, ◌∙◌, arith}
use Rattle.std.proofs.Math.Seq.{drop-append_seam}
use Rattle.std.proofs.lemmas.List.{length-append, take-append-le}
use Rattle.shadow_mbr.specs.Stored.{sectors_from, heads_of, heads}

length_from : (h : ℕ → List ℕ) (lba n : ℕ) → ((s : ℕ) → length (h s) ≡ 512) → length (sectors_from h lba n) ≡ 512 * n
unfolding sectors_from
length_from h lba zero whole = refl
length_from h lba (suc n) whole =
    length-append (h lba) (sectors_from h (lba + 1) n)
    ∙ omega (arith, whole lba, length_from h (lba + 1) n whole)

head_by_head : (h : ℕ → List ℕ) (lba n : ℕ) → ((s : ℕ) → length (h s) ≡ 512) → heads_of n (sectors_from h lba n) ≡ sectors_from (λ s. take 4 (h s)) lba n
unfolding sectors_from heads_of
head_by_head h lba zero whole = refl
head_by_head h lba (suc n) whole =
    let rest : List ℕ = sectors_from h (lba + 1) n in
    let head : take 4 (h lba ++ rest) ≡ take 4 (h lba) = take-append-le 4 (h lba) rest (omega (arith, whole lba)) in
    let left : drop 512 (h lba ++ rest) ≡ rest = sym (ap (λ n. drop n (h lba ++ rest)) (whole lba)) ∙ drop-append_seam (h lba) rest in
    rw (head, left) (ap (λ (bs : List ℕ). take 4 (h lba) ++ bs) (head_by_head h (lba + 1) n whole))

pub heads_from : (h : ℕ → List ℕ) (lba n : ℕ) → ((s : ℕ) → length (h s) ≡ 512) → heads (sectors_from h lba n) ≡ sectors_from (λ s. take 4 (h s)) lba n
heads_from h lba n whole =
    let count : length (sectors_from h lba n) / 512 ≡ n = omega (arith, length_from h lba n whole) in
    rw count (head_by_head h lba n whole)

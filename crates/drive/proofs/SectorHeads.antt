-- The first bytes of sectors, sector after sector.
use Rattle.std.proofs.Common.{◌≡◌, ℕ, zero, suc, ◌+◌, ◌-◌, ◌*◌, ◌<◌, List, [], ◌++◌, take, drop, refl, ap, sym, ◌∙◌, arith, drop-drop}
use Rattle.shadow_mbr.specs.Stored.{heads_of}

pub next_head : (n i : ℕ) (bytes : List ℕ) → i < n
    → take 4 (drop (512 * i) bytes) ++ heads_of (n - (i + 1)) (drop (512 * (i + 1)) bytes) ≡ heads_of (n - i) (drop (512 * i) bytes)
unfolding heads_of
next_head n i bytes lt =
    let more : n - i ≡ suc (n - (i + 1)) = omega (arith, lt) in
    let left : drop 512 (drop (512 * i) bytes) ≡ drop (512 * (i + 1)) bytes = drop-drop 512 (512 * i) bytes ∙ ap (λ (k : ℕ). drop k bytes) (omega arith) in
    rw more (ap (λ (xs : List ℕ). take 4 (drop (512 * i) bytes) ++ heads_of (n - (i + 1)) xs) (sym left))

pub all_heads : (n i : ℕ) (bytes : List ℕ) → n ≡ i → heads_of (n - i) bytes ≡ []
unfolding heads_of
all_heads n i bytes same =
    let none : n - i ≡ zero = omega (arith, same) in
    rw none refl

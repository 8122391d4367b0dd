-- The bytes of sectors that follow one another.
use Rattle.std.proofs.Common.{◌≡◌, ℕ, zero, suc, ◌+◌, ◌-◌, ◌≤◌, List, [], ◌++◌, refl, ap, sym, ◌∙◌, arith, append_assoc}
use Rattle.std.proofs.lemmas.List.{append-nil}
use Rattle.shadow_mbr.specs.Stored.{sectors_from}

sectors_from-append : (h : ℕ → List ℕ) (lba n m : ℕ) → sectors_from h lba n ++ sectors_from h (lba + n) m ≡ sectors_from h lba (n + m)
unfolding sectors_from
sectors_from-append h lba zero m =
    let here : lba + 0 ≡ lba = omega arith in
    let none : 0 + m ≡ m = omega arith in
    rw (here, none) refl
sectors_from-append h lba (suc n) m =
    let there : lba + suc n ≡ lba + 1 + n = omega arith in
    let more : suc n + m ≡ suc (n + m) = omega arith in
    rw (there, more) (append_assoc (h lba) (sectors_from h (lba + 1) n) (sectors_from h (lba + 1 + n) m)
    ∙ ap (λ (bs : List ℕ). h lba ++ bs) (sectors_from-append h (lba + 1) n m))

one_sector : (h : ℕ → List ℕ) (n : ℕ) → sectors_from h n 1 ≡ h n
unfolding sectors_from
one_sector h n = append-nil (h n)

-- No sector yet.
pub no_sector : (h : ℕ → List ℕ) (first : ℕ) → sectors_from h first (first - first) ≡ []
unfolding sectors_from
no_sector h first = let none : first - first ≡ 0 = omega arith in rw none refl

-- One more sector.
pub next_sector : (h : ℕ → List ℕ) (first next : ℕ) → first ≤ next → sectors_from h first (next - first) ++ h next ≡ sectors_from h first (next + 1 - first)
next_sector h first next from =
    let there : first + (next - first) ≡ next = omega arith in
    let more : next + 1 - first ≡ next - first + 1 = omega arith in
    rw more
    (ap (λ (bs : List ℕ). sectors_from h first (next - first) ++ bs) (sym (one_sector h next) ∙ ap (λ (n : ℕ). sectors_from h n 1) (sym there))
    ∙ sectors_from-append h first (next - first) 1)

-- Numbers in a row, and sums of bytes.
use Rattle.std.proofs.Common.{◌≡◌, ◌∙◌, ℕ, zero, suc, ◌+◌, ◌%◌, List, [], ◌∷◌, ◌++◌, sym, ap, arith, add-one}
use Rattle.std.specs.List.{flat_map}
use Rattle.std.proofs.lemmas.Grind.{flat_map-append}
use Rattle.std.proofs.lemmas.List.{append-nil}
use Rattle.std.proofs.lemmas.List.Concat.{flat_map-cons}
use Rattle.std.proofs.Math.Nat.{mod-add-mod}
use Rattle.device_data.specs.Identity.{run_from}

run_next : (first n : ℕ) → run_from first (suc n) ≡ run_from first n ++ (first + n) ∷ []
run_next first zero = ap (λ k. k ∷ []) (omega arith)
run_next first (suc n) = ap (λ ks. first ∷ ks) (run_next (suc first) n ∙ ap (λ k. run_from (suc first) n ++ k ∷ []) (omega arith))

one : (f : ℕ → List ℕ) (n : ℕ) → flat_map f (n ∷ []) ≡ f n
one f n = flat_map-cons f n [] ∙ append-nil (f n)

pub flat_next : (f : ℕ → List ℕ) (n : ℕ) → flat_map f (run_from 0 (n + 1)) ≡ flat_map f (run_from 0 n) ++ f n
flat_next f n =
    ap (λ k. flat_map f (run_from 0 k)) (add-one n)
    ∙ ap (flat_map f) (run_next 0 n ∙ ap (λ k. run_from 0 n ++ k ∷ []) (omega arith))
    ∙ flat_map-append f (run_from 0 n) (n ∷ [])
    ∙ ap (λ xs. flat_map f (run_from 0 n) ++ xs) (one f n)

-- from any number on
pub flat_next_from : (f : ℕ → List ℕ) (first n : ℕ) → flat_map f (run_from first (n + 1)) ≡ flat_map f (run_from first n) ++ f (first + n)
flat_next_from f first n =
    ap (λ k. flat_map f (run_from first k)) (add-one n)
    ∙ ap (flat_map f) (run_next first n)
    ∙ flat_map-append f (run_from first n) ((first + n) ∷ [])
    ∙ ap (λ xs. flat_map f (run_from first n) ++ xs) (one f (first + n))

pub sum_next : (s b rest : ℕ) → (s + (b + rest)) % 256 ≡ ((s + b) % 256 + rest) % 256
sum_next s b rest = ap (λ k. k % 256) (omega arith) ∙ sym (mod-add-mod (s + b) 256 rest)

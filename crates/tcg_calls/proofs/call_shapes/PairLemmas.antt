-- Two numbers name two values at most.
use Rattle.std.proofs.Common.{◌≡◌, ◌≤◌, ℕ, Bool, true, false, ◌&&◌, List, [], ◌∷◌, length, Option, None, Some, if◌then◌else◌, refl, arith}
use Rattle.std.specs.List.{filter_map}
use Rattle.std.proofs.lemmas.Bool.Decides.{nat_tests}
use Rattle.tcg_tokens.specs.Tree.{Tree}
use Rattle.tcg_calls.specs.Named.{assigned, are_assigned, are_distinct, are_among, only_among, options}

-- of three distinct names one is neither number
beside : (first last : ℕ) (p q r : ℕ × Tree) (ps : List (ℕ × Tree)) → are_distinct (p ∷ q ∷ r ∷ ps) ≡ true → are_among (first ∷ last ∷ []) (p ∷ q ∷ r ∷ ps) ≡ false
beside first last p q r ps d = grind (arith, nat_tests, d)

unless : (first last : ℕ) (ps : List (ℕ × Tree)) (b c : Bool) → are_distinct ps ≡ c → (are_distinct ps ≡ true → are_among (first ∷ last ∷ []) ps ≡ false) → only_among (first ∷ last ∷ []) (if b && c then Some ps else None) ≡ None
unless first last ps false c e h = refl
unless first last ps true false e h = refl
unless first last ps true true e h = rw (h e) refl

behind : (first last : ℕ) (t u v : Tree) (ts : List Tree) (a b c : Option (ℕ × Tree)) → assigned t ≡ a → assigned u ≡ b → assigned v ≡ c → options (first ∷ last ∷ []) (t ∷ u ∷ v ∷ ts) ≡ None
behind first last t u v ts None b c d e f = rw d refl
behind first last t u v ts (Some p) None c d e f = rw (d, e) refl
behind first last t u v ts (Some p) (Some q) None d e f = rw (d, e, f) refl
behind first last t u v ts (Some p) (Some q) (Some r) d e f =
    rw (d, e, f) (unless first last (p ∷ q ∷ r ∷ filter_map assigned ts) (are_assigned ts) (are_distinct (p ∷ q ∷ r ∷ filter_map assigned ts)) refl (beside first last p q r (filter_map assigned ts)))

pub too_many : (first last : ℕ) (ts : List Tree) → 3 ≤ length ts → options (first ∷ last ∷ []) ts ≡ None
too_many first last [] many = absurd (omega (arith, many))
too_many first last (t ∷ []) many = absurd (omega (arith, many))
too_many first last (t ∷ u ∷ []) many = absurd (omega (arith, many))
too_many first last (t ∷ u ∷ v ∷ ts) many = behind first last t u v ts (assigned t) (assigned u) (assigned v) refl refl refl

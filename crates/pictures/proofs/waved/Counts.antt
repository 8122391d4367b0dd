-- Signals, one more at a time.
use Rattle.std.proofs.Common.{◌≡◌, ◌∙◌, ℕ, ◌+◌, List, ◌++◌, ap, sym, add-one, append_assoc, append-nil}
use Rattle.pictures.specs.Samples.{Sample}
use Rattle.drawing.specs.Dumps.{declaration, wire_value, changed_value}
use Rattle.pictures.specs.Waves.{wave_at, wave_bits, wave_name, wave_value}
use Rattle.pictures.specs.Dumps.{declared_to, values_to, changes_to}

-- the text with one piece more
more : (old before now piece : List ℕ) → before ≡ old ++ now → (new : List ℕ) → new ≡ before ++ piece
    → new ≡ old ++ (now ++ piece)
more old before now piece so new is = is ∙ ap (λ t. t ++ piece) so ∙ append_assoc old now piece

-- a piece of the same parts is the same piece
pub same_piece : (F : ℕ → ℕ → List ℕ → List ℕ) (before new : List ℕ) (p n b c : ℕ) (name other : List ℕ)
    → p ≡ n → b ≡ c → name ≡ other → new ≡ before ++ F p b name → new ≡ before ++ F n c other
same_piece F before new p n b c name other is_p is_b is_name is = cc

pub same_value : (F : ℕ → ℕ → ℕ → List ℕ) (before new : List ℕ) (p n b c v u : ℕ)
    → p ≡ n → b ≡ c → v ≡ u → new ≡ before ++ F p b v → new ≡ before ++ F n c u
same_value F before new p n b c v u is_p is_b is_v is = cc

pub same_change : (F : ℕ → ℕ → ℕ → ℕ → List ℕ) (before new : List ℕ) (p n b c v u x y : ℕ)
    → p ≡ n → b ≡ c → v ≡ u → x ≡ y → new ≡ before ++ F p b v x → new ≡ before ++ F n c u y
same_change F before new p n b c v u x y is_p is_b is_v is_x is = cc

pub declared_first : (text : List ℕ) → text ≡ text ++ declared_to 0
unfolding declared_to
declared_first text = sym (append-nil text)

pub declared_on : (old before new : List ℕ) (n : ℕ) → before ≡ old ++ declared_to n
    → new ≡ before ++ declaration n (wave_bits (wave_at n)) (wave_name (wave_at n))
    → new ≡ old ++ declared_to (n + 1)
unfolding declared_to
declared_on old before new n so is =
    more old before (declared_to n) (declaration n (wave_bits (wave_at n)) (wave_name (wave_at n))) so new is
    ∙ ap (λ k. old ++ declared_to k) (sym (add-one n))

pub values_first : (text : List ℕ) (sample : Sample) → text ≡ text ++ values_to sample 0
unfolding values_to
values_first text sample = sym (append-nil text)

pub values_on : (old before new : List ℕ) (sample : Sample) (n : ℕ) → before ≡ old ++ values_to sample n
    → new ≡ before ++ wire_value n (wave_bits (wave_at n)) (wave_value (wave_at n) sample)
    → new ≡ old ++ values_to sample (n + 1)
unfolding values_to
values_on old before new sample n so is =
    more old before (values_to sample n) (wire_value n (wave_bits (wave_at n)) (wave_value (wave_at n) sample)) so new is
    ∙ ap (λ k. old ++ values_to sample k) (sym (add-one n))

pub changes_first : (text : List ℕ) (a b : Sample) → text ≡ text ++ changes_to a b 0
unfolding changes_to
changes_first text a b = sym (append-nil text)

pub changes_on : (old before new : List ℕ) (a b : Sample) (n : ℕ) → before ≡ old ++ changes_to a b n
    → new ≡ before ++ changed_value n (wave_bits (wave_at n)) (wave_value (wave_at n) a) (wave_value (wave_at n) b)
    → new ≡ old ++ changes_to a b (n + 1)
unfolding changes_to
changes_on old before new a b n so is =
    more old before (changes_to a b n) (changed_value n (wave_bits (wave_at n)) (wave_value (wave_at n) a) (wave_value (wave_at n) b)) so new is
    ∙ ap (λ k. old ++ changes_to a b k) (sym (add-one n))

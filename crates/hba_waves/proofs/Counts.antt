-- Signals, one more at a time.
use Rattle.std.proofs.Common.{◌≡◌, ◌∙◌, ℕ, ◌+◌, List, ◌++◌, ap, sym, add-one, append_assoc, append-nil}
use Rattle.drawing.specs.Dumps.{declaration, wire_value, changed_value}
use Rattle.hba_waves.specs.declared.look.Look.{Look}
use Rattle.hba_waves.specs.Signals.{signal_at, signal_bits, signal_name, signal_value}
use Rattle.hba_waves.specs.Dumps.{signals_to, first_values_to, new_values_to}

-- the text with one piece more
more : (old before now piece : List ℕ) → before ≡ old ++ now → (new : List ℕ) → new ≡ before ++ piece
    → new ≡ old ++ (now ++ piece)
more old before now piece so new is = is ∙ ap (λ t. t ++ piece) so ∙ append_assoc old now piece

-- a piece of the same parts is the same piece
pub same_piece : (F : ℕ → ℕ → List ℕ → List ℕ) (before new : List ℕ) (p n b c : ℕ) (name other : List ℕ)
    → p ≡ n → b ≡ c → name ≡ other → new ≡ before ++ F p b name → new ≡ before ++ F n c other
same_piece F before new p n b c name other is_p is_b is_name is = cc

pub same_value : (F : ℕ → ℕ → ℕ → List ℕ) (before new : List ℕ) (p n b c v u : ℕ)
    → p ≡ n → b ≡ c → v ≡ u → new ≡ before ++ F p b v → new ≡ before ++ F n c u
same_value F before new p n b c v u is_p is_b is_v is = cc

pub same_change : (F : ℕ → ℕ → ℕ → ℕ → List ℕ) (before new : List ℕ) (p n b c v u x y : ℕ)
    → p ≡ n → b ≡ c → v ≡ u → x ≡ y → new ≡ before ++ F p b v x → new ≡ before ++ F n c u y
same_change F before new p n b c v u x y is_p is_b is_v is_x is = cc

pub signals_first : (text : List ℕ) → text ≡ text ++ signals_to 0
unfolding signals_to
signals_first text = sym (append-nil text)

pub signals_on : (old before new : List ℕ) (n : ℕ) → before ≡ old ++ signals_to n
    → new ≡ before ++ declaration n (signal_bits (signal_at n)) (signal_name (signal_at n))
    → new ≡ old ++ signals_to (n + 1)
unfolding signals_to
signals_on old before new n so is =
    more old before (signals_to n) (declaration n (signal_bits (signal_at n)) (signal_name (signal_at n))) so new is
    ∙ ap (λ k. old ++ signals_to k) (sym (add-one n))

pub values_first : (text : List ℕ) (look : Look) → text ≡ text ++ first_values_to look 0
unfolding first_values_to
values_first text look = sym (append-nil text)

pub values_on : (old before new : List ℕ) (look : Look) (n : ℕ) → before ≡ old ++ first_values_to look n
    → new ≡ before ++ wire_value n (signal_bits (signal_at n)) (signal_value (signal_at n) look)
    → new ≡ old ++ first_values_to look (n + 1)
unfolding first_values_to
values_on old before new look n so is =
    more old before (first_values_to look n) (wire_value n (signal_bits (signal_at n)) (signal_value (signal_at n) look)) so new is
    ∙ ap (λ k. old ++ first_values_to look k) (sym (add-one n))

pub changes_first : (text : List ℕ) (a b : Look) → text ≡ text ++ new_values_to a b 0
unfolding new_values_to
changes_first text a b = sym (append-nil text)

pub changes_on : (old before new : List ℕ) (a b : Look) (n : ℕ) → before ≡ old ++ new_values_to a b n
    → new ≡ before ++ changed_value n (signal_bits (signal_at n)) (signal_value (signal_at n) a) (signal_value (signal_at n) b)
    → new ≡ old ++ new_values_to a b (n + 1)
unfolding new_values_to
changes_on old before new a b n so is =
    more old before (new_values_to a b n) (changed_value n (signal_bits (signal_at n)) (signal_value (signal_at n) a) (signal_value (signal_at n) b)) so new is
    ∙ ap (λ k. old ++ new_values_to a b k) (sym (add-one n))

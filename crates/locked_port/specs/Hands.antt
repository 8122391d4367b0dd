-- A pass as contracts see it.
use Rattle.std.specs.Prelude.{◌≡◌, ℕ, zero, suc, ◌+◌, ◌^◌, List, [], ◌∷◌, ◌++◌, bit_or}
use Rattle.std.specs.Int.{bit_at}
use mathlib.Core.Logic.{◌≢◌}

-- Its client, how many of its calls put or took something, and the tags that it holds, one bit each.
pub record Hand : Type 0 where
  pub client : ℕ
  pub count : ℕ
  pub tags : ℕ

abbrev pub hand : ℕ → ℕ → ℕ → Hand
hand client count tags = record { client = client; count = count; tags = tags }

-- One call more.
abbrev pub counted : Hand → Hand
counted h = hand h.client (h.count + 1) h.tags

-- One tag more.
abbrev pub claimed : ℕ → Hand → Hand
claimed tag h = hand h.client h.count (bit_or h.tags (2 ^ tag))

-- A tag that was not held is held now, and nothing else is other than it was.
abbrev pub Claims : ℕ → Hand → Hand → Type 0
Claims tag old new = (bit_at old.tags tag ≡ 0) × (new ≡ claimed tag old)

-- A tag is not held any more, and nothing else is other than it was.
pub record Frees (tag : ℕ) (old new : Hand) : Type 0 where
  pub client : new.client ≡ old.client
  pub count : new.count ≡ old.count
  pub gone : bit_at new.tags tag ≡ 0
  pub others : (k : ℕ) → k ≢ tag → bit_at new.tags k ≡ bit_at old.tags k

abbrev pub hand_count : Hand → ℕ
hand_count h = h.count

-- The passes 1 to n, none of which was used, or holds a tag.
abbrev pub hands : ℕ → List Hand
hands zero = []
hands (suc n) = hands n ++ hand (suc n) 0 0 ∷ []

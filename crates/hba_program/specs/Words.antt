-- Words of a line, which one blank parts.
use Rattle.std.specs.Prelude.{ℕ, ◌==◌, List, [], ◌∷◌, Option, Some, None, if◌then◌else◌}

-- the bytes before the first blank
abbrev pub front_word : List ℕ → List ℕ
front_word [] = []
front_word (b ∷ bs) = if b == 32 then [] else b ∷ front_word bs

-- the bytes behind it, where there is one
abbrev pub behind_word : List ℕ → Option (List ℕ)
behind_word [] = None
behind_word (b ∷ bs) = if b == 32 then Some bs else behind_word bs

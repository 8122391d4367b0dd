-- The words that a text spells, said with no reader: blanks, a word, blanks, a word, and so on up to blanks at the end.
use Rattle.std.specs.Prelude.{◌≡◌, ◌<◌, ◌⊎◌, ℕ, List, [], ◌∷◌, ◌++◌, length, slice_index}
use Rattle.std.specs.List.{All}

-- a space or a tab
abbrev pub IsBlank : ℕ → Type 0
IsBlank byte = (byte ≡ 32) ⊎ (byte ≡ 9)

-- blanks alone, or nothing
abbrev pub AreBlanks : List ℕ → Type 0
AreBlanks gap = All IsBlank gap

-- one byte or more, and no blank among them
abbrev pub IsWord : List ℕ → Type 0
IsWord word = (0 < length word) × All (λ byte. IsBlank byte → ⊥) word

-- nothing, or what begins with a blank
abbrev pub IsApart : List ℕ → Type 0
IsApart rest = 0 < length rest → IsBlank (slice_index rest 0)

-- a text is blanks, or nothing, and then this word, and then this rest
pub record BeginsWithWord (text word rest : List ℕ) : Type 0 where
  pub gap : List ℕ
  pub is : text ≡ gap ++ (word ++ rest)
  pub blanks : AreBlanks gap
  pub is_word : IsWord word
  pub apart : IsApart rest

-- a text spells these words in this order, and no others
abbrev pub IsMadeOfWords : List (List ℕ) → List ℕ → Type 0
IsMadeOfWords [] text = AreBlanks text
IsMadeOfWords (word ∷ words) text = (rest : List ℕ) × BeginsWithWord text word rest
    × IsMadeOfWords words rest

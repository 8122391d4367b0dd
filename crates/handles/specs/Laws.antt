-- What holds of numbers, whatever is done with a table.
use Rattle.std.specs.Prelude.{◌≡◌, ◌≢◌, ◌⊎◌, Bool, true, false, List}
use Rattle.handles.specs.declared.entry.Entry.{Entry}
use Rattle.handles.specs.declared.entry.Number.{Number}
use Rattle.handles.specs.Numbers.{IsGiven, Lends, TakesBack, was_given, is_live, is_lent}

-- Every other number is as it was: given or not, of an object or not, lent or not.
pub record OthersStay (old new : List Entry) (n : Number) : Type 0 where
  pub given : (m : Number) → m ≢ n → was_given new m ≡ was_given old m
  pub live : (m : Number) → m ≢ n → is_live new m ≡ is_live old m
  pub lent : (m : Number) → m ≢ n → is_lent new m ≡ is_lent old m

-- A number that is given was never given before.
abbrev pub NewNumberLaw : Type 0
NewNumberLaw = (old new : List Entry) (n : Number) → IsGiven old new n → was_given old n ≡ false

-- It is of an object then, which is lent, and no other number changes.
abbrev pub GivenLaw : Type 0
GivenLaw = (old new : List Entry) (n : Number) → IsGiven old new n
    → (was_given new n ≡ true) × (is_lent new n ≡ true) × OthersStay old new n

-- What is lent is of its object as before, and no other number changes.
abbrev pub LentLaw : Type 0
LentLaw = (old new : List Entry) (n : Number) → Lends old new n
    → (is_lent new n ≡ true) × OthersStay old new n

-- What is taken back is of its object as before, and is no more lent.
abbrev pub ReturnedLaw : Type 0
ReturnedLaw = (old new : List Entry) (n : Number) → TakesBack old new n true
    → (is_live new n ≡ true) × (is_lent new n ≡ false) × OthersStay old new n

-- What is taken back without its object is of none, and was given: so it is never given again.
abbrev pub FreedLaw : Type 0
FreedLaw = (old new : List Entry) (n : Number) → TakesBack old new n false
    → (is_live new n ≡ false) × (was_given new n ≡ true) × OthersStay old new n

-- What one call does with a table.
abbrev pub Step : List Entry → List Entry → Type 0
Step old new = (n : Number) × (IsGiven old new n ⊎ (Lends old new n
    ⊎ ((there : Bool) × TakesBack old new n there)))

-- A number that was freed is of no object, and stays so, whatever is done.
abbrev pub GoneLaw : Type 0
GoneLaw = (old new : List Entry) (n : Number) → Step old new → was_given old n ≡ true
    → is_live old n ≡ false → (was_given new n ≡ true) × (is_live new n ≡ false)

-- No number of the generation 0 is of an object, whatever the table has.
abbrev pub ZeroLaw : Type 0
ZeroLaw = (entries : List Entry) (n : Number) → n.generation ≡ 0 → is_live entries n ≡ false

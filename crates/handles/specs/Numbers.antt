-- Numbers of objects in a table of places: which were given, which are of an object, which are lent.
use Rattle.std.specs.Prelude.{◌≡◌, ℕ, ◌+◌, ◌-◌, ◌^◌, ◌<◌, Bool, true, false, not, nat_lt, nat_le, ◌==◌, ◌&&◌, List, length, slice_index_or, slice_set, Option, Some, None, if◌then◌else◌}
use Rattle.handles.specs.declared.entry.Entry.{Entry}
use Rattle.handles.specs.declared.entry.Number.{Number}
use Rattle.handles.specs.declared.table.HandleError.{HandleError}
use Rattle.handles.specs.declared.table.HandleError.TheVariants.{NoHandle, Busy}

-- what is known of a place of which no number was given, and of one past the table
abbrev pub nothing : Entry
nothing = record { generation = 0; is_live = false; is_lent = false }

abbrev pub place_entry : List Entry → ℕ → Entry
place_entry entries place = slice_index_or entries place nothing

-- The number was given some time.
abbrev pub was_given : List Entry → Number → Bool
was_given entries n =
    nat_le 1 n.generation && nat_le n.generation (place_entry entries n.place).generation

-- It is of an object: it is the latest of its place, and that was not freed.
abbrev pub is_numbered : ℕ → Entry → Bool
is_numbered generation entry =
    (entry.is_live && not (generation == 0)) && (entry.generation == generation)

abbrev pub is_live : List Entry → Number → Bool
is_live entries n = is_numbered n.generation (place_entry entries n.place)

-- Its object is lent to a call.
abbrev pub is_lent : List Entry → Number → Bool
is_lent entries n = is_live entries n && (place_entry entries n.place).is_lent

-- A number can be given of the place.
abbrev pub can_give : Entry → Bool
can_give entry = not entry.is_live && nat_lt entry.generation (2 ^ 64 - 1)

abbrev pub IsFull : List Entry → Type 0
IsFull entries = (place : ℕ) → place < length entries
    → can_give (place_entry entries place) ≡ false

-- what is known of the place of a number, while its object is lent, kept or gone
abbrev pub number_entry : Number → Bool → Bool → Entry
number_entry n live lent = record { generation = n.generation; is_live = live; is_lent = lent }

-- The next number of a place is given, and its object is lent.
pub record IsGiven (old new : List Entry) (n : Number) : Type 0 where
  pub within : n.place < length old
  pub free : can_give (place_entry old n.place) ≡ true
  pub next : n.generation ≡ (place_entry old n.place).generation + 1
  pub after : new ≡ slice_set old n.place (number_entry n true true)

-- The object of a number is lent, and was not.
pub record Lends (old new : List Entry) (n : Number) : Type 0 where
  pub within : n.place < length old
  pub live : is_live old n ≡ true
  pub unlent : is_lent old n ≡ false
  pub after : new ≡ slice_set old n.place (number_entry n true true)

-- It was lent and is taken back, and is still there or is gone.
pub record TakesBack (old new : List Entry) (n : Number) (there : Bool) : Type 0 where
  pub within : n.place < length old
  pub lent : is_lent old n ≡ true
  pub after : new ≡ slice_set old n.place (number_entry n there false)

-- why an object is not lent, and why it is not taken back
abbrev pub lending_fault : List Entry → Number → Option HandleError
lending_fault entries n = if is_live entries n
    then (if is_lent entries n then Some Busy else None) else Some NoHandle

abbrev pub returning_fault : List Entry → Number → Option HandleError
returning_fault entries n = if is_lent entries n then None else Some NoHandle

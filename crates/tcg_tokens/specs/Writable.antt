-- Which values and items have a writing.
use Rattle.std.specs.Prelude.{◌≡◌, ℕ, zero, suc, ◌^◌, List, length, Bool, true, false, nat_lt, ◌&&◌}
use Rattle.std.specs.List.{list_all}
use Rattle.tcg_tokens.specs.declared.limits.TheConstants.{NUMBER_BITS, LENGTH_BITS}
use Rattle.tcg_tokens.specs.Grammar.{room_inside}
use Rattle.tcg_tokens.specs.Tree.{Tree, Trees, number, bytes, list, named, empty, more}
use Rattle.tcg_tokens.specs.Message.{Message, uid_size, call, reply, end_session, begin, end}

-- is it a number of 64 bits?
abbrev pub fits_number : ℕ → Bool
fits_number n = nat_lt n (2 ^ NUMBER_BITS)

-- are they short enough for an atom?
abbrev pub fits_atom : List ℕ → Bool
fits_atom content = nat_lt (length content) (2 ^ LENGTH_BITS)

-- a name is a number or bytes
abbrev pub is_name : Tree → Bool
is_name (number n) = fits_number n
is_name (bytes b) = fits_atom b
is_name (list vs) = false
is_name (named n v) = false

-- can the value be written where room more lists and named values may be nested?
abbrev mutual
  pub is_writable_value : (room : ℕ) → Tree → Bool
  is_writable_value room (number n) = fits_number n
  is_writable_value room (bytes b) = fits_atom b
  is_writable_value zero (list vs) = false
  is_writable_value (suc room) (list vs) = are_writable_values room vs
  is_writable_value zero (named n v) = false
  is_writable_value (suc room) (named n v) = is_name n && is_writable_value room v

  pub are_writable_values : (room : ℕ) → Trees → Bool
  are_writable_values room empty = true
  are_writable_values room (more v vs) = is_writable_value room v && are_writable_values room vs

abbrev pub is_writable : Message → Bool
is_writable (call object method args status) =
    are_writable_values room_inside args && list_all fits_number status
is_writable (reply results status) =
    are_writable_values room_inside results && list_all fits_number status
is_writable end_session = true
is_writable (begin n) = fits_number n
is_writable (end n) = fits_number n

-- The shape that an item has by its type: UIDs, and a status of three numbers.
abbrev pub IsShaped : Message → Type 0
IsShaped (call object method args status) =
    (length object ≡ uid_size) × (length method ≡ uid_size) × (length status ≡ 3)
IsShaped (reply results status) = length status ≡ 3
IsShaped end_session = Unit {0}
IsShaped (begin n) = Unit {0}
IsShaped (end n) = Unit {0}

-- is each atom of bytes short enough?
abbrev mutual
  pub has_short_atoms : Tree → Bool
  has_short_atoms (number n) = true
  has_short_atoms (bytes b) = fits_atom b
  has_short_atoms (list vs) = have_short_atoms vs
  has_short_atoms (named n v) = has_short_atoms n && has_short_atoms v

  pub have_short_atoms : Trees → Bool
  have_short_atoms empty = true
  have_short_atoms (more v vs) = has_short_atoms v && have_short_atoms vs

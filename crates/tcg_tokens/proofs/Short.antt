-- What can be written has short atoms.
use Rattle.std.proofs.Common.{◌≡◌, ℕ, zero, suc, true, List, refl}
use Rattle.std.proofs.lemmas.Bool.{and_parts, and_from}
use Rattle.std.specs.Prelude.{◌&&◌}
use Rattle.std.specs.List.{list_all}
use Rattle.tcg_tokens.specs.Grammar.{room_inside}
use Rattle.tcg_tokens.specs.Tree.{Tree, Trees, number, bytes, list, named, empty, more}
use Rattle.tcg_tokens.specs.Writable.{fits_number, is_name, is_writable_value, are_writable_values, has_short_atoms, have_short_atoms}

short_name : (n : Tree) → is_name n ≡ true → has_short_atoms n ≡ true
short_name (number n) h = refl
short_name (bytes b) h = h
short_name (list vs) h = absurd cc
short_name (named n v) h = absurd cc

mutual
  short_value : (room : ℕ) (v : Tree) → is_writable_value room v ≡ true → has_short_atoms v ≡ true
  short_value room (number n) h = refl
  short_value zero (bytes b) h = h
  short_value (suc room) (bytes b) h = h
  short_value zero (list vs) h = absurd cc
  short_value (suc room) (list vs) h = short_values room vs h
  short_value zero (named n v) h = absurd cc
  short_value (suc room) (named n v) h =
      let p = and_parts (is_name n) (is_writable_value room v) h in
      and_from (has_short_atoms n) (has_short_atoms v) (short_name n p.0) (short_value room v p.1)

  short_values : (room : ℕ) (vs : Trees) → are_writable_values room vs ≡ true → have_short_atoms vs ≡ true
  short_values room empty h = refl
  short_values room (more v vs) h =
      let p = and_parts (is_writable_value room v) (are_writable_values room vs) h in
      and_from (has_short_atoms v) (have_short_atoms vs) (short_value room v p.0) (short_values room vs p.1)

-- the arguments of a call, or the results of a reply, that passes the test
pub short_args : (args : Trees) (status : List ℕ) → (are_writable_values room_inside args && list_all fits_number status) ≡ true → have_short_atoms args ≡ true
short_args args status h = short_values room_inside args (and_parts (are_writable_values room_inside args) (list_all fits_number status) h).0

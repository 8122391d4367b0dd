-- The families of objects by their numbers, and the authorities of the Locking SP (Opal SSC 2.01, section 4.3).
use Rattle.std.specs.Prelude.{ℕ, zero, suc, List, [], ◌∷◌, ◌++◌, map}
use Rattle.sp_cells.specs.declared.names.TheConstants.{RANGES, USERS, ADMINS}
use Rattle.sp_cells.specs.declared.names.Uid.{Uid}
use Rattle.sp_cells.specs.Names.{anybody, admins_class, admin_uid, users_class, user_uid}

-- the numbers from 1 to n
abbrev pub up_to : ℕ → List ℕ
up_to zero = []
up_to (suc n) = up_to n ++ suc n ∷ []

abbrev pub admins : List ℕ
admins = up_to ADMINS

abbrev pub users : List ℕ
users = up_to USERS

abbrev pub numbered_ranges : List ℕ
numbered_ranges = up_to RANGES

-- with the global range
abbrev pub all_ranges : List ℕ
all_ranges = 0 ∷ numbered_ranges

-- the authorities of the Locking SP: Anybody, the Admins and their class, the Users and theirs
unfoldable pub authorities_of_locking : List Uid
authorities_of_locking =
    anybody ∷ admins_class ∷ map admin_uid admins ++ users_class ∷ map user_uid users

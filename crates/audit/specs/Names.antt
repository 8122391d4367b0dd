-- How objects, methods and security providers are written in the audit log.
use Rattle.std.specs.Prelude.{ℕ, List, [], ◌∷◌, ◌++◌, ◌==◌, codes, if◌then◌else◌}
use Rattle.std.specs.List.{flat_map}
use Rattle.std.specs.Int.{w64, to_be_bytes}
use Rattle.hex.specs.Hex.{encode_lower}
use Rattle.sp_cells.specs.declared.names.Sp.{Sp}
use Rattle.sp_cells.specs.declared.names.Sp.TheVariants.{Admin, Locking}
use Rattle.sp_cells.specs.declared.names.Uid.{Uid}
use Rattle.sp_cells.specs.Names.{get, set, authenticate, revert, activate}

-- the two security providers of a drive (Opal SSC 2.01, sections 4.2 and 4.3)
abbrev pub sp_text : Sp → List ℕ
sp_text Admin = codes "Admin"
sp_text Locking = codes "Locking"

-- a UID as sixteen lower-case hex digits: its eight bytes, the most significant first (Core 2.01, section 2.2.1)
abbrev pub uid_text : Uid → List ℕ
uid_text uid = encode_lower (to_be_bytes w64 uid.0)

-- a method by its name, where it is one of the five that the drive knows (Core 2.01, section 5.3.3; Opal SSC 2.01,
-- section 5.1), and by its UID where it is another
abbrev pub method_text : Uid → List ℕ
method_text method =
    if method.0 == get.0 then codes "Get"
    else if method.0 == set.0 then codes "Set"
    else if method.0 == authenticate.0 then codes "Authenticate"
    else if method.0 == revert.0 then codes "Revert"
    else if method.0 == activate.0 then codes "Activate"
    else uid_text method

-- UIDs with a comma before each
abbrev pub others_text : List Uid → List ℕ
others_text others = flat_map (λ other. codes "," ++ uid_text other) others

-- UIDs with a comma between each two; `none` where there are none
abbrev pub uids_text : List Uid → List ℕ
uids_text [] = codes "none"
uids_text (first ∷ others) = uid_text first ++ others_text others

-- What a session holds in which a method was denied: its authorities, in the order of the Authority table of its SP (Opal SSC
-- 2.01, sections 4.2 and 4.3). The text is this project's:
--   because session 4097 on LockingSP holds Anybody, Users, User1
use Rattle.std.specs.Prelude.{ℕ, List, [], ◌∷◌, ◌++◌, filter, Option, None, Some, codes}
use Rattle.std.specs.List.{flat_map}
use Rattle.sp_cells.specs.declared.names.Uid.{Uid}
use Rattle.sp_cells.specs.declared.names.Sp.{Sp}
use Rattle.sp_cells.specs.Names.{authority_table}
use Rattle.sp_tables.specs.RowNames.{rows_of_table}
use Rattle.ace_eval.specs.Truth.{has}
use Rattle.reasons.specs.Called.{called_object}
use Rattle.reasons.specs.Details.{session_words}
use Rattle.reasons.specs.Rulings.{because_text}

-- those of an SP that are held
abbrev pub held_rows : Sp → List Uid → List Uid
held_rows sp held = filter (has held) (rows_of_table sp authority_table)

-- objects by their names
abbrev pub more_names_text : List Uid → List ℕ
more_names_text objects = flat_map (λ object. codes ", " ++ called_object object) objects

abbrev pub names_text : List Uid → List ℕ
names_text [] = codes "no authority"
names_text (object ∷ objects) = called_object object ++ more_names_text objects

abbrev pub holds_line : Sp → ℕ → List Uid → List ℕ
holds_line sp number held =
    because_text (session_words sp number ++ codes " holds " ++ names_text (held_rows sp held))

-- nothing of a session that does not live
abbrev pub holds_text : Sp → ℕ → Option (List Uid) → List ℕ
holds_text sp number None = []
holds_text sp number (Some held) = holds_line sp number held

-- The authorities that a session holds (Core 2.01, section 5.3).
use Rattle.std.specs.Prelude.{List, [], ◌∷◌, ◌++◌, if◌then◌else◌}
use Rattle.sp_cells.specs.declared.names.Sp.{Sp}
use Rattle.sp_cells.specs.declared.names.Uid.{Uid}
use Rattle.sp_cells.specs.Names.{anybody}
use Rattle.sp_cells.specs.ColumnNames.{class_column}
use Rattle.sp_cells.specs.Flat.{LookUp}
use Rattle.ace_eval.specs.Truth.{has}
use Rattle.sessions.specs.Known.{is_known}
use Rattle.sessions.specs.Attempts.{object_named}

-- one more, where it is an authority of the SP and not held yet
abbrev pub with_authority : Sp → Uid → List Uid → List Uid
with_authority sp authority held = if is_known sp authority
    then (if has held authority then held else held ++ authority ∷ []) else held

-- an authority and the class that its row names
abbrev pub gained : LookUp → Sp → Uid → List Uid → List Uid
gained look sp authority held = with_authority sp (object_named (look sp authority class_column))
    (with_authority sp authority held)

-- those of a new session: everyone's, and what signed it
abbrev pub first_held : LookUp → Sp → Uid → List Uid
first_held look sp signing = gained look sp signing (with_authority sp anybody [])

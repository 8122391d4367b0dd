-- What Get lists (Core 2.01, section 5.3.3.6).
use Rattle.basics.specs.declared.profile.Profile.{Profile}
use Rattle.std.specs.Prelude.{nat_le, ℕ, Bool, ◌&&◌, List, [], ◌∷◌, filter, Option, None, Some, is_some}
use Rattle.std.specs.List.{flat_map}
use Rattle.sp_cells.specs.declared.names.Uid.{Uid}
use Rattle.sp_cells.specs.declared.names.Sp.{Sp}
use Rattle.sp_cells.specs.declared.names.Column.{Column}
use Rattle.sp_cells.specs.declared.cells.Cell.{Cell}
use Rattle.sp_cells.specs.Names.{get}
use Rattle.sp_cells.specs.Flat.{LookUp}
use Rattle.tcg_tokens.specs.Tree.{Tree, number, named}
use Rattle.ace_eval.specs.Aces.{ace_of}
use Rattle.tcg_calls.specs.CellValues.{cell_tree}
use Rattle.methods.specs.Kinds.{kind_of}
use Rattle.methods.specs.Columns.{columns_of}

-- the column is among those that are asked for
abbrev pub is_asked : (first last : ℕ) → Column → Bool
is_asked first last k = nat_le first k.0 && nat_le k.0 last

-- the column is asked for, and has an ACE: one that names it and whose expression holds
abbrev pub is_listed : Profile → LookUp → Sp → Uid → (first last : ℕ) → List Uid → Column → Bool
is_listed profile look sp object first last held k =
    is_asked first last k && is_some (ace_of profile look sp object get (Some k) held)

-- a column with its value, where there is one
abbrev pub shown_column : Column → Option Cell → List (Column × Cell)
shown_column k None = []
shown_column k (Some value) = (k, value) ∷ []

-- those of these columns that are listed and exist, each with its value
unfoldable pub listed_among : Profile → LookUp → Sp → Uid → (first last : ℕ) → List Uid
    → List Column → List (Column × Cell)
listed_among profile look sp object first last held columns =
    flat_map (λ k. shown_column k (look sp object k))
    (filter (is_listed profile look sp object first last held) columns)

-- the columns of the object that Get lists, rising, each with its value
abbrev pub listed : Profile → LookUp → Sp → Uid → (first last : ℕ) → List Uid
    → List (Column × Cell)
listed profile look sp object first last held =
    listed_among profile look sp object first last held (columns_of (kind_of sp object))

-- how Get writes one
abbrev pub cell_value : Column × Cell → Tree
cell_value p = named (number p.0.0) (cell_tree p.1)

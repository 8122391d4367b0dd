-- A Get of columns as most are written: it names both ends by small numbers, and each token is as short as it can be.
use Rattle.std.specs.Prelude.{◌≡◌, ℕ, List, [], ◌∷◌, Some, Ok}
use Rattle.basics.specs.declared.profile.Profile.{Profile}
use Rattle.sp_cells.specs.declared.names.Sp.{Sp}
use Rattle.tcg_tokens.specs.Tree.{Trees, number, list, named, empty, more}
use Rattle.tcg_tokens.specs.Message.{Message, call}
use Rattle.tcg_tokens.specs.Reading.{reading}
use Rattle.tcg_calls.specs.Asks.{ask_of, uid_of}
use Rattle.tcg_calls.specs.Named.{values_of}
use Rattle.tcg_calls.specs.Parameters.{start_column_parameter, end_column_parameter}
use Rattle.tcg_calls.specs.declared.call_shapes.ask.Ask.TheVariants.{GetCells}
use Rattle.methods.specs.declared.plain.PlainGet.{PlainGet}

-- the arguments: one list, which names the first column and the last
abbrev pub columns_named : ℕ → ℕ → Trees
columns_named first last =
    more (list (more (named (number start_column_parameter) (number first))
    (more (named (number end_column_parameter) (number last)) empty))) empty

abbrev pub plain_get : PlainGet → Message
plain_get g = call g.object g.method (columns_named g.first g.last) (0 ∷ 0 ∷ 0 ∷ [])

-- the bytes are read as this call, which asks for these columns in a session of any SP
pub record IsPlainGet (tokens : List ℕ) (g : PlainGet) : Type 0 where
  pub read : reading tokens ≡ Ok (plain_get g)
  pub asks : (profile : Profile) (sp : Sp)
      → ask_of profile sp (uid_of g.object) (uid_of g.method)
      (values_of (columns_named g.first g.last)) ≡ Some (GetCells g.first g.last)

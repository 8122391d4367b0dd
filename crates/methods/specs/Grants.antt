-- Whether a call is granted (Core 2.01, section 5.3, tables AccessControl and ACE).
use Rattle.basics.specs.declared.profile.Profile.{Profile}
use Rattle.std.specs.Prelude.{◌==◌, List, [], ◌∷◌, length, map, Option, None, Some, if◌then◌else◌}
use Rattle.std.specs.Option.{option_or}
use Rattle.sp_cells.specs.declared.names.Uid.{Uid}
use Rattle.sp_cells.specs.declared.names.Sp.{Sp}
use Rattle.sp_cells.specs.declared.names.Column.{Column}
use Rattle.sp_cells.specs.Names.{col}
use Rattle.sp_cells.specs.Flat.{LookUp}
use Rattle.ace_eval.specs.Aces.{acl_at, naming, ace_of}
use Rattle.audit.specs.declared.reason.Why.{Why}
use Rattle.audit.specs.declared.reason.Why.TheVariants.{NoEntryHolds, NoAccessRow}
use Rattle.tcg_calls.specs.declared.call_shapes.ask.Ask.{Ask}
use Rattle.tcg_calls.specs.declared.call_shapes.ask.Ask.TheVariants.{SetCells}

-- why no ACE allows a method: it is not offered, or none of the ACEs that name the column holds
abbrev pub why_denied : LookUp → Sp → Uid → Uid → Option Column → Option (List Uid) → Why
why_denied look sp object method k None = NoAccessRow sp object method
why_denied look sp object method k (Some row) =
    NoEntryHolds sp object method k (record { items = naming look sp k (Some row) })

abbrev pub unless_allowed : Option Uid → Why → Option Why
unless_allowed (Some ace) why = None
unless_allowed None why = Some why

-- why a method is denied for a column, or for no column in particular; None where an ACE allows it
abbrev pub denial : Profile → LookUp → Sp → Uid → Uid → List Uid → Option Column → Option Why
denial profile look sp object method held k =
    unless_allowed (ace_of profile look sp object method k held)
    (why_denied look sp object method k (acl_at profile sp object method))

-- the columns for each of which an ACE is wanted: those that Set names; without any, and for all else, any ACE of the
-- method will do
abbrev pub wanted : Ask → List (Option Column)
wanted (SetCells ps) = if length ps == 0 then None ∷ [] else map (λ p. Some (col p.0)) ps
wanted _ = None ∷ []

-- the first that there is
abbrev pub first_some : List (Option Why) → Option Why
first_some [] = None
first_some (o ∷ os) = option_or o (first_some os)

-- why a call is denied: by the first column, in the call's order, that has no ACE; None where it is granted
abbrev pub denied : Profile → LookUp → Sp → Uid → Uid → List Uid → Ask → Option Why
denied profile look sp object method held ask =
    first_some (map (denial profile look sp object method held) (wanted ask))

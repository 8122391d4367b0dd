-- What Get lists of an object of a kind.
use Rattle.basics.specs.declared.profile.Profile.{Profile}
use Rattle.std.proofs.Common.{◌≡◌, ℕ, List, map, IfOk, Result, Option}
use Rattle.std.specs.declared.vec.Vec.{Vec}
use Rattle.std.specs.declared.alloc.AllocError.{AllocError}
use Rattle.std.specs.declared.alloc.Global.{Global}
use Rattle.sp_cells.specs.declared.names.Uid.{Uid}
use Rattle.sp_cells.specs.declared.names.Sp.{Sp}
use Rattle.sp_cells.specs.Flat.{LookUp}
use Rattle.tcg_tokens.specs.Tree.{tree}
use Rattle.tcg_tokens.specs.declared.value.Value.{Value}
use Rattle.methods.specs.declared.kinds.Kind.{Kind}
use Rattle.methods.specs.Columns.{columns_of}
use Rattle.methods.specs.Listed.{listed_among, cell_value}

-- the values are those of the listed columns of an object of this kind
abbrev pub Lists : Profile → LookUp → Sp → Uid → (first last : ℕ) → List Uid → Result (Vec Value Global) AllocError → Option Kind → Type 0
Lists profile look sp object first last held result kind = IfOk result (λ vs. map tree vs.items ≡ map cell_value (listed_among profile look sp object first last held (columns_of kind)))

-- Why a row is refused.
use Rattle.std.proofs.Common.{◌≡◌, ◌⊎◌, Option, Some, None, inl, inr}
use Rattle.sp_tables.specs.Faults.{IsFault}
use Rattle.sp_cells.specs.declared.error.SetError.{SetError}
use Rattle.sp_cells.specs.declared.error.SetError.TheVariants as faults

pub memory_or_fault : (fault : Option SetError) (e : SetError) → IsFault fault e
    → (e ≡ faults.OutOfMemory) ⊎ (fault ≡ Some e)
memory_or_fault None e is = inl is
memory_or_fault (Some f) e is = inr (cc)

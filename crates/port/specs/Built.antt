-- What contracts see of a request that was built.
use Rattle.std.specs.Prelude.{◌≡◌, ℕ, Option, None, Result, Ok, Err}
use Rattle.port_history.specs.declared.error.PortError.{PortError}
use Rattle.port_history.specs.Refusals.{IsRefusedBy}
use Rattle.port_history.specs.declared.request.Request.{Request}

pub record BuiltRequest : Type 0 where
  pub tag : ℕ
  pub request : Request

-- A call is refused exactly where this is something, and with it, or for want of memory where no other
-- refusal applies; what was built then comes back.
abbrev pub IsGivenBack : Option PortError → BuiltRequest → Result ℕ (PortError × BuiltRequest)
    → Type 0
IsGivenBack refused built (Ok number) = refused ≡ None
IsGivenBack refused built (Err back) =
    IsRefusedBy {A = ℕ} refused (Err back.0) × (back.1 ≡ built)

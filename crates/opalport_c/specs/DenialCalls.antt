-- What a call by a handle tells of a denial, as numbers. The object is as before.
use Rattle.std.specs.Prelude.{◌≡◌, ℕ, Option}
use Rattle.port.specs.Live.{line_kept}
use Rattle.library_calls.specs.declared.denied.Denied.{Denied}
use Rattle.library_calls.specs.Denied.{refused_denied, line_numbers}
use Rattle.opalport_c.specs.declared.object.Object.{Object}
use Rattle.opalport_c.specs.Calls.{ByDrive}
use Rattle.opalport_c.specs.Denials.{denied_at}
use Rattle.opalport_c.specs.HbaCalls.{ByHba}
use Rattle.opalport_c.specs.PortCalls.{ByPort}

-- what denied the last command of a drive
abbrev pub TellsDriveDenied : Option Object → Option Object → ℕ → Denied → Type 0
TellsDriveDenied had has client denied = ByDrive had has (λ e. denied ≡ refused_denied e)
    (λ old new. (denied ≡ denied_at old client) × (new ≡ old))

-- a line of the audit log of a port
abbrev pub TellsPortDenied : Option Object → Option Object → ℕ → Denied → Type 0
TellsPortDenied had has place denied = ByPort had has (λ e. denied ≡ refused_denied e)
    (λ old new. (denied ≡ line_numbers (line_kept old.port place)) × (new ≡ old))

-- what denied the command of a controller's last turn
abbrev pub TellsHbaDenied : Option Object → Option Object → Denied → Type 0
TellsHbaDenied had has denied = ByHba had has (λ e. denied ≡ refused_denied e)
    (λ old new. (denied ≡ line_numbers old.denied) × (new ≡ old))

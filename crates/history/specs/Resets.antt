-- The kinds of reset that a client can ask for.
use Rattle.std.specs.Prelude.{ℕ}
use Rattle.sp_cells.specs.Resets.{power_cycle, hardware}
use Rattle.history.specs.declared.reset.ResetKind.{ResetKind}
use Rattle.history.specs.declared.reset.ResetKind.TheVariants.{Power, Hardware}

-- The number of a kind of reset (Core 2.01, reset_type).
abbrev pub reset_kind_number : ResetKind → ℕ
reset_kind_number Power = power_cycle
reset_kind_number Hardware = hardware

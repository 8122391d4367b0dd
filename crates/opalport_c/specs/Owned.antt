-- What a place owns: what a box of its object does, or nothing.
use base.Fml.{Fml, ftrue}
use base.Stored.{Coded}
use denote.RawPtr.{Ptr}
use Rattle.std.specs.Coded.{coded_option}
use Rattle.std.specs.Prelude.{Option, Some, None}
use Rattle.std.specs.Box.Ownership.{box_owns}
use Rattle.std.specs.Global.{Global}
use Rattle.std.specs.contracts.impls.GlobalAllocator.TheImpl.{ghosts}
use Rattle.opalport_c.specs.contracts.object.Object.{the_row}

abbrev pub place_owns : Global → Ptr → Option the_row.Denot → Fml
place_owns alloc at None = ftrue
place_owns alloc at (Some object) = box_owns (ghosts.dealloc_token alloc) the_row at object

abbrev pub kept_coded : Coded (Option the_row.Denot)
kept_coded = coded_option the_row.coded

-- A controller and a port start from what their drive starts from.
use Rattle.std.proofs.Common.{List, [], refl}
use Rattle.sp_cells.specs.Config.{Config}
use Rattle.locking.specs.declared.range.RangeRow.{RangeRow}
use Rattle.history.specs.Opening.{Origin}
use Rattle.host_memory.specs.declared.width.AddressWidth.{AddressWidth}
use Rattle.drive.specs.State.{DriveState, Agrees}
use Rattle.hba.specs.History.{over_new_by, State}
use Rattle.port.specs.Live.{LiveAgrees, LiveState}
use Rattle.opalport_c.specs.Asked.{StartsAs}
use Rattle.opalport_c.specs.HbaCalls.{HbaOver, HbaStartsAs}
use Rattle.opalport_c.specs.PortCalls.{PortStartsAs}

pub hba_starts : (width : AddressWidth) (config : Config) (rows : List RangeRow) (drive : DriveState) (hba : State)
    → HbaOver width drive hba → StartsAs config rows drive → HbaStartsAs width config rows hba
hba_starts width config rows drive hba agrees starts =
    (starts.0, starts.1, agrees (over_new_by width starts.0) refl starts.2)

pub port_starts : (config : Config) (rows : List RangeRow) (drive : DriveState) (port : LiveState)
    → ((o : Origin) → Agrees drive o [] → LiveAgrees port o []) → StartsAs config rows drive → PortStartsAs config rows port
port_starts config rows drive port agrees starts = (starts.0, starts.1, agrees starts.0 starts.2)

-- After each list of operations the registers have no bits but their own.
use Rattle.std.specs.Prelude.{◌<◌, List}
use Rattle.fis.specs.Tags.{slot_count}
use Rattle.hba.specs.History.{Opened, Operation, regs_of}
use Rattle.hba.specs.Laws.{current_slot}
use Rattle.hba.specs.AccessTypes.{HasOwnBits}

-- So the laws of access types, which ask for that, hold then; a slot that is fetched is one of the 32.
abbrev pub OwnBitsLaw : Type 0
OwnBitsLaw =
    (o : Opened) (list : List Operation) → current_slot list < slot_count
    → HasOwnBits (regs_of o list)

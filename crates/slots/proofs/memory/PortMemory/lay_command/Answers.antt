-- The header is laid first, then the table.
use Rattle.std.proofs.Common.{refl}
use Rattle.slots.proofs.memory.PortMemory.lay_command.Goals as goal

pub returns-clause-exact : goal.returns-clause-exact
returns-clause-exact c = rw (c.lay-2.ensures, c.lay.ensures, c.header-header.ensures, c.table-table.ensures, c.table_place.ensures.value, c.header_place.ensures.value, c.bytes-bytes.ensures.value) refl

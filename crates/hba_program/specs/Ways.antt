-- How a host is served.
use Rattle.std.specs.Prelude.{Bool}
use Rattle.host_memory.specs.Access.{width_by}
use Rattle.hba_program.specs.declared.hba_tool.way.Way.{Way}

-- with reasons or without, and with CAP.S64A or without (AHCI 1.3.1, 3.1.1)
abbrev pub way_by : Bool → Bool → Way
way_by explains is_wide = record { explains = explains; width = width_by is_wide }

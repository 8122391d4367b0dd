-- The command slots of a port, whose numbers are the tags (AHCI 1.3.1, 3.1.1; ACS-3, NCQ feature set).
use Rattle.std.specs.Prelude.{ℕ}

-- how many there are
abbrev pub slot_count : ℕ
slot_count = 32

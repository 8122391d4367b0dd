use Rattle.port_sweeps.proofs.locked.is_right.Given as goal

abbrev pub ghosts-is_right_at-L-Ledger : goal.ghosts-is_right_at-L-Ledger
ghosts-is_right_at-L-Ledger g a = record { name = a.blank.name; parts = a.blank.parts }

abbrev pub ghosts-is_right_at-L-PortName : goal.ghosts-is_right_at-L-PortName
ghosts-is_right_at-L-PortName g a = record { passes = a.blank.parts }

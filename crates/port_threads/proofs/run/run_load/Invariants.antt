use Rattle.port_threads.proofs.run.run_load.Given as goal

abbrev pub ghosts-facts_of-L-Ledger : goal.ghosts-facts_of-L-Ledger
ghosts-facts_of-L-Ledger g a = record { name = a.blank.name; parts = a.blank.parts }

abbrev pub ghosts-facts_of-L-PortName : goal.ghosts-facts_of-L-PortName
ghosts-facts_of-L-PortName g a = record { passes = a.blank.parts }

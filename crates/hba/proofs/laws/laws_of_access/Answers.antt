-- Bits by bits.
use Rattle.hba.proofs.AccessRows.{generic_law, place_law, upper_law, command_law, state_law, follows_law, start_law}
use Rattle.hba.proofs.Reaches.{others_law}
use Rattle.hba.proofs.OwnBits.{own_law}
use Rattle.hba.proofs.laws.laws_of_access.Goals as goal

pub returns-clause-generic : goal.returns-clause-generic
returns-clause-generic c = generic_law

pub returns-clause-places : goal.returns-clause-places
returns-clause-places c = place_law

pub returns-clause-upper : goal.returns-clause-upper
returns-clause-upper c = upper_law

pub returns-clause-command : goal.returns-clause-command
returns-clause-command c = command_law

pub returns-clause-state : goal.returns-clause-state
returns-clause-state c = state_law

pub returns-clause-follows : goal.returns-clause-follows
returns-clause-follows c = follows_law

pub returns-clause-start : goal.returns-clause-start
returns-clause-start c = start_law

pub returns-clause-unreached : goal.returns-clause-unreached
returns-clause-unreached c = others_law

pub returns-clause-own : goal.returns-clause-own
returns-clause-own c = own_law

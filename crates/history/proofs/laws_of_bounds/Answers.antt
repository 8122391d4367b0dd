use Rattle.history.proofs.CellLaws.{cell_law, column_law}
use Rattle.history.proofs.TableLaws.{table_law}
use Rattle.history.proofs.ResponseLaws.{response_law}
use Rattle.history.proofs.SectorProofs.{sector_law}
use Rattle.history.proofs.laws_of_bounds.Goals as goal

pub returns-clause-cells : goal.returns-clause-cells
returns-clause-cells c = cell_law

pub returns-clause-columns : goal.returns-clause-columns
returns-clause-columns c = column_law

pub returns-clause-table : goal.returns-clause-table
returns-clause-table c = table_law

pub returns-clause-responses : goal.returns-clause-responses
returns-clause-responses c = response_law

pub returns-clause-sectors : goal.returns-clause-sectors
returns-clause-sectors c = sector_law

use Rattle.history.proofs.KeptStoreOpenings.{store_opening_law, known_rows_law}
use Rattle.history.proofs.KeptStoreDeeds.{store_law}
use Rattle.history.proofs.KeptStoreReads.{store_read_law}
use Rattle.history.proofs.laws_of_store.Goals as goal

pub returns-clause-opened : goal.returns-clause-opened
returns-clause-opened c = store_opening_law

pub returns-clause-known : goal.returns-clause-known
returns-clause-known c = known_rows_law

pub returns-clause-read : goal.returns-clause-read
returns-clause-read c = store_read_law

pub returns-clause-kept : goal.returns-clause-kept
returns-clause-kept c = store_law

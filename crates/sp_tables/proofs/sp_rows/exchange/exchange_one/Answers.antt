use Rattle.sp_tables.proofs.sp_rows.ExchangeLemmas.{exchanged_value}
use Rattle.sp_tables.proofs.sp_rows.exchange.exchange_one.Goals as goal

pub returns-clause-old : goal.returns-clause-old
returns-clause-old c = rw (← c.requires) (exchanged_value _ _ _ _ c.swap.ensures.found c.swap.ensures.old c.swap.ensures.unchanged)

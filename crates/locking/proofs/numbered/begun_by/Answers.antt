use Rattle.std.proofs.Common.{leb, leb-true, leb-false, arith, rules}
use Rattle.std.proofs.lemmas.List.Sorted.{IsPartitionPoint-from_clause, IsPartitionedBy-leb}
use Rattle.locking.proofs.numbered.begun_by.Goals as goal

pub returns-clause-before : goal.returns-clause-before
returns-clause-before c =
    let parted = IsPartitionedBy-leb (λ s. s.sector) _ c.args.sector c.requires in
    let point = IsPartitionPoint-from_clause (λ s. leb s.sector c.args.sector) _ _ c.partition_point.ensures.partitioned parted (λ a r q k. search rules) in
    λ k d h. leb-true _ _ (point.0 k d (omega arith) h)

pub returns-clause-behind : goal.returns-clause-behind
returns-clause-behind c =
    let parted = IsPartitionedBy-leb (λ s. s.sector) _ c.args.sector c.requires in
    let point = IsPartitionPoint-from_clause (λ s. leb s.sector c.args.sector) _ _ c.partition_point.ensures.partitioned parted (λ a r q k. search rules) in
    λ k d at lt. leb-false _ _ (point.1 k d at lt)

use Rattle.std.proofs.Common.{leb, rules, arith}
use Rattle.std.proofs.lemmas.Bool.{leb-true, leb-false}
use Rattle.std.proofs.lemmas.List.Sorted.{IsPartitionPoint-from_clause, IsPartitionedBy-leb}
use Rattle.quic_sets.specs.Runs.{Run}
use Rattle.quic_sets.proofs.RunLists.{ends_rise}
use Rattle.quic_sets.proofs.range_set.runs.ending_by.Goals as goal

pub returns-clause-front : goal.returns-clause-front
returns-clause-front c =
    let parted = IsPartitionedBy-leb (λ (r : Run). r.end) c.args.runs.now c.args.n (ends_rise c.args.runs.now c.requires) in
    let point = IsPartitionPoint-from_clause (λ (r : Run). leb r.end c.args.n) _ _ c.partition_point.ensures.partitioned parted (λ a r q k. search rules) in
    λ k d h. leb-true _ _ (point.0 k d (omega arith) h)

pub returns-clause-back : goal.returns-clause-back
returns-clause-back c =
    let parted = IsPartitionedBy-leb (λ (r : Run). r.end) c.args.runs.now c.args.n (ends_rise c.args.runs.now c.requires) in
    let point = IsPartitionPoint-from_clause (λ (r : Run). leb r.end c.args.n) _ _ c.partition_point.ensures.partitioned parted (λ a r q k. search rules) in
    λ k d le h. leb-false _ _ (point.1 k d le h)

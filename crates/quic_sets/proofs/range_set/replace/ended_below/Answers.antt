use Rattle.std.proofs.Common.{rules, ltb}
use Rattle.std.proofs.lemmas.List.Sorted.{IsPartitionPoint-from_clause, IsPartitionedBy-ltb}
use Rattle.quic_sets.specs.Runs.{Run}
use Rattle.quic_sets.proofs.JoinSteps.{ends_rise, count_at}
use Rattle.quic_sets.proofs.range_set.replace.ended_below.Goals as goal

pub returns-clause-value : goal.returns-clause-value
returns-clause-value c =
    let runs = c.args.runs.now in
    let parted = IsPartitionedBy-ltb (λ (r : Run). r.end) runs c.args.a (ends_rise 0 runs (c.requires)) in
    let point = IsPartitionPoint-from_clause (λ (r : Run). ltb r.end c.args.a) runs c.partition_point.result c.partition_point.ensures.partitioned parted (λ a r q k. search rules) in
    count_at (λ (r : Run). ltb r.end c.args.a) runs c.partition_point.result c.partition_point.ensures.bound point

use Rattle.std.proofs.Common.{◌≡◌, rules, leb, drop, length, slice_range, sym, ap, subst, arith, ◌∙◌}
use Rattle.std.proofs.lemmas.Grind.{common_steps}
use Rattle.std.proofs.lemmas.List.Sorted.{IsPartitionPoint-from_clause, IsPartitionedBy-leb}
use Rattle.quic_sets.specs.Runs.{Run, AreRuns}
use Rattle.quic_sets.specs.Pieces.{count_started}
use Rattle.quic_sets.proofs.JoinSteps.{starts_rise, count_at, runs_behind}
use Rattle.quic_sets.proofs.range_set.replace.started.Goals as goal

pub returns-clause-value : goal.returns-clause-value
returns-clause-value c =
    let all = c.args.runs.now in
    let rest = slice_range all c.args.front (length all) in
    let same : rest ≡ drop c.args.front all = grind (arith, common_steps) in
    let runs : AreRuns rest = subst AreRuns (sym same) (runs_behind c.args.front 0 all c.requires.runs) in
    let parted = IsPartitionedBy-leb (λ (r : Run). r.start) rest c.args.b (starts_rise 0 rest runs) in
    let point = IsPartitionPoint-from_clause (λ (r : Run). leb r.start c.args.b) rest c.partition_point.result c.partition_point.ensures.partitioned parted (λ a r q k. search rules) in
    count_at (λ (r : Run). leb r.start c.args.b) rest c.partition_point.result c.partition_point.ensures.bound point ∙ ap (count_started c.args.b) same

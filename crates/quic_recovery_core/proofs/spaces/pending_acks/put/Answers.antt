use Rattle.std.proofs.Common.{◌+◌, ◌^◌, ◌<◌, ◌≤◌, List, length, sym, subst, arith}
use Rattle.quic_sets.specs.Runs.{Run}
use Rattle.quic_recovery_core.specs.PendingAcks.{IsKept}
use Rattle.quic_recovery_core.specs.declared.spaces.pending_acks.TheConstants.{MAX_ACK_RUNS}
use Rattle.quic_recovery_core.proofs.AckRunSteps.{added_is, but_least_is, put_many, put_few, at_most_kept}
use Rattle.quic_recovery_core.proofs.spaces.pending_acks.put.Goals as goal

pub returns-then-len-gt-MAX_ACK_RUNS-clause-ok : goal.returns-then-len-gt-MAX_ACK_RUNS-clause-ok
returns-then-len-gt-MAX_ACK_RUNS-clause-ok c =
    let e = c.in_ok-insert_one.ensures in
    let all = added_is c.args.ranges.now c.insert_one.new.self c.args.number c.requires.kept.runs e.runs e.ok in
    let many : MAX_ACK_RUNS < length c.insert_one.new.self = omega arith in
    put_many c.args.ranges.now c.insert_one.new.self c.pop_min.new.self c.args.number all (but_least_is c.insert_one.new.self c.pop_min.new.self c.pop_min.result c.pop_min.ensures.taken) many

pub returns-then-len-gt-MAX_ACK_RUNS-clause-kept : goal.returns-then-len-gt-MAX_ACK_RUNS-clause-kept
returns-then-len-gt-MAX_ACK_RUNS-clause-kept c =
    let small : c.args.number + 1 < 2 ^ 64 = omega arith in
    subst (λ (rs : List Run). IsKept rs) (sym (returns-then-len-gt-MAX_ACK_RUNS-clause-ok c)) (at_most_kept c.args.ranges.now c.args.number c.requires.kept small)

pub returns-else-len-gt-MAX_ACK_RUNS-clause-ok : goal.returns-else-len-gt-MAX_ACK_RUNS-clause-ok
returns-else-len-gt-MAX_ACK_RUNS-clause-ok c =
    let e = c.in_ok-insert_one.ensures in
    let all = added_is c.args.ranges.now c.insert_one.new.self c.args.number c.requires.kept.runs e.runs e.ok in
    let few : length c.insert_one.new.self ≤ MAX_ACK_RUNS = omega arith in
    put_few c.args.ranges.now c.insert_one.new.self c.args.number all few

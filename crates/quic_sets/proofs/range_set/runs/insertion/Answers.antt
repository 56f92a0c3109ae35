use Rattle.std.proofs.Common.{◌<◌, inl, inr, rules, arith}
use Rattle.quic_sets.proofs.RunEdits.{at, inserts, covered, merges, GoesPast}
use Rattle.quic_sets.proofs.range_set.runs.insertion.Goals as goal
use Rattle.quic_sets.proofs.range_set.runs.insertion.Goals.{else-first-x-via-then-first-x+else-x-first, else-first-x-via-else-first-x}

pub returns-then-places : goal.returns-then-places
returns-then-places c =
    let x = c.args.x.now in
    let met = rw c.saturating_sub.ensures at c.met-places.ensures in
    inserts c.args.runs.now x.start x.end c.met-places.result.start c.met-places.result.end c.requires c.if-x.false met c.if-places.true

pub returns-then-x-first : goal.returns-then-x-first
returns-then-x-first c =
    let x = c.args.x.now in
    covered c.args.runs.now x.start x.end c.met-places.result.start (search rules) c.if-first-x.true c.if-x-first.true

pub returns : goal.returns
returns c =
    let x = c.args.x.now in
    let rs = c.args.runs.now in
    let i = c.met-places.result.start in
    let t = c.met-places.result.end in
    let met = rw c.saturating_sub.ensures at c.met-places.ensures in
    let past : GoesPast x.start x.end (at rs i) = elim c.else-first-x.branch [
      | else-first-x-via-then-first-x+else-x-first w ↦ inr w.if-x-first.false
      | else-first-x-via-else-first-x w ↦ inl w.if-first-x.false
    ] in
    let some : i < t = omega (arith, met.ascend, c.if-places.false) in
    rw (c.min-start.ensures, c.max-end.ensures) (merges rs x.start x.end i t c.requires c.if-x.false met some past)

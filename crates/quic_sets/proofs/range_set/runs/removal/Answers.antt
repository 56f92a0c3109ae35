use Rattle.std.proofs.Common.{◌<◌, arith}
use Rattle.quic_sets.proofs.RunEdits.{Cuts, removes, leaves_first, leaves_last, leaves_both, splits_at, none_dropped}
use Rattle.quic_sets.proofs.range_set.runs.removal.Goals as goal

pub returns-then-places : goal.returns-then-places
returns-then-places c =
    let x = c.args.x.now in
    none_dropped c.args.runs.now x.start x.end c.met-places.result.start c.if-x.false (rw (← c.if-places.true) at c.met-places.ensures)

pub returns-in-false-false : goal.returns-in-false-false
returns-in-false-false c =
    let x = c.args.x.now in
    let rs = c.args.runs.now in
    let i = c.met-places.result.start in
    let t = c.met-places.result.end in
    let some : i < t = omega (arith, c.met-places.ensures.ascend, c.if-places.false) in
    let cut : Cuts rs x.start x.end i t = record { runs = c.requires; filled = c.if-x.false; some = some; met = c.met-places.ensures } in
    removes rs x.start x.end i t cut c.in-false-false.is-0 c.in-false-false.is-1

pub returns-in-true-false : goal.returns-in-true-false
returns-in-true-false c =
    let x = c.args.x.now in
    let rs = c.args.runs.now in
    let i = c.met-places.result.start in
    let t = c.met-places.result.end in
    let some : i < t = omega (arith, c.met-places.ensures.ascend, c.if-places.false) in
    let cut : Cuts rs x.start x.end i t = record { runs = c.requires; filled = c.if-x.false; some = some; met = c.met-places.ensures } in
    leaves_first rs x.start x.end i t cut c.in-true-false.is-0 c.in-true-false.is-1

pub returns-in-false-true : goal.returns-in-false-true
returns-in-false-true c =
    let x = c.args.x.now in
    let rs = c.args.runs.now in
    let i = c.met-places.result.start in
    let t = c.met-places.result.end in
    let some : i < t = omega (arith, c.met-places.ensures.ascend, c.if-places.false) in
    let cut : Cuts rs x.start x.end i t = record { runs = c.requires; filled = c.if-x.false; some = some; met = c.met-places.ensures } in
    leaves_last rs x.start x.end i t cut c.in-false-true.is-0 c.in-false-true.is-1

pub returns-in-true-true : goal.returns-in-true-true
returns-in-true-true c =
    let x = c.args.x.now in
    let rs = c.args.runs.now in
    let i = c.met-places.result.start in
    let t = c.met-places.result.end in
    let some : i < t = omega (arith, c.met-places.ensures.ascend, c.if-places.false) in
    let cut : Cuts rs x.start x.end i t = record { runs = c.requires; filled = c.if-x.false; some = some; met = c.met-places.ensures } in
    splits_at rs x.start x.end i t cut (omega (arith, c.if-places-eq1.true)) c.in-true-true.is-0 c.in-true-true.is-1

pub returns-in-true-true-2 : goal.returns-in-true-true-2
returns-in-true-true-2 c =
    let x = c.args.x.now in
    let rs = c.args.runs.now in
    let i = c.met-places.result.start in
    let t = c.met-places.result.end in
    let some : i < t = omega (arith, c.met-places.ensures.ascend, c.if-places.false) in
    let cut : Cuts rs x.start x.end i t = record { runs = c.requires; filled = c.if-x.false; some = some; met = c.met-places.ensures } in
    leaves_both rs x.start x.end i t cut (omega (arith, c.if-places-eq1.false)) c.in-true-true.is-0 c.in-true-true.is-1

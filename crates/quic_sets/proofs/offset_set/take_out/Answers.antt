use Rattle.quic_sets.proofs.Offsets.OffsetSet.{Emptied, take_none, take_past, take_front}
use Rattle.quic_sets.proofs.offset_set.take_out.Goals as goal

pub returns-then-first-end-clause-loose : goal.returns-then-first-end-clause-loose
returns-then-first-end-clause-loose c =
    let a = c.args in
    let d = c.drop_inside.ensures in
    let m : Emptied a.start a.end a.spans.now.entries c.drop_inside.new.spans.entries = record { loose = d.loose; cut = d.cut; out = d.out; touch = d.touch; none_inside = d.none_inside } in
    (take_front a.start a.end c.in-Some.first c.in-Some.last a.spans.now.entries c.drop_inside.new.spans.entries c.set_start.new.spans.entries m c.in-Some.ensures c.if-first-end.true c.set_start.ensures).0

pub returns-then-first-end-clause-offsets : goal.returns-then-first-end-clause-offsets
returns-then-first-end-clause-offsets c =
    let a = c.args in
    let d = c.drop_inside.ensures in
    let m : Emptied a.start a.end a.spans.now.entries c.drop_inside.new.spans.entries = record { loose = d.loose; cut = d.cut; out = d.out; touch = d.touch; none_inside = d.none_inside } in
    (take_front a.start a.end c.in-Some.first c.in-Some.last a.spans.now.entries c.drop_inside.new.spans.entries c.set_start.new.spans.entries m c.in-Some.ensures c.if-first-end.true c.set_start.ensures).1

pub returns-then-first-end-clause-touch : goal.returns-then-first-end-clause-touch
returns-then-first-end-clause-touch c =
    let a = c.args in
    let d = c.drop_inside.ensures in
    let m : Emptied a.start a.end a.spans.now.entries c.drop_inside.new.spans.entries = record { loose = d.loose; cut = d.cut; out = d.out; touch = d.touch; none_inside = d.none_inside } in
    (take_front a.start a.end c.in-Some.first c.in-Some.last a.spans.now.entries c.drop_inside.new.spans.entries c.set_start.new.spans.entries m c.in-Some.ensures c.if-first-end.true c.set_start.ensures).2

pub returns-else-first-end-clause-offsets : goal.returns-else-first-end-clause-offsets
returns-else-first-end-clause-offsets c =
    let a = c.args in
    let d = c.drop_inside.ensures in
    let m : Emptied a.start a.end a.spans.now.entries c.drop_inside.new.spans.entries = record { loose = d.loose; cut = d.cut; out = d.out; touch = d.touch; none_inside = d.none_inside } in
    take_past a.start a.end c.in-Some.first c.in-Some.last a.spans.now.entries c.drop_inside.new.spans.entries m c.in-Some.ensures c.if-first-end.false

pub returns-in_default-clause-offsets : goal.returns-in_default-clause-offsets
returns-in_default-clause-offsets c =
    let a = c.args in
    let d = c.drop_inside.ensures in
    let m : Emptied a.start a.end a.spans.now.entries c.drop_inside.new.spans.entries = record { loose = d.loose; cut = d.cut; out = d.out; touch = d.touch; none_inside = d.none_inside } in
    take_none a.start a.end a.spans.now.entries c.drop_inside.new.spans.entries m c.in_default.ensures

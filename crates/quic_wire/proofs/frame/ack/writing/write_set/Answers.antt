use Rattle.std.proofs.Common.{arith}
use Rattle.std.proofs.lemmas.Result.{err_from_is_err_and}
use Rattle.quic_wire.specs.AckGrammar.{range_numbers, ecn_numbers, ack_numbers}
use Rattle.quic_wire.specs.AckSet.{ranges_of_set, ack_of_set}
use Rattle.quic_wire.specs.AckView.{ecn_view}
use Rattle.quic_wire.specs.Writing.{written}
use Rattle.quic_wire.proofs.AckSet.{highest, head_of, set_numbers_are}
use Rattle.quic_wire.proofs.AckWritten.{begins_behind, last_ok, last_err, last_spare, first_spare, second_spare, type_small}
use Rattle.quic_wire.proofs.frame.ack.writing.write_set.Goals as goal

pub overflow_sub-largest : goal.overflow_sub-largest
overflow_sub-largest g c =
    let some = (highest c.args.runs.now c.in-Some.lower.now c.in-Some.last.now c.in-Some.ensures.cases.0 c.requires.runs c.requires.some c.requires.small).some in
    omega (arith, some)

pub overflow_sub-head : goal.overflow_sub-head
overflow_sub-head g c =
    let some = (highest c.args.runs.now c.in-Some.lower.now c.in-Some.last.now c.in-Some.ensures.cases.0 c.requires.runs c.requires.some c.requires.small).some in
    omega (arith, some)

pub write_numbers-requires : goal.write_numbers-requires
write_numbers-requires g c =
    let h = highest c.args.runs.now c.in-Some.lower.now c.in-Some.last.now c.in-Some.ensures.cases.0 c.requires.runs c.requires.some c.requires.small in
    let small = h.small in
    (type_small c.type_of_ack.result (ecn_view c.args.ecn) c.type_of_ack.ensures, (h.small, (c.requires.delay, (h.few, (omega (arith, small), tt)))))

pub returns-in_err-write_numbers-clause-spare : goal.returns-in_err-write_numbers-clause-spare
returns-in_err-write_numbers-clause-spare g c =
    let p = err_from_is_err_and c.from_residual.result c.from_residual.ensures.1 in
    let is = set_numbers_are c.args.delay c.args.runs.now c.in-Some.lower.now c.in-Some.last.now (ecn_view c.args.ecn) c.type_of_ack.result c.in-Some.ensures.cases.0 c.type_of_ack.ensures in
    rw p.1 (first_spare (g.B.BufMut.spare c.args.buf.now) (ack_numbers (ack_of_set c.args.delay c.args.runs.now (ecn_view c.args.ecn)) (ranges_of_set c.args.runs.now)) (head_of c.type_of_ack.result c.args.delay c.in-Some.lower.now c.in-Some.last.now) (range_numbers c.in-Some.last.now.start (ranges_of_set c.in-Some.lower.now)) (ecn_numbers (ecn_view c.args.ecn)) is c.in_err-write_numbers.ensures.spare)

pub write_runs-requires-clause-runs : goal.write_runs-requires-clause-runs
write_runs-requires-clause-runs g c = (highest c.args.runs.now c.in-Some.lower.now c.in-Some.last.now c.in-Some.ensures.cases.0 c.requires.runs c.requires.some c.requires.small).runs

pub write_runs-requires-clause-down : goal.write_runs-requires-clause-down
write_runs-requires-clause-down g c = (highest c.args.runs.now c.in-Some.lower.now c.in-Some.last.now c.in-Some.ensures.cases.0 c.requires.runs c.requires.some c.requires.small).down

pub write_runs-requires-clause-small : goal.write_runs-requires-clause-small
write_runs-requires-clause-small g c =
    let h = highest c.args.runs.now c.in-Some.lower.now c.in-Some.last.now c.in-Some.ensures.cases.0 c.requires.runs c.requires.some c.requires.small in
    let small = h.small in
    let some = h.some in
    omega (arith, small, some)

pub returns-in_err-write_runs-clause-err : goal.returns-in_err-write_runs-clause-err
returns-in_err-write_runs-clause-err g c =
    let p = err_from_is_err_and c.from_residual-in_err-write_runs.result c.from_residual-in_err-write_runs.ensures.1 in
    rw p.1 (begins_behind (g.B.BufMut.written c.args.buf.now) (g.B.BufMut.written c.write_numbers.new.buf) (written (head_of c.type_of_ack.result c.args.delay c.in-Some.lower.now c.in-Some.last.now)) (g.B.BufMut.written c.write_runs.new.buf) c.in_ok-write_numbers.ensures.ok c.in_err-write_runs.ensures.err)

pub returns-in_err-write_runs-clause-spare : goal.returns-in_err-write_runs-clause-spare
returns-in_err-write_runs-clause-spare g c =
    let p = err_from_is_err_and c.from_residual-in_err-write_runs.result c.from_residual-in_err-write_runs.ensures.1 in
    let is = set_numbers_are c.args.delay c.args.runs.now c.in-Some.lower.now c.in-Some.last.now (ecn_view c.args.ecn) c.type_of_ack.result c.in-Some.ensures.cases.0 c.type_of_ack.ensures in
    rw p.1 (second_spare (g.B.BufMut.spare c.args.buf.now) (g.B.BufMut.spare c.write_numbers.new.buf) (ack_numbers (ack_of_set c.args.delay c.args.runs.now (ecn_view c.args.ecn)) (ranges_of_set c.args.runs.now)) (head_of c.type_of_ack.result c.args.delay c.in-Some.lower.now c.in-Some.last.now) (range_numbers c.in-Some.last.now.start (ranges_of_set c.in-Some.lower.now)) (ecn_numbers (ecn_view c.args.ecn)) is c.in_ok-write_numbers.ensures.spare c.in_err-write_runs.ensures.spare)

pub returns-clause-ok : goal.returns-clause-ok
returns-clause-ok g c =
    let w = g.B.BufMut.written in
    let is = set_numbers_are c.args.delay c.args.runs.now c.in-Some.lower.now c.in-Some.last.now (ecn_view c.args.ecn) c.type_of_ack.result c.in-Some.ensures.cases.0 c.type_of_ack.ensures in
    last_ok c.write_ecn.result (w c.args.buf.now) (w c.write_numbers.new.buf) (w c.write_runs.new.buf) (w c.write_ecn.new.buf) (ack_numbers (ack_of_set c.args.delay c.args.runs.now (ecn_view c.args.ecn)) (ranges_of_set c.args.runs.now)) (head_of c.type_of_ack.result c.args.delay c.in-Some.lower.now c.in-Some.last.now) (range_numbers c.in-Some.last.now.start (ranges_of_set c.in-Some.lower.now)) (ecn_numbers (ecn_view c.args.ecn)) is c.in_ok-write_numbers.ensures.ok c.in_ok-write_runs.ensures.ok c.write_ecn.ensures.ok

pub returns-clause-err : goal.returns-clause-err
returns-clause-err g c =
    let w = g.B.BufMut.written in
    last_err c.write_ecn.result (w c.args.buf.now) (w c.write_numbers.new.buf) (w c.write_runs.new.buf) (w c.write_ecn.new.buf) (written (head_of c.type_of_ack.result c.args.delay c.in-Some.lower.now c.in-Some.last.now)) (written (range_numbers c.in-Some.last.now.start (ranges_of_set c.in-Some.lower.now))) c.in_ok-write_numbers.ensures.ok c.in_ok-write_runs.ensures.ok c.write_ecn.ensures.err

pub returns-clause-spare : goal.returns-clause-spare
returns-clause-spare g c =
    let s = g.B.BufMut.spare in
    let is = set_numbers_are c.args.delay c.args.runs.now c.in-Some.lower.now c.in-Some.last.now (ecn_view c.args.ecn) c.type_of_ack.result c.in-Some.ensures.cases.0 c.type_of_ack.ensures in
    last_spare c.write_ecn.result (s c.args.buf.now) (s c.write_numbers.new.buf) (s c.write_runs.new.buf) (s c.write_ecn.new.buf) (ack_numbers (ack_of_set c.args.delay c.args.runs.now (ecn_view c.args.ecn)) (ranges_of_set c.args.runs.now)) (head_of c.type_of_ack.result c.args.delay c.in-Some.lower.now c.in-Some.last.now) (range_numbers c.in-Some.last.now.start (ranges_of_set c.in-Some.lower.now)) (ecn_numbers (ecn_view c.args.ecn)) is c.in_ok-write_numbers.ensures.spare c.in_ok-write_runs.ensures.spare c.write_ecn.ensures.spare

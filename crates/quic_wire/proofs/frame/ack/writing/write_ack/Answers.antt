use Rattle.std.proofs.Common.{◌-◌, ◌∷◌, [], length, ap, ◌∙◌, sym, refl, arith}
use Rattle.std.proofs.lemmas.Result.{err_from_is_err_and}
use Rattle.std.specs.Range.{range_inclusive_end}
use Rattle.quic_wire.specs.AckGrammar.{range_numbers, ecn_numbers, ack_numbers}
use Rattle.quic_wire.specs.AckView.{ecn_view}
use Rattle.quic_wire.specs.Writing.{written}
use Rattle.quic_wire.proofs.AckSet.{below_few}
use Rattle.quic_wire.proofs.AckWritten.{begins_behind, last_ok, last_err, last_spare, first_spare, second_spare, type_small, first_left, ack_numbers_are}
use Rattle.quic_wire.proofs.frame.ack.writing.write_ack.Goals as goal

pub write_numbers-requires : goal.write_numbers-requires
write_numbers-requires g c =
    let e = sym c.iter-ranges.ensures ∙ first_left c.iter-ranges.result c.next.new.self c.in-Some.first c.start-low.result.now (range_inclusive_end c.in-Some.first) c.in-Some.ensures.steps c.start-low.ensures refl in
    let down = rw e at c.requires.3 in
    let few = below_few c.next.new.self c.start-low.result.now down.2 in
    let count = c.count.ensures.value in
    let number = ap length e in
    let large = c.requires.0 in
    let slow = c.requires.1 in
    let top = down.1 in
    let some = down.0 in
    let largest = c.largest-largest.ensures.value in
    let delay = c.delay.ensures in
    (type_small c.type_of_ack.result (ecn_view c.ecn-ecn.result) c.type_of_ack.ensures, (omega (arith, large, largest), (omega (arith, slow, delay), (omega (arith, few, count, number, large, top, some), (omega (arith, large, largest), tt)))))

pub returns-in_err-write_numbers-clause-spare : goal.returns-in_err-write_numbers-clause-spare
returns-in_err-write_numbers-clause-spare g c =
    let p = err_from_is_err_and c.from_residual.result c.from_residual.ensures.1 in
    let e = sym c.iter-ranges.ensures ∙ first_left c.iter-ranges.result c.next.new.self c.in-Some.first c.start-low.result.now (range_inclusive_end c.in-Some.first) c.in-Some.ensures.steps c.start-low.ensures refl in
    let is = ack_numbers_are c.args.ack.now c.next.new.self c.start-low.result.now (range_inclusive_end c.in-Some.first) c.type_of_ack.result c.largest-largest.result c.delay.result c.count.result (ecn_view c.ecn-ecn.result) e (c.requires.3) c.type_of_ack.ensures c.largest-largest.ensures.value c.delay.ensures c.count.ensures.value c.ecn-ecn.ensures in
    rw p.1 (first_spare (g.B.BufMut.spare c.args.buf.now) (ack_numbers c.args.ack.now c.args.ack.now.ranges) (c.type_of_ack.result ∷ c.largest-largest.result ∷ c.delay.result ∷ c.count.result ∷ (c.largest-largest.result - c.start-low.result.now) ∷ []) (range_numbers c.start-low.result.now c.next.new.self) (ecn_numbers (ecn_view c.ecn-ecn.result)) is c.in_err-write_numbers.ensures.spare)

pub write_ranges-requires-clause-down : goal.write_ranges-requires-clause-down
write_ranges-requires-clause-down g c =
    let e = sym c.iter-ranges.ensures ∙ first_left c.iter-ranges.result c.next.new.self c.in-Some.first c.start-low.result.now (range_inclusive_end c.in-Some.first) c.in-Some.ensures.steps c.start-low.ensures refl in
    (rw e at c.requires.3).2

pub returns-in_err-write_ranges-clause-err : goal.returns-in_err-write_ranges-clause-err
returns-in_err-write_ranges-clause-err g c =
    let p = err_from_is_err_and c.from_residual-in_err-write_ranges.result c.from_residual-in_err-write_ranges.ensures.1 in
    rw p.1 (begins_behind (g.B.BufMut.written c.args.buf.now) (g.B.BufMut.written c.write_numbers.new.buf) (written (c.type_of_ack.result ∷ c.largest-largest.result ∷ c.delay.result ∷ c.count.result ∷ (c.largest-largest.result - c.start-low.result.now) ∷ [])) (g.B.BufMut.written c.write_ranges.new.buf) c.in_ok-write_numbers.ensures.ok c.in_err-write_ranges.ensures.err)

pub returns-in_err-write_ranges-clause-spare : goal.returns-in_err-write_ranges-clause-spare
returns-in_err-write_ranges-clause-spare g c =
    let p = err_from_is_err_and c.from_residual-in_err-write_ranges.result c.from_residual-in_err-write_ranges.ensures.1 in
    let e = sym c.iter-ranges.ensures ∙ first_left c.iter-ranges.result c.next.new.self c.in-Some.first c.start-low.result.now (range_inclusive_end c.in-Some.first) c.in-Some.ensures.steps c.start-low.ensures refl in
    let is = ack_numbers_are c.args.ack.now c.next.new.self c.start-low.result.now (range_inclusive_end c.in-Some.first) c.type_of_ack.result c.largest-largest.result c.delay.result c.count.result (ecn_view c.ecn-ecn.result) e (c.requires.3) c.type_of_ack.ensures c.largest-largest.ensures.value c.delay.ensures c.count.ensures.value c.ecn-ecn.ensures in
    rw p.1 (second_spare (g.B.BufMut.spare c.args.buf.now) (g.B.BufMut.spare c.write_numbers.new.buf) (ack_numbers c.args.ack.now c.args.ack.now.ranges) (c.type_of_ack.result ∷ c.largest-largest.result ∷ c.delay.result ∷ c.count.result ∷ (c.largest-largest.result - c.start-low.result.now) ∷ []) (range_numbers c.start-low.result.now c.next.new.self) (ecn_numbers (ecn_view c.ecn-ecn.result)) is c.in_ok-write_numbers.ensures.spare c.in_err-write_ranges.ensures.spare)

pub returns-clause-ok : goal.returns-clause-ok
returns-clause-ok g c =
    let w = g.B.BufMut.written in
    let e = sym c.iter-ranges.ensures ∙ first_left c.iter-ranges.result c.next.new.self c.in-Some.first c.start-low.result.now (range_inclusive_end c.in-Some.first) c.in-Some.ensures.steps c.start-low.ensures refl in
    let is = ack_numbers_are c.args.ack.now c.next.new.self c.start-low.result.now (range_inclusive_end c.in-Some.first) c.type_of_ack.result c.largest-largest.result c.delay.result c.count.result (ecn_view c.ecn-ecn.result) e (c.requires.3) c.type_of_ack.ensures c.largest-largest.ensures.value c.delay.ensures c.count.ensures.value c.ecn-ecn.ensures in
    last_ok c.write_ecn.result (w c.args.buf.now) (w c.write_numbers.new.buf) (w c.write_ranges.new.buf) (w c.write_ecn.new.buf) (ack_numbers c.args.ack.now c.args.ack.now.ranges) (c.type_of_ack.result ∷ c.largest-largest.result ∷ c.delay.result ∷ c.count.result ∷ (c.largest-largest.result - c.start-low.result.now) ∷ []) (range_numbers c.start-low.result.now c.next.new.self) (ecn_numbers (ecn_view c.ecn-ecn.result)) is c.in_ok-write_numbers.ensures.ok c.in_ok-write_ranges.ensures.ok c.write_ecn.ensures.ok

pub returns-clause-err : goal.returns-clause-err
returns-clause-err g c =
    let w = g.B.BufMut.written in
    last_err c.write_ecn.result (w c.args.buf.now) (w c.write_numbers.new.buf) (w c.write_ranges.new.buf) (w c.write_ecn.new.buf) (written (c.type_of_ack.result ∷ c.largest-largest.result ∷ c.delay.result ∷ c.count.result ∷ (c.largest-largest.result - c.start-low.result.now) ∷ [])) (written (range_numbers c.start-low.result.now c.next.new.self)) c.in_ok-write_numbers.ensures.ok c.in_ok-write_ranges.ensures.ok c.write_ecn.ensures.err

pub returns-clause-spare : goal.returns-clause-spare
returns-clause-spare g c =
    let s = g.B.BufMut.spare in
    let e = sym c.iter-ranges.ensures ∙ first_left c.iter-ranges.result c.next.new.self c.in-Some.first c.start-low.result.now (range_inclusive_end c.in-Some.first) c.in-Some.ensures.steps c.start-low.ensures refl in
    let is = ack_numbers_are c.args.ack.now c.next.new.self c.start-low.result.now (range_inclusive_end c.in-Some.first) c.type_of_ack.result c.largest-largest.result c.delay.result c.count.result (ecn_view c.ecn-ecn.result) e (c.requires.3) c.type_of_ack.ensures c.largest-largest.ensures.value c.delay.ensures c.count.ensures.value c.ecn-ecn.ensures in
    last_spare c.write_ecn.result (s c.args.buf.now) (s c.write_numbers.new.buf) (s c.write_ranges.new.buf) (s c.write_ecn.new.buf) (ack_numbers c.args.ack.now c.args.ack.now.ranges) (c.type_of_ack.result ∷ c.largest-largest.result ∷ c.delay.result ∷ c.count.result ∷ (c.largest-largest.result - c.start-low.result.now) ∷ []) (range_numbers c.start-low.result.now c.next.new.self) (ecn_numbers (ecn_view c.ecn-ecn.result)) is c.in_ok-write_numbers.ensures.spare c.in_ok-write_ranges.ensures.spare c.write_ecn.ensures.spare

use Rattle.std.proofs.Common.{◌-◌, ◌<◌, ◌∷◌, [], length, ap, ◌∙◌, sym, refl, arith}
use Rattle.std.specs.Range.{range_inclusive_end}
use Rattle.quic_wire.specs.AckGrammar.{has_ecn, range_numbers, ecn_numbers, ack_numbers}
use Rattle.quic_wire.specs.AckView.{ecn_view}
use Rattle.quic_wire.specs.FrameTypes.{is_ack, type_of}
use Rattle.quic_wire.proofs.AckSet.{below_few}
use Rattle.quic_wire.proofs.AckWritten.{first_left, ack_numbers_are, front_size}
use Rattle.quic_wire.proofs.frame.ack.size.size_of_ack.Goals as goal

pub size_of_numbers-requires-clause-form : goal.size_of_numbers-requires-clause-form
size_of_numbers-requires-clause-form c =
    let e = sym c.iter-ranges.ensures ∙ first_left c.iter-ranges.result c.next.new.self c.in-Some.first c.start-low.result.now (range_inclusive_end c.in-Some.first) c.in-Some.ensures.steps c.start-low.ensures refl in
    let down = rw e at c.requires.3 in
    let few = below_few c.next.new.self c.start-low.result.now down.2 in
    let count = c.count.ensures.value in
    let number = ap length e in
    let large = c.requires.0 in
    let slow = c.requires.1 in
    let top = down.1 in
    let some = down.0 in
    let largest = c.largest-largest.ensures.value in
    let delay = c.delay.ensures in
    (omega (arith, large, largest), (omega (arith, slow, delay), (omega (arith, few, count, number, large, top, some), (omega (arith, large, largest), tt))))

pub size_of_ranges-requires-clause-down : goal.size_of_ranges-requires-clause-down
size_of_ranges-requires-clause-down c =
    let e = sym c.iter-ranges.ensures ∙ first_left c.iter-ranges.result c.next.new.self c.in-Some.first c.start-low.result.now (range_inclusive_end c.in-Some.first) c.in-Some.ensures.steps c.start-low.ensures refl in
    (rw e at c.requires.3).2

pub size_of_ranges-requires-clause-room : goal.size_of_ranges-requires-clause-room
size_of_ranges-requires-clause-room c =
    let e = sym c.iter-ranges.ensures ∙ first_left c.iter-ranges.result c.next.new.self c.in-Some.first c.start-low.result.now (range_inclusive_end c.in-Some.first) c.in-Some.ensures.steps c.start-low.ensures refl in
    c.count.ensures.room (c.start-low.result.now, range_inclusive_end c.in-Some.first) c.next.new.self e

-- the further ranges take fewer bytes than an integer counts
few_bytes : (c : goal.After-size_of_ranges) → c.size_of_ranges.result < 9223372036854775808
few_bytes c =
    let e = sym c.iter-ranges.ensures ∙ first_left c.iter-ranges.result c.next.new.self c.in-Some.first c.start-low.result.now (range_inclusive_end c.in-Some.first) c.in-Some.ensures.steps c.start-low.ensures refl in
    let room = c.count.ensures.room (c.start-low.result.now, range_inclusive_end c.in-Some.first) c.next.new.self e in
    let size = c.size_of_ranges.ensures in
    omega (arith, room, size)

pub overflow_add-result-2 : goal.overflow_add-result-2
overflow_add-result-2 c =
    let few = few_bytes c in
    let head = c.size_of_numbers.ensures.bound in
    omega (arith, few, head)

pub overflow_add-result-3 : goal.overflow_add-result-3
overflow_add-result-3 c =
    let e = sym c.iter-ranges.ensures ∙ first_left c.iter-ranges.result c.next.new.self c.in-Some.first c.start-low.result.now (range_inclusive_end c.in-Some.first) c.in-Some.ensures.steps c.start-low.ensures refl in
    let room = c.count.ensures.room (c.start-low.result.now, range_inclusive_end c.in-Some.first) c.next.new.self e in
    let size = c.size_of_ranges.ensures in
    let head = c.size_of_numbers.ensures.bound in
    let tail = c.size_of_ecn.ensures.bound in
    omega (arith, room, size, head, tail)

pub returns : goal.returns
returns c =
    let ecn = ecn_view c.ecn.result in
    let type = type_of (is_ack (has_ecn ecn)) in
    let e = sym c.iter-ranges.ensures ∙ first_left c.iter-ranges.result c.next.new.self c.in-Some.first c.start-low.result.now (range_inclusive_end c.in-Some.first) c.in-Some.ensures.steps c.start-low.ensures refl in
    let is = ack_numbers_are c.args.ack.now c.next.new.self c.start-low.result.now (range_inclusive_end c.in-Some.first) type c.largest-largest.result c.delay.result c.count.result ecn e c.requires.3 refl c.largest-largest.ensures.value c.delay.ensures c.count.ensures.value c.ecn.ensures in
    let size = front_size type (c.largest-largest.result ∷ c.delay.result ∷ c.count.result ∷ (c.largest-largest.result - c.start-low.result.now) ∷ [])
    (range_numbers c.start-low.result.now c.next.new.self) (ecn_numbers ecn) (ack_numbers c.args.ack.now c.args.ack.now.ranges) ecn is refl in
    let a = c.size_of_numbers.ensures.size in
    let b = c.size_of_ranges.ensures in
    let d = c.size_of_ecn.ensures.size in
    omega (arith, size, a, b, d)

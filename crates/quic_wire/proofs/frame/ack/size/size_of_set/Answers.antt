use Rattle.std.proofs.Common.{◌-◌, ◌∷◌, [], length, refl, arith}
use Rattle.quic_wire.specs.AckGrammar.{has_ecn, range_numbers, ecn_numbers, ack_numbers}
use Rattle.quic_wire.specs.AckSet.{ranges_of_set, ack_of_set}
use Rattle.quic_wire.specs.AckView.{ecn_view}
use Rattle.quic_wire.specs.FrameTypes.{is_ack, type_of}
use Rattle.quic_wire.proofs.AckSet.{highest, set_numbers_are}
use Rattle.quic_wire.proofs.AckWritten.{front_size}
use Rattle.quic_wire.proofs.frame.ack.size.size_of_set.Goals as goal

pub overflow_sub-largest : goal.overflow_sub-largest
overflow_sub-largest c =
    let some = (highest c.args.runs.now c.in-Some.lower.now c.in-Some.last.now c.in-Some.ensures.cases.0 c.requires.runs c.requires.some c.requires.small).some in
    omega (arith, some)

pub overflow_sub-head : goal.overflow_sub-head
overflow_sub-head c =
    let some = (highest c.args.runs.now c.in-Some.lower.now c.in-Some.last.now c.in-Some.ensures.cases.0 c.requires.runs c.requires.some c.requires.small).some in
    omega (arith, some)

pub size_of_numbers-requires-clause-form : goal.size_of_numbers-requires-clause-form
size_of_numbers-requires-clause-form c =
    let h = highest c.args.runs.now c.in-Some.lower.now c.in-Some.last.now c.in-Some.ensures.cases.0 c.requires.runs c.requires.some c.requires.small in
    let small = h.small in
    (h.small, (c.requires.delay, (h.few, (omega (arith, small), tt))))

pub size_of_runs-requires-clause-runs : goal.size_of_runs-requires-clause-runs
size_of_runs-requires-clause-runs c = (highest c.args.runs.now c.in-Some.lower.now c.in-Some.last.now c.in-Some.ensures.cases.0 c.requires.runs c.requires.some c.requires.small).runs

pub size_of_runs-requires-clause-down : goal.size_of_runs-requires-clause-down
size_of_runs-requires-clause-down c = (highest c.args.runs.now c.in-Some.lower.now c.in-Some.last.now c.in-Some.ensures.cases.0 c.requires.runs c.requires.some c.requires.small).down

pub size_of_runs-requires-clause-small : goal.size_of_runs-requires-clause-small
size_of_runs-requires-clause-small c =
    let h = highest c.args.runs.now c.in-Some.lower.now c.in-Some.last.now c.in-Some.ensures.cases.0 c.requires.runs c.requires.some c.requires.small in
    let small = h.small in
    let some = h.some in
    omega (arith, small, some)

pub returns-clause-size : goal.returns-clause-size
returns-clause-size c =
    let ecn = ecn_view c.args.ecn in
    let is = set_numbers_are c.args.delay c.args.runs.now c.in-Some.lower.now c.in-Some.last.now ecn (type_of (is_ack (has_ecn ecn))) c.in-Some.ensures.cases.0 refl in
    let size = front_size (type_of (is_ack (has_ecn ecn))) ((c.in-Some.last.now.end - 1) ∷ c.args.delay ∷ length c.in-Some.lower.now ∷ (c.in-Some.last.now.end - 1 - c.in-Some.last.now.start) ∷ [])
    (range_numbers c.in-Some.last.now.start (ranges_of_set c.in-Some.lower.now)) (ecn_numbers ecn) (ack_numbers (ack_of_set c.args.delay c.args.runs.now ecn) (ranges_of_set c.args.runs.now)) ecn is refl in
    let a = c.size_of_numbers.ensures.size in
    let b = c.size_of_runs.ensures.size in
    let e = c.size_of_ecn.ensures.size in
    omega (arith, size, a, b, e)

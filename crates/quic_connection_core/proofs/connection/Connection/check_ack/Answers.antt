use Rattle.std.proofs.Common.{◌<◌, not, refl, sym, ap, ◌∙◌, arith}
use Rattle.std.specs.Range.{range_inclusive_start, range_inclusive_end}
use Rattle.quic_wire.proofs.AckWritten.{first_left, none_left}
use Rattle.quic_wire_core.specs.TransportError.{plain_error, protocol_violation}
use Rattle.quic_spaces.specs.Filter.{names_skipped}
use Rattle.quic_connection_core.proofs.Ungiven.{skips, is_refused, is_taken, skips_here, skips_behind, one_named, none_named}
use Rattle.quic_connection_core.proofs.connection.Connection.check_ack.Goals as goal

pub returns-then-is_err-clause-err : goal.returns-then-is_err-clause-err
returns-then-is_err-clause-err g c =
    let e = c.args.self.now.end in
    let a = c.args.frame.now in
    let low = range_inclusive_start c.in-Some.range in
    let high = range_inclusive_end c.in-Some.range in
    let seen = ap (λ w. names_skipped w.end.filter.last low high) c.self.view_is in
    let has = sym seen ∙ is_refused c.check_ack.result (names_skipped c.self.inside.filter.last low high) c.check_ack.ensures.ok (c.is_err.ensures.negation ∙ ap not c.if-is_err.true) in
    let first = first_left c.loop-range.range-iterator c.next-in-loop-range.new.self c.in-Some.range low high c.in-Some.ensures.steps refl refl in
    (one_named e.numbers.next a.largest (skips e.filter.last a.ranges) (skips_here e.filter.last low high c.loop-range.range-iterator c.next-in-loop-range.new.self a.ranges first c.loop-range.invariant has), c.violation-then-is_err.ensures)

pub loop-range-preserved : goal.loop-range-preserved
loop-range-preserved g c =
    let e = c.args.self.now.end in
    let a = c.args.frame.now in
    let low = range_inclusive_start c.in-Some.range in
    let high = range_inclusive_end c.in-Some.range in
    let seen = ap (λ w. names_skipped w.end.filter.last low high) c.self.view_is in
    let hasnt = sym seen ∙ is_taken c.check_ack.result (plain_error protocol_violation) (names_skipped c.self.inside.filter.last low high) c.check_ack.ensures.err (c.is_err.ensures.negation ∙ ap not c.if-is_err.false) in
    let first = first_left c.loop-range.range-iterator c.next-in-loop-range.new.self c.in-Some.range low high c.in-Some.ensures.steps refl refl in
    skips_behind e.filter.last low high c.loop-range.range-iterator c.next-in-loop-range.new.self a.ranges first c.loop-range.invariant hasnt

pub returns-clause-ok : goal.returns-clause-ok
returns-clause-ok g c =
    let e = c.args.self.now.end in
    let a = c.args.frame.now in
    let next = c.next.ensures.value ∙ ap (λ w. w.end.numbers.next) c.self.view_is in
    let below : a.largest < e.numbers.next = omega (arith, c.if-next-largest.false, next, c.largest.ensures.value) in
    let none = sym c.loop-range.invariant ∙ ap (skips e.filter.last) (none_left c.loop-range.range-iterator c.in-None.ensures.steps.0) in
    none_named e.numbers.next a.largest (skips e.filter.last a.ranges) below none

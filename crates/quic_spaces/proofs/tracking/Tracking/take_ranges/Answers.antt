use Rattle.std.proofs.Common.{◌≡◌, ◌++◌, [], None, Some, reverse, subst, sym, ap, ◌∙◌, refl}
use Rattle.std.specs.Option.{option_map}
use Rattle.std.specs.Range.{range_inclusive_start}
use Rattle.quic_wire.proofs.AckWritten.{first_left, none_left}
use Rattle.quic_sent_packets.specs.Packets.{TrackedPacket, Ascends, oldest, from}
use Rattle.quic_streams_parts.specs.Table.{Table}
use Rattle.quic_spaces.specs.Tracking.{Tracking}
use Rattle.quic_spaces.specs.Named.{outside, among, apart_from, Descends}
use Rattle.quic_spaces.proofs.NamedLaws.{ranges_step, ranges_left, below_descends, among_none, apart_from_none, first_holds, has_no_first, outside_holds, outside_ascends, stops_at}
use Rattle.quic_spaces.proofs.tracking.Tracking.take_ranges.Goals as goal

pub loop-range-init : goal.loop-range-init
loop-range-init c =
    let es : Table TrackedPacket = c.args.self.now.packets in
    let e = c.into_iter-range-iterator.ensures.into_iter_gives in
    let up = subst (λ (t : Tracking). Ascends t.packets) c.self.view_is c.first_from.ensures.ascends in
    let first = subst (λ (t : Tracking). Some c.in-Some.first ≡ option_map (λ p. p.0) (oldest (from 0 t.packets))) c.self.view_is c.in-Some.ensures.value in
    record {
      down = subst Descends (sym e) c.requires;
      left = ap (λ rs. apart_from rs es) e;
      up = up;
      from = first_holds es c.in-Some.first up first;
      others = refl;
      taken = ap (λ rs. among rs es ++ reverse c.args.taken.now.items) e;
    }

pub loop-range-preserved : goal.loop-range-preserved
loop-range-preserved c =
    let all = c.loop-range.range-iterator in
    let rs = c.next.new.self in
    let es : Table TrackedPacket = c.loop-range.self.packets in
    let low = c.start.result.now in
    let high = c.end-in-loop-range.result.now in
    let e = first_left all rs c.in-Some-range.range low high c.in-Some-range.ensures.steps c.start.ensures c.end-in-loop-range.ensures in
    let i = c.loop-range.invariant in
    let took = c.in_ok-take_range.ensures in
    let left = ap (λ (t : Tracking). t.packets) took.left in
    record {
      down = below_descends low rs (subst Descends e i.down).1;
      left = ranges_left low high all rs es c.take_range.new.self.packets _ e left i.left;
      up = outside_ascends low high es c.take_range.new.self.packets left i.up;
      from = outside_holds low high c.in-Some.first es c.take_range.new.self.packets left i.from;
      others = took.left ∙ ap (λ (t : Tracking). record t { packets = outside low high es }) i.others ∙ ap (λ (l : Table TrackedPacket). record c.args.self.now { packets = l }) (sym left);
      taken = ranges_step low high all rs es c.take_range.new.self.packets c.loop-range.taken.items c.take_range.new.taken.items _ e i.up i.down left took.taken i.taken;
    }

pub returns-in_default-clause-left : goal.returns-in_default-clause-left
returns-in_default-clause-left c =
    let first = subst (λ (t : Tracking). None ≡ option_map (λ p. p.0) (oldest (from 0 t.packets))) c.self.view_is c.in_default.ensures.value in
    let none = has_no_first c.args.self.now.packets first in
    ap (λ (l : Table TrackedPacket). record c.args.self.now { packets = l }) (none ∙ sym (ap (apart_from c.args.ranges) none))

pub returns-in_default-clause-taken : goal.returns-in_default-clause-taken
returns-in_default-clause-taken c =
    let first = subst (λ (t : Tracking). None ≡ option_map (λ p. p.0) (oldest (from 0 t.packets))) c.self.view_is c.in_default.ensures.value in
    let none = has_no_first c.args.self.now.packets first in
    sym (ap (λ (l : Table TrackedPacket). among c.args.ranges l ++ reverse c.args.taken.now.items) none)

pub returns-then-end-first-clause-left : goal.returns-then-end-first-clause-left
returns-then-end-first-clause-left c =
    let all = c.loop-range.range-iterator in
    let es : Table TrackedPacket = c.loop-range.self.packets in
    let low = range_inclusive_start c.in-Some-range.range in
    let high = c.end.result.now in
    let e = first_left all c.next.new.self c.in-Some-range.range low high c.in-Some-range.ensures.steps refl c.end.ensures in
    let i = c.loop-range.invariant in
    let s = stops_at low high c.in-Some.first c.next.new.self all es e i.down c.if-end-first.true i.from in
    i.others ∙ ap (λ (l : Table TrackedPacket). record c.args.self.now { packets = l }) (sym s.1 ∙ i.left)

pub returns-then-end-first-clause-taken : goal.returns-then-end-first-clause-taken
returns-then-end-first-clause-taken c =
    let all = c.loop-range.range-iterator in
    let es : Table TrackedPacket = c.loop-range.self.packets in
    let low = range_inclusive_start c.in-Some-range.range in
    let high = c.end.result.now in
    let e = first_left all c.next.new.self c.in-Some-range.range low high c.in-Some-range.ensures.steps refl c.end.ensures in
    let i = c.loop-range.invariant in
    let s = stops_at low high c.in-Some.first c.next.new.self all es e i.down c.if-end-first.true i.from in
    sym (ap (λ (l : Table TrackedPacket). l ++ reverse c.loop-range.taken.items) s.0) ∙ i.taken

pub returns-clause-left : goal.returns-clause-left
returns-clause-left c =
    let e = none_left c.loop-range.range-iterator c.in-None.ensures.steps.0 in
    let i = c.loop-range.invariant in
    let left = sym (ap (λ rs. apart_from rs c.loop-range.self.packets) e ∙ apart_from_none c.loop-range.self.packets) ∙ i.left in
    i.others ∙ ap (λ (l : Table TrackedPacket). record c.args.self.now { packets = l }) left

pub returns-clause-taken : goal.returns-clause-taken
returns-clause-taken c =
    let e = none_left c.loop-range.range-iterator c.in-None.ensures.steps.0 in
    let none = ap (λ rs. among rs c.loop-range.self.packets) e ∙ among_none c.loop-range.self.packets in
    sym (ap (λ (l : Table TrackedPacket). l ++ reverse c.loop-range.taken.items) none) ∙ c.loop-range.invariant.taken

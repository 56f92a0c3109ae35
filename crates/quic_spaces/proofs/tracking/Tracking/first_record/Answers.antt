use Rattle.std.proofs.Common.{◌≡◌, ℕ, ◌-◌, Option, ◌≤◌, ◌^◌, Some, subst, sym, ap, ◌∙◌, arith, true, false}
use Rattle.std.specs.Option.{option_map}
use Rattle.quic_sent_packets.specs.Packets.{TrackedPacket, Ascends, oldest, from}
use Rattle.quic_streams_parts.specs.Table.{at}
use Rattle.quic_spaces.specs.Tracking.{Tracking}
use Rattle.quic_spaces.specs.Records.{has_record}
use Rattle.quic_spaces.proofs.Tails.{LieBelow}
use Rattle.quic_spaces.proofs.RecordLaws.{first_from_zero, passes_empty, finds_there, finds_record, ends_last, steps_up}
use Rattle.quic_spaces.proofs.tracking.Tracking.first_record.Goals as goal

pub loop-number-init : goal.loop-number-init
loop-number-init c = first_from_zero c.args.streams.now c.args.self.now.packets

pub loop-number-preserved : goal.loop-number-preserved
loop-number-preserved c =
    let up = subst (λ (t : Tracking). Ascends t.packets) c.self.view_is c.first_from.ensures.ascends in
    let first = subst (λ (t : Tracking). Some c.in-Some.number ≡ option_map (λ p. p.0) (oldest (from c.loop-number.low t.packets))) c.self.view_is c.in-Some.ensures.value in
    let none : has_record c.args.streams.now (at c.args.self.now.packets c.in-Some.number) ≡ false = cc in
    passes_empty c.args.streams.now c.loop-number.low c.in-Some.number c.args.self.now.packets up first none ∙ c.loop-number.invariant

pub returns-then-has_record-clause-value : goal.returns-then-has_record-clause-value
returns-then-has_record-clause-value c =
    let up = subst (λ (t : Tracking). Ascends t.packets) c.self.view_is c.first_from.ensures.ascends in
    let first = subst (λ (t : Tracking). Some c.in-Some.number ≡ option_map (λ p. p.0) (oldest (from c.loop-number.low t.packets))) c.self.view_is c.in-Some.ensures.value in
    let has : has_record c.args.streams.now (at c.args.self.now.packets c.in-Some.number) ≡ true = cc in
    finds_record c.args.streams.now c.loop-number.low c.in-Some.number c.args.self.now.packets up first has c.loop-number.invariant

pub returns-then-has_record-clause-there : goal.returns-then-has_record-clause-there
returns-then-has_record-clause-there c =
    let up = subst (λ (t : Tracking). Ascends t.packets) c.self.view_is c.first_from.ensures.ascends in
    let first = subst (λ (t : Tracking). Some c.in-Some.number ≡ option_map (λ p. p.0) (oldest (from c.loop-number.low t.packets))) c.self.view_is c.in-Some.ensures.value in
    let has : has_record c.args.streams.now (at c.args.self.now.packets c.in-Some.number) ≡ true = cc in
    finds_there c.args.streams.now c.loop-number.low c.in-Some.number c.args.self.now.packets up first has c.loop-number.invariant

pub returns-then-number-clause-value : goal.returns-then-number-clause-value
returns-then-number-clause-value c =
    let up = subst (λ (t : Tracking). Ascends t.packets) c.self.view_is c.first_from.ensures.ascends in
    let first = subst (λ (t : Tracking). Some c.in-Some.number ≡ option_map (λ p. p.0) (oldest (from c.loop-number.low t.packets))) c.self.view_is c.in-Some.ensures.value in
    let none : has_record c.args.streams.now (at c.args.self.now.packets c.in-Some.number) ≡ false = cc in
    let below = subst (λ (t : Tracking). LieBelow (2 ^ 64) t.packets) c.self.view_is c.self.invariant.1 in
    let last : c.in-Some.number ≡ 2 ^ 64 - 1 = c.if-number.true in
    let ends = ends_last c.args.streams.now c.in-Some.number c.args.self.now.packets (omega (arith, last)) (omega (arith, last)) below in
    let passes = passes_empty c.args.streams.now c.loop-number.low c.in-Some.number c.args.self.now.packets up first none in
    ap (λ (o : Option (ℕ × TrackedPacket)). option_map (λ p. p.0) o) (sym ends ∙ passes ∙ c.loop-number.invariant)

pub loop-number-smaller : goal.loop-number-smaller
loop-number-smaller c =
    let up = subst (λ (t : Tracking). Ascends t.packets) c.self.view_is c.first_from.ensures.ascends in
    let first = subst (λ (t : Tracking). Some c.in-Some.number ≡ option_map (λ p. p.0) (oldest (from c.loop-number.low t.packets))) c.self.view_is c.in-Some.ensures.value in
    let above : c.loop-number.low ≤ c.in-Some.number = steps_up c.loop-number.low c.in-Some.number c.args.self.now.packets up first in
    omega (arith, above)

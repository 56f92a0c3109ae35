use Rattle.std.proofs.Common.{rules, ◌≡◌, ◌-◌, ◌∷◌, ◌++◌, [], ℕ, Bool, length, map, ap, sym, refl, ◌∙◌, arith}
use Rattle.quic_wire.specs.AckReading.{ranges_at}
use Rattle.quic_wire.specs.AckView.{ranges_of, front, iter_view, whole, bounds_of}
use Rattle.quic_wire.proofs.AckSteps.{ranges_none, ranges_first, ranges_some}
use Rattle.quic_wire.proofs.frame.ack.AckIterIterator.next.Goals as goal

pub returns-then-self-eq0-clause-steps : goal.returns-then-self-eq0-clause-steps
returns-then-self-eq0-clause-steps c =
    let v : iter_view c.self.inside ≡ [] = rw (c.in_default.is, c.if-self-eq0.true) (ranges_none c.self.inside.low c.self.inside.blocks.now) in
    let e : c.args.self.now ≡ [] = sym c.self.view_is ∙ v in (ap (map whole) e, ap (map whole) e)

pub unreachable-requires : goal.unreachable-requires
unreachable-requires c = ranges_some c.self.inside.count c.self.inside.low c.self.inside.blocks.now c.in_default-range_of.field-0 (omega arith) c.self.invariant c.in_default-range_of.ensures

pub invariant_of-self-2 : goal.invariant_of-self-2
invariant_of-self-2 c = (ranges_first c.self.inside.count c.self.inside.low c.self.inside.blocks.now c.in-Ok.range c.range_of.new.bytes.now (omega arith) c.self.invariant c.in-Ok.ensures).1

-- what was read comes first of what was left
stepped : (c : goal.After-new-2) → c.args.self.now ≡ c.in-Ok.range ∷ (front c.self.inside.first ++ ranges_of (ranges_at (c.self.inside.count - 1) c.in-Ok.range.0 c.range_of.new.bytes.now))
stepped c =
    let step = (ranges_first c.self.inside.count c.self.inside.low c.self.inside.blocks.now c.in-Ok.range c.range_of.new.bytes.now (omega arith) c.self.invariant c.in-Ok.ensures).0 in
    let v : iter_view c.self.inside ≡ ranges_of (ranges_at c.self.inside.count c.self.inside.low c.self.inside.blocks.now) = rw c.in_default.is refl in
    rw c.in_default.is (sym c.self.view_is ∙ v ∙ step)

pub returns-clause-steps : goal.returns-clause-steps
returns-clause-steps c =
    let others = map whole (front c.self.inside.first ++ ranges_of (ranges_at (c.self.inside.count - 1) c.in-Ok.range.0 c.range_of.new.bytes.now)) in
    let same : whole c.in-Ok.range ≡ bounds_of c.new-2.result = rw (c.new-2.ensures.start, c.new-2.ensures.end, c.new-2.ensures.exhausted) refl in
    ap (map whole) (stepped c) ∙ ap (λ (b : ℕ × ℕ × Bool). b ∷ others) same

pub returns-clause-goes : goal.returns-clause-goes
returns-clause-goes c = let shorter = ap length (stepped c) in search rules

use Rattle.std.proofs.Common.{◌≡◌, None, Some, subst, sym, ◌∙◌, arith}
use Rattle.std.specs.Option.{option_map}
use Rattle.quic_sent_packets.specs.Packets.{Ascends, newest, within}
use Rattle.quic_spaces.specs.Tracking.{Tracking}
use Rattle.quic_spaces.specs.Named.{asks_at}
use Rattle.quic_spaces.proofs.AskingLaws.{last_asks, asks_last, asks_none, asks_before, asks_nowhere}
use Rattle.quic_spaces.proofs.tracking.Tracking.asks_within.Goals as goal

pub returns-then-is_asking : goal.returns-then-is_asking
returns-then-is_asking c =
    let up = subst (λ (t : Tracking). Ascends t.packets) c.self.view_is c.last_within.ensures.ascends in
    let last = subst (λ (t : Tracking). Some c.in-Some.number ≡ option_map (λ p. p.0) (newest (within c.args.low c.loop-number.last t.packets))) c.self.view_is c.in-Some.ensures.value in
    let s = last_asks c.args.low c.loop-number.last c.in-Some.number c.args.self.now.packets up last in
    let asks = subst (λ (t : Tracking). c.is_asking.result ≡ asks_at t.packets c.in-Some.number) c.self.view_is c.is_asking.ensures in
    sym (c.loop-number.invariant ∙ asks_last c.args.low c.loop-number.last c.in-Some.number c.args.self.now.packets s (sym asks ∙ c.if-is_asking.true))

pub returns-then-number-low : goal.returns-then-number-low
returns-then-number-low c =
    let up = subst (λ (t : Tracking). Ascends t.packets) c.self.view_is c.last_within.ensures.ascends in
    let last = subst (λ (t : Tracking). Some c.in-Some.number ≡ option_map (λ p. p.0) (newest (within c.args.low c.loop-number.last t.packets))) c.self.view_is c.in-Some.ensures.value in
    let s = last_asks c.args.low c.loop-number.last c.in-Some.number c.args.self.now.packets up last in
    let asks = subst (λ (t : Tracking). c.is_asking.result ≡ asks_at t.packets c.in-Some.number) c.self.view_is c.is_asking.ensures in
    sym (c.loop-number.invariant ∙ asks_none c.args.low c.loop-number.last c.in-Some.number c.args.self.now.packets s (sym asks ∙ c.if-is_asking.false) c.if-number-low.true)

pub overflow_sub-last : goal.overflow_sub-last
overflow_sub-last c =
    let up = subst (λ (t : Tracking). Ascends t.packets) c.self.view_is c.last_within.ensures.ascends in
    let last = subst (λ (t : Tracking). Some c.in-Some.number ≡ option_map (λ p. p.0) (newest (within c.args.low c.loop-number.last t.packets))) c.self.view_is c.in-Some.ensures.value in
    let s = last_asks c.args.low c.loop-number.last c.in-Some.number c.args.self.now.packets up last in
    omega arith

pub loop-number-smaller : goal.loop-number-smaller
loop-number-smaller c =
    let up = subst (λ (t : Tracking). Ascends t.packets) c.self.view_is c.last_within.ensures.ascends in
    let last = subst (λ (t : Tracking). Some c.in-Some.number ≡ option_map (λ p. p.0) (newest (within c.args.low c.loop-number.last t.packets))) c.self.view_is c.in-Some.ensures.value in
    let s = last_asks c.args.low c.loop-number.last c.in-Some.number c.args.self.now.packets up last in
    omega arith

pub loop-number-preserved : goal.loop-number-preserved
loop-number-preserved c =
    let up = subst (λ (t : Tracking). Ascends t.packets) c.self.view_is c.last_within.ensures.ascends in
    let last = subst (λ (t : Tracking). Some c.in-Some.number ≡ option_map (λ p. p.0) (newest (within c.args.low c.loop-number.last t.packets))) c.self.view_is c.in-Some.ensures.value in
    let s = last_asks c.args.low c.loop-number.last c.in-Some.number c.args.self.now.packets up last in
    let asks = subst (λ (t : Tracking). c.is_asking.result ≡ asks_at t.packets c.in-Some.number) c.self.view_is c.is_asking.ensures in
    c.loop-number.invariant ∙ asks_before c.args.low c.loop-number.last c.in-Some.number c.args.self.now.packets s (sym asks ∙ c.if-is_asking.false) (omega arith)

pub returns : goal.returns
returns c =
    let none = subst (λ (t : Tracking). None ≡ option_map (λ p. p.0) (newest (within c.args.low c.loop-number.last t.packets))) c.self.view_is c.in_default.ensures.value in
    sym (c.loop-number.invariant ∙ asks_nowhere (within c.args.low c.loop-number.last c.args.self.now.packets) none)

use Rattle.std.proofs.Common.{◌≡◌, Some, subst}
use Rattle.std.specs.Option.{option_map}
use Rattle.quic_sent_packets.specs.Packets.{Ascends, oldest, from}
use Rattle.quic_spaces.specs.Tracking.{Tracking}
use Rattle.quic_spaces.proofs.WalkLaws.{steps_to, none_below}
use Rattle.quic_spaces.proofs.tracking.Tracking.next_below.Goals as goal

pub returns-then-number-high-clause-some : goal.returns-then-number-high-clause-some
returns-then-number-high-clause-some c =
    let up = subst (λ (t : Tracking). Ascends t.packets) c.self.view_is c.first_from.ensures.ascends in
    let first = subst (λ (t : Tracking). Some c.in_ok-number.number ≡ option_map (λ p. p.0) (oldest (from c.args.low t.packets))) c.self.view_is c.in_ok-number.ensures.value in
    steps_to c.args.low c.args.high c.in_ok-number.number c.args.self.now.packets up first c.if-number-high.true

pub returns-else-number-high-clause-none : goal.returns-else-number-high-clause-none
returns-else-number-high-clause-none c =
    let up = subst (λ (t : Tracking). Ascends t.packets) c.self.view_is c.first_from.ensures.ascends in
    let first = subst (λ (t : Tracking). Some c.in_ok-number.number ≡ option_map (λ p. p.0) (oldest (from c.args.low t.packets))) c.self.view_is c.in_ok-number.ensures.value in
    none_below c.args.low c.args.high c.in_ok-number.number c.args.self.now.packets up first c.if-number-high.false

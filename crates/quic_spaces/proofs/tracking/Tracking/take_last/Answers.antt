use Rattle.std.proofs.Common.{◌≡◌, ap, subst}
use Rattle.quic_sent_packets.specs.Packets.{Ascends, newest, within}
use Rattle.std.proofs.Common.{Some}
use Rattle.std.specs.Option.{option_map}
use Rattle.quic_spaces.specs.Tracking.{Tracking}
use Rattle.quic_spaces.proofs.NamedLaws.{is_last, last_within, last_outside, none_last}
use Rattle.quic_spaces.proofs.tracking.Tracking.take_last.Goals as goal

pub returns-clause-taken : goal.returns-clause-taken
returns-clause-taken c =
    let up = subst (λ (t : Tracking). Ascends t.packets) c.self.view_is c.last_within.ensures.ascends in
    let last = subst (λ (t : Tracking). Some c.in_ok-number.number ≡ option_map (λ p. p.0) (newest (within c.args.low c.args.high t.packets))) c.self.view_is c.in_ok-number.ensures.value in
    let is = is_last c.args.low c.args.high c.in_ok-number.number c.args.self.now.packets up last in
    last_within c.args.low c.args.high c.in_ok-number.number c.args.self.now.packets c.take.new.self.packets c.in_ok-packet.packet is c.in_ok-packet.ensures.taken (ap (λ (t : Tracking). t.packets) c.take.ensures.left)

pub returns-clause-outside : goal.returns-clause-outside
returns-clause-outside c =
    let up = subst (λ (t : Tracking). Ascends t.packets) c.self.view_is c.last_within.ensures.ascends in
    let last = subst (λ (t : Tracking). Some c.in_ok-number.number ≡ option_map (λ p. p.0) (newest (within c.args.low c.args.high t.packets))) c.self.view_is c.in_ok-number.ensures.value in
    let is = is_last c.args.low c.args.high c.in_ok-number.number c.args.self.now.packets up last in
    last_outside c.args.low c.args.high c.in_ok-number.number c.args.self.now.packets c.take.new.self.packets is (ap (λ (t : Tracking). t.packets) c.take.ensures.left)

pub returns-in_err-packet-clause-none : goal.returns-in_err-packet-clause-none
returns-in_err-packet-clause-none c =
    let up = subst (λ (t : Tracking). Ascends t.packets) c.self.view_is c.last_within.ensures.ascends in
    let last = subst (λ (t : Tracking). Some c.in_ok-number.number ≡ option_map (λ p. p.0) (newest (within c.args.low c.args.high t.packets))) c.self.view_is c.in_ok-number.ensures.value in
    let is = is_last c.args.low c.args.high c.in_ok-number.number c.args.self.now.packets up last in
    absurd (none_last c.args.low c.args.high c.in_ok-number.number c.args.self.now.packets is c.in_err-packet.ensures.taken)

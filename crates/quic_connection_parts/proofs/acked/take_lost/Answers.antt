use Rattle.std.proofs.Common.{◌≡◌, Some, subst}
use Rattle.std.specs.Option.{option_map}
use Rattle.quic_sent_packets.specs.Packets.{Ascends, oldest}
use Rattle.quic_machine.specs.Tracking.{TrackedPacket}
use Rattle.quic_streams_parts.specs.Table.{Table}
use Rattle.quic_connection_parts.proofs.Tracked.{first_lost, takes_lost, lost_is_there}
use Rattle.quic_connection_parts.proofs.acked.take_lost.Goals as goal

pub returns-clause-taken : goal.returns-clause-taken
returns-clause-taken c =
    let up = subst (λ (es : Table TrackedPacket). Ascends es) c.packets.ensures c.get-packet.ensures.ascends in
    let first = subst (λ (es : Table TrackedPacket). Some c.in_ok-number.number ≡ option_map (λ p. p.0) (oldest es)) c.requires c.in_ok-number.ensures in
    takes_lost c.args.verdict.now c.in_ok-number.number c.in_ok-packet.packet c.args.tracking.now c.take.new.self (first_lost c.args.verdict.now c.in_ok-number.number c.args.tracking.now.packets up first) c.in_ok-packet.ensures.taken c.take.ensures.left

pub returns-in_err-packet-clause-none : goal.returns-in_err-packet-clause-none
returns-in_err-packet-clause-none c =
    let up = subst (λ (es : Table TrackedPacket). Ascends es) c.packets.ensures c.get-packet.ensures.ascends in
    let first = subst (λ (es : Table TrackedPacket). Some c.in_ok-number.number ≡ option_map (λ p. p.0) (oldest es)) c.requires c.in_ok-number.ensures in
    absurd (lost_is_there c.args.verdict.now c.in_ok-number.number c.args.tracking.now.packets (first_lost c.args.verdict.now c.in_ok-number.number c.args.tracking.now.packets up first) c.in_err-packet.ensures.taken)

pub returns-in_err-packet-clause-same : goal.returns-in_err-packet-clause-same
returns-in_err-packet-clause-same c =
    let up = subst (λ (es : Table TrackedPacket). Ascends es) c.packets.ensures c.get-packet.ensures.ascends in
    let first = subst (λ (es : Table TrackedPacket). Some c.in_ok-number.number ≡ option_map (λ p. p.0) (oldest es)) c.requires c.in_ok-number.ensures in
    absurd (lost_is_there c.args.verdict.now c.in_ok-number.number c.args.tracking.now.packets (first_lost c.args.verdict.now c.in_ok-number.number c.args.tracking.now.packets up first) c.in_err-packet.ensures.taken)

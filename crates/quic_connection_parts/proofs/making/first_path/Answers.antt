use Rattle.std.proofs.Common.{ap, arith}
use Rattle.quic_parameters.specs.declared.transport_parameters.id.TransportParameterId.TheVariants.{MaxUdpPayloadSize}
use Rattle.quic_connection_parts.proofs.making.first_path.Goals as goal

pub overflow_cast-limit : goal.overflow_cast-limit
overflow_cast-limit g c =
    let most = (c.requires.each MaxUdpPayloadSize).1 in
    let same = ap (λ p. p.max_udp_payload_size) c.theirs.view_is in
    let value = c.into_inner-limit.ensures in
    omega arith

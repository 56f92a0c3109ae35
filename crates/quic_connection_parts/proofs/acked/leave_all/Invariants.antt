use Rattle.std.proofs.Common.{◌≡◌, take}
use Rattle.quic_paths.specs.InFlight.{flight_of}
use Rattle.quic_connection_parts.specs.Flying.{flying_packets, less}
use Rattle.quic_connection_parts.proofs.acked.leave_all.Given as goal

abbrev pub invariant-loop-packet : goal.invariant-loop-packet
invariant-loop-packet g l = l.path ≡ record l.initial.path { in_flight = less l.initial.path.in_flight (flight_of (flying_packets l.initial.path.generation (take l.packet-index l.acked))) }

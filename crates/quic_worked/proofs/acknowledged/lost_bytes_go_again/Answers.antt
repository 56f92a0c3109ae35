use Rattle.std.proofs.Common.{◌≡◌, [], refl, ap}
use Rattle.quic_streams_parts.specs.Table.{Table}
use Rattle.quic_machine.specs.Tracking.{TrackedPacket, acked_by}
use Rattle.quic_machine.specs.Acked.{after_named}
use Rattle.quic_worked.specs.Acknowledged.{third_ack, client_lost}
use Rattle.quic_worked.proofs.acknowledged.lost_bytes_go_again.Goals as goal

-- it names nothing that is waited for any more
names_none : acked_by third_ack client_lost.tracking.packets ≡ []
unfolding client_lost
names_none = refl

pub returns-clause-same : goal.returns-clause-same
returns-clause-same c rises = ap (λ (named : Table TrackedPacket). after_named named rises third_ack client_lost) names_none

use Rattle.quic_worked.proofs.BegunRuns.{limit_shows, ack_shows, ping_shows, never_limit, never_ack, never_ping}
use Rattle.quic_worked.proofs.begun.needless_waits_show.Goals as goal

pub returns : goal.returns
returns c = record { limit = limit_shows; acks = ack_shows; ping = ping_shows; machine_limit = never_limit; machine_acks = never_ack; machine_ping = never_ping }

use Rattle.quic_worked.proofs.RepeatedRuns.{ping_shows, ack_shows, limit_shows, ping_is_honest, ack_is_honest, limit_is_honest, ping_is_none, ack_is_none, limit_is_none}
use Rattle.quic_worked.proofs.repeated.repeats_show.Goals as goal

pub returns : goal.returns
returns c = record {
  ping = ping_shows;
  acks = ack_shows;
  limit = limit_shows;
  ping_honest = ping_is_honest;
  acks_honest = ack_is_honest;
  limit_honest = limit_is_honest;
  machine_ping = ping_is_none;
  machine_acks = ack_is_none;
  machine_limit = limit_is_none;
}

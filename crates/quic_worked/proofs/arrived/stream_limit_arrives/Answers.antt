use Rattle.quic_worked.proofs.LimitArrivedRun.{word_is_honest, word_is_run, word_room, server_at_rest, limit_given, limit_has_arrived}
use Rattle.quic_worked.proofs.arrived.stream_limit_arrives.Goals as goal

pub returns : goal.returns
returns c = record { honest = word_is_honest; run = word_is_run; room = word_room; server = server_at_rest; given = limit_given; limit = limit_has_arrived }

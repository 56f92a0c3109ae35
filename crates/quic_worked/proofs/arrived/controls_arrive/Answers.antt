use Rattle.quic_worked.proofs.ArrivedRun.{arrived_is_honest, arrived_is_run, client_at_rest, server_at_rest, was_reset, three_written, reset_has_arrived, tells_stays, first_in_use, was_retired, one_was_stopped, stop_has_arrived, limit_given, limit_has_arrived}
use Rattle.quic_worked.proofs.BlockedRun.{small_room}
use Rattle.quic_worked.proofs.arrived.controls_arrive.Goals as goal

pub returns : goal.returns
returns c = record { honest = arrived_is_honest; run = arrived_is_run; room = small_room 8; client = client_at_rest; server = server_at_rest; was_reset = was_reset; wrote = three_written; reset = reset_has_arrived; stays = tells_stays; used = first_in_use; retired = was_retired; was_stopped = one_was_stopped; stop = stop_has_arrived; given = limit_given; limit = limit_has_arrived }

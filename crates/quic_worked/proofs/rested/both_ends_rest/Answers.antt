use Rattle.quic_worked.proofs.RestedRun.{rested_is_honest, rested_is_run, have_room, client_at_rest, client_before, server_at_rest, first_arrived, last_arrived, end_arrived, owes_one, owes_no_more, owes_never}
use Rattle.quic_worked.proofs.rested.both_ends_rest.Goals as goal

pub returns : goal.returns
returns c = record { honest = rested_is_honest; run = rested_is_run; room = have_room; client = client_at_rest; client_before = client_before; server = server_at_rest; first = first_arrived; last = last_arrived; end = end_arrived; owed = owes_one; owed_no_more = owes_no_more; owed_never = owes_never }

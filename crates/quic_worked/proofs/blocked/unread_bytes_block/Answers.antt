use Rattle.quic_worked.proofs.BlockedRun.{left_is_honest, left_is_run, small_room, left_is_modest, left_client, left_server, eight_are_left}
use Rattle.quic_worked.proofs.blocked.unread_bytes_block.Goals as goal

pub returns : goal.returns
returns c = record { honest = left_is_honest; run = left_is_run; room = small_room 8; modest = left_is_modest; client = left_client; server = left_server; left = eight_are_left }

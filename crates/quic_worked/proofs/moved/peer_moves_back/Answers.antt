use Rattle.quic_worked.proofs.MovedRuns.{twice_is_honest, twice_is_run, twice_there, twice_back, third_path, twice_invalid, twice_handed, twice_used, twice_went}
use Rattle.quic_worked.proofs.moved.peer_moves_back.Goals as goal

pub returns : goal.returns
returns c = record { honest = twice_is_honest; run = twice_is_run; there = twice_there; back = twice_back; third = third_path; unvalidated = twice_invalid; handed = twice_handed; used = twice_used; sent = twice_went }

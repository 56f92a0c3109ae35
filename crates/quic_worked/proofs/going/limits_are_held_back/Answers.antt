use Rattle.quic_worked.proofs.RaisingRun.{shut_is_honest, shut_is_run, none_given, all_raised, stream_raised, window_is_full}
use Rattle.quic_worked.proofs.going.limits_are_held_back.Goals as goal

pub returns : goal.returns
returns c = record { honest = shut_is_honest; run = shut_is_run; gave = none_given; all = all_raised; one = stream_raised; full = window_is_full }

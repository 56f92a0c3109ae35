use Rattle.quic_worked.proofs.BoundedRun.{streams_came, first_consumed, second_consumed, five_consumed, both_windows, data_said, own_said}
use Rattle.quic_worked.proofs.bounded.all_credit_is_given.Goals as goal

pub returns : goal.returns
returns c = record { streams = streams_came; first = first_consumed; second = second_consumed; all = five_consumed; windows = both_windows; limit = data_said; own = own_said }

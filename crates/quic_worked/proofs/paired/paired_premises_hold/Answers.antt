use Rattle.quic_worked.proofs.PairedMachines.{h_told_of_reset, h_pair_giving, h_reset_unaccepted, h_second_unaccepted, h_other_bytes, h_other_code, h_opened_twice, h_accepted_early, h_accepted_twice, h_reset_of_second}
use Rattle.quic_worked.proofs.paired.paired_premises_hold.Goals as goal

pub returns : goal.returns
returns c = record { told = h_told_of_reset; giving = h_pair_giving; first = h_reset_unaccepted; second = h_second_unaccepted; other = h_other_bytes; code = h_other_code; opened = h_opened_twice; accepted = h_accepted_twice; early = h_accepted_early; reset = h_reset_of_second }

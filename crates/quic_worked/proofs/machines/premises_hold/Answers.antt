use Rattle.quic_worked.proofs.Honest.{h_unaccepted, h_told_twice, h_taken_again, h_all_dropped, h_refused_named, h_cut_frame, h_hidden_end, h_skipped_byte, h_long_opens, h_used_twice, h_told_early, h_taken_early, h_nothing_given, h_wide_name, h_narrow_name, h_silent, h_falling, h_all_named, h_changed_again, h_accepted_twice, h_accepted_last, h_other_stream}
use Rattle.quic_worked.proofs.machines.premises_hold.Goals as goal

pub returns : goal.returns
returns c = record { unaccepted = h_unaccepted; told_twice = h_told_twice; taken_again = h_taken_again; all_dropped = h_all_dropped; refused_named = h_refused_named; cut_frame = h_cut_frame; hidden_end = h_hidden_end; skipped_byte = h_skipped_byte; long_opens = h_long_opens; used_twice = h_used_twice; told_early = h_told_early; taken_early = h_taken_early; nothing_given = h_nothing_given; wide_name = h_wide_name; narrow_name = h_narrow_name; silent = h_silent; falling = h_falling; all_named = h_all_named; changed_again = h_changed_again; accepted_twice = h_accepted_twice; accepted_last = h_accepted_last; other_stream = h_other_stream }

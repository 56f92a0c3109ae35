use Rattle.quic_worked.proofs.HastyRun.{hasty_is_honest, hasty_is_run, not_yet, due_now, both_wait, one_goes, due_no_more, never_due}
use Rattle.quic_worked.proofs.hasty.second_packet_hastens.Goals as goal

pub returns : goal.returns
returns c = record { honest = hasty_is_honest; run = hasty_is_run; first = not_yet; second = due_now; waiting = both_wait; went = one_goes; answered = due_no_more; client = never_due }

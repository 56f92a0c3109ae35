use Rattle.quic_worked.proofs.MessageRuns.{two_is_honest, two_is_run, both_wait, both_went, none_left}
use Rattle.quic_worked.proofs.messages.messages_go_in_turn.Goals as goal

pub returns : goal.returns
returns c = record { honest = two_is_honest; run = two_is_run; waiting = both_wait; sent = both_went; none = none_left }

use Rattle.quic_worked.proofs.ObeyingRuns.{waits_not, waits_is_honest, waits_is_none}
use Rattle.quic_worked.proofs.obeying.waiting_immediate_ack_shows.Goals as goal

pub returns : goal.returns
returns c = record { due = waits_not; honest = waits_is_honest; machine = waits_is_none }

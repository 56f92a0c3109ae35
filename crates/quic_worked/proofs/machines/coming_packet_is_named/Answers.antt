use Rattle.quic_worked.proofs.WrongRuns.{early_acknowledges, no_taken_early}
use Rattle.quic_worked.proofs.machines.coming_packet_is_named.Goals as goal

pub returns : goal.returns
returns c = record { acknowledged = early_acknowledges; machine = no_taken_early }

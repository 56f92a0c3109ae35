use Rattle.std.proofs.Common.{refl}
use Rattle.quic_connection.specs.Stopping.{for_call, at_event, at_call}
use Rattle.quic_connection_rows.proofs.stopping.poll_is_a_cause.Goals as goal

pub returns-clause-run : goal.returns-clause-run
returns-clause-run c = at_event _ refl (for_call tt)

pub returns-clause-alone : goal.returns-clause-alone
returns-clause-alone c = at_call _ refl tt

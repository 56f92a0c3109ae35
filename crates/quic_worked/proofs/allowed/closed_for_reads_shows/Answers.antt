use Rattle.quic_worked.proofs.AllowedRun.{read_closed, read_is_honest, read_is_none}
use Rattle.quic_worked.proofs.allowed.closed_for_reads_shows.Goals as goal

pub returns : goal.returns
returns c = record { reads = read_closed; honest = read_is_honest; machine = read_is_none }

use Rattle.quic_worked.proofs.BegunRuns.{bytes_show, never_bytes}
use Rattle.quic_worked.proofs.begun.bytes_at_each_poll_show.Goals as goal

pub returns : goal.returns
returns c = record { bytes = bytes_show; machine = never_bytes }

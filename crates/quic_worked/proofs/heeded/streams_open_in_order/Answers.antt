use Rattle.quic_worked.proofs.HeededRuns.{in_order}
use Rattle.quic_worked.proofs.heeded.streams_open_in_order.Goals as goal

pub returns : goal.returns
returns c = record { right = in_order }

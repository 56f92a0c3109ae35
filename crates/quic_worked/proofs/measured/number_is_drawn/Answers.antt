use Rattle.quic_worked.proofs.SkippedRun.{one_out, zero_drawn}
use Rattle.quic_worked.proofs.measured.number_is_drawn.Goals as goal

pub returns : goal.returns
returns c = record { out = one_out; drawn = zero_drawn }

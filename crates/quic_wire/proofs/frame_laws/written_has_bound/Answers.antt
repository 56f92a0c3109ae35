use Rattle.quic_wire.proofs.FrameRange.{size_most}
use Rattle.quic_wire.proofs.frame_laws.written_has_bound.Goals as goal

pub returns : goal.returns
returns c = size_most

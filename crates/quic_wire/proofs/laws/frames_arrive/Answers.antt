use Rattle.quic_wire.proofs.Arriving.{frames_arrive}
use Rattle.quic_wire.proofs.laws.frames_arrive.Goals as goal

pub returns : goal.returns
returns c = frames_arrive

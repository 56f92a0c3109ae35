use Rattle.quic_wire.proofs.FrameReadBack.{payload_once}
use Rattle.quic_wire.proofs.frame_laws.payload_is_one_list.Goals as goal

pub returns : goal.returns
returns c = payload_once

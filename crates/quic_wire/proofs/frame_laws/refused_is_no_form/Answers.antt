use Rattle.quic_wire.proofs.FrameReadBack.{refused_no_form}
use Rattle.quic_wire.proofs.frame_laws.refused_is_no_form.Goals as goal

pub returns : goal.returns
returns c = refused_no_form

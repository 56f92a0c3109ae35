use Rattle.quic_wire.proofs.FrameWhole.{form_items}
use Rattle.quic_wire.proofs.frame_laws.form_is_read.Goals as goal

pub returns : goal.returns
returns c = form_items

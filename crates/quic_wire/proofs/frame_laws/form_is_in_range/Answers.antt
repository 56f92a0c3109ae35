use Rattle.quic_wire.proofs.FrameRange.{form_fits}
use Rattle.quic_wire.proofs.frame_laws.form_is_in_range.Goals as goal

pub returns : goal.returns
returns c = form_fits

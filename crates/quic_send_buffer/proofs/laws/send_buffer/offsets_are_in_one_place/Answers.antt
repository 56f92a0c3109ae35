use Rattle.quic_send_buffer.proofs.Buffered.Places.{in_one_place}
use Rattle.quic_send_buffer.proofs.laws.send_buffer.offsets_are_in_one_place.Goals as goal

pub returns : goal.returns
returns c = in_one_place

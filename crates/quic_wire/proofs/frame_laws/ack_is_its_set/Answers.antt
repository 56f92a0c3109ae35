use Rattle.quic_wire.specs.Value.{ack}
use Rattle.quic_wire.specs.AckSet.{ack_of_set}
use Rattle.quic_wire.specs.AckWriting.{ack_spelling}
use Rattle.quic_wire.proofs.AckSet.{set_fits, set_numbers}
use Rattle.quic_wire.proofs.FrameWhole.{form_items}
use Rattle.quic_wire.proofs.FrameWritten.{spelling_form}
use Rattle.quic_wire.proofs.frame_laws.ack_is_its_set.Goals as goal

pub returns-clause-fits : goal.returns-clause-fits
returns-clause-fits c = set_fits

pub returns-clause-read : goal.returns-clause-read
returns-clause-read c = λ delay runs ecn rest h some small lt counts.
    let a = ack_of_set delay runs ecn in
    form_items (ack a) (ack_spelling a) rest (spelling_form (ack a) rest (set_fits delay runs ecn h some small lt counts))

pub returns-clause-numbers : goal.returns-clause-numbers
returns-clause-numbers c = λ delay runs ecn n h. set_numbers runs n h

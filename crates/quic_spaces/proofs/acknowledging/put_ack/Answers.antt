use Rattle.quic_wire.specs.AckSet.{ack_of_set}
use Rattle.quic_wire.specs.AckView.{shown_ecn}
use Rattle.quic_wire.specs.AckWriting.{ack_spelling, ack_size}
use Rattle.quic_wire.proofs.Room.{longer, as_roomy}
use Rattle.quic_spaces.proofs.AckSize.{spelled_length}
use Rattle.quic_spaces.proofs.acknowledging.put_ack.Goals as goal

pub returns-clause-len : goal.returns-clause-len
returns-clause-len c =
    let a = ack_of_set c.args.delay c.args.ranges.now (shown_ecn c.args.ecn) in
    longer c.args.out.now c.encode.new.buf (ack_spelling a) _
    (rw c.unwrap.ensures at c.encode.ensures.ok) (spelled_length a)

pub returns-clause-capacity : goal.returns-clause-capacity
returns-clause-capacity c =
    as_roomy c.args.out.now c.encode.new.buf (ack_size (ack_of_set c.args.delay c.args.ranges.now (shown_ecn c.args.ecn)))
    (returns-clause-len c) c.requires.room (rw c.unwrap.ensures at c.encode.ensures.spare)

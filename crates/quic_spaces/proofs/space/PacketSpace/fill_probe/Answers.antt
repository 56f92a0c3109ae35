use Rattle.quic_spaces.proofs.RecordLaws.{record_moves}
use Rattle.quic_spaces.proofs.space.PacketSpace.fill_probe.Goals as goal

pub returns-in-Some-clause-ok : goal.returns-in-Some-clause-ok
returns-in-Some-clause-ok c =
    record_moves c.args.self.now c.args.pending.now c.move_record.new.pending c.move_record.new.self c.args.streams.now c.args.request_immediate_ack c.in-Some.number c.move_record.result c.in-Some.ensures.value c.in-Some.ensures.there c.move_record.ensures.ok

use Rattle.std.proofs.Common.{List, ap, map, ◌∙◌}
use Rattle.quic_packet.specs.Destination.{decoded, fixed_length_id}
use Rattle.quic_machine.specs.Ids.{Ids, NumberedId, own_id_length}
use Rattle.quic_connection_parts.proofs.Headers.{decoded_room}
use Rattle.quic_connection_parts.proofs.ids.Ids.decode.Goals as goal

pub returns-clause-decoded : goal.returns-clause-decoded
returns-clause-decoded c =
    (rw c.new-parser.ensures at c.decode.ensures.decoded)
    ∙ ap (λ (is : List NumberedId). decoded (fixed_length_id own_id_length) (map (λ i. i.id) is) c.args.datagram.now) (c.deref.ensures.value ∙ ap (λ (ids : Ids). ids.living) c.self.view_is)

pub returns-clause-room : goal.returns-clause-room
returns-clause-room c = decoded_room c.decode.result 8 (map (λ (i : NumberedId). i.id) c.deref.result.now) c.args.datagram.now (rw c.new-parser.ensures at c.decode.ensures.decoded)

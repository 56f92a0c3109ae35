use Rattle.std.proofs.Common.{◌^◌, ◌<◌}
use Rattle.quic_sent_packets.specs.Packets.{without_record}
use Rattle.quic_spaces.specs.Tail.{IsBehindFrom}
use Rattle.quic_spaces.proofs.Tails.{put_at, put_counted, holds_same}
use Rattle.quic_spaces.proofs.tracking.Tracking.move_record.Goals as goal

pub invariant_of-self : goal.invariant_of-self
invariant_of-self c =
    let p = c.in-Some.packet.now in
    let left = put_at c.self.inside.packets c.take_retransmits.new.self c.args.number p c.in-Some.ensures.value c.take_retransmits.ensures.left in (
      put_counted c.self.inside.largest_ack_eliciting_sent c.self.inside.packets c.take_retransmits.new.self c.args.number (without_record p) c.self.inside.unacked_non_ack_eliciting_tail left c.self.invariant.0,
      holds_same (λ n. n < 2 ^ 64) c.self.inside.packets c.take_retransmits.new.self c.args.number (without_record p) left c.self.invariant.1,
      holds_same (IsBehindFrom c.self.inside.largest_ack_eliciting_sent c.self.inside.tail_from) c.self.inside.packets c.take_retransmits.new.self c.args.number (without_record p) left c.self.invariant.2,
    )

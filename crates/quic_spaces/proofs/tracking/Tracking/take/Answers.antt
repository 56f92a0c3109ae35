use Rattle.std.proofs.Common.{◌≡◌, ◌<◌, ◌^◌, true, false, length, sym, ap, ◌∙◌, arith}
use Rattle.quic_streams_parts.specs.Table.{Table}
use Rattle.quic_streams_parts.specs.TableLaws.{without-unknown}
use Rattle.quic_sent_packets.specs.Packets.{TrackedPacket}
use Rattle.quic_spaces.specs.Tracking.{is_behind}
use Rattle.quic_spaces.specs.Tail.{IsBehindFrom}
use Rattle.quic_spaces.proofs.Tails.{tail, taken_counted, holds_without}
use Rattle.quic_spaces.proofs.tracking.Tracking.take.Goals as goal

pub invariant_of-self : goal.invariant_of-self
invariant_of-self c =
    let same = c.remove.ensures.left ∙ without-unknown c.self.inside.packets c.args.number (sym c.in_err-packet.ensures.taken) in
    (c.self.invariant.0 ∙ ap (λ (es : Table TrackedPacket). length (tail c.self.inside.largest_ack_eliciting_sent es)) (sym same), holds_without (λ n. n < 2 ^ 64) c.self.inside.packets c.remove.new.self c.args.number c.remove.ensures.left c.self.invariant.1, holds_without (IsBehindFrom c.self.inside.largest_ack_eliciting_sent c.self.inside.tail_from) c.self.inside.packets c.remove.new.self c.args.number c.remove.ensures.left c.self.invariant.2)

pub overflow_sub-self : goal.overflow_sub-self
overflow_sub-self c =
    let counted = taken_counted c.self.inside.largest_ack_eliciting_sent c.self.inside.packets c.remove.new.self c.args.number c.in_ok-packet.packet c.self.inside.unacked_non_ack_eliciting_tail c.in_ok-packet.ensures.taken c.remove.ensures.left c.self.invariant.0 in
    let behind : is_behind c.self.inside.largest_ack_eliciting_sent c.args.number ≡ true = cc in
    let one = rw behind at counted in
    omega (arith, one)

pub invariant_of-self-then-is_behind : goal.invariant_of-self-then-is_behind
invariant_of-self-then-is_behind c =
    let counted = taken_counted c.self.inside.largest_ack_eliciting_sent c.self.inside.packets c.remove.new.self c.args.number c.in_ok-packet.packet c.self.inside.unacked_non_ack_eliciting_tail c.in_ok-packet.ensures.taken c.remove.ensures.left c.self.invariant.0 in
    let behind : is_behind c.self.inside.largest_ack_eliciting_sent c.args.number ≡ true = cc in
    let one = rw behind at counted in
    (omega (arith, one), holds_without (λ n. n < 2 ^ 64) c.self.inside.packets c.remove.new.self c.args.number c.remove.ensures.left c.self.invariant.1, holds_without (IsBehindFrom c.self.inside.largest_ack_eliciting_sent c.self.inside.tail_from) c.self.inside.packets c.remove.new.self c.args.number c.remove.ensures.left c.self.invariant.2)

pub invariant_of-self-else-is_behind : goal.invariant_of-self-else-is_behind
invariant_of-self-else-is_behind c =
    let counted = taken_counted c.self.inside.largest_ack_eliciting_sent c.self.inside.packets c.remove.new.self c.args.number c.in_ok-packet.packet c.self.inside.unacked_non_ack_eliciting_tail c.in_ok-packet.ensures.taken c.remove.ensures.left c.self.invariant.0 in
    let apart : is_behind c.self.inside.largest_ack_eliciting_sent c.args.number ≡ false = cc in
    let none = rw apart at counted in
    (omega (arith, none), holds_without (λ n. n < 2 ^ 64) c.self.inside.packets c.remove.new.self c.args.number c.remove.ensures.left c.self.invariant.1, holds_without (IsBehindFrom c.self.inside.largest_ack_eliciting_sent c.self.inside.tail_from) c.self.inside.packets c.remove.new.self c.args.number c.remove.ensures.left c.self.invariant.2)

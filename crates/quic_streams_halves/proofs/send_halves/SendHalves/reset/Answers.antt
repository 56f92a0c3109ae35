use Rattle.std.proofs.Common.{length, false, rules, ap, arith}
use Rattle.quic_send_buffer.specs.Buffered.{Buffered}
use Rattle.quic_streams_parts.specs.Table.{put}
use Rattle.quic_streams_parts.specs.SendHalf.{SendHalf, reset_now}
use Rattle.quic_streams_halves.proofs.Sums.{put_sum, within_sum, requeued_kept}
use Rattle.quic_streams_halves.proofs.send_halves.SendHalves.reset.Goals as goal

pub invariant_of-self-2 : goal.invariant_of-self-2
invariant_of-self-2 c =
    let h = c.in-Some.half.now in
    let told = ap (λ k. put c.self.inside.live k c.reset.new.half) c.from.ensures in
    let left = ap (λ (w : SendHalf). length w.buffer.kept) (c.reset.ensures.half c.args.id) in
    let none = ap (λ (b : Buffered). length b.kept) (requeued_kept h.place false c.args.queue.now c.args.id (reset_now h)) in
    let held = within_sum (λ (w : SendHalf). length w.buffer.kept) c.self.inside.live c.args.id h c.self.inside.buffered c.self.invariant (search rules) in
    let before = c.buffered-kept.ensures.value in
    put_sum (λ (w : SendHalf). length w.buffer.kept) c.self.inside.live _ c.args.id h c.reset.new.half c.self.inside.buffered _ c.self.invariant (search rules) told (omega arith)

pub overflow_sub-self : goal.overflow_sub-self
overflow_sub-self c =
    let held = within_sum (λ (h : SendHalf). length h.buffer.kept) c.self.inside.live c.args.id c.in-Some.half.now c.self.inside.buffered c.self.invariant (search rules) in
    let before = c.buffered-kept.ensures.value in
    omega arith

use Rattle.std.proofs.Common.{length, rules, ap, ◌∙◌, arith, Result, Ok, Err, OnErr}
use Rattle.std.specs.Ordering.{nat_cmp}
use Rattle.std.specs.BTreeMap.{is_at}
use Rattle.std.proofs.lemmas.Map.Steps.{set_value_same}
use Rattle.quic_streams_parts.specs.Table.{put}
use Rattle.quic_streams_parts.specs.SendHalf.{SendHalf}
use Rattle.quic_streams_halves.proofs.Sums.{put_sum, within_sum, acked_if_kept}
use Rattle.quic_streams_halves.proofs.send_halves.SendHalves.ack_if_ready.Goals as goal

on_err : {T E P : Type 0} (r : Result T E) → P → OnErr r P
on_err (Ok x) p = tt
on_err (Err e) p = p

pub invariant_of-self-in_err-ended : goal.invariant_of-self-in_err-ended
invariant_of-self-in_err-ended c =
    let told = ap (λ k. put c.self.inside.live k c.ack_if_ready.new.half) c.from.ensures in
    let kept = ap (λ (h : SendHalf). length h.buffer.kept) c.in_err-ended.ensures.err in
    put_sum (λ (h : SendHalf). length h.buffer.kept) c.self.inside.live _ c.args.frame.now.id c.in-Some.half.now c.ack_if_ready.new.half c.self.inside.buffered _ c.self.invariant (search rules) told (omega arith)

pub returns-in_err-ended-clause-err : goal.returns-in_err-ended-clause-err
returns-in_err-ended-clause-err c =
    let told = ap (λ k. put c.self.inside.live k c.ack_if_ready.new.half) c.from.ensures in
    let same = told ∙ ap (λ w. put c.self.inside.live c.args.frame.now.id w) c.in_err-ended.ensures.err ∙ set_value_same (is_at (nat_cmp c.args.frame.now.id)) c.self.inside.live c.in-Some.half.now (search rules) in
    on_err c.from_residual.result (rw same c.self.view_is)

pub invariant_of-self-2 : goal.invariant_of-self-2
invariant_of-self-2 c =
    let told = ap (λ k. put c.self.inside.live k c.ack_if_ready.new.half) c.from.ensures in
    let fewer = acked_if_kept c.args.frame.now c.args.queue.now c.in-Some.half.now c.ack_if_ready.new.half c.in_ok-ended.ensures.half in
    let held = within_sum (λ (h : SendHalf). length h.buffer.kept) c.self.inside.live c.args.frame.now.id c.in-Some.half.now c.self.inside.buffered c.self.invariant (search rules) in
    let before = c.buffered-kept.ensures.value in
    let behind = c.buffered.ensures.value in
    put_sum (λ (h : SendHalf). length h.buffer.kept) c.self.inside.live _ c.args.frame.now.id c.in-Some.half.now c.ack_if_ready.new.half c.self.inside.buffered _ c.self.invariant (search rules) told (omega arith)

pub overflow_sub-self-2 : goal.overflow_sub-self-2
overflow_sub-self-2 c =
    let held = within_sum (λ (h : SendHalf). length h.buffer.kept) c.self.inside.live c.args.frame.now.id c.in-Some.half.now c.self.inside.buffered c.self.invariant (search rules) in
    let before = c.buffered-kept.ensures.value in
    omega arith

use Rattle.std.proofs.Common.{length, true, rules, ap, ◌∙◌, arith, Result, Ok, Err, OnErr}
use Rattle.std.specs.Ordering.{nat_cmp}
use Rattle.std.specs.BTreeMap.{is_at}
use Rattle.std.proofs.lemmas.Map.Steps.{set_value_same}
use Rattle.quic_send_buffer.specs.Buffered.{Buffered}
use Rattle.quic_send_buffer.specs.Source.{cut_to}
use Rattle.quic_send_buffer.specs.WritesLaws.{cut_bytes, writes_add}
use Rattle.quic_streams_parts.specs.Table.{put}
use Rattle.quic_streams_parts.specs.SendHalf.{SendHalf, grown_all}
use Rattle.quic_streams_halves.proofs.Sums.{put_sum, requeued_kept}
use Rattle.quic_streams_halves.proofs.send_halves.SendHalves.write_all.Goals as goal

on_err : {T E P : Type 0} (r : Result T E) → P → OnErr r P
on_err (Ok x) p = tt
on_err (Err e) p = p

pub invariant_of-self-in_err-write_all : goal.invariant_of-self-in_err-write_all
invariant_of-self-in_err-write_all c =
    let told = ap (λ k. put c.self.inside.live k c.write_all.new.half) c.from.ensures in
    let kept = ap (λ (h : SendHalf). length h.buffer.kept) c.in_err-write_all.ensures.err in
    put_sum (λ (h : SendHalf). length h.buffer.kept) c.self.inside.live _ c.args.id c.in-Some.half.now c.write_all.new.half c.self.inside.buffered _ c.self.invariant (search rules) told (omega arith)

pub returns-in_err-write_all-clause-err : goal.returns-in_err-write_all-clause-err
returns-in_err-write_all-clause-err c =
    let told = ap (λ k. put c.self.inside.live k c.write_all.new.half) c.from.ensures in
    let same = told ∙ ap (λ w. put c.self.inside.live c.args.id w) c.in_err-write_all.ensures.err ∙ set_value_same (is_at (nat_cmp c.args.id)) c.self.inside.live c.in-Some.half.now (search rules) in
    on_err c.from_residual.result (rw same c.self.view_is)

pub invariant_of-self-2 : goal.invariant_of-self-2
invariant_of-self-2 c =
    let told = ap (λ k. put c.self.inside.live k c.write_all.new.half) c.from.ensures in
    let h = c.in-Some.half.now in
    let first = ap (λ (h : SendHalf). length h.buffer.kept) c.in_ok-write_all.ensures.half in
    let last = ap (λ (b : Buffered). length b.kept) (requeued_kept h.place true c.args.queue.now c.args.id (grown_all h (cut_to c.args.len c.args.chunks.now))) in
    let grows = (writes_add h.buffer (cut_to c.args.len c.args.chunks.now)).kept in
    let cut = cut_bytes c.args.len c.args.chunks.now in
    put_sum (λ (h : SendHalf). length h.buffer.kept) c.self.inside.live _ c.args.id c.in-Some.half.now c.write_all.new.half c.self.inside.buffered _ c.self.invariant (search rules) told (omega arith)

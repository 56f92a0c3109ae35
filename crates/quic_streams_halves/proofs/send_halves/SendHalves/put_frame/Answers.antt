use Rattle.std.proofs.Common.{◌≡◌, ◌++◌, Option, Some, length, rules, ap, sym, subst, arith}
use Rattle.std.specs.Prelude.{IfOk}
use Rattle.std.specs.Option.{option_map}
use Rattle.quic_wire.specs.Writing.{stream_spelling}
use Rattle.quic_send_buffer.specs.Buffered.{writes_length}
use Rattle.quic_streams_parts.specs.Table.{at, put}
use Rattle.quic_streams_parts.specs.SendHalf.{SendHalf, frame_of, meta_of}
use Rattle.quic_streams_halves.specs.Queued.{counting_at, sent_if_counts}
use Rattle.quic_streams_halves.proofs.Sums.{put_sum, sent_kept}
use Rattle.quic_streams_halves.proofs.Counted.{where_counts, where_none, some_counts, changed_told}
use Rattle.quic_streams_halves.proofs.send_halves.SendHalves.put_frame.Goals as goal

pub invariant_of-self-2 : goal.invariant_of-self-2
invariant_of-self-2 c =
    let told = ap (λ k. put c.self.inside.live k c.put_frame.new.half) c.from.ensures in
    let kept = sent_kept c.put_frame.result c.args.fair c.args.id c.args.max_len c.args.queue.now c.in-Some.half.now c.put_frame.new.half c.put_frame.ensures.half c.put_frame.ensures.err in
    put_sum (λ (h : SendHalf). length h.buffer.kept) c.self.inside.live _ c.args.id c.in-Some.half.now c.put_frame.new.half c.self.inside.buffered _ c.self.invariant (search rules) told (omega arith)

pub returns-clause-items : goal.returns-clause-items
returns-clause-items c =
    let found : at c.self.inside.live c.args.id ≡ Some c.in-Some.half.now = search rules in
    rw (← c.self.view_is) (where_counts (at c.self.inside.live c.args.id) c.in-Some.half.now c.args.max_len (λ h. c.put_frame.new.out.items ≡ c.args.out.now.items ++ stream_spelling (writes_length h.buffer c.args.max_len) (frame_of c.args.id h c.args.max_len)) found c.put_frame.ensures.items)

pub returns-clause-nothing : goal.returns-clause-nothing
returns-clause-nothing c =
    let found : at c.self.inside.live c.args.id ≡ Some c.in-Some.half.now = search rules in
    rw (← c.self.view_is) (where_none (at c.self.inside.live c.args.id) c.in-Some.half.now c.args.max_len (c.put_frame.new.out.items ≡ c.args.out.now.items) found c.put_frame.ensures.nothing)

pub returns-clause-new : goal.returns-clause-new
returns-clause-new c =
    let found : at c.self.inside.live c.args.id ≡ Some c.in-Some.half.now = search rules in
    let told = ap (λ k. put c.self.inside.live k c.put_frame.new.half) c.from.ensures in
    rw (← c.self.view_is) (changed_told c.put_frame.result (λ h. (sent_if_counts c.args.fair c.args.id c.args.max_len c.args.queue.now h).half) c.self.inside.live _ c.self.inside.places c.args.id c.in-Some.half.now c.put_frame.new.half found told c.put_frame.ensures.half)

pub returns-clause-lacking : goal.returns-clause-lacking
returns-clause-lacking c =
    let found : at c.self.inside.live c.args.id ≡ Some c.in-Some.half.now = search rules in
    rw (← c.self.view_is) (some_counts c.put_frame.result (at c.self.inside.live c.args.id) c.in-Some.half.now c.args.max_len found c.put_frame.ensures.lacking)

pub returns-clause-meta : goal.returns-clause-meta
returns-clause-meta c =
    let found : at c.self.inside.live c.args.id ≡ Some c.in-Some.half.now = search rules in
    rw (← c.self.view_is) (subst (λ (o : Option SendHalf). IfOk c.put_frame.result (λ meta. meta ≡ option_map (λ h. meta_of (frame_of c.args.id h c.args.max_len)) (counting_at o c.args.max_len))) (sym found) c.put_frame.ensures.meta)

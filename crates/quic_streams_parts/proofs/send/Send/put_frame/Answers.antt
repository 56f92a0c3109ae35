use Rattle.std.proofs.Common.{◌≡◌, ◌-◌, ◌++◌, List, ℕ, ap, ◌∙◌, arith}
use Rattle.std.specs.Prelude.{slice_range}
use Rattle.std.proofs.lemmas.List.{append_assoc}
use Rattle.quic_send_buffer.specs.Buffered.{Buffered}
use Rattle.quic_streams_parts.specs.SendHalf.{SendHalf}
use Rattle.quic_streams_parts.specs.SendHalf.{half_after}
use Rattle.quic_streams_parts.proofs.Room.{fits, spelled, carries}
use Rattle.quic_streams_parts.proofs.send.Send.put_frame.Goals as goal

pub put_stream_header-requires-clause-room : goal.put_stream_header-requires-clause-room
put_stream_header-requires-clause-room c =
    let le = fits c.args.self.now c.args.id c.args.max_len c.poll-meta.result c.poll-meta.ensures.within c.requires.some c.poll-meta.ensures.meta in
    let room = c.requires.room in
    omega arith

pub put-requires-clause-room : goal.put-requires-clause-room
put-requires-clause-room c =
    let le = fits c.args.self.now c.args.id c.args.max_len c.poll-meta.result c.poll-meta.ensures.within c.requires.some c.poll-meta.ensures.meta in
    let room = c.requires.room in
    let len = c.put_stream_header.ensures.len in
    let capacity = c.put_stream_header.ensures.capacity in
    omega arith

pub returns-clause-items : goal.returns-clause-items
returns-clause-items c =
    let made = spelled c.args.self.now c.args.id c.args.max_len c.poll-meta.result c.poll-meta.ensures.within c.poll-meta.ensures.meta in
    let same : c.self.inside.pending ≡ (half_after c.args.self.now c.args.max_len).buffer = ap (λ (h : SendHalf). h.buffer) (c.self.view_is ∙ c.poll-meta.ensures.new) in
    let start = c.poll-meta.result.offsets.start in
    let end = c.poll-meta.result.offsets.end in
    c.put.ensures.items
    ∙ ap (λ (b : Buffered). c.put_stream_header.new.out.items ++ slice_range b.kept (start - b.base) (end - b.base)) same
    ∙ ap (λ (z : List ℕ). z ++ slice_range c.args.self.now.buffer.kept (start - c.args.self.now.buffer.base) (end - c.args.self.now.buffer.base)) c.put_stream_header.ensures.items
    ∙ append_assoc c.args.out.now.items _ (slice_range c.args.self.now.buffer.kept (start - c.args.self.now.buffer.base) (end - c.args.self.now.buffer.base))
    ∙ ap (λ (z : List ℕ). c.args.out.now.items ++ z) made

pub returns-clause-len : goal.returns-clause-len
returns-clause-len c =
    let le = fits c.args.self.now c.args.id c.args.max_len c.poll-meta.result c.poll-meta.ensures.within c.requires.some c.poll-meta.ensures.meta in
    let head = c.put_stream_header.ensures.len in
    let len = c.put.ensures.len in
    omega arith

pub returns-clause-meta : goal.returns-clause-meta
returns-clause-meta c = carries c.args.self.now c.args.id c.args.max_len c.poll-meta.result c.poll-meta.ensures.within c.poll-meta.ensures.meta

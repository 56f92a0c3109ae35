use Rattle.std.proofs.Common.{◌≡◌, ◌∙◌, ◌+◌, ◌-◌, ◌≤◌, ℕ, None, IsSome, refl, sym, ap, length, vec_len, arith, rules}
use Rattle.quic_streams_state.specs.Frames.{going}
use Rattle.quic_streams_state.proofs.Going.{on_err}
use Rattle.quic_streams_state.proofs.Framing.{goes, framed_more, framed_some, framed_longer, framed_begins, done_items, done_state, done_noted}
use Rattle.quic_streams_state.proofs.Putting.{next, wide}
use Rattle.quic_streams_state.proofs.state.StreamsState.write_stream_frames.Goals as goal

pub frames-smaller : goal.frames-smaller
frames-smaller c =
    let before = c.args.out.now.items in
    let out = c.frames.out.items in
    let ok = c.frames.out.ok in
    let first = c.args.out.now.ok in
    let stays = c.frames.invariant.stays in
    let grows = c.frames.invariant.grows in
    let len = c.len.ensures in
    let left : ℕ = c.args.max_size - c.len.result in
    let within : left + length out ≡ (c.args.max_size - vec_len c.args.out.now) + length before = omega arith in
    let some : IsSome (going c.frames.self left) = search rules in
    let x = next (going c.frames.self left) some in
    let wide = wide x.id in
    let longer = framed_longer _ _ _ _ _ _ _ _ c.frames.invariant.framed left within x.id _ x.is c.put_next.new.out.items (c.put_next.ensures.items x.id x.is) in
    let ok2 = c.put_next.new.out.ok in
    let g = goes c.frames.self left x.id x.is in
    let room = g.room in
    omega arith

pub frames-preserved : goal.frames-preserved
frames-preserved c =
    let before = c.args.out.now.items in
    let out = c.frames.out.items in
    let ok = c.frames.out.ok in
    let first = c.args.out.now.ok in
    let stays = c.frames.invariant.stays in
    let grows = c.frames.invariant.grows in
    let len = c.len.ensures in
    let left : ℕ = c.args.max_size - c.len.result in
    let within : left + length out ≡ (c.args.max_size - vec_len c.args.out.now) + length before = omega arith in
    let some : IsSome (going c.frames.self left) = search rules in
    let x = next (going c.frames.self left) some in
    let wide = wide x.id in
    let longer = framed_longer _ _ _ _ _ _ _ _ c.frames.invariant.framed left within x.id _ x.is c.put_next.new.out.items (c.put_next.ensures.items x.id x.is) in
    let ok2 = c.put_next.new.out.ok in
    record {
      framed = framed_more _ _ _ _ _ _ _ _ c.frames.invariant.framed left within x.id _ x.is wide refl c.put_next.new.out.items c.put_next.new.sent.items c.put_next.new.self (c.put_next.ensures.items x.id x.is) (c.in_ok-put_next.ensures.state x.id x.is) (c.in_ok-put_next.ensures.sent x.id x.is);
      begins = framed_begins _ _ _ _ _ _ _ _ c.frames.invariant.framed left within x.id _ x.is c.put_next.new.out.items (c.put_next.ensures.items x.id x.is) (vec_len c.args.out.now) c.frames.invariant.begins (omega arith);
      grows = omega arith;
      stays = omega (arith, c.put_next.ensures.len);
      capacity = omega (arith, c.put_next.ensures.capacity, c.frames.invariant.capacity);
      room = omega (arith, c.put_next.ensures.capacity, c.frames.invariant.room);
    }

pub returns-in_err-put_next-clause-lacking : goal.returns-in_err-put_next-clause-lacking
returns-in_err-put_next-clause-lacking c =
    let before = c.args.out.now.items in
    let out = c.frames.out.items in
    let ok = c.frames.out.ok in
    let first = c.args.out.now.ok in
    let stays = c.frames.invariant.stays in
    let grows = c.frames.invariant.grows in
    let len = c.len.ensures in
    let left : ℕ = c.args.max_size - c.len.result in
    let within : left + length out ≡ (c.args.max_size - vec_len c.args.out.now) + length before = omega arith in
    let x = next (going c.frames.self left) c.in_err-put_next.ensures.lacking in
    on_err c.from_residual.result (framed_some _ _ _ _ _ _ _ _ c.frames.invariant.framed left within x.id x.is)

pub returns-in_err-put_next-clause-begins : goal.returns-in_err-put_next-clause-begins
returns-in_err-put_next-clause-begins c =
    let before = c.args.out.now.items in
    let out = c.frames.out.items in
    let ok = c.frames.out.ok in
    let first = c.args.out.now.ok in
    let stays = c.frames.invariant.stays in
    let grows = c.frames.invariant.grows in
    let len = c.len.ensures in
    let left : ℕ = c.args.max_size - c.len.result in
    let within : left + length out ≡ (c.args.max_size - vec_len c.args.out.now) + length before = omega arith in
    let x = next (going c.frames.self left) c.in_err-put_next.ensures.lacking in
    framed_begins _ _ _ _ _ _ _ _ c.frames.invariant.framed left within x.id _ x.is c.put_next.new.out.items (c.put_next.ensures.items x.id x.is) (vec_len c.args.out.now) c.frames.invariant.begins (omega arith)

pub returns-clause-items : goal.returns-clause-items
returns-clause-items c =
    let before = c.args.out.now.items in
    let out = c.frames.out.items in
    let ok = c.frames.out.ok in
    let first = c.args.out.now.ok in
    let stays = c.frames.invariant.stays in
    let grows = c.frames.invariant.grows in
    let len = c.len.ensures in
    let left : ℕ = c.args.max_size - c.len.result in
    let within : left + length out ≡ (c.args.max_size - vec_len c.args.out.now) + length before = omega arith in
    let none : going c.frames.self left ≡ None = search rules in
    c.put_next.ensures.nothing none ∙ done_items _ _ _ _ _ _ _ _ c.frames.invariant.framed left within none

pub returns-clause-state : goal.returns-clause-state
returns-clause-state c =
    let before = c.args.out.now.items in
    let out = c.frames.out.items in
    let ok = c.frames.out.ok in
    let first = c.args.out.now.ok in
    let stays = c.frames.invariant.stays in
    let grows = c.frames.invariant.grows in
    let len = c.len.ensures in
    let left : ℕ = c.args.max_size - c.len.result in
    let within : left + length out ≡ (c.args.max_size - vec_len c.args.out.now) + length before = omega arith in
    let none : going c.frames.self left ≡ None = search rules in
    c.in_ok-put_next.ensures.same none ∙ done_state _ _ _ _ _ _ _ _ c.frames.invariant.framed left within none

pub returns-clause-sent : goal.returns-clause-sent
returns-clause-sent c =
    let before = c.args.out.now.items in
    let out = c.frames.out.items in
    let ok = c.frames.out.ok in
    let first = c.args.out.now.ok in
    let stays = c.frames.invariant.stays in
    let grows = c.frames.invariant.grows in
    let len = c.len.ensures in
    let left : ℕ = c.args.max_size - c.len.result in
    let within : left + length out ≡ (c.args.max_size - vec_len c.args.out.now) + length before = omega arith in
    let none : going c.frames.self left ≡ None = search rules in
    c.in_ok-put_next.ensures.kept none ∙ done_noted _ _ _ _ _ _ _ _ c.frames.invariant.framed left within none

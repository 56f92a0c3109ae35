use Rattle.std.proofs.Common.{◌+◌, ◌-◌, ◌≤◌, sym, ap, ◌∙◌, vec_len, arith}
use Rattle.std.specs.Option.{option_map}
use Rattle.quic_wire.specs.FrameView.{frame_view}
use Rattle.quic_wire.specs.Writing.{frame_size}
use Rattle.quic_streams_state.proofs.Going.{fewer_wait, left_stale, left_first, left_some, written_none, written_full, begins_on, on_err}
use Rattle.quic_streams_state.proofs.state.StreamsState.write_kind.Goals as goal

pub waiting-preserved-in_default : goal.waiting-preserved-in_default
waiting-preserved-in_default c = record {
  left = left_stale _ _ _ c.args.kind c.args.max_size (vec_len c.waiting.out) c.waiting.self c.waiting.pending c.drop_first.new.pending c.waiting.sent c.waiting.invariant.left
      (sym c.is_waiting.ensures ∙ c.waiting-test.true) (sym c.first_frame.ensures.frame ∙ ap (option_map frame_view) c.in_default.is) c.drop_first.ensures;
  begins = c.waiting.invariant.begins;
  grows = c.waiting.invariant.grows;
  stays = c.waiting.invariant.stays;
  capacity = c.waiting.invariant.capacity;
  room = c.waiting.invariant.room;
}

pub returns-in_err-note-clause-lacking : goal.returns-in_err-note-clause-lacking
returns-in_err-note-clause-lacking c =
    let stays = c.waiting.invariant.stays in
    on_err c.from_residual.result (left_some _ _ _ c.args.kind c.args.max_size (vec_len c.waiting.out) c.waiting.self c.waiting.pending c.waiting.sent (frame_view c.in-Some.frame) c.waiting.invariant.left
    (sym c.first_frame.ensures.frame ∙ ap (option_map frame_view) c.in-Some.is) (omega (arith, c.len.ensures, c.size_of_frame.ensures, c.if-max_size-len.false)))

pub waiting-preserved : goal.waiting-preserved
waiting-preserved c =
    let stays = c.waiting.invariant.stays in
    let grows = c.waiting.invariant.grows in
    let capacity = c.waiting.invariant.capacity in
    let room = c.waiting.invariant.room in
    let fits : vec_len c.waiting.out + frame_size (frame_view c.in-Some.frame) ≤ c.args.max_size = omega (arith, c.len.ensures, c.size_of_frame.ensures, c.if-max_size-len.false) in
    record {
      left = left_first _ _ _ c.args.kind c.args.max_size (vec_len c.waiting.out) c.waiting.self c.waiting.pending c.waiting.sent (frame_view c.in-Some.frame) c.put_frame.new.out.items (vec_len c.put_frame.new.out) c.tell.new.self c.drop_first-in-waiting.new.pending c.note.new.sent c.waiting.invariant.left
          (sym c.first_frame.ensures.frame ∙ ap (option_map frame_view) c.in-Some.is) fits
          (record { told = c.tell.ensures; dropped = c.drop_first-in-waiting.ensures; carried = c.in_ok-note.ensures.ok }) c.put_frame.ensures.len c.put_frame.ensures.items;
      begins = begins_on (vec_len c.args.out.now) _ _ _ _ c.waiting.invariant.begins (let ok = c.waiting.out.ok in omega arith) c.put_frame.ensures.items;
      grows = omega (arith, c.put_frame.ensures.len);
      stays = omega (arith, c.put_frame.ensures.len);
      capacity = omega (arith, c.put_frame.ensures.capacity);
      room = omega (arith, c.put_frame.ensures.capacity);
    }

pub returns-after-waiting-clause-items : goal.returns-after-waiting-clause-items
returns-after-waiting-clause-items c = (written_none _ _ _ c.args.kind c.args.max_size (vec_len c.waiting.out) c.waiting.self c.waiting.pending c.waiting.sent c.waiting.invariant.left (sym c.is_waiting.ensures ∙ c.waiting-test.false)).items

pub returns-after-waiting-clause-used : goal.returns-after-waiting-clause-used
returns-after-waiting-clause-used c = (written_none _ _ _ c.args.kind c.args.max_size (vec_len c.waiting.out) c.waiting.self c.waiting.pending c.waiting.sent c.waiting.invariant.left (sym c.is_waiting.ensures ∙ c.waiting-test.false)).used_up

pub returns-after-waiting-clause-state : goal.returns-after-waiting-clause-state
returns-after-waiting-clause-state c = (written_none _ _ _ c.args.kind c.args.max_size (vec_len c.waiting.out) c.waiting.self c.waiting.pending c.waiting.sent c.waiting.invariant.left (sym c.is_waiting.ensures ∙ c.waiting-test.false)).state

pub returns-after-waiting-clause-pending : goal.returns-after-waiting-clause-pending
returns-after-waiting-clause-pending c = (written_none _ _ _ c.args.kind c.args.max_size (vec_len c.waiting.out) c.waiting.self c.waiting.pending c.waiting.sent c.waiting.invariant.left (sym c.is_waiting.ensures ∙ c.waiting-test.false)).pending

pub returns-after-waiting-clause-sent : goal.returns-after-waiting-clause-sent
returns-after-waiting-clause-sent c = (written_none _ _ _ c.args.kind c.args.max_size (vec_len c.waiting.out) c.waiting.self c.waiting.pending c.waiting.sent c.waiting.invariant.left (sym c.is_waiting.ensures ∙ c.waiting-test.false)).carried

pub returns-then-max_size-len-clause-items : goal.returns-then-max_size-len-clause-items
returns-then-max_size-len-clause-items c = (written_full _ _ _ c.args.kind c.args.max_size (vec_len c.waiting.out) c.waiting.self c.waiting.pending c.waiting.sent (frame_view c.in-Some.frame) c.waiting.invariant.left (sym c.first_frame.ensures.frame ∙ ap (option_map frame_view) c.in-Some.is) (omega (arith, c.len.ensures, c.size_of_frame.ensures, c.if-max_size-len.true))).items

pub returns-then-max_size-len-clause-used : goal.returns-then-max_size-len-clause-used
returns-then-max_size-len-clause-used c = (written_full _ _ _ c.args.kind c.args.max_size (vec_len c.waiting.out) c.waiting.self c.waiting.pending c.waiting.sent (frame_view c.in-Some.frame) c.waiting.invariant.left (sym c.first_frame.ensures.frame ∙ ap (option_map frame_view) c.in-Some.is) (omega (arith, c.len.ensures, c.size_of_frame.ensures, c.if-max_size-len.true))).used_up

pub returns-then-max_size-len-clause-state : goal.returns-then-max_size-len-clause-state
returns-then-max_size-len-clause-state c = (written_full _ _ _ c.args.kind c.args.max_size (vec_len c.waiting.out) c.waiting.self c.waiting.pending c.waiting.sent (frame_view c.in-Some.frame) c.waiting.invariant.left (sym c.first_frame.ensures.frame ∙ ap (option_map frame_view) c.in-Some.is) (omega (arith, c.len.ensures, c.size_of_frame.ensures, c.if-max_size-len.true))).state

pub returns-then-max_size-len-clause-pending : goal.returns-then-max_size-len-clause-pending
returns-then-max_size-len-clause-pending c = (written_full _ _ _ c.args.kind c.args.max_size (vec_len c.waiting.out) c.waiting.self c.waiting.pending c.waiting.sent (frame_view c.in-Some.frame) c.waiting.invariant.left (sym c.first_frame.ensures.frame ∙ ap (option_map frame_view) c.in-Some.is) (omega (arith, c.len.ensures, c.size_of_frame.ensures, c.if-max_size-len.true))).pending

pub returns-then-max_size-len-clause-sent : goal.returns-then-max_size-len-clause-sent
returns-then-max_size-len-clause-sent c = (written_full _ _ _ c.args.kind c.args.max_size (vec_len c.waiting.out) c.waiting.self c.waiting.pending c.waiting.sent (frame_view c.in-Some.frame) c.waiting.invariant.left (sym c.first_frame.ensures.frame ∙ ap (option_map frame_view) c.in-Some.is) (omega (arith, c.len.ensures, c.size_of_frame.ensures, c.if-max_size-len.true))).carried

pub waiting-smaller : goal.waiting-smaller
waiting-smaller c = fewer_wait c.args.kind c.waiting.pending c.drop_first-in-waiting.new.pending (sym c.is_waiting.ensures ∙ c.waiting-test.true) c.drop_first-in-waiting.ensures

-- STREAM frames that go say what was written, and fit where they are written.
use Rattle.std.proofs.Common.{◌≡◌, ℕ, ◌+◌, ◌-◌, ◌^◌, ◌<◌, ◌≤◌, min, length, take, drop, [], ◌∷◌, ◌++◌, Bool, true, false, cond, List, Option, Some, None, refl, sym, ap, ◌∙◌, subst, arith, inl, inr, length-append, length-drop, length-take, drop-drop}
use Rattle.std.specs.Prelude.{nat_lt, ◌==◌, slice_range}
use Rattle.std.specs.Option.{is_some, is_none, IsSome, option_map}
use Rattle.std.specs.List.{AllByRecursion}
use Rattle.std.proofs.lemmas.Bool.{and_parts, or_cases, ltb-true, eqb-true, eq-eqb}
use Rattle.std.proofs.lemmas.List.{append_assoc, take-append-drop}
use Rattle.quic_wire_core.specs.Law.{length-shortest, varint_size_le}
use Rattle.quic_wire.specs.Writing.{StreamFits, stream_spelling, width_of, offset_width, length_width, length_if}
use Rattle.quic_wire.proofs.FrameWritten.{stream_length}
use Rattle.quic_send_buffer.specs.Buffered as buffered
use Rattle.quic_send_buffer.specs.Buffered.{Buffered, written, next_start, next_range, next_count, sent_end, sent_count, room_behind, writes_length}
use Rattle.quic_send_buffer.proofs.Buffered.Calls.{next_kept, next_bounded, sent_from, sent_within}
use Rattle.quic_streams_parts.specs.Table.{at}
use Rattle.quic_streams_parts.specs.SendHalf.{SendHalf, frame_of, frame_counts, reaches_end}
use Rattle.quic_streams_parts.specs.RecvHalf.{end_of}
use Rattle.quic_streams_state.specs.State.{is_opened, sends_on}
use Rattle.quic_streams_state.specs.Frames.{Sent, least_stream_room, stream_room, frame_sent, with_stream_frames}
use Rattle.quic_streams_laws.specs.Few.{AreFew}
use Rattle.quic_streams_laws.specs.FewLaws.{few_kept}
use Rattle.quic_streams_laws.specs.ControlWalk.{by_stream_frames}
use Rattle.quic_streams_laws.specs.KeepingLaws.{by_frame, polled_on}
use Rattle.quic_streams_laws.specs.SummedLaws.{opened_below}
use Rattle.quic_streams_laws.specs.Written.{Wrote, IsSendHalf, HoldsWritten, StandsAt, SaysWritten, SaysSo}
use Rattle.quic_streams_laws.specs.WrittenHalves.{bytes_written, polled_holds}
use Rattle.quic_streams_laws.specs.WrittenLaws.{holds_kept, live_holds}

-- ---- ranges

-- the bytes of a range stand where they stood
range_stands : (bytes : List ℕ) (a z : ℕ) → a ≤ length bytes → StandsAt bytes a (slice_range bytes a z)
range_stands bytes a z low = record {
  before = take a bytes;
  behind = drop (z - a) (drop a bytes);
  is = append_assoc (take a bytes) (take (z - a) (drop a bytes)) (drop (z - a) (drop a bytes))
      ∙ (ap (λ (bs : List ℕ). take a bytes ++ bs) (take-append-drop (z - a) (drop a bytes))
      ∙ take-append-drop a bytes);
  place = (let l = length-take a bytes in omega arith);
}

range_length : (bytes : List ℕ) (a z : ℕ) → a ≤ z → z ≤ length bytes → length (slice_range bytes a z) ≡ z - a
range_length bytes a z low high =
    let cut = length-take (z - a) (drop a bytes) in
    let rest = length-drop a bytes in
    omega arith

-- ---- widths

-- a number takes 8 bytes at most
narrow : (n : ℕ) → width_of n ≤ 8
narrow n = rw (length-shortest n) (varint_size_le n)

-- an offset is as wide as it is written
offset_widths : (n : ℕ) → offset_width n ≡ buffered.offset_width n
offset_widths n = ap (λ (w : ℕ). cond (n == 0) 0 w) (length-shortest n)

offset_narrow : (n : ℕ) → offset_width n ≤ 8
offset_narrow n = go (n == 0)
  where
    go : (b : Bool) → cond b 0 (width_of n) ≤ 8
    go true = omega arith
    go false = narrow n

-- where a length is written, 8 bytes of the room are for it
counted : (b : Buffered) (room : ℕ) (bytes : List ℕ) → 16 ≤ room → length bytes ≡ sent_end b room - next_start b → offset_width (next_start b) + length_width (length_if (writes_length b room) bytes) + length bytes ≤ room
counted b room bytes some count = go (writes_length b room) refl count
  where
    wide : offset_width (next_start b) ≡ buffered.offset_width (next_start b)
    wide = offset_widths (next_start b)

    go : (t : Bool) → writes_length b room ≡ t → length bytes ≡ next_start b + min (next_count b) (cond t (room_behind room (next_start b) - 8) (room_behind room (next_start b))) - next_start b
        → offset_width (next_start b) + length_width (length_if t bytes) + length bytes ≤ room
    go true is e =
        let w = wide in
        let few = offset_narrow (next_start b) in
        let short = narrow (length bytes) in
        omega arith
    go false is e =
        let w = wide in
        let few = offset_narrow (next_start b) in
        omega arith

-- ---- the frame of a half

no_some : {A : Type 0} (o : Option A) → o ≡ None → IsSome o → ⊥
no_some None e f = cc
no_some (Some x) e f = cc

module _ (w : Wrote) (id : ℕ) (h : SendHalf) (room : ℕ) (i : IsSendHalf w h) (counts : frame_counts h room ≡ true) where
  -- a half that was reset has no frame
  pub frame_kept : w.reset ≡ None
  frame_kept = go w.reset refl
    where
      go : (o : Option ℕ) → w.reset ≡ o → w.reset ≡ None
      go None e = e
      go (Some code) e =
          let g = i.gone (ap is_some e) in
          let none : length h.buffer.kept ≡ 0 = ap length g.kept in
          let is_reset : is_none h.reset ≡ false = ap is_none (i.reset ∙ ap (option_map (λ code. length w.bytes)) e) in
          let low = next_kept h.buffer i.lawful in
          let high = next_bounded h.buffer i.lawful in
          let most = sent_within h.buffer room i.lawful in
          absurd (elim (or_cases (nat_lt (next_start h.buffer) (sent_end h.buffer room)) (reaches_end h (sent_end h.buffer room)) counts) [
            | inl x ↦ (let lt = ltb-true (next_start h.buffer) (sent_end h.buffer room) x in omega arith)
            | inr x ↦ clash (sym is_reset ∙ (and_parts (is_none h.reset) _ x).0)
          ])
        where
          clash : false ≡ true → ⊥
          clash e = cc

  to_end : (next_start h.buffer ≤ sent_end h.buffer room) × (sent_end h.buffer room ≤ length w.bytes)
  to_end =
      let all = bytes_written w h i frame_kept in
      let low = sent_from h.buffer room in
      let high = sent_within h.buffer room i.lawful in
      let most = next_bounded h.buffer i.lawful in
      (low, omega arith)

  bytes_are : (frame_of id h room).bytes ≡ slice_range w.bytes (next_start h.buffer) (sent_end h.buffer room)
  bytes_are =
      let base = next_kept h.buffer i.lawful in
      let low = to_end.0 in
      let from : h.buffer.base + (next_start h.buffer - h.buffer.base) ≡ next_start h.buffer = omega arith in
      let count : (sent_end h.buffer room - h.buffer.base) - (next_start h.buffer - h.buffer.base) ≡ sent_end h.buffer room - next_start h.buffer = omega arith in
      ap (λ (bs : List ℕ). slice_range bs (next_start h.buffer - h.buffer.base) (sent_end h.buffer room - h.buffer.base)) (i.rest frame_kept).kept
      ∙ ap (λ (bs : List ℕ). take ((sent_end h.buffer room - h.buffer.base) - (next_start h.buffer - h.buffer.base)) bs) (drop-drop (next_start h.buffer - h.buffer.base) h.buffer.base w.bytes)
      ∙ ap (λ (k : ℕ). take ((sent_end h.buffer room - h.buffer.base) - (next_start h.buffer - h.buffer.base)) (drop k w.bytes)) from
      ∙ ap (λ (k : ℕ). take k (drop (next_start h.buffer) w.bytes)) count

  -- how many bytes go
  frame_count : length (frame_of id h room).bytes ≡ sent_end h.buffer room - next_start h.buffer
  frame_count = ap length bytes_are ∙ range_length w.bytes (next_start h.buffer) (sent_end h.buffer room) to_end.0 to_end.1

  frame_end : end_of (frame_of id h room) ≡ sent_end h.buffer room
  frame_end = let count = frame_count in let low = to_end.0 in omega arith

  -- its bytes were written, and its end is the stream's
  pub frame_says : SaysWritten w (frame_of id h room)
  frame_says =
      let low = to_end.0 in
      let high = to_end.1 in
      record {
        says = record {
          stands = subst (λ (bs : List ℕ). StandsAt w.bytes (next_start h.buffer) bs) (sym bytes_are) (range_stands w.bytes (next_start h.buffer) (sent_end h.buffer room) (omega arith));
          ended = λ e. sym i.finished ∙ (and_parts h.finished _ (and_parts (is_none h.reset) _ e).1).0;
          last = λ e. frame_end ∙ (eqb-true (sent_end h.buffer room) (written h.buffer) (and_parts h.finished _ (and_parts (is_none h.reset) _ e).1).1 ∙ bytes_written w h i frame_kept);
        };
        ends = λ over all. ends over all;
        kept = frame_kept;
      }
    where
      ends : w.ended ≡ true → end_of (frame_of id h room) ≡ length w.bytes → reaches_end h (sent_end h.buffer room) ≡ true
      ends over all =
          let free : is_none h.reset ≡ true = ap is_none (i.reset ∙ ap (option_map (λ code. length w.bytes)) frame_kept) in
          let finished : h.finished ≡ true = i.finished ∙ over in
          let reached : sent_end h.buffer room ≡ written h.buffer = sym frame_end ∙ (all ∙ sym (bytes_written w h i frame_kept)) in
          rw (free, finished, eq-eqb (sent_end h.buffer room) (written h.buffer) reached) refl

  -- its numbers have a form
  pub frame_fits : id < 2 ^ 62 → StreamFits (frame_of id h room)
  frame_fits small =
      let count = frame_count in
      let within = i.within in
      let limit = i.limit in
      let low = to_end.0 in
      let high = to_end.1 in
      let offset : next_start h.buffer < 2 ^ 62 = omega arith in
      let long : length (frame_of id h room).bytes < 2 ^ 62 = omega arith in
      (small, offset, long)

  -- it fills no more than the room behind its type and id
  pub frame_short : 16 ≤ room → length (stream_spelling (writes_length h.buffer room) (frame_of id h room)) ≤ 1 + width_of id + room
  frame_short some =
      let long = stream_length (writes_length h.buffer room) (frame_of id h room) in
      let few = counted h.buffer room (frame_of id h room).bytes some frame_count in
      omega arith

-- ---- frames of all streams

-- what holds of each in two lists holds of each in both
pub all_append : {A : Type 0} (P : A → Type 0) (xs ys : List A) → AllByRecursion P xs → AllByRecursion P ys → AllByRecursion P (xs ++ ys)
all_append P [] ys all more = more
all_append P (x ∷ xs) ys all more = (all.0, all_append P xs ys all.1 more)

-- frames that say what was written, of streams that hold it, within their room
record Goes (wrote : ℕ → Wrote) (most : ℕ) (d : Sent) : Type 0 where
  holds : HoldsWritten wrote d.state
  few : AreFew d.state
  say : AllByRecursion (SaysSo wrote) d.frames
  within : length d.bytes ≤ most

one_goes : (wrote : ℕ → Wrote) (fair : Bool) (most : ℕ) (d : Sent) (id : ℕ) (h : SendHalf) → length d.bytes + least_stream_room ≤ most → at d.state.sending.halves.live id ≡ Some h → frame_counts h (stream_room most d id) ≡ true → Goes wrote most d → Goes wrote most (frame_sent fair most d id h)
one_goes wrote fair most d id h some is counts g =
    let room : ℕ = stream_room most d id in
    let i : IsSendHalf (wrote id) h = live_holds wrote d.state g.holds id h is in
    let opened : is_opened d.state id ≡ true = (and_parts (sends_on d.state.side id) (is_opened d.state id) (g.holds.shape.sending.allowed id (g.holds.shape.sending.placed id h is))).1 in
    let wide = narrow id in
    let short = frame_short (wrote id) id h room i counts (omega arith) in
    let long = length-append d.bytes (stream_spelling (writes_length h.buffer room) (frame_of id h room)) in
    record {
      holds = by_frame (HoldsWritten wrote) (holds_kept wrote) fair d.state id room h is (λ x. polled_holds (wrote id) h x room) g.holds;
      few = by_frame AreFew few_kept fair d.state id room h is (polled_on h room) g.few;
      say = all_append (SaysSo wrote) d.frames (frame_of id h room ∷ []) g.say (record { says = frame_says (wrote id) id h room i counts; fits = frame_fits (wrote id) id h room i counts (opened_below d.state id g.few opened) }, tt);
      within = omega arith;
    }

-- frames that go say what was written, have a form, and fill no more than their room
pub stream_frames_say : (wrote : ℕ → Wrote) (fair : Bool) (most : ℕ) (d : Sent) → HoldsWritten wrote d.state → AreFew d.state → AllByRecursion (SaysSo wrote) d.frames → length d.bytes ≤ most
    → AllByRecursion (SaysSo wrote) (with_stream_frames fair most d).frames × (length (with_stream_frames fair most d).bytes ≤ most)
stream_frames_say wrote fair most d holds few say within =
    let g : Goes wrote most (with_stream_frames fair most d) = by_stream_frames fair most (Goes wrote most) (λ d id h is first room counts g. one_goes wrote fair most d id h room is counts g) d (record { holds = holds; few = few; say = say; within = within }) in
    (g.say, g.within)

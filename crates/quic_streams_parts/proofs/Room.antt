-- The next frame of a sending half fits the room that it was given.
use Rattle.std.proofs.Common.{◌≡◌, ℕ, ◌+◌, ◌-◌, ◌≤◌, ◌++◌, Bool, true, false, cond, List, [], length, min, drop, refl, sym, arith, ap, ◌∙◌, ◌==◌, inl, inr}
use Rattle.std.specs.Prelude.{slice_range}
use Rattle.std.proofs.lemmas.Bool.{cases_lt, lt-ltb, le-ltb}
use Rattle.std.proofs.lemmas.List.{length-take, length-drop}
use Rattle.quic_wire.specs.Writing as wire
use Rattle.quic_send_buffer.specs.Buffered as buffered
use Rattle.quic_streams_parts.specs.SendHalf.{SendHalf, frame_of, reaches_end, meta_of, frame_meta, HasFrame}
use Rattle.quic_streams_parts.specs.RecvHalf.{end_of}
use Rattle.quic_send_buffer.specs.declared.stream_meta.StreamMeta.{StreamMeta}
use Rattle.quic_streams_parts.specs.declared.send.FrameMeta.{FrameMeta}

-- both say how wide a number is
widths : (n : ℕ) → wire.width_of n ≡ buffered.width n
widths n =
    elim (cases_lt n 64) [
      | inl a ↦ rw (lt-ltb n 64 a) refl
      | inr a ↦ rw (le-ltb n 64 a) (elim (cases_lt n 16384) [
        | inl b ↦ rw (lt-ltb n 16384 b) refl
        | inr b ↦ rw (le-ltb n 16384 b) (elim (cases_lt n 1073741824) [
          | inl d ↦ rw (lt-ltb n 1073741824 d) refl
          | inr d ↦ rw (le-ltb n 1073741824 d) refl
        ])
      ])
    ]

narrow : (n : ℕ) → buffered.width n ≤ 8
narrow n =
    elim (cases_lt n 64) [
      | inl a ↦ rw (lt-ltb n 64 a) (omega arith)
      | inr a ↦ rw (le-ltb n 64 a) (elim (cases_lt n 16384) [
        | inl b ↦ rw (lt-ltb n 16384 b) (omega arith)
        | inr b ↦ rw (le-ltb n 16384 b) (elim (cases_lt n 1073741824) [
          | inl d ↦ rw (lt-ltb n 1073741824 d) (omega arith)
          | inr d ↦ rw (le-ltb n 1073741824 d) (omega arith)
        ])
      ])
    ]

offset_widths : (n : ℕ) → wire.offset_width n ≡ buffered.offset_width n
offset_widths n = ap (λ (w : ℕ). cond (n == 0) 0 w) (widths n)

narrow_if : (b : Bool) (w : ℕ) → w ≤ 8 → cond b 0 w ≤ 8
narrow_if true w le = omega arith
narrow_if false w le = le

-- a length and the bytes behind it fit what the offset leaves
by_need : (b : Bool) (left room count : ℕ) → 8 ≤ room → count ≤ min left (cond b (room - 8) room) → wire.length_width (wire.some_if b count) + count ≤ room
by_need true left room count some le =
    let small : wire.width_of count ≤ 8 = rw (widths count) (narrow count) in
    omega arith
by_need false left room count some le = omega arith

-- so the frame fits the room behind its type and id
fits_behind : (h : SendHalf) (id room count : ℕ) → 16 ≤ room → count ≤ buffered.sent_end h.buffer room - (buffered.next_start h.buffer)
    → wire.stream_header_size id (buffered.next_start h.buffer) (wire.some_if (buffered.writes_length h.buffer room) count) + count ≤ 1 + wire.width_of id + room
fits_behind h id room count some le =
    let off : wire.offset_width (buffered.next_start h.buffer) ≡ buffered.offset_width (buffered.next_start h.buffer) = offset_widths (buffered.next_start h.buffer) in
    let small : buffered.offset_width (buffered.next_start h.buffer) ≤ 8 = narrow_if ((buffered.next_start h.buffer) == 0) (buffered.width (buffered.next_start h.buffer)) (narrow (buffered.next_start h.buffer)) in
    let left : ℕ = buffered.next_count h.buffer in
    let behind : ℕ = buffered.room_behind room (buffered.next_start h.buffer) in
    let most : 8 ≤ behind = omega arith in
    let few : count ≤ min left (cond (buffered.writes_length h.buffer room) (behind - 8) behind) = omega arith in
    let rest : wire.length_width (wire.some_if (buffered.writes_length h.buffer room) count) + count ≤ behind = by_need (buffered.writes_length h.buffer room) left behind count most few in
    omega arith

-- what stands before the bytes, and they themselves
pub fits : (h : SendHalf) (id room : ℕ) (meta : FrameMeta) → HasFrame h room → 16 ≤ room → meta ≡ frame_meta h room
    → wire.stream_header_size id meta.offsets.start (wire.some_if meta.has_length (meta.offsets.end - meta.offsets.start)) + (meta.offsets.end - meta.offsets.start) ≤ 1 + wire.width_of id + room
fits h id room meta f some m =
    rw m (fits_behind h id room (buffered.sent_end h.buffer room - buffered.next_start h.buffer) some (omega arith))

-- what is written is the half's next frame
header_spelled : (wl : Bool) (id start : ℕ) (fin : Bool) (n : ℕ) (bytes : List ℕ) → n ≡ length bytes
    → wire.header_of wl (record { id = id; offset = start; fin = fin; bytes = [] }) n ++ bytes ≡ wire.stream_spelling wl (record { id = id; offset = start; fin = fin; bytes = bytes })
unfolding wire.stream_spelling
header_spelled wl id start fin n bytes e = ap (λ (k : ℕ). wire.header_of wl (record { id = id; offset = start; fin = fin; bytes = [] }) k ++ bytes) e

pub spelled : (h : SendHalf) (id room : ℕ) (meta : FrameMeta) → HasFrame h room → meta ≡ frame_meta h room
    → wire.header_of meta.has_length (record { id = id; offset = meta.offsets.start; fin = meta.fin; bytes = [] }) (meta.offsets.end - meta.offsets.start) ++ slice_range h.buffer.kept (meta.offsets.start - h.buffer.base) (meta.offsets.end - h.buffer.base)
    ≡ wire.stream_spelling (buffered.writes_length h.buffer room) (frame_of id h room)
spelled h id room meta f m =
    let from : ℕ = buffered.next_start h.buffer - h.buffer.base in
    let to : ℕ = buffered.sent_end h.buffer room - h.buffer.base in
    let taken = length-take (to - from) (drop from h.buffer.kept) in
    let behind = length-drop from h.buffer.kept in
    let kept = f.kept in
    let ordered = f.ordered in
    let bounded = f.bounded in
    let count : buffered.sent_end h.buffer room - buffered.next_start h.buffer ≡ length (slice_range h.buffer.kept from to) = omega (arith, taken, behind, kept, ordered, bounded) in
    let said = λ (x : FrameMeta). wire.header_of x.has_length (record { id = id; offset = x.offsets.start; fin = x.fin; bytes = [] }) (x.offsets.end - x.offsets.start) ++ slice_range h.buffer.kept (x.offsets.start - h.buffer.base) (x.offsets.end - h.buffer.base) in
    ap said m ∙ header_spelled (buffered.writes_length h.buffer room) id (buffered.next_start h.buffer) (reaches_end h (buffered.sent_end h.buffer room)) (buffered.sent_end h.buffer room - buffered.next_start h.buffer) (slice_range h.buffer.kept from to) count

-- the bytes of the half's next frame end where its offsets do
frame_end : (h : SendHalf) (id room : ℕ) → HasFrame h room → end_of (frame_of id h room) ≡ buffered.sent_end h.buffer room
frame_end h id room f =
    let from : ℕ = buffered.next_start h.buffer - h.buffer.base in
    let to : ℕ = buffered.sent_end h.buffer room - h.buffer.base in
    let taken = length-take (to - from) (drop from h.buffer.kept) in
    let behind = length-drop from h.buffer.kept in
    let kept = f.kept in
    let ordered = f.ordered in
    let bounded = f.bounded in
    omega (arith, taken, behind, kept, ordered, bounded)

-- what is carried, by its offsets and its end
abbrev pub carried : ℕ → FrameMeta → ℕ → StreamMeta
carried id meta end = record { id = id; offsets = record { start = meta.offsets.start; end = end }; fin = meta.fin }

-- the half's next frame carries what was taken
pub carries : (h : SendHalf) (id room : ℕ) (meta : FrameMeta) → HasFrame h room → meta ≡ frame_meta h room
    → carried id meta meta.offsets.end ≡ meta_of (frame_of id h room)
carries h id room meta f m =
    ap (λ (x : FrameMeta). carried id x x.offsets.end) m ∙ ap (λ (end : ℕ). carried id (frame_meta h room) end) (sym (frame_end h id room f))

-- The STREAM frames that go, one after another.
use Rattle.std.proofs.Common.{◌≡◌, ℕ, zero, suc, ◌+◌, ◌-◌, ◌≤◌, ◌<◌, Bool, true, false, List, [], ◌∷◌, ◌++◌, length, take, Option, Some, None, IfSome, ◌⊎◌, inl, inr, refl, sym, ap, subst, ◌∙◌, arith}
use Rattle.std.specs.Prelude.{nat_le, map, if◌then◌else◌}
use Rattle.std.proofs.lemmas.List.{append_assoc, append-nil, length-append, map-append}
use Rattle.std.proofs.lemmas.Bool.Decides.{leb_tells}
use Rattle.quic_wire.specs.Writing.{stream_spelling, width_of}
use Rattle.quic_send_buffer.specs.Buffered.{writes_length}
use Rattle.quic_send_buffer.specs.declared.stream_meta.StreamMeta.{StreamMeta}
use Rattle.quic_streams_parts.specs.Table.{at}
use Rattle.quic_streams_parts.specs.SendHalf.{SendHalf, frame_of, frame_counts, half_after, turned, meta_of}
use Rattle.quic_streams_parts.specs.Queue.{first_queued}
use Rattle.quic_streams_halves.specs.Halves.{placed}
use Rattle.quic_streams_state.specs.State.{StreamsState}
use Rattle.quic_streams_state.specs.Sends.{sent_in}
use Rattle.quic_streams_state.proofs.Going.{begins_on}
use Rattle.quic_streams_state.specs.Frames.{Sent, least_stream_room, stream_room, after_frame_sent, frame_sent, next_stream, frame_if, frame_and_more, stream_frames, stream_frames_in, no_stream_frames, stream_if, counting, going, noted_in}

-- ---- the stream that goes next

room_test : (used most : ℕ) → nat_le (used + least_stream_room) most ≡ nat_le least_stream_room (most - used)
room_test used most = go (leb_tells (used + least_stream_room) most) (leb_tells least_stream_room (most - used))
  where
    go : ((nat_le (used + least_stream_room) most ≡ true) × (used + least_stream_room ≤ most)) ⊎ ((nat_le (used + least_stream_room) most ≡ false) × (most < used + least_stream_room))
        → ((nat_le least_stream_room (most - used) ≡ true) × (least_stream_room ≤ most - used)) ⊎ ((nat_le least_stream_room (most - used) ≡ false) × (most - used < least_stream_room))
        → nat_le (used + least_stream_room) most ≡ nat_le least_stream_room (most - used)
    go (inl p) (inl q) = p.0 ∙ sym q.0
    go (inl p) (inr q) = let a = p.1 in let b = q.1 in absurd (omega arith)
    go (inr p) (inl q) = let a = p.1 in let b = q.1 in absurd (omega arith)
    go (inr p) (inr q) = p.0 ∙ sym q.0

-- the stream that goes next is asked for by how many bytes are left
next_is : (most : ℕ) (d : Sent) → next_stream most d ≡ (if nat_le least_stream_room (most - length d.bytes) then first_queued d.state.sending.queue else None)
next_is most d = ap (λ (b : Bool). if b then first_queued d.state.sending.queue else None) (room_test (length d.bytes) most)

-- a stream whose frame goes: its part, and how much room there is
pub record Goes (s : StreamsState) (left id : ℕ) : Type 0 where
  pub half : SendHalf
  pub found : at s.sending.halves.live id ≡ Some half
  pub counts : frame_counts half (left - (1 + width_of id)) ≡ true
  pub room : least_stream_room ≤ left

pub goes : (s : StreamsState) (left id : ℕ) → going s left ≡ Some id → Goes s left id
goes s left id is = go (leb_tells least_stream_room left) (nat_le least_stream_room left) refl is
  where
    by_test : (h : SendHalf) (n : ℕ) (b : Bool) → frame_counts h (left - (1 + width_of n)) ≡ b → (if b then Some n else None) ≡ Some id → at s.sending.halves.live n ≡ Some h → least_stream_room ≤ left → Goes s left id
    by_test h n false test e found room = cc
    by_test h n true test e found room =
        let same : n ≡ id = cc in
        subst (Goes s left) same (record { half = h; found = found; counts = test; room = room })

    by_half : (o : Option SendHalf) (n : ℕ) → at s.sending.halves.live n ≡ o → stream_if o left n ≡ Some id → least_stream_room ≤ left → Goes s left id
    by_half None n found e room = cc
    by_half (Some h) n found e room = by_test h n (frame_counts h (left - (1 + width_of n))) refl e found room

    by_first : (o : Option ℕ) → counting o s left ≡ Some id → least_stream_room ≤ left → Goes s left id
    by_first None e room = cc
    by_first (Some n) e room = by_half (at s.sending.halves.live n) n refl e room

    go : ((nat_le least_stream_room left ≡ true) × (least_stream_room ≤ left)) ⊎ ((nat_le least_stream_room left ≡ false) × (left < least_stream_room)) → (b : Bool) → nat_le least_stream_room left ≡ b
        → counting (if b then first_queued s.sending.queue else None) s left ≡ Some id → Goes s left id
    go t false test e = cc
    go (inl p) true test e = by_first (first_queued s.sending.queue) e p.1
    go (inr p) true test e = let no = p.0 in let wrong : true ≡ false = sym test ∙ no in cc

-- ---- one step

-- nothing more goes where no stream goes next
stops : (n : ℕ) (fair : Bool) (most : ℕ) (d : Sent) → going d.state (most - length d.bytes) ≡ None → stream_frames n fair most d ≡ d
stops zero fair most d none = refl
stops (suc n) fair most d none = ap (λ (o : Option ℕ). frame_and_more o (stream_frames n fair most) fair most d) (next_is most d) ∙ by_first (if nat_le least_stream_room (most - length d.bytes) then first_queued d.state.sending.queue else None) none
  where
    by_test : (b : Bool) (id : ℕ) (h : SendHalf) → (if b then Some id else None) ≡ None → (if b then stream_frames n fair most (frame_sent fair most d id h) else d) ≡ d
    by_test true id h e = cc
    by_test false id h e = refl

    by_half : (o : Option SendHalf) (id : ℕ) → stream_if o (most - length d.bytes) id ≡ None → frame_if o (stream_frames n fair most) fair most d id ≡ d
    by_half None id e = refl
    by_half (Some h) id e = by_test (frame_counts h (stream_room most d id)) id h e

    by_first : (o : Option ℕ) → counting o d.state (most - length d.bytes) ≡ None → frame_and_more o (stream_frames n fair most) fair most d ≡ d
    by_first None e = refl
    by_first (Some id) e = by_half (at d.state.sending.halves.live id) id e

-- the frame of a stream that goes next goes, and more behind it
steps : (n : ℕ) (fair : Bool) (most : ℕ) (d : Sent) (id : ℕ) (h : SendHalf) → going d.state (most - length d.bytes) ≡ Some id → at d.state.sending.halves.live id ≡ Some h
    → stream_frames (suc n) fair most d ≡ stream_frames n fair most (frame_sent fair most d id h)
steps n fair most d id h is found = ap (λ (o : Option ℕ). frame_and_more o (stream_frames n fair most) fair most d) (next_is most d) ∙ by_first (if nat_le least_stream_room (most - length d.bytes) then first_queued d.state.sending.queue else None) is
  where
    by_test : (b : Bool) (m : ℕ) (g : SendHalf) → at d.state.sending.halves.live m ≡ Some g → (if b then Some m else None) ≡ Some id
        → (if b then stream_frames n fair most (frame_sent fair most d m g) else d) ≡ stream_frames n fair most (frame_sent fair most d id h)
    by_test false m g at_m e = cc
    by_test true m g at_m e =
        let same : m ≡ id = cc in
        let there : at d.state.sending.halves.live m ≡ at d.state.sending.halves.live id = ap (λ (k : ℕ). at d.state.sending.halves.live k) same in
        let half : g ≡ h = cc in
        ap (λ (k : ℕ). stream_frames n fair most (frame_sent fair most d k g)) same ∙ ap (λ (k : SendHalf). stream_frames n fair most (frame_sent fair most d id k)) half

    by_half : (o : Option SendHalf) (m : ℕ) → at d.state.sending.halves.live m ≡ o → stream_if o (most - length d.bytes) m ≡ Some id
        → frame_if o (stream_frames n fair most) fair most d m ≡ stream_frames n fair most (frame_sent fair most d id h)
    by_half None m at_m e = cc
    by_half (Some g) m at_m e = by_test (frame_counts g (stream_room most d m)) m g at_m e

    by_first : (o : Option ℕ) → counting o d.state (most - length d.bytes) ≡ Some id → frame_and_more o (stream_frames n fair most) fair most d ≡ stream_frames n fair most (frame_sent fair most d id h)
    by_first None e = cc
    by_first (Some m) e = by_half (at d.state.sending.halves.live m) m refl e

-- the frames so far stay
frames_stay : (n : ℕ) (fair : Bool) (most : ℕ) (d : Sent) → length d.frames ≤ length (stream_frames n fair most d).frames
frames_stay zero fair most d = omega arith
frames_stay (suc n) fair most d = by_first (next_stream most d) (λ (id : ℕ) (h : SendHalf). frames_stay n fair most (frame_sent fair most d id h))
  where
    by_test : (b : Bool) (id : ℕ) (h : SendHalf) → length (frame_sent fair most d id h).frames ≤ length (stream_frames n fair most (frame_sent fair most d id h)).frames
        → length d.frames ≤ length (if b then stream_frames n fair most (frame_sent fair most d id h) else d).frames
    by_test true id h more =
        let longer : length (frame_sent fair most d id h).frames ≡ length d.frames + 1 = length-append d.frames (frame_of id h (stream_room most d id) ∷ []) in
        omega arith
    by_test false id h more = omega arith

    by_half : (o : Option SendHalf) (id : ℕ) → ((h : SendHalf) → length (frame_sent fair most d id h).frames ≤ length (stream_frames n fair most (frame_sent fair most d id h)).frames)
        → length d.frames ≤ length (frame_if o (stream_frames n fair most) fair most d id).frames
    by_half None id more = omega arith
    by_half (Some h) id more = by_test (frame_counts h (stream_room most d id)) id h (more h)

    by_first : (o : Option ℕ) → ((id : ℕ) (h : SendHalf) → length (frame_sent fair most d id h).frames ≤ length (stream_frames n fair most (frame_sent fair most d id h)).frames)
        → length d.frames ≤ length (frame_and_more o (stream_frames n fair most) fair most d).frames
    by_first None more = omega arith
    by_first (Some id) more = by_half (at d.state.sending.halves.live id) id (more id)

-- a frame takes the bytes of its id at least
wide : (with_length : Bool) (id : ℕ) (h : SendHalf) (room : ℕ) → width_of id ≤ length (stream_spelling with_length (frame_of id h room))
unfolding stream_spelling
wide with_length id h room = simp length-append (omega arith)

-- the part of a stream and the queue after its frame went
put_is : (fair : Bool) (s : StreamsState) (id : ℕ) (h : SendHalf) (room : ℕ) → at s.sending.halves.live id ≡ Some h → record s { sending = sent_in fair (at s.sending.halves.live id) s.sending id room } ≡ after_frame_sent fair s id h room
put_is fair s id h room found =
    let q = turned fair s.sending.queue id (half_after h room) in
    ap (λ (o : Option SendHalf). record s { sending = sent_in fair o s.sending id room }) found
    ∙ ap (λ (o : Option SendHalf). record s { sending = record s.sending { halves = placed o s.side s.sending.halves id q.half; queue = q.queue } }) (sym found)

-- ---- the loop

-- the frames so far, from which on those that are left go: what stands written, what is noted of
-- them, and the streams
pub record Framed (fair : Bool) (most : ℕ) (all : Sent) (before : List ℕ) (first : List StreamMeta) (out : List ℕ) (noted : List StreamMeta) (s : StreamsState) : Type 0 where
  pub so_far : Sent
  pub fuel : ℕ
  pub rest : all ≡ stream_frames fuel fair most so_far
  pub enough : most ≤ fuel + length so_far.bytes
  pub items : out ≡ before ++ so_far.bytes
  pub carried : noted ≡ first ++ map meta_of so_far.frames
  pub state : s ≡ so_far.state

-- at first
pub framed_none : (fair : Bool) (most : ℕ) (before : List ℕ) (first : List StreamMeta) (s : StreamsState) → Framed fair most (stream_frames_in fair most s) before first before first s
framed_none fair most before first s = record {
  so_far = no_stream_frames s;
  fuel = most;
  rest = refl;
  enough = omega arith;
  items = sym (append-nil before);
  carried = sym (append-nil first);
  state = refl;
}

-- once the frame of a stream went, from frames that are told
more_from : (fair : Bool) (most : ℕ) (all : Sent) (before : List ℕ) (first : List StreamMeta) (out : List ℕ) (noted : List StreamMeta) (d : Sent) (fuel : ℕ)
    → all ≡ stream_frames fuel fair most d → most ≤ fuel + length d.bytes → out ≡ before ++ d.bytes → noted ≡ first ++ map meta_of d.frames
    → (id : ℕ) → going d.state (most - length d.bytes) ≡ Some id → 1 ≤ width_of id → (h : SendHalf) → at d.state.sending.halves.live id ≡ Some h → least_stream_room ≤ most - length d.bytes
    → (out' : List ℕ) (noted' : List StreamMeta) (s' : StreamsState)
    → out' ≡ out ++ stream_spelling (writes_length h.buffer (stream_room most d id)) (frame_of id h (stream_room most d id))
    → s' ≡ after_frame_sent fair d.state id h (stream_room most d id) → noted' ≡ noted ++ meta_of (frame_of id h (stream_room most d id)) ∷ []
    → Framed fair most all before first out' noted' s'
more_from fair most all before first out noted d zero rest enough items carried id is wide_id h found room out' noted' s' grown state more = absurd (omega arith)
more_from fair most all before first out noted d (suc n) rest enough items carried id is wide_id h found room out' noted' s' grown state more =
    let spelling : List ℕ = stream_spelling (writes_length h.buffer (stream_room most d id)) (frame_of id h (stream_room most d id)) in
    let some = wide (writes_length h.buffer (stream_room most d id)) id h (stream_room most d id) in
    let len = length-append d.bytes spelling in
    let meta : List StreamMeta = meta_of (frame_of id h (stream_room most d id)) ∷ [] in
    record {
      so_far = frame_sent fair most d id h;
      fuel = n;
      rest = rest ∙ steps n fair most d id h is found;
      enough = omega arith;
      items = grown ∙ ap (λ (x : List ℕ). x ++ spelling) items ∙ append_assoc before d.bytes spelling;
      carried = more ∙ ap (λ (x : List StreamMeta). x ++ meta) carried ∙ append_assoc first (map meta_of d.frames) meta
          ∙ ap (λ (x : List StreamMeta). first ++ x) (sym (map-append meta_of d.frames (frame_of id h (stream_room most d id) ∷ [])));
      state = state;
    }

module _ (fair : Bool) (most : ℕ) (all : Sent) (before : List ℕ) (first : List StreamMeta) (out : List ℕ) (noted : List StreamMeta) (s : StreamsState) (f : Framed fair most all before first out noted s) (left : ℕ) (within : left + length out ≡ most + length before) where
  -- how many bytes are left behind the frames so far
  left_is : left ≡ most - length f.so_far.bytes
  left_is = let len = ap length f.items ∙ length-append before f.so_far.bytes in omega arith

  going_is : going f.so_far.state (most - length f.so_far.bytes) ≡ going s left
  going_is = ap (λ (x : StreamsState). going x (most - length f.so_far.bytes)) (sym f.state) ∙ ap (going s) (sym left_is)

  -- what the frame of a stream adds to what stands written
  written : (id room : ℕ) (g : Goes s left id) (out' : List ℕ) → IfSome (at s.sending.halves.live id) (λ h. out' ≡ out ++ stream_spelling (writes_length h.buffer room) (frame_of id h room))
      → out' ≡ out ++ stream_spelling (writes_length g.half.buffer room) (frame_of id g.half room)
  written id room g out' grown = subst (λ (o : Option SendHalf). IfSome o (λ k. out' ≡ out ++ stream_spelling (writes_length k.buffer room) (frame_of id k room))) g.found grown

  -- a frame makes what is written longer
  pub framed_longer : (id room : ℕ) → going s left ≡ Some id → (out' : List ℕ) → IfSome (at s.sending.halves.live id) (λ h. out' ≡ out ++ stream_spelling (writes_length h.buffer room) (frame_of id h room))
      → length out + width_of id ≤ length out'
  framed_longer id room is out' grown =
      let g = goes s left id is in
      let more = ap length (written id room g out' grown) ∙ length-append out (stream_spelling (writes_length g.half.buffer room) (frame_of id g.half room)) in
      let some = wide (writes_length g.half.buffer room) id g.half room in
      omega arith

  -- what stood in front stands there yet
  pub framed_begins : (id room : ℕ) → going s left ≡ Some id → (out' : List ℕ) → IfSome (at s.sending.halves.live id) (λ h. out' ≡ out ++ stream_spelling (writes_length h.buffer room) (frame_of id h room))
      → (n : ℕ) → take n out ≡ before → n ≤ length out → take n out' ≡ before
  framed_begins id room is out' grown n begun few =
      let g = goes s left id is in
      begins_on n before out out' (stream_spelling (writes_length g.half.buffer room) (frame_of id g.half room)) begun few (written id room g out' grown)

  -- the frame of a stream went
  pub framed_more : (id room : ℕ) → going s left ≡ Some id → 1 ≤ width_of id → room ≡ left - (1 + width_of id) → (out' : List ℕ) (noted' : List StreamMeta) (s' : StreamsState)
      → IfSome (at s.sending.halves.live id) (λ h. out' ≡ out ++ stream_spelling (writes_length h.buffer room) (frame_of id h room))
      → s' ≡ record s { sending = sent_in fair (at s.sending.halves.live id) s.sending id room } → noted' ≡ noted_in (at s.sending.halves.live id) id room noted
      → Framed fair most all before first out' noted' s'
  framed_more id room is wide_id room_is out' noted' s' grown state more =
      let d = f.so_far in
      let g = goes s left id is in
      let h = g.half in
      let same : room ≡ stream_room most d id = room_is ∙ ap (λ (n : ℕ). n - (1 + width_of id)) left_is in
      let found : at d.state.sending.halves.live id ≡ Some h = ap (λ (x : StreamsState). at x.sending.halves.live id) (sym f.state) ∙ g.found in
      let spelled : out' ≡ out ++ stream_spelling (writes_length h.buffer room) (frame_of id h room) = written id room g out' grown in
      let put : s' ≡ after_frame_sent fair s id h room = state ∙ put_is fair s id h room g.found in
      let meta : noted' ≡ noted ++ meta_of (frame_of id h room) ∷ [] = more ∙ ap (λ (o : Option SendHalf). noted_in o id room noted) g.found in
      let enough_room : least_stream_room ≤ most - length d.bytes = let r = g.room in let l = left_is in omega arith in
      more_from fair most all before first out noted d f.fuel f.rest f.enough f.items f.carried id (going_is ∙ is) wide_id h found enough_room out' noted' s'
      (spelled ∙ ap (λ (r : ℕ). out ++ stream_spelling (writes_length h.buffer r) (frame_of id h r)) same)
      (put ∙ ap (λ (r : ℕ). after_frame_sent fair s id h r) same ∙ ap (λ (x : StreamsState). after_frame_sent fair x id h (stream_room most d id)) f.state)
      (meta ∙ ap (λ (r : ℕ). noted ++ meta_of (frame_of id h r) ∷ []) same)

  -- a frame goes at all where a stream goes next
  pub framed_some : (id : ℕ) → going s left ≡ Some id → 0 < length all.frames
  framed_some id is = go f.fuel f.rest f.enough
    where
      g : Goes s left id
      g = goes s left id is

      found : at f.so_far.state.sending.halves.live id ≡ Some g.half
      found = ap (λ (x : StreamsState). at x.sending.halves.live id) (sym f.state) ∙ g.found

      go : (n : ℕ) → all ≡ stream_frames n fair most f.so_far → most ≤ n + length f.so_far.bytes → 0 < length all.frames
      go zero rest enough = let r = g.room in let l = left_is in absurd (omega arith)
      go (suc n) rest enough =
          let next = frame_sent fair most f.so_far id g.half in
          let is_all : length all.frames ≡ length (stream_frames n fair most next).frames = ap (λ (x : Sent). length x.frames) (rest ∙ steps n fair most f.so_far id g.half (going_is ∙ is) found) in
          let stay = frames_stay n fair most next in
          let one : length next.frames ≡ length f.so_far.frames + 1 = length-append f.so_far.frames (frame_of id g.half (stream_room most f.so_far id) ∷ []) in
          omega arith

  all_is : going s left ≡ None → all ≡ f.so_far
  all_is none = f.rest ∙ stops f.fuel fair most f.so_far (going_is ∙ none)

  -- what stands where no stream goes next
  pub done_items : going s left ≡ None → out ≡ before ++ all.bytes
  done_items none = f.items ∙ ap (λ (x : Sent). before ++ x.bytes) (sym (all_is none))

  pub done_state : going s left ≡ None → s ≡ all.state
  done_state none = f.state ∙ ap (λ (x : Sent). x.state) (sym (all_is none))

  pub done_noted : going s left ≡ None → noted ≡ first ++ map meta_of all.frames
  done_noted none = f.carried ∙ ap (λ (x : Sent). first ++ map meta_of x.frames) (sym (all_is none))

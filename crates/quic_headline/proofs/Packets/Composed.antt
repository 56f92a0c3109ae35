-- What an end composes spells the payload of its next datagram, whatever its frames mean (RFC 9000,
-- sections 12.4 and 19).
use Rattle.std.proofs.Common.{◌≡◌, ℕ, ◌+◌, ◌-◌, ◌<◌, ◌≤◌, ◌^◌, zero, suc, Bool, true, false, cond, ◌&&◌, ◌||◌, ◌==◌, min, max, List, [], ◌∷◌, ◌++◌, length, drop, replicate, Some, None, refl, sym, subst, ap, ◌∙◌, ◌⊎◌, inl, inr, arith, Option}
use Rattle.std.specs.Prelude.{if◌then◌else◌, nat_le, nat_lt, ◌/◌}
use Rattle.std.proofs.lemmas.Bool.{leb-true, ltb-false, and_parts}
use Rattle.std.proofs.lemmas.List.{append-nil, append_assoc, length-append, length-take, length-drop}
use Rattle.quic_wire_core.specs.Law.{length-shortest, varint_size_le}
use Rattle.quic_wire.specs.Value.{FrameValue, StreamValue, ack, padding, ping, immediate_ack, stream, datagram, ack_frequency}
use Rattle.quic_wire.specs.Grammar.{Payload}
use Rattle.quic_wire.specs.AckGrammar.{EcnFits, AckFits, has_ecn}
use Rattle.quic_wire.specs.Writing.{spelling, stream_spelling, StreamFits, Fits, frame_size, width_of, offset_width}
use Rattle.quic_wire.proofs.FrameWritten.{stream_form, spelling_form, stream_length, spelling_length}
use Rattle.quic_wire.proofs.AckSet.{set_fits, set_length}
use Rattle.quic_send_buffer.specs.Buffered as buffered
use Rattle.quic_send_buffer.specs.Buffered.{Buffered, next_start, sent_end, writes_length}
use Rattle.quic_recovery_core.specs.PendingAcks.{lazy_threshold, most_ack_runs, is_filled, delay_of, can_send}
use Rattle.quic_streams_parts.specs.Table.{at}
use Rattle.quic_streams_parts.specs.SendHalf.{SendHalf, HasFrame, frame_of, frame_counts}
use Rattle.quic_retransmits.specs.declared.retransmits.ControlKind.{ControlKind}
use Rattle.quic_streams_state.specs.State.{Streams, streams_of}
use Rattle.quic_streams_state.specs.Control.{without_first, frame_told}
use Rattle.quic_streams_laws.specs.KindLaws.{GoesFirst}
use Rattle.quic_streams_state.specs.Frames.{after_frame_sent}
use Rattle.quic_spaces.specs.Marks.{Counts, told_counts}
use Rattle.quic_spaces.specs.Acknowledging.{written_delay, delay_at}
use Rattle.quic_machine.specs.End.{End, streams_at, with_signals}
use Rattle.quic_machine.specs.Poll.{asking, overhead, number_width, with_least, zeros_behind, Draft, no_frames, with_frame, beside_frames, most_ordinary, frame_room, close_room, fits, left, ping_if, immediate_if, with_signal_frames, with_control_frames, with_message, with_message_frames, with_asking, ack_of, with_ack, ack_fits, ack_if, composed_if, payload_of, lazied, asks_to_go, waits, draft_as, draft_of, probe, alone, whole, Leaving, Ready, nothing, probing, composed, behind_control, least_left, most_of, closing, lazied_as, with_signal, least_behind, challenge_if, response_if, with_challenge_frame, with_response_frame, with_ping_frame, request_of, after_request, request_if, with_frequency_frame}
use Rattle.quic_machine.specs.Parts.{Signals, current_mtu}
use Rattle.quic_machine.specs.Validation.{challenge_frame, response_frame}
use Rattle.quic_paths.specs.Responses.{Response}
use Rattle.quic_machine.specs.PollCases.{frames_padded}
use Rattle.quic_machine.specs.DraftLaws.{SendsHalf, by_messages, by_streams, MayLeave, HasRoom, ordinary_within, ordinary_most, room_most, close_most, entry_behind}
use Rattle.quic_machine.specs.Puts.{stream_room, with_entry, with_half_frame}
use Rattle.quic_streams_state.specs.Control as control
use Rattle.quic_headline.proofs.Packets.Invariant.{CountsFit, Acks}
use Rattle.quic_wire.proofs.FrameRange.{size_most}
use Rattle.quic_retransmits.specs.Retransmits.{nothing_waits}
use Rattle.quic_streams_laws.specs.ControlWalk.{GoesOn, by_control}

-- ---- what is known of streams

-- a fact of streams, and of what waits beside their bytes, that stays whichever frames go of them;
-- by it each of these has a form
pub record Spelling (K : Streams → Type 0) : Type 0 where
  -- what waits is dropped, since it is no longer due
  pub drops : (t : Streams) (kind : ControlKind) → K t → K (streams_of t.state (without_first kind t.pending))
  -- its frame goes
  pub control : (t : Streams) (kind : ControlKind) (f : FrameValue) → GoesFirst kind t.pending t.state f → K t → Fits f × K (streams_of (frame_told f t.state) (without_first kind t.pending))
  -- ACK_FREQUENCY waits, or doesn't
  pub asked : (t : Streams) (waits : Bool) → K t → K (streams_of t.state (record t.pending { ack_frequency = waits }))
  -- the frame of a half goes
  pub stream : (fair : Bool) (t : Streams) (id : ℕ) (h : SendHalf) (room : ℕ) → at t.state.sending.halves.live id ≡ Some h → frame_counts h room ≡ true → K t → (id < 2 ^ 62) × HasFrame h room × K (streams_of (after_frame_sent fair t.state id h room) t.pending)

-- how many bytes there are for the frames of what goes
abbrev pub room_for : Leaving → End → ℕ
room_for leaving e = most_of leaving e - beside_frames e

-- what goes of an end that is ready has a form, and a frame
pub record IsSpellable (g : Ready) : Type 0 where
  pub spells : Payload (frames_padded (draft_of g)) (payload_of (draft_of g))
  pub some : 0 < length (draft_of g).frames
  -- the frames don't take more than the room for them, and only a probe of a size has a least one
  pub within : length (draft_of g).bytes ≤ room_for g.leaving (draft_of g).end
  pub least : (draft_of g).least ≡ least_left g.leaving g.end

-- what waits waits still where an acknowledgement becomes due
pub waits_lazied : (e : End) → waits e ≡ true → waits (lazied e) ≡ true
waits_lazied e on = go e.acknowledging.due (nat_lt lazy_threshold e.acknowledging.silent) (is_filled e.acknowledging.runs) on
  where
    go : (due lazy filled : Bool) → ((due && filled) || asks_to_go e) ≡ true → (((due || lazy) && filled) || asks_to_go e) ≡ true
    go true lazy filled on = on
    go false true true on = refl
    go false true false on = on
    go false false filled on = on

-- ---- how a frame is spelled

-- bytes 0 are PADDING
pub zeros_padding : (count : ℕ) → Payload (replicate count padding) (replicate count 0)
zeros_padding zero = refl
zeros_padding (suc count) = (0 ∷ [], replicate count 0, spelling_form padding (replicate count 0) tt, zeros_padding count, refl)

-- a frame and what is spelled behind it
spelled_before : (f : FrameValue) (fs : List FrameValue) (rest : List ℕ) → Fits f → Payload fs rest → Payload (f ∷ fs) (spelling f ++ rest)
spelled_before f fs rest fits spells = (spelling f, rest, spelling_form f rest fits, spells, refl)

-- a STREAM frame without its length, behind which nothing is spelled
unsized_spelled : (f : StreamValue) → StreamFits f → Payload (stream f ∷ []) (stream_spelling false f)
unsized_spelled f fits = (stream_spelling false f, [], stream_form false f [] fits refl, refl, sym (append-nil (stream_spelling false f)))

-- ---- how far a STREAM frame goes

-- a number takes 8 bytes at most
narrow : (n : ℕ) → width_of n ≤ 8
narrow n = rw (length-shortest n) (varint_size_le n)

-- an offset is as wide as it is written
offset_widths : (n : ℕ) → offset_width n ≡ buffered.offset_width n
offset_widths n = ap (λ (w : ℕ). cond (n == 0) 0 w) (length-shortest n)

-- an offset takes 8 bytes at most
offset_narrow : (n : ℕ) → offset_width n ≤ 8
offset_narrow n = go (n == 0)
  where
    go : (b : Bool) → cond b 0 (width_of n) ≤ 8
    go true = omega arith
    go false = narrow n

-- the bytes of a frame without its length fill what its offset leaves of the room
unsized_count : (b : Buffered) (room : ℕ) → writes_length b room ≡ false → sent_end b room - next_start b ≡ room - offset_width (next_start b)
unsized_count b room e = go (writes_length b room) refl e
  where
    go : (t : Bool) → writes_length b room ≡ t → t ≡ false → next_start b + min (buffered.next_count b) (cond t (buffered.room_behind room (next_start b) - 8) (buffered.room_behind room (next_start b))) - next_start b ≡ room - offset_width (next_start b)
    go true is f = cc
    go false is f =
        let wide = offset_widths (next_start b) in
        let left : ℕ = buffered.next_count b in
        let behind : ℕ = buffered.room_behind room (next_start b) in
        let enough : behind ≤ left = ltb-false left behind is in
        omega arith

-- how many bytes go
pub bytes_count : (h : SendHalf) (id room : ℕ) → HasFrame h room → length (frame_of id h room).bytes ≡ sent_end h.buffer room - next_start h.buffer
bytes_count h id room f =
    let from : ℕ = next_start h.buffer - h.buffer.base in
    let to : ℕ = sent_end h.buffer room - h.buffer.base in
    let taken = length-take (to - from) (drop from h.buffer.kept) in
    let behind = length-drop from h.buffer.kept in
    let kept = f.kept in
    let ordered = f.ordered in
    let bounded = f.bounded in
    omega (arith, taken, behind, kept, ordered, bounded)

-- its numbers have a form
stream_fits : (h : SendHalf) (id room : ℕ) → HasFrame h room → id < 2 ^ 62 → StreamFits (frame_of id h room)
stream_fits h id room f small =
    let count = bytes_count h id room f in
    let ordered = f.ordered in
    let bounded = f.bounded in
    let most = f.small in
    let offset : next_start h.buffer < 2 ^ 62 = omega (arith, ordered, bounded, most) in
    let long : length (frame_of id h room).bytes < 2 ^ 62 = omega (arith, count, bounded, most) in
    (small, offset, long)

-- a frame without its length fills the room behind its type and id
unsized_fills : (h : SendHalf) (id room : ℕ) → HasFrame h room → 8 ≤ room → writes_length h.buffer room ≡ false → length (stream_spelling false (frame_of id h room)) ≡ 1 + width_of id + room
unsized_fills h id room f some off =
    let long = stream_length false (frame_of id h room) in
    let bytes = bytes_count h id room f in
    let count = unsized_count h.buffer room off in
    let few = offset_narrow (next_start h.buffer) in
    omega arith

-- behind a length there are at most so many
sized_count : (b : Buffered) (room : ℕ) → writes_length b room ≡ true → sent_end b room - next_start b ≤ buffered.room_behind room (next_start b) - 8
sized_count b room e = go (writes_length b room) refl e
  where
    go : (t : Bool) → writes_length b room ≡ t → t ≡ true → next_start b + min (buffered.next_count b) (cond t (buffered.room_behind room (next_start b) - 8) (buffered.room_behind room (next_start b))) - next_start b ≤ buffered.room_behind room (next_start b) - 8
    go true is on = omega arith
    go false is on = cc

-- no frame of a half takes more than the room behind its type and id
half_long : (h : SendHalf) (id room : ℕ) → HasFrame h room → 16 ≤ room → length (stream_spelling (writes_length h.buffer room) (frame_of id h room)) ≤ 1 + width_of id + room
half_long h id room f some = go (writes_length h.buffer room) refl
  where
    go : (t : Bool) → writes_length h.buffer room ≡ t → length (stream_spelling t (frame_of id h room)) ≤ 1 + width_of id + room
    go true on =
        let long = stream_length true (frame_of id h room) in
        let bytes = bytes_count h id room f in
        let count = sized_count h.buffer room on in
        let wide = offset_widths (next_start h.buffer) in
        let few = offset_narrow (next_start h.buffer) in
        let short = narrow (length (frame_of id h room).bytes) in
        omega arith
    go false off =
        let long = unsized_fills h id room f (omega arith) off in
        omega arith

-- ---- the ACK frame

-- a delay that is written is small
delay_small : (nanos : ℕ) → written_delay nanos < 2 ^ 62
delay_small nanos =
    let eighths : ℕ = nanos / 1000 / 8 in
    omega arith

-- counts that are told have a form
counts_told : (came : Counts) → CountsFit came → EcnFits (told_counts came)
counts_told came fit = go (came.0 == 0 && came.1 == 0 && came.2 == 0)
  where
    go : (none : Bool) → EcnFits (if none then None else Some came)
    go true = tt
    go false = fit

-- what there is to acknowledge has an ACK frame
pub ack_form : (e : End) → Acks e.acknowledging e.marks.came → is_filled e.acknowledging.runs ≡ true → AckFits (ack_of e)
ack_form e acks filled = set_fits (delay_at e.acknowledging e.closing.clock) e.acknowledging.runs (told_counts e.marks.came) acks.runs.runs some acks.small (delay_small (delay_of e.acknowledging.newest e.closing.clock)) (counts_told e.marks.came acks.counts)
  where
    some : e.acknowledging.runs ≡ [] → ⊥
    some none = let off = ap is_filled none in cc

-- it has a byte at least
ack_some : (e : End) → 1 ≤ frame_size (ack (ack_of e))
ack_some e =
    let first = type (has_ecn (ack_of e).ecn) in
    omega arith
  where
    type : (b : Bool) → 1 ≤ width_of (2 + (if b then 1 else 0))
    type true = let three : width_of 3 ≡ 1 = refl in omega arith
    type false = let two : width_of 2 ≡ 1 = refl in omega arith

-- it leaves room for one more frame of control, or for all signals and ACK_FREQUENCY
pub ack_leaves : (e : End) → Acks e.acknowledging e.marks.came → is_filled e.acknowledging.runs ≡ true → 1159 ≤ frame_room e → length (spelling (ack (ack_of e))) + 59 ≤ frame_room e
ack_leaves e acks filled room =
    let form : AckFits (ack_of e) = ack_form e acks filled in
    let long = spelling_length (ack (ack_of e)) form in
    let most = size_most (ack (ack_of e)) form in
    let count = set_length e.acknowledging.runs in
    let few = acks.runs.few in
    let runs : most_ack_runs ≡ 64 = refl in
    omega arith

-- what ACK_FREQUENCY says has a form
request_fits : (e : End) → Fits (ack_frequency (request_of e))
request_fits e = (omega arith, (omega arith, (omega arith, (omega arith, tt))))

-- ---- drafts

-- what is spelled behind the frames of a draft may follow them
abbrev Behind : Draft → Type 0
Behind d = (fs : List FrameValue) (rest : List ℕ) → Payload fs rest → Payload (d.frames ++ fs) (d.bytes ++ rest)

-- frames that take the whole room of a datagram, which need not have more bytes
record Full (d : Draft) : Type 0 where
  spells : Payload d.frames d.bytes
  full : frame_room d.end ≤ length d.bytes
  long : 4 ≤ length d.bytes
  least : d.least ≤ most_ordinary d.end

-- frames that stand in a payload, whether or not they leave room
abbrev Stands : Draft → Type 0
Stands d = Behind d ⊎ Full d

-- bytes 0 may follow frames that don't take the whole room, and behind those that do there are none
fills : (d : Draft) → Stands d → Payload (frames_padded d) (payload_of d)
fills d (inl behind) =
    let count : ℕ = zeros_behind d in
    behind (replicate count padding) (replicate count 0) (zeros_padding count)
fills d (inr f) =
    let none : zeros_behind d ≡ 0 = go (d.end.transport.pad_to_mtu && asking d.frames) in
    rw (none, append-nil d.frames, append-nil d.bytes) f.spells
  where
    go : (pads : Bool) → max (4 - (number_width d + length d.bytes)) ((if pads then max d.least (most_ordinary d.end) else d.least) - (overhead d + length d.bytes)) ≡ 0
    go true = let full = f.full in let long = f.long in let least = f.least in omega arith
    go false = let long = f.long in let least = f.least in omega arith

-- one frame more, where what is spelled behind it may follow
behind_more : (d : Draft) (f : FrameValue) (bytes : List ℕ) (e : End) → Behind d → ((fs : List FrameValue) (rest : List ℕ) → Payload fs rest → Payload (f ∷ fs) (bytes ++ rest)) → Behind (with_frame d f bytes e)
behind_more d f bytes e before spells fs rest behind = rw (append_assoc d.frames (f ∷ []) fs, append_assoc d.bytes bytes rest) (before (f ∷ fs) (bytes ++ rest) (spells fs rest behind))

-- one that has a form
behind_fit : (d : Draft) (f : FrameValue) (e : End) → Behind d → Fits f → Behind (with_frame d f (spelling f) e)
behind_fit d f e before fits = behind_more d f (spelling f) e before (λ fs rest spells. spelled_before f fs rest fits spells)

-- a close that has a form goes alone
pub close_spells : (f : FrameValue) (e : End) → Fits f → Payload (frames_padded (draft_as (closing f) e)) (payload_of (draft_as (closing f) e))
close_spells f e form = fills (draft_as (closing f) e) (inl (behind_fit (no_frames (lazied_as (closing f) e)) f (lazied_as (closing f) e) (λ fs rest spells. spells) form))

-- the frame of a half goes behind others, and takes the whole room where its length isn't written
half_stands : (d : Draft) (id : ℕ) (h : SendHalf) (room : ℕ) → d.least ≤ most_ordinary d.end → 25 ≤ left d → room ≡ stream_room d id → id < 2 ^ 62 → HasFrame h room → Behind d → Stands (with_half_frame d id h room)
half_stands d id h room least some is small has before = go (writes_length h.buffer room) refl
  where
    frame : StreamValue
    frame = frame_of id h room

    form : StreamFits frame
    form = stream_fits h id room has small

    after : End
    after = (with_half_frame d id h room).end

    go : (sized : Bool) → writes_length h.buffer room ≡ sized → Stands (with_frame d (stream frame) (stream_spelling sized frame) after)
    go true on = inl (behind_fit d (stream frame) after before form)
    go false off =
        let few = narrow id in
        let long = unsized_fills h id room has (omega arith) off in
        let all = length-append d.bytes (stream_spelling false frame) in
        inr (record {
          spells = before (stream frame ∷ []) (stream_spelling false frame) (unsized_spelled frame form);
          full = omega arith;
          long = omega arith;
          least = least;
        })

-- a message that fits is short
pub message_form : (d : Draft) (m : List ℕ) → current_mtu d.end.path < 2 ^ 16 → fits d (datagram m) ≡ true → Fits (datagram m)
message_form d m sized fit =
    let within = leb-true (length d.bytes + frame_size (datagram m)) (frame_room d.end) fit in
    let most = ordinary_within d.end in
    (omega arith, tt)

-- ---- all of them

module _ (K : Streams → Type 0) (k : Spelling K) where
  -- a draft of an end of which this is known, with frames that stand so, and take no more than the
  -- room
  record Goes (S : Draft → Type 0) (d : Draft) : Type 0 where
    streams : K (streams_at d.end)
    acks : Acks d.end.acknowledging d.end.marks.came
    sized : current_mtu d.end.path < 2 ^ 16
    room : 1159 ≤ frame_room d.end
    wide : 1200 ≤ most_ordinary d.end
    least : d.least ≤ most_ordinary d.end
    within : length d.bytes ≤ frame_room d.end
    stands : S d

  -- a signal goes that has a form, where there is room for it
  signal_goes : (d : Draft) (f : FrameValue) (left : Signals) → Fits f → length d.bytes + length (spelling f) ≤ frame_room d.end → least_behind f d.least ≤ most_ordinary d.end → Goes Behind d → Goes Behind (with_signal d f left)
  signal_goes d f left form fit least g =
      let long = length-append d.bytes (spelling f) in
      record { streams = g.streams; acks = g.acks; sized = g.sized; room = g.room; wide = g.wide; least = least; within = omega arith; stands = behind_fit d f (with_signals d.end left) g.stands form }

  -- each of them goes where it waits, and leaves room for the next
  challenge_goes : (o : Option ℕ) (d : Draft) → length d.bytes + 59 ≤ frame_room d.end → Goes Behind d → Goes Behind (challenge_if o d) × (length (challenge_if o d).bytes + 50 ≤ frame_room (challenge_if o d).end)
  challenge_goes None d left g = (g, omega arith)
  challenge_goes (Some word) d left g =
      let long = length-append d.bytes (spelling (challenge_frame word)) in
      let nine : length (spelling (challenge_frame word)) ≡ 9 = refl in
      let least = g.least in
      let wide = g.wide in
      (signal_goes d (challenge_frame word) _ refl (omega arith) (omega arith) g, omega arith)

  response_goes : (o : Option Response) (d : Draft) → length d.bytes + 50 ≤ frame_room d.end → Goes Behind d → Goes Behind (response_if o d) × (length (response_if o d).bytes + 41 ≤ frame_room (response_if o d).end)
  response_goes None d left g = (g, omega arith)
  response_goes (Some r) d left g =
      let long = length-append d.bytes (spelling (response_frame r)) in
      let nine : length (spelling (response_frame r)) ≡ 9 = refl in
      let least = g.least in
      let wide = g.wide in
      (signal_goes d (response_frame r) _ refl (omega arith) (omega arith) g, omega arith)

  ping_goes : (b : Bool) (d : Draft) → length d.bytes + 41 ≤ frame_room d.end → Goes Behind d → Goes Behind (ping_if b d) × (length (ping_if b d).bytes + 40 ≤ frame_room (ping_if b d).end)
  ping_goes true d left g =
      let long = length-append d.bytes (spelling ping) in
      let one : length (spelling ping) ≡ 1 = refl in
      (signal_goes d ping _ tt (omega arith) g.least g, omega arith)
  ping_goes false d left g = (g, omega arith)

  immediate_goes : (b : Bool) (d : Draft) → length d.bytes + 40 ≤ frame_room d.end → Goes Behind d → Goes Behind (immediate_if b d) × (length (immediate_if b d).bytes + 34 ≤ frame_room (immediate_if b d).end)
  immediate_goes true d left g =
      let long = length-append d.bytes (spelling immediate_ack) in
      let one : length (spelling immediate_ack) ≡ 1 = refl in
      (signal_goes d immediate_ack _ tt (omega arith) g.least g, omega arith)
  immediate_goes false d left g = (g, omega arith)

  signals_go : (d : Draft) → length d.bytes + 59 ≤ frame_room d.end → Goes Behind d → Goes Behind (with_signal_frames d) × (length (with_signal_frames d).bytes + 34 ≤ frame_room (with_signal_frames d).end)
  signals_go d left g =
      let asked : Draft = with_challenge_frame d in
      let answered : Draft = with_response_frame asked in
      let one = challenge_goes d.end.waiting.signals.challenge d left g in
      let two = response_goes asked.end.waiting.signals.response asked one.1 one.0 in
      let pinged : Draft = with_ping_frame answered in
      let three = ping_goes answered.end.waiting.signals.ping answered two.1 two.0 in
      immediate_goes pinged.end.waiting.signals.immediate pinged three.1 three.0

  -- ACK_FREQUENCY goes, where there is room for it
  asked_goes : (b : Bool) (d : Draft) → length d.bytes + 34 ≤ frame_room d.end → Goes Behind d → Goes Behind (request_if b d)
  asked_goes true d left g =
      let request : FrameValue = ack_frequency (request_of d.end) in
      let long = length-append d.bytes (spelling request) in
      let size = spelling_length request (request_fits d.end) in
      let most = size_most request (request_fits d.end) in
      record {
        streams = k.asked (streams_at d.end) false g.streams;
        acks = g.acks;
        sized = g.sized;
        room = g.room;
        wide = g.wide;
        least = g.least;
        within = omega arith;
        stands = behind_fit d request (after_request d.end) g.stands (request_fits d.end);
      }
  asked_goes false d left g = g

  -- ACK goes, where there are numbers, and room for it
  ack_goes : (d : Draft) → is_filled d.end.acknowledging.runs ≡ true → length d.bytes + length (spelling (ack (ack_of d.end))) ≤ frame_room d.end → Goes Behind d → Goes Behind (with_ack d)
  ack_goes d filled left g =
      let long = length-append d.bytes (spelling (ack (ack_of d.end))) in
      record {
        streams = g.streams;
        acks = record { runs = g.acks.runs; small = g.acks.small; counts = g.acks.counts };
        sized = g.sized;
        room = g.room;
        wide = g.wide;
        least = g.least;
        within = omega arith;
        stands = behind_fit d (ack (ack_of d.end)) (with_ack d).end g.stands (ack_form d.end g.acks filled);
      }

  -- what waits beside the bytes of streams goes
  entries_go : (d : Draft) → Goes Behind d → Goes Behind (with_control_frames d)
  entries_go d g = (by_control (frame_room d.end) Fills steps (control.no_frames (length d.bytes) d.end.streams d.end.waiting.frames nothing_waits) first).0
    where
      -- how many bytes are used is known
      Fills : control.Draft → Type 0
      Fills c = Goes Behind (behind_control d c) × (c.used ≡ length (behind_control d c).bytes)

      steps : GoesOn (frame_room d.end) Fills
      steps = record {
        drops = λ c kind e es is due q. (record { streams = k.drops (streams_at (behind_control d c).end) kind q.0.streams; acks = q.0.acks; sized = q.0.sized; room = q.0.room; wide = q.0.wide; least = q.0.least; within = q.0.within; stands = q.0.stands }, q.1);
        sends = λ c kind f is room q. one c kind f is room q.0 q.1;
      }
        where
          one : (c : control.Draft) (kind : ControlKind) (f : FrameValue) → GoesFirst kind c.pending c.state f → c.used + frame_size f ≤ frame_room d.end → Goes Behind (behind_control d c) → c.used ≡ length (behind_control d c).bytes → Fills (control.first_sent kind f c)
          one c kind f is room q used =
              let x : Draft = behind_control d c in
              let went = k.control (streams_at x.end) kind f is q.streams in
              let same = entry_behind d c kind f in
              let long = spelling_length f went.0 in
              let all = length-append x.bytes (spelling f) in
              let bytes : length (behind_control d (control.first_sent kind f c)).bytes ≡ length x.bytes + frame_size f = ap (λ (y : Draft). length y.bytes) same ∙ all ∙ ap (λ (n : ℕ). length x.bytes + n) long in (
                subst (Goes Behind) (sym same) (record { streams = went.1; acks = q.acks; sized = q.sized; room = q.room; wide = q.wide; least = q.least; within = omega arith; stands = behind_fit x f (with_entry x kind f).end q.stands went.0 }),
                omega arith,
              )

      first : Fills (control.no_frames (length d.bytes) d.end.streams d.end.waiting.frames nothing_waits)
      first = rw (append-nil d.frames, append-nil d.bytes) (g, refl)

  -- messages go
  messages_go : (d : Draft) → Goes Behind d → Goes Behind (with_message_frames d)
  messages_go = by_messages (Goes Behind) (λ d m ms is fit g.
      let form = message_form d m g.sized fit in
      let long = spelling_length (datagram m) form in
      let all = length-append d.bytes (spelling (datagram m)) in
      let enough = leb-true (length d.bytes + frame_size (datagram m)) (frame_room d.end) fit in
      record { streams = g.streams; acks = g.acks; sized = g.sized; room = g.room; wide = g.wide; least = g.least; within = omega arith; stands = behind_fit d (datagram m) (with_message d m ms).end g.stands form })

  -- frames of streams go
  half_goes : SendsHalf (Goes Stands)
  half_goes d id h room found first some is counts g =
      let one = k.stream d.end.transport.send_fairness (streams_at d.end) id h room found counts g.streams in
      let few = narrow id in
      let enough : 16 ≤ room = omega arith in
      let long = half_long h id room one.1 enough in
      let all = length-append d.bytes (stream_spelling (writes_length h.buffer room) (frame_of id h room)) in
      record { streams = one.2; acks = g.acks; sized = g.sized; room = g.room; wide = g.wide; least = g.least; within = omega arith; stands = go g.stands one.0 one.1 }
    where
      go : Stands d → id < 2 ^ 62 → HasFrame h room → Stands (with_half_frame d id h room)
      go (inl before) small has = half_stands d id h room g.least some is small has before
      go (inr f) small has = let full = f.full in absurd (omega arith)

  -- what asks goes, where there is room
  asking_goes : (d : Draft) → length d.bytes + 59 ≤ frame_room d.end → Goes Behind d → Goes Stands (with_asking d)
  asking_goes d left g =
      let signalled = signals_go d left g in
      let asked = asked_goes (with_signal_frames d).end.waiting.frames.ack_frequency (with_signal_frames d) signalled.1 signalled.0 in
      let x : Draft = with_frequency_frame (with_signal_frames d) in
      let before = messages_go (with_control_frames x) (entries_go x asked) in
      by_streams (Goes Stands) half_goes (with_message_frames (with_control_frames x))
      (record { streams = before.streams; acks = before.acks; sized = before.sized; room = before.room; wide = before.wide; least = before.least; within = before.within; stands = inl before.stands })

  -- an ACK frame goes behind it where it fits
  late_goes : (d : Draft) → Goes Stands d → (b : Bool) → ack_fits d ≡ b → Goes Stands (ack_if b d)
  late_goes d g true is = go g.stands
    where
      fit : (is_filled d.end.acknowledging.runs ≡ true) × (length d.bytes + frame_size (ack (ack_of d.end)) ≤ frame_room d.end)
      fit =
          let parts = and_parts (is_filled d.end.acknowledging.runs) (nat_le (length d.bytes + frame_size (ack (ack_of d.end))) (frame_room d.end)) is in
          (parts.0, leb-true (length d.bytes + frame_size (ack (ack_of d.end))) (frame_room d.end) parts.1)

      left : length d.bytes + length (spelling (ack (ack_of d.end))) ≤ frame_room d.end
      left = let long = spelling_length (ack (ack_of d.end)) (ack_form d.end g.acks fit.0) in let room = fit.1 in omega arith

      go : Stands d → Goes Stands (with_ack d)
      go (inl before) =
          let x = ack_goes d fit.0 left (record { streams = g.streams; acks = g.acks; sized = g.sized; room = g.room; wide = g.wide; least = g.least; within = g.within; stands = before }) in
          record { streams = x.streams; acks = x.acks; sized = x.sized; room = x.room; wide = x.wide; least = x.least; within = x.within; stands = inl x.stands }
      go (inr f) = let some = ack_some d.end in let room = fit.1 in let full = f.full in absurd (omega arith)
  late_goes d g false is = g

  -- What goes spells the payload, and takes no more than the room for it.
  pub record Spells (leaving : Leaving) (d : Draft) : Type 0 where
    pub spells : Payload (frames_padded d) (payload_of d)
    pub within : length d.bytes ≤ room_for leaving d.end

  -- whether or not an ACK is due, where a due one goes alone, where a probe of a size goes, and
  -- where nothing does
  pub draft_spells : (leaving : Leaving) (e : End) → MayLeave leaving e → Acks e.acknowledging e.marks.came → HasRoom e → K (streams_at e) → Spells leaving (draft_as leaving e)
  draft_spells leaving e may acks short streams = go leaving may
    where
      x : End
      x = lazied e

      room : 1159 ≤ frame_room e
      room = room_most e short

      first : Goes Behind (no_frames x)
      first = record { streams = streams; acks = record { runs = acks.runs; small = acks.small; counts = acks.counts }; sized = short.2; room = room; wide = ordinary_most e short.1 short.3; least = omega arith; within = omega arith; stands = λ fs rest spells. spells }

      acked : can_send x.acknowledging ≡ true → Goes Behind (with_ack (no_frames x))
      acked due =
          let filled = (and_parts x.acknowledging.due (is_filled x.acknowledging.runs) due).1 in
          let left = ack_leaves x first.acks filled room in
          ack_goes (no_frames x) filled (omega arith) first

      composes : (b : Bool) → can_send x.acknowledging ≡ b → Goes Stands (composed_if b x)
      composes true due =
          let filled = (and_parts x.acknowledging.due (is_filled x.acknowledging.runs) due).1 in
          let left = ack_leaves x first.acks filled room in
          asking_goes (with_ack (no_frames x)) (omega arith) (acked due)
      composes false due =
          let most = first.room in
          let asked = asking_goes (no_frames x) (omega (arith, most)) first in
          late_goes (with_asking (no_frames x)) asked (ack_fits (with_asking (no_frames x))) refl

      go : (b : Leaving) → MayLeave b e → Spells b (draft_as b e)
      go whole due = (let g = composes (can_send x.acknowledging) refl in record { spells = fills (composed x) g.stands; within = g.within })
      go alone due = (let g = acked due in record { spells = fills (with_ack (no_frames x)) (inl g.stands); within = g.within })
      go (probe size) due = record { spells = fills (probing size e) (inl (behind_fit (with_least (no_frames e) size) ping e (λ fs rest spells. spells) tt)); within = (let enough = close_most e short in omega arith) }
      go (closing f) (is, (none, fit, form)) = record { spells = fills (with_frame (no_frames e) f (spelling f) e) (inl (behind_fit (no_frames e) f e (λ fs rest spells. spells) form)); within = (let long = spelling_length f form in let room = leb-true (frame_size f) (close_room e) fit in omega arith) }
      go (nothing held) due = record { spells = fills (no_frames e) (inl (λ fs rest spells. spells)); within = omega arith }

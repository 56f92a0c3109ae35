-- How many bytes an end composes, whatever its frames say: no more than there is room for.
use Rattle.std.proofs.Common.{◌≡◌, ℕ, ◌+◌, ◌-◌, ◌*◌, ◌≤◌, min, max, Bool, true, false, cond, ◌&&◌, ◌==◌, List, [], ◌∷◌, ◌++◌, length, drop, replicate, Option, Some, None, refl, sym, subst, ap, ◌∙◌, arith}
use Rattle.std.specs.Prelude.{if◌then◌else◌, nat_le}
use Rattle.std.proofs.lemmas.Bool.{leb-true, and_parts}
use Rattle.std.proofs.lemmas.List.{append-nil, length-append, length-take, length-replicate}
use Rattle.quic_wire_core.specs.Varint.{shortest}
use Rattle.quic_wire_core.specs.Law.{length-shortest, varint_size_le}
use Rattle.quic_wire.specs.Value.{FrameValue, AckValue, ack, padding, ping, reset_stream, stop_sending, crypto, new_token, stream, max_data, max_stream_data, max_streams, data_blocked, stream_data_blocked, streams_blocked, new_connection_id, retire_connection_id, path_challenge, path_response, connection_close, application_close, handshake_done, immediate_ack, datagram, ack_frequency}
use Rattle.quic_wire.specs.AckGrammar.{range_numbers, ecn_numbers, ack_numbers}
use Rattle.quic_wire.specs.Writing.{written, widths, width_of, offset_width, numbers_of, text_of, spelling, stream_spelling, frame_size}
use Rattle.quic_wire.proofs.FrameWritten.{stream_length}
use Rattle.quic_wire.proofs.AckSet.{set_length}
use Rattle.quic_send_buffer.specs.Buffered as buffered
use Rattle.quic_send_buffer.specs.Buffered.{Buffered, next_start, sent_end, writes_length}
use Rattle.quic_recovery_core.specs.PendingAcks.{is_filled, can_send}
use Rattle.quic_streams_parts.specs.SendHalf.{SendHalf, frame_of}
use Rattle.quic_retransmits.specs.declared.retransmits.ControlKind.{ControlKind}
use Rattle.quic_retransmits.specs.Retransmits.{nothing_waits}
use Rattle.quic_streams_state.specs.Control as control
use Rattle.quic_streams_laws.specs.ControlWalk.{GoesOn, by_control}
use Rattle.quic_spaces.specs.Numbers.{cut_against}
use Rattle.quic_paths.specs.Responses.{Response}
use Rattle.quic_machine.specs.Parts.{Path, Signals, current_mtu}
use Rattle.quic_machine.specs.Tracking.{Tracking}
use Rattle.quic_machine.specs.Ids.{Ids}
use Rattle.quic_machine.specs.Validation.{challenge_frame, response_frame}
use Rattle.quic_machine.specs.End.{End, number_of}
use Rattle.quic_machine.specs.Poll.{Draft, Leaving, whole, alone, no_frames, asking, beside_frames, most_ordinary, frame_room, close_room, left, number_width, overhead, zeros_behind, datagram_size, least_behind, with_signal, challenge_if, response_if, ping_if, immediate_if, with_challenge_frame, with_response_frame, with_ping_frame, with_signal_frames, request_of, request_if, with_frequency_frame, behind_control, with_control_frames, with_message_frames, with_asking, ack_of, with_ack, ack_fits, ack_if, composed_if, lazied, draft_as, closing}
use Rattle.quic_machine.specs.DraftLaws.{SendsHalf, by_messages, by_streams, MayLeave, ordinary_within, ordinary_most, width_few, entry_behind}
use Rattle.quic_machine.specs.PollCases.{composes}
use Rattle.quic_headline.proofs.Packets.Searches.{most_stays}

-- ---- how many bytes a frame takes

-- a number takes 8 at most
narrow : (n : ℕ) → width_of n ≤ 8
narrow n = rw (length-shortest n) (varint_size_le n)

-- numbers take as many as each of them does
numbers_length : (ns : List ℕ) → length (written ns) ≡ widths ns
numbers_length [] = refl
numbers_length (n ∷ ns) = length-append (shortest n) (written ns) ∙ ap (λ (m : ℕ). width_of n + m) (numbers_length ns)

numbers_narrow : (ns : List ℕ) → widths ns ≤ 8 * length ns
numbers_narrow [] = omega arith
numbers_narrow (n ∷ ns) = let first = narrow n in let others = numbers_narrow ns in omega arith

parts : (f : FrameValue) → length (written (numbers_of f) ++ text_of f) ≡ widths (numbers_of f) + length (text_of f)
parts f = length-append (written (numbers_of f)) (text_of f) ∙ ap (λ (m : ℕ). m + length (text_of f)) (numbers_length (numbers_of f))

-- a frame takes so many, whatever its numbers are
pub frame_length : (f : FrameValue) → length (spelling f) ≡ frame_size f
frame_length padding = refl
frame_length ping = refl
frame_length (stream s) = stream_length true s
frame_length (ack a) = numbers_length (ack_numbers a a.ranges)
frame_length (reset_stream r) = parts (reset_stream r)
frame_length (stop_sending r) = parts (stop_sending r)
frame_length (crypto r) = parts (crypto r)
frame_length (new_token r) = parts (new_token r)
frame_length (max_data r) = parts (max_data r)
frame_length (max_stream_data r) = parts (max_stream_data r)
frame_length (max_streams r) = parts (max_streams r)
frame_length (data_blocked r) = parts (data_blocked r)
frame_length (stream_data_blocked r) = parts (stream_data_blocked r)
frame_length (streams_blocked r) = parts (streams_blocked r)
frame_length (new_connection_id r) = parts (new_connection_id r)
frame_length (retire_connection_id r) = parts (retire_connection_id r)
frame_length (path_challenge r) = parts (path_challenge r)
frame_length (path_response r) = parts (path_response r)
frame_length (connection_close r) = parts (connection_close r)
frame_length (application_close r) = parts (application_close r)
frame_length handshake_done = parts handshake_done
frame_length immediate_ack = parts immediate_ack
frame_length (datagram r) = parts (datagram r)
frame_length (ack_frequency r) = parts (ack_frequency r)

-- an ACK frame has two numbers for each range, and few besides
ranges_count : (low : ℕ) (rs : List (ℕ × ℕ)) → length (range_numbers low rs) ≡ 2 * length rs
ranges_count low [] = refl
ranges_count low (r ∷ rs) = let others = ranges_count r.0 rs in omega arith

counts_few : (o : Option (ℕ × ℕ × ℕ)) → length (ecn_numbers o) ≤ 3
counts_few None = omega arith
counts_few (Some e) = omega arith

ack_count : (a : AckValue) (rs : List (ℕ × ℕ)) → length (ack_numbers a rs) ≤ 8 + 2 * length rs
ack_count a [] = omega arith
ack_count a (r ∷ rs) =
    let all = length-append (range_numbers r.0 rs) (ecn_numbers a.ecn) in
    let ranges = ranges_count r.0 rs in
    let counts = counts_few a.ecn in
    omega arith

-- so one of 64 ranges leaves room for all signals and ACK_FREQUENCY
ack_leaves : (e : End) → length e.acknowledging.runs ≤ 64 → 1159 ≤ frame_room e → length (spelling (ack (ack_of e))) + 59 ≤ frame_room e
ack_leaves e few room =
    let long = frame_length (ack (ack_of e)) in
    let narrow = numbers_narrow (ack_numbers (ack_of e) (ack_of e).ranges) in
    let numbers = ack_count (ack_of e) (ack_of e).ranges in
    let ranges = set_length e.acknowledging.runs in
    omega arith

-- ---- a STREAM frame

-- an offset is as wide as it is written, and takes 8 bytes at most
offset_widths : (n : ℕ) → offset_width n ≡ buffered.offset_width n
offset_widths n = ap (λ (w : ℕ). cond (n == 0) 0 w) (length-shortest n)

offset_narrow : (n : ℕ) → offset_width n ≤ 8
offset_narrow n = go (n == 0)
  where
    go : (b : Bool) → cond b 0 (width_of n) ≤ 8
    go true = omega arith
    go false = narrow n

-- what goes of a half leaves room for its offset, and for its length where that is written
goes_within : (b : Buffered) (room : ℕ) → sent_end b room - next_start b ≤ cond (writes_length b room) (buffered.room_behind room (next_start b) - 8) (buffered.room_behind room (next_start b))
goes_within b room = go (writes_length b room)
  where
    go : (t : Bool) → next_start b + min (buffered.next_count b) (cond t (buffered.room_behind room (next_start b) - 8) (buffered.room_behind room (next_start b))) - next_start b ≤ cond t (buffered.room_behind room (next_start b) - 8) (buffered.room_behind room (next_start b))
    go true = omega arith
    go false = omega arith

bytes_few : (h : SendHalf) (id room : ℕ) → length (frame_of id h room).bytes ≤ sent_end h.buffer room - next_start h.buffer
bytes_few h id room =
    let from : ℕ = next_start h.buffer - h.buffer.base in
    let to : ℕ = sent_end h.buffer room - h.buffer.base in
    let taken = length-take (to - from) (drop from h.buffer.kept) in
    omega (arith, taken)

-- its frame takes no more than the room behind its type and id
half_length : (h : SendHalf) (id room : ℕ) → 16 ≤ room → length (stream_spelling (writes_length h.buffer room) (frame_of id h room)) ≤ 1 + width_of id + room
half_length h id room some = go (writes_length h.buffer room) (goes_within h.buffer room)
  where
    go : (t : Bool) → sent_end h.buffer room - next_start h.buffer ≤ cond t (buffered.room_behind room (next_start h.buffer) - 8) (buffered.room_behind room (next_start h.buffer)) → length (stream_spelling t (frame_of id h room)) ≤ 1 + width_of id + room
    go true within =
        let long = stream_length true (frame_of id h room) in
        let bytes = bytes_few h id room in
        let wide = offset_widths (next_start h.buffer) in
        let few = offset_narrow (next_start h.buffer) in
        let short = narrow (length (frame_of id h room).bytes) in
        omega arith
    go false within =
        let long = stream_length false (frame_of id h room) in
        let bytes = bytes_few h id room in
        let wide = offset_widths (next_start h.buffer) in
        let few = offset_narrow (next_start h.buffer) in
        omega arith

-- ---- drafts

-- A draft of an end whose datagrams have room takes no more than that for its frames, nor need it.
record Fits (d : Draft) : Type 0 where
  room : 1159 ≤ frame_room d.end
  wide : 1200 ≤ most_ordinary d.end
  least : d.least ≤ most_ordinary d.end
  within : length d.bytes ≤ frame_room d.end

-- a signal goes, where there is room for it
signal_goes : (d : Draft) (f : FrameValue) (left : Signals) → length d.bytes + length (spelling f) ≤ frame_room d.end → least_behind f d.least ≤ most_ordinary d.end → Fits d → Fits (with_signal d f left)
signal_goes d f left fit least g = let long = length-append d.bytes (spelling f) in record { room = g.room; wide = g.wide; least = least; within = omega arith }

-- each of them goes where it waits, and leaves room for the next
challenge_goes : (o : Option ℕ) (d : Draft) → length d.bytes + 59 ≤ frame_room d.end → Fits d → Fits (challenge_if o d) × (length (challenge_if o d).bytes + 50 ≤ frame_room (challenge_if o d).end)
challenge_goes None d left g = (g, omega arith)
challenge_goes (Some word) d left g =
    let long = length-append d.bytes (spelling (challenge_frame word)) in
    let nine : length (spelling (challenge_frame word)) ≡ 9 = refl in
    let least = g.least in
    let wide = g.wide in
    (signal_goes d (challenge_frame word) _ (omega arith) (omega arith) g, omega arith)

response_goes : (o : Option Response) (d : Draft) → length d.bytes + 50 ≤ frame_room d.end → Fits d → Fits (response_if o d) × (length (response_if o d).bytes + 41 ≤ frame_room (response_if o d).end)
response_goes None d left g = (g, omega arith)
response_goes (Some r) d left g =
    let long = length-append d.bytes (spelling (response_frame r)) in
    let nine : length (spelling (response_frame r)) ≡ 9 = refl in
    let least = g.least in
    let wide = g.wide in
    (signal_goes d (response_frame r) _ (omega arith) (omega arith) g, omega arith)

ping_goes : (b : Bool) (d : Draft) → length d.bytes + 41 ≤ frame_room d.end → Fits d → Fits (ping_if b d) × (length (ping_if b d).bytes + 40 ≤ frame_room (ping_if b d).end)
ping_goes true d left g =
    let long = length-append d.bytes (spelling ping) in
    let one : length (spelling ping) ≡ 1 = refl in
    (signal_goes d ping _ (omega arith) g.least g, omega arith)
ping_goes false d left g = (g, omega arith)

immediate_goes : (b : Bool) (d : Draft) → length d.bytes + 40 ≤ frame_room d.end → Fits d → Fits (immediate_if b d) × (length (immediate_if b d).bytes + 34 ≤ frame_room (immediate_if b d).end)
immediate_goes true d left g =
    let long = length-append d.bytes (spelling immediate_ack) in
    let one : length (spelling immediate_ack) ≡ 1 = refl in
    (signal_goes d immediate_ack _ (omega arith) g.least g, omega arith)
immediate_goes false d left g = (g, omega arith)

signals_go : (d : Draft) → length d.bytes + 59 ≤ frame_room d.end → Fits d → Fits (with_signal_frames d) × (length (with_signal_frames d).bytes + 34 ≤ frame_room (with_signal_frames d).end)
signals_go d left g =
    let asked : Draft = with_challenge_frame d in
    let answered : Draft = with_response_frame asked in
    let one = challenge_goes d.end.waiting.signals.challenge d left g in
    let two = response_goes asked.end.waiting.signals.response asked one.1 one.0 in
    let pinged : Draft = with_ping_frame answered in
    let three = ping_goes answered.end.waiting.signals.ping answered two.1 two.0 in
    immediate_goes pinged.end.waiting.signals.immediate pinged three.1 three.0

-- ACK_FREQUENCY goes, where there is room for it
request_goes : (b : Bool) (d : Draft) → length d.bytes + 34 ≤ frame_room d.end → Fits d → Fits (request_if b d)
request_goes true d left g =
    let request : FrameValue = ack_frequency (request_of d.end) in
    let long = length-append d.bytes (spelling request) in
    let size = frame_length request in
    let type : width_of 0xaf ≡ 2 = refl in
    let w = narrow (request_of d.end).sequence in
    let x = narrow (request_of d.end).threshold in
    let y = narrow (request_of d.end).delay in
    let z = narrow (request_of d.end).reordering in
    record { room = g.room; wide = g.wide; least = g.least; within = omega arith }
request_goes false d left g = g

-- ACK goes, where there is room for it
ack_goes : (d : Draft) → length d.bytes + length (spelling (ack (ack_of d.end))) ≤ frame_room d.end → Fits d → Fits (with_ack d)
ack_goes d left g = let long = length-append d.bytes (spelling (ack (ack_of d.end))) in record { room = g.room; wide = g.wide; least = g.least; within = omega arith }

-- what waits beside the bytes of streams goes
entries_go : (d : Draft) → Fits d → Fits (with_control_frames d)
entries_go d g = (by_control (frame_room d.end) Used steps (control.no_frames (length d.bytes) d.end.streams d.end.waiting.frames nothing_waits) first).0
  where
    -- how many bytes are used is known
    Used : control.Draft → Type 0
    Used c = Fits (behind_control d c) × (c.used ≡ length (behind_control d c).bytes)

    one : (c : control.Draft) (kind : ControlKind) (f : FrameValue) → c.used + frame_size f ≤ frame_room d.end → Fits (behind_control d c) → c.used ≡ length (behind_control d c).bytes → Used (control.first_sent kind f c)
    one c kind f room q used =
        let x : Draft = behind_control d c in
        let same = entry_behind d c kind f in
        let all = length-append x.bytes (spelling f) in
        let long = frame_length f in
        let bytes : length (behind_control d (control.first_sent kind f c)).bytes ≡ length x.bytes + frame_size f = ap (λ (y : Draft). length y.bytes) same ∙ all ∙ ap (λ (n : ℕ). length x.bytes + n) long in (
          subst Fits (sym same) (record { room = q.room; wide = q.wide; least = q.least; within = omega arith }),
          omega arith,
        )

    steps : GoesOn (frame_room d.end) Used
    steps = record {
      drops = λ c kind e es is due q. (record { room = q.0.room; wide = q.0.wide; least = q.0.least; within = q.0.within }, q.1);
      sends = λ c kind f is room q. one c kind f room q.0 q.1;
    }

    first : Used (control.no_frames (length d.bytes) d.end.streams d.end.waiting.frames nothing_waits)
    first = rw (append-nil d.frames, append-nil d.bytes) (g, refl)

-- messages go that fit
messages_go : (d : Draft) → Fits d → Fits (with_message_frames d)
messages_go = by_messages Fits (λ d m ms is fit g.
    let long = frame_length (datagram m) in
    let all = length-append d.bytes (spelling (datagram m)) in
    let enough = leb-true (length d.bytes + frame_size (datagram m)) (frame_room d.end) fit in
    record { room = g.room; wide = g.wide; least = g.least; within = omega arith })

-- frames of streams go
half_goes : SendsHalf Fits
half_goes d id h room found first some is counts g =
    let few = narrow id in
    let enough : 16 ≤ room = omega arith in
    let long = half_length h id room enough in
    let all = length-append d.bytes (stream_spelling (writes_length h.buffer room) (frame_of id h room)) in
    record { room = g.room; wide = g.wide; least = g.least; within = omega arith }

-- what asks goes, where there is room
asking_goes : (d : Draft) → length d.bytes + 59 ≤ frame_room d.end → Fits d → Fits (with_asking d)
asking_goes d left g =
    let signalled = signals_go d left g in
    let x : Draft = with_frequency_frame (with_signal_frames d) in
    let asked : Fits x = request_goes (with_signal_frames d).end.waiting.frames.ack_frequency (with_signal_frames d) signalled.1 signalled.0 in
    by_streams Fits half_goes (with_message_frames (with_control_frames x)) (messages_go (with_control_frames x) (entries_go x asked))

-- an ACK frame goes behind it where it fits
late_goes : (b : Bool) (d : Draft) → ack_fits d ≡ b → Fits d → Fits (ack_if b d)
late_goes true d is g =
    let fit = leb-true (length d.bytes + frame_size (ack (ack_of d.end))) (frame_room d.end) (and_parts (is_filled d.end.acknowledging.runs) (nat_le (length d.bytes + frame_size (ack (ack_of d.end))) (frame_room d.end)) is).1 in
    let long = frame_length (ack (ack_of d.end)) in
    ack_goes d (omega arith) g
late_goes false d is g = g

-- ---- datagrams

-- An end whose datagrams have room: the id to which they go has 20 bytes at most, the path carries
-- 1200, as it is taken to whatever is lost, and there are few ranges of numbers to acknowledge.
pub record IsRoomy (e : End) : Type 0 where
  pub id : length e.ids.peer.id ≤ 20
  pub size : 1200 ≤ current_mtu e.path
  pub least : 1200 ≤ e.transport.min_mtu
  pub few : length e.acknowledging.runs ≤ 64

-- frames that leave room for what stands beside them in so many bytes make a datagram of at most so
-- many, where it need have no more
fits_size : (d : Draft) (most : ℕ) → length d.end.ids.peer.id ≤ 20 → 1200 ≤ most → d.least ≤ most → most_ordinary d.end ≤ most → length d.bytes ≤ most - beside_frames d.end → datagram_size d ≤ most
fits_size d most id wide least ordinary within =
    let long = length-append d.bytes (replicate (zeros_behind d) 0) in
    let zeros : length (replicate {A = ℕ} (zeros_behind d) 0) ≡ zeros_behind d = length-replicate (zeros_behind d) 0 in
    let few = filled (d.end.transport.pad_to_mtu && asking d.frames) in
    omega arith
  where
    filled : (pads : Bool) → max (4 - (number_width d + length d.bytes)) ((if pads then max d.least (most_ordinary d.end) else d.least) - (overhead d + length d.bytes)) + (overhead d + length d.bytes) ≤ most
    filled true = let width = width_few (number_of d.end - cut_against d.end.numbers) in omega arith
    filled false = let width = width_few (number_of d.end - cut_against d.end.numbers) in omega arith

module _ (e : End) (roomy : IsRoomy e) where
  wide : 1200 ≤ most_ordinary e
  wide = ordinary_most e roomy.size roomy.least

  room : 1159 ≤ frame_room e
  room =
      let width = width_few (number_of e - cut_against e.numbers) in
      let short = roomy.id in
      let size = wide in
      omega (arith, width, short, size)

  first : Fits (no_frames (lazied e))
  first = record { room = room; wide = wide; least = omega arith; within = omega arith }

  -- a due ACK goes first, or alone
  acked : Fits (with_ack (no_frames (lazied e))) × (length (with_ack (no_frames (lazied e))).bytes + 59 ≤ frame_room (lazied e))
  acked =
      let left = ack_leaves (lazied e) roomy.few room in
      (ack_goes (no_frames (lazied e)) (omega arith) first, omega arith)

  composed : (b : Bool) → can_send (lazied e).acknowledging ≡ b → Fits (composed_if b (lazied e))
  composed true due = asking_goes (with_ack (no_frames (lazied e))) acked.1 acked.0
  composed false due = late_goes (ack_fits (with_asking (no_frames (lazied e)))) (with_asking (no_frames (lazied e))) refl (let most = room in asking_goes (no_frames (lazied e)) (omega (arith, most)) first)

  -- a datagram that fits so has no more than the path carries
  small : (leaving : Leaving) → MayLeave leaving e → Fits (draft_as leaving e) → datagram_size (draft_as leaving e) ≤ current_mtu e.path
  small leaving may g =
      let d : Draft = draft_as leaving e in
      let c = composes leaving e may in
      let most = most_stays e d.end (ap (λ (t : Tracking). t.probes) c.tracking) (ap (λ (x : Path). current_mtu x) c.path) c.transport in
      let size = fits_size d (most_ordinary d.end) (subst (λ (x : Ids). length x.peer.id ≤ 20) (sym c.ids) roomy.id) g.wide g.least (omega arith) g.within in
      let within = ordinary_within e in
      omega arith

  -- all that waits, or a due ACK alone
  pub whole_size : MayLeave whole e → datagram_size (draft_as whole e) ≤ current_mtu e.path
  whole_size may = small whole may (composed (can_send (lazied e).acknowledging) refl)

  pub alone_size : MayLeave alone e → datagram_size (draft_as alone e) ≤ current_mtu e.path
  alone_size may = small alone may acked.0

  -- a close that fits
  pub close_size : (f : FrameValue) → frame_size f ≤ close_room e → datagram_size (draft_as (closing f) e) ≤ current_mtu e.path
  close_size f fit =
      let long = frame_length f in
      let most = ordinary_within e in
      let size = roomy.size in
      fits_size (draft_as (closing f) e) (current_mtu e.path) roomy.id size (omega arith) most (omega arith)

-- What holds of a draft, whichever frames go; and that a datagram has a frame.
use Rattle.std.proofs.Common.{◌≡◌, ℕ, ◌+◌, ◌-◌, ◌<◌, ◌≤◌, ◌^◌, List, [], ◌∷◌, ◌++◌, Bool, true, false, ◌&&◌, ◌||◌, length, Option, Some, None, max, min, refl, sym, ap, ◌∙◌, subst, arith, nat_lt, inl, inr}
use Rattle.std.specs.Prelude.{if◌then◌else◌, map, ◌*◌}
use Rattle.std.specs.List.{fold}
use Rattle.std.specs.Option.{is_some}
use Rattle.std.proofs.lemmas.Bool.{and_parts}
use Rattle.std.proofs.lemmas.List.{length-append, append_assoc, append-nil}
use Rattle.quic_wire.specs.Value.{FrameValue, StreamValue, ping, immediate_ack, stream, datagram, ack, path_challenge, path_response, connection_close, application_close, asks}
use Rattle.quic_wire.specs.Writing.{spelling, spelled_all, stream_spelling}
use Rattle.quic_packet.specs.Number.{width_for}
use Rattle.quic_send_buffer.specs.Buffered.{writes_length}
use Rattle.quic_streams_parts.specs.Table.{at}
use Rattle.quic_streams_parts.specs.SendHalf.{SendHalf, frame_of, frame_counts}
use Rattle.quic_streams_parts.specs.Queue.{first_queued}
use Rattle.quic_retransmits.specs.Retransmits.{nothing_waits}
use Rattle.quic_retransmits.specs.declared.retransmits.ControlKind.{ControlKind}
use Rattle.quic_streams_state.specs.Control.{first_sent}
use Rattle.quic_streams_state.specs.Control as control
use Rattle.quic_streams_state.specs.Frames as of_streams
use Rattle.quic_streams_laws.specs.KindLaws.{GoesFirst}
use Rattle.quic_streams_laws.specs.ControlWalk.{GoesOn, by_control, by_stream_frames}
use Rattle.quic_recovery_core.specs.PendingAcks.{lazy_threshold, can_send, is_filled}
use Rattle.quic_spaces.specs.Numbers.{cut_against}
use Rattle.quic_machine.specs.Ids.{destination}
use Rattle.quic_machine.specs.End.{End, number_of}
use Rattle.quic_paths.specs.Responses.{Response}
use Rattle.quic_machine.specs.Parts.{current_mtu, Signals, signals_wait}
use Rattle.quic_machine.specs.Validation.{path_waits, path_frames_size, challenge_frame, response_frame}
use Rattle.quic_machine.specs.Poll.{Draft, most_ordinary, frame_room, close_room, fits, left, with_signal, challenge_if, response_if, ping_if, immediate_if, with_challenge_frame, with_response_frame, with_ping_frame, with_immediate_frame, request_if, with_frequency_frame, behind_control, with_control_frames, with_message, with_messages_of, with_message_frames, behind_stream, no_stream_frames, with_stream_frames, Kind, order, put, with_asking, no_frames, ack_of, with_ack, ack_fits, ack_if, composed_if, composed, lazied, lazied_as, Leaving, whole, alone, probe, closing, nothing, with_frame, least_by, least_left, with_signal_frames, draft_left, draft_as}
use Rattle.quic_machine.specs.Poll as poll
use Rattle.quic_machine.specs.Puts.{Put, after, May, MayClose, stream_room, without_entry, with_entry, with_half_frame}
use Rattle.quic_machine.specs.Puts as puts

-- a number takes four bytes at most
pub width_few : (n : ℕ) → width_for n ≤ 4
width_few n = go (nat_lt (2 * n) 256) (nat_lt (2 * n) 65536) (nat_lt (2 * n) 16777216)
  where
    go : (a b c : Bool) → (if a then 1 else (if b then 2 else (if c then 3 else 4))) ≤ 4
    go true b c = omega arith
    go false true c = omega arith
    go false false true = omega arith
    go false false false = omega arith

-- a datagram has room for frames: the id to which it goes has 20 bytes at most, and the path takes
-- 1200, as it is taken to whatever is lost (RFC 9000, sections 17.2 and 14)
abbrev pub HasRoom : End → Type 0
HasRoom e = (length (destination e.ids) ≤ 20) × (1200 ≤ current_mtu e.path) × (current_mtu e.path < 2 ^ 16) × (1200 ≤ e.transport.min_mtu)

-- an ordinary datagram has no more bytes than the path takes, and may have 1200
pub ordinary_within : (e : End) → most_ordinary e ≤ current_mtu e.path
ordinary_within e = go (nat_lt 0 e.tracking.probes)
  where
    go : (b : Bool) → (if b then min e.transport.min_mtu (current_mtu e.path) else current_mtu e.path) ≤ current_mtu e.path
    go true = omega arith
    go false = omega arith

pub ordinary_most : (e : End) → 1200 ≤ current_mtu e.path → 1200 ≤ e.transport.min_mtu → 1200 ≤ most_ordinary e
ordinary_most e size least = go (nat_lt 0 e.tracking.probes)
  where
    go : (b : Bool) → 1200 ≤ (if b then min e.transport.min_mtu (current_mtu e.path) else current_mtu e.path)
    go true = omega arith
    go false = omega arith

-- how many bytes it has for frames at least
pub room_most : (e : End) → HasRoom e → 1159 ≤ frame_room e
room_most e room =
    let width = width_few (number_of e - cut_against e.numbers) in
    let short = room.0 in
    let size = ordinary_most e room.1 room.3 in
    omega (arith, width, short, size)

-- and how many a close has
pub close_most : (e : End) → HasRoom e → 1159 ≤ close_room e
close_most e room =
    let width = width_few (number_of e - cut_against e.numbers) in
    let short = room.0 in
    let size = room.1 in
    omega (arith, width, short, size)

-- ---- one frame of each kind

-- what waits beside the bytes of streams is dropped, since it is no longer due
abbrev pub Drops : (Draft → Type 0) → Type 0
Drops P = (d : Draft) (kind : ControlKind) → P d → P (without_entry d kind)

-- its frame goes, of which is known what it says
abbrev pub SendsEntry : (Draft → Type 0) → Type 0
SendsEntry P = (d : Draft) (kind : ControlKind) (f : FrameValue) → GoesFirst kind d.end.waiting.frames d.end.streams f → P d → P (with_entry d kind f)

-- the frame of the stream goes that stands first in the queue, which brings something, where enough
-- bytes are left
abbrev pub SendsHalf : (Draft → Type 0) → Type 0
SendsHalf P = (d : Draft) (id : ℕ) (h : SendHalf) (room : ℕ) → at d.end.streams.sending.halves.live id ≡ Some h → first_queued d.end.streams.sending.queue ≡ Some id → 25 ≤ left d → room ≡ stream_room d id → frame_counts h room ≡ true → P d
    → P (with_half_frame d id h room)

-- the frame of the oldest message that waits goes, where it fits
abbrev pub SendsMessage : (Draft → Type 0) → Type 0
SendsMessage P = (d : Draft) (m : List ℕ) (ms : List (List ℕ)) → d.end.messages.queues.outgoing ≡ m ∷ ms → fits d (datagram m) ≡ true → P d → P (with_message d m ms)

-- what holds of a draft stays where a frame goes, of each kind, and where what waits is dropped
abbrev pub Writing : (Draft → Type 0) → Type 0
Writing P = (p : Put) (d : Draft) → May p d → P d → P (after p d)

module _ (P : Draft → Type 0) (w : Writing P) where
  pub drops_of : Drops P
  drops_of d kind i = w (puts.drops kind) d tt i

  pub entry_of : SendsEntry P
  entry_of d kind f is i = w (puts.control kind f) d is i

  pub half_of : SendsHalf P
  half_of d id h room found first some is counts i = w (puts.stream id h room) d (found, first, some, is, counts) i

  pub message_of : SendsMessage P
  message_of d m ms is fit i = w (puts.message m ms) d (is, fit) i

-- ---- signals

-- whether a frame is a signal: it asks, and no packet's record has it
abbrev pub IsSignal : FrameValue → Type 0
IsSignal (path_challenge token) = Unit {0}
IsSignal (path_response token) = Unit {0}
IsSignal ping = Unit {0}
IsSignal immediate_ack = Unit {0}
IsSignal f = ⊥

-- it asks
pub signal_asks : (f : FrameValue) → IsSignal f → asks f ≡ true
signal_asks (path_challenge token) is = refl
signal_asks (path_response token) is = refl
signal_asks ping is = refl
signal_asks immediate_ack is = refl
signal_asks f is = absurd is

module _ (P : Draft → Type 0) (goes : (d : Draft) (f : FrameValue) (left : Signals) → IsSignal f → P d → P (with_signal d f left)) where
  -- each of them, where it waits
  challenge_goes : (o : Option ℕ) (d : Draft) → P d → P (challenge_if o d)
  challenge_goes None d p = p
  challenge_goes (Some word) d p = goes d (challenge_frame word) (record d.end.waiting.signals { challenge = None }) tt p

  response_goes : (o : Option Response) (d : Draft) → P d → P (response_if o d)
  response_goes None d p = p
  response_goes (Some r) d p = goes d (response_frame r) (record d.end.waiting.signals { response = None }) tt p

  ping_goes : (b : Bool) (d : Draft) → P d → P (ping_if b d)
  ping_goes true d p = goes d ping (record d.end.waiting.signals { ping = false }) tt p
  ping_goes false d p = p

  immediate_goes : (b : Bool) (d : Draft) → P d → P (immediate_if b d)
  immediate_goes true d p = goes d immediate_ack (record d.end.waiting.signals { immediate = false }) tt p
  immediate_goes false d p = p

  pings_go : (d : Draft) → P d → P (with_immediate_frame (with_ping_frame d))
  pings_go d p = let x : Draft = with_ping_frame d in immediate_goes x.end.waiting.signals.immediate x (ping_goes d.end.waiting.signals.ping d p)

  answers_go : (d : Draft) → P d → P (with_immediate_frame (with_ping_frame (with_response_frame d)))
  answers_go d p = pings_go (with_response_frame d) (response_goes d.end.waiting.signals.response d p)

  -- what holds of a draft, and stays where one goes, holds where those go that wait
  pub by_signals : (d : Draft) → P d → P (with_signal_frames d)
  by_signals d p = answers_go (with_challenge_frame d) (challenge_goes d.end.waiting.signals.challenge d p)

-- where one waits, one goes last
pub by_some_signal : (P : Draft → Type 0) → ((d : Draft) (f : FrameValue) (left : Signals) → IsSignal f → P (with_signal d f left)) → (d : Draft) → signals_wait d.end.waiting.signals ≡ true → P (with_signal_frames d)
by_some_signal P goes d some = challenge d.end.waiting.signals.challenge some
  where
    stays : (d : Draft) (f : FrameValue) (left : Signals) → IsSignal f → P d → P (with_signal d f left)
    stays d f left is p = goes d f left is

    hastens : (b : Bool) → b ≡ true → P (immediate_if b d)
    hastens true some = goes d immediate_ack (record d.end.waiting.signals { immediate = false }) tt
    hastens false some = cc

    pinged : (b : Bool) → b || d.end.waiting.signals.immediate ≡ true → P (with_immediate_frame (ping_if b d))
    pinged true some =
        let x : Draft = ping_if true d in
        immediate_goes P stays x.end.waiting.signals.immediate x (goes d ping (record d.end.waiting.signals { ping = false }) tt)
    pinged false some = hastens d.end.waiting.signals.immediate some

    response : (o : Option Response) → is_some o || (d.end.waiting.signals.ping || d.end.waiting.signals.immediate) ≡ true → P (with_immediate_frame (with_ping_frame (response_if o d)))
    response None some = pinged d.end.waiting.signals.ping some
    response (Some r) some = pings_go P stays (response_if (Some r) d) (goes d (response_frame r) (record d.end.waiting.signals { response = None }) tt)

    challenge : (o : Option ℕ) → is_some o || (is_some d.end.waiting.signals.response || (d.end.waiting.signals.ping || d.end.waiting.signals.immediate)) ≡ true → P (with_immediate_frame (with_ping_frame (with_response_frame (challenge_if o d))))
    challenge None some = response d.end.waiting.signals.response some
    challenge (Some word) some = answers_go P stays (challenge_if (Some word) d) (goes d (challenge_frame word) (record d.end.waiting.signals { challenge = None }) tt)

-- where none waits, none goes
pub no_signal : (d : Draft) → signals_wait d.end.waiting.signals ≡ false → with_signal_frames d ≡ d
no_signal d none = challenge d.end.waiting.signals.challenge none
  where
    pinged : (b : Bool) → b || d.end.waiting.signals.immediate ≡ false → with_immediate_frame (ping_if b d) ≡ d
    pinged true none = cc
    pinged false none = ap (λ (b : Bool). immediate_if b d) none

    response : (o : Option Response) → is_some o || (d.end.waiting.signals.ping || d.end.waiting.signals.immediate) ≡ false → with_immediate_frame (with_ping_frame (response_if o d)) ≡ d
    response None none = pinged d.end.waiting.signals.ping none
    response (Some r) none = cc

    challenge : (o : Option ℕ) → is_some o || (is_some d.end.waiting.signals.response || (d.end.waiting.signals.ping || d.end.waiting.signals.immediate)) ≡ false → with_immediate_frame (with_ping_frame (with_response_frame (challenge_if o d))) ≡ d
    challenge None none = response d.end.waiting.signals.response none
    challenge (Some word) none = cc

-- ---- all of them

-- one more frame is spelled behind the others
spelled_more : (fs : List FrameValue) (f : FrameValue) → spelled_all (fs ++ f ∷ []) ≡ spelled_all fs ++ spelling f
spelled_more [] f = append-nil (spelling f)
spelled_more (g ∷ fs) f = ap (λ (bs : List ℕ). spelling g ++ bs) (spelled_more fs f) ∙ sym (append_assoc (spelling g) (spelled_all fs) (spelling f))

-- one more stream's frame among frames
mapped_more : (fs : List StreamValue) (f : StreamValue) → map stream (fs ++ f ∷ []) ≡ map stream fs ++ stream f ∷ []
mapped_more [] f = refl
mapped_more (g ∷ fs) f = ap (λ (gs : List FrameValue). stream g ∷ gs) (mapped_more fs f)

-- frames of control behind a draft: one more is one more frame
pub entry_behind : (d : Draft) (c : control.Draft) (kind : ControlKind) (f : FrameValue) → behind_control d (first_sent kind f c) ≡ with_entry (behind_control d c) kind f
entry_behind d c kind f =
    let fs : d.frames ++ (c.frames ++ f ∷ []) ≡ (d.frames ++ c.frames) ++ f ∷ [] = sym (append_assoc d.frames c.frames (f ∷ [])) in
    let bs : d.bytes ++ spelled_all (c.frames ++ f ∷ []) ≡ (d.bytes ++ spelled_all c.frames) ++ spelling f = ap (λ (x : List ℕ). d.bytes ++ x) (spelled_more c.frames f) ∙ sym (append_assoc d.bytes (spelled_all c.frames) (spelling f)) in
    rw (fs, bs) refl

module _ (P : Draft → Type 0) (drops : Drops P) (sends : SendsEntry P) where
  -- what waits beside the bytes of streams goes
  pub by_entries : (d : Draft) → P d → P (with_control_frames d)
  by_entries d p = by_control (frame_room d.end) (λ (c : control.Draft). P (behind_control d c)) steps (control.no_frames (length d.bytes) d.end.streams d.end.waiting.frames nothing_waits) first
    where
      steps : GoesOn (frame_room d.end) (λ (c : control.Draft). P (behind_control d c))
      steps = record {
        drops = λ c kind e es is due q. drops (behind_control d c) kind q;
        sends = λ c kind f is room q. subst P (sym (entry_behind d c kind f)) (sends (behind_control d c) kind f is q);
      }

      first : P (behind_control d (control.no_frames (length d.bytes) d.end.streams d.end.waiting.frames nothing_waits))
      first = rw (append-nil d.frames, append-nil d.bytes) p

module _ (P : Draft → Type 0) (stream_goes : SendsHalf P) where
  -- STREAM frames behind a draft: one more is one more frame
  half_behind : (d : Draft) (t : of_streams.Sent) (id : ℕ) (h : SendHalf) → behind_stream d (of_streams.frame_sent d.end.transport.send_fairness (left d) t id h) ≡ with_half_frame (behind_stream d t) id h (of_streams.stream_room (left d) t id)
  half_behind d t id h =
      let room : ℕ = of_streams.stream_room (left d) t id in
      let f = frame_of id h room in
      let fs : d.frames ++ map stream (t.frames ++ f ∷ []) ≡ (d.frames ++ map stream t.frames) ++ stream f ∷ [] = ap (λ (x : List FrameValue). d.frames ++ x) (mapped_more t.frames f) ∙ sym (append_assoc d.frames (map stream t.frames) (stream f ∷ [])) in
      let bs : d.bytes ++ (t.bytes ++ stream_spelling (writes_length h.buffer room) f) ≡ (d.bytes ++ t.bytes) ++ stream_spelling (writes_length h.buffer room) f = sym (append_assoc d.bytes t.bytes (stream_spelling (writes_length h.buffer room) f)) in
      rw (fs, bs) refl

  -- frames of streams go
  pub by_streams : (d : Draft) → P d → P (with_stream_frames d)
  by_streams d p = by_stream_frames d.end.transport.send_fairness (left d) (λ (t : of_streams.Sent). P (behind_stream d t)) one (no_stream_frames d) first
    where
      one : (t : of_streams.Sent) (id : ℕ) (h : SendHalf) → at t.state.sending.halves.live id ≡ Some h → first_queued t.state.sending.queue ≡ Some id → length t.bytes + 25 ≤ left d → frame_counts h (of_streams.stream_room (left d) t id) ≡ true
          → P (behind_stream d t) → P (behind_stream d (of_streams.frame_sent d.end.transport.send_fairness (left d) t id h))
      one t id h found first room counts q =
          let both = length-append d.bytes t.bytes in
          subst P (sym (half_behind d t id h)) (stream_goes (behind_stream d t) id h (of_streams.stream_room (left d) t id) found first (omega arith) (omega arith) counts q)

      first : P (behind_stream d (no_stream_frames d))
      first = rw (append-nil d.frames, append-nil d.bytes) p

module _ (P : Draft → Type 0) (goes : SendsMessage P) where
  -- messages go while they fit
  messages_keep : (ms : List (List ℕ)) (d : Draft) → d.end.messages.queues.outgoing ≡ ms → P d → P (with_messages_of ms d)
  messages_keep [] d is p = p
  messages_keep (m ∷ ms) d is p = go (fits d (datagram m)) refl (λ q. messages_keep ms (with_message d m ms) refl q)
    where
      go : (b : Bool) → fits d (datagram m) ≡ b → (P (with_message d m ms) → P (with_messages_of ms (with_message d m ms))) → P (if b then with_messages_of ms (with_message d m ms) else d)
      go true fit others = others (goes d m ms is fit p)
      go false fit others = p

  pub by_messages : (d : Draft) → P d → P (with_message_frames d)
  by_messages d p = messages_keep d.end.messages.queues.outgoing d refl p

module _ (P : Draft → Type 0) (w : Writing P) where
  -- signals, each where it waits
  challenge_keeps : (o : Option ℕ) (d : Draft) → d.end.waiting.signals.challenge ≡ o → P d → P (challenge_if o d)
  challenge_keeps None d is p = p
  challenge_keeps (Some word) d is p = w (puts.challenge word) d is p

  response_keeps : (o : Option Response) (d : Draft) → d.end.waiting.signals.response ≡ o → P d → P (response_if o d)
  response_keeps None d is p = p
  response_keeps (Some r) d is p = w (puts.response r) d is p

  ping_keeps : (b : Bool) (d : Draft) → P d → P (ping_if b d)
  ping_keeps true d p = w puts.ping d tt p
  ping_keeps false d p = p

  immediate_keeps : (b : Bool) (d : Draft) → P d → P (immediate_if b d)
  immediate_keeps true d p = w puts.immediate d tt p
  immediate_keeps false d p = p

  signals_keep : (d : Draft) → P d → P (with_signal_frames d)
  signals_keep d p =
      let asked : Draft = with_challenge_frame d in
      let answered : Draft = with_response_frame asked in
      let pinged : Draft = with_ping_frame answered in
      immediate_keeps pinged.end.waiting.signals.immediate pinged
      (ping_keeps answered.end.waiting.signals.ping answered (response_keeps asked.end.waiting.signals.response asked refl (challenge_keeps d.end.waiting.signals.challenge d refl p)))

  -- the request of how often to acknowledge, where it waits
  request_keeps : (b : Bool) (d : Draft) → d.end.waiting.frames.ack_frequency ≡ b → P d → P (request_if b d)
  request_keeps true d is p = w puts.request d is p
  request_keeps false d is p = p

  -- one kind
  kind_keeps : (kind : Kind) (d : Draft) → P d → P (put d kind)
  kind_keeps poll.signals d p = signals_keep d p
  kind_keeps poll.frequency d p = request_keeps d.end.waiting.frames.ack_frequency d refl p
  kind_keeps poll.controls d p = by_entries P (drops_of P w) (entry_of P w) d p
  kind_keeps poll.messages d p = by_messages P (message_of P w) d p
  kind_keeps poll.streams d p = by_streams P (half_of P w) d p

  -- several, one behind another
  kinds_keep : (kinds : List Kind) (d : Draft) → P d → P (fold put d kinds)
  kinds_keep [] d p = p
  kinds_keep (kind ∷ kinds) d p = kinds_keep kinds (put d kind) (kind_keeps kind d p)

  -- what asks
  pub by_asking : (d : Draft) → P d → P (with_asking d)
  by_asking d p = kinds_keep order d p

  -- an ACK that isn't due
  late_keeps : (b : Bool) (d : Draft) → ack_fits d ≡ b → P d → P (ack_if b d)
  late_keeps true d goes p =
      let parts = and_parts (is_filled d.end.acknowledging.runs) (fits d (ack (ack_of d.end))) goes in
      w puts.ack d (parts.0, inr parts.1) p
  late_keeps false d goes p = p

-- what holds where no frame went, and stays where one goes, holds of what is composed
pub by_writing : (P : Draft → Type 0) → Writing P → (e : End) → P (no_frames e) → P (composed e)
by_writing P w e p = go (can_send e.acknowledging) refl
  where
    go : (b : Bool) → can_send e.acknowledging ≡ b → P (composed_if b e)
    go true due = by_asking P w (with_ack (no_frames e)) (w puts.ack (no_frames e) ((and_parts e.acknowledging.due (is_filled e.acknowledging.runs) due).1, inl refl) p)
    go false due = late_keeps P w (ack_fits (with_asking (no_frames e))) (with_asking (no_frames e)) refl (by_asking P w (no_frames e) p)

-- whether a frame is a close (RFC 9000, section 19.19)
abbrev pub IsClose : FrameValue → Type 0
IsClose (connection_close c) = Unit {0}
IsClose (application_close c) = Unit {0}
IsClose f = ⊥

-- what may go: an ACK alone that is due, and a close that has a form, and room
abbrev pub MayGo : Leaving → End → Type 0
MayGo alone e = can_send e.acknowledging ≡ true
MayGo (closing f) e = IsClose f × MayClose (no_frames e) f
MayGo leaving e = Unit {0}

-- so it is where an acknowledgement became due
abbrev pub MayLeave : Leaving → End → Type 0
MayLeave leaving e = MayGo leaving (lazied_as leaving e)

-- one that is due is due where many packets came that don't ask
pub lazy_due : (e : End) → can_send e.acknowledging ≡ true → can_send (lazied e).acknowledging ≡ true
lazy_due e is = go e.acknowledging.due (is_filled e.acknowledging.runs) is
  where
    go : (due filled : Bool) → due && filled ≡ true → (due || nat_lt lazy_threshold e.acknowledging.silent) && filled ≡ true
    go true true is = refl
    go true false is = absurd cc
    go false filled is = absurd cc

-- what goes: what is composed, a due ACK alone, a probe of a size, a close, or nothing
pub by_left : (P : Draft → Type 0) → Writing P → (leaving : Leaving) (e : End) → MayGo leaving e → P (no_frames e) → P (draft_left leaving e)
by_left P w whole e may p = by_writing P w e p
by_left P w alone e due p = w puts.ack (no_frames e) ((and_parts e.acknowledging.due (is_filled e.acknowledging.runs) due).1, inl refl) p
by_left P w (probe size) e may p = w (puts.probes size) (no_frames e) tt p
by_left P w (closing f) e may p = go f may.0 may.1
  where
    go : (g : FrameValue) → IsClose g → MayClose (no_frames e) g → P (with_frame (no_frames e) g (spelling g) e)
    go (connection_close c) is may = w (puts.connection_close c) (no_frames e) may p
    go (application_close c) is may = w (puts.application_close c) (no_frames e) may p
    go g is may = absurd is
by_left P w (nothing held) e may p = p

-- so it is where an acknowledgement became due
pub by_leave : (P : Draft → Type 0) → Writing P → (leaving : Leaving) (e : End) → MayLeave leaving e → P (no_frames (lazied_as leaving e)) → P (draft_as leaving e)
by_leave P w leaving e may p = by_left P w leaving (lazied_as leaving e) may p

-- ---- its least size

-- frames of path validation set it
signals_least : (d : Draft) → d.least ≡ 0 → (with_signal_frames d).least ≡ least_by whole (path_waits d.end)
signals_least d none = hastens (with_ping_frame answered).end.waiting.signals.immediate (with_ping_frame answered) ∙ pinged answered.end.waiting.signals.ping answered ∙ go d.end.waiting.signals.challenge
  where
    answered : Draft
    answered = with_response_frame (with_challenge_frame d)

    hastens : (b : Bool) (x : Draft) → (immediate_if b x).least ≡ x.least
    hastens true x = refl
    hastens false x = refl

    pinged : (b : Bool) (x : Draft) → (ping_if b x).least ≡ x.least
    pinged true x = refl
    pinged false x = refl

    respond : (o : Option Response) (x : Draft) → (response_if o x).least ≡ (if is_some o then max x.least path_frames_size else x.least)
    respond None x = refl
    respond (Some r) x = refl

    both : (b : Bool) → (if b then max (max 0 path_frames_size) path_frames_size else max 0 path_frames_size) ≡ path_frames_size
    both true = refl
    both false = refl

    answers : Bool
    answers = is_some d.end.waiting.signals.response

    go : (o : Option ℕ) → (with_response_frame (challenge_if o d)).least ≡ least_by whole (is_some o || answers)
    go None = respond d.end.waiting.signals.response d ∙ ap (λ (n : ℕ). if answers then max n path_frames_size else n) none
    go (Some word) =
        respond d.end.waiting.signals.response (challenge_if (Some word) d)
        ∙ ap (λ (n : ℕ). if answers then max (max n path_frames_size) path_frames_size else max n path_frames_size) none
        ∙ both answers

-- what else asks leaves it
request_least : (b : Bool) (d : Draft) → (request_if b d).least ≡ d.least
request_least true d = refl
request_least false d = refl

asking_least : (d : Draft) → (with_asking d).least ≡ (with_signal_frames d).least
asking_least d = by_streams Keeps (λ x id h room found first some is counts same. same) (with_message_frames (with_control_frames begun))
    (by_messages Keeps (λ x m ms is fit same. same) (with_control_frames begun)
    (by_entries Keeps (λ x kind same. same) (λ x kind f is same. same) begun refl))
    ∙ request_least (with_signal_frames d).end.waiting.frames.ack_frequency (with_signal_frames d)
  where
    begun : Draft
    begun = with_frequency_frame (with_signal_frames d)

    Keeps : Draft → Type 0
    Keeps x = x.least ≡ begun.least

composed_least : (e : End) → (composed e).least ≡ least_by whole (path_waits e)
composed_least e = go (can_send e.acknowledging)
  where
    late : (b : Bool) (d : Draft) (n : ℕ) → d.least ≡ n → (ack_if b d).least ≡ n
    late true d n is = is
    late false d n is = is

    go : (b : Bool) → (composed_if b e).least ≡ least_by whole (path_waits e)
    go true = asking_least (with_ack (no_frames e)) ∙ signals_least (with_ack (no_frames e)) refl
    go false = late (ack_fits (with_asking (no_frames e))) (with_asking (no_frames e)) (least_by whole (path_waits e)) (asking_least (no_frames e) ∙ signals_least (no_frames e) refl)

-- a probe of a size has one by itself, and what has frames of path validation
pub left_least : (leaving : Leaving) (e : End) → (draft_left leaving e).least ≡ least_left leaving e
left_least whole e = composed_least e
left_least alone e = refl
left_least (probe size) e = refl
left_least (closing f) e = refl
left_least (nothing held) e = refl

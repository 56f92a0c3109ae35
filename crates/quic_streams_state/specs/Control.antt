-- The control frames that go into a datagram, in this order: HANDSHAKE_DONE, RESET_STREAM,
-- STOP_SENDING, MAX_DATA, MAX_STREAM_DATA, MAX_STREAMS of two-way and of one-way streams,
-- DATA_BLOCKED, STREAM_DATA_BLOCKED, NEW_CONNECTION_ID, RETIRE_CONNECTION_ID (RFC 9000, sections
-- 13.3 and 19).
-- What waits of a kind is taken from its front: what is no longer due is dropped, what is due goes
-- where it fits, and the first that is due and doesn't fit stays, with all behind it.
use Rattle.std.specs.Prelude.{◌≡◌, ℕ, ◌+◌, Bool, true, false, ◌==◌, ◌&&◌, not, nat_le, if◌then◌else◌, List, [], ◌∷◌, ◌++◌, map, Option, Some, None}
use Rattle.std.specs.List.{fold}
use Rattle.std.specs.Option.{is_some, option_map}
use Rattle.quic_wire_core.specs.declared.shared.IssuedCid.{IssuedCid}
use Rattle.quic_wire_core.specs.declared.stream_id.Dir.{Dir}
use Rattle.quic_wire_core.specs.declared.stream_id.Dir.TheVariants.{Bi, Uni}
use Rattle.quic_wire.specs.Value.{FrameValue, StopSendingValue, NewConnectionIdValue, handshake_done, reset_stream, stop_sending, max_data, max_stream_data, max_streams, data_blocked, stream_data_blocked, new_connection_id, retire_connection_id}
use Rattle.quic_wire.specs.FrameView.{is_one_way}
use Rattle.quic_wire.specs.Writing.{frame_size}
use Rattle.quic_streams_parts.specs.Table.{at}
use Rattle.quic_streams_parts.specs.Dirs.{of, with_of}
use Rattle.quic_streams_parts.specs.SendHalf.{SendHalf, is_ready, written_on}
use Rattle.quic_streams_parts.specs.RecvHalf.{RecvHalf, takes_limits, raised_on}
use Rattle.quic_streams_halves.specs.Halves.{changed}
use Rattle.quic_retransmits.specs.Retransmits.{Retransmits, with_id, first_of, others_of, control_kinds}
use Rattle.quic_retransmits.specs.declared.retransmits.ControlKind.{ControlKind}
use Rattle.quic_retransmits.specs.declared.retransmits.ControlKind.TheVariants.{HandshakeDone, ResetStream, StopSending, MaxData, MaxStreamData, MaxStreams, DataBlocked, StreamDataBlocked, NewConnectionId, RetireConnectionId}
use Rattle.quic_streams_state.specs.State.{StreamsState, Sending, Receiving, sending_half}
use Rattle.quic_streams_state.specs.Opening.{announced_count}
use Rattle.quic_streams_state.specs.Limits.{raised_data, raised_count, can_send_data_blocked, can_send_flow_control}

-- ---- what may go

-- the limit of a part that is used up, where more might be written on it
abbrev pub blocked_limit : Option SendHalf → Option ℕ
blocked_limit None = None
blocked_limit (Some h) = if is_ready h && not (is_some h.stopped) && (written_on h == h.limit) then Some h.limit else None

-- the limit that STREAM_DATA_BLOCKED names, where it may be sent
abbrev pub stream_data_blocked_limit : StreamsState → ℕ → Option ℕ
stream_data_blocked_limit s id = blocked_limit (sending_half s id)

-- whether a frame of a kind may be sent that names no stream
abbrev pub may_go : StreamsState → ControlKind → Bool
may_go s DataBlocked = can_send_data_blocked s
may_go s kind = true

-- whether one may be sent that names this stream
abbrev pub may_go_on : StreamsState → ControlKind → ℕ → Bool
may_go_on s MaxStreamData id = can_send_flow_control s id
may_go_on s StreamDataBlocked id = is_some (stream_data_blocked_limit s id)
may_go_on s kind id = true

-- ---- what waits

-- something that waits: its frame, none where that is no longer due
pub record Entry : Type 0 where
  pub frame : StreamsState → Option FrameValue

-- HANDSHAKE_DONE
abbrev pub done_entry : Entry
done_entry = record { frame = λ s. Some handshake_done }

-- the RESET_STREAM frame of a stream and a code, with its final size: none of a half that wasn't
-- reset, or is done
abbrev pub reset_frame : ℕ × ℕ → Option SendHalf → Option FrameValue
reset_frame e None = None
reset_frame e (Some h) = option_map (λ size. reset_stream (record { id = e.0; code = e.1; final_size = size })) h.reset

-- RESET_STREAM of a stream and a code
abbrev pub reset_entry : ℕ × ℕ → Entry
reset_entry e = record { frame = λ s. reset_frame e (at s.sending.halves.live e.0) }

-- STOP_SENDING
abbrev pub stop_entry : StopSendingValue → Entry
stop_entry e = record { frame = λ s. Some (stop_sending e) }

-- MAX_DATA
abbrev pub data_entry : Entry
data_entry = record { frame = λ s. Some (max_data (raised_data s.receiving)) }

-- the MAX_STREAM_DATA frame of a stream, how far the peer may come on it now: none of a half that
-- takes no more limits
abbrev pub limit_frame : ℕ → ℕ → Option RecvHalf → Option FrameValue
limit_frame window id None = None
limit_frame window id (Some h) = if takes_limits h then Some (max_stream_data (record { id = id; limit = raised_on window h })) else None

-- MAX_STREAM_DATA of a stream
abbrev pub limit_entry : ℕ → Entry
limit_entry id = record { frame = λ s. limit_frame s.receiving.stream_window id (at s.receiving.halves.live id) }

-- MAX_STREAMS: the peer is told how many streams of a kind it may open now
abbrev pub count_entry : Dir → Entry
count_entry dir = record { frame = λ s. Some (max_streams (record { one_way = is_one_way dir; count = raised_count dir s.opening })) }

-- DATA_BLOCKED: it is dropped where the limit isn't used up
abbrev pub blocked_entry : Entry
blocked_entry = record { frame = λ s. if can_send_data_blocked s then Some (data_blocked s.sending.limit) else None }

-- STREAM_DATA_BLOCKED of a stream: that of a half whose limit isn't used up is dropped
abbrev pub stream_blocked_entry : ℕ → Entry
stream_blocked_entry id = record { frame = λ s. option_map (λ limit. stream_data_blocked (record { id = id; limit = limit })) (stream_data_blocked_limit s id) }

-- what NEW_CONNECTION_ID tells of an id: it asks for none to be retired
abbrev pub told_id : IssuedCid → NewConnectionIdValue
told_id cid = record { sequence = cid.sequence; retire_prior_to = 0; id = cid.id; token = cid.reset_token }

-- NEW_CONNECTION_ID of an id
abbrev pub new_id_entry : IssuedCid → Entry
new_id_entry cid = record { frame = λ s. Some (new_connection_id (told_id cid)) }

-- RETIRE_CONNECTION_ID of a number
abbrev pub retire_entry : ℕ → Entry
retire_entry n = record { frame = λ s. Some (retire_connection_id n) }

-- what waits where a flag is set
abbrev pub flagged : Bool → Entry → List Entry
flagged true e = e ∷ []
flagged false e = []

-- what waits of a kind, in the order in which it goes
abbrev pub waiting : ControlKind → Retransmits → List Entry
waiting HandshakeDone p = flagged p.handshake_done done_entry
waiting ResetStream p = map reset_entry p.reset_stream
waiting StopSending p = map stop_entry p.stop_sending
waiting MaxData p = flagged p.max_data data_entry
waiting MaxStreamData p = map limit_entry p.max_stream_data
waiting (MaxStreams dir) p = flagged (of dir p.max_stream_id) (count_entry dir)
waiting DataBlocked p = flagged p.data_blocked blocked_entry
waiting StreamDataBlocked p = map stream_blocked_entry p.stream_data_blocked
waiting NewConnectionId p = map new_id_entry p.new_cids
waiting RetireConnectionId p = map retire_entry p.retire_cids

-- what waits without the first of a kind
abbrev pub without_first : ControlKind → Retransmits → Retransmits
without_first HandshakeDone p = record p { handshake_done = false }
without_first ResetStream p = record p { reset_stream = others_of p.reset_stream }
without_first StopSending p = record p { stop_sending = others_of p.stop_sending }
without_first MaxData p = record p { max_data = false }
without_first MaxStreamData p = record p { max_stream_data = others_of p.max_stream_data }
without_first (MaxStreams dir) p = record p { max_stream_id = with_of dir false p.max_stream_id }
without_first DataBlocked p = record p { data_blocked = false }
without_first StreamDataBlocked p = record p { stream_data_blocked = others_of p.stream_data_blocked }
without_first NewConnectionId p = record p { new_cids = others_of p.new_cids }
without_first RetireConnectionId p = record p { retire_cids = others_of p.retire_cids }

-- ---- a frame that goes

-- the peer is told how far it may come now
abbrev pub data_told : Receiving → Receiving
data_told r = record r { announced = raised_data r }

-- the peer is told how far it may come on a stream now
abbrev pub limit_told : Receiving → ℕ → Receiving
limit_told r id = record r { halves = changed (λ h. record h { announced = raised_on r.stream_window h }) r.halves id }

-- whether MAX_STREAMS and STREAMS_BLOCKED speak of one-way streams or of two-way ones
abbrev pub dir_named : Bool → Dir
dir_named true = Uni
dir_named false = Bi

-- the peer is told that this limit on all streams is used up
abbrev pub blocked_told : Sending → ℕ → Sending
blocked_told s limit = record s { said = Some limit }

-- the peer is told that this limit on a stream is used up
abbrev pub blocked_told_on : Sending → ℕ → ℕ → Sending
blocked_told_on s id limit = record s { halves = changed (λ h. record h { said = Some limit }) s.halves id }

-- the streams once a frame went: the peer is told what the frame says, as it is then
abbrev pub frame_told : FrameValue → StreamsState → StreamsState
frame_told (max_data limit) s = record s { receiving = data_told s.receiving }
frame_told (max_stream_data f) s = record s { receiving = limit_told s.receiving f.id }
frame_told (max_streams f) s = record s { opening = announced_count (dir_named f.one_way) s.opening }
frame_told (data_blocked limit) s = record s { sending = blocked_told s.sending limit }
frame_told (stream_data_blocked f) s = record s { sending = blocked_told_on s.sending f.id f.limit }
frame_told f s = s

-- the id that NEW_CONNECTION_ID gives
abbrev pub issued_in : NewConnectionIdValue → IssuedCid
issued_in f = record { sequence = f.sequence; id = f.id; reset_token = f.token }

-- what has to be sent again if a frame is lost, beside the bytes of streams: what it said is said
-- anew, as it is then
abbrev pub and_again : Retransmits → FrameValue → Retransmits
and_again r handshake_done = record r { handshake_done = true }
and_again r (reset_stream f) = record r { reset_stream = r.reset_stream ++ (f.id, f.code) ∷ [] }
and_again r (stop_sending f) = record r { stop_sending = r.stop_sending ++ f ∷ [] }
and_again r (max_data limit) = record r { max_data = true }
and_again r (max_stream_data f) = record r { max_stream_data = with_id f.id r.max_stream_data }
and_again r (max_streams f) = record r { max_stream_id = with_of (dir_named f.one_way) true r.max_stream_id }
and_again r (data_blocked limit) = record r { data_blocked = true }
and_again r (stream_data_blocked f) = record r { stream_data_blocked = with_id f.id r.stream_data_blocked }
and_again r (new_connection_id f) = record r { new_cids = r.new_cids ++ issued_in f ∷ [] }
and_again r (retire_connection_id n) = record r { retire_cids = r.retire_cids ++ n ∷ [] }
and_again r f = r

-- the kind of a control frame; none of any other
abbrev pub kind_of : FrameValue → Option ControlKind
kind_of handshake_done = Some HandshakeDone
kind_of (reset_stream f) = Some ResetStream
kind_of (stop_sending f) = Some StopSending
kind_of (max_data limit) = Some MaxData
kind_of (max_stream_data f) = Some MaxStreamData
kind_of (max_streams f) = Some (MaxStreams (dir_named f.one_way))
kind_of (data_blocked limit) = Some DataBlocked
kind_of (stream_data_blocked f) = Some StreamDataBlocked
kind_of (new_connection_id f) = Some NewConnectionId
kind_of (retire_connection_id n) = Some RetireConnectionId
kind_of f = None

-- what is known of a frame that goes of what waits: what it says is so of the streams, and of a
-- reset, a stop and the limit of a stream, and of ids, that it is the first that waits
abbrev pub Goes : Retransmits → StreamsState → FrameValue → Type 0
Goes p s handshake_done = Unit {0}
Goes p s (reset_stream f) = (h : SendHalf) × (first_of p.reset_stream ≡ Some (f.id, f.code)) × (at s.sending.halves.live f.id ≡ Some h) × (h.reset ≡ Some f.final_size)
Goes p s (stop_sending f) = first_of p.stop_sending ≡ Some f
Goes p s (max_data limit) = limit ≡ raised_data s.receiving
Goes p s (max_stream_data f) = (h : RecvHalf) × (first_of p.max_stream_data ≡ Some f.id) × (at s.receiving.halves.live f.id ≡ Some h) × (f.limit ≡ raised_on s.receiving.stream_window h)
Goes p s (max_streams f) = f.count ≡ raised_count (dir_named f.one_way) s.opening
Goes p s (data_blocked limit) = limit ≡ s.sending.limit
Goes p s (stream_data_blocked f) = stream_data_blocked_limit s f.id ≡ Some f.limit
Goes p s (new_connection_id f) = (cid : IssuedCid) × (first_of p.new_cids ≡ Some cid) × (f ≡ told_id cid)
Goes p s (retire_connection_id n) = first_of p.retire_cids ≡ Some n
Goes p s f = ⊥

-- ---- what goes

-- the frames so far, and how many bytes are taken; the streams, what waits, and what has to be sent
-- again if the datagram is lost
pub record Draft : Type 0 where
  pub frames : List FrameValue
  pub used : ℕ
  pub state : StreamsState
  pub pending : Retransmits
  pub sent : Retransmits

-- no frame yet, behind so many bytes
abbrev pub no_frames : ℕ → StreamsState → Retransmits → Retransmits → Draft
no_frames used s p sent = record { frames = []; used = used; state = s; pending = p; sent = sent }

-- the first of a kind is dropped
abbrev pub first_dropped : ControlKind → Draft → Draft
first_dropped kind d = record d { pending = without_first kind d.pending }

-- the frame of the first of a kind goes
abbrev pub first_sent : ControlKind → FrameValue → Draft → Draft
first_sent kind f d = record {
  frames = d.frames ++ f ∷ [];
  used = d.used + frame_size f;
  state = frame_told f d.state;
  pending = without_first kind d.pending;
  sent = and_again d.sent f;
}

-- the first of a kind, and more behind it: it is dropped, goes, or stays with these
abbrev pub first_and_more : Option FrameValue → (Draft → Draft) → ControlKind → ℕ → Draft → Draft
first_and_more None more kind most d = more (first_dropped kind d)
first_and_more (Some f) more kind most d = if nat_le (d.used + frame_size f) most then more (first_sent kind f d) else d

-- what goes of a list of a kind, from its front
abbrev pub with_listed : ControlKind → ℕ → List Entry → Draft → Draft
with_listed kind most [] d = d
with_listed kind most (e ∷ es) d = first_and_more (e.frame d.state) (with_listed kind most es) kind most d

-- with the frames of a kind, where so many bytes may be taken in all
abbrev pub with_kind : ℕ → Draft → ControlKind → Draft
with_kind most d kind = with_listed kind most (waiting kind d.pending) d

-- with the frames of all kinds
abbrev pub with_control_frames : ℕ → Draft → Draft
with_control_frames most d = fold (with_kind most) d control_kinds

-- the frames of all kinds behind so many bytes, and what they leave
abbrev pub control_frames : ℕ → ℕ → StreamsState → Retransmits → Retransmits → Draft
control_frames most used s p sent = with_control_frames most (no_frames used s p sent)

-- ---- the first that waits of a kind

-- the frame of the first of a list, none where there is no first, or it is no longer due
abbrev pub frame_of_first : List Entry → StreamsState → Option FrameValue
frame_of_first [] s = None
frame_of_first (e ∷ es) s = e.frame s

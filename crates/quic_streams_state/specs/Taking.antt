-- What the peer's frames on streams come to: STREAM and RESET_STREAM, STOP_SENDING, and the limits
-- (RFC 9000, sections 3, 4 and 19).
use Rattle.std.specs.Prelude.{ℕ, ◌+◌, ◌-◌, ◌^◌, max, Bool, true, false, nat_lt, nat_le, ◌==◌, ◌&&◌, ◌||◌, not, if◌then◌else◌, List, [], ◌∷◌, ◌++◌, Option, Some, None}
use Rattle.std.specs.Option.{is_some}
use Rattle.quic_wire.specs.Value.{FrameValue, StreamValue, ResetStreamValue, StopSendingValue, stream, reset_stream, stop_sending, max_stream_data, max_streams, stream_data_blocked, streams_blocked}
use Rattle.quic_streams_parts.specs.declared.answers.Breach.{Breach}
use Rattle.quic_streams_parts.specs.declared.answers.Breach.TheVariants.{FlowControl, FinalSize, StreamState, Pieces}
use Rattle.quic_streams_parts.specs.declared.answers.StreamEvent.TheVariants as stream_events
use Rattle.quic_streams_parts.specs.Events.{with_event}
use Rattle.quic_streams_parts.specs.SendHalf.{SendHalf, written_on, is_ready}
use Rattle.quic_streams_parts.specs.RecvHalf.{RecvHalf, end_of, breaks_final, after_frame, after_reset_stream, has_too_many}
use Rattle.quic_retransmits.specs.Retransmits.{Retransmits}
use Rattle.quic_streams_state.specs.declared.taking.IdRule.{IdRule}
use Rattle.quic_streams_state.specs.declared.taking.IdRule.TheVariants.{Free, ReceivingOf, SendingOf, NotOfOwn, Counting}
use Rattle.quic_streams_state.specs.State.{StreamsState, Receiving, seen, Streams, streams_of, sending_half, receiving_half, with_send, with_recv, recv_done, room}
use Rattle.quic_streams_state.specs.Limits.{raised_data, settled}
use Rattle.quic_streams_state.specs.Opening.{opens, opened_by, receiving_refusal, sending_refusal, max_streams_breach}
use Rattle.quic_wire_core.specs.StreamId.{dir_of}
use Rattle.quic_streams_parts.specs.Dirs.{is_own, is_two_way}

-- ---- what comes on a receiving part

-- the part that a frame is for, once its stream is open: none where it is done
abbrev pub part_for : StreamsState → ℕ → Option RecvHalf
part_for s id = receiving_half (opened_by s id) id

-- whether bytes up to an offset go past the limit that the peer was told for their stream, or past
-- that of all streams (section 4.1)
abbrev pub breaks_limit : Receiving → RecvHalf → ℕ → Bool
breaks_limit r h end = nat_lt h.announced end || nat_lt (raised_data r) (seen r - h.seen + max h.seen end)

-- the rule that bytes up to an offset break, with the end or without, the first in this order
abbrev pub breach_on : Receiving → RecvHalf → ℕ → Bool → Option Breach
breach_on r h end fin =
    if nat_le (2 ^ 62) end then Some FlowControl
    else (if breaks_final h.final h.seen end fin then Some FinalSize
    else (if breaks_limit r h end then Some FlowControl else None))

-- nothing is refused on a part that is done
abbrev pub breach_at : Option RecvHalf → Receiving → ℕ → Bool → Option Breach
breach_at None r end fin = None
breach_at (Some h) r end fin = breach_on r h end fin

-- what is refused by the id comes before what is refused on the part
abbrev pub breach_behind : Option Breach → StreamsState → ℕ → ℕ → Bool → Option Breach
breach_behind (Some b) s id end fin = Some b
breach_behind None s id end fin = breach_at (part_for s id) s.receiving end fin

-- why bytes up to an offset are refused before they have any effect
abbrev pub refusal : StreamsState → ℕ → ℕ → Bool → Option Breach
refusal s id end fin = breach_behind (receiving_refusal s id) s id end fin

-- the application is told that it may read, unless it hasn't been told of the stream, or stopped it
abbrev pub readable_if : Bool → ℕ → StreamsState → StreamsState
readable_if true id s = record s { events = with_event (stream_events.Readable id) s.events }
readable_if false id s = s

-- a part that this end stopped is done once its final size is known
abbrev pub ended_if : Bool → ℕ → StreamsState → StreamsState
ended_if true id s = recv_done s id
ended_if false id s = s

-- the stream is open, and its part has another value, of which the application is told unless it
-- stopped the stream
abbrev pub renewed : StreamsState → ℕ → RecvHalf → RecvHalf → Bool → StreamsState
renewed s id old new tells = readable_if (tells && not (old.stopped || opens s id)) id (ended_if (new.stopped && is_some new.final) id (with_recv (opened_by s id) id new))

-- ---- STREAM (section 19.8)

-- a STREAM frame counts on its part, if that isn't done, and the limits that grew wait to be told
abbrev pub stream_at : Option RecvHalf → StreamsState → Retransmits → StreamValue → Streams
stream_at None s p f = streams_of s p
stream_at (Some h) s p f = settled (renewed s f.id h (after_frame h f) true) p

-- the bound on pieces, where a frame breaks it on a part of so large a window
abbrev pub too_many_at : ℕ → Option RecvHalf → StreamValue → Option Breach
too_many_at window None f = None
too_many_at window (Some h) f = if has_too_many window (after_frame h f) then Some Pieces else None

-- a frame that is refused leaves all as it was
abbrev pub stream_unless : Option Breach → StreamsState → Retransmits → StreamValue → Streams
stream_unless (Some b) s p f = streams_of s p
stream_unless None s p f = stream_at (part_for s f.id) s p f

-- what a frame breaks: a rule before it is kept, or, once it is kept, the bound on pieces
abbrev pub breach_kept : Option Breach → StreamsState → StreamValue → Option Breach
breach_kept (Some b) s f = Some b
breach_kept None s f = too_many_at s.receiving.stream_window (part_for s f.id) f

-- the rule that a STREAM frame breaks, if it breaks one
abbrev pub stream_breach : StreamsState → StreamValue → Option Breach
stream_breach s f = breach_kept (refusal s f.id (end_of f) f.fin) s f

-- what a STREAM frame leaves
abbrev pub after_stream : StreamsState → Retransmits → StreamValue → Streams
after_stream s p f = stream_unless (refusal s f.id (end_of f) f.fin) s p f

-- ---- RESET_STREAM (section 19.4): the first on a part is told, as bytes are

-- a RESET_STREAM frame counts on its part, if that isn't done, and the limits that grew wait to be
-- told
abbrev pub reset_at : Option RecvHalf → StreamsState → Retransmits → ResetStreamValue → Streams
reset_at None s p f = streams_of s p
reset_at (Some h) s p f = settled (renewed s f.id h (after_reset_stream h f.code f.final_size) (not (is_some h.reset))) p

-- a RESET_STREAM frame counts on its part, unless it is refused
abbrev pub reset_unless : Option Breach → StreamsState → Retransmits → ResetStreamValue → Streams
reset_unless (Some b) s p f = streams_of s p
reset_unless None s p f = reset_at (part_for s f.id) s p f

-- the rule that a RESET_STREAM frame breaks, if it breaks one
abbrev pub reset_breach : StreamsState → ResetStreamValue → Option Breach
reset_breach s f = refusal s f.id f.final_size true

-- what a RESET_STREAM frame leaves
abbrev pub after_reset_frame : StreamsState → Retransmits → ResetStreamValue → Streams
after_reset_frame s p f = reset_unless (reset_breach s f) s p f

-- ---- the rules of ids and counts, as a table: what a frame may name, whatever else it does

-- the rule that an id breaks that may not be of a stream on which only this end sends (section
-- 19.13), if it does
abbrev pub not_of_own_breach : StreamsState → ℕ → Option Breach
not_of_own_breach s id = if is_own s.side id && not (is_two_way (dir_of id)) then Some StreamState else None

-- the one that a frame is held to
abbrev pub id_rule : FrameValue → IdRule
id_rule (stream f) = ReceivingOf f.id
id_rule (reset_stream f) = ReceivingOf f.id
id_rule (stop_sending f) = SendingOf f.id
id_rule (max_stream_data f) = SendingOf f.id
id_rule (max_streams f) = Counting f.count
id_rule (stream_data_blocked f) = NotOfOwn f.id
id_rule (streams_blocked f) = Counting f.count
id_rule f = Free

-- how a frame that is held to a rule breaks it, if it does
abbrev pub broken : StreamsState → IdRule → Option Breach
broken s Free = None
broken s (ReceivingOf id) = receiving_refusal s id
broken s (SendingOf id) = sending_refusal s id
broken s (NotOfOwn id) = not_of_own_breach s id
broken s (Counting count) = max_streams_breach count

-- ---- what comes for a sending part

-- the part that a frame is for, once its stream is open: none where it is done
abbrev pub sending_for : StreamsState → ℕ → Option SendHalf
sending_for s id = sending_half (opened_by s id) id

-- ---- STOP_SENDING (section 19.5): the first counts

-- a sending part that the peer stopped with this code
abbrev pub stopped_half : SendHalf → ℕ → SendHalf
stopped_half h code = record h { stopped = Some code }

-- the peer stops a part, and the application is told so, once
abbrev pub stop_at : Option SendHalf → StreamsState → ℕ → ℕ → StreamsState
stop_at None s id code = s
stop_at (Some h) s id code = if is_some h.stopped then s else (let t = with_send s id (stopped_half h code) in record t { events = with_event (stream_events.Stopped id code) t.events })

-- a STOP_SENDING frame counts on its part, unless it is refused
abbrev pub stop_unless : Option Breach → StreamsState → StopSendingValue → StreamsState
stop_unless (Some b) s f = s
stop_unless None s f = stop_at (sending_for s f.id) (opened_by s f.id) f.id f.code

-- what a STOP_SENDING frame leaves
abbrev pub after_stop_sending : StreamsState → StopSendingValue → StreamsState
after_stop_sending s f = stop_unless (sending_refusal s f.id) s f

-- ---- MAX_DATA (section 19.9) and MAX_STREAM_DATA (section 19.10): limits never fall

-- the limit on all streams is this one, if it is greater than the one before
abbrev pub after_max_data : StreamsState → ℕ → StreamsState
after_max_data s limit = record s { sending = record s.sending { limit = max s.sending.limit limit } }

-- a stream is among those whose write the connection blocked, each once
abbrev pub joined : StreamsState → ℕ → SendHalf → StreamsState
joined s id h = if h.blocked then s else (let t = with_send s id (record h { blocked = true }) in record t { sending = record t.sending { blocked = id ∷ t.sending.blocked } })

-- a stream takes bytes again: the application is told so at once, or once the connection has room
abbrev pub writable_again : StreamsState → ℕ → SendHalf → StreamsState
writable_again s id h = if room s.sending == 0 then joined s id h else record s { events = with_event (stream_events.Writable id) s.events }

-- the same of a part that is in use
abbrev pub noted_at : Option SendHalf → StreamsState → ℕ → StreamsState
noted_at None s id = s
noted_at (Some h) s id = writable_again s id h

-- a part whose limit was used up, and on which more may be written
abbrev pub is_used_up : SendHalf → Bool
is_used_up h = is_ready h && (written_on h == h.limit)

-- a half with another limit
abbrev pub limited_half : SendHalf → ℕ → SendHalf
limited_half h limit = record h { limit = limit }

-- the peer lets more come on a stream, which takes bytes again if its limit was used up
abbrev pub limit_raised : StreamsState → ℕ → SendHalf → ℕ → StreamsState
limit_raised s id h limit = let t = with_send s id (limited_half h limit) in if is_used_up h then writable_again t id (limited_half h limit) else t

-- a limit counts on a part where it is above the one before
abbrev pub limit_at : Option SendHalf → StreamsState → ℕ → ℕ → StreamsState
limit_at None s id limit = s
limit_at (Some h) s id limit = if nat_lt h.limit limit then limit_raised s id h limit else s

-- a MAX_STREAM_DATA frame counts on its part, unless it is refused
abbrev pub limit_unless : Option Breach → StreamsState → ℕ → ℕ → StreamsState
limit_unless (Some b) s id limit = s
limit_unless None s id limit = limit_at (sending_for s id) (opened_by s id) id limit

-- what a MAX_STREAM_DATA frame leaves
abbrev pub after_max_stream_data : StreamsState → ℕ → ℕ → StreamsState
after_max_stream_data s id limit = limit_unless (sending_refusal s id) s id limit

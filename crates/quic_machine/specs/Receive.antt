-- What an end makes of a datagram that comes (RFC 9000, sections 5.2, 12 and 13.1).
use Rattle.std.specs.Prelude.{ℕ, ◌+◌, Bool, true, false, ◌==◌, ◌&&◌, ◌||◌, not, nat_le, nat_lt, ltb, if◌then◌else◌, List, [], ◌∷◌, ◌++◌, Option, Some, None, Result, Ok, Err}
use Rattle.std.specs.List.{list_any}
use Rattle.quic_wire_core.specs.TransportError.{ErrorValue}
use Rattle.quic_wire_core.specs.declared.shared.EcnCodepoint.{EcnCodepoint}
use Rattle.quic_wire_core.specs.declared.stream_id.Side.{Side}
use Rattle.quic_wire_core.specs.declared.stream_id.Side.TheVariants.{Client, Server}
use Rattle.quic_wire.specs.Value.{FrameValue, AckValue, ack, stream, reset_stream, stop_sending, max_data, max_stream_data, max_streams, new_token, handshake_done, connection_close, application_close, datagram, new_connection_id, retire_connection_id, NewConnectionIdValue, asks, path_challenge, path_response, immediate_ack, ack_frequency, AckFrequencyValue}
use Rattle.quic_wire.specs.Close.{CloseValue, by_transport, by_application, transport_close}
use Rattle.quic_wire.specs.Items.{items}
use Rattle.quic_packet.specs.Header.{key_phase, reserved_bits}
use Rattle.quic_packet.specs.Datagram.{Opening, opened_packet}
use Rattle.quic_wire.specs.declared.frame.InvalidFrame.{InvalidFrame}
use Rattle.quic_machine.specs.Validation.{path_asked, path_answered}
use Rattle.quic_machine.specs.Arrival.{Arrival}
use Rattle.quic_machine.specs.declared.answers.State.{State}
use Rattle.quic_machine.specs.declared.answers.State.TheVariants as states
use Rattle.quic_streams_parts.specs.declared.answers.Breach.{Breach}
use Rattle.quic_streams_parts.specs.declared.answers.Breach.TheVariants.{FlowControl, StreamLimit, StreamState, FinalSize, FrameEncoding, Pieces}
use Rattle.quic_machine.specs.declared.answers.LostReason.{LostReason}
use Rattle.quic_machine.specs.declared.answers.LostReason.TheVariants as reasons
use Rattle.quic_machine.specs.declared.answers.DropReason.{DropReason}
use Rattle.quic_machine.specs.declared.answers.DropReason.TheVariants as drops
use Rattle.quic_machine.specs.declared.answers.Received.{Received}
use Rattle.quic_machine.specs.declared.answers.Received.TheVariants.{Taken, Dropped, Closed}
use Rattle.quic_machine.specs.declared.answers.Received.TheVariants as receives
use Rattle.quic_machine.specs.Closing.{ticked, close_asked}
use Rattle.std.specs.declared.ops.Range.{Range}
use Rattle.quic_ids.specs.CidState.{retirement_answer}
use Rattle.quic_ids.specs.CidQueue.{insert_answer}
use Rattle.quic_ids.specs.declared.cid_queue.InsertError.{InsertError}
use Rattle.quic_ids.specs.declared.cid_queue.InsertError.TheVariants as inserts
use Rattle.quic_retransmits.specs.Retransmits.{can_retire, after_late}
use Rattle.quic_machine.specs.Ids.{frame_of, retires_for}
use Rattle.quic_machine.specs.IdFrames.{fitted, retiring, with_taken_up, after_retired, drawn}
use Rattle.quic_spaces.specs.Numbers.{expected, number_opened, number_taken, number_named}
use Rattle.quic_spaces.specs.Filter.{names_skipped}
use Rattle.quic_congestion.specs.Congestion.{Told}
use Rattle.quic_recovery_core.specs.Duplicates.{Seen, is_duplicate}
use Rattle.quic_recovery_core.specs.PendingAcks.{Pending, after_insert, after_packet, packet_starts_wait}
use Rattle.quic_recovery_core.specs.AckFrequency.{micros, is_stale}
use Rattle.quic_time.specs.Clocks.{granularity}
use Rattle.quic_time.specs.Timers.{Timers}
use Rattle.quic_machine.specs.Parts.{Messaging, heard_done}
use Rattle.quic_spaces.specs.Acknowledging.{ack_due, with_due}
use Rattle.quic_spaces.specs.Marks.{after_mark, is_congested}
use Rattle.quic_streams_state.specs.declared.state.StreamsState.{StreamsState}
use Rattle.quic_streams_state.specs.State.{Streams, streams_of}
use Rattle.quic_streams_state.specs.Opening.{sending_refusal, max_streams_breach, after_max_streams}
use Rattle.quic_streams_state.specs.Taking.{stream_breach, after_stream, reset_breach, after_reset_frame, after_stop_sending, after_max_data, after_max_stream_data, id_rule, broken}
use Rattle.quic_messages.specs.declared.errors.ReceivedError.{ReceivedError}
use Rattle.quic_messages.specs.Messages.{received_answer, after_received}
use Rattle.quic_time.specs.Clocks.{saturated}
use Rattle.quic_machine.specs.Policy.{Policy}
use Rattle.quic_machine.specs.Idle.{packet_heard}
use Rattle.quic_machine.specs.End.{End, side_of, with_closing, closed_by, drained_by, with_numbers, with_acknowledging, with_frequency, with_frames, with_streams, with_messages, with_confirmation, with_ack_timer, with_loss_timer}
use Rattle.quic_machine.specs.Calls.{is_open}
use Rattle.quic_machine.specs.Opens.{own_id_length, head}
pub use Rattle.quic_machine.specs.Opens.{drop_of}
use Rattle.quic_machine.specs.Migration.{is_there, items_at, migrates, migrated}
use Rattle.quic_machine.specs.Tracking.{dir_named, asks_any, acked_by}
use Rattle.quic_machine.specs.Acked.{after_acked, told_acked}

-- ---- what is wrong with a packet that opened

-- a broken rule with its error, or too many runs of a stream that wait; or nothing, but that the
-- peer closed, which ends the reading too
pub data Fault : Type 0 where
  broke : ErrorValue → Fault
  too_many_pieces : Fault
  closed_by_peer : CloseValue → Fault

-- an error that names no frame (RFC 9000, section 20.1)
abbrev pub plain_error : ℕ → ErrorValue
plain_error code = record { code = code; frame = None }

-- FLOW_CONTROL_ERROR, STREAM_LIMIT_ERROR, STREAM_STATE_ERROR, FINAL_SIZE_ERROR,
-- FRAME_ENCODING_ERROR (RFC 9000, section 20.1)
abbrev pub fault_of_breach : Breach → Fault
fault_of_breach FlowControl = broke (plain_error 3)
fault_of_breach StreamLimit = broke (plain_error 4)
fault_of_breach StreamState = broke (plain_error 5)
fault_of_breach FinalSize = broke (plain_error 6)
fault_of_breach FrameEncoding = broke (plain_error 7)
fault_of_breach Pieces = too_many_pieces

-- the fault of a broken rule of streams, where one was broken
abbrev pub fault_of : Option Breach → Option Fault
fault_of None = None
fault_of (Some b) = Some (fault_of_breach b)

-- FRAME_ENCODING_ERROR in the frame that can't be read
abbrev pub fault_of_frame : InvalidFrame → Fault
fault_of_frame x = broke (record { code = 7; frame = x.ty })

-- PROTOCOL_VIOLATION
abbrev pub violation : Fault
violation = broke (plain_error 10)

-- INTERNAL_ERROR where too many runs of a stream wait, and none where the peer closed
abbrev pub error_of : Fault → ErrorValue
error_of (broke error) = error
error_of too_many_pieces = plain_error 1
error_of (closed_by_peer close) = plain_error 0

-- why an end closes for a fault
abbrev pub reason_of : Fault → LostReason
reason_of (broke error) = reasons.Transport error
reason_of too_many_pieces = reasons.Pieces
reason_of (closed_by_peer close) = reasons.Peer close

-- ---- frames, one after another

-- the end so far, and what was wrong with the frame that was taken last
pub record Progress : Type 0 where
  pub end : End
  pub fault : Option Fault

-- the next frame is taken
abbrev pub goes_on : End → Progress
goes_on e = record { end = e; fault = None }

-- NEW_TOKEN, which only servers send: a server that gets one has a peer that breaks the rules (RFC
-- 9000, section 19.7)
abbrev pub fault_at : Side → Option Fault
fault_at Client = None
fault_at Server = Some violation

-- whether a number lies above all own ones that were named before
abbrev pub is_above : Option ℕ → ℕ → Bool
is_above None n = true
is_above (Some m) n = nat_lt m n

-- An ACK frame: the greatest number that it names counts, whatever else it names; then the tracked
-- packets that it names are acknowledged, and others lost. A number that was never given is a
-- broken rule (RFC 9000, section 13.1), and so is the one that was left out last.
abbrev pub names_ungiven : AckValue → End → Bool
names_ungiven a e = nat_le e.numbers.next a.largest || list_any (λ r. names_skipped e.filter.last r.0 r.1) a.ranges

-- whether it newly acknowledges a packet that asks for it: a tracked one that it names
abbrev pub acks_asking : AckValue → End → Bool
acks_asking a e = not (names_ungiven a e) && asks_any (acked_by a e.tracking.packets)

-- what an ACK frame makes of the end: nothing where it names such a number
abbrev pub take_ack : AckValue → End → Progress
take_ack a e = if names_ungiven a e then record { end = e; fault = Some violation }
    else goes_on (after_acked (is_above e.numbers.largest_acked a.largest) a (with_numbers e (number_named e.numbers a.largest)))

-- what the controller is told of it: nothing where it breaks a rule
abbrev pub told_ack : AckValue → End → List Told
told_ack a e = if names_ungiven a e then [] else told_acked (is_above e.numbers.largest_acked a.largest) a (with_numbers e (number_named e.numbers a.largest))

-- what a frame on streams makes of them: a rule that it broke, if it broke one, and the streams
-- that it leaves
abbrev pub on_streams : Option Breach → Streams → End → Progress
on_streams breach t e = record { end = with_streams e t; fault = fault_of breach }

-- a frame on streams that queues nothing beside their bytes
abbrev pub on_state : Option Breach → StreamsState → End → Progress
on_state breach s e = on_streams breach (streams_of s e.waiting.frames) e

-- the application is to be told once more that a message came, where none was unread; it is told so
-- 2^64 - 1 times at most before it asks
abbrev pub told_of_message : Bool → ℕ → ℕ
told_of_message true n = saturated (n + 1)
told_of_message false n = n

-- what a message leaves that is taken: it waits to be read, where the oldest may have gone for it
-- (RFC 9221, section 5)
abbrev pub message_taken : Bool → List ℕ → End → Messaging
message_taken first m e = record { queues = after_received e.transport.datagram_receive_buffer_size m e.messages.queues; to_tell = told_of_message first e.messages.to_tell }

-- a message that comes is taken, or it is one that the end told that it takes none such (RFC 9221,
-- section 3)
abbrev pub message_judged : Result Bool ReceivedError → List ℕ → End → Progress
message_judged (Ok first) m e = goes_on (with_messages e (message_taken first m e))
message_judged (Err error) m e = record { end = e; fault = Some violation }

-- what a DATAGRAM frame makes of the end
abbrev pub take_message : List ℕ → End → Progress
take_message m e = message_judged (received_answer e.transport.datagram_receive_buffer_size m e.messages.queues) m e

-- the frame that was at fault, by its type; none is known where that is 0 (RFC 9000, section 19.19)
abbrev pub frame_named : ℕ → Option ℕ
frame_named ty = if ty == 0 then None else Some ty

-- the peer closed: what stands behind isn't read
abbrev pub take_close : CloseValue → End → Progress
take_close close e = record { end = e; fault = Some (closed_by_peer close) }

-- CONNECTION_ID_LIMIT_ERROR (RFC 9000, section 20.1)
abbrev pub too_many_ids : Fault
too_many_ids = broke (plain_error 9)

-- an id of the peer is taken up that asks for these numbers to be retired, which may wait to be
-- told or are too many (RFC 9000, section 5.1.2)
abbrev pub retired_for : Bool → Range ℕ → NewConnectionIdValue → End → Progress
retired_for true r f e = goes_on (fitted e (retiring r (with_taken_up f e)))
retired_for false r f e = record { end = with_taken_up f e; fault = Some too_many_ids }

-- an id of the peer is taken up; one that comes late is retired once more, and none closes for
-- that; or the peer gives more than it may (RFC 9000, sections 5.1.1 and 19.15)
abbrev pub id_judged : Result (Option (Range ℕ)) InsertError → NewConnectionIdValue → End → Progress
id_judged (Ok None) f e = goes_on (fitted e (with_taken_up f e))
id_judged (Ok (Some r)) f e = retired_for (can_retire e.waiting.frames r.start r.end) r f e
id_judged (Err inserts.Retired) f e = goes_on (with_frames e (after_late e.waiting.frames f.sequence))
id_judged (Err inserts.ExceedsLimit) f e = record { end = e; fault = Some too_many_ids }

-- what a NEW_CONNECTION_ID frame makes of the end
abbrev pub take_new_id : NewConnectionIdValue → End → Progress
take_new_id f e = id_judged (retires_for (insert_answer e.ids.peer (frame_of f))) f e

-- the peer retires an own id, or one that was never issued (RFC 9000, section 19.16)
abbrev pub retirement_judged : Result Bool ErrorValue → ℕ → End → Progress
retirement_judged (Ok more) n e = goes_on (after_retired n e)
retirement_judged (Err error) n e = record { end = e; fault = Some (broke error) }

-- what a RETIRE_CONNECTION_ID frame makes of the end
abbrev pub take_retirement : ℕ → End → Progress
take_retirement n e = retirement_judged (retirement_answer e.ids.own n e.ids.limit) n e

-- an acknowledgement is due, whatever else is to be acknowledged
abbrev pub ack_required : End → End
ack_required e = with_acknowledging e (record e.acknowledging { due = true })

-- the peer is acknowledged as it asks by a frame: its number counts, and so does what it says of
-- packets that wait and come out of order, and of how long an acknowledgement may wait (QUIC
-- Acknowledgement Frequency, section 4)
abbrev pub acknowledging_as : AckFrequencyValue → End → End
acknowledging_as f e = record e {
  acknowledging = record e.acknowledging { threshold = f.threshold; reordering = f.reordering };
  frequency = record e.frequency { last = Some f.sequence; own_delay = micros f.delay };
}

-- whether a frame asks for less than an end lets an acknowledgement wait: it says that this is 1 ms
abbrev pub asks_too_soon : AckFrequencyValue → Bool
asks_too_soon f = ltb (micros f.delay) granularity

-- a frame that is no newer than one that came changes nothing; of one that asks for too little its
-- number counts alone, and it breaks a rule (section 4)
abbrev pub frequency_judged : Bool → Bool → AckFrequencyValue → End → Progress
frequency_judged true soon f e = goes_on e
frequency_judged false true f e = record { end = with_frequency e (record e.frequency { last = Some f.sequence }); fault = Some violation }
frequency_judged false false f e = goes_on (acknowledging_as f e)

-- what an ACK_FREQUENCY frame makes of the end
abbrev pub take_frequency : AckFrequencyValue → End → Progress
take_frequency f e = frequency_judged (is_stale e.frequency.last f.sequence) (asks_too_soon f) f e

-- HANDSHAKE_DONE comes: the handshake is confirmed at a client (RFC 9001, section 4.1.2), of which
-- its application is told at the first; a server that gets one has a peer that breaks the rules
-- (RFC 9000, section 19.20)
abbrev pub done_taken : Side → End → Progress
done_taken Client e = goes_on (with_confirmation e (heard_done e.confirmation))
done_taken Server e = record { end = e; fault = Some violation }

-- what a frame makes of the end; those of other kinds are read, held to their rule of ids and
-- counts, and do nothing yet
abbrev pub take_frame : FrameValue → End → Progress
take_frame (ack a) e = take_ack a e
take_frame (stream f) e = on_streams (stream_breach e.streams f) (after_stream e.streams e.waiting.frames f) e
take_frame (reset_stream f) e = on_streams (reset_breach e.streams f) (after_reset_frame e.streams e.waiting.frames f) e
take_frame (stop_sending f) e = on_state (sending_refusal e.streams f.id) (after_stop_sending e.streams f) e
take_frame (max_data limit) e = on_state None (after_max_data e.streams limit) e
take_frame (max_stream_data f) e = on_state (sending_refusal e.streams f.id) (after_max_stream_data e.streams f.id f.limit) e
take_frame (max_streams f) e = on_state (max_streams_breach f.count) (after_max_streams (dir_named f.one_way) f.count e.streams) e
take_frame (datagram m) e = take_message m e
take_frame (connection_close c) e = take_close (by_transport (transport_close c.code (frame_named c.frame_type) c.reason)) e
take_frame (application_close c) e = take_close (by_application c) e
take_frame (path_challenge token) e = goes_on (path_asked token e)
take_frame (path_response token) e = goes_on (path_answered token e)
take_frame (new_token t) e = record { end = e; fault = fault_at (side_of e) }
take_frame handshake_done e = done_taken (side_of e) e
take_frame (new_connection_id f) e = take_new_id f e
take_frame (retire_connection_id n) e = take_retirement n e
take_frame immediate_ack e = goes_on (ack_required e)
take_frame (ack_frequency f) e = take_frequency f e
take_frame f e = record { end = e; fault = fault_of (broken e.streams (id_rule f)) }

-- whether an item of a payload is an ACK frame that newly acknowledges such a packet
abbrev pub item_answers : Result FrameValue InvalidFrame → End → Bool
item_answers (Ok (ack a)) e = acks_asking a e
item_answers i e = false

-- what the next item of a payload comes to
abbrev pub take_item : Result FrameValue InvalidFrame → End → Progress
take_item (Ok f) e = take_frame f e
take_item (Err x) e = record { end = e; fault = Some (fault_of_frame x) }

-- what the controller is told of an item: only ACK frames tell it something
abbrev pub told_item : Result FrameValue InvalidFrame → End → List Told
told_item (Ok (ack a)) e = told_ack a e
told_item i e = []

-- the next step, unless something was wrong
abbrev pub unless_fault : Option Fault → Progress → (End → Progress) → Progress
unless_fault None p next = next p.end
unless_fault (Some fault) p next = p

-- one frame behind another: the second is taken where the first was
abbrev pub behind : Progress → (End → Progress) → Progress
behind p next = unless_fault p.fault p next

-- all items of a payload, up to the first fault
abbrev pub take_items : List (Result FrameValue InvalidFrame) → End → Progress
take_items [] e = goes_on e
take_items (i ∷ is) e = behind (take_item i e) (take_items is)

-- whether one of the items of a payload is such a frame
abbrev pub items_answer : List (Result FrameValue InvalidFrame) → End → Bool
items_answer [] e = false
items_answer (i ∷ is) e = item_answers i e || items_answer is (take_item i e).end

-- what is told where nothing is wrong
abbrev pub told_unless : Option Fault → List Told → List Told
told_unless None told = told
told_unless (Some fault) told = []

-- what the controller is told behind an item that leaves this, unless something was wrong with it
abbrev pub told_behind : Progress → (End → List Told) → List Told
told_behind p next = told_unless p.fault (next p.end)

-- what the controller is told of the items of a payload, up to the first fault
abbrev pub told_items : List (Result FrameValue InvalidFrame) → End → List Told
told_items [] e = []
told_items (i ∷ is) e = told_item i e ++ told_behind (take_item i e) (told_items is)

-- whether a payload has no frame at all (RFC 9000, section 12.4)
abbrev pub is_empty : List (Result FrameValue InvalidFrame) → Bool
is_empty [] = true
is_empty (i ∷ is) = false

-- the reserved bits have to be 0, and a packet has to have a frame (RFC 9000, sections 17.3.1 and
-- 12.4)
abbrev pub take_payload : ℕ → List (Result FrameValue InvalidFrame) → End → Progress
take_payload first is e =
    if not (reserved_bits first == 0) || is_empty is then record { end = e; fault = Some violation } else take_items is e

-- what the controller is told of a payload
abbrev pub told_payload : ℕ → List (Result FrameValue InvalidFrame) → End → List Told
told_payload first is e = if not (reserved_bits first == 0) || is_empty is then [] else told_items is e

-- ---- the answer, and the end that is left

-- what comes of a datagram: what is answered, and the end that is left
pub record Outcome : Type 0 where
  pub answer : Received
  pub end : End

-- a datagram is dropped and changes nothing
abbrev pub dropped : DropReason → End → Outcome
dropped reason e = record { answer = Dropped reason; end = e }

-- the timers after a packet of a number was taken, which asks for an acknowledgement or doesn't,
-- where one may wait so long
abbrev pub timers_after : ℕ → Timers → Pending → ℕ → ℕ → Bool → Seen → Timers
timers_after delay t p now n asking seen = if packet_starts_wait p n asking seen then with_ack_timer t (Some (ack_due delay now)) else t

-- whether an item of a payload asks for an acknowledgement
abbrev pub item_asks : Result FrameValue InvalidFrame → Bool
item_asks (Ok f) = asks f
item_asks (Err x) = false

-- whether a payload asks for an acknowledgement: one of its frames does (RFC 9000, section 13.2)
abbrev pub asks_in : List (Result FrameValue InvalidFrame) → Bool
asks_in is = list_any item_asks is

-- whether a packet is to be acknowledged at once for its mark, of which these items are taken: it
-- came with CE, and asks for an acknowledgement, or newly acknowledges one that does (section
-- 13.2.1). One that only
-- acknowledges what needn't be acknowledged is answered by none: else two ends on a path that marks
-- each packet would acknowledge acknowledgements without end
abbrev pub is_urged : Option EcnCodepoint → Bool → List (Result FrameValue InvalidFrame) → End → Bool
is_urged mark asking taken e = is_congested mark && (asking || items_answer taken e)

-- the whole payload of a packet of this number was taken, which asks for an acknowledgement or
-- doesn't, is to be acknowledged at once for its mark or isn't, and came with this mark or with
-- none: the number is to be acknowledged, and the mark counts (section 13.4.1)
abbrev pub number_noted : ℕ → Bool → Bool → Option EcnCodepoint → End → End
number_noted n asking urged mark e =
    let now = e.closing.clock in
    let p = with_due urged (after_insert e.acknowledging n now) in
    record e {
      numbers = number_taken e.numbers n;
      acknowledging = after_packet p now n asking e.numbers.opened;
      timers = timers_after e.frequency.own_delay e.timers p now n asking e.numbers.opened;
      marks = record e.marks { came = after_mark mark e.marks.came };
    }

-- the times without a packet begin anew, and the loss timer is set to what the frames left
abbrev pub after_taken : ℕ → Bool → Bool → Option EcnCodepoint → End → End
after_taken n asking urged mark e = with_loss_timer (packet_heard (number_noted n asking urged mark e))

-- the peer closed: the number of its packet counts as taken, and the end is drained (section
-- 10.2.2)
abbrev pub drained_at : ℕ → CloseValue → End → End
drained_at n close e = drained_by (reasons.Peer close) (with_numbers e (number_taken e.numbers n))

-- all frames were taken; or the peer closed; or one was at fault: those before it keep their effect
abbrev pub ends_as : Option Fault → Bool → Bool → ℕ → Option EcnCodepoint → End → Outcome
ends_as None asking urged n mark e = record { answer = Taken; end = after_taken n asking urged mark e }
ends_as (Some (closed_by_peer close)) asking urged n mark e = record { answer = Taken; end = drained_at n close e }
ends_as (Some fault) asking urged n mark e = record { answer = Closed (error_of fault); end = closed_by (reason_of fault) e }

-- what a payload comes to that asks for an acknowledgement or doesn't, at once or not, where it was
-- taken so far
abbrev pub judged : Progress → Bool → Bool → ℕ → Option EcnCodepoint → Outcome
judged p asking urged n mark = ends_as p.fault asking urged n mark p.end

-- what is taken of the items of a packet: frames of path validation that came from elsewhere are
-- left out, as PADDING in their place
abbrev pub items_taken : Opening → Arrival → End → List (Result FrameValue InvalidFrame)
items_taken o arrival e = items_at (is_there arrival.remote e) (items o.payload)

-- a packet that opened at an open end, under a number that didn't come before
abbrev pub processed : Opening → Arrival → End → Outcome
processed o arrival e =
    let now = with_closing e (ticked e.closing arrival.now) in
    let asking = asks_in (items o.payload) in
    let taken = items_taken o arrival e in
    judged (take_payload o.first taken now) asking (is_urged arrival.mark asking taken now) o.number arrival.mark

-- a closing end reads nothing of the packet, and its close is to go once more (section 10.2.1)
abbrev pub by_state : State → Opening → Arrival → End → Outcome
by_state states.Open o arrival e = processed o arrival e
by_state states.Closing o arrival e = dropped drops.Closing (with_closing e (close_asked e.closing))
by_state states.Drained o arrival e = dropped drops.Drained e
by_state states.Failed o arrival e = dropped drops.Failed e

-- a packet that opened: its key phase is 0, and its number is new
abbrev pub opened_to : Opening → Arrival → End → Outcome
opened_to o arrival e =
    if key_phase o.first then dropped drops.KeyPhase e
    else (if is_duplicate e.numbers.opened o.number then dropped drops.Duplicate e
    else by_state e.closing.state o arrival (with_numbers e (number_opened e.numbers o.number)))

-- an end whose peer's key refused as many packets as it may closes (RFC 9001, section 6.6)
abbrev pub exhausted : ℕ → End → End
exhausted now e = closed_by reasons.KeyLimit (with_closing e (ticked e.closing now))

-- AEAD_LIMIT_REACHED (RFC 9000, section 20.1)
abbrev pub key_limit : ErrorValue
key_limit = plain_error 15

-- a packet that doesn't open is dropped, unless it is the last that may not, and the end is open
abbrev pub unopened_in : State → Bool → Arrival → End → Outcome
unopened_in states.Open true arrival e = record { answer = Closed key_limit; end = exhausted arrival.now e }
unopened_in state is_last arrival e = dropped drops.NotOpened e

-- whether the frames of a packet were taken, all of them or those before the first at fault
abbrev pub is_read : Received → Bool
is_read Taken = true
is_read (Closed error) = true
is_read (Dropped reason) = false
is_read receives.Failed = false

-- the ids are drawn that were issued for it, where they were
abbrev pub drawn_if : Bool → Policy → End → End
drawn_if true p e = drawn p.words e
drawn_if false p e = e

-- what a packet comes to, once they are
abbrev pub with_ids_drawn : Policy → Outcome → Outcome
with_ids_drawn p o = record { answer = o.answer; end = drawn_if (is_read o.answer) p o.end }

-- whether all frames of a packet were taken, or those before a close
abbrev pub is_taken : Received → Bool
is_taken Taken = true
is_taken (Closed error) = false
is_taken (Dropped reason) = false
is_taken receives.Failed = false

-- whether a packet says that the peer of an end has moved to the address from which it came, which
-- came to this: one with a close doesn't
abbrev pub has_migrated : Opening → ℕ → End → Outcome → Bool
has_migrated o remote e out = migrates o remote e && (is_taken out.answer && is_open out.end.closing.state)

-- the end has another path then
abbrev pub migrated_if : Bool → Policy → Opening → ℕ → End → End
migrated_if true p o remote e = migrated p o remote e
migrated_if false p o remote e = e

-- what a packet comes to that came to an end, once it has
abbrev pub with_migration : Policy → Opening → ℕ → End → Outcome → Outcome
with_migration p o remote e out = record { answer = out.answer; end = migrated_if (has_migrated o remote e out) p o remote out.end }

-- what a packet comes to, where it opened
abbrev pub opened_as : Option Opening → Policy → Arrival → End → Outcome
opened_as None p arrival e = unopened_in e.closing.state arrival.last arrival e
opened_as (Some o) p arrival e = with_migration p o arrival.remote e (with_ids_drawn p (opened_to o arrival e))

-- what a datagram opens to at an end, behind an own id
abbrev pub opening : Policy → End → List ℕ → Option Opening
opening p e d = opened_packet p.header p.packet (own_id_length + 1) (expected e.numbers) d

-- what a datagram comes to, by whether it is dropped for its address or its header
abbrev pub headed : Result (List ℕ) DropReason → Policy → End → Arrival → List ℕ → Outcome
headed (Err reason) p e arrival d = dropped reason e
headed (Ok id) p e arrival d = opened_as (opening p e d) p arrival e

-- an end that is drained or has failed drops all
abbrev pub received_in : State → Policy → End → Arrival → List ℕ → Outcome
received_in states.Failed p e arrival d = dropped drops.Failed e
received_in states.Drained p e arrival d = dropped drops.Drained e
received_in states.Open p e arrival d = headed (head e arrival.remote d) p e arrival d
received_in states.Closing p e arrival d = headed (head e arrival.remote d) p e arrival d

-- what an end makes of a datagram that comes
abbrev pub received : Policy → End → Arrival → List ℕ → Outcome
received p e arrival d = received_in e.closing.state p e arrival d

-- ---- what the controller is told (RFC 9002, section 7)

-- of a packet that opened at an open end, under a number that didn't come before
abbrev pub told_processed : Opening → Arrival → End → List Told
told_processed o arrival e = told_payload o.first (items_taken o arrival e) (with_closing e (ticked e.closing arrival.now))

-- only an open end reads what is in a packet
abbrev pub told_by_state : State → Opening → Arrival → End → List Told
told_by_state states.Open o arrival e = told_processed o arrival e
told_by_state state o arrival e = []

-- of a packet that opened
abbrev pub told_opened : Opening → Arrival → End → List Told
told_opened o arrival e =
    if key_phase o.first || is_duplicate e.numbers.opened o.number then []
    else told_by_state e.closing.state o arrival (with_numbers e (number_opened e.numbers o.number))

-- of a packet, where it opened
abbrev pub told_opened_as : Option Opening → Arrival → End → List Told
told_opened_as None arrival e = []
told_opened_as (Some o) arrival e = told_opened o arrival e

-- of a datagram, by whether it is dropped for its address or its header
abbrev pub told_headed : Result (List ℕ) DropReason → Policy → End → Arrival → List ℕ → List Told
told_headed (Err reason) p e arrival d = []
told_headed (Ok id) p e arrival d = told_opened_as (opening p e d) arrival e

-- an end that is drained or has failed drops all
abbrev pub told_received_in : State → Policy → End → Arrival → List ℕ → List Told
told_received_in states.Failed p e arrival d = []
told_received_in states.Drained p e arrival d = []
told_received_in states.Open p e arrival d = told_headed (head e arrival.remote d) p e arrival d
told_received_in states.Closing p e arrival d = told_headed (head e arrival.remote d) p e arrival d

-- of a datagram that comes
abbrev pub told_received : Policy → End → Arrival → List ℕ → List Told
told_received p e arrival d = told_received_in e.closing.state p e arrival d

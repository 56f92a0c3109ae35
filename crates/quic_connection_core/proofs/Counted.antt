-- Only a packet that doesn't open counts as a failure: no error of the frames of a packet that
-- opened says AEAD_LIMIT_REACHED.
use Rattle.std.proofs.Common.{◌≡◌, ℕ, Bool, true, false, cond, List, [], ◌∷◌, length, Option, Some, None, Result, Ok, Err, refl, ap, ◌∙◌}
use Rattle.std.specs.Prelude.{if◌then◌else◌, nat_lt, not, ◌||◌, ◌==◌}
use Rattle.std.specs.declared.ops.Range.{Range}
use Rattle.quic_wire_core.specs.declared.shared.EcnCodepoint.{EcnCodepoint}
use Rattle.quic_wire_core.specs.declared.stream_id.Side.{Side}
use Rattle.quic_wire_core.specs.declared.stream_id.Side.TheVariants.{Client, Server}
use Rattle.quic_wire_core.specs.TransportError.{plain_error, protocol_violation}
use Rattle.quic_wire.specs.declared.frame.InvalidFrame.{InvalidFrame}
use Rattle.quic_wire.specs.Value.{FrameValue, ack, stream, reset_stream, stop_sending, max_data, max_stream_data, max_streams, datagram, new_token, handshake_done, new_connection_id, retire_connection_id, path_challenge, path_response, connection_close, application_close, immediate_ack, ack_frequency}
use Rattle.quic_wire.specs.Items.{items}
use Rattle.quic_packet.specs.Header.{key_phase, reserved_bits}
use Rattle.quic_packet.specs.Datagram.{Opening}
use Rattle.quic_packet.specs.declared.packet.HeaderError.{HeaderError}
use Rattle.quic_packet.specs.declared.packet.HeaderError.TheVariants as headers
use Rattle.quic_streams_parts.specs.declared.answers.Breach.{Breach}
use Rattle.quic_streams_parts.specs.declared.answers.Breach.TheVariants.{FlowControl, StreamLimit, StreamState, FinalSize, FrameEncoding, Pieces}
use Rattle.quic_messages.specs.declared.errors.ReceivedError.{ReceivedError}
use Rattle.quic_messages.specs.Messages.{received_answer}
use Rattle.quic_ids.specs.CidState.{is_wrong, without}
use Rattle.quic_ids.specs.CidQueue.{insert_answer}
use Rattle.quic_ids.specs.declared.cid_queue.InsertError.{InsertError}
use Rattle.quic_ids.specs.declared.cid_queue.InsertError.TheVariants as inserts
use Rattle.quic_retransmits.specs.Retransmits.{can_retire}
use Rattle.quic_streams_state.specs.Taking.{stream_breach, reset_breach, id_rule, broken}
use Rattle.quic_recovery_core.specs.Duplicates.{is_duplicate}
use Rattle.quic_spaces.specs.Numbers.{number_opened}
use Rattle.quic_machine.specs.declared.answers.State.{State}
use Rattle.quic_machine.specs.declared.answers.State.TheVariants as states
use Rattle.quic_machine.specs.declared.answers.Received.{Received}
use Rattle.quic_machine.specs.declared.answers.Received.TheVariants as receives
use Rattle.quic_machine.specs.declared.answers.DropReason.{DropReason}
use Rattle.quic_machine.specs.declared.answers.DropReason.TheVariants as drops
use Rattle.quic_machine.specs.Arrival.{Arrival}
use Rattle.quic_machine.specs.Heard.{Heard, is_key_limit, heard_failure, heard_answer}
use Rattle.quic_machine.specs.Closing.{ticked}
use Rattle.quic_machine.specs.Opens.{drop_of, with_drop}
use Rattle.quic_machine.specs.Ids.{frame_of, retires_for}
use Rattle.quic_machine.specs.End.{End, side_of, with_closing, with_numbers}
use Rattle.quic_recovery_core.specs.AckFrequency.{is_stale}
use Rattle.quic_machine.specs.FrameCases.{ack_taken}
use Rattle.quic_machine.specs.Receive.{Fault, broke, too_many_pieces, closed_by_peer, violation, error_of, fault_of, fault_at, names_ungiven, message_judged, retired_for, id_judged, retirement_judged, asks_too_soon, frequency_judged, done_taken, take_frame, take_item, take_items, take_payload, unless_fault, is_empty, asks_in, is_urged, ends_as, dropped, items_taken, by_state, opened_to}

-- a header that can't be read is none
header_kept : (error : HeaderError) (h : Heard) → heard_answer (receives.Dropped (drop_of error)) h ≡ h
header_kept headers.TooShort h = refl
header_kept headers.NotShort h = refl
header_kept headers.FixedBit h = refl
header_kept headers.UnknownId h = refl

-- nor is a datagram that is dropped for that, or for where it came from
pub head_kept : (foreign : Bool) (r : Result (List ℕ) HeaderError) (reason : DropReason) (h : Heard) → (if foreign then Err drops.Address else with_drop r) ≡ Err reason → heard_answer (receives.Dropped reason) h ≡ h
head_kept true r reason h is = ap (λ (x : DropReason). heard_answer (receives.Dropped x) h) (let same : reason ≡ drops.Address = cc in same)
head_kept false (Err error) reason h is = ap (λ (x : DropReason). heard_answer (receives.Dropped x) h) (let same : reason ≡ drop_of error = cc in same) ∙ header_kept error h
head_kept false (Ok id) reason h is = absurd cc

-- ---- faults

-- a fault's error isn't AEAD_LIMIT_REACHED
abbrev Apart : Option Fault → Type 0
Apart None = Unit {0}
Apart (Some f) = is_key_limit (error_of f) ≡ false

rule_apart : (o : Option Breach) → Apart (fault_of o)
rule_apart None = tt
rule_apart (Some FlowControl) = refl
rule_apart (Some StreamLimit) = refl
rule_apart (Some StreamState) = refl
rule_apart (Some FinalSize) = refl
rule_apart (Some FrameEncoding) = refl
rule_apart (Some Pieces) = refl

side_apart : (side : Side) → Apart (fault_at side)
side_apart Client = tt
side_apart Server = refl

frame_apart : (f : FrameValue) (e : End) → Apart (take_frame f e).fault
frame_apart (ack a) e = go (names_ungiven a e)
  where
    go : (b : Bool) → Apart (ack_taken b a e).fault
    go true = refl
    go false = tt
frame_apart (stream f) e = rule_apart (stream_breach e.streams f)
frame_apart (reset_stream f) e = rule_apart (reset_breach e.streams f)
frame_apart (stop_sending f) e = rule_apart _
frame_apart (max_data limit) e = tt
frame_apart (max_stream_data f) e = rule_apart _
frame_apart (max_streams f) e = rule_apart _
frame_apart (datagram m) e = go (received_answer e.transport.datagram_receive_buffer_size m e.messages.queues)
  where
    go : (r : Result Bool ReceivedError) → Apart (message_judged r m e).fault
    go (Ok first) = tt
    go (Err error) = refl
frame_apart (connection_close c) e = refl
frame_apart (application_close c) e = refl
frame_apart (path_challenge token) e = tt
frame_apart (path_response token) e = tt
frame_apart (new_token t) e = side_apart (side_of e)
frame_apart handshake_done e = go (side_of e)
  where
    go : (side : Side) → Apart (done_taken side e).fault
    go Client = tt
    go Server = refl
frame_apart (new_connection_id f) e = judged_apart (retires_for (insert_answer e.ids.peer (frame_of f)))
  where
    retires : (b : Bool) (r : Range ℕ) → Apart (retired_for b r f e).fault
    retires true r = tt
    retires false r = refl

    judged_apart : (r : Result (Option (Range ℕ)) InsertError) → Apart (id_judged r f e).fault
    judged_apart (Ok None) = tt
    judged_apart (Ok (Some r)) = retires (can_retire e.waiting.frames r.start r.end) r
    judged_apart (Err inserts.Retired) = tt
    judged_apart (Err inserts.ExceedsLimit) = refl
frame_apart (retire_connection_id n) e = go (is_wrong e.ids.own n)
  where
    go : (b : Bool) → Apart (retirement_judged (cond b (Err (plain_error protocol_violation)) (Ok (nat_lt (length (without n e.ids.own.living)) e.ids.limit))) n e).fault
    go true = refl
    go false = tt
frame_apart immediate_ack e = tt
frame_apart (ack_frequency f) e = go (is_stale e.frequency.last f.sequence) (asks_too_soon f)
  where
    go : (stale soon : Bool) → Apart (frequency_judged stale soon f e).fault
    go true soon = tt
    go false true = refl
    go false false = tt
frame_apart f e = rule_apart (broken e.streams (id_rule f))

item_apart : (i : Result FrameValue InvalidFrame) (e : End) → Apart (take_item i e).fault
item_apart (Ok f) e = frame_apart f e
item_apart (Err x) e = refl

items_apart : (is : List (Result FrameValue InvalidFrame)) (e : End) → Apart (take_items is e).fault
items_apart [] e = tt
items_apart (i ∷ is) e = go (take_item i e).fault refl (item_apart i e) (items_apart is (take_item i e).end)
  where
    go : (o : Option Fault) → (take_item i e).fault ≡ o → Apart (take_item i e).fault → Apart (take_items is (take_item i e).end).fault → Apart (unless_fault o (take_item i e) (take_items is)).fault
    go None is_so here rest = rest
    go (Some x) is_so here rest = here

payload_apart : (first : ℕ) (is : List (Result FrameValue InvalidFrame)) (e : End) → Apart (take_payload first is e).fault
payload_apart first is e = go (not (reserved_bits first == 0) || is_empty is)
  where
    go : (b : Bool) → Apart (if b then record { end = e; fault = Some violation } else take_items is e).fault
    go true = refl
    go false = items_apart is e

-- ---- packets that open

-- an answer to one
abbrev pub ToOpened : Received → Type 0
ToOpened receives.Taken = Unit {0}
ToOpened (receives.Closed error) = is_key_limit error ≡ false
ToOpened (receives.Dropped drops.NotOpened) = ⊥
ToOpened (receives.Dropped reason) = Unit {0}
ToOpened receives.Failed = Unit {0}

ends_apart : (o : Option Fault) (asking urged : Bool) (n : ℕ) (mark : Option EcnCodepoint) (e : End) → Apart o → ToOpened (ends_as o asking urged n mark e).answer
ends_apart None asking urged n mark e here = tt
ends_apart (Some (closed_by_peer close)) asking urged n mark e here = tt
ends_apart (Some (broke error)) asking urged n mark e here = here
ends_apart (Some too_many_pieces) asking urged n mark e here = here

pub opened_answer : (o : Opening) (arrival : Arrival) (e : End) → ToOpened (opened_to o arrival e).answer
opened_answer o arrival e = by (key_phase o.first) (is_duplicate e.numbers.opened o.number)
  where
    x : End
    x = with_numbers e (number_opened e.numbers o.number)

    in_state : (s : State) → ToOpened (by_state s o arrival x).answer
    in_state states.Open =
        let y : End = with_closing x (ticked x.closing arrival.now) in
        let asks = asks_in (items o.payload) in
        let taken = items_taken o arrival x in
        ends_apart (take_payload o.first taken y).fault asks (is_urged arrival.mark asks taken y) o.number arrival.mark (take_payload o.first taken y).end (payload_apart o.first taken y)
    in_state states.Closing = tt
    in_state states.Drained = tt
    in_state states.Failed = tt

    by : (p d : Bool) → ToOpened (if p then dropped drops.KeyPhase e else (if d then dropped drops.Duplicate e else by_state e.closing.state o arrival x)).answer
    by true d = tt
    by false true = tt
    by false false = in_state e.closing.state

-- so it counts as none
answer_kept : (a : Received) (h : Heard) → ToOpened a → heard_answer a h ≡ h
answer_kept receives.Taken h here = refl
answer_kept (receives.Closed error) h here = ap (λ (b : Bool). if b then heard_failure h else h) here
answer_kept (receives.Dropped drops.NotOpened) h here = absurd here
answer_kept (receives.Dropped reason) h here = refl
answer_kept receives.Failed h here = refl

pub opened_kept : (o : Opening) (arrival : Arrival) (e : End) (h : Heard) → heard_answer (opened_to o arrival e).answer h ≡ h
opened_kept o arrival e h = answer_kept (opened_to o arrival e).answer h (opened_answer o arrival e)

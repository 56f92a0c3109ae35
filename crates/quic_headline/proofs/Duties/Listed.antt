-- What waits in a list and goes as a frame of its own, RESET_STREAM, STOP_SENDING,
-- RETIRE_CONNECTION_ID and NEW_CONNECTION_ID, and HANDSHAKE_DONE, which goes so too, waits, stands
-- in a packet that is tracked, or has come: each call keeps that.
use Rattle.std.proofs.Common.{◌≡◌, ℕ, zero, suc, Bool, true, false, ◌||◌, ◌==◌, List, [], ◌∷◌, ◌-◌, ◌++◌, length, map, Option, Some, None, Result, Ok, Err, refl, sym, ap, ◌∙◌, subst, ◌⊎◌, inl, inr}
use Rattle.std.specs.Prelude.{if◌then◌else◌, map, nat_le, set, slice_get}
use Rattle.std.specs.declared.ops.Range.{Range}
use Rattle.std.specs.Option.{IsSome, is_some, option_map}
use Rattle.std.specs.List.{list_any, range_with_len}
use Rattle.std.proofs.lemmas.Bool.{both_ways, or_parts, or_cases, or_left, or_right, eqb-true, eq-eqb}
use Rattle.std.proofs.lemmas.List.Folds.{list_any-append}
use Rattle.std.proofs.lemmas.Option.{same_Some}
use Rattle.quic_wire.specs.Value.{FrameValue, AckValue, ResetStreamValue, StopSendingValue, NewConnectionIdValue, ack, handshake_done, new_connection_id, retire_connection_id, path_response, stream, reset_stream, stop_sending, max_data, max_stream_data, max_streams, asks, datagram, ack_frequency}
use Rattle.quic_send_buffer.specs.declared.stream_meta.StreamMeta.{StreamMeta}
use Rattle.quic_streams_parts.specs.declared.answers.UpdateError.{UpdateError}
use Rattle.quic_streams_parts.specs.declared.answers.UpdateError.TheVariants as update_errors
use Rattle.quic_streams_parts.specs.Table.{Table, at}
use Rattle.quic_streams_parts.specs.SendHalf.{SendHalf, frame_of}
use Rattle.quic_streams_parts.specs.RecvHalf.{RecvHalf}
use Rattle.quic_wire_core.specs.TransportError.{ErrorValue}
use Rattle.quic_wire_core.specs.declared.shared.IssuedCid.{IssuedCid}
use Rattle.quic_ids.specs.CidState.{retirement_answer}
use Rattle.quic_ids.specs.CidQueue.{insert_answer}
use Rattle.quic_ids.specs.declared.cid_queue.InsertError.{InsertError}
use Rattle.quic_ids.specs.declared.cid_queue.InsertError.TheVariants as inserts
use Rattle.quic_paths.specs.Paths.{is_asked}
use Rattle.quic_retransmits.specs.Retransmits.{Retransmits, nothing_waits, merged, others_of, most_retirements, can_retire, after_retire}
use Rattle.quic_streams_state.specs.declared.state.StreamsState.{StreamsState}
use Rattle.quic_retransmits.specs.declared.retransmits.ControlKind.{ControlKind}
use Rattle.quic_retransmits.specs.declared.retransmits.ControlKind.TheVariants.{HandshakeDone, ResetStream, StopSending, NewConnectionId, RetireConnectionId}
use Rattle.quic_streams_state.specs.State.{Streams, streams_of, sending_half, receiving_half}
use Rattle.quic_streams_state.specs.Sends.{reset_half}
use Rattle.quic_streams_state.specs.Limits.{decided, settled}
use Rattle.quic_streams_state.specs.Acked.{after_stream_acked, after_reset_acked}
use Rattle.quic_streams_state.specs.Taking.{after_stream, after_reset_frame}
use Rattle.quic_streams_state.specs.Writing.{after_write, after_write_chunks, after_reset, reset_at, is_reset_at, after_set_priority}
use Rattle.quic_streams_state.specs.Reading.{told_bytes, after_read_begun, after_finalize, with_stop, stopped_if, stopped_at, stop_answer, is_closed_at, after_stop, after_received_reset}
use Rattle.quic_streams_state.specs.Control.{Entry, done_entry, reset_frame, reset_entry, stop_entry, new_id_entry, retire_entry, told_id, flagged, waiting, without_first, control_frames, kind_of, Goes}
use Rattle.quic_streams_state.specs.Control as control
use Rattle.quic_streams_laws.specs.KindLaws.{GoesFirst, first_others, without_of}
use Rattle.quic_streams_laws.specs.ControlWalk.{by_control}
use Rattle.quic_recovery_core.specs.PendingAcks.{can_send}
use Rattle.quic_machine.specs.declared.run.Call.{Call}
use Rattle.quic_machine.specs.declared.run.Call.TheVariants as calls
use Rattle.quic_machine.specs.declared.run.Answer.{Answer}
use Rattle.quic_machine.specs.declared.run.Answer.TheVariants as answers
use Rattle.quic_machine.specs.Policy.{Policy}
use Rattle.quic_machine.specs.Closing.{ticked}
use Rattle.quic_machine.specs.Tracking.{Tracking, TrackedPacket, Carried, retransmits_in, without_record, names, acked_by, is_lost, lost_by, after_detection}
use Rattle.quic_machine.specs.End.{End, with_closing, with_streams, with_ids, with_frames, words_drawn, streams_at, number_of, closed_by}
use Rattle.quic_machine.specs.Calls.{after_nexts, is_open}
use Rattle.quic_machine.specs.StreamCalls.{IsStreamAnswer, if_ok, after_on_streams}
use Rattle.quic_machine.specs.Acked.{without_known, reset_acked, resets_acked, stream_acked, streams_acked, packet_acked, packets_acked, stream_lost, streams_lost, carried_lost, packets_lost, verdict, losses_detected, measured, sampled, without_acked, after_named, losses_taken, request_acked}
use Rattle.quic_machine.specs.Receive.{is_above, names_ungiven, take_frame, Outcome, after_taken, asks_in, drained_at, reason_of, retired_for, id_judged, retirement_judged}
use Rattle.quic_machine.specs.MessageCalls.{most_message}
use Rattle.quic_machine.specs.Sizes.{without_longer_if, shortened}
use Rattle.quic_machine.specs.Validation.{word_of, validated_if}
use Rattle.quic_machine.specs.Ids.{Drawing, words_behind, words_of_id, drawn_id, undrawn_id, drawn_one, drawn_places, retired, frame_of as id_frame_of, retires_for, retires_for_next, next_used}
use Rattle.quic_machine.specs.IdFrames.{retiring, with_taken_up, issued, issued_if, issues_for, next_id_taken, end_on_next_id, drawn}
use Rattle.quic_machine.specs.Poll.{Polled, Draft, no_frames, ack_of, with_signal_frames, with_control_frames, with_asking, with_ack, ack_fits, ack_if, composed_if, composed, asking, frame_room, lazied, packet_of, tracked, record_moved, polled, with_message, with_message_frames, goes, draft_as, whole, Leaving, with_frequency_frame}
use Rattle.quic_machine.specs.DraftLaws.{by_streams, by_messages, MayLeave, by_signals}
use Rattle.quic_machine.specs.Puts.{with_half_frame}
use Rattle.quic_machine.specs.PollCases.{ready_at, ready_leaves, draft_at, by_poll_to, composes, may_leave_at}
use Rattle.quic_machine.specs.FrameCases.{OnStreams, named, ack_taken, begun, passed, frames_leave, by_marks, IsApart}
use Rattle.quic_machine.specs.CallCases.{is_delivery, by_call, by_done}
use Rattle.quic_machine.specs.LeaveCases.{by_expired, by_event}
use Rattle.quic_machine.specs.Machine.{after_call}
use Rattle.quic_headline.specs.Runs.{Packet, Intake, In, reset_by, says_done, ResetHasArrived, DoneHasArrived}
use Rattle.quic_headline.specs.Observer.{Sent}
use Rattle.quic_headline.specs.Amounts.{stops_stream, was_stopped}
use Rattle.quic_headline.specs.Credit.{resets_stream}
use Rattle.quic_headline.specs.Going.{retires_number}
use Rattle.quic_headline.specs.InFlight.{is_handshake_done, again_in}
use Rattle.quic_headline.specs.Duties.{AnyIn, has_reset, has_stop, has_retirement, has_new_id, WasRetired, WasToldId}
use Rattle.quic_headline.proofs.Packets.Searches.{by_losses}
use Rattle.quic_headline.proofs.Packets.Invariant.{IsCarriedFrom, AreTracked, carried_again}
use Rattle.quic_headline.proofs.Packets.Ascending.{Ascends}
use Rattle.quic_headline.proofs.Packets.Probes.{by_ready, ready_tracked, by_going, with_asked}
use Rattle.quic_headline.proofs.Packets.Given.{draft_number}
use Rattle.quic_headline.proofs.Packets.Carried.{again_is}
use Rattle.quic_headline.proofs.Packets.Delivered.{Arrivals, arrived}
use Rattle.quic_headline.proofs.Packets.Told.{told_reads}
use Rattle.quic_headline.proofs.Packets.MayGo.{WasReset, AreReady}
use Rattle.quic_headline.proofs.Packets.Named.{NamesTaken, Stands, WasCarried, named_carried, by_frame, frame_fewer}
use Rattle.quic_headline.proofs.Halves.Pile.{SamePile, without_fewer}
use Rattle.quic_headline.proofs.Halves.PileSteps.{acked_same, reset_acked_same, stream_same, reset_same}
use Rattle.quic_headline.proofs.Halves.PileCalls.{write_same, chunks_same, finalize_same, received_reset_same}
use Rattle.quic_headline.proofs.Duties.Carrier.{any_is, any_either, any_member, any_put, any_sent, IsNew, ready_new}
use Rattle.quic_headline.proofs.Duties.Tail.{AskBefore, Quiet, tail_quiet, ready_before}
use Rattle.quic_machine.specs.Sizes.{search_acked}
use Rattle.quic_headline.proofs.Packets.Closes.{by_closes}
use Rattle.quic_headline.proofs.Packets.Apart.{by_waits, by_frequency, by_heard_done}
use Rattle.quic_headline.proofs.Packets.Entries.{by_request}
use Rattle.quic_headline.proofs.Packets.Moving.{moving_keeps}

-- ---- what waits in a list

-- RESET_STREAM of a stream, or STOP_SENDING of one; the retirement of a number, or the id of one;
-- or HANDSHAKE_DONE
pub data Listed : Type 0 where
  ResetOf : (id : ℕ) → Listed
  StopOf : (id : ℕ) → Listed
  RetireOf : (number : ℕ) → Listed
  NewIdOf : (number : ℕ) → Listed
  DoneOf : Listed

-- whether a frame tells of the id of a number
abbrev pub tells_number : ℕ → FrameValue → Bool
tells_number number (new_connection_id f) = f.sequence == number
tells_number number f = false

-- whether a frame says it
abbrev pub says : Listed → FrameValue → Bool
says (ResetOf id) = resets_stream id
says (StopOf id) = stops_stream id
says (RetireOf number) = retires_number number
says (NewIdOf number) = tells_number number
says DoneOf = is_handshake_done

-- whether one of some does
abbrev pub said : Listed → List FrameValue → Bool
said what frames = list_any (says what) frames

-- whether it is among what waits, or has to be sent again
abbrev pub listed_in : Listed → Retransmits → Bool
listed_in (ResetOf id) r = has_reset id r.reset_stream
listed_in (StopOf id) r = has_stop id r.stop_sending
listed_in (RetireOf number) r = has_retirement number r.retire_cids
listed_in (NewIdOf number) r = has_new_id number r.new_cids
listed_in DoneOf r = r.handshake_done

-- ACK_FREQUENCY is none of them
asked_listed : (what : Listed) (r : Retransmits) (waits : Bool) → listed_in what (record r { ack_frequency = waits }) ≡ listed_in what r
asked_listed (ResetOf id) r waits = refl
asked_listed (StopOf id) r waits = refl
asked_listed (RetireOf number) r waits = refl
asked_listed (NewIdOf number) r waits = refl
asked_listed DoneOf r waits = refl

-- where HANDSHAKE_DONE waits, the others wait as before
done_listed : (what : Listed) (r : Retransmits) → listed_in what r ≡ true → listed_in what (record r { handshake_done = true }) ≡ true
done_listed (ResetOf id) r is = is
done_listed (StopOf id) r is = is
done_listed (RetireOf number) r is = is
done_listed (NewIdOf number) r is = is
done_listed DoneOf r is = refl

-- ACK_FREQUENCY hasn't to have a form there
asked_ready : (live : Table SendHalf) (r : Retransmits) (waits : Bool) → AreReady live r → AreReady live (record r { ack_frequency = waits })
asked_ready live r waits a = record { resets = a.resets; stops = a.stops; ids = a.ids; retired = a.retired }

-- it stood in a packet that was taken
pub record Came (took : List Packet) (what : Listed) : Type 0 where
  pub packet : Packet
  pub was_taken : In packet took
  pub carried : said what packet.frames ≡ true

-- it stands in what has to be sent again of a packet
abbrev pub HasIt : Listed → ℕ × TrackedPacket → Type 0
HasIt what q = listed_in what q.1.carried.retransmits ≡ true

-- it waits, stands in a tracked packet, or came
abbrev pub ListedStands : List Packet → Listed → End → Type 0
ListedStands took what e = (listed_in what e.waiting.frames ≡ true) ⊎ AnyIn (HasIt what) e.tracking.packets ⊎ Came took what

-- ---- each of them

-- nothing waits
pub nothing_listed : (what : Listed) → listed_in what nothing_waits ≡ false
nothing_listed (ResetOf id) = refl
nothing_listed (StopOf id) = refl
nothing_listed (RetireOf number) = refl
nothing_listed (NewIdOf number) = refl
nothing_listed DoneOf = refl

-- where the same waits
same_listed : (what : Listed) (p q : Retransmits) → SamePile p q → listed_in what q ≡ listed_in what p
same_listed (ResetOf id) p q same = ap (has_reset id) same.resets
same_listed (StopOf id) p q same = ap (has_stop id) same.stops
same_listed (RetireOf number) p q same = ap (has_retirement number) same.retired
same_listed (NewIdOf number) p q same = ap (has_new_id number) same.ids
same_listed DoneOf p q same = same.done

-- where limits are decided
decided_listed : (what : Listed) (s : StreamsState) (p : Retransmits) → listed_in what (decided s p) ≡ listed_in what p
decided_listed (ResetOf id) s p = refl
decided_listed (StopOf id) s p = refl
decided_listed (RetireOf number) s p = refl
decided_listed (NewIdOf number) s p = refl
decided_listed DoneOf s p = refl

-- what waits, and what waits again
merged_listed : (what : Listed) (p lost : Retransmits) → listed_in what (merged p lost) ≡ (listed_in what p || listed_in what lost)
merged_listed (ResetOf id) p lost = list_any-append (λ (r : ℕ × ℕ). r.0 == id) p.reset_stream lost.reset_stream
merged_listed (StopOf id) p lost = list_any-append (λ (s : StopSendingValue). s.id == id) p.stop_sending lost.stop_sending
merged_listed (RetireOf number) p lost = list_any-append (λ (n : ℕ). n == number) p.retire_cids lost.retire_cids
merged_listed (NewIdOf number) p lost = list_any-append (λ (cid : IssuedCid). cid.sequence == number) p.new_cids lost.new_cids
merged_listed DoneOf p lost = refl

-- a reset waits besides
reset_added : (what : Listed) (p : Retransmits) (r : ℕ × ℕ) → listed_in what p ≡ true → listed_in what (record p { reset_stream = p.reset_stream ++ r ∷ [] }) ≡ true
reset_added (ResetOf id) p r is = list_any-append (λ (x : ℕ × ℕ). x.0 == id) p.reset_stream (r ∷ []) ∙ or_left (has_reset id p.reset_stream) (has_reset id (r ∷ [])) is
reset_added (StopOf id) p r is = is
reset_added (RetireOf number) p r is = is
reset_added (NewIdOf number) p r is = is
reset_added DoneOf p r is = is

-- or a stop
stop_added : (what : Listed) (p : Retransmits) (s : StopSendingValue) → listed_in what p ≡ true → listed_in what (record p { stop_sending = p.stop_sending ++ s ∷ [] }) ≡ true
stop_added (ResetOf id) p s is = is
stop_added (StopOf id) p s is = list_any-append (λ (x : StopSendingValue). x.id == id) p.stop_sending (s ∷ []) ∙ or_left (has_stop id p.stop_sending) (has_stop id (s ∷ [])) is
stop_added (RetireOf number) p s is = is
stop_added (NewIdOf number) p s is = is
stop_added DoneOf p s is = is

-- or retirements
retired_added : (what : Listed) (p : Retransmits) (ns : List ℕ) → listed_in what p ≡ true → listed_in what (record p { retire_cids = p.retire_cids ++ ns }) ≡ true
retired_added (ResetOf id) p ns is = is
retired_added (StopOf id) p ns is = is
retired_added (RetireOf number) p ns is = list_any-append (λ (n : ℕ). n == number) p.retire_cids ns ∙ or_left (has_retirement number p.retire_cids) (has_retirement number ns) is
retired_added (NewIdOf number) p ns is = is
retired_added DoneOf p ns is = is

-- or an id
told_added : (what : Listed) (p : Retransmits) (c : IssuedCid) → listed_in what p ≡ true → listed_in what (record p { new_cids = p.new_cids ++ c ∷ [] }) ≡ true
told_added (ResetOf id) p c is = is
told_added (StopOf id) p c is = is
told_added (RetireOf number) p c is = is
told_added (NewIdOf number) p c is = list_any-append (λ (cid : IssuedCid). cid.sequence == number) p.new_cids (c ∷ []) ∙ or_left (has_new_id number p.new_cids) (has_new_id number (c ∷ [])) is
told_added DoneOf p c is = is

-- what frames say has to be sent again
pub again_says : (what : Listed) (fs : List FrameValue) → listed_in what (again_in fs) ≡ said what fs
again_says (ResetOf id) [] = refl
again_says (StopOf id) [] = refl
again_says (RetireOf number) [] = refl
again_says (NewIdOf number) [] = refl
again_says DoneOf fs = refl
again_says (ResetOf id) (reset_stream f ∷ fs) = ap (λ (b : Bool). (f.id == id) || b) (again_says (ResetOf id) fs)
again_says (StopOf id) (stop_sending f ∷ fs) = ap (λ (b : Bool). (f.id == id) || b) (again_says (StopOf id) fs)
again_says (RetireOf number) (retire_connection_id n ∷ fs) = ap (λ (b : Bool). (n == number) || b) (again_says (RetireOf number) fs)
again_says (NewIdOf number) (new_connection_id f ∷ fs) = ap (λ (b : Bool). (f.sequence == number) || b) (again_says (NewIdOf number) fs)
again_says (ResetOf id) (f ∷ fs) = again_says (ResetOf id) fs
again_says (StopOf id) (f ∷ fs) = again_says (StopOf id) fs
again_says (RetireOf number) (f ∷ fs) = again_says (RetireOf number) fs
again_says (NewIdOf number) (f ∷ fs) = again_says (NewIdOf number) fs

-- a frame that goes says what waited first, or that waits still
first_listed : (what : Listed) (p : Retransmits) (s : StreamsState) (f : FrameValue) → Goes p s f → listed_in what p ≡ true → (says what f || listed_in what (without_of (kind_of f) p)) ≡ true
first_listed (ResetOf id) p s (reset_stream f) goes is = sym (ap (has_reset id) (first_others p.reset_stream (f.id, f.code) goes.1)) ∙ is
first_listed (StopOf id) p s (stop_sending f) goes is = sym (ap (has_stop id) (first_others p.stop_sending f goes)) ∙ is
first_listed (RetireOf number) p s (retire_connection_id n) goes is = sym (ap (has_retirement number) (first_others p.retire_cids n goes)) ∙ is
first_listed (NewIdOf number) p s (new_connection_id f) goes is =
    sym (ap (has_new_id number) (first_others p.new_cids goes.0 goes.1) ∙ ap (λ (g : NewConnectionIdValue). (g.sequence == number) || has_new_id number (others_of p.new_cids)) (sym goes.2)) ∙ is
first_listed DoneOf p s handshake_done goes is = refl
first_listed (ResetOf id) p s f goes is = is
first_listed (StopOf id) p s f goes is = is
first_listed (RetireOf number) p s f goes is = is
first_listed (NewIdOf number) p s f goes is = is
first_listed DoneOf p s f goes is = is

-- a frame that says it asks for an acknowledgement
says_asks : (what : Listed) (f : FrameValue) → says what f ≡ true → asks f ≡ true
says_asks (ResetOf id) (reset_stream f) is = refl
says_asks (StopOf id) (stop_sending f) is = refl
says_asks (RetireOf number) (retire_connection_id n) is = refl
says_asks (NewIdOf number) (new_connection_id f) is = refl
says_asks DoneOf handshake_done is = refl
says_asks (ResetOf id) f is = cc
says_asks (StopOf id) f is = cc
says_asks (RetireOf number) f is = cc
says_asks (NewIdOf number) f is = cc
says_asks DoneOf f is = cc

-- the frame that resets a stream
frame_resets : (fs : List FrameValue) (id : ℕ) → said (ResetOf id) fs ≡ true → (f : ResetStreamValue) × In (reset_stream f) fs × (f.id ≡ id)
frame_resets [] id is = cc
frame_resets (reset_stream f ∷ fs) id is = elim (or_cases (f.id == id) (said (ResetOf id) fs) is) [
  | inl here ↦ (f, inl refl, eqb-true f.id id here)
  | inr more ↦ (let rest = frame_resets fs id more in (rest.0, inr rest.1, rest.2))
]
frame_resets (f ∷ fs) id is = let rest = frame_resets fs id is in (rest.0, inr rest.1, rest.2)

-- a reset that came
pub reset_has_come : (took : List Packet) (id : ℕ) → Came took (ResetOf id) → ResetHasArrived took id
reset_has_come took id came = let found = frame_resets came.packet.frames id came.carried in record { packet = came.packet; was_taken = came.was_taken; frame = found.0; carried = found.1; of_stream = found.2 }

-- and a stop
pub stop_has_come : (took : List Packet) (id : ℕ) → Came took (StopOf id) → was_stopped id took ≡ true
stop_has_come took id came = any_is (λ (p : Packet). list_any (stops_stream id) p.frames) came.packet took came.was_taken came.carried

-- a frame that retires a number
frame_retires : (fs : List FrameValue) (number : ℕ) → said (RetireOf number) fs ≡ true → In (retire_connection_id number) fs
frame_retires [] number is = cc
frame_retires (retire_connection_id n ∷ fs) number is = elim (or_cases (n == number) (said (RetireOf number) fs) is) [
  | inl here ↦ inl (ap (λ (k : ℕ). retire_connection_id k) (sym (eqb-true n number here)))
  | inr more ↦ inr (frame_retires fs number more)
]
frame_retires (f ∷ fs) number is = inr (frame_retires fs number is)

-- one that tells of the id of a number
frame_tells : (fs : List FrameValue) (number : ℕ) → said (NewIdOf number) fs ≡ true → (f : NewConnectionIdValue) × In (new_connection_id f) fs × (f.sequence ≡ number)
frame_tells [] number is = cc
frame_tells (new_connection_id f ∷ fs) number is = elim (or_cases (f.sequence == number) (said (NewIdOf number) fs) is) [
  | inl here ↦ (f, inl refl, eqb-true f.sequence number here)
  | inr more ↦ (let rest = frame_tells fs number more in (rest.0, inr rest.1, rest.2))
]
frame_tells (f ∷ fs) number is = let rest = frame_tells fs number is in (rest.0, inr rest.1, rest.2)

-- a retirement that came
pub retirement_has_come : (took : List Packet) (number : ℕ) → Came took (RetireOf number) → WasRetired took number
retirement_has_come took number came = record { packet = came.packet; was_taken = came.was_taken; carried = frame_retires came.packet.frames number came.carried }

-- and an id
pub id_has_come : (took : List Packet) (number : ℕ) → Came took (NewIdOf number) → (id : List ℕ) × WasToldId took number id
id_has_come took number came =
    let found = frame_tells came.packet.frames number came.carried in
    (found.0.id, record { packet = came.packet; was_taken = came.was_taken; frame = found.0; carried = found.1; of_number = found.2; is = refl })

-- HANDSHAKE_DONE among frames
frame_done : (fs : List FrameValue) → said DoneOf fs ≡ true → In handshake_done fs
frame_done [] is = cc
frame_done (handshake_done ∷ fs) is = inl refl
frame_done (f ∷ fs) is = inr (frame_done fs is)

-- and it came
pub done_has_come : (took : List Packet) → Came took DoneOf → DoneHasArrived took
done_has_come took came = record { packet = came.packet; was_taken = came.was_taken; carried = frame_done came.packet.frames came.carried }

-- what came stays so
pub came_on : (old later : List Packet) (what : Listed) (e : End) → ((packet : Packet) → In packet old → In packet later) → ListedStands old what e → ListedStands later what e
came_on old later what e keeps (inl waits) = inl waits
came_on old later what e keeps (inr (inl flies)) = inr (inl flies)
came_on old later what e keeps (inr (inr came)) = inr (inr (record { packet = came.packet; was_taken = keeps came.packet came.was_taken; carried = came.carried }))

-- ---- frames

module _ (what : Listed) where
  said_front : (fs gs : List FrameValue) → said what fs ≡ true → said what (fs ++ gs) ≡ true
  said_front fs gs is = list_any-append (says what) fs gs ∙ or_left (said what fs) (said what gs) is

  said_behind : (fs gs : List FrameValue) → said what gs ≡ true → said what (fs ++ gs) ≡ true
  said_behind fs gs is = list_any-append (says what) fs gs ∙ or_right (said what fs) (said what gs) is

  -- frames that don't ask say nothing of it
  pub none_said : (fs : List FrameValue) → asking fs ≡ false → said what fs ≡ true → ⊥
  none_said [] silent is = cc
  none_said (f ∷ fs) silent is =
      let parts = or_parts (asks f) (asking fs) silent in
      elim (or_cases (says what f) (said what fs) is) [ inl here ↦ both_ways (asks f) parts.0 (says_asks what f here) | inr more ↦ none_said fs parts.1 more ]

  -- what has to be sent again of frames
  carried_said : (fs : List FrameValue) → listed_in what (retransmits_in fs) ≡ said what fs
  carried_said fs = ap (listed_in what) (sym (again_is fs)) ∙ again_says what fs

  -- what was carried stands in one of the frames
  carried_has : (c : Carried) (fs : List FrameValue) → IsCarriedFrom c fs → listed_in what c.retransmits ≡ true → said what fs ≡ true
  carried_has c fs from is = go (carried_again c fs from)
    where
      go : (c.retransmits ≡ retransmits_in fs) ⊎ (c.retransmits ≡ nothing_waits) → said what fs ≡ true
      go (inl same) = sym (carried_said fs) ∙ (ap (listed_in what) (sym same) ∙ is)
      go (inr none) = absurd (both_ways (listed_in what c.retransmits) (ap (listed_in what) none ∙ nothing_listed what) is)

  -- what a packet carried that was taken came
  carried_came : (took : List Packet) (c : Carried) → WasCarried took c → listed_in what c.retransmits ≡ true → Came took what
  carried_came took c was is = record { packet = was.packet; was_taken = was.was_taken; carried = carried_has c was.packet.frames was.is is }

  -- ---- an ACK frame

  resets_wait : (rs : List (ℕ × ℕ)) (e : End) → listed_in what (resets_acked rs e).waiting.frames ≡ listed_in what e.waiting.frames
  resets_wait [] e = refl
  resets_wait (r ∷ rs) e = resets_wait rs (reset_acked r.0 e) ∙ same_listed what e.waiting.frames (after_reset_acked e.streams e.waiting.frames r.0).pending (reset_acked_same e.streams e.waiting.frames r.0)

  streams_wait : (ms : List StreamMeta) (e : End) → listed_in what (streams_acked ms e).waiting.frames ≡ listed_in what e.waiting.frames
  streams_wait [] e = refl
  streams_wait (m ∷ ms) e = streams_wait ms (stream_acked m e) ∙ same_listed what e.waiting.frames (after_stream_acked e.streams e.waiting.frames m).pending (acked_same e.streams e.waiting.frames m)

  known_wait : (o : Option ℕ) (e : End) → listed_in what (without_known o e).waiting.frames ≡ listed_in what e.waiting.frames
  known_wait None e = refl
  known_wait (Some n) e = refl

  -- acknowledged packets leave it
  packets_wait : (ps : Table TrackedPacket) (e : End) → listed_in what (packets_acked ps e).waiting.frames ≡ listed_in what e.waiting.frames
  packets_wait [] e = refl
  packets_wait (p ∷ ps) e =
      let c : Carried = p.1.carried in
      let asked : End = request_acked p.0 (search_acked p e) in
      let knows : End = without_known c.largest_acked asked in
      packets_wait ps (packet_acked p e) ∙ streams_wait c.stream_frames (resets_acked c.retransmits.reset_stream knows) ∙ resets_wait c.retransmits.reset_stream knows ∙ known_wait c.largest_acked asked

  lost_wait : (ms : List StreamMeta) (e : End) → (streams_lost ms e).waiting ≡ e.waiting
  lost_wait [] e = refl
  lost_wait (m ∷ ms) e = lost_wait ms (stream_lost m e)

  -- what lost packets carried waits, and what waited
  losses_wait : (ps : Table TrackedPacket) (e : End) → (listed_in what e.waiting.frames ≡ true) ⊎ AnyIn (HasIt what) ps → listed_in what (packets_lost ps e).waiting.frames ≡ true
  losses_wait [] e (inl was) = was
  losses_wait [] e (inr none) = absurd none
  losses_wait (p ∷ ps) e i = losses_wait ps (carried_lost p.1.carried e) (one i)
    where
      c : Carried
      c = p.1.carried

      same : listed_in what (carried_lost c e).waiting.frames ≡ (listed_in what e.waiting.frames || listed_in what c.retransmits)
      same = merged_listed what (streams_lost c.stream_frames e).waiting.frames c.retransmits ∙ ap (λ w. listed_in what w.frames || listed_in what c.retransmits) (lost_wait c.stream_frames e)

      one : (listed_in what e.waiting.frames ≡ true) ⊎ AnyIn (HasIt what) (p ∷ ps) → (listed_in what (carried_lost c e).waiting.frames ≡ true) ⊎ AnyIn (HasIt what) ps
      one (inl was) = inl (same ∙ or_left (listed_in what e.waiting.frames) (listed_in what c.retransmits) was)
      one (inr (inl here)) = inl (same ∙ or_right (listed_in what e.waiting.frames) (listed_in what c.retransmits) here)
      one (inr (inr more)) = inr more

-- ---- ids

-- ids that are drawn have the numbers of those that waited
set_same : (number : ℕ) (xs : List IssuedCid) (place : ℕ) (words : ℕ → ℕ) (c : IssuedCid) → slice_get xs place ≡ Some c → has_new_id number (set xs place (drawn_id words c.sequence)) ≡ has_new_id number xs
set_same number [] place words c is = cc
set_same number (x ∷ xs) zero words c is = ap (λ (y : IssuedCid). (y.sequence == number) || has_new_id number xs) (sym (same_Some x c is))
set_same number (x ∷ xs) (suc place) words c is = ap (λ (b : Bool). (x.sequence == number) || b) (set_same number xs place words c is)

one_same : (number : ℕ) (o : Option IssuedCid) (place : ℕ) (words : ℕ → ℕ) (d : Drawing) → slice_get d.waiting place ≡ o → has_new_id number (drawn_one o place words d).waiting ≡ has_new_id number d.waiting
one_same number None place words d is = refl
one_same number (Some c) place words d is = set_same number d.waiting place words c is

pub places_same : (number : ℕ) (places : List ℕ) (words : ℕ → ℕ) (d : Drawing) → has_new_id number (drawn_places places words d).waiting ≡ has_new_id number d.waiting
places_same number [] words d = refl
places_same number (place ∷ places) words d =
    places_same number places (words_behind words_of_id words) (drawn_one (slice_get d.waiting place) place words d) ∙ one_same number (slice_get d.waiting place) place words d refl

drawn_waits : (what : Listed) (words : ℕ → ℕ) (e : End) → listed_in what e.waiting.frames ≡ true → listed_in what (drawn words e).waiting.frames ≡ true
drawn_waits (ResetOf id) words e is = is
drawn_waits (StopOf id) words e is = is
drawn_waits (RetireOf number) words e is = is
drawn_waits DoneOf words e is = is
drawn_waits (NewIdOf number) words e is = places_same number e.ids.undrawn (words_behind (words_drawn e) words) (record { living = e.ids.living; waiting = e.waiting.frames.new_cids }) ∙ is

module _ (took : List Packet) (what : Listed) where
  -- where it waits still
  more_waits : (e : End) (r : Retransmits) → (listed_in what e.waiting.frames ≡ true → listed_in what r ≡ true) → ListedStands took what e → ListedStands took what (with_frames e r)
  more_waits e r more (inl waits) = inl (more waits)
  more_waits e r more (inr rest) = inr rest

  pub drawn_stands : (words : ℕ → ℕ) (e : End) → ListedStands took what e → ListedStands took what (drawn words e)
  drawn_stands words e (inl waits) = inl (drawn_waits what words e waits)
  drawn_stands words e (inr rest) = inr rest

  -- messages that are dropped leave it
  lasts_stand : (o : Option ℕ) (e : End) → ListedStands took what e → ListedStands took what (without_longer_if o e)
  lasts_stand None e i = i
  lasts_stand (Some most) e i = i

  pub shortened_stands : (b : Bool) (e : End) → ListedStands took what e → ListedStands took what (shortened b e)
  shortened_stands true e i = lasts_stand (most_message e) e i
  shortened_stands false e i = i

  retiring_stands : (r : Range ℕ) (e : End) → ListedStands took what e → ListedStands took what (retiring r e)
  retiring_stands r e i = more_waits e (after_retire e.waiting.frames r.start r.end) (retired_added what e.waiting.frames (range_with_len r.start (r.end - r.start))) i

  -- a frame apart from streams leaves it
  pub apart_stands : (f : FrameValue) (e : End) → IsApart f → ListedStands took what e → ListedStands took what (take_frame f e).end
  apart_stands (ack a) e apart i = absurd apart
  apart_stands (stream f) e apart i = absurd apart
  apart_stands (reset_stream f) e apart i = absurd apart
  apart_stands (stop_sending f) e apart i = absurd apart
  apart_stands (max_data limit) e apart i = absurd apart
  apart_stands (max_stream_data f) e apart i = absurd apart
  apart_stands (max_streams f) e apart i = absurd apart
  apart_stands (datagram m) e apart i = absurd apart
  apart_stands (new_connection_id f) e apart i = go (retires_for (insert_answer e.ids.peer (id_frame_of f)))
    where
      retires : (b : Bool) (r : Range ℕ) → ListedStands took what (retired_for b r f e).end
      retires true r = shortened_stands _ (retiring r (with_taken_up f e)) (retiring_stands r (with_taken_up f e) i)
      retires false r = i

      late : (b : Bool) → ListedStands took what (with_frames e (if b then e.waiting.frames else record e.waiting.frames { retire_cids = e.waiting.frames.retire_cids ++ f.sequence ∷ [] }))
      late true = i
      late false = more_waits e (record e.waiting.frames { retire_cids = e.waiting.frames.retire_cids ++ f.sequence ∷ [] }) (retired_added what e.waiting.frames (f.sequence ∷ [])) i

      go : (r : Result (Option (Range ℕ)) InsertError) → ListedStands took what (id_judged r f e).end
      go (Ok None) = shortened_stands _ (with_taken_up f e) i
      go (Ok (Some r)) = retires (can_retire e.waiting.frames r.start r.end) r
      go (Err inserts.Retired) = late (nat_le most_retirements (length e.waiting.frames.retire_cids) || list_any (λ m. m == f.sequence) e.waiting.frames.retire_cids)
      go (Err inserts.ExceedsLimit) = i
  apart_stands (retire_connection_id n) e apart i = go (retirement_answer e.ids.own n e.ids.limit)
    where
      left : End
      left = with_ids e (retired n e.ids)

      issues : (b : Bool) → ListedStands took what (issued_if b left)
      issues true = more_waits e (issued left).waiting.frames (told_added what e.waiting.frames (undrawn_id left.ids.own.issued)) i
      issues false = i

      go : (r : Result Bool ErrorValue) → ListedStands took what (retirement_judged r n e).end
      go (Ok more) = issues (issues_for n e)
      go (Err error) = i
  apart_stands (path_response token) e apart i = go (is_asked e.validation.challenge (word_of token))
    where
      go : (b : Bool) → ListedStands took what (validated_if b e)
      go true = i
      go false = i
  apart_stands handshake_done e apart i = by_heard_done (ListedStands took what) e i (λ c. i)
  apart_stands (ack_frequency r) e apart i = by_frequency (ListedStands took what) r e (λ threshold reordering frequency. i)
  apart_stands f e apart i = i

  -- so does the change to the next id of the peer
  pub next_stands : (e : End) (a : Answer) → ListedStands took what e → ListedStands took what (end_on_next_id e a)
  next_stands e (answers.UseNextId (Ok done)) i = go (retires_for_next e.ids)
    where
      go : (o : Option (Range ℕ)) → ListedStands took what (next_id_taken o e)
      go None = i
      go (Some r) = shortened_stands _ (retiring r (with_ids e (next_used e.ids))) (retiring_stands r (with_ids e (next_used e.ids)) i)
  next_stands e a i = i

module _ (took : List Packet) (what : Listed) where
  -- losses that are detected
  detected_stands : (e : End) → ListedStands took what e → ListedStands took what (losses_detected e)
  detected_stands e i = by_losses (ListedStands took what) e (λ discovery queues. go i)
    where
      lost : Table TrackedPacket
      lost = lost_by (verdict e) e.tracking.packets

      go : ListedStands took what e → (listed_in what (packets_lost lost e).waiting.frames ≡ true) ⊎ AnyIn (HasIt what) (after_detection (verdict e) e.tracking).packets ⊎ Came took what
      go (inl waits) = inl (losses_wait what lost e (inl waits))
      go (inr (inl flying)) = elim (any_either (HasIt what) (is_lost (verdict e)) e.tracking.packets flying) [ inl gone ↦ inl (losses_wait what lost e (inr gone)) | inr kept ↦ inr (inl kept) ]
      go (inr (inr came)) = inr (inr came)

  -- a round trip is measured, if one is
  sampled_stands : (o : Option TrackedPacket) (a : AckValue) (e : End) → ListedStands took what e → ListedStands took what (sampled o a e)
  sampled_stands None a e i = i
  sampled_stands (Some p) a e i = i

  -- an ACK frame that names these packets
  named_stands : (ps : Table TrackedPacket) (rises : Bool) (a : AckValue) (e : End) → acked_by a e.tracking.packets ≡ ps → ((n : ℕ) (t : TrackedPacket) → In (n, t) (acked_by a e.tracking.packets) → WasCarried took t.carried) → ListedStands took what e → ListedStands took what (after_named ps rises a e)
  named_stands [] rises a e is was i = i
  named_stands (p ∷ ps) rises a e is was i =
      let o : Option TrackedPacket = measured rises a (p ∷ ps) in
      let left : End = without_acked (p ∷ ps) a e in
      by_marks rises (length (p ∷ ps)) a (losses_taken (p ∷ ps) rises a e) (ListedStands took what) (λ m marking. detected_stands (sampled o a left) (sampled_stands o a left (go i)))
    where
      packets : Table TrackedPacket
      packets = e.tracking.packets

      go : ListedStands took what e → ListedStands took what (without_acked (p ∷ ps) a e)
      go (inl waiting) = inl (packets_wait what (p ∷ ps) e ∙ waiting)
      go (inr (inl flying)) = elim (any_either (HasIt what) (λ q. names a q.0) packets flying) [
        | inl acked ↦ (
            let m = any_member (HasIt what) (acked_by a packets) acked in
            inr (inr (carried_came what took m.0.1.carried (was m.0.0 m.0.1 m.1) m.2)))
        | inr other ↦ inr (inl other)
      ]
      go (inr (inr came)) = inr (inr came)

  -- other streams, where the same waits
  kept_stands : (e : End) (t : Streams) → SamePile e.waiting.frames t.pending → ListedStands took what e → ListedStands took what (with_streams e t)
  kept_stands e t same (inl waits) = inl (same_listed what e.waiting.frames t.pending same ∙ waits)
  kept_stands e t same (inr more) = inr more

  -- a frame on streams leaves what waits, and what is tracked
  frame_waits : (f : FrameValue) (e : End) → OnStreams f → ListedStands took what e → ListedStands took what (take_frame f e).end
  frame_waits (stream f) e on i = kept_stands e (after_stream e.streams e.waiting.frames f) (stream_same e.streams e.waiting.frames f) i
  frame_waits (reset_stream f) e on i = kept_stands e (after_reset_frame e.streams e.waiting.frames f) (reset_same e.streams e.waiting.frames f) i
  frame_waits (stop_sending f) e on i = i
  frame_waits (max_data limit) e on i = i
  frame_waits (max_stream_data f) e on i = i
  frame_waits (max_streams f) e on i = i
  frame_waits f e on i = absurd on

  -- ---- a delivery

  module _ (sents : List Sent) (stands : Stands took sents) where
    -- an ACK frame, taken or refused
    ack_stands : (b : Bool) (a : AckValue) (e : End) → NamesTaken took a → AreTracked sents e.tracking.packets → ListedStands took what e → ListedStands took what (ack_taken b a e).end
    ack_stands true a e takes tracked i = i
    ack_stands false a e takes tracked i = named_stands (acked_by a e.tracking.packets) (is_above e.numbers.largest_acked a.largest) a (named a e) refl (named_carried took sents stands a e.tracking.packets takes tracked) i

    -- over the frames of a packet
    pub record Going (left : List FrameValue) (e : End) : Type 0 where
      pub takes : (a : AckValue) → In (ack a) left → NamesTaken took a
      pub tracked : AreTracked sents e.tracking.packets
      pub stand : ListedStands took what e

    -- any frame
    pub frame_stands : (f : FrameValue) (left : List FrameValue) (e : End) → Going (f ∷ left) e → ListedStands took what (take_frame f e).end
    frame_stands f left e g = by_frame f e (λ h p. ListedStands took what p.end) (λ a is. ack_stands (names_ungiven a e) a e (g.takes a (inl is)) g.tracked g.stand)
        (λ other on. frame_waits f e on g.stand) (λ other m same. subst (ListedStands took what) (sym same) g.stand)
        (λ other apart. apart_stands took what f e apart g.stand)

    frames_stand : (fs : List FrameValue) (e : End) → ((a : AckValue) → In (ack a) fs → NamesTaken took a) → AreTracked sents e.tracking.packets → ListedStands took what e → ListedStands took what (passed fs e).end
    frames_stand fs e takes tracked i = (frames_leave Going (λ f left x g. record {
      takes = λ a j. g.takes a (inr j);
      tracked = λ n t j. g.tracked n t (frame_fewer x f x (λ m u k. k) n t j);
      stand = frame_stands f left x g;
    }) fs e (record { takes = takes; tracked = tracked; stand = i })).1.stand

    -- each case of a delivery
    pub arrivals_stand : (e : End) (now n : ℕ) (frames taken : List FrameValue) (came : Intake) → ((a : AckValue) → In (ack a) taken → NamesTaken took a) → AreTracked sents e.tracking.packets → ListedStands took what e → Arrivals e now n frames taken came (λ (o : Outcome) (j : Intake). ListedStands took what o.end)
    arrivals_stand e now n frames taken came takes tracked i = record {
      ignored = λ reason. i;
      noted = λ state reason. i;
      takes = λ words state new none urged mark. draws words (after_taken n (asks_in (map Ok frames)) urged mark (arrived e now n taken).end) after;
      moves = λ p o same remote x opened j. moving_keeps (ListedStands took what) (λ m z k. k) (next_stands took what) p o remote x j;
      drains = λ words state new close is. draws words (drained_at n close (arrived e now n taken).end) after;
      refuses = λ words state new f is. draws words (closed_by (reason_of f) (arrived e now n taken).end) after;
      exhausts = λ state. i;
    }
      where
        draws : (words : ℕ → ℕ) (x : End) → ListedStands took what x → ListedStands took what (drawn words x)
        draws words x j = drawn_stands took what words x j

        after : ListedStands took what (arrived e now n taken).end
        after = frames_stand taken (begun e now n) takes tracked i

-- ---- a poll

-- a half that was reset has a frame
reset_due : (live : Table SendHalf) (r : ℕ × ℕ) → WasReset live r → reset_frame r (at live r.0) ≡ None → ⊥
reset_due live r was none = go was.half.reset was.reset (ap (reset_frame r) (sym was.found) ∙ none)
  where
    go : (o : Option ℕ) → o ≡ Some was.size → option_map (λ size. reset_stream (record { id = r.0; code = r.1; final_size = size })) o ≡ None → ⊥
    go None is due = cc
    go (Some size) is due = cc

-- a stop has one
stop_due : (c : control.Draft) (e : Entry) (es : List Entry) (rs : List StopSendingValue) → map stop_entry rs ≡ e ∷ es → e.frame c.state ≡ None → ⊥
stop_due c e es [] is none = cc
stop_due c e es (r ∷ rs) is none =
    let entry : stop_entry r ≡ e = cc in
    let no : Some (stop_sending r) ≡ None = ap (λ (x : Entry). x.frame c.state) entry ∙ none in
    cc

-- a retirement has one
retire_due : (c : control.Draft) (e : Entry) (es : List Entry) (rs : List ℕ) → map retire_entry rs ≡ e ∷ es → e.frame c.state ≡ None → ⊥
retire_due c e es [] is none = cc
retire_due c e es (r ∷ rs) is none =
    let entry : retire_entry r ≡ e = cc in
    let no : Some (retire_connection_id r) ≡ None = ap (λ (x : Entry). x.frame c.state) entry ∙ none in
    cc

-- and an id
id_due : (c : control.Draft) (e : Entry) (es : List Entry) (rs : List IssuedCid) → map new_id_entry rs ≡ e ∷ es → e.frame c.state ≡ None → ⊥
id_due c e es [] is none = cc
id_due c e es (r ∷ rs) is none =
    let entry : new_id_entry r ≡ e = cc in
    let no : Some (new_connection_id (told_id r)) ≡ None = ap (λ (x : Entry). x.frame c.state) entry ∙ none in
    cc

-- HANDSHAKE_DONE has one too
done_due : (c : control.Draft) (e : Entry) (es : List Entry) (on : Bool) → flagged on done_entry ≡ e ∷ es → e.frame c.state ≡ None → ⊥
done_due c e es false is none = cc
done_due c e es true is none =
    let entry : done_entry ≡ e = cc in
    let no : Some handshake_done ≡ None = ap (λ (x : Entry). x.frame c.state) entry ∙ none in
    cc

module _ (s : StreamsState) (p : Retransmits) (ready : AreReady s.sending.halves.live p) (what : Listed) where
  -- frames of control went: what waited waits still or went, and the resets that wait still waited
  record Moved (c : control.Draft) : Type 0 where
    same : (r : ℕ × ℕ) → reset_frame r (at c.state.sending.halves.live r.0) ≡ reset_frame r (at s.sending.halves.live r.0)
    waited : (r : ℕ × ℕ) → In r c.pending.reset_stream → In r p.reset_stream
    moves : listed_in what p ≡ true → (listed_in what c.pending ≡ true) ⊎ (said what c.frames ≡ true)

  -- the first reset that waits isn't dropped
  first_due : (c : control.Draft) (e : Entry) (es : List Entry) → waiting ResetStream c.pending ≡ e ∷ es → e.frame c.state ≡ None → Moved c → ⊥
  first_due c e es is none m = go c.pending.reset_stream is m.waited
    where
      go : (rs : List (ℕ × ℕ)) → waiting ResetStream (record c.pending { reset_stream = rs }) ≡ e ∷ es → ((r : ℕ × ℕ) → In r rs → In r p.reset_stream) → ⊥
      go [] is waited = cc
      go (r ∷ rs) is waited =
          let entry : reset_entry r ≡ e = cc in
          reset_due s.sending.halves.live r (ready.resets r (waited r (inl refl)))
          (sym (m.same r) ∙ (ap (λ (x : Entry). x.frame c.state) entry ∙ none))

  -- so it waits still where something is dropped
  dropped : (it : Listed) (kind : ControlKind) (c : control.Draft) (e : Entry) (es : List Entry) → waiting kind c.pending ≡ e ∷ es → e.frame c.state ≡ None → Moved c → listed_in it c.pending ≡ true → listed_in it (without_first kind c.pending) ≡ true
  dropped (ResetOf id) ResetStream c e es is none m waits = absurd (first_due c e es is none m)
  dropped (StopOf id) StopSending c e es is none m waits = absurd (stop_due c e es c.pending.stop_sending is none)
  dropped (RetireOf number) RetireConnectionId c e es is none m waits = absurd (retire_due c e es c.pending.retire_cids is none)
  dropped (NewIdOf number) NewConnectionId c e es is none m waits = absurd (id_due c e es c.pending.new_cids is none)
  dropped (ResetOf id) kind c e es is none m waits = waits
  dropped (StopOf id) kind c e es is none m waits = waits
  dropped (RetireOf number) kind c e es is none m waits = waits
  dropped (NewIdOf number) kind c e es is none m waits = waits
  dropped DoneOf HandshakeDone c e es is none m waits = absurd (done_due c e es c.pending.handshake_done is none)
  dropped DoneOf kind c e es is none m waits = waits

  -- a frame that goes
  goes_listed : (kind : ControlKind) (c : control.Draft) (f : FrameValue) → GoesFirst kind c.pending c.state f → listed_in what c.pending ≡ true → (says what f || listed_in what (without_first kind c.pending)) ≡ true
  goes_listed kind c f is = subst (λ (o : Option ControlKind). listed_in what c.pending ≡ true → (says what f || listed_in what (without_of o c.pending)) ≡ true) is.of_kind (first_listed what c.pending c.state f is.says)

  -- whichever go
  control_moved : (most used : ℕ) → Moved (control_frames most used s p nothing_waits)
  control_moved most used = by_control most Moved (record {
    drops = λ c kind e es is none m. record {
      same = m.same;
      waited = λ r i. m.waited r ((without_fewer kind c.pending).resets r i);
      moves = λ was. elim (m.moves was) [ inl waits ↦ inl (dropped what kind c e es is none m waits) | inr went ↦ inr went ];
    };
    sends = λ c kind f is room m. record {
      same = λ r. told_reads (reset_frame r) (λ h limit. refl) f c.state r.0 ∙ m.same r;
      waited = λ r i. m.waited r ((without_fewer kind c.pending).resets r i);
      moves = λ was. elim (m.moves was) [
        | inl waits ↦ elim (or_cases (says what f) (listed_in what (without_first kind c.pending)) (goes_listed kind c f is waits)) [
          | inl goes ↦ inr (said_behind what c.frames (f ∷ []) (or_left (says what f) false goes))
          | inr stays ↦ inl stays
        ]
        | inr went ↦ inr (said_front what c.frames (f ∷ []) went)
      ];
    };
  }) (control.no_frames used s p nothing_waits) (record { same = λ r. refl; waited = λ r i. i; moves = λ was. inl was })

module _ (e : End) (ready : AreReady e.streams.sending.halves.live e.waiting.frames) (what : Listed) (was : listed_in what e.waiting.frames ≡ true) where
  -- it waits still, or stands in a frame
  abbrev IsMoved : Draft → Type 0
  IsMoved d = (listed_in what d.end.waiting.frames ≡ true) ⊎ (said what d.frames ≡ true)

  -- no frame went but ACK, signals and ACK_FREQUENCY
  record Untouched (d : Draft) : Type 0 where
    streams : d.end.streams ≡ e.streams
    waits : listed_in what d.end.waiting.frames ≡ true
    forms : AreReady e.streams.sending.halves.live d.end.waiting.frames

  -- one frame more
  moved_more : (d : Draft) (f : FrameValue) (x : End) → x.waiting.frames ≡ d.end.waiting.frames → IsMoved d → (listed_in what x.waiting.frames ≡ true) ⊎ (said what (d.frames ++ f ∷ []) ≡ true)
  moved_more d f x same (inl waits) = inl (ap (listed_in what) same ∙ waits)
  moved_more d f x same (inr went) = inr (said_front what d.frames (f ∷ []) went)

  -- what asks goes
  asking_moved : (d : Draft) → Untouched d → IsMoved (with_asking d)
  asking_moved d u = by_streams IsMoved (λ x i h room found first left is counts m. moved_more x (stream (frame_of i h room)) (with_half_frame x i h room).end refl m) (with_message_frames (with_control_frames (with_frequency_frame (with_signal_frames d))))
      (by_messages IsMoved (λ x m ms is fit moved. moved_more x (datagram m) (with_message x m ms).end refl moved) (with_control_frames (with_frequency_frame (with_signal_frames d))) (controls (with_frequency_frame (with_signal_frames d))
      (by_request Untouched (with_signal_frames d) (λ waits v. record { streams = v.streams; waits = asked_listed what (with_signal_frames d).end.waiting.frames false ∙ v.waits; forms = asked_ready _ (with_signal_frames d).end.waiting.frames false v.forms }) (by_signals Untouched (λ x f left is v. record { streams = v.streams; waits = v.waits; forms = v.forms }) d u))))
    where
      controls : (x : Draft) → Untouched x → IsMoved (with_control_frames x)
      controls x v =
          let c = control_frames (frame_room x.end) (length_of x) x.end.streams x.end.waiting.frames nothing_waits in
          let here : AreReady x.end.streams.sending.halves.live x.end.waiting.frames = rw v.streams v.forms in
          elim ((control_moved x.end.streams x.end.waiting.frames here what (frame_room x.end) (length_of x)).moves v.waits) [
            | inl waits ↦ inl waits
            | inr went ↦ inr (said_behind what x.frames c.frames went)
          ]
        where
          length_of : Draft → ℕ
          length_of y = length y.bytes

  -- whichever frames go
  composed_moved : IsMoved (composed e)
  composed_moved = go (can_send e.acknowledging)
    where
      late : (b : Bool) (d : Draft) → IsMoved d → IsMoved (ack_if b d)
      late true d m = moved_more d (ack (ack_of d.end)) (with_ack d).end refl m
      late false d m = m

      go : (b : Bool) → IsMoved (composed_if b e)
      go true = asking_moved (with_ack (no_frames e)) (record { streams = refl; waits = was; forms = ready })
      go false = late (ack_fits (with_asking (no_frames e))) (with_asking (no_frames e)) (asking_moved (no_frames e) (record { streams = refl; waits = was; forms = ready }))

-- so it is of what goes, where that is composed, or is a due ACK, a probe of a size or a close
-- alone, and where nothing goes
draft_moved : (e : End) (ready : AreReady e.streams.sending.halves.live e.waiting.frames) (what : Listed) (was : listed_in what e.waiting.frames ≡ true) → (leaving : Leaving) → IsMoved e ready what was (draft_as leaving e)
draft_moved e ready what was whole = composed_moved (lazied e) ready what was
draft_moved e ready what was other = inl was

module _ (took : List Packet) (sents : List Sent) (what : Listed) where
  -- a packet of the tail has nothing of it
  tail_lacks : (q : ℕ × TrackedPacket) → Quiet sents q → HasIt what q → ⊥
  tail_lacks q quiet is = none_said what quiet.sent.frames quiet.quiet (carried_has what q.1.carried quiet.sent.frames quiet.carried is)

  -- a datagram that goes is tracked
  given_stands : (d : Draft) → AreTracked sents d.end.tracking.packets → AskBefore sents d.end.tracking.greatest_asking → IsNew d.end.tracking.packets (number_of d.end)
      → ((listed_in what d.end.waiting.frames ≡ true) ⊎ (said what d.frames ≡ true)) ⊎ AnyIn (HasIt what) d.end.tracking.packets ⊎ Came took what → ListedStands took what (tracked d)
  given_stands d were before new i = go i
    where
      flies : HasIt what (number_of d.end, packet_of d) ⊎ AnyIn (HasIt what) d.end.tracking.packets → ListedStands took what (tracked d)
      flies o = inr (inl (any_sent (HasIt what) d.end.tracking (number_of d.end) (packet_of d) new (λ q j behind. tail_lacks q (tail_quiet sents d.end.tracking were before q j behind)) o))

      go : ((listed_in what d.end.waiting.frames ≡ true) ⊎ (said what d.frames ≡ true)) ⊎ AnyIn (HasIt what) d.end.tracking.packets ⊎ Came took what → ListedStands took what (tracked d)
      go (inl (inl waits)) = inl waits
      go (inl (inr went)) = flies (inl (carried_said what d.frames ∙ went))
      go (inr (inl flying)) = flies (inr flying)
      go (inr (inr came)) = inr (inr came)

  module _ (e : End) (now : ℕ) (ascends : Ascends e) (were : AreTracked sents e.tracking.packets) (before : AskBefore sents e.tracking.greatest_asking) (new : IsNew e.tracking.packets (number_of e)) where
    asked_stands : (waits : Bool) (x : End) → ListedStands took what x → ListedStands took what (with_asked x waits)
    asked_stands waits x (inl set) = inl (asked_listed what x.waiting.frames waits ∙ set)
    asked_stands waits x (inr rest) = inr rest

    -- where something waits for each probe: what a probe carries waits
    ready_stands : ListedStands took what e → ListedStands took what (ready_at e now).end
    ready_stands i = by_ready (ListedStands took what) e now i (λ ping immediate x j. j) (λ waits x j. asked_stands waits x j) (λ p among. moved p among i) (λ moment pacing discovery x j. j)
      where
        again : (p : ℕ × TrackedPacket) → (listed_in what e.waiting.frames ≡ true) ⊎ HasIt what p → listed_in what (merged e.waiting.frames p.1.carried.retransmits) ≡ true
        again p (inl waits) = merged_listed what e.waiting.frames p.1.carried.retransmits ∙ or_left (listed_in what e.waiting.frames) (listed_in what p.1.carried.retransmits) waits
        again p (inr here) = merged_listed what e.waiting.frames p.1.carried.retransmits ∙ or_right (listed_in what e.waiting.frames) (listed_in what p.1.carried.retransmits) here

        moved : (p : ℕ × TrackedPacket) → In p e.tracking.packets → ListedStands took what e → ListedStands took what (record_moved (Some p) (with_closing e (ticked e.closing now)))
        moved p among (inl waits) = inl (again p (inl waits))
        moved p among (inr (inl flying)) = elim (any_put (HasIt what) (HasIt what p) e.tracking.packets p (without_record p.1) ascends among (λ here. inr here) flying) [
          | inl there ↦ inr (inl there)
          | inr here ↦ inl (again p (inr here))
        ]
        moved p among (inr (inr came)) = inr (inr came)

    -- after a poll
    polled_stands : (p : Policy) → AreReady (ready_at e now).end.streams.sending.halves.live (ready_at e now).end.waiting.frames → ListedStands took what e → ListedStands took what (polled p e now).end
    polled_stands p ready i = by_poll_to p e now (λ (q : Polled). ListedStands took what q.end) (record {
      silent = i;
      failed = i;
      nothing = λ is none. ready_stands i;
      repeats = λ is. by_closes p (with_closing e (ticked e.closing now)) (λ (q : Polled). ListedStands took what q.end) i (λ f goes. i);
      closes = λ reason bound. by_closes p (closed_by reason (ready_at e now).end) (λ (q : Polled). ListedStands took what q.end) (ready_stands i) (λ f goes. ready_stands i);
      gives = λ is may some. by_going (ListedStands took what) p (draft_at e now) (λ pacing. gives some);
    })
      where
        gives : goes (ready_at e now) ≡ true → ListedStands took what (tracked (draft_at e now))
        gives some =
            let leaving : Leaving = (ready_at e now).leaving in
            let r : End = (ready_at e now).end in
            let d : Draft = draft_at e now in
            let due : MayLeave leaving r = may_leave_at e now in
            let same = composes leaving r due in
            let tracks : r.tracking ≡ d.end.tracking = sym same.tracking in
            let number : number_of e ≡ number_of d.end = sym (draft_number leaving r due ∙ ap (λ (x : End). number_of x) (ready_leaves e now)) in
            given_stands d
            (subst (λ (t : Tracking). AreTracked sents t.packets) tracks (ready_tracked sents e now were))
            (subst (λ (t : Tracking). AskBefore sents t.greatest_asking) tracks (ready_before sents e now before))
            (subst (λ (n : ℕ). IsNew d.end.tracking.packets n) number (subst (λ (t : Tracking). IsNew t.packets (number_of e)) tracks (ready_new e now (number_of e) new)))
            (elim (ready_stands i) [
              | inl waits ↦ inl (draft_moved r ready what waits leaving)
              | inr more ↦ inr (subst (λ (x : Tracking). AnyIn (HasIt what) x.packets ⊎ Came took what) tracks more)
            ])

-- ---- calls on streams

-- what is answered where a half was done with before, or wasn't
abbrev answer_if : Bool → Result (Unit {0}) UpdateError
answer_if was = if was then Err update_errors.ClosedStream else Ok tt

module _ (what : Listed) where
  -- it waits still
  abbrev KeepsWaiting : Retransmits → Retransmits → Type 0
  KeepsWaiting p q = listed_in what p ≡ true → listed_in what q ≡ true

  same_waits : (p q : Retransmits) → SamePile p q → KeepsWaiting p q
  same_waits p q same is = same_listed what p q same ∙ is

  ok_waits : {A E : Type 0} (r : Result A E) (t u : Streams) → KeepsWaiting t.pending u.pending → KeepsWaiting t.pending (if_ok r u t).pending
  ok_waits (Ok x) t u now = now
  ok_waits (Err e) t u now = λ is. is

  either_waits : (b : Bool) (t u : Streams) (p : Retransmits) → KeepsWaiting p t.pending → KeepsWaiting p u.pending → KeepsWaiting p (if b then t else u).pending
  either_waits true t u p on off = on
  either_waits false t u p on off = off

  reset_waits : (s : StreamsState) (p : Retransmits) (id code : ℕ) → KeepsWaiting p (after_reset s p id code).pending
  reset_waits s p id code = go (sending_half s id)
    where
      go : (o : Option SendHalf) → KeepsWaiting p (reset_at o s p id code).pending
      go None = λ is. is
      go (Some h) = either_waits (is_some h.reset) (streams_of s p) (streams_of (record s { sending = reset_half h s.sending s.side id }) (record p { reset_stream = p.reset_stream ++ (id, code) ∷ [] })) p
          (λ is. is) (λ is. reset_added what p (id, code) is)

  stop_waits : (s : StreamsState) (p : Retransmits) (id code : ℕ) → KeepsWaiting p (after_stop s p id code).pending
  stop_waits s p id code = go (receiving_half s id)
    where
      asked : (o : Option ℕ) → KeepsWaiting p (with_stop o id code p)
      asked (Some reset) = λ is. is
      asked None = λ is. stop_added what p (record { id = id; code = code }) is

      go : (o : Option RecvHalf) → KeepsWaiting p (stopped_at o s p id code).pending
      go None = λ is. is
      go (Some h) = either_waits h.stopped (streams_of s p) (settled (stopped_if (is_some h.final) s id h) (with_stop h.reset id code p)) p
          (λ is. is) (λ is. decided_listed what (stopped_if (is_some h.final) s id h) (with_stop h.reset id code p) ∙ asked h.reset is)

  -- what waits waits still
  call_waits : (b : Bool) (t : Streams) (call : Call) (a : Answer) → KeepsWaiting t.pending (after_on_streams b t call a).pending
  call_waits b t (calls.Write s bytes) (answers.Write answer) = same_waits t.pending (after_write b answer t.state t.pending s bytes).pending (write_same t.state t.pending b answer s bytes)
  call_waits b t (calls.WriteChunks s chunks) (answers.WriteChunks answer) = same_waits t.pending (after_write_chunks b answer t.state t.pending s chunks.items).pending (chunks_same t.state t.pending b answer s chunks.items)
  call_waits b t (calls.Finish s) (answers.Finish answer) = λ is. is
  call_waits b t (calls.Reset s code) (answers.Reset answer) = ok_waits answer t (after_reset t.state t.pending s code) (reset_waits t.state t.pending s code)
  call_waits b t (calls.SetPriority s priority) (answers.SetPriority answer) = ok_waits answer t (record t { state = after_set_priority t.state s priority }) (λ is. is)
  call_waits b t (calls.Read read) (answers.Read (Ok nexts)) =
      let s : StreamsState = after_nexts told_bytes (after_read_begun t.state read.id read.ordered) read.id read.nexts.items nexts in
      same_waits t.pending (after_finalize s t.pending read.id).pending (finalize_same s t.pending read.id)
  call_waits b t (calls.Stop s code) (answers.Stop answer) = ok_waits answer t (after_stop t.state t.pending s code) (stop_waits t.state t.pending s code)
  call_waits b t (calls.ReceivedReset s) a = same_waits t.pending (after_received_reset t.state t.pending s).pending (received_reset_same t.state t.pending s)
  call_waits b t call a = λ is. is

-- a stream that is reset waits to be told so
pub call_resets : (id : ℕ) (b : Bool) (t : Streams) (call : Call) (a : Answer) → IsStreamAnswer b t.state call a → IsSome (reset_by id call a) → listed_in (ResetOf id) (after_on_streams b t call a).pending ≡ true
call_resets id b t (calls.Reset s code) a (inl is) some = subst (λ (x : Answer). IsSome (reset_by id (calls.Reset s code) x) → has_reset id (after_on_streams b t (calls.Reset s code) x).pending.reset_stream ≡ true) (sym is) (at_half (sending_half t.state s)) some
  where
    free : (h : SendHalf) (c : Bool) (u : Streams) → has_reset id u.pending.reset_stream ≡ has_reset id (t.pending.reset_stream ++ (s, code) ∷ []) → IsSome (reset_by id (calls.Reset s code) (answers.Reset (answer_if c)))
        → has_reset id (if_ok (answer_if c) (if c then t else u) t).pending.reset_stream ≡ true
    free h true u same some = cc
    free h false u same some = same ∙ list_any-append (λ (r : ℕ × ℕ). r.0 == id) t.pending.reset_stream ((s, code) ∷ []) ∙ or_right (has_reset id t.pending.reset_stream) (has_reset id ((s, code) ∷ [])) (here (s == id) some)
      where
        here : (d : Bool) → IsSome (if d then Some code else None) → (d || false) ≡ true
        here true on = refl
        here false on = cc

    at_half : (o : Option SendHalf) → IsSome (reset_by id (calls.Reset s code) (answers.Reset (answer_if (is_reset_at o))))
        → has_reset id (if_ok (answer_if (is_reset_at o)) (reset_at o t.state t.pending s code) t).pending.reset_stream ≡ true
    at_half None some = cc
    at_half (Some h) some = free h (is_some h.reset) (streams_of (record t.state { sending = reset_half h t.state.sending t.state.side s }) (record t.pending { reset_stream = t.pending.reset_stream ++ (s, code) ∷ [] })) refl some
call_resets id b t (calls.Reset s code) a (inr is) some = absurd (none (ap (reset_by id (calls.Reset s code)) is) some)
  where
    none : reset_by id (calls.Reset s code) a ≡ None → IsSome (reset_by id (calls.Reset s code) a) → ⊥
    none is some = let clash : true ≡ false = sym some ∙ ap is_some is in cc
call_resets id b t call a is some = cc

-- one that is stopped, and wasn't reset, waits to be asked to stop
pub stop_added_by : (s : StreamsState) (p : Retransmits) (id code : ℕ) (h : RecvHalf) → receiving_half s id ≡ Some h → h.stopped ≡ false → h.reset ≡ None → listed_in (StopOf id) (if_ok (stop_answer s id) (after_stop s p id code) (streams_of s p)).pending ≡ true
stop_added_by s p id code h found goes free = subst (λ (o : Option RecvHalf). has_stop id (if_ok (answer_if (is_closed_at o)) (stopped_at o s p id code) (streams_of s p)).pending.stop_sending ≡ true) (sym found) (go h.stopped goes h.reset free)
  where
    asks : has_stop id (p.stop_sending ++ (record { id = id; code = code }) ∷ []) ≡ true
    asks = list_any-append (λ (x : StopSendingValue). x.id == id) p.stop_sending ((record { id = id; code = code }) ∷ []) ∙ or_right (has_stop id p.stop_sending) (has_stop id ((record { id = id; code = code }) ∷ [])) (or_left (id == id) false (eq-eqb id id refl))

    go : (c : Bool) → c ≡ false → (o : Option ℕ) → o ≡ None → has_stop id (if_ok (answer_if c) (if c then streams_of s p else settled (stopped_if (is_some h.final) s id h) (with_stop o id code p)) (streams_of s p)).pending.stop_sending ≡ true
    go true on o is = cc
    go false off None is = asks
    go false off (Some reset) is = cc

-- where it was said that the handshake is done, the peer is to be told so
pub call_says_done : (p : Policy) (e : End) (theirs : List (List ℕ)) (call : Call) (a : Answer) → says_done call a ≡ true → listed_in DoneOf (after_call p e theirs call a).waiting.frames ≡ true
call_says_done p e theirs calls.HandshakeDone (answers.HandshakeDone (Ok done)) is = refl
call_says_done p e theirs call a is = cc

-- ---- any call

module _ (took : List Packet) (sents : List Sent) (what : Listed) where
  -- but a delivery
  pub call_stands : (p : Policy) (e : End) (theirs : List (List ℕ)) (call : Call) (a : Answer) → is_delivery call ≡ false → Ascends e → AreTracked sents e.tracking.packets → AskBefore sents e.tracking.greatest_asking → IsNew e.tracking.packets (number_of e)
      → ((now : ℕ) → AreReady (ready_at e now).end.streams.sending.halves.live (ready_at e now).end.waiting.frames) → ListedStands took what e → ListedStands took what (after_call p e theirs call a)
  call_stands p e theirs call a apart ascends were before new ready i = by_call p e theirs (ListedStands took what) call a (record {
    same = i;
    on_streams = λ on answer. elim i [ inl waits ↦ inl (call_waits what (is_open e.closing.state) (streams_at e) call a waits) | inr more ↦ inr more ];
    on_messages = λ on answer. i;
    pings = i;
    closes = λ reason f now own. i;
    waits = λ now b set. by_waits (ListedStands took what) b (with_closing e (ticked e.closing now)) i i;
    changes_id = λ uses answer. next_stands took what e a i;
    says_handshake = λ says answer. by_done (ListedStands took what) e a i (elim i [ inl waits ↦ inl (done_listed what e.waiting.frames waits) | inr more ↦ inr more ]);
    times = λ now expiry set. by_expired p.words e now (ListedStands took what) (λ pending tracking timers waits asked runs packets. rw packets i) (λ pending timers waits asked runs. detected_stands took what (with_closing e (ticked e.closing now)) i) (λ x j. j) expiry;
    polls = λ now set. polled_stands took sents what e now ascends were before new p (ready now) i;
    hears = λ arrival d set. cc;
    tells = λ asks. by_event e (ListedStands took what) i i (λ told. i);
  })

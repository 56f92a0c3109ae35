-- STOP_SENDING that waits at an end is for streams of which something is known, where it is added
-- for such streams alone and what was lost was, ACK_FREQUENCY waits where something else is, and
-- HANDSHAKE_DONE where that is of which a server makes sure: after each call, and what comes.
use Rattle.std.proofs.Common.{◌≡◌, ℕ, Bool, true, false, List, [], ◌∷◌, Option, Some, None, Result, Ok, Err, refl, sym, subst, inl, inr, ap}
use Rattle.std.specs.Prelude.{if◌then◌else◌, ◌==◌}
use Rattle.std.specs.Option.{is_some}
use Rattle.std.specs.List.{fold}
use Rattle.quic_wire_core.specs.declared.stream_id.Side.{Side}
use Rattle.quic_wire_core.specs.declared.stream_id.Side.TheVariants.{Client, Server}
use Rattle.quic_wire.specs.Value.{FrameValue, StreamValue, ResetStreamValue, StopSendingValue, stream, reset_stream, stop_sending, max_data, max_stream_data, max_streams, handshake_done, AckFrequencyValue, ack_frequency}
use Rattle.quic_send_buffer.specs.declared.stream_meta.StreamMeta.{StreamMeta}
use Rattle.quic_streams_parts.specs.declared.answers.Breach.{Breach}
use Rattle.quic_streams_parts.specs.declared.answers.WriteError.{WriteError}
use Rattle.quic_streams_parts.specs.declared.answers.WriteError.TheVariants as write_errors
use Rattle.quic_streams_parts.specs.declared.answers.ClosedStream.{ClosedStream}
use Rattle.quic_streams_parts.specs.declared.answers.Written.{Written}
use Rattle.quic_streams_parts.specs.SendHalf.{SendHalf, was_said, is_acked, half_acked}
use Rattle.quic_streams_parts.specs.RecvHalf.{RecvHalf, end_of}
use Rattle.quic_retransmits.specs.Retransmits.{Retransmits, nothing_waits, merged}
use Rattle.quic_streams_parts.specs.Table.{Table}
use Rattle.quic_streams_state.specs.declared.state.StreamsState.{StreamsState}
use Rattle.quic_streams_state.specs.State.{Streams, streams_of, room, sending_half, receiving_half, send_done}
use Rattle.quic_streams_state.specs.Limits.{settled, with_stream_if, stream_grew}
use Rattle.quic_streams_state.specs.Writing.{blocked_by_all, blocked_by_own, blocked_at, written_by, after_write, after_write_chunks, reset_at, after_reset, replaced}
use Rattle.quic_streams_state.specs.Reading.{told_bytes, after_read_begun, after_finalize, stopped_if, with_stop, stopped_at, after_stop, reset_told, received_reset_answer}
use Rattle.quic_streams_state.specs.Taking.{part_for, refusal, reset_breach, stream_unless, stream_at, after_stream, reset_unless, reset_at as taken_reset, after_reset_frame}
use Rattle.quic_retransmits.specs.declared.retransmits.ControlKind.{ControlKind}
use Rattle.quic_retransmits.specs.declared.retransmits.ControlKind.TheVariants.{HandshakeDone, StopSending, MaxStreams}
use Rattle.quic_streams_state.specs.Control.{without_first}
use Rattle.quic_streams_state.specs.Acked.{sent_half, finished, acked_on, acked_at, reset_acked_at}
use Rattle.quic_machine.specs.declared.run.Call.{Call}
use Rattle.quic_machine.specs.declared.run.Call.TheVariants as calls
use Rattle.quic_machine.specs.declared.run.Answer.{Answer}
use Rattle.quic_machine.specs.declared.run.Answer.TheVariants as answers
use Rattle.quic_machine.specs.Policy.{Policy}
use Rattle.quic_machine.specs.Tracking.{Carried, TrackedPacket, and_again, carried_in}
use Rattle.quic_machine.specs.Calls.{is_open, after_nexts}
use Rattle.quic_machine.specs.StreamCalls.{if_ok, after_on_streams}
use Rattle.quic_machine.specs.End.{End, side_of, streams_at, with_closing}
use Rattle.quic_machine.specs.Receive.{take_frame}
use Rattle.quic_machine.specs.Poll.{Draft, composed, probed, asks_anew}
use Rattle.quic_machine.specs.DraftLaws.{Writing, by_writing}
use Rattle.quic_machine.specs.Puts as puts
use Rattle.quic_headline.proofs.Packets.Invariant.{IsCarriedFrom}
use Rattle.quic_headline.proofs.Packets.Losses.{Losing, expiry_stays}
use Rattle.quic_headline.proofs.Packets.Probes.{poll_streams, first_record_in}
use Rattle.quic_machine.specs.LeaveCases.{by_expired, by_event}
use Rattle.quic_machine.specs.CallCases.{is_delivery, by_call}
use Rattle.quic_machine.specs.Handshake.{done_judged, done_answer, end_on_done}
use Rattle.quic_machine.specs.Machine.{IsAnswer, after_call}
use Rattle.quic_machine.specs.FrameCases.{OnStreams}
use Rattle.quic_machine.specs.Steps as steps
use Rattle.quic_headline.specs.Runs.{Packet, In}
use Rattle.quic_headline.specs.Observer.{Sent}
use Rattle.quic_machine.specs.Closing.{ticked}
use Rattle.quic_headline.proofs.Packets.Apart.{by_waits, by_next_id}
use Rattle.quic_headline.proofs.Packets.Growth.{in_more}
use Rattle.quic_headline.proofs.Packets.Named.{SettlesOn}
use Rattle.quic_headline.proofs.Places.Told.{in_append}
use Rattle.quic_headline.proofs.Channel.Given.{in_others}
use Rattle.std.proofs.lemmas.Bool.{or_cases, and_parts}
use Rattle.quic_machine.specs.PollCases.{ready_at, probe_leaves, by_probed}
use Rattle.quic_machine.specs.Parts.{Waiting}
use Rattle.quic_parameters.specs.Parameters.{ParameterValues}
use Rattle.quic_config.specs.Configs.{FrequencySettings}
use Rattle.quic_headline.proofs.Steps.Probes.{begun}
use Rattle.quic_headline.proofs.Waited.Pings.{ready_waiting}

-- STOP_SENDING waits for streams of which this is so, ACK_FREQUENCY where that is, and
-- HANDSHAKE_DONE where something else is
abbrev pub StopsOf : (StopSendingValue → Type 0) → Type 0 → Type 0 → Retransmits → Type 0
StopsOf Q A D p = ((r : StopSendingValue) → In r p.stop_sending → Q r) × (p.ack_frequency ≡ true → A) × (p.handshake_done ≡ true → D)

-- what a call stops, by its answer, is a stream on which the end receives, of which that is known
abbrev pub StopsFor : (StopSendingValue → Type 0) → StreamsState → Call → Answer → Type 0
StopsFor Q s call a = (id code : ℕ) (h : RecvHalf) (done : Unit {0}) → call ≡ calls.Stop id code → a ≡ answers.Stop (Ok done) → receiving_half s id ≡ Some h → Q (record { id = id; code = code })

-- ---- what frames carried

-- each of these frames says so
abbrev pub AllStop : (StopSendingValue → Type 0) → Type 0 → Type 0 → List FrameValue → Type 0
AllStop Q A D fs = ((g : StopSendingValue) → In (stop_sending g) fs → Q g) × ((g : AckFrequencyValue) → In (ack_frequency g) fs → A) × (In handshake_done fs → D)

-- the STOP_SENDING of frames
again_stops : (Q : StopSendingValue → Type 0) (A D : Type 0) (r : Retransmits) (f : FrameValue) → AllStop Q A D (f ∷ []) → StopsOf Q A D r → StopsOf Q A D (and_again r f)
again_stops Q A D r (stop_sending g) one before = ((λ s i. elim (in_more s g r.stop_sending i) [ inl old ↦ before.0 s old | inr new ↦ subst Q (sym new) (one.0 g (inl refl)) ]), before.1, before.2)
again_stops Q A D r (ack_frequency g) one before = (before.0, (λ set. one.1 g (inl refl)), before.2)
again_stops Q A D r handshake_done one before = (before.0, before.1, λ set. one.2 (inl refl))
again_stops Q A D r f one before = before

fold_stops : (Q : StopSendingValue → Type 0) (A D : Type 0) (fs : List FrameValue) (r : Retransmits) → AllStop Q A D fs → StopsOf Q A D r → StopsOf Q A D (fold and_again r fs)
fold_stops Q A D [] r all before = before
fold_stops Q A D (f ∷ fs) r all before = fold_stops Q A D fs (and_again r f) ((λ g i. all.0 g (inr i)), (λ g i. all.1 g (inr i)), λ i. all.2 (inr i)) (again_stops Q A D r f (first f all) before)
  where
    first : (f : FrameValue) → AllStop Q A D (f ∷ fs) → AllStop Q A D (f ∷ [])
    first f all = ((λ g i. elim i [ inl is ↦ all.0 g (inl is) | inr none ↦ absurd none ]), (λ g i. elim i [ inl is ↦ all.1 g (inl is) | inr none ↦ absurd none ]), λ i. elim i [ inl is ↦ all.2 (inl is) | inr none ↦ absurd none ])

pub carried_stops : (Q : StopSendingValue → Type 0) (A D : Type 0) (fs : List FrameValue) → AllStop Q A D fs → StopsOf Q A D (carried_in fs).retransmits
carried_stops Q A D fs all = fold_stops Q A D fs nothing_waits all ((λ r i. absurd i), (λ set. cc), λ set. cc)

-- or all but what has to be sent again
pub from_stops : (Q : StopSendingValue → Type 0) (A D : Type 0) (c : Carried) (fs : List FrameValue) → IsCarriedFrom c fs → AllStop Q A D fs → StopsOf Q A D c.retransmits
from_stops Q A D c fs (inl is) all = subst (λ (x : Carried). StopsOf Q A D x.retransmits) (sym is) (carried_stops Q A D fs all)
from_stops Q A D c fs (inr is) all = subst (λ (x : Carried). StopsOf Q A D x.retransmits) (sym is) ((λ r i. absurd i), (λ set. cc), λ set. cc)

-- only a server says that the handshake is done
server_says : (side : Side) (was opened : Bool) (done : Unit {0}) → answers.HandshakeDone (Ok done) ≡ answers.HandshakeDone (done_judged side was opened) → side ≡ Server
server_says Client was opened done is = cc
server_says Server was opened done is = refl

module _ (Q : StopSendingValue → Type 0) (A D : Type 0) where
  -- ---- small steps

  either : (b : Bool) (x y : Streams) → StopsOf Q A D x.pending → StopsOf Q A D y.pending → StopsOf Q A D (if b then x else y).pending
  either true x y i j = i
  either false x y i j = j

  -- ---- calls of an application

  module _ (s : StreamsState) (p : Retransmits) (i : StopsOf Q A D p) where
    blocked_stops : (o : Option SendHalf) (id : ℕ) → StopsOf Q A D (blocked_at o s p id).pending
    blocked_stops None id = i
    blocked_stops (Some h) id = either (room s.sending == 0) (blocked_by_all s p id h) (blocked_by_own s p id h) i (either (was_said h.said h.limit) _ _ i i)

    written_stops : (r : Result ℕ WriteError) (id : ℕ) (bytes : List ℕ) → StopsOf Q A D (written_by r s p id bytes).pending
    written_stops (Ok n) id bytes = i
    written_stops (Err write_errors.Blocked) id bytes = blocked_stops (sending_half s id) id
    written_stops (Err (write_errors.Stopped code)) id bytes = i
    written_stops (Err write_errors.ClosedStream) id bytes = i
    written_stops (Err write_errors.Memory) id bytes = i

    write_stops : (b : Bool) (r : Result ℕ WriteError) (id : ℕ) (bytes : List ℕ) → StopsOf Q A D (after_write b r s p id bytes).pending
    write_stops true r id bytes = written_stops r id bytes
    write_stops false r id bytes = i

    chunks_stops : (b : Bool) (r : Result Written WriteError) (id : ℕ) (cs : List (List ℕ)) → StopsOf Q A D (after_write_chunks b r s p id cs).pending
    chunks_stops true (Ok w) id cs = i
    chunks_stops true (Err e) id cs = written_stops (Err e) id []
    chunks_stops false r id cs = i

    reset_stops : (o : Option SendHalf) (id code : ℕ) → StopsOf Q A D (reset_at o s p id code).pending
    reset_stops None id code = i
    reset_stops (Some h) id code = either (is_some h.reset) _ _ i i

    finalize_stops : (id : ℕ) → StopsOf Q A D (after_finalize s p id).pending
    finalize_stops id = go (stream_grew s id)
      where
        go : (b : Bool) → StopsOf Q A D (with_stream_if b id (settled s p).pending)
        go true = i
        go false = i

    told_stops : (r : Result (Option ℕ) ClosedStream) (id : ℕ) → StopsOf Q A D (reset_told r s p id).pending
    told_stops (Ok (Some code)) id = i
    told_stops (Ok None) id = i
    told_stops (Err e) id = i

    -- a stop is for a stream on which the end receives
    stop_stops : (id code : ℕ) → ((h : RecvHalf) → receiving_half s id ≡ Some h → Q (record { id = id; code = code })) → StopsOf Q A D (after_stop s p id code).pending
    stop_stops id code known = go (receiving_half s id) refl
      where
        added : Q (record { id = id; code = code }) → (o : Option ℕ) → StopsOf Q A D (with_stop o id code p)
        added here (Some reset) = i
        added here None = ((λ r j. elim (in_more r (record { id = id; code = code }) p.stop_sending j) [ inl old ↦ i.0 r old | inr new ↦ subst Q (sym new) here ]), i.1, i.2)

        go : (o : Option RecvHalf) → receiving_half s id ≡ o → StopsOf Q A D (stopped_at o s p id code).pending
        go None is = i
        go (Some h) is = either h.stopped (streams_of s p) (settled (stopped_if (is_some h.final) s id h) (with_stop h.reset id code p)) i (added (known h is) h.reset)

  if_stops : {X E : Type 0} (r : Result X E) (after before : Streams) → StopsOf Q A D after.pending → StopsOf Q A D before.pending → StopsOf Q A D (if_ok r after before).pending
  if_stops (Ok x) after before i j = i
  if_stops (Err e) after before i j = j

  -- each call on streams
  calls_stops : (b : Bool) (t : Streams) (call : Call) (a : Answer) → StopsFor Q t.state call a → StopsOf Q A D t.pending → StopsOf Q A D (after_on_streams b t call a).pending
  calls_stops b t (calls.Open dir) a known i = i
  calls_stops b t (calls.Accept dir) a known i = i
  calls_stops b t (calls.Write id bytes) (answers.Write answer) known i = write_stops t.state t.pending i b answer id bytes
  calls_stops b t (calls.WriteChunks id chunks) (answers.WriteChunks answer) known i = chunks_stops t.state t.pending i b answer id chunks.items
  calls_stops b t (calls.Finish id) (answers.Finish answer) known i = i
  calls_stops b t (calls.Reset id code) (answers.Reset answer) known i = if_stops answer (after_reset t.state t.pending id code) t (reset_stops t.state t.pending i (sending_half t.state id) id code) i
  calls_stops b t (calls.SetPriority id priority) (answers.SetPriority answer) known i = if_stops answer _ t i i
  calls_stops b t (calls.Read read) (answers.Read (Ok nexts)) known i = finalize_stops (after_nexts told_bytes (after_read_begun t.state read.id read.ordered) read.id read.nexts.items nexts) t.pending i read.id
  calls_stops b t (calls.Stop id code) (answers.Stop (Ok done)) known i = stop_stops t.state t.pending i id code (λ h is. known id code h done refl refl is)
  calls_stops b t (calls.Stop id code) (answers.Stop (Err e)) known i = i
  calls_stops b t (calls.ReceivedReset id) a known i = told_stops t.state t.pending i (received_reset_answer t.state id) id
  calls_stops b t call a known i = i

  -- ---- what goes

  fewer_stops : (kind : ControlKind) (p : Retransmits) → StopsOf Q A D p → StopsOf Q A D (without_first kind p)
  fewer_stops HandshakeDone p i = (i.0, i.1, λ set. cc)
  fewer_stops StopSending p i = ((λ r j. i.0 r (in_others r p.stop_sending j)), i.1, i.2)
  fewer_stops (MaxStreams dir) p i = i
  fewer_stops kind p i = i

  composed_stops : (e : End) → StopsOf Q A D e.waiting.frames → StopsOf Q A D (composed e).end.waiting.frames
  composed_stops e i = by_writing (λ (d : Draft). StopsOf Q A D d.end.waiting.frames) keep e i
    where
      keep : Writing (λ (d : Draft). StopsOf Q A D d.end.waiting.frames)
      keep (puts.drops kind) d may j = fewer_stops kind d.end.waiting.frames j
      keep (puts.control kind f) d may j = fewer_stops kind d.end.waiting.frames j
      keep puts.request d may j = (j.0, (λ set. cc), j.2)
      keep p d may j = j

  -- what tracked packets carried stops only such streams
  abbrev pub TrackedStops : Table TrackedPacket → Type 0
  TrackedStops packets = (n : ℕ) (t : TrackedPacket) → In (n, t) packets → StopsOf Q A D t.carried.retransmits

  -- what such a packet carried waits again
  again_holds : (p r : Retransmits) → StopsOf Q A D p → StopsOf Q A D r → StopsOf Q A D (merged p r)
  again_holds p r i more = ((λ s j. elim (in_append s p.stop_sending r.stop_sending j) [ inl old ↦ i.0 s old | inr new ↦ more.0 s new ]), (λ set. elim (or_cases p.ack_frequency r.ack_frequency set) [ inl was ↦ i.1 was | inr new ↦ more.1 new ]), λ set. elim (or_cases p.handshake_done r.handshake_done set) [ inl was ↦ i.2 was | inr new ↦ more.2 new ])

  losing : (packets : Table TrackedPacket) → TrackedStops packets → Losing packets (λ (t : Streams). StopsOf Q A D t.pending)
  losing packets carried = record { lost = λ n t m e among inside i. i; again = λ n t e among i. again_holds e.waiting.frames t.carried.retransmits i (carried n t among) }

  -- an end that is ready to give: the peer is asked anew where it takes that
  pub ready_keeps : (e : End) (now : ℕ) → (is_some e.peer_params.min_ack_delay ≡ true → A) → TrackedStops e.tracking.packets → StopsOf Q A D e.waiting.frames → StopsOf Q A D (ready_at e now).end.waiting.frames
  ready_keeps e now asks carried i = subst (λ (w : Waiting). StopsOf Q A D w.frames) (sym (ready_waiting e now)) (
    filled.0,
    (λ set. elim (or_cases (asks_anew y.transport.ack_frequency_config y) y.waiting.frames.ack_frequency set) [
      | inl anew ↦ asks (subst (λ (p : ParameterValues). is_some p.min_ack_delay ≡ true) (ap (λ (z : End). z.peer_params) (probe_leaves (begun e now))) (takes y.transport.ack_frequency_config anew))
      | inr was ↦ filled.1 was
    ]),
    filled.2,
  )
    where
      y : End
      y = probed (begun e now)

      takes : (o : Option FrequencySettings) → asks_anew o y ≡ true → is_some y.peer_params.min_ack_delay ≡ true
      takes None anew = cc
      takes (Some settings) anew = (and_parts (is_some y.peer_params.min_ack_delay) _ anew).0

      filled : StopsOf Q A D y.waiting.frames
      filled = by_probed (begun e now) (λ (z : End). StopsOf Q A D z.waiting.frames) i (λ immediate. i) (λ immediate. i) (λ immediate q probes is. again_holds e.waiting.frames q.1.carried.retransmits i (carried q.0 q.1 (first_record_in e.streams e.tracking.packets q is)))

  -- where it is said that the handshake is done, the end is a server
  done_stops : (e : End) (a : Answer) → a ≡ answers.HandshakeDone (done_answer e) → (side_of e ≡ Server → D) → StopsOf Q A D e.waiting.frames → StopsOf Q A D (end_on_done e a).waiting.frames
  done_stops e (answers.HandshakeDone (Ok done)) is server i = (i.0, i.1, λ set. server (server_says (side_of e) e.confirmation.confirmed (is_open e.closing.state) done is))
  done_stops e a is server i = i

  -- any call but a delivery
  pub call_stops : (p : Policy) (e : End) (theirs : List (List ℕ)) (call : Call) (a : Answer) → IsAnswer p e theirs call a → is_delivery call ≡ false → StopsFor Q e.streams call a → (is_some e.peer_params.min_ack_delay ≡ true → A) → (side_of e ≡ Server → D) → TrackedStops e.tracking.packets → StopsOf Q A D e.waiting.frames
      → StopsOf Q A D (after_call p e theirs call a).waiting.frames
  call_stops p e theirs call a is apart known asks server carried i = by_call p e theirs (λ (f : End). StopsOf Q A D f.waiting.frames) call a (record {
    same = i;
    on_streams = λ on answer. calls_stops (is_open e.closing.state) (streams_at e) call a known i;
    on_messages = λ on answer. i;
    pings = i;
    closes = λ reason f now own. i;
    waits = λ now b set. by_waits (λ (f : End). StopsOf Q A D f.waiting.frames) b (with_closing e (ticked e.closing now)) i i;
    changes_id = λ uses answer. by_next_id (λ (f : End). StopsOf Q A D f.waiting.frames) e a i (λ c. i) (λ c most. i);
    says_handshake = λ says answer. done_stops e a (answer is) server i;
    times = λ now expiry set. by_expired p.words e now (λ (f : End). StopsOf Q A D f.waiting.frames) (λ pending tracking timers waits asked runs packets. i) (λ pending timers waits asked runs. expiry_stays (λ (t : Streams). StopsOf Q A D t.pending) e now (losing e.tracking.packets carried) i pending timers waits asked) (λ x j. j) expiry;
    polls = λ now set. poll_streams (λ (t : Streams). StopsOf Q A D t.pending) p e now composed_stops i (ready_keeps e now asks carried i);
    hears = λ arrival d set. cc;
    tells = λ asks. by_event e (λ (f : End). StopsOf Q A D f.waiting.frames) i i (λ told. i);
  })

  -- ---- what comes

  -- frames on streams
  stream_stops : (s : StreamsState) (p : Retransmits) (f : StreamValue) → StopsOf Q A D p → StopsOf Q A D (after_stream s p f).pending
  stream_stops s p f i = go (refusal s f.id (end_of f) f.fin)
    where
      part : (o : Option RecvHalf) → StopsOf Q A D (stream_at o s p f).pending
      part None = i
      part (Some h) = i

      go : (o : Option Breach) → StopsOf Q A D (stream_unless o s p f).pending
      go (Some b) = i
      go None = part (part_for s f.id)

  reset_frame_stops : (s : StreamsState) (p : Retransmits) (f : ResetStreamValue) → StopsOf Q A D p → StopsOf Q A D (after_reset_frame s p f).pending
  reset_frame_stops s p f i = go (reset_breach s f)
    where
      part : (o : Option RecvHalf) → StopsOf Q A D (taken_reset o s p f).pending
      part None = i
      part (Some h) = i

      go : (o : Option Breach) → StopsOf Q A D (reset_unless o s p f).pending
      go (Some b) = i
      go None = part (part_for s f.id)

  pub frame_stops : (f : FrameValue) (e : End) → OnStreams f → StopsOf Q A D e.waiting.frames → StopsOf Q A D (take_frame f e).end.waiting.frames
  frame_stops (stream f) e on i = stream_stops e.streams e.waiting.frames f i
  frame_stops (reset_stream f) e on i = reset_frame_stops e.streams e.waiting.frames f i
  frame_stops (stop_sending f) e on i = i
  frame_stops (max_data limit) e on i = i
  frame_stops (max_stream_data f) e on i = i
  frame_stops (max_streams f) e on i = i
  frame_stops f e on i = absurd on

  -- what is acknowledged or lost
  acked_stops : (o : Option SendHalf) (s : StreamsState) (p : Retransmits) (m : StreamMeta) → StopsOf Q A D p → StopsOf Q A D (acked_at o s p m).pending
  acked_stops None s p m i = i
  acked_stops (Some h) s p m i = either (is_some h.reset) (streams_of s p) (acked_on h s p m) i
      (either (is_acked (half_acked h m)) (settled (finished (replaced s m.id (half_acked h m)) m.id) p) (streams_of (replaced s m.id (half_acked h m)) p) i i)

  reset_acked_stops : (o : Option SendHalf) (s : StreamsState) (p : Retransmits) (id : ℕ) → StopsOf Q A D p → StopsOf Q A D (reset_acked_at o s p id).pending
  reset_acked_stops None s p id i = i
  reset_acked_stops (Some h) s p id i = either (is_some h.reset) (settled (send_done s id) p) (streams_of s p) i i

  -- where each STOP_SENDING that was sent is for such a stream, and ACK_FREQUENCY and
  -- HANDSHAKE_DONE were sent so
  pub settles_stops : (took : List Packet) (sents : List Sent) → ((s : Sent) → In s sents → AllStop Q A D s.frames) → SettlesOn took sents (λ (e : End). StopsOf Q A D e.waiting.frames)
  settles_stops took sents sent (steps.reset id) e may i = reset_acked_stops (sent_half e.streams id) e.streams e.waiting.frames id i
  settles_stops took sents sent (steps.acked m) e may i = acked_stops (sent_half e.streams m.id) e.streams e.waiting.frames m i
  settles_stops took sents sent (steps.again c) e was i = again_holds e.waiting.frames c.retransmits i (from_stops Q A D c was.sent.frames was.is (sent was.sent was.among))
  settles_stops took sents sent s e may i = i

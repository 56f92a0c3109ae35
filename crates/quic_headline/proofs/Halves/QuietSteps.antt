-- Calls and frames that bring and read nothing leave a fact of streams that words about what an end
-- sends leave.
use Rattle.std.proofs.Common.{◌≡◌, ℕ, Bool, true, false, List, length, Result, Ok, Err, refl, sym, subst, inl, inr}
use Rattle.quic_wire.specs.Value.{FrameValue, AckValue, StreamValue, ResetStreamValue, ack, stream, reset_stream, stop_sending, max_data, max_stream_data, max_streams, datagram, new_connection_id, retire_connection_id, path_response, handshake_done, ack_frequency}
use Rattle.quic_streams_parts.specs.declared.answers.WriteError.TheVariants as write_errors
use Rattle.quic_streams_state.specs.declared.state.StreamsState.{StreamsState}
use Rattle.quic_streams_state.specs.State.{Streams}
use Rattle.quic_streams_state.specs.Taking.{after_stream, after_reset_frame}
use Rattle.quic_streams_state.specs.Writing.{after_write, after_write_chunks, reset_answer, after_reset, set_priority_answer, after_set_priority}
use Rattle.quic_retransmits.specs.Retransmits.{nothing_waits}
use Rattle.quic_streams_state.specs.Control as control
use Rattle.quic_streams_laws.specs.Quiet.{IsQuiet, IsSentWithin}
use Rattle.quic_streams_laws.specs.Written.{Wrote, IsSendHalf, HoldsWritten}
use Rattle.quic_streams_laws.specs.WrittenLaws.{half_holds}
use Rattle.quic_machine.specs.declared.run.Call.{Call}
use Rattle.quic_machine.specs.declared.run.Call.TheVariants as calls
use Rattle.quic_machine.specs.declared.run.Answer.{Answer}
use Rattle.quic_recovery_core.specs.PendingAcks.{can_send}
use Rattle.quic_machine.specs.Policy.{Policy}
use Rattle.quic_machine.specs.Tracking.{dir_named}
use Rattle.quic_machine.specs.End.{End, with_closing, streams_at}
use Rattle.quic_machine.specs.Closing.{ticked}
use Rattle.quic_machine.specs.Calls.{is_open}
use Rattle.quic_machine.specs.StreamCalls.{if_ok, after_on_streams, IsStreamAnswer}
use Rattle.quic_machine.specs.Machine.{IsAnswer, after_call}
use Rattle.quic_machine.specs.Receive.{is_above, names_ungiven, take_frame}
use Rattle.quic_machine.specs.Poll.{Draft, Kind, signals, controls, messages, streams, order, put, with_asking, no_frames, with_ack, ack_if, ack_fits, composed, composed_if, polled, frame_room, left, no_stream_frames, frequency}
use Rattle.quic_machine.specs.CallCases.{is_delivery, by_call, by_done}
use Rattle.quic_machine.specs.DraftLaws.{by_messages, by_signals}
use Rattle.quic_machine.specs.FrameCases.{Settling, acked_keeps, losses_keep, named, ack_taken, message_leaves, apart_leaves}
use Rattle.quic_machine.specs.Steps as steps
use Rattle.quic_machine.specs.LeaveCases.{by_expired, by_event}
use Rattle.quic_headline.proofs.Packets.Apart.{by_waits, by_next_id}
use Rattle.quic_headline.proofs.Packets.Kinds.{by_kinds}
use Rattle.quic_headline.proofs.Packets.Probes.{poll_state}
use Rattle.quic_headline.proofs.Packets.Entries.{by_request}

-- a half counts no byte as sent that wasn't written
pub sent_within : (done : ℕ → Wrote) (s : StreamsState) → HoldsWritten done s → (id : ℕ) → IsSentWithin s id
sent_within done s w id h is = let i : IsSendHalf (done id) h = half_holds done s w id h is in i.lawful.bounded

-- whether a call brings, reads or accepts something, so that it isn't about what the end sends
abbrev pub is_reading : Call → Bool
is_reading (calls.Accept dir) = true
is_reading (calls.Read read) = true
is_reading (calls.Stop id code) = true
is_reading (calls.ReceivedReset id) = true
is_reading call = false

module _ (P : StreamsState → Type 0) (q : IsQuiet P) where
  -- ---- calls

  module _ (e : End) (within : (id : ℕ) → IsSentWithin e.streams id) (i : P e.streams) where
    -- what a call leaves that changes nothing where it is refused
    if_done : {A E : Type 0} (r : Result A E) (after : Streams) → P after.state → P (if_ok r after (streams_at e)).state
    if_done (Ok x) after now = now
    if_done (Err error) after now = i

    -- a write that finds no memory
    write_lacks : (b : Bool) (id : ℕ) (bytes : List ℕ) → P (after_write b (Err write_errors.Memory) e.streams e.waiting.frames id bytes).state
    write_lacks true id bytes = i
    write_lacks false id bytes = i

    chunks_lack : (b : Bool) (id : ℕ) (chunks : List (List ℕ)) → P (after_write_chunks b (Err write_errors.Memory) e.streams e.waiting.frames id chunks).state
    chunks_lack true id chunks = i
    chunks_lack false id chunks = i

    -- a call on streams by which nothing is read
    pub on_streams_quiet : (b : Bool) (call : Call) (a : Answer) → IsStreamAnswer b e.streams call a → is_reading call ≡ false → P (after_on_streams b (streams_at e) call a).state
    on_streams_quiet b (calls.Open dir) a is apart = q.opens b dir e.streams i
    on_streams_quiet b (calls.Write id bytes) a (inl is) apart = subst (λ x. P (after_on_streams b (streams_at e) (calls.Write id bytes) x).state) (sym is) (q.writes b e.streams e.waiting.frames id bytes (within id) i)
    on_streams_quiet b (calls.Write id bytes) a (inr is) apart = subst (λ x. P (after_on_streams b (streams_at e) (calls.Write id bytes) x).state) (sym is) (write_lacks b id bytes)
    on_streams_quiet b (calls.WriteChunks id chunks) a (inl is) apart = subst (λ x. P (after_on_streams b (streams_at e) (calls.WriteChunks id chunks) x).state) (sym is) (q.writes_chunks b e.streams e.waiting.frames id chunks.items (within id) i)
    on_streams_quiet b (calls.WriteChunks id chunks) a (inr is) apart = subst (λ x. P (after_on_streams b (streams_at e) (calls.WriteChunks id chunks) x).state) (sym is) (chunks_lack b id chunks.items)
    on_streams_quiet b (calls.Finish id) a (inl is) apart = subst (λ x. P (after_on_streams b (streams_at e) (calls.Finish id) x).state) (sym is) (q.finishes e.streams id i)
    on_streams_quiet b (calls.Finish id) a (inr is) apart = subst (λ x. P (after_on_streams b (streams_at e) (calls.Finish id) x).state) (sym is) i
    on_streams_quiet b (calls.Reset id code) a (inl is) apart = subst (λ x. P (after_on_streams b (streams_at e) (calls.Reset id code) x).state) (sym is) (if_done (reset_answer e.streams id) (after_reset e.streams e.waiting.frames id code) (q.resets e.streams e.waiting.frames id code i))
    on_streams_quiet b (calls.Reset id code) a (inr is) apart = subst (λ x. P (after_on_streams b (streams_at e) (calls.Reset id code) x).state) (sym is) i
    on_streams_quiet b (calls.SetPriority id priority) a (inl is) apart = subst (λ x. P (after_on_streams b (streams_at e) (calls.SetPriority id priority) x).state) (sym is)
        (if_done (set_priority_answer e.streams id) (record (streams_at e) { state = after_set_priority e.streams id priority }) (q.sets_priority e.streams id priority i))
    on_streams_quiet b (calls.SetPriority id priority) a (inr is) apart = subst (λ x. P (after_on_streams b (streams_at e) (calls.SetPriority id priority) x).state) (sym is) i
    on_streams_quiet b (calls.Accept dir) a is apart = cc
    on_streams_quiet b (calls.Read read) a is apart = cc
    on_streams_quiet b (calls.Stop id code) a is apart = cc
    on_streams_quiet b (calls.ReceivedReset id) a is apart = cc
    on_streams_quiet b call a is apart = absurd is

  -- ---- a poll

  -- one kind of what goes
  kind_quiet : (d : Draft) (kind : Kind) → P d.end.streams → P (put d kind).end.streams
  kind_quiet d signals i = by_signals (λ (x : Draft). P x.end.streams) (λ x f left is j. j) d i
  kind_quiet d frequency i = by_request (λ (x : Draft). P x.end.streams) d (λ waits j. j) i
  kind_quiet d controls i = q.control_frames (frame_room d.end) (control.no_frames (length d.bytes) d.end.streams d.end.waiting.frames nothing_waits) i
  kind_quiet d messages i = by_messages (λ (x : Draft). P x.end.streams) (λ x m ms is fit j. j) d i
  kind_quiet d streams i = q.stream_frames d.end.transport.send_fairness (left d) (no_stream_frames d) i

  -- all of them
  asking_quiet : (d : Draft) → P d.end.streams → P (with_asking d).end.streams
  asking_quiet d i = by_kinds (λ (x : Draft). P x.end.streams) kind_quiet order d i

  -- what goes into a datagram
  pub composed_quiet : (e : End) → P e.streams → P (composed e).end.streams
  composed_quiet e i = go (can_send e.acknowledging)
    where
      late : (d : Draft) (b : Bool) → P d.end.streams → P (ack_if b d).end.streams
      late d true now = now
      late d false now = now

      go : (b : Bool) → P (composed_if b e).end.streams
      go true = asking_quiet (with_ack (no_frames e)) i
      go false = let d : Draft = with_asking (no_frames e) in late d (ack_fits d) (asking_quiet (no_frames e) i)

  poll_quiet : (p : Policy) (e : End) (now : ℕ) → P e.streams → P (polled p e now).end.streams
  poll_quiet p e now i = poll_state P p e now composed_quiet i

  -- ---- packets that are acknowledged or lost

  pub settles : Settling (λ (e : End). P e.streams)
  settles (steps.reset id) e i = q.reset_acked e.streams e.waiting.frames id i
  settles (steps.acked m) e i = q.acked e.streams e.waiting.frames m i
  settles (steps.lost m) e i = q.lost e.streams m i
  settles s e i = i

  -- ---- any call by which nothing comes and nothing is read

  pub call_quiet : (p : Policy) (e : End) (theirs : List (List ℕ)) (call : Call) (a : Answer) → IsAnswer p e theirs call a → ((id : ℕ) → IsSentWithin e.streams id) → is_delivery call ≡ false → is_reading call ≡ false → P e.streams
      → P (after_call p e theirs call a).streams
  call_quiet p e theirs call a is within apart quiet i = by_call p e theirs (λ (f : End). P f.streams) call a (record {
    same = i;
    on_streams = λ on answer. on_streams_quiet e within i (is_open e.closing.state) call a (answer is) quiet;
    on_messages = λ on answer. i;
    pings = i;
    closes = λ reason f now own. i;
    waits = λ now b set. by_waits (λ (f : End). P f.streams) b (with_closing e (ticked e.closing now)) i i;
    changes_id = λ uses answer. by_next_id (λ (f : End). P f.streams) e a i (λ c. i) (λ c most. i);
    says_handshake = λ says answer. by_done (λ (f : End). P f.streams) e a i i;
    times = λ now expiry set. by_expired p.words e now (λ (f : End). P f.streams) (λ pending tracking timers waits asked runs packets. i) (λ pending timers waits asked runs. losses_keep (λ (x : End). P x.streams) settles (with_closing e (ticked e.closing now)) i) (λ x j. j) expiry;
    polls = λ now set. poll_quiet p e now i;
    hears = λ arrival d set. cc;
    tells = λ asks. by_event e (λ (f : End). P f.streams) i i (λ told. q.polls e.streams i);
  })

  -- ---- frames

  -- a frame that brings nothing of a stream leaves it; STREAM and RESET_STREAM as is shown
  pub frame_quiet : (f : FrameValue) (e : End) → ((g : StreamValue) → f ≡ stream g → P (after_stream e.streams e.waiting.frames g).state) → ((g : ResetStreamValue) → f ≡ reset_stream g → P (after_reset_frame e.streams e.waiting.frames g).state) → P e.streams
      → P (take_frame f e).end.streams
  frame_quiet f e brings resets i = go f brings resets
    where
      acked : (a : AckValue) (b : Bool) → P (ack_taken b a e).end.streams
      acked a true = i
      acked a false = acked_keeps (λ (x : End). P x.streams) settles (is_above e.numbers.largest_acked a.largest) a (named a e) i

      go : (f : FrameValue) → ((g : StreamValue) → f ≡ stream g → P (after_stream e.streams e.waiting.frames g).state) → ((g : ResetStreamValue) → f ≡ reset_stream g → P (after_reset_frame e.streams e.waiting.frames g).state) → P (take_frame f e).end.streams
      go (stream g) brings resets = brings g refl
      go (reset_stream g) brings resets = resets g refl
      go (stop_sending g) brings resets = q.stop_sending e.streams g i
      go (max_data limit) brings resets = q.max_data e.streams limit i
      go (max_stream_data g) brings resets = q.max_stream_data e.streams g.id g.limit i
      go (max_streams g) brings resets = q.max_streams (dir_named g.one_way) g.count e.streams i
      go (ack a) brings resets = acked a (names_ungiven a e)
      go (datagram m) brings resets = message_leaves (λ (x : End). P x.streams) m e i (λ left. i)
      go (new_connection_id g) brings resets = apart_leaves (λ (x : End). P x.streams) (new_connection_id g) e tt (λ c. i) (λ c most. i)
      go (retire_connection_id n) brings resets = apart_leaves (λ (x : End). P x.streams) (retire_connection_id n) e tt (λ c. i) (λ c most. i)
      go (path_response token) brings resets = apart_leaves (λ (x : End). P x.streams) (path_response token) e tt (λ c. i) (λ c most. i)
      go handshake_done brings resets = apart_leaves (λ (x : End). P x.streams) handshake_done e tt (λ c. i) (λ c most. i)
      go (ack_frequency r) brings resets = apart_leaves (λ (x : End). P x.streams) (ack_frequency r) e tt (λ c. i) (λ c most. i)
      go other brings resets = i

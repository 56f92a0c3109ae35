-- What calls leave of RESET_STREAM and STOP_SENDING that wait: a reset adds its stream's once, and
-- a stop adds one that has a form.
use Rattle.std.proofs.Common.{◌≡◌, ℕ, ◌+◌, ◌<◌, ◌≤◌, ◌^◌, ◌==◌, Bool, true, false, List, [], ◌∷◌, ◌++◌, length, Option, Some, None, Result, Ok, Err, refl, sym, ap, ◌∙◌, subst, ◌⊎◌, inl, inr, arith}
use Rattle.std.specs.Prelude.{if◌then◌else◌, not, ◌&&◌, ◌||◌}
use Rattle.std.specs.Option.{is_some}
use Rattle.std.proofs.lemmas.Bool.{cases_eq, and_parts, eqb-true, ne_eqb}
use Rattle.quic_assembler.specs.declared.assembler.Chunk.{Chunk}
use Rattle.quic_wire.specs.Value.{StopSendingValue}
use Rattle.quic_send_buffer.specs.Buffered.{written}
use Rattle.quic_streams_parts.specs.declared.answers.WriteError.{WriteError}
use Rattle.quic_streams_parts.specs.declared.answers.WriteError.TheVariants as write_errors
use Rattle.quic_streams_parts.specs.declared.answers.Written.{Written}
use Rattle.quic_streams_parts.specs.declared.answers.ReadError.{ReadError}
use Rattle.quic_streams_parts.specs.declared.answers.ReadError.TheVariants as read_errors
use Rattle.quic_streams_parts.specs.declared.answers.ClosedStream.{ClosedStream}
use Rattle.quic_streams_parts.specs.Table.{at}
use Rattle.quic_streams_parts.specs.SendHalf.{SendHalf, was_said, written_on, is_ready, written_to, taken_unless, reset_now, requeued_at}
use Rattle.quic_streams_parts.specs.RecvHalf.{RecvHalf, new_recv_half}
use Rattle.quic_retransmits.specs.Retransmits.{Retransmits}
use Rattle.quic_streams_halves.specs.Halves.{half_of, status_from, has_place}
use Rattle.quic_streams_state.specs.declared.state.StreamsState.{StreamsState}
use Rattle.quic_streams_state.specs.State.{Streams, streams_of, room, first_window, is_opened, receives_on, sending_half, receiving_half}
use Rattle.quic_streams_state.specs.Sends.{reset_half}
use Rattle.quic_streams_state.specs.Limits.{stream_grew, with_stream_if, decided, settled}
use Rattle.quic_streams_state.specs.Writing.{chunks_of, chunks_written_by, write_answer, after_write, written_by, blocked_at, write_chunks_answer, after_write_chunks, after_finish, reset_answer, reset_at, after_reset, set_priority_answer}
use Rattle.quic_send_buffer.specs.Source.{bytes_of}
use Rattle.quic_streams_state.specs.Reading.{Told, told_bytes, told_end, told_reset, told_by, read_by, after_next, after_read_begun, after_finalize, with_stop, stopped_if, stopped_at, stop_answer, after_stop, reset_of, reset_told, after_received_reset}
use Rattle.quic_streams_laws.specs.KeepingLaws.{by_open, by_accept, by_write, by_blocked, by_write_chunks, by_finish, by_reset, by_set_priority, by_read_begun, by_next, by_finalize, by_stop, by_received_reset, by_polled, at-half, live_sends}
use Rattle.quic_streams_laws.specs.Written.{Wrote, HoldsWritten}
use Rattle.quic_streams_laws.specs.WrittenLaws.{half_holds}
use Rattle.quic_streams_laws.specs.Shape.{IsShaped}
use Rattle.quic_streams_laws.specs.Few.{AreFew}
use Rattle.quic_streams_laws.specs.SummedLaws.{opened_below}
use Rattle.quic_streams_laws.specs.QueuedLaws.{same_half}
use Rattle.quic_machine.specs.declared.run.Call.{Call}
use Rattle.quic_machine.specs.declared.run.Call.TheVariants as calls
use Rattle.quic_machine.specs.declared.run.Answer.{Answer}
use Rattle.quic_machine.specs.declared.run.Answer.TheVariants as answers
use Rattle.quic_machine.specs.Policy.{Policy}
use Rattle.quic_machine.specs.End.{End, with_closing, streams_at, with_streams}
use Rattle.quic_machine.specs.Calls.{AreNexts, after_nexts, is_open}
use Rattle.quic_machine.specs.StreamCalls.{IsStreamAnswer, if_ok, after_on_streams}
use Rattle.quic_machine.specs.Machine.{IsAnswer, after_call}
use Rattle.quic_machine.specs.CallCases.{is_delivery, by_call, by_done}
use Rattle.quic_machine.specs.LeaveCases.{at_losses, by_expired, at_event, by_event}
use Rattle.quic_recovery_core.specs.PendingAcks.{Pending}
use Rattle.quic_time.specs.Timers.{Timers}
use Rattle.quic_machine.specs.Closing.{ticked}
use Rattle.quic_machine.specs.Acked.{losses_detected}
use Rattle.quic_headline.proofs.Packets.Ascending.{Ascends}
use Rattle.quic_headline.specs.Runs.{In}
use Rattle.quic_headline.specs.Headline.{CodeIsSmall}
use Rattle.quic_machine.specs.Validation.{Asked}
use Rattle.quic_headline.proofs.Packets.Apart.{by_waits}
use Rattle.quic_headline.proofs.Places.Told.{in_left, in_right, in_append}
use Rattle.quic_headline.proofs.Halves.InUse.{InUse, in_use_kept, requeued_reset}
use Rattle.quic_headline.proofs.Halves.KnownIds.{AreWritten}
use Rattle.quic_headline.proofs.Halves.Pile.{times, times_append, NothingElse, SamePile, resets_of, stops_of}
use Rattle.quic_headline.proofs.Halves.PileSteps.{HoldsAll, same_pile, both, all_on, again_all, losses_hold, next_holds}
use Rattle.quic_headline.proofs.Halves.PilePolls.{polled_holds}

-- ---- writes

-- what a write is answered, where there is room or none, on a half that takes more or doesn't
abbrev refusing : SendHalf → ℕ → ℕ → Bool → Bool → Result ℕ WriteError
refusing h space len a b = if a then Err write_errors.Blocked else (if b then taken_unless h.stopped h space len else Err write_errors.ClosedStream)

-- a write on a half that was reset is refused
refused : (h : SendHalf) (space len : ℕ) → is_some h.reset ≡ true → (written_to (Some h) space len ≡ Err write_errors.Blocked) ⊎ (written_to (Some h) space len ≡ Err write_errors.ClosedStream)
refused h space len reset = go (space == 0) (is_ready h) (closed h.finished)
  where
    closed : (b : Bool) → not (b || is_some h.reset) ≡ false
    closed true = refl
    closed false = ap not reset

    go : (a b : Bool) → b ≡ false → (refusing h space len a b ≡ Err write_errors.Blocked) ⊎ (refusing h space len a b ≡ Err write_errors.ClosedStream)
    go true b off = inl refl
    go false true off = cc
    go false false off = inr refl

module _ (r : ℕ × ℕ) (s : StreamsState) (p : Retransmits) (bounded : (id : ℕ) (h : SendHalf) → sending_half s id ≡ Some h → h.buffer.unsent ≤ written h.buffer) where
  -- on the stream itself
  refused_here : (id len : ℕ) → id ≡ r.0 → InUse r s → (written_to (sending_half s id) (room s.sending) len ≡ Err write_errors.Blocked) ⊎ (written_to (sending_half s id) (room s.sending) len ≡ Err write_errors.ClosedStream)
  refused_here id len same u =
      let there : sending_half s id ≡ Some u.half = live_sends s id u.half (ap (λ (x : ℕ). at s.sending.halves.live x) same ∙ u.found) in
      subst (λ (o : Option SendHalf). (written_to o (room s.sending) len ≡ Err write_errors.Blocked) ⊎ (written_to o (room s.sending) len ≡ Err write_errors.ClosedStream)) (sym there) (refused u.half (room s.sending) len (ap is_some u.reset))

  -- a write leaves a half that was reset
  write_kept : (b : Bool) (id : ℕ) (bytes : List ℕ) → InUse r s → InUse r (after_write b (write_answer b s id (length bytes)) s p id bytes).state
  write_kept b id bytes u = elim (cases_eq id r.0) [
    | inl same ↦ here b same
    | inr apart ↦ by_write (InUse r) (in_use_kept r) b s p id bytes (bounded id) (λ n old new is on same. apart same) u
  ]
    where
      here : (b : Bool) → id ≡ r.0 → InUse r (after_write b (write_answer b s id (length bytes)) s p id bytes).state
      here false same = u
      here true same = elim (refused_here id (length bytes) same u) [
        | inl is ↦ subst (λ (x : Result ℕ WriteError). InUse r (written_by x s p id bytes).state) (sym is) (by_blocked (InUse r) (in_use_kept r) s p id (sending_half s id) refl u)
        | inr is ↦ subst (λ (x : Result ℕ WriteError). InUse r (written_by x s p id bytes).state) (sym is) u
      ]

  -- so does one of several buffers
  chunks_kept : (b : Bool) (id : ℕ) (cs : List (List ℕ)) → InUse r s → InUse r (after_write_chunks b (write_chunks_answer b s id cs) s p id cs).state
  chunks_kept b id cs u = elim (cases_eq id r.0) [
    | inl same ↦ here b same
    | inr apart ↦ by_write_chunks (InUse r) (in_use_kept r) b s p id cs (bounded id) (λ n old new is on same. apart same) u
  ]
    where
      here : (b : Bool) → id ≡ r.0 → InUse r (after_write_chunks b (write_chunks_answer b s id cs) s p id cs).state
      here false same = u
      here true same = elim (refused_here id (bytes_of cs) same u) [
        | inl is ↦ subst (λ (x : Result ℕ WriteError). InUse r (chunks_written_by (chunks_of x cs) s p id cs).state) (sym is) (by_blocked (InUse r) (in_use_kept r) s p id (sending_half s id) refl u)
        | inr is ↦ subst (λ (x : Result ℕ WriteError). InUse r (chunks_written_by (chunks_of x cs) s p id cs).state) (sym is) u
      ]

-- ---- what waits

module _ (s : StreamsState) (p : Retransmits) where
  blocked_same : (o : Option SendHalf) (id : ℕ) → SamePile p (blocked_at o s p id).pending
  blocked_same None id = same_pile p
  blocked_same (Some h) id = both p (room s.sending == 0) _ _ (record { resets = refl; stops = refl; ids = refl; retired = refl; requests = refl; done = refl })
      (both p (was_said h.said h.limit) _ _ (same_pile p) (record { resets = refl; stops = refl; ids = refl; retired = refl; requests = refl; done = refl }))

  written_same : (answer : Result ℕ WriteError) (id : ℕ) (bytes : List ℕ) → SamePile p (written_by answer s p id bytes).pending
  written_same (Ok n) id bytes = same_pile p
  written_same (Err write_errors.Blocked) id bytes = blocked_same (sending_half s id) id
  written_same (Err (write_errors.Stopped code)) id bytes = same_pile p
  written_same (Err write_errors.ClosedStream) id bytes = same_pile p
  written_same (Err write_errors.Memory) id bytes = same_pile p

  pub write_same : (b : Bool) (answer : Result ℕ WriteError) (id : ℕ) (bytes : List ℕ) → SamePile p (after_write b answer s p id bytes).pending
  write_same true answer id bytes = written_same answer id bytes
  write_same false answer id bytes = same_pile p

  pub chunks_same : (b : Bool) (answer : Result Written WriteError) (id : ℕ) (cs : List (List ℕ)) → SamePile p (after_write_chunks b answer s p id cs).pending
  chunks_same true (Ok w) id cs = same_pile p
  chunks_same true (Err e) id cs = written_same (Err e) id []
  chunks_same false answer id cs = same_pile p

  pub finalize_same : (id : ℕ) → SamePile p (after_finalize s p id).pending
  finalize_same id = go (stream_grew s id)
    where
      go : (b : Bool) → SamePile p (with_stream_if b id (decided s p))
      go true = record { resets = refl; stops = refl; ids = refl; retired = refl; requests = refl; done = refl }
      go false = record { resets = refl; stops = refl; ids = refl; retired = refl; requests = refl; done = refl }

  pub received_reset_same : (id : ℕ) → SamePile p (after_received_reset s p id).pending
  received_reset_same id = go (reset_of (receiving_half s id))
    where
      go : (r : Result (Option ℕ) ClosedStream) → SamePile p (reset_told r s p id).pending
      go (Ok (Some code)) = record { resets = refl; stops = refl; ids = refl; retired = refl; requests = refl; done = refl }
      go (Ok None) = same_pile p
      go (Err e) = same_pile p

-- ---- resets and stops

-- each half in use that was reset is so still
abbrev KeptBy : End → Streams → Type 0
KeptBy e t = (q : ℕ × ℕ) → InUse q e.streams → InUse q t.state

-- of a stream that has none, none stands there
times_none : (id : ℕ) (rs : List (ℕ × ℕ)) → ((r : ℕ × ℕ) → In r rs → r.0 ≡ id → ⊥) → times id rs ≡ 0
times_none id [] none = refl
times_none id (r ∷ rs) none = go (r.0 == id) refl (times_none id rs (λ q i. none q (inr i)))
  where
    go : (b : Bool) → (r.0 == id) ≡ b → times id rs ≡ 0 → (if b then 1 else 0) + times id rs ≡ 0
    go true on rest = absurd (none r (inl refl) (eqb-true r.0 id on))
    go false off rest = omega arith

module _ (e : End) (h : HoldsAll e) where
  -- a reset waits besides, of a stream that had none
  reset_added : (t : Streams) (r : ℕ × ℕ) → ((q : ℕ × ℕ) → InUse q e.streams → InUse q t.state) → ((q : ℕ × ℕ) → InUse q e.streams → q.0 ≡ r.0 → ⊥) → InUse r t.state
      → t.pending ≡ record e.waiting.frames { reset_stream = e.waiting.frames.reset_stream ++ r ∷ [] } → HoldsAll (with_streams e t)
  reset_added t r kept other new is = record {
    holds = record {
      pile = rw is (record {
        once = once;
        reset = λ q i. elim (in_append q (e.waiting.frames.reset_stream ++ r ∷ []) (resets_of e.tracking.packets) i) [
          | inl x ↦ elim (in_append q e.waiting.frames.reset_stream (r ∷ []) x) [
            | inl y ↦ kept q (h.holds.pile.reset q (in_left q e.waiting.frames.reset_stream (resets_of e.tracking.packets) y))
            | inr y ↦ elim y [ inl same ↦ subst (λ (z : ℕ × ℕ). InUse z t.state) (sym same) new | inr none ↦ absurd none ]
          ]
          | inr x ↦ kept q (h.holds.pile.reset q (in_right q e.waiting.frames.reset_stream (resets_of e.tracking.packets) x))
        ];
        small = h.holds.pile.small;
      });
      others = rw is (let o = h.holds.others in record { ids = o.ids; retired = o.retired });
    };
    carried = h.carried;
  }
    where
      all : List (ℕ × ℕ)
      all = e.waiting.frames.reset_stream ++ resets_of e.tracking.packets

      once : (id : ℕ) → times id ((e.waiting.frames.reset_stream ++ r ∷ []) ++ resets_of e.tracking.packets) ≤ 1
      once id =
          let old = h.holds.pile.once id in
          let parts = times_append id e.waiting.frames.reset_stream (resets_of e.tracking.packets) in
          let front = times_append id e.waiting.frames.reset_stream (r ∷ []) in
          let sum = times_append id (e.waiting.frames.reset_stream ++ r ∷ []) (resets_of e.tracking.packets) in
          elim (cases_eq r.0 id) [
            | inl same ↦ (
                let none : times id (e.waiting.frames.reset_stream ++ resets_of e.tracking.packets) ≡ 0 =
                times_none id (e.waiting.frames.reset_stream ++ resets_of e.tracking.packets) (λ q i at_id. other q (h.holds.pile.reset q i) (at_id ∙ sym same)) in
                let one : times id (r ∷ []) ≤ 1 = at_most (r.0 == id) in
                omega arith)
            | inr apart ↦ (
                let off : (r.0 == id) ≡ false = ne_eqb r.0 id apart in
                let zero_of : times id (r ∷ []) ≡ 0 = ap (λ (b : Bool). (if b then 1 else 0) + 0) off in
                omega arith)
          ]
        where
          at_most : (b : Bool) → (if b then 1 else 0) + 0 ≤ 1
          at_most true = omega arith
          at_most false = omega arith

  -- a stop waits besides
  stop_added : (t : Streams) (x : StopSendingValue) → ((q : ℕ × ℕ) → InUse q e.streams → InUse q t.state) → (x.id < 2 ^ 62) × (x.code < 2 ^ 62) → t.pending.stop_sending ≡ e.waiting.frames.stop_sending ++ x ∷ [] → t.pending.reset_stream ≡ e.waiting.frames.reset_stream
      → NothingElse t.pending → HoldsAll (with_streams e t)
  stop_added t x kept small stops resets none = record {
    holds = record {
      pile = rw (stops, resets) (record {
        once = h.holds.pile.once;
        reset = λ q i. kept q (h.holds.pile.reset q i);
        small = λ y i. elim (in_append y (e.waiting.frames.stop_sending ++ x ∷ []) (stops_of e.tracking.packets) i) [
          | inl z ↦ elim (in_append y e.waiting.frames.stop_sending (x ∷ []) z) [
            | inl old ↦ h.holds.pile.small y (in_left y e.waiting.frames.stop_sending (stops_of e.tracking.packets) old)
            | inr new ↦ elim new [ inl same ↦ subst (λ (v : StopSendingValue). (v.id < 2 ^ 62) × (v.code < 2 ^ 62)) (sym same) small | inr none ↦ absurd none ]
          ]
          | inr z ↦ h.holds.pile.small y (in_right y e.waiting.frames.stop_sending (stops_of e.tracking.packets) z)
        ];
      });
      others = none;
    };
    carried = h.carried;
  }

  -- what a call leaves that changes nothing
  same_holds : HoldsAll (with_streams e (streams_at e))
  same_holds = again_all e _ refl refl refl h

  -- a reset
  reset_holds : (id code : ℕ) → code < 2 ^ 62 → HoldsAll (with_streams e (after_reset e.streams e.waiting.frames id code))
  reset_holds id code small = go (sending_half e.streams id) refl
    where
      none_some : (o : Option ℕ) (size : ℕ) → is_some o ≡ false → o ≡ Some size → ⊥
      none_some o size none some = cc

      kept : (q : ℕ × ℕ) → InUse q e.streams → InUse q (after_reset e.streams e.waiting.frames id code).state
      kept q u = by_reset (InUse q) (in_use_kept q) e.streams e.waiting.frames id code (λ half is none some. absurd (clash half.reset none some)) u
        where
          clash : (o : Option ℕ) → o ≡ None → is_some o ≡ true → ⊥
          clash None none some = let off : false ≡ true = some in cc
          clash (Some size) none some = cc

      free : (half : SendHalf) → sending_half e.streams id ≡ Some half → (b : Bool) → is_some half.reset ≡ b → ((q : ℕ × ℕ) → InUse q e.streams → InUse q (if b then streams_of e.streams e.waiting.frames else streams_of (record e.streams { sending = reset_half half e.streams.sending e.streams.side id }) (record e.waiting.frames { reset_stream = e.waiting.frames.reset_stream ++ (id, code) ∷ [] })).state)
          → HoldsAll (with_streams e (if b then streams_of e.streams e.waiting.frames else streams_of (record e.streams { sending = reset_half half e.streams.sending e.streams.side id }) (record e.waiting.frames { reset_stream = e.waiting.frames.reset_stream ++ (id, code) ∷ [] })))
      free half is true reset on = same_holds
      free half is false reset on = reset_added _ (id, code) on
          (λ q u same. (
          let there : sending_half e.streams id ≡ Some u.half = live_sends e.streams id u.half (ap (λ (x : ℕ). at e.streams.sending.halves.live x) (sym same) ∙ u.found) in
          let one : u.half ≡ half = same_half u.half half (sending_half e.streams id) there is in
          none_some half.reset u.size reset (ap (λ (x : SendHalf). x.reset) (sym one) ∙ u.reset)))
          (record {
            half = (requeued_at half.place false e.streams.sending.queue id (reset_now half)).half;
            found = at-half e.streams.side e.streams.sending.halves id (requeued_at half.place false e.streams.sending.queue id (reset_now half)).half;
            size = written_on half;
            reset = requeued_reset half.place false e.streams.sending.queue id (reset_now half);
            code = small;
          })
          refl

      go : (o : Option SendHalf) → sending_half e.streams id ≡ o → HoldsAll (with_streams e (reset_at o e.streams e.waiting.frames id code))
      go None is = same_holds
      go (Some half) is = free half is (is_some half.reset) refl (λ q u. subst (λ (o : Option SendHalf). InUse q (reset_at o e.streams e.waiting.frames id code).state) is (kept q u))

  -- a stop
  stop_holds : (id code : ℕ) → code < 2 ^ 62 → ((half : RecvHalf) → receiving_half e.streams id ≡ Some half → id < 2 ^ 62) → HoldsAll (with_streams e (after_stop e.streams e.waiting.frames id code))
  stop_holds id code small opened = go (receiving_half e.streams id) refl (λ q u. by_stop (InUse q) (in_use_kept q) e.streams e.waiting.frames id code (λ half is. tt) u)
    where
      stopped : (half : RecvHalf) → receiving_half e.streams id ≡ Some half → (o : Option ℕ) → KeptBy e (settled (stopped_if (is_some half.final) e.streams id half) (with_stop o id code e.waiting.frames)) → HoldsAll (with_streams e (settled (stopped_if (is_some half.final) e.streams id half) (with_stop o id code e.waiting.frames)))
      stopped half is (Some reset) kept = all_on e _ kept (record { resets = refl; stops = refl; ids = refl; retired = refl; requests = refl; done = refl }) h
      stopped half is None kept = stop_added _ (record { id = id; code = code }) kept (opened half is, small) refl refl (let o = h.holds.others in record { ids = o.ids; retired = o.retired })

      either : (half : RecvHalf) → receiving_half e.streams id ≡ Some half → (b : Bool) → KeptBy e (if b then streams_of e.streams e.waiting.frames else settled (stopped_if (is_some half.final) e.streams id half) (with_stop half.reset id code e.waiting.frames))
          → HoldsAll (with_streams e (if b then streams_of e.streams e.waiting.frames else settled (stopped_if (is_some half.final) e.streams id half) (with_stop half.reset id code e.waiting.frames)))
      either half is true kept = same_holds
      either half is false kept = stopped half is half.reset kept

      go : (o : Option RecvHalf) → receiving_half e.streams id ≡ o → KeptBy e (stopped_at o e.streams e.waiting.frames id code) → HoldsAll (with_streams e (stopped_at o e.streams e.waiting.frames id code))
      go None is kept = same_holds
      go (Some half) is kept = either half is half.stopped kept

-- ---- any call

-- a read that finds no memory leaves the sending halves
next_lacks : (r : ℕ × ℕ) (told : Told) (s : StreamsState) (id most : ℕ) → InUse r s → InUse r (after_next told (Err read_errors.Memory) s id most)
next_lacks r told_bytes s id most u = go (receiving_half s id)
  where
    go : (o : Option RecvHalf) → InUse r (read_by (Err read_errors.Memory) o s id most)
    go None = u
    go (Some h) = u
next_lacks r told_end s id most u = u
next_lacks r (told_reset code) s id most u = u

-- so do several `next`s of one
nexts_kept : (r : ℕ × ℕ) (told : Told) (s : StreamsState) (id : ℕ) (mosts : List ℕ) (said : List (Result (Option Chunk) ReadError)) → AreNexts told s id mosts said → InUse r s → InUse r (after_nexts told s id mosts said)
nexts_kept r told s id [] [] are u = u
nexts_kept r told s id [] (answer ∷ said) are u = absurd are
nexts_kept r told s id (most ∷ mosts) [] are u = absurd are
nexts_kept r told s id (most ∷ mosts) (answer ∷ said) are u = nexts_kept r (told_by answer told) (after_next told answer s id most) id mosts said are.1 (elim are.0 [
  | inl is ↦ subst (λ (a : Result (Option Chunk) ReadError). InUse r (after_next told a s id most)) (sym is) (by_next (InUse r) (in_use_kept r) told s id most (λ h c e at. tt) u)
  | inr is ↦ subst (λ (a : Result (Option Chunk) ReadError). InUse r (after_next told a s id most)) (sym is) (next_lacks r told s id most u)
])

-- a half on which something may come is of an opened stream
receiving_opened : (s : StreamsState) (id : ℕ) (h : RecvHalf) → IsShaped s → receiving_half s id ≡ Some h → is_opened s id ≡ true
receiving_opened s id h shape e = go (at s.receiving.halves.live id) (receives_on s.side id && is_opened s id) (has_place s.side s.receiving.halves.places id) refl refl e
  where
    go : (o : Option RecvHalf) (m u : Bool) → at s.receiving.halves.live id ≡ o → (receives_on s.side id && is_opened s id) ≡ m → half_of (new_recv_half (first_window s.receiving)) (status_from o m u) ≡ Some h → is_opened s id ≡ true
    go (Some b) m u is may f = (and_parts (receives_on s.side id) (is_opened s id) (shape.receiving.allowed id (shape.receiving.placed id b is))).1
    go None true u is may f = (and_parts (receives_on s.side id) (is_opened s id) may).1
    go None false u is may f = cc

module _ (wrote : ℕ → Wrote) (e : End) (holds : HoldsWritten wrote e.streams) (few : AreFew e.streams) (h : HoldsAll e) (b : Bool) where
  -- no half has sent more than was written
  bounded : (id : ℕ) (half : SendHalf) → sending_half e.streams id ≡ Some half → half.buffer.unsent ≤ written half.buffer
  bounded id half is = let i = half_holds wrote e.streams holds id half is in i.lawful.bounded

  -- what a call on streams leaves
  abbrev LeavesPile : Call → Answer → Type 0
  LeavesPile call a = HoldsAll (with_streams e (after_on_streams b (streams_at e) call a))

  -- other streams, and the same waits
  leaves : (t : Streams) → KeptBy e t → SamePile e.waiting.frames t.pending → HoldsAll (with_streams e t)
  leaves t kept same = all_on e t kept same h

  -- a refused update
  if_holds : {A E : Type 0} (r : Result A E) (after : Streams) → HoldsAll (with_streams e after) → HoldsAll (with_streams e (if_ok r after (streams_at e)))
  if_holds (Ok x) after now = now
  if_holds (Err error) after now = same_holds e h

  finish_kept : (id : ℕ) (r : ℕ × ℕ) → InUse r e.streams → InUse r (after_finish e.streams id)
  finish_kept id r u = by_finish (InUse r) (in_use_kept r) e.streams id (λ half is ready some. refl) u

  -- each call on streams
  pub call_holds : (call : Call) (a : Answer) → CodeIsSmall call → IsStreamAnswer b e.streams call a → LeavesPile call a
  call_holds (calls.Open dir) a small is = leaves _ (λ r u. by_open (InUse r) (in_use_kept r) b dir e.streams u) (same_pile e.waiting.frames)
  call_holds (calls.Accept dir) a small is = leaves _ (λ r u. by_accept (InUse r) (in_use_kept r) dir e.streams (λ may. tt) u) (same_pile e.waiting.frames)
  call_holds (calls.Write id bytes) a small (inl is) = subst (LeavesPile (calls.Write id bytes)) (sym is)
      (leaves _ (λ r u. write_kept r e.streams e.waiting.frames bounded b id bytes u) (write_same e.streams e.waiting.frames b (write_answer b e.streams id (length bytes)) id bytes))
  call_holds (calls.Write id bytes) a small (inr is) = subst (LeavesPile (calls.Write id bytes)) (sym is) (go b)
    where
      go : (c : Bool) → HoldsAll (with_streams e (after_write c (Err write_errors.Memory) e.streams e.waiting.frames id bytes))
      go true = same_holds e h
      go false = same_holds e h
  call_holds (calls.WriteChunks id chunks) a small (inl is) = subst (LeavesPile (calls.WriteChunks id chunks)) (sym is)
      (leaves _ (λ r u. chunks_kept r e.streams e.waiting.frames bounded b id chunks.items u) (chunks_same e.streams e.waiting.frames b (write_chunks_answer b e.streams id chunks.items) id chunks.items))
  call_holds (calls.WriteChunks id chunks) a small (inr is) = subst (LeavesPile (calls.WriteChunks id chunks)) (sym is) (go b)
    where
      go : (c : Bool) → HoldsAll (with_streams e (after_write_chunks c (Err write_errors.Memory) e.streams e.waiting.frames id chunks.items))
      go true = same_holds e h
      go false = same_holds e h
  call_holds (calls.Finish id) a small (inl is) = subst (LeavesPile (calls.Finish id)) (sym is) (leaves _ (λ r u. finish_kept id r u) (same_pile e.waiting.frames))
  call_holds (calls.Finish id) a small (inr is) = subst (LeavesPile (calls.Finish id)) (sym is) (same_holds e h)
  call_holds (calls.Reset id code) a small (inl is) = subst (LeavesPile (calls.Reset id code)) (sym is) (if_holds (reset_answer e.streams id) (after_reset e.streams e.waiting.frames id code) (reset_holds e h id code small))
  call_holds (calls.Reset id code) a small (inr is) = subst (LeavesPile (calls.Reset id code)) (sym is) (same_holds e h)
  call_holds (calls.SetPriority id priority) a small (inl is) = subst (LeavesPile (calls.SetPriority id priority)) (sym is)
      (if_holds (set_priority_answer e.streams id) _ (leaves _ (λ r u. by_set_priority (InUse r) (in_use_kept r) e.streams id priority (λ half is some. refl) u) (same_pile e.waiting.frames)))
  call_holds (calls.SetPriority id priority) a small (inr is) = subst (LeavesPile (calls.SetPriority id priority)) (sym is) (same_holds e h)
  call_holds (calls.Read read) (answers.Read (Ok said)) small is =
      let after : StreamsState = after_nexts told_bytes (after_read_begun e.streams read.id read.ordered) read.id read.nexts.items said in
      leaves (after_finalize after e.waiting.frames read.id)
      (λ r u. by_finalize (InUse r) (in_use_kept r) after e.waiting.frames read.id (nexts_kept r told_bytes (after_read_begun e.streams read.id read.ordered) read.id read.nexts.items said is.1 (by_read_begun (InUse r) (in_use_kept r) e.streams read.id read.ordered (λ half is. tt) u)))
      (finalize_same after e.waiting.frames read.id)
  call_holds (calls.Read read) (answers.Read (Err error)) small is = same_holds e h
  call_holds (calls.Read read) a small is = absurd is
  call_holds (calls.Stop id code) a small (inl is) = subst (LeavesPile (calls.Stop id code)) (sym is)
      (if_holds (stop_answer e.streams id) (after_stop e.streams e.waiting.frames id code) (stop_holds e h id code small (λ half is. opened_below e.streams id few (receiving_opened e.streams id half holds.shape is))))
  call_holds (calls.Stop id code) a small (inr is) = subst (LeavesPile (calls.Stop id code)) (sym is) (same_holds e h)
  call_holds (calls.ReceivedReset id) a small is = leaves _ (λ r u. by_received_reset (InUse r) (in_use_kept r) e.streams e.waiting.frames id u) (received_reset_same e.streams e.waiting.frames id)
  call_holds call a small is = absurd is

-- any call that is no delivery
pub step_holds : (p : Policy) (e : End) (theirs : List (List ℕ)) (call : Call) (a : Answer) (wrote : ℕ → Wrote) → HoldsWritten wrote e.streams → AreFew e.streams → CodeIsSmall call → IsAnswer p e theirs call a → is_delivery call ≡ false → AreWritten e.ids.peer → Ascends e → HoldsAll e → HoldsAll (after_call p e theirs call a)
step_holds p e theirs call a wrote holds few small is other w ascends h = by_call p e theirs HoldsAll call a (record {
  same = h;
  on_streams = λ on answer. call_holds wrote e holds few h (is_open e.closing.state) call a small (answer is);
  on_messages = λ on answer. again_all e _ refl refl refl h;
  pings = again_all e _ refl refl refl h;
  times = λ now expiry set. by_expired p.words e now HoldsAll (λ pending tracking timers waits asked runs packets. again_all e _ refl refl packets h) (λ pending timers waits asked runs. expired now pending timers waits asked) (λ x j. again_all x _ refl refl refl j) expiry;
  closes = λ reason f now own. again_all e _ refl refl refl h;
  waits = λ now b set. by_waits HoldsAll b (with_closing e (ticked e.closing now)) (again_all e _ refl refl refl h) (again_all e _ refl refl refl h);
  polls = λ now set. polled_holds p e now ascends h;
  changes_id = λ uses answer. next_holds e a w h;
  says_handshake = λ says answer. by_done HoldsAll e a h (record { holds = record { pile = h.holds.pile; others = record { ids = h.holds.others.ids; retired = h.holds.others.retired } }; carried = h.carried });
  hears = λ arrival d set. cc;
  tells = λ asks. by_event e HoldsAll (again_all e _ refl refl refl h) (again_all e _ refl refl refl h) (λ told. told_holds told);
})
  where
    expired : (now : ℕ) (pending : Pending) (timers : Timers) (waits : Bool) (asked : Asked) → HoldsAll (at_losses e now pending timers waits asked)
    expired now pending timers waits asked =
        let begins : End = with_closing e (ticked e.closing now) in
        again_all (losses_detected begins) (at_losses e now pending timers waits asked) refl refl refl (losses_hold begins (again_all e begins refl refl refl h))

    told_holds : (told : Bool) → HoldsAll (at_event e told)
    told_holds told = record {
      holds = record { pile = record { once = h.holds.pile.once; reset = λ r i. by_polled (InUse r) (in_use_kept r) e.streams (h.holds.pile.reset r i); small = h.holds.pile.small }; others = record { ids = h.holds.others.ids; retired = h.holds.others.retired } };
      carried = h.carried;
    }

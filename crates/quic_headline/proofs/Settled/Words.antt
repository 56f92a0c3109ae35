-- What an end knows of what was sent on its streams, and how often it was told of each that it is
-- finished, stays with calls and with frames that come.
use Rattle.std.proofs.Common.{◌≡◌, ℕ, zero, suc, ◌+◌, Bool, true, false, List, length, Option, Some, None, Result, Ok, Err, refl, sym, ap, subst}
use Rattle.std.specs.Prelude.{◌==◌, ◌||◌, not, if◌then◌else◌, take}
use Rattle.std.specs.List.{concat}
use Rattle.std.specs.Option.{is_some, is_none}
use Rattle.std.proofs.lemmas.Bool.{cond_both, both_ways}
use Rattle.quic_wire.specs.Value.{FrameValue, stream, reset_stream, stop_sending, max_data, max_stream_data, max_streams}
use Rattle.quic_send_buffer.specs.Buffered.{is_fully_acked}
use Rattle.quic_send_buffer.specs.Source.{bytes_of, cut_to}
use Rattle.quic_send_buffer.specs.declared.stream_meta.StreamMeta.{StreamMeta}
use Rattle.quic_streams_parts.specs.declared.answers.FinishError.{FinishError}
use Rattle.quic_streams_parts.specs.declared.answers.UpdateError.TheVariants as update_errors
use Rattle.quic_streams_parts.specs.declared.answers.WriteError.{WriteError}
use Rattle.quic_streams_parts.specs.declared.answers.WriteError.TheVariants as write_errors
use Rattle.quic_streams_parts.specs.SendHalf.{SendHalf, written_to, grown, grown_all, reset_now, is_ready, requeued_at}
use Rattle.quic_retransmits.specs.Retransmits.{Retransmits}
use Rattle.quic_streams_state.specs.declared.state.StreamsState.{StreamsState}
use Rattle.quic_streams_state.specs.State.{Streams, sending_half, room}
use Rattle.quic_streams_state.specs.Writing.{put_queued, write_answer, after_write, written_by, accepted_at, grown_by, chunks_of, write_chunks_answer, after_write_chunks, chunks_accepted_at, chunks_written_by, after_set_priority, finish_answer, after_finish, reset_answer, after_reset, reset_at, is_reset_at}
use Rattle.quic_streams_state.specs.Opening.{after_open, after_accept, after_max_streams}
use Rattle.quic_streams_state.specs.Reading.{next_answer, after_next, after_read_begun, after_stop, after_received_reset}
use Rattle.quic_streams_state.specs.Taking.{after_stream, after_reset_frame, after_stop_sending, after_max_data, after_max_stream_data}
use Rattle.quic_streams_state.specs.Acked.{after_stream_lost, after_reset_acked}
use Rattle.quic_streams_laws.specs.KeepingLaws.{by_option, not_taken, taken_ready, by_blocked, by_finish, by_open, by_accept, by_set_priority, by_read_begun, by_next, by_stop, by_received_reset, by_stream, by_reset_frame, by_stop_sending, by_max_data, by_max_stream_data, by_max_streams, by_reset_acked, by_stream_lost}
use Rattle.quic_streams_laws.specs.ShapeLaws.{sends_with}
use Rattle.quic_streams_laws.specs.EachLaws.{each_with}
use Rattle.quic_streams_laws.specs.Written.{Wrote, IsSendHalf, done_on, with_bytes, with_end, with_reset, wrote_by, wrote_chunks_by, wrote_end_by, wrote_reset_by}
use Rattle.quic_streams_laws.specs.WroteLaws.{done_here, done_apart}
use Rattle.quic_streams_laws.specs.Acknowledged.{FinishedHave}
use Rattle.quic_streams_laws.specs.AcknowledgedLaws.{half_arrived}
use Rattle.quic_machine.specs.Tracking.{dir_named}
use Rattle.quic_machine.specs.End.{End}
use Rattle.quic_machine.specs.Receive.{take_frame}
use Rattle.quic_machine.specs.FrameCases.{OnStreams}
use Rattle.quic_headline.proofs.Halves.Words.{CallWords, calls_of, frame_on}
use Rattle.quic_headline.proofs.Halves.Small.{IsSmallLimit}
use Rattle.quic_headline.proofs.Halves.Finished.{finished_words}
use Rattle.quic_headline.proofs.Settled.Told.{SameTold, same_told, write_queue, chunks_queue, finish_queue, open_queue, priority_queue, begun_queue, next_queue, stop_queue, hears_queue, stream_told, reset_told_on, stop_sending_told, max_stream_data_told, max_streams_told, lost_queue, reset_acked_queue}
use Rattle.quic_headline.proofs.Settled.Half.{Known, Tells, TellsAlike, UnusedSettles, HalfSettles, DoneSettles, Settles, settles_kept, half_settles, grown_one_settles, grown_all_settles, requeued_settles, put_settles, accepted_settles, settles_alike, one_follows, knows_same, unended}
use Rattle.quic_headline.proofs.Settled.Acked.{telling}

-- ---- a word that changes neither what is told nor what was reset

-- which streams were reset
abbrev pub is_reset : (ℕ → Wrote) → ℕ → Bool
is_reset done q = is_some (done q).reset

-- the same is told
pub tells_alike : (n : ℕ → ℕ) (before after : ℕ → Bool) (s t : StreamsState) → SameTold s t → ((q : ℕ) → after q ≡ before q) → TellsAlike (telling n before s) (telling n after t)
tells_alike n before after s t same resets = record { times = λ id. ap (λ (c : ℕ). n id + c) (same id); reset = resets }

-- a fact of what was done and of the streams, where so often was told that each stream is finished
abbrev pub Settling : (ℕ → ℕ → Type 0) → (ℕ → Type 0) → Known → (ℕ → ℕ) → (ℕ → Wrote) → StreamsState → Type 0
Settling arrived end_arrived k n done s = FinishedHave arrived end_arrived done s × Settles k (telling n (is_reset done) s) s

-- where the same is told
module _ (k : Known) (n : ℕ → ℕ) (done : ℕ → Wrote) (s t : StreamsState) where
  pub retold : SameTold s t → Settles k (telling n (is_reset done) s) t → Settles k (telling n (is_reset done) t) t
  retold same i = settles_alike k (telling n (is_reset done) s) (telling n (is_reset done) t) t (tells_alike n (is_reset done) (is_reset done) s t same (λ q. refl)) i

  retold_as : (more : ℕ → Wrote) → SameTold s t → ((q : ℕ) → is_reset more q ≡ is_reset done q) → Settles k (telling n (is_reset done) s) t → Settles k (telling n (is_reset more) t) t
  retold_as more same resets i = settles_alike k (telling n (is_reset done) s) (telling n (is_reset more) t) t (tells_alike n (is_reset done) (is_reset more) s t same resets) i

-- more on a stream, but no reset
not_reset : (id : ℕ) (more : Wrote → Wrote) (done : ℕ → Wrote) → ((w : Wrote) → is_some (more w).reset ≡ is_some w.reset) → (q : ℕ) → is_reset (done_on id more done) q ≡ is_reset done q
not_reset id more done same q = cond_both (q == id) (more (done q)) (done q) (λ (w : Wrote). is_some w.reset ≡ is_some (done q).reset) (λ e. same (done q)) (λ e. refl)

-- ---- calls

module _ (arrived : ℕ → ℕ → Type 0) (end_arrived : ℕ → Type 0) (k : Known) (n : ℕ → ℕ) (done : ℕ → Wrote) (s : StreamsState) (i : Settling arrived end_arrived k n done s) where
  abbrev t : Tells
  t = telling n (is_reset done) s

  abbrev P : StreamsState → Type 0
  P v = Settles k t v

  -- a half holds what was written
  holds : (id : ℕ) (h : SendHalf) → sending_half s id ≡ Some h → IsSendHalf (done id) h
  holds id h is = (half_arrived arrived end_arrived done s id h is i.0.acked).0

  -- bytes that are accepted
  accepted_on : (id : ℕ) (h : SendHalf) (bytes : List ℕ) → sending_half s id ≡ Some h → is_ready h ≡ true → P (accepted_at (Some h) s id bytes)
  accepted_on id h bytes is ready = cond_both (length bytes == 0) s (grown_by h s id bytes) P (λ e. i.1) (λ e.
      accepted_settles k t (put_queued s id (requeued_at h.place true s.sending.queue id (grown h bytes))) (s.sending.accepted + length bytes)
      (put_settles k t s id h (requeued_at h.place true s.sending.queue id (grown h bytes)) is (requeued_settles k t h.place true s.sending.queue id (grown h bytes) (grown_one_settles k t id h bytes ready (half_settles k t s id h is i.1))) i.1))

  written_on : (b : Bool) (p : Retransmits) (id : ℕ) (bytes : List ℕ) → P (after_write b (write_answer b s id (length bytes)) s p id bytes).state
  written_on false p id bytes = i.1
  written_on true p id bytes = go (written_to (sending_half s id) (room s.sending) (length bytes)) refl
    where
      go : (answer : Result ℕ WriteError) → written_to (sending_half s id) (room s.sending) (length bytes) ≡ answer → P (written_by answer s p id bytes).state
      go (Ok m) is = by_option (sending_half s id) (λ o. written_to o (room s.sending) (length bytes) ≡ Ok m → P (accepted_at o s id (take m bytes))) (λ e f. absurd (not_taken write_errors.ClosedStream m f))
          (λ h e f. accepted_on id h (take m bytes) e (taken_ready h (room s.sending) (length bytes) m f)) is
      go (Err write_errors.Blocked) is = by_blocked P (settles_kept k t) s p id (sending_half s id) refl i.1
      go (Err (write_errors.Stopped code)) is = i.1
      go (Err write_errors.ClosedStream) is = i.1
      go (Err write_errors.Memory) is = i.1

  -- several buffers
  chunks_on : (id : ℕ) (h : SendHalf) (cs : List (List ℕ)) (m : ℕ) → sending_half s id ≡ Some h → is_ready h ≡ true → P (chunks_accepted_at (Some h) s id m cs)
  chunks_on id h cs zero is ready = i.1
  chunks_on id h cs (suc m) is ready =
      accepted_settles k t (put_queued s id (requeued_at h.place true s.sending.queue id (grown_all h (cut_to (suc m) cs)))) (s.sending.accepted + suc m)
      (put_settles k t s id h (requeued_at h.place true s.sending.queue id (grown_all h (cut_to (suc m) cs))) is (requeued_settles k t h.place true s.sending.queue id (grown_all h (cut_to (suc m) cs)) (grown_all_settles k t (cut_to (suc m) cs) id h ready (half_settles k t s id h is i.1))) i.1)

  chunks_written_on : (b : Bool) (p : Retransmits) (id : ℕ) (cs : List (List ℕ)) → P (after_write_chunks b (write_chunks_answer b s id cs) s p id cs).state
  chunks_written_on false p id cs = i.1
  chunks_written_on true p id cs = go (written_to (sending_half s id) (room s.sending) (bytes_of cs)) refl
    where
      go : (answer : Result ℕ WriteError) → written_to (sending_half s id) (room s.sending) (bytes_of cs) ≡ answer → P (chunks_written_by (chunks_of answer cs) s p id cs).state
      go (Ok m) is = by_option (sending_half s id) (λ o. written_to o (room s.sending) (bytes_of cs) ≡ Ok m → P (chunks_accepted_at o s id m cs)) (λ e f. absurd (not_taken write_errors.ClosedStream m f))
          (λ h e f. chunks_on id h cs m e (taken_ready h (room s.sending) (bytes_of cs) m f)) is
      go (Err write_errors.Blocked) is = by_blocked P (settles_kept k t) s p id (sending_half s id) refl i.1
      go (Err (write_errors.Stopped code)) is = i.1
      go (Err write_errors.ClosedStream) is = i.1
      go (Err write_errors.Memory) is = i.1

  -- the end of a half that isn't finished isn't acknowledged
  no_end : (w : Wrote) (h : SendHalf) → IsSendHalf w h → is_ready h ≡ true → h.end_acked ≡ false
  no_end w h x ready = go h.end_acked h.finished refl x.finished ready
    where
      go : (e f : Bool) → h.end_acked ≡ e → f ≡ w.ended → not (f || is_some h.reset) ≡ true → h.end_acked ≡ false
      go false f is fin may = is
      go true true is fin may = cc
      go true false is fin may = absurd (both_ways w.ended (sym fin) (x.acked is))

  finished_on : (id : ℕ) → P (after_finish s id)
  finished_on id = by_finish P (settles_kept k t) s id (λ h e ready q. (q.0, unended (is_none h.reset) true h.end_acked (is_fully_acked h.buffer) (no_end (done id) h (holds id h e) ready), q.2, q.3)) i.1

  -- a reset
  abbrev Q : (ℕ → Wrote) → StreamsState → Type 0
  Q more v = Settles k (telling n (is_reset more) v) v

  put_reset : (id code : ℕ) (h : SendHalf) → sending_half s id ≡ Some h → Q (done_on id (with_reset code) done) (put_queued s id (requeued_at h.place false s.sending.queue id (reset_now h)))
  put_reset id code h is =
      let u : Tells = telling n (is_reset (done_on id (with_reset code) done)) s in
      let here : is_reset (done_on id (with_reset code) done) id ≡ true = ap (λ (w : Wrote). is_some w.reset) (done_here id (with_reset code) done) in
      let x = half_settles k t s id h is i.1 in
      let now : HalfSettles k u id (reset_now h) = (x.0, refl, sym here, λ none. absurd (some_none _ none)) in
      record {
        shape = sends_with s id h (requeued_at h.place false s.sending.queue id (reset_now h)) is i.1.shape;
        first = λ j. tt;
        each = each_with s.side s.sending.halves id (requeued_at h.place false s.sending.queue id (reset_now h)).half (UnusedSettles k t) (UnusedSettles k u) (HalfSettles k t) (HalfSettles k u) (DoneSettles t) (DoneSettles u) i.1.shape.sending.runs
            (requeued_settles k u h.place false s.sending.queue id (reset_now h) now)
            (λ j o used ne y. one_follows k k t u (knows_same k) j refl (ap (λ (w : Wrote). is_some w.reset) (done_apart id (with_reset code) done j ne)) o used y)
            i.1.each;
      }
    where
      some_none : (x : ℕ) → Some x ≡ None → ⊥
      some_none x e = cc

  reset_on : (p : Retransmits) (id code : ℕ) → Q (wrote_reset_by (reset_answer s id) id code done) (after_reset s p id code).state
  reset_on p id code = go (sending_half s id) refl
    where
      on : (h : SendHalf) → sending_half s id ≡ Some h → (b : Bool)
          → Q (wrote_reset_by (if b then Err update_errors.ClosedStream else Ok tt) id code done) (if b then s else put_queued s id (requeued_at h.place false s.sending.queue id (reset_now h)))
      on h e true = i.1
      on h e false = put_reset id code h e

      both : (b : Bool) (x y : Streams) → (if b then x else y).state ≡ (if b then x.state else y.state)
      both true x y = refl
      both false x y = refl

      go : (o : Option SendHalf) → sending_half s id ≡ o → Q (wrote_reset_by (if is_reset_at o then Err update_errors.ClosedStream else Ok tt) id code done) (reset_at o s p id code).state
      go None e = i.1
      go (Some h) e = subst (Q (wrote_reset_by (if is_some h.reset then Err update_errors.ClosedStream else Ok tt) id code done)) (sym (both (is_some h.reset) _ _)) (on h e (is_some h.reset))

  -- a call leaves what was reset
  write_resets : (b : Bool) (id : ℕ) (bytes : List ℕ) (q : ℕ) → is_reset (wrote_by (write_answer b s id (length bytes)) id bytes done) q ≡ is_reset done q
  write_resets b id bytes q = go (write_answer b s id (length bytes))
    where
      go : (r : Result ℕ WriteError) → is_reset (wrote_by r id bytes done) q ≡ is_reset done q
      go (Ok m) = not_reset id (with_bytes (take m bytes)) done (λ w. refl) q
      go (Err e) = refl

  chunks_resets : (b : Bool) (id : ℕ) (cs : List (List ℕ)) (q : ℕ) → is_reset (wrote_chunks_by (write_chunks_answer b s id cs) id cs done) q ≡ is_reset done q
  chunks_resets b id cs q = go (write_answer b s id (bytes_of cs))
    where
      go : (r : Result ℕ WriteError) → is_reset (wrote_chunks_by (chunks_of r cs) id cs done) q ≡ is_reset done q
      go (Ok m) = not_reset id (with_bytes (take m (concat cs))) done (λ w. refl) q
      go (Err e) = refl

  end_resets : (id q : ℕ) → is_reset (wrote_end_by (finish_answer s id) id done) q ≡ is_reset done q
  end_resets id q = go (finish_answer s id)
    where
      go : (r : Result (Unit {0}) FinishError) → is_reset (wrote_end_by r id done) q ≡ is_reset done q
      go (Ok m) = not_reset id with_end done (λ w. refl) q
      go (Err e) = refl

-- each call of an application keeps it
pub settling_calls : (arrived : ℕ → ℕ → Type 0) (end_arrived : ℕ → Type 0) (k : Known) (n : ℕ → ℕ) → CallWords (Settling arrived end_arrived k n)
settling_calls arrived end_arrived k n =
    let c : CallWords (FinishedHave arrived end_arrived) = calls_of (FinishedHave arrived end_arrived) (finished_words arrived end_arrived) in
    record {
      writes = λ b w s p id bytes i. (c.writes b w s p id bytes i.0, retold_as k n w s (after_write b (write_answer b s id (length bytes)) s p id bytes).state (wrote_by (write_answer b s id (length bytes)) id bytes w) (same_told s (after_write b (write_answer b s id (length bytes)) s p id bytes).state (write_queue b (write_answer b s id (length bytes)) s p id bytes)) (write_resets arrived end_arrived k n w s i b id bytes) (written_on arrived end_arrived k n w s i b p id bytes));
      writes_chunks = λ b w s p id cs i. (c.writes_chunks b w s p id cs i.0, retold_as k n w s (after_write_chunks b (write_chunks_answer b s id cs) s p id cs).state (wrote_chunks_by (write_chunks_answer b s id cs) id cs w) (same_told s (after_write_chunks b (write_chunks_answer b s id cs) s p id cs).state (chunks_queue b (write_chunks_answer b s id cs) s p id cs)) (chunks_resets arrived end_arrived k n w s i b id cs) (chunks_written_on arrived end_arrived k n w s i b p id cs));
      finishes = λ w s id i. (c.finishes w s id i.0, retold_as k n w s (after_finish s id) (wrote_end_by (finish_answer s id) id w) (same_told s (after_finish s id) (finish_queue s id)) (end_resets arrived end_arrived k n w s i id) (finished_on arrived end_arrived k n w s i id));
      resets = λ w s p id code i. (c.resets w s p id code i.0, reset_on arrived end_arrived k n w s i p id code);
      opens = λ b dir w s i. (c.opens b dir w s i.0, retold k n w s (after_open b dir s) (same_told s (after_open b dir s) (open_queue b dir s)) (by_open (Settles k (telling n (is_reset w) s)) (settles_kept k (telling n (is_reset w) s)) b dir s i.1));
      accepts = λ dir w s i. (c.accepts dir w s i.0, retold k n w s (after_accept dir s) (λ q. refl) (by_accept (Settles k (telling n (is_reset w) s)) (settles_kept k (telling n (is_reset w) s)) dir s (λ may. may) i.1));
      sets_priority = λ w s id priority i. (c.sets_priority w s id priority i.0, retold k n w s (after_set_priority s id priority) (same_told s (after_set_priority s id priority) (priority_queue s id priority)) (by_set_priority (Settles k (telling n (is_reset w) s)) (settles_kept k (telling n (is_reset w) s)) s id priority (λ h e q. q) i.1));
      begins = λ w s id ordered i. (c.begins w s id ordered i.0, retold k n w s (after_read_begun s id ordered) (same_told s (after_read_begun s id ordered) (begun_queue s id ordered)) (by_read_begun (Settles k (telling n (is_reset w) s)) (settles_kept k (telling n (is_reset w) s)) s id ordered (λ h e. tt) i.1));
      nexts = λ w told s id most i. (c.nexts w told s id most i.0, retold k n w s (after_next told (next_answer told s id most) s id most) (same_told s (after_next told (next_answer told s id most) s id most) (next_queue told (next_answer told s id most) s id most)) (by_next (Settles k (telling n (is_reset w) s)) (settles_kept k (telling n (is_reset w) s)) told s id most (λ h c e is. tt) i.1));
      finalizes = λ w s p id i. (c.finalizes w s p id i.0, i.1);
      stops = λ w s p id code i. (c.stops w s p id code i.0, retold k n w s (after_stop s p id code).state (same_told s (after_stop s p id code).state (stop_queue s p id code)) (by_stop (Settles k (telling n (is_reset w) s)) (settles_kept k (telling n (is_reset w) s)) s p id code (λ h e. tt) i.1));
      hears_reset = λ w s p id i. (c.hears_reset w s p id i.0, retold k n w s (after_received_reset s p id).state (same_told s (after_received_reset s p id).state (hears_queue s p id)) (by_received_reset (Settles k (telling n (is_reset w) s)) (settles_kept k (telling n (is_reset w) s)) s p id i.1));
    }

-- ---- frames that come

module _ (arrived : ℕ → ℕ → Type 0) (end_arrived : ℕ → Type 0) (k : Known) (n : ℕ → ℕ) (w : ℕ → Wrote) where
  abbrev R : StreamsState → Type 0
  R s = Settles k (telling n (is_reset w) s) s

  frame_settled : (f : FrameValue) (e : End) → OnStreams f → R e.streams → R (take_frame f e).end.streams
  frame_settled (stream f) e on i = let s = e.streams in retold k n w s (after_stream s e.waiting.frames f).state (stream_told s e.waiting.frames f) (by_stream (Settles k (telling n (is_reset w) s)) (settles_kept k (telling n (is_reset w) s)) s e.waiting.frames f (λ h is u. tt) i)
  frame_settled (reset_stream f) e on i = let s = e.streams in retold k n w s (after_reset_frame s e.waiting.frames f).state (reset_told_on s e.waiting.frames f) (by_reset_frame (Settles k (telling n (is_reset w) s)) (settles_kept k (telling n (is_reset w) s)) s e.waiting.frames f (λ h is u. tt) i)
  frame_settled (stop_sending f) e on i = let s = e.streams in retold k n w s (after_stop_sending s f) (stop_sending_told s f) (by_stop_sending (Settles k (telling n (is_reset w) s)) (settles_kept k (telling n (is_reset w) s)) s f (λ h is q. q) i)
  frame_settled (max_data limit) e on i = let s = e.streams in retold k n w s (after_max_data s limit) (λ q. refl) (by_max_data (Settles k (telling n (is_reset w) s)) (settles_kept k (telling n (is_reset w) s)) s limit i)
  frame_settled (max_stream_data f) e on i = let s = e.streams in retold k n w s (after_max_stream_data s f.id f.limit) (max_stream_data_told s f.id f.limit) (by_max_stream_data (Settles k (telling n (is_reset w) s)) (settles_kept k (telling n (is_reset w) s)) s f.id f.limit (λ h is above q. q) i)
  frame_settled (max_streams f) e on i = let s = e.streams in retold k n w s (after_max_streams (dir_named f.one_way) f.count s) (max_streams_told (dir_named f.one_way) f.count s) (by_max_streams (Settles k (telling n (is_reset w) s)) (settles_kept k (telling n (is_reset w) s)) (dir_named f.one_way) f.count s i)
  frame_settled f e on i = absurd on

  -- a frame on streams
  pub settling_frame : (f : FrameValue) (e : End) → OnStreams f → IsSmallLimit f → Settling arrived end_arrived k n w e.streams → Settling arrived end_arrived k n w (take_frame f e).end.streams
  settling_frame f e on small i = (frame_on (FinishedHave arrived end_arrived) (finished_words arrived end_arrived) w f e on small i.0, frame_settled f e on i.1)

  -- a STREAM frame is lost, and RESET_STREAM acknowledged
  pub lost_settled : (s : StreamsState) (m : StreamMeta) → R s → R (after_stream_lost s m)
  lost_settled s m i = retold k n w s (after_stream_lost s m) (same_told s (after_stream_lost s m) (lost_queue s m)) (by_stream_lost (Settles k (telling n (is_reset w) s)) (settles_kept k (telling n (is_reset w) s)) s m (λ h is none q. q) i)

  pub reset_acked_settled : (s : StreamsState) (p : Retransmits) (id : ℕ) → R s → R (after_reset_acked s p id).state
  reset_acked_settled s p id i = retold k n w s (after_reset_acked s p id).state (same_told s (after_reset_acked s p id).state (reset_acked_queue s p id)) (by_reset_acked (Settles k (telling n (is_reset w) s)) (settles_kept k (telling n (is_reset w) s)) s p id i)

-- Of what waits to be sent, calls and frames leave which streams were reset, but for a reset; what
-- a lost datagram carried waits behind it.
use Rattle.std.proofs.Common.{◌≡◌, ℕ, ◌==◌, Bool, true, false, List, [], Option, Some, None, Result, Ok, Err, refl, cond}
use Rattle.std.specs.Option.{is_some}
use Rattle.quic_wire.specs.Value.{StreamValue, ResetStreamValue}
use Rattle.quic_send_buffer.specs.declared.stream_meta.StreamMeta.{StreamMeta}
use Rattle.quic_streams_parts.specs.declared.answers.WriteError.{WriteError}
use Rattle.quic_streams_parts.specs.declared.answers.WriteError.TheVariants as write_errors
use Rattle.quic_streams_parts.specs.declared.answers.Written.{Written}
use Rattle.quic_streams_parts.specs.declared.answers.Breach.{Breach}
use Rattle.quic_streams_parts.specs.declared.answers.ClosedStream.{ClosedStream}
use Rattle.quic_streams_parts.specs.SendHalf.{SendHalf, was_said, is_acked, half_acked}
use Rattle.quic_streams_parts.specs.RecvHalf.{RecvHalf}
use Rattle.quic_retransmits.specs.Retransmits.{Retransmits}
use Rattle.quic_streams_state.specs.declared.state.StreamsState.{StreamsState}
use Rattle.quic_streams_state.specs.State.{Streams, sending_half, receiving_half, room}
use Rattle.quic_streams_state.specs.Limits.{stream_grew, with_stream_if, decided}
use Rattle.quic_streams_state.specs.Writing.{blocked_at, written_by, after_write, after_write_chunks}
use Rattle.quic_streams_state.specs.Reading.{with_stop, stopped_at, after_stop, after_finalize, reset_of, reset_told, after_received_reset}
use Rattle.quic_streams_state.specs.Acked.{sent_half, acked_at, after_stream_acked, reset_acked_at, after_reset_acked}
use Rattle.quic_streams_state.specs.Taking as taking

-- the same resets wait
abbrev pub SameResets : Retransmits → Streams → Type 0
SameResets p t = t.pending.reset_stream ≡ p.reset_stream

-- either way
both : (p : Retransmits) (b : Bool) (x y : Streams) → SameResets p x → SameResets p y → SameResets p (cond b x y)
both p true x y on off = on
both p false x y on off = off

module _ (s : StreamsState) (p : Retransmits) where
  blocked_same : (o : Option SendHalf) (id : ℕ) → SameResets p (blocked_at o s p id)
  blocked_same None id = refl
  blocked_same (Some h) id = both p (room s.sending == 0) _ _ refl (both p (was_said h.said h.limit) _ _ refl refl)

  written_same : (answer : Result ℕ WriteError) (id : ℕ) (bytes : List ℕ) → SameResets p (written_by answer s p id bytes)
  written_same (Ok n) id bytes = refl
  written_same (Err write_errors.Blocked) id bytes = blocked_same (sending_half s id) id
  written_same (Err (write_errors.Stopped code)) id bytes = refl
  written_same (Err write_errors.ClosedStream) id bytes = refl
  written_same (Err write_errors.Memory) id bytes = refl

  pub write_same : (b : Bool) (answer : Result ℕ WriteError) (id : ℕ) (bytes : List ℕ) → SameResets p (after_write b answer s p id bytes)
  write_same true answer id bytes = written_same answer id bytes
  write_same false answer id bytes = refl

  pub write_chunks_same : (b : Bool) (answer : Result Written WriteError) (id : ℕ) (cs : List (List ℕ)) → SameResets p (after_write_chunks b answer s p id cs)
  write_chunks_same true (Ok w) id cs = refl
  write_chunks_same true (Err e) id cs = written_same (Err e) id []
  write_chunks_same false answer id cs = refl

  pub stop_same : (id code : ℕ) → SameResets p (after_stop s p id code)
  stop_same id code = go (receiving_half s id)
    where
      with_same : (o : Option ℕ) → (decided s (with_stop o id code p)).reset_stream ≡ p.reset_stream
      with_same (Some reset) = refl
      with_same None = refl

      go : (o : Option RecvHalf) → SameResets p (stopped_at o s p id code)
      go None = refl
      go (Some h) = both p h.stopped _ _ refl (with_same h.reset)

  pub finalize_same : (id : ℕ) → SameResets p (after_finalize s p id)
  finalize_same id = go (stream_grew s id)
    where
      go : (b : Bool) → (with_stream_if b id (decided s p)).reset_stream ≡ p.reset_stream
      go true = refl
      go false = refl

  pub received_reset_same : (id : ℕ) → SameResets p (after_received_reset s p id)
  received_reset_same id = go (reset_of (receiving_half s id))
    where
      go : (r : Result (Option ℕ) ClosedStream) → SameResets p (reset_told r s p id)
      go (Ok (Some code)) = refl
      go (Ok None) = refl
      go (Err e) = refl

  pub stream_same : (f : StreamValue) → SameResets p (taking.after_stream s p f)
  stream_same f = go (taking.refusal s f.id _ f.fin)
    where
      at : (o : Option RecvHalf) → SameResets p (taking.stream_at o s p f)
      at None = refl
      at (Some h) = refl

      go : (o : Option Breach) → SameResets p (taking.stream_unless o s p f)
      go (Some b) = refl
      go None = at (taking.part_for s f.id)

  pub reset_same : (f : ResetStreamValue) → SameResets p (taking.after_reset_frame s p f)
  reset_same f = go (taking.reset_breach s f)
    where
      at : (o : Option RecvHalf) → SameResets p (taking.reset_at o s p f)
      at None = refl
      at (Some h) = refl

      go : (o : Option Breach) → SameResets p (taking.reset_unless o s p f)
      go (Some b) = refl
      go None = at (taking.part_for s f.id)

  pub stream_acked_same : (m : StreamMeta) → SameResets p (after_stream_acked s p m)
  stream_acked_same m = go (sent_half s m.id)
    where
      go : (o : Option SendHalf) → SameResets p (acked_at o s p m)
      go None = refl
      go (Some h) = both p (is_some h.reset) _ _ refl (both p (is_acked (half_acked h m)) _ _ refl refl)

  pub reset_acked_same : (id : ℕ) → SameResets p (after_reset_acked s p id)
  reset_acked_same id = go (sent_half s id)
    where
      go : (o : Option SendHalf) → SameResets p (reset_acked_at o s p id)
      go None = refl
      go (Some h) = both p (is_some h.reset) _ _ refl refl

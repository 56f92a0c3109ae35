-- All streams hold what was written on them: at the start, and after each call and frame.
use Rattle.std.proofs.Common.{◌≡◌, ℕ, ◌^◌, ◌<◌, length, Bool, true, List, Some}
use Rattle.std.specs.Prelude.{◌&&◌, ℤ}
use Rattle.quic_wire_core.specs.declared.stream_id.Side.{Side}
use Rattle.quic_parameters.specs.Parameters.{ParameterValues}
use Rattle.quic_wire.specs.Value.{StopSendingValue}
use Rattle.quic_send_buffer.specs.declared.stream_meta.StreamMeta.{StreamMeta}
use Rattle.quic_streams_parts.specs.Table.{at}
use Rattle.quic_streams_parts.specs.SendHalf.{SendHalf}
use Rattle.quic_streams_halves.specs.Halves.{has_place}
use Rattle.quic_retransmits.specs.Retransmits.{Retransmits}
use Rattle.quic_streams_state.specs.declared.state.StreamsState.{StreamsState}
use Rattle.quic_streams_state.specs.State.{new_streams, after_set_params, is_opened, sends_on, sending_half}
use Rattle.quic_streams_state.specs.Taking.{after_stop_sending, after_max_stream_data}
use Rattle.quic_streams_state.specs.Writing.{write_answer, after_write, write_chunks_answer, after_write_chunks, finish_answer, after_finish, reset_answer, after_reset, after_set_priority}
use Rattle.quic_streams_state.specs.Acked.{after_stream_lost, after_stream_acked}
use Rattle.quic_streams_state.specs.Frames.{Sent, with_stream_frames}
use Rattle.quic_streams_laws.specs.Keeping.{KeepsBy}
use Rattle.quic_streams_laws.specs.KeepingLaws.{keeps_same, keeps_fewer, live_sends, by_set_priority, by_stop_sending, by_max_stream_data, by_stream_lost, by_stream_acked, by_stream_frames}
use Rattle.quic_streams_laws.specs.EachLaws.{status_half, half_status, half_follows}
use Rattle.quic_streams_laws.specs.Written.{Wrote, HasSmallLimits, IsOver, IsSendHalf, HoldsWritten, nothing_done, wrote_by, wrote_chunks_by, wrote_end_by, wrote_reset_by}
use Rattle.quic_streams_laws.specs.WrittenHalves.{prioritized_holds, stopped_holds, limited_holds, polled_holds, acked_holds, lost_holds}
use Rattle.quic_streams_laws.specs.WroteLaws.{GoesAlong, HoldsWith, ended_over, with_kept, with_half, with_same, with_new, with_set_params, with_write, with_write_chunks, with_finish, with_reset_call}

-- ---- by the place of each half

-- nothing further
along : GoesAlong (λ id h. Unit {0}) (λ id w. IsOver w)
along = record { fresh = λ id limit. tt; blocked = λ id h b x. tt; noted = λ id h said x. tt; placed = λ id h p x. tt; grown = λ id h bytes x. tt; ended = λ id h x. tt; reset = λ id h x. tt; over = λ w id h i x ended. ended_over w h i ended }

abbrev Each : (ℕ → Wrote) → StreamsState → Type 0
Each wrote s = HoldsWith (λ id h. Unit {0}) (λ id w. IsOver w) wrote s

to_each : (wrote : ℕ → Wrote) (s : StreamsState) → HoldsWritten wrote s → Each wrote s
to_each wrote s i = record {
  shape = i.shape;
  first = i.first;
  each = λ id. half_follows (λ x. x) (λ h x. (x, tt)) (λ x. x) (at s.sending.halves.live id) (has_place s.side s.sending.halves.places id)
      (status_half (wrote id ≡ nothing_done) (λ h. IsSendHalf (wrote id) h) (IsOver (wrote id)) (at s.sending.halves.live id) (sends_on s.side id && is_opened s id) (has_place s.side s.sending.halves.places id) (i.shape.sending.allowed id) (i.each id));
}

-- it is said of halves by their place, with nothing further
pub holds_each : (wrote : ℕ → Wrote) (s : StreamsState) → Each wrote s → HoldsWritten wrote s
holds_each wrote s i = record {
  shape = i.shape;
  first = i.first;
  each = λ id. half_status (wrote id ≡ nothing_done) (λ h. IsSendHalf (wrote id) h) (IsOver (wrote id)) (at s.sending.halves.live id) (sends_on s.side id && is_opened s id) (has_place s.side s.sending.halves.places id) (i.shape.sending.allowed id)
      (half_follows {N = wrote id ≡ nothing_done} {N' = wrote id ≡ nothing_done} {Q = λ h. IsSendHalf (wrote id) h × Unit {0}} {Q' = λ h. IsSendHalf (wrote id) h} {D = IsOver (wrote id)} {D' = IsOver (wrote id)} (λ x. x) (λ h x. x.0) (λ x. x) (at s.sending.halves.live id) (has_place s.side s.sending.halves.places id) (i.each id));
}

-- ---- what changes nothing of what was written

-- each word keeps it that changes halves only so that they hold what they held
pub holds_kept : (wrote : ℕ → Wrote) → KeepsBy (λ r id old new. Unit {0}) (λ s id old new. IsSendHalf (wrote id) old → IsSendHalf (wrote id) new) (λ s id n old new. IsSendHalf (wrote id) old → IsSendHalf (wrote id) new) (HoldsWritten wrote)
holds_kept wrote = keeps_same (holds_each wrote) (to_each wrote) (keeps_fewer (λ r id old new on. on) (λ s id old new on x. (on x.0, tt)) (λ s id n old new on x. (on x.0, tt)) (with_kept (λ id h. Unit {0}) (λ id w. IsOver w) along wrote))

module _ (wrote : ℕ → Wrote) (s : StreamsState) (i : HoldsWritten wrote s) where
  -- what a half holds on which something may be done
  pub half_holds : (id : ℕ) (h : SendHalf) → sending_half s id ≡ Some h → IsSendHalf (wrote id) h
  half_holds id h e = (with_half (λ id h. Unit {0}) (λ id w. IsOver w) along wrote s id h e (to_each wrote s i)).0

  -- and one that is in use
  pub live_holds : (id : ℕ) (h : SendHalf) → at s.sending.halves.live id ≡ Some h → IsSendHalf (wrote id) h
  live_holds id h e = half_holds id h (live_sends s id h e)

  pub holds_set_priority : (id : ℕ) (priority : ℤ) → HoldsWritten wrote (after_set_priority s id priority)
  holds_set_priority id priority = by_set_priority (HoldsWritten wrote) (holds_kept wrote) s id priority (λ h e x. prioritized_holds (wrote id) h x priority) i

  pub holds_stop_sending : (f : StopSendingValue) → HoldsWritten wrote (after_stop_sending s f)
  holds_stop_sending f = by_stop_sending (HoldsWritten wrote) (holds_kept wrote) s f (λ h e x. stopped_holds (wrote f.id) h x f.code) i

  -- a limit that a frame may tell (RFC 9000, section 16)
  pub holds_max_stream_data : (id limit : ℕ) → limit < 2 ^ 62 → HoldsWritten wrote (after_max_stream_data s id limit)
  holds_max_stream_data id limit small = by_max_stream_data (HoldsWritten wrote) (holds_kept wrote) s id limit (λ h e above x. limited_holds (wrote id) h x limit above small) i

  -- a frame that had the end only where there is one
  pub holds_stream_lost : (m : StreamMeta) → (m.fin ≡ true → (wrote m.id).ended ≡ true) → HoldsWritten wrote (after_stream_lost s m)
  holds_stream_lost m last = by_stream_lost (HoldsWritten wrote) (holds_kept wrote) s m (λ h e none x. lost_holds (wrote m.id) h x m none last) i

  pub holds_stream_acked : (p : Retransmits) (m : StreamMeta) → (m.fin ≡ true → (wrote m.id).ended ≡ true) → HoldsWritten wrote (after_stream_acked s p m).state
  holds_stream_acked p m last = by_stream_acked (HoldsWritten wrote) (holds_kept wrote) s p m (λ h e none x. acked_holds (wrote m.id) h x m last) (λ h e none all. tt) i

pub holds_stream_frames : (wrote : ℕ → Wrote) (fair : Bool) (most : ℕ) (d : Sent) → HoldsWritten wrote d.state → HoldsWritten wrote (with_stream_frames fair most d).state
holds_stream_frames wrote fair most d i = by_stream_frames (HoldsWritten wrote) (holds_kept wrote) fair most d (λ s id room h e j x. polled_holds (wrote id) h x room) i

-- ---- what is done

-- where the same was done
pub holds_same : (wrote more : ℕ → Wrote) (s : StreamsState) → ((q : ℕ) → more q ≡ wrote q) → HoldsWritten wrote s → HoldsWritten more s
holds_same wrote more s same i = holds_each more s (with_same (λ id h. Unit {0}) (λ id w. IsOver w) along wrote more s same (to_each wrote s i))

module _ (wrote : ℕ → Wrote) (s : StreamsState) (i : HoldsWritten wrote s) where
  -- a write: the bytes that were accepted go behind those before
  pub holds_write : (is_open : Bool) (p : Retransmits) (id : ℕ) (bytes : List ℕ) → HoldsWritten (wrote_by (write_answer is_open s id (length bytes)) id bytes wrote) (after_write is_open (write_answer is_open s id (length bytes)) s p id bytes).state
  holds_write is_open p id bytes = holds_each _ _ (with_write (λ id h. Unit {0}) (λ id w. IsOver w) along wrote s (to_each wrote s i) is_open p id bytes)

  -- a write of several buffers
  pub holds_write_chunks : (is_open : Bool) (p : Retransmits) (id : ℕ) (cs : List (List ℕ)) → HoldsWritten (wrote_chunks_by (write_chunks_answer is_open s id cs) id cs wrote) (after_write_chunks is_open (write_chunks_answer is_open s id cs) s p id cs).state
  holds_write_chunks is_open p id cs = holds_each _ _ (with_write_chunks (λ id h. Unit {0}) (λ id w. IsOver w) along wrote s (to_each wrote s i) is_open p id cs)

  -- a finish
  pub holds_finish : (id : ℕ) → HoldsWritten (wrote_end_by (finish_answer s id) id wrote) (after_finish s id)
  holds_finish id = holds_each _ _ (with_finish (λ id h. Unit {0}) (λ id w. IsOver w) along wrote s (to_each wrote s i) id)

  -- a reset
  pub holds_reset : (p : Retransmits) (id code : ℕ) → HoldsWritten (wrote_reset_by (reset_answer s id) id code wrote) (after_reset s p id code).state
  holds_reset p id code = holds_each _ _ (with_reset_call (λ id h. Unit {0}) (λ id w. IsOver w) along wrote s (to_each wrote s i) p id code)

-- ---- the start

-- nothing is written
pub holds_new : (side : Side) (uni bi send_window window stream_window : ℕ) → HoldsWritten (λ id. nothing_done) (new_streams side uni bi send_window window stream_window)
holds_new side uni bi send_window window stream_window = holds_each _ _ (with_new (λ id h. Unit {0}) (λ id w. IsOver w) side uni bi send_window window stream_window)

-- the peer's first limits are below 2^62 (RFC 9000, section 18)
pub holds_set_params : (wrote : ℕ → Wrote) (s : StreamsState) (p : ParameterValues) → HasSmallLimits p → HoldsWritten wrote s → HoldsWritten wrote (after_set_params s p)
holds_set_params wrote s p small i = holds_each _ _ (with_set_params (λ id h. Unit {0}) (λ id w. IsOver w) wrote s p small (to_each wrote s i))

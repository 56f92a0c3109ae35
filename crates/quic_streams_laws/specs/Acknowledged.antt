-- What was acknowledged of what was sent on streams arrived, and of a stream that was finished all
-- of it (RFC 9000, sections 3.1 and 13.3).
use Rattle.std.specs.Prelude.{◌≡◌, ℕ, ◌<◌, ◌≤◌, ◌^◌, ◌⊎◌, true, length}
use Rattle.std.specs.Option.{IsSome}
use Rattle.quic_sets.specs.Runs.{Has}
use Rattle.quic_send_buffer.specs.declared.stream_meta.StreamMeta.{StreamMeta}
use Rattle.quic_streams_parts.specs.SendHalf.{SendHalf}
use Rattle.quic_streams_halves.specs.Halves.{Status}
use Rattle.quic_streams_state.specs.declared.state.StreamsState.{StreamsState}
use Rattle.quic_streams_state.specs.State.{sending_status, first_limit}
use Rattle.quic_streams_laws.specs.Keeping.{finishes_in}
use Rattle.quic_streams_laws.specs.Shape.{IsShaped}
use Rattle.quic_streams_laws.specs.Each.{StatusIs}
use Rattle.quic_streams_laws.specs.Written.{Wrote, nothing_done, IsSendHalf}

-- what was acknowledged of a half arrived: its offsets, and its end
pub record HalfArrived (arrived : ℕ → Type 0) (end_arrived : Type 0) (h : SendHalf) : Type 0 where
  pub bytes : (o : ℕ) → Has h.buffer.acked o → arrived o
  pub end : h.end_acked ≡ true → end_arrived

-- all of a stream that was finished arrived, its end too
pub record AllArrived (arrived : ℕ → Type 0) (end_arrived : Type 0) (w : Wrote) : Type 0 where
  pub ended : w.ended ≡ true
  pub bytes : (o : ℕ) → o < length w.bytes → arrived o
  pub end : end_arrived

-- where nothing is left to do on a stream, all of it arrived, or it was reset
abbrev pub IsSettled : (ℕ → Type 0) → Type 0 → Wrote → Type 0
IsSettled arrived end_arrived w = AllArrived arrived end_arrived w ⊎ IsSome w.reset

-- the same by how far a half has come
abbrev pub IsAckedStatus : (ℕ → Type 0) → Type 0 → Wrote → Status SendHalf → Type 0
IsAckedStatus arrived end_arrived w status = StatusIs (w ≡ nothing_done) (λ h. IsSendHalf w h × HalfArrived arrived end_arrived h) (IsSettled arrived end_arrived w) status

-- all streams hold what was written on them, and what was acknowledged of them arrived: `arrived id
-- o` says so of an offset of a stream, `end_arrived id` of its end
pub record AckedHave (arrived : ℕ → ℕ → Type 0) (end_arrived : ℕ → Type 0) (wrote : ℕ → Wrote) (s : StreamsState) : Type 0 where
  pub shape : IsShaped s
  pub first : (id : ℕ) → first_limit s id < 2 ^ 62
  pub each : (id : ℕ) → IsAckedStatus (arrived id) (end_arrived id) (wrote id) (sending_status s id)

-- what a frame brought arrived: its offsets, and the end, which it had only where there is one
pub record MetaArrived (arrived : ℕ → ℕ → Type 0) (end_arrived : ℕ → Type 0) (wrote : ℕ → Wrote) (m : StreamMeta) : Type 0 where
  pub bytes : (o : ℕ) → m.offsets.start ≤ o → o < m.offsets.end → arrived m.id o
  pub end : m.fin ≡ true → end_arrived m.id
  pub ended : m.fin ≡ true → (wrote m.id).ended ≡ true

-- and of each stream that is to be told finished all arrived
pub record FinishedHave (arrived : ℕ → ℕ → Type 0) (end_arrived : ℕ → Type 0) (wrote : ℕ → Wrote) (s : StreamsState) : Type 0 where
  pub acked : AckedHave arrived end_arrived wrote s
  pub told : (id : ℕ) → 0 < finishes_in id s.events.queue → AllArrived (arrived id) (end_arrived id) (wrote id)

-- What all streams of one end sum up to, those too whose halves are done: what was written, what
-- was seen, and what was consumed (RFC 9000, section 4.1).
use Rattle.std.specs.Prelude.{◌≡◌, ℕ, zero, suc, ◌+◌, ◌≤◌, Bool, true, false, Option, Some, None}
use Rattle.quic_wire_core.specs.declared.stream_id.Side.{Side}
use Rattle.quic_streams_parts.specs.Table.{at}
use Rattle.quic_streams_parts.specs.SendHalf.{written_on}
use Rattle.quic_streams_parts.specs.RecvHalf.{credit}
use Rattle.quic_streams_halves.specs.Halves.{Halves, has_place}
use Rattle.quic_streams_state.specs.declared.state.StreamsState.{StreamsState}
use Rattle.quic_streams_state.specs.State.{seen, consumed}
use Rattle.quic_streams_laws.specs.Shape.{IsShaped}
use Rattle.quic_streams_laws.specs.Few.{AreFew}
use Rattle.quic_streams_laws.specs.Limited.{IsLimited}

-- a sum over the ids below a bound
unfoldable pub sum_below : ℕ → (ℕ → ℕ) → ℕ
sum_below zero f = 0
sum_below (suc n) f = f n + sum_below n f

-- what a half comes to: what is said of it while it is in use, what it came to at last where it is
-- done, and nothing where it was never in use
abbrev pub amount_of : {A : Type 0} → (A → ℕ) → ℕ → Option A → Bool → ℕ
amount_of f final (Some a) used = f a
amount_of f final None true = final
amount_of f final None false = 0

-- the same of the half of a stream, where each that is done came to its final amount
abbrev pub on_stream : {A : Type 0} → (A → ℕ) → (ℕ → ℕ) → Side → Halves A → ℕ → ℕ
on_stream f final side h id = amount_of f (final id) (at h.live id) (has_place side h.places id)

-- what was written on a stream
abbrev pub written_in : (ℕ → ℕ) → StreamsState → ℕ → ℕ
written_in final s id = on_stream written_on final s.side s.sending.halves id

-- what was seen of a stream
abbrev pub seen_in : (ℕ → ℕ) → StreamsState → ℕ → ℕ
seen_in final s id = on_stream (λ h. h.seen) final s.side s.receiving.halves id

-- what was consumed of a stream: of a half that is done, all of it
abbrev pub consumed_in : (ℕ → ℕ) → StreamsState → ℕ → ℕ
consumed_in final s id = on_stream credit final s.side s.receiving.halves id

-- what was accepted is the sum of what was written on each stream, no less on any than at first
pub record IsWritten (n : ℕ) (first : ℕ → ℕ) (s : StreamsState) : Type 0 where
  pub shape : IsShaped s
  pub few : AreFew s
  pub final : ℕ → ℕ
  pub accepted : s.sending.accepted ≡ sum_below n (written_in final s)
  pub more : (id : ℕ) → first id ≤ written_in final s id

-- what was seen, and what was consumed, are sums of what was seen and consumed of each stream, no
-- less of any than at first
pub record IsSeen (n : ℕ) (first_seen first_consumed : ℕ → ℕ) (s : StreamsState) : Type 0 where
  pub limits : IsLimited s
  pub few : AreFew s
  pub final : ℕ → ℕ
  pub seen : seen s.receiving ≡ sum_below n (seen_in final s)
  pub consumed : consumed s.receiving ≡ sum_below n (consumed_in final s)
  pub more_seen : (id : ℕ) → first_seen id ≤ seen_in final s id
  pub more_consumed : (id : ℕ) → first_consumed id ≤ consumed_in final s id

-- How many bytes the datagrams of an end have (RFC 9000, section 14; RFC 8899): no ordinary one
-- more than the current size, nor while a PTO probe waits more than the least size; a probe exactly
-- the size that is looked for; and how the current size moves.
use Rattle.std.specs.Prelude.{ℕ, suc, true, ◌<◌, ◌≤◌, ◌≡◌, ◌⊎◌, List, ◌∷◌, replicate, slice_get, Some}
use Rattle.quic_wire_core.specs.declared.stream_id.Side.{Side}
use Rattle.quic_wire.specs.Value.{ping, padding}
use Rattle.quic_congestion.specs.Congestion as congestion
use Rattle.quic_machine.specs.declared.answers.State.TheVariants as states
use Rattle.quic_machine.specs.declared.run.View.{View}
use Rattle.quic_machine.specs.Machine.{World, end_at}
use Rattle.quic_headline.specs.Runs.{Run, In, state_in, AreServed}
use Rattle.quic_headline.specs.Observer.{Sent, asks_of, watch, acked_until}
use Rattle.quic_headline.specs.Polls.{flying, mtu_in, seen_at, search_at, GaveOne, IsHistory, IsSizeProbe}

-- a datagram that an end gives has as many bytes as the answer says: at most the current size, as
-- it is seen before, or it is a probe of a size; and one that asks for an acknowledgement while a
-- PTO probe waits has no more than the least size that is configured for its path, which the path is
-- taken to carry whatever was lost on it, so that a probe arrives where the path carries less than
-- it did (RFC 8899, section 4.3; RFC 9000, section 14.3; RFC 9002, section 6.2.4)
abbrev pub DatagramsAreSized : Run → Type 0
DatagramsAreSized r = (side : Side) (i now : ℕ) (gave : GaveOne r side i now)
    → (gave.transmit.size ≡ gave.sent.size) × ((gave.sent.size ≤ (seen_at r side i).current_mtu) ⊎ IsSizeProbe r side i gave.sent) × (asks_of gave.sent ≡ true → 0 < (watch r side i).flight.probes → gave.sent.size ≤ (end_at side r.start).transport.min_mtu)

-- the size that a view shows is the last that the controller of its end was told of, or that with
-- which the path began: so it is told each that changed
abbrev pub SizeIsOfHistory : Run → Type 0
SizeIsOfHistory r = (side : Side) (i : ℕ) (v : View) → AreServed r (suc i) → slice_get r.views i ≡ Some v
    → (w : World) × (told : List congestion.Told) × IsHistory r side (suc i) w told × (mtu_in v side ≡ congestion.last_size (search_at side r.start).size told)

-- A datagram of PING and zeros alone that had so many bytes was in flight before an answer, and is
-- acknowledged behind it.
pub record WasProbed (r : Run) (side : Side) (i size : ℕ) : Type 0 where
  pub sent : Sent
  pub flew : In sent (flying r side i)
  pub came : In sent (acked_until r side (suc i))
  pub zeros : ℕ
  pub alone : sent.frames ≡ ping ∷ replicate zeros padding
  pub sized : sent.size ≡ size

-- from one view of an open end to the next, the size stays, grows to that of such a datagram, or
-- falls to the least that is configured for its path (RFC 8899, section 4.3)
abbrev pub SizesMove : Run → Type 0
SizesMove r = (side : Side) (i : ℕ) (before v : View) → AreServed r (suc (suc i)) → slice_get r.views i ≡ Some before → slice_get r.views (suc i) ≡ Some v → state_in before side ≡ states.Open → state_in v side ≡ states.Open
    → (mtu_in v side ≡ mtu_in before side)
    ⊎ (((mtu_in before side < mtu_in v side) × WasProbed r side (suc i) (mtu_in v side)) ⊎ ((mtu_in v side < mtu_in before side) × (mtu_in v side ≡ (end_at side r.start).transport.min_mtu)))

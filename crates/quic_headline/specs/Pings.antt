-- That PING goes where it is wanted (RFC 9000, sections 10.1.2 and 19.2), and IMMEDIATE_ACK with
-- probes of losses (QUIC Acknowledgement Frequency, section 5).
use Rattle.std.specs.Prelude.{ℕ, suc, ◌<◌, ◌≡◌, ◌⊎◌, true, Some}
use Rattle.std.specs.List.{list_any}
use Rattle.quic_wire_core.specs.declared.stream_id.Side.{Side}
use Rattle.quic_machine.specs.declared.run.View.{View}
use Rattle.quic_headline.specs.Runs.{Run, AreServed}
use Rattle.quic_headline.specs.Observer.{watch}
use Rattle.quic_headline.specs.Polls.{GaveAsking, GaveNothing, IsHeldBack, IsLimited}
use Rattle.quic_headline.specs.AcksDue.{is_immediate_ack}
use Rattle.quic_headline.specs.Requests.{asking_at}
use Rattle.quic_headline.specs.Waited.{is_ping, wants}

-- Where PING was asked for since one went, or the time without a packet was over: each datagram
-- that asks for an acknowledgement has it; and where a poll of an open end gives nothing, window or
-- pacer hold it back, or nothing more may go to an address that isn't validated.
pub record PingsGo (r : Run) : Type 0 where
  pub along : (side : Side) (i now : ℕ) (given : GaveAsking r side i now) → (wants r side i).pinged ≡ true → list_any is_ping given.one.sent.frames ≡ true
  pub held : (side : Side) (i now : ℕ) (v : View) → AreServed r (suc i) → GaveNothing r side i now v → (wants r side (suc i)).pinged ≡ true → IsHeldBack r side (suc i) v ⊎ IsLimited r side (suc i) v

-- Where a probe of losses waits (RFC 9002, section 6.2.4), each datagram that asks for an
-- acknowledgement has IMMEDIATE_ACK, if the peer told that it takes it, by min_ack_delay (QUIC
-- Acknowledgement Frequency, section 3): so an acknowledgement of it comes without delay.
abbrev pub ProbesHasten : Run → Type 0
ProbesHasten r = (side : Side) (i now : ℕ) (given : GaveAsking r side i now) → 0 < (watch r side i).flight.probes → (least : ℕ) → (asking_at r side).least ≡ Some least → list_any is_immediate_ack given.one.sent.frames ≡ true

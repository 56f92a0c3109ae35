-- That control frames go: what has to reach the peer by a frame of its own, by the lists, goes in a
-- poll that may give it (RFC 9000, section 13.3; RFC 9002, sections 7 and 7.7).
use Rattle.std.specs.Prelude.{ℕ, suc, ◌-◌, ◌^◌, ◌<◌, ◌≡◌, ◌⊎◌, Bool, true, false, ◌==◌, ◌&&◌, List, length}
use Rattle.std.specs.Option.{IsSome}
use Rattle.std.specs.List.{list_any}
use Rattle.quic_wire_core.specs.declared.stream_id.Side.{Side}
use Rattle.quic_wire_core.specs.StreamId.{other_side}
use Rattle.quic_wire.specs.Value.{FrameValue, stream, reset_stream, retire_connection_id}
use Rattle.quic_machine.specs.declared.run.View.{View}
use Rattle.quic_machine.specs.Start.{AreStarted}
use Rattle.quic_headline.specs.Runs.{Run, Packet, In, AreServed, until, reset, reads, bytes_of, was_said_done}
use Rattle.quic_headline.specs.Observer.{Sent, took}
use Rattle.quic_headline.specs.InFlight.{is_handshake_done}
use Rattle.quic_headline.specs.InUse.{in_use, TellsStays}
use Rattle.quic_headline.specs.Amounts.{stops_stream}
use Rattle.quic_headline.specs.Duties.{Limited, AllData, StreamData, limit_frame}
use Rattle.quic_headline.specs.Grown.{HasGrown}
use Rattle.quic_headline.specs.Unread.{stopped, receive_window, stream_window}
use Rattle.quic_headline.specs.Credit.{resets_stream, all_consumed}
use Rattle.quic_headline.specs.Polls.{flying, GaveNothing, IsHeldBack, IsLimited}

-- ---- which frames

-- whether a frame brings the final size of a stream: its end or its reset (section 4.5)
abbrev pub brings_size : ℕ → FrameValue → Bool
brings_size id (stream f) = (f.id == id) && f.fin
brings_size id (reset_stream f) = f.id == id
brings_size id f = false

-- whether the final size of a stream came
abbrev pub size_came : ℕ → List Packet → Bool
size_came id packets = list_any (λ p. list_any (brings_size id) p.frames) packets

-- whether a frame retires a number
abbrev pub retires_number : ℕ → FrameValue → Bool
retires_number number (retire_connection_id n) = n == number
retires_number number f = false

-- ---- what is to go

-- No datagram of an end's that is in flight has a frame that says something, nor has a packet that
-- the other end took.
pub record IsMissing (r : Run) (side : Side) (i : ℕ) (says : FrameValue → Bool) : Type 0 where
  pub not_flying : list_any (λ (s : Sent). list_any says s.frames) (flying r side i) ≡ false
  pub not_come : list_any (λ (p : Packet). list_any says p.frames) (took r (other_side side) i) ≡ false

-- Where a poll of an open end gives nothing, window or pacer hold back what is to go, or nothing
-- more may go to an address that isn't validated. It is to go where nothing says it that is in
-- flight or came: RESET_STREAM of each stream that the application reset (section 19.4);
-- STOP_SENDING of each that it stopped, while the final size hasn't come (sections 3.5 and 19.5);
-- and HANDSHAKE_DONE where it said that the handshake is done (section 19.20).
pub record ControlGoes (r : Run) : Type 0 where
  pub reset : (side : Side) (i now id : ℕ) (v : View) → AreServed r (suc i) → GaveNothing r side i now v → IsSome (reset id (until r side (suc i))) → IsMissing r side (suc i) (resets_stream id) → IsHeldBack r side (suc i) v ⊎ IsLimited r side (suc i) v
  pub stop : (side : Side) (i now id : ℕ) (v : View) → AreServed r (suc i) → GaveNothing r side i now v → stopped id (until r side (suc i)) ≡ true → size_came id (took r side (suc i)) ≡ false → IsMissing r side (suc i) (stops_stream id)
      → IsHeldBack r side (suc i) v ⊎ IsLimited r side (suc i) v
  pub done : (side : Side) (i now : ℕ) (v : View) → AreServed r (suc i) → GaveNothing r side i now v → was_said_done (until r side (suc i)) ≡ true → IsMissing r side (suc i) is_handshake_done → IsHeldBack r side (suc i) v ⊎ IsLimited r side (suc i) v

-- So it is of RETIRE_CONNECTION_ID of each number below that of the peer's id in use (sections
-- 5.1.2 and 19.16).
abbrev pub RetirementsGo : Run → Type 0
RetirementsGo r = (side : Side) (stays : ℕ → Bool) (i now number : ℕ) (v : View) → TellsStays r side stays → AreServed r (suc i) → GaveNothing r side i now v → number < in_use r stays side (suc i) → IsMissing r side (suc i) (retires_number number)
    → IsHeldBack r side (suc i) v ⊎ IsLimited r side (suc i) v

-- ---- limits

-- A limit is to be said anew: with so much of a window used up it lies an eighth of the window, or
-- one, if that is more, above the one at first, and above each that stands in a datagram in flight,
-- or in a packet that the other end took.
pub record IsToRaise (r : Run) (side : Side) (i : ℕ) (what : Limited) (window used most : ℕ) : Type 0 where
  pub first : HasGrown window used most window
  pub flying : (s : Sent) (limit : ℕ) → In s (flying r side i) → In (limit_frame what limit) s.frames → HasGrown window used most limit
  pub came : (p : Packet) (limit : ℕ) → In p (took r (other_side side) i) → In (limit_frame what limit) p.frames → HasGrown window used most limit

-- So it goes (sections 4.1, 4.2, 19.9 and 19.10), as far as window, pacer and address let it: the
-- limit on all data, of which is used up what was consumed of the streams; and that on the data of
-- a stream which this end didn't stop, and whose final size hasn't come, of which is used up what
-- was read.
pub record LimitsGo (r : Run) : Type 0 where
  pub all : (s : AreStarted r.start) (side : Side) (i now : ℕ) (v : View) → AreServed r (suc i) → GaveNothing r side i now v → IsToRaise r side (suc i) AllData (receive_window r s side) (all_consumed (took r side (suc i)) (until r side (suc i))) (2 ^ 62 - 1)
      → IsHeldBack r side (suc i) v ⊎ IsLimited r side (suc i) v
  pub stream : (s : AreStarted r.start) (side : Side) (i now id : ℕ) (v : View) → AreServed r (suc i) → GaveNothing r side i now v → stopped id (until r side (suc i)) ≡ false → size_came id (took r side (suc i)) ≡ false
      → IsToRaise r side (suc i) (StreamData id) (stream_window r s side) (length (bytes_of (reads id (until r side (suc i))))) (2 ^ 62 - 1)
      → IsHeldBack r side (suc i) v ⊎ IsLimited r side (suc i) v

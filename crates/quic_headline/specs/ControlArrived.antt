-- What else has arrived where an end rests, beside what was written there: the resets of streams,
-- that the peer is to stop sending on one, the retirements of ids, and the limits that it said (RFC
-- 9000, section 13.3).
use Rattle.std.specs.Prelude.{ℕ, ◌<◌, ◌≡◌, ◌⊎◌, Bool, true, List, length, Some}
use Rattle.quic_wire_core.specs.declared.stream_id.Side.{Side}
use Rattle.quic_wire_core.specs.declared.stream_id.Dir.{Dir}
use Rattle.quic_wire_core.specs.StreamId.{other_side}
use Rattle.quic_wire.specs.Value.{ResetStreamValue, reset_stream}
use Rattle.quic_headline.specs.Runs.{Run, Packet, In, AreServed, written, reset, until}
use Rattle.quic_headline.specs.Observer.{took, sents_until}
use Rattle.quic_headline.specs.Amounts.{was_stopped}
use Rattle.quic_headline.specs.InUse.{in_use, TellsStays}
use Rattle.quic_headline.specs.Duties.{AllData, StreamData, StreamCount, limit_frame, WasGiven, LimitHasArrived, WasRetired}
use Rattle.quic_headline.specs.Rest.{Rests, HaveRoom}
use Rattle.quic_headline.specs.Undone.{SizeHasCome}
use Rattle.quic_headline.specs.Unread.{stopped}

-- The reset of a stream arrived with a code and with a final size (sections 4.5 and 19.4).
pub record ResetArrivedAs (packets : List Packet) (id code size : ℕ) : Type 0 where
  pub packet : Packet
  pub was_taken : In packet packets
  pub frame : ResetStreamValue
  pub carried : In (reset_stream frame) packet.frames
  pub of_stream : frame.id ≡ id
  pub with_code : frame.code ≡ code
  pub with_size : frame.final_size ≡ size

-- where an end rests, the reset of each stream that its application reset has arrived, with the
-- code that it gave, and with the number of bytes that it wrote for the final size (section 3.1)
abbrev pub ResetsAtRest : Run → Type 0
ResetsAtRest r = (side : Side) (i id code : ℕ) → AreServed r i → HaveRoom r.start → Rests r side i → reset id (until r side i) ≡ Some code
    → ResetArrivedAs (took r (other_side side) i) id code (length (written id (until r side i)))

-- where an end rests, STOP_SENDING of each stream that its application stopped has arrived, unless
-- the final size of the stream came, with which nothing is left to stop (sections 3.5 and 4.5)
abbrev pub StopsAtRest : Run → Type 0
StopsAtRest r = (side : Side) (i id : ℕ) → AreServed r i → HaveRoom r.start → Rests r side i → stopped id (until r side i) ≡ true
    → (was_stopped id (took r (other_side side) i) ≡ true) ⊎ SizeHasCome (took r side i) id

-- where an end rests, the peer took the retirement of each id of its own whose number lies below
-- that in use (sections 5.1.2 and 19.16)
abbrev pub RetirementsAtRest : Run → Type 0
RetirementsAtRest r = (side : Side) (stays : ℕ → Bool) (i number : ℕ) → TellsStays r side stays → AreServed r i → HaveRoom r.start → Rests r side i → number < in_use r stays side i
    → WasRetired (took r (other_side side) i) number

-- where an end rests, each limit on all data, or on the streams of a direction, that it said has
-- arrived, or a greater one: so the greatest has (sections 4.1 and 4.6)
abbrev pub LimitsAtRest : Run → Type 0
LimitsAtRest r = (side : Side) (i value : ℕ) → AreServed r i → HaveRoom r.start → Rests r side i
    → (WasGiven (sents_until r side i) (limit_frame AllData value) → LimitHasArrived (took r (other_side side) i) AllData value)
    × ((dir : Dir) → WasGiven (sents_until r side i) (limit_frame (StreamCount dir) value) → LimitHasArrived (took r (other_side side) i) (StreamCount dir) value)

-- where an end rests, each limit on the data of a stream that it said has arrived, or a greater
-- one, unless it matters no more: the final size of the stream came, or the application stopped it
-- (sections 4.1 and 13.3)
abbrev pub StreamLimitsAtRest : Run → Type 0
StreamLimitsAtRest r = (side : Side) (i id value : ℕ) → AreServed r i → HaveRoom r.start → Rests r side i → WasGiven (sents_until r side i) (limit_frame (StreamData id) value)
    → LimitHasArrived (took r (other_side side) i) (StreamData id) value ⊎ SizeHasCome (took r side i) id ⊎ (stopped id (until r side i) ≡ true)

-- What closes an end closes it (RFC 9000, section 10; RFC 9001, section 6.6), by the run's lists
-- and the views behind its answers.
use Rattle.std.specs.Prelude.{ℕ, suc, ◌^◌, ◌<◌, ◌≤◌, ◌≡◌, max, if◌then◌else◌, List, [], ◌∷◌, slice_get, Option, Some, None}
use Rattle.quic_wire_core.specs.declared.stream_id.Side.{Side}
use Rattle.quic_wire.specs.Value.{FrameValue}
use Rattle.quic_wire.specs.Close.{CloseValue}
use Rattle.quic_time.specs.declared.timer.Timer.TheVariants.{Idle}
use Rattle.quic_machine.specs.declared.answers.State.TheVariants as states
use Rattle.quic_machine.specs.declared.answers.LostReason.{LostReason}
use Rattle.quic_machine.specs.declared.answers.LostReason.TheVariants as reasons
use Rattle.quic_machine.specs.declared.run.CloseCall.{CloseCall}
use Rattle.quic_machine.specs.declared.run.Call.TheVariants as calls
use Rattle.quic_machine.specs.declared.run.Answer.{Answer}
use Rattle.quic_machine.specs.declared.run.View.{View}
use Rattle.quic_machine.specs.Machine.{policy_at}
use Rattle.quic_headline.specs.Runs.{Run, Packet, In, AreServed, until, state_in, state_at}
use Rattle.quic_headline.specs.Observer.{is_close, took, watch}
use Rattle.quic_headline.specs.Headline.{IsAt}
use Rattle.quic_headline.specs.Polls.{seen_at}
use Rattle.quic_headline.specs.Views.{place}
use Rattle.quic_headline.specs.Causes.{reason_in, unopened}
use Rattle.quic_headline.specs.Closes.{IsToldAs}

-- a view shows that an end is drained, for this reason
pub record IsDrainedFor (v : View) (side : Side) (reason : LostReason) : Type 0 where
  pub drained : state_in v side ≡ states.Drained
  pub why : reason_in v side ≡ Some reason

-- ---- being idle (RFC 9000, section 10.1)

-- an open end that handles a moment is drained for being idle, where the view before shows its idle
-- timer set to no later one than this or the last that it had taken over
abbrev pub IdlesOut : Run → Type 0
IdlesOut r = (side : Side) (i now moment : ℕ) (a : Answer) (v : View) → AreServed r (suc i) → IsAt r i side (calls.Timeout now) a → slice_get r.views i ≡ Some v
    → state_at r side i ≡ states.Open → slice_get (seen_at r side i).timers (place Idle) ≡ Some (Some moment) → moment ≤ max (watch r side i).clock now → IsDrainedFor v side reasons.Idle

-- ---- a close of the peer (section 10.2.2)

-- the first close among frames: what stands behind it isn't read
abbrev pub first_close : List FrameValue → Option FrameValue
first_close [] = None
first_close (f ∷ fs) = if is_close f then Some f else first_close fs

-- a view shows that an end is drained for its peer, which closed as this frame says
pub record IsClosedBy (v : View) (side : Side) (frame : FrameValue) : Type 0 where
  pub close : CloseValue
  pub told_as : IsToldAs frame close
  pub shown : IsDrainedFor v side (reasons.Peer close)

-- an end that took a packet with a close is drained for its peer, which closed so, from there on;
-- by the lists, and not by its answers, that is a packet which came to it while it was open, that
-- was new, and of which no frame was refused
abbrev pub ClosesForPeer : Run → Type 0
ClosesForPeer r = (side : Side) (i : ℕ) (v : View) (packet : Packet) (frame : FrameValue) → AreServed r (suc i) → slice_get r.views i ≡ Some v → In packet (took r side (suc i)) → first_close packet.frames ≡ Some frame → IsClosedBy v side frame

-- ---- a close of the application (section 10.2)

-- where the application closes an end that is open, that closes for it
abbrev pub ClosesForApplication : Run → Type 0
ClosesForApplication r = (side : Side) (i : ℕ) (close : CloseCall) (a : Answer) (v : View) → IsAt r i side (calls.Close close) a → slice_get r.views i ≡ Some v → state_at r side i ≡ states.Open
    → (state_in v side ≡ states.Closing) × (reason_in v side ≡ Some reasons.Application)

-- ---- packets that don't open (RFC 9001, section 6.6)

-- to an end that is open fewer packets came that didn't open than the key of its peer may refuse,
-- where that is a number of 64 bits, and not 0
abbrev pub RefusalsClose : Run → Type 0
RefusalsClose r = (side : Side) (i : ℕ) (v : View) → AreServed r (suc i) → slice_get r.views i ≡ Some v → state_in v side ≡ states.Open
    → 0 < (policy_at side r.keys).openings → (policy_at side r.keys).openings < 2 ^ 64 → unopened (until r side (suc i)) < (policy_at side r.keys).openings

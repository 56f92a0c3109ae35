-- Where calls find no memory, by the run's lists: only where they take some. So no write, finish,
-- reset or priority does on a stream on which the end only receives; no write that takes no byte and
-- isn't blocked; no finish behind a finish, and none, nor a reset, behind a reset; no read or stop
-- where nothing more is to be read, or the end only sends; no message that may not be sent; and no
-- injection.
use Rattle.std.specs.Prelude.{ℕ, ◌≡◌, ◌≢◌, ◌<◌, ◌≤◌, ◌⊎◌, max, true, false, List, length, slice_get, Some, None}
use Rattle.quic_wire_core.specs.declared.stream_id.Side.{Side}
use Rattle.quic_wire_core.specs.StreamId.{other_side}
use Rattle.quic_packet.specs.Datagram.{Opening}
use Rattle.quic_time.specs.declared.timer.Timer.TheVariants.{LossDetection}
use Rattle.quic_machine.specs.declared.answers.State.TheVariants as states
use Rattle.quic_machine.specs.declared.run.Delivery.{Delivery}
use Rattle.quic_machine.specs.declared.run.Call.{Call}
use Rattle.quic_machine.specs.declared.run.Call.TheVariants as calls
use Rattle.quic_machine.specs.declared.run.Answer.{Answer}
use Rattle.quic_machine.specs.Policy.{Policy}
use Rattle.quic_machine.specs.Start.{AreStarted}
use Rattle.quic_machine.specs.Machine.{policy_at}
use Rattle.quic_headline.specs.Runs.{Run, Intake, joined, is_again, opens_by_key, expected_behind, given_of, until, state_at, AreServed, reset}
use Rattle.quic_headline.specs.Observer.{watch}
use Rattle.quic_headline.specs.Headline.{IsAt}
use Rattle.quic_headline.specs.Amounts.{data_left, stream_left, window_left, MayWrite}
use Rattle.quic_headline.specs.Polls.{seen_at}
use Rattle.quic_headline.specs.Views.{place}
use Rattle.quic_headline.specs.Causes.{came_by}
use Rattle.quic_headline.specs.Undone.{IsSentOff}
use Rattle.quic_headline.specs.SendAnswers.{MayTake}
use Rattle.quic_headline.specs.Allowed.{IsReadOff, only_sends, only_receives}
use Rattle.quic_headline.specs.Memory.{lacks}

-- A datagram that the other end gave opens, behind what came before, to a packet that is no
-- duplicate (RFC 9000, section 12.3).
pub record OpensNew (p : Policy) (before : Intake) (given : List (List ℕ)) (delivery : Delivery) : Type 0 where
  pub datagram : List ℕ
  pub there : slice_get given delivery.index ≡ Some datagram
  pub opening : Opening
  pub opened : opens_by_key p (expected_behind before.took) datagram ≡ Some opening
  pub new : is_again opening.number before.opened ≡ false

-- an end's loss timer has come at a moment, or at a later one that it had taken over
pub record LossHasCome (r : Run) (side : Side) (i now : ℕ) : Type 0 where
  pub moment : ℕ
  pub set : slice_get (seen_at r side i).timers (place LossDetection) ≡ Some (Some moment)
  pub come : moment ≤ max (watch r side i).clock now

-- A write of so many bytes may find no memory at an open end, on a stream on which that sends: where
-- it takes a byte, or is blocked, which the end notes. Each stream is blocked where the peer's limit
-- on all data or the send window leaves nothing, and that comes first, whatever else was done on it;
-- and one that may be written, where its own limit leaves nothing (RFC 9000, section 4.1).
pub record WriteTakes (r : Run) (side : Side) (i id count : ℕ) : Type 0 where
  pub opened : state_at r side i ≡ states.Open
  pub sends : only_receives side id ≡ false
  pub takes : (s : AreStarted r.start) → (data_left r s side i ≡ 0) ⊎ (window_left r s side i ≡ 0) ⊎ (MayWrite r side i id × ((0 < count) ⊎ (stream_left r s side i id ≡ 0)))

-- Where a call at an end may find no memory behind the first so many answers: a write as above; a
-- finish, where the stream wasn't finished or reset; a reset, where it wasn't reset; a priority,
-- wherever the end sends on the stream; a read, its chunks and a stop, while something is to be
-- read, where the end doesn't only send on the stream; a message that an open end may take (RFC
-- 9221, sections 3 and 5); the next id; a poll of an end that isn't drained, as it composes a
-- datagram; a timeout at which the loss timer has come, as packets are lost by time; and a delivery
-- of what comes new to an open end. Other calls take none.
abbrev pub TakesMemory : Run → Side → ℕ → Call → Type 0
TakesMemory r side i (calls.Write id bytes) = WriteTakes r side i id (length bytes)
TakesMemory r side i (calls.WriteChunks id buffers) = WriteTakes r side i id (length (joined buffers.items))
TakesMemory r side i (calls.Finish id) = (IsSentOff (until r side i) id → ⊥) × (only_receives side id ≡ false)
TakesMemory r side i (calls.Reset id code) = (reset id (until r side i) ≡ None) × (only_receives side id ≡ false)
TakesMemory r side i (calls.SetPriority id priority) = only_receives side id ≡ false
TakesMemory r side i (calls.Read read) = (IsReadOff (until r side i) read.id → ⊥) × (only_sends side read.id ≡ false)
TakesMemory r side i (calls.Stop id code) = (IsReadOff (until r side i) id → ⊥) × (only_sends side id ≡ false)
TakesMemory r side i (calls.Send message makes_room) = (state_at r side i ≡ states.Open) × MayTake r side i makes_room message
TakesMemory r side i calls.UseNextId = Unit {0}
TakesMemory r side i (calls.Poll now) = state_at r side i ≢ states.Drained
TakesMemory r side i (calls.Timeout now) = (state_at r side i ≡ states.Open) × LossHasCome r side i now
TakesMemory r side i (calls.Deliver delivery) = let p = policy_at side r.keys in let given = given_of r (other_side side) in
    (state_at r side i ≡ states.Open) × OpensNew p (came_by p given (until r side i)) given delivery
TakesMemory r side i call = ⊥

-- a call is answered that memory lacks, or its end fails for that, only there
abbrev pub LacksWhereTaken : Run → Type 0
LacksWhereTaken r = (side : Side) (i : ℕ) (call : Call) (a : Answer) → AreServed r i → IsAt r i side call a → lacks a ≡ true → TakesMemory r side i call
